use Rattle.open_files.proofs.Calls.{next_is, next_first, next_none, lawful_keys, few_open}
use Rattle.open_files.proofs.table.OpenTable.next_open.Goals as goal

pub returns-clause-open : goal.returns-clause-open
returns-clause-open c = next_is _ _ _ _ _ c.self.invariant.0 c.self.view_is _ _ _ _ c.as_slice.ensures.value c.requires.from c.next_taken.ensures.within c.next_taken.ensures.taken

pub returns-clause-lower : goal.returns-clause-lower
returns-clause-lower c = next_first _ _ _ _ _ c.self.invariant.0 c.self.view_is _ _ _ _ c.as_slice.ensures.value c.requires.from c.next_taken.ensures.within c.next_taken.ensures.lower

pub returns-clause-none : goal.returns-clause-none
returns-clause-none c = next_none _ _ _ _ _ c.self.invariant.0 c.self.view_is _ _ _ _ c.as_slice.ensures.value c.requires.from c.next_taken.ensures.none

pub returns-clause-lawful : goal.returns-clause-lawful
returns-clause-lawful c = lawful_keys _ _ _ _ _ c.self.invariant.0 c.self.view_is

pub returns-clause-few : goal.returns-clause-few
returns-clause-few c = few_open _ _ _ _ _ c.self.invariant.0 c.self.view_is
