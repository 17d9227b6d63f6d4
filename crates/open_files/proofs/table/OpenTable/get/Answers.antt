use Rattle.std.proofs.Common.{◌∙◌}
use Rattle.open_files.proofs.Calls.{get_open}
use Rattle.open_files.proofs.table.OpenTable.get.Goals as goal

pub returns : goal.returns
returns c = c.open_of.ensures ∙ get_open _ _ _ _ _ c.self.invariant.0 c.self.view_is _ _ _ _ c.as_slice.ensures.value c.requires.from c.seat_at.ensures
