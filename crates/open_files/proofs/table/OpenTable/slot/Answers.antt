use Rattle.std.proofs.Common.{◌∙◌}
use Rattle.open_files.proofs.Calls.{get_slot, slot_none, slot_low, slot_own}
use Rattle.open_files.proofs.table.OpenTable.slot.Goals as goal

pub returns-clause-slot : goal.returns-clause-slot
returns-clause-slot c = c.slot_of.ensures ∙ get_slot _ _ _ _ _ c.self.invariant.0 c.self.view_is _ _ _ _ c.as_slice.ensures.value c.requires.from c.seat_at.ensures

pub returns-clause-none : goal.returns-clause-none
returns-clause-none c = rw c.slot_of.ensures (slot_none _ _ _ _ _ c.self.invariant.0 c.self.view_is _ _ _ _ c.as_slice.ensures.value c.requires.from c.seat_at.ensures)

pub returns-clause-below : goal.returns-clause-below
returns-clause-below c = rw c.slot_of.ensures (slot_low _ _ _ _ _ c.self.invariant.0 c.self.view_is _ _ _ _ c.as_slice.ensures.value c.requires.from c.requires.to c.seat_at.ensures)

pub returns-clause-alone : goal.returns-clause-alone
returns-clause-alone c = rw c.slot_of.ensures (slot_own _ _ _ _ _ c.self.invariant.0 c.self.view_is _ _ _ _ c.as_slice.ensures.value c.requires.from c.requires.to c.seat_at.ensures)
