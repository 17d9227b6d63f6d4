use Rattle.open_files.proofs.Calls.{seated_new, shown_new}
use Rattle.open_files.proofs.table.OpenTable.new.Goals as goal

pub invariant_of-result : goal.invariant_of-result
invariant_of-result c = (seated_new _ _ _ _ c.in_ok-places.ensures c.in_ok-free.ensures.len c.in_ok-free.ensures.once, c.in_ok-free.ensures.room)

pub returns : goal.returns
returns c = shown_new _ _ _ c.in_ok-places.ensures
