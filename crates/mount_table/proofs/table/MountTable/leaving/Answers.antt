use Rattle.std.proofs.Common.{◌∙◌, ap, sym}
use Rattle.std.specs.Ordering.{nat_cmp}
use Rattle.std.specs.Cmp.{nat_cmp_total}
use Rattle.std.specs.FinMap.{find, get-from_entries}
use Rattle.mount_table.specs.Seats.{leavers}
use Rattle.mount_table.proofs.table.MountTable.leaving.Goals as goal

pub returns : goal.returns
returns c =
    rw (← c.self.view_is) (c.left_by.ensures ∙ (ap (λ seats. find nat_cmp c.args.caller (leavers seats)) c.as_slice.ensures.value ∙ sym (get-from_entries nat_cmp_total (leavers c.self.inside.seats.items) c.args.caller)))
