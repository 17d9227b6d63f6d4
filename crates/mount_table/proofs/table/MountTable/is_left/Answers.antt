use Rattle.std.proofs.Common.{◌∙◌, ◌==◌, ap, sym}
use Rattle.std.specs.List.{list_any}
use Rattle.mount_table.specs.Seats.{leavers}
use Rattle.mount_table.proofs.Entries.{any_value}
use Rattle.mount_table.proofs.table.MountTable.is_left.Goals as goal

pub returns : goal.returns
returns c =
    rw (← c.self.view_is) (c.is_left.ensures ∙ (ap (λ seats. list_any (λ entry. entry.1 == c.args.number) (leavers seats)) c.as_slice.ensures.value ∙ sym (any_value (λ n. n == c.args.number) (leavers c.self.inside.seats.items) c.self.invariant.callers)))
