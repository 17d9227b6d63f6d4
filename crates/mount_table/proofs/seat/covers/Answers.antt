use Rattle.std.proofs.Common.{◌∙◌, sym}
use Rattle.std.proofs.Math.Bool.{and-true}
use Rattle.vfs_tree.specs.Layers.{same_place}
use Rattle.mount_table.proofs.seat.covers.Goals as goal

pub returns-in-Some-None : goal.returns-in-Some-None
returns-in-Some-None c =
    rw (c.in-Some-None.is-0, c.in-Some-None.is-1) (c.same.ensures.test ∙ sym (and-true (same_place c.in-Some-None.on c.args.place.now)))
