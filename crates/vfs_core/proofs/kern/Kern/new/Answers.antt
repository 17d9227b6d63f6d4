use Rattle.vfs_core.proofs.KernLaws.{kept-new}
use Rattle.vfs_core.proofs.RoomLaws.{rooms-new}
use Rattle.vfs_core.proofs.kern.Kern.new.Goals as goal

pub invariant_of-result : goal.invariant_of-result
invariant_of-result c = (kept-new c.args.limits _ _ _ c.requires c.in_ok-world.ensures.start c.in_ok-history.ensures.entries c.in_ok-history.ensures.room c.new.ensures, rooms-new _ _ c.new.ensures)
