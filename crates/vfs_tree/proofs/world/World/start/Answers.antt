use Rattle.std.proofs.Common.{subst, sym}
use Rattle.vfs_tree.specs.Nodes.{IsNumbered}
use Rattle.vfs_tree.proofs.StartLaws.{numbered-start}
use Rattle.vfs_tree.proofs.world.World.start.Goals as goal

pub returns-clause-numbered : goal.returns-clause-numbered
returns-clause-numbered c = subst IsNumbered (sym c.in_ok-world.ensures) (numbered-start c.args.limits)
