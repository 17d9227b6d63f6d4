use Rattle.std.proofs.Common.{◌∙◌, ap}
use Rattle.std.specs.Cmp.{nat_cmp_total}
use Rattle.std.specs.FinMap.{entries}
use Rattle.vfs_tree.specs.declared.world.World.{World}
use Rattle.plain_effects.proofs.EachLaws.{key_changed, past}
use Rattle.plain_effects.proofs.detach.cut_at.Goals as goal

pub returns-in-Some-clause-mounts : goal.returns-in-Some-clause-mounts
returns-in-Some-clause-mounts c = ap (λ (x : World). entries x.mounts) c.cut_key.ensures ∙ key_changed nat_cmp_total c.args.world.now.mounts _ _ _ c.in-Some.ensures

pub returns-in-None-clause-mounts : goal.returns-in-None-clause-mounts
returns-in-None-clause-mounts c = past nat_cmp_total c.args.world.now.mounts _ _ c.in-None.ensures
