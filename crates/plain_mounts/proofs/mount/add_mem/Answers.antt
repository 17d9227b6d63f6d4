use Rattle.std.proofs.Common.{ap, ◌∙◌}
use Rattle.vfs_tree.specs.declared.world.World.{World}
use Rattle.plain_checks.proofs.EditLaws.{numbered_same}
use Rattle.plain_mounts.proofs.AddedLaws.{is_there, numbered_with, world_back}
use Rattle.plain_mounts.proofs.mount.add_mem.Goals as goal

pub put_back-requires : goal.put_back-requires
put_back-requires c = is_there _ _ _ _ (ap (λ (w : World). w.stores) c.in-Err.ensures.err ∙ c.in_ok-before.ensures.ok)

pub returns-in-Ok-clause-kept : goal.returns-in-Ok-clause-kept
returns-in-Ok-clause-kept c =
    numbered_with c.args.world.now _ _ _ (ap (λ (w : World). w.stores) c.in-Ok.ensures.made ∙ c.in_ok-before.ensures.ok) c.in_ok-store.ensures.below c.requires.stores

pub returns-in-Err-clause-err : goal.returns-in-Err-clause-err
returns-in-Err-clause-err c =
    world_back c.args.world.now c.add_mount.new.world _ _ _ _ _ c.in_ok-before.ensures.before c.in_ok-before.ensures.ok c.in-Err.ensures.err c.put_back.ensures

pub returns-in-Err-clause-kept : goal.returns-in-Err-clause-kept
returns-in-Err-clause-kept c =
    numbered_same c.args.world.now _
    (world_back c.args.world.now c.add_mount.new.world _ _ _ _ _ c.in_ok-before.ensures.before c.in_ok-before.ensures.ok c.in-Err.ensures.err c.put_back.ensures)
    c.requires.stores
