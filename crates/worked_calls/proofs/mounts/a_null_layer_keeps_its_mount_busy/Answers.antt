use Rattle.std.proofs.Common.{refl}
use Rattle.std.specs.Prelude.{codes}
use Rattle.vfs_tree.specs.Place.{Mem}
use Rattle.vfs_tree.specs.Views.{facts_of}
use Rattle.vfs_tree.specs.declared.walk.Found.TheVariants as found
use Rattle.vfs_tree.specs.declared.walk.Leaf.TheVariants as leaf
use Rattle.call_model.specs.declared.call.Call.TheVariants as call
use Rattle.worked_calls.specs.Worlds.{with_ab, mounted, viewed}
use Rattle.worked_calls.proofs.Rules.{rows, by_walk, by_walks}
use Rattle.worked_calls.proofs.Walks.{a_dir, a_mounted, a_mount, b_dir, b_mount}
use Rattle.worked_calls.proofs.mounts.a_null_layer_keeps_its_mount_busy.Goals as goal

pub returns-clause-mount : goal.returns-clause-mount
returns-clause-mount c =
    by_walks mounted 1 (call.MountNull (codes "/a") (codes "/b")) leaf.Follow (codes "/a") (found.At (Mem 1 1)) leaf.Follow (codes "/b") (found.At (Mem 0 3)) _ refl refl
    (a_mounted (facts_of mounted) (record { bare = simp rows refl; kind = simp rows refl; dir = simp rows refl }) (simp rows refl) (simp rows refl) (simp rows refl) (simp rows refl) (simp rows refl))
    (b_dir (facts_of mounted) (record { bare = simp rows refl; kind = simp rows refl; dir = simp rows refl }) (simp rows refl) (simp rows refl) (simp rows refl))
    (simp rows refl)

pub returns-clause-busy : goal.returns-clause-busy
returns-clause-busy c =
    by_walk viewed 1 (call.Umount (codes "/a")) leaf.Mount (codes "/a") (found.Mount 1) _ refl refl
    (a_mount (facts_of viewed) (record { bare = simp rows refl; kind = simp rows refl; dir = simp rows refl }) (simp rows refl) (simp rows refl) (simp rows refl) (simp rows refl) (simp rows refl))
    (simp rows refl)

pub returns-clause-view : goal.returns-clause-view
returns-clause-view c =
    by_walk viewed 1 (call.Umount (codes "/b")) leaf.Mount (codes "/b") (found.Mount 2) _ refl refl
    (b_mount (facts_of viewed) (record { bare = simp rows refl; kind = simp rows refl; dir = simp rows refl }) (simp rows refl) (simp rows refl) (simp rows refl) (simp rows refl) (simp rows refl))
    (simp rows refl)

pub returns-clause-itself : goal.returns-clause-itself
returns-clause-itself c =
    by_walks with_ab 1 (call.MountNull (codes "/a") (codes "/a")) leaf.Follow (codes "/a") (found.At (Mem 0 2)) leaf.Follow (codes "/a") (found.At (Mem 0 2)) _ refl refl
    (a_dir (facts_of with_ab) (record { bare = simp rows refl; kind = simp rows refl; dir = simp rows refl }) (simp rows refl) (simp rows refl) (simp rows refl))
    (a_dir (facts_of with_ab) (record { bare = simp rows refl; kind = simp rows refl; dir = simp rows refl }) (simp rows refl) (simp rows refl) (simp rows refl))
    (simp rows refl)
