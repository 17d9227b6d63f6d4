use Rattle.std.proofs.Common.{refl}
use Rattle.std.specs.Prelude.{codes}
use Rattle.vfs_tree.specs.Place.{Mem}
use Rattle.vfs_tree.specs.Views.{facts_of}
use Rattle.vfs_tree.specs.declared.walk.Found.TheVariants as found
use Rattle.vfs_tree.specs.declared.walk.Leaf.TheVariants as leaf
use Rattle.call_model.specs.declared.call.Call.TheVariants as call
use Rattle.worked_calls.specs.Worlds.{with_ab, mounted}
use Rattle.worked_calls.proofs.Rules.{rows, by_walk}
use Rattle.worked_calls.proofs.Walks.{a_dir, a_mounted, a_mount, root_mount_found}
use Rattle.worked_calls.proofs.mounts.a_memory_file_system_is_mounted.Goals as goal

pub returns-clause-mount : goal.returns-clause-mount
returns-clause-mount c =
    by_walk with_ab 1 (call.MountMem (codes "/a")) leaf.Follow (codes "/a") (found.At (Mem 0 2)) _ refl refl
    (a_dir (facts_of with_ab) (record { bare = simp rows refl; kind = simp rows refl; dir = simp rows refl }) (simp rows refl) (simp rows refl) (simp rows refl))
    (simp rows refl)

pub returns-clause-statfs : goal.returns-clause-statfs
returns-clause-statfs c =
    by_walk mounted 1 (call.Statfs (codes "/a")) leaf.Follow (codes "/a") (found.At (Mem 1 1)) _ refl refl
    (a_mounted (facts_of mounted) (record { bare = simp rows refl; kind = simp rows refl; dir = simp rows refl }) (simp rows refl) (simp rows refl) (simp rows refl) (simp rows refl) (simp rows refl))
    (simp rows refl)

pub returns-clause-umount : goal.returns-clause-umount
returns-clause-umount c =
    by_walk mounted 1 (call.Umount (codes "/a")) leaf.Mount (codes "/a") (found.Mount 1) _ refl refl
    (a_mount (facts_of mounted) (record { bare = simp rows refl; kind = simp rows refl; dir = simp rows refl }) (simp rows refl) (simp rows refl) (simp rows refl) (simp rows refl) (simp rows refl))
    (simp rows refl)

pub returns-clause-root : goal.returns-clause-root
returns-clause-root c =
    by_walk mounted 1 (call.Umount (codes "/")) leaf.Mount (codes "/") (found.Mount 0) _ refl refl
    (root_mount_found (facts_of mounted) (simp rows refl) (simp rows refl))
    (simp rows refl)
