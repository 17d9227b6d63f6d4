use Rattle.std.proofs.Common.{refl}
use Rattle.std.specs.Prelude.{codes}
use Rattle.vfs_tree.specs.Place.{Mem}
use Rattle.vfs_tree.specs.Start.{empty_store}
use Rattle.vfs_tree.specs.Views.{facts_of}
use Rattle.vfs_tree.specs.declared.walk.Found.TheVariants as found
use Rattle.vfs_tree.specs.declared.walk.Leaf.TheVariants as leaf
use Rattle.call_model.specs.declared.call.Call.TheVariants as call
use Rattle.worked_calls.specs.Worlds.{with_ab, apart}
use Rattle.worked_calls.proofs.Rules.{rows, by_walks}
use Rattle.worked_calls.proofs.Walks.{a_dir, b_dir, u_mounted, l_dir}
use Rattle.worked_calls.proofs.mounts.a_union_is_mounted_on_its_lower_layer.Goals as goal

pub returns-clause-mount : goal.returns-clause-mount
returns-clause-mount c =
    by_walks (apart empty_store) 1 (call.MountUnion (codes "/u") (codes "/l")) leaf.Follow (codes "/u") (found.At (Mem 1 1)) leaf.Follow (codes "/l") (found.At (Mem 0 2)) _ refl refl
    (u_mounted (facts_of (apart empty_store)) (record { bare = simp rows refl; kind = simp rows refl; dir = simp rows refl }) (simp rows refl) (simp rows refl) (simp rows refl) (simp rows refl) (simp rows refl))
    (l_dir (facts_of (apart empty_store)) (record { bare = simp rows refl; kind = simp rows refl; dir = simp rows refl }) (simp rows refl) (simp rows refl) (simp rows refl))
    (simp rows refl)

pub returns-clause-same : goal.returns-clause-same
returns-clause-same c =
    by_walks with_ab 1 (call.MountUnion (codes "/a") (codes "/b")) leaf.Follow (codes "/a") (found.At (Mem 0 2)) leaf.Follow (codes "/b") (found.At (Mem 0 3)) _ refl refl
    (a_dir (facts_of with_ab) (record { bare = simp rows refl; kind = simp rows refl; dir = simp rows refl }) (simp rows refl) (simp rows refl) (simp rows refl))
    (b_dir (facts_of with_ab) (record { bare = simp rows refl; kind = simp rows refl; dir = simp rows refl }) (simp rows refl) (simp rows refl) (simp rows refl))
    (simp rows refl)
