use Rattle.std.proofs.Common.{refl}
use Rattle.std.specs.Prelude.{codes}
use Rattle.vfs_tree.specs.Place.{Mem}
use Rattle.vfs_tree.specs.Views.{facts_of}
use Rattle.vfs_tree.specs.declared.walk.Found.TheVariants as found
use Rattle.vfs_tree.specs.declared.walk.Leaf.TheVariants as leaf
use Rattle.call_model.specs.declared.call.Call.TheVariants as call
use Rattle.worked_calls.specs.Worlds.{all_mounted}
use Rattle.worked_calls.proofs.Rules.{rows, by_walk}
use Rattle.worked_calls.proofs.Walks.{a_dir}
use Rattle.worked_calls.proofs.numbers.no_mount_without_a_number.Goals as goal

pub returns : goal.returns
returns c =
    by_walk all_mounted 1 (call.MountMem (codes "/a")) leaf.Follow (codes "/a") (found.At (Mem 0 2)) _ refl refl
    (a_dir (facts_of all_mounted) (record { bare = simp rows refl; kind = simp rows refl; dir = simp rows refl }) (simp rows refl) (simp rows refl) (simp rows refl))
    (simp rows refl)
