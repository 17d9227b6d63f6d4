use Rattle.std.proofs.Common.{refl}
use Rattle.std.specs.Prelude.{codes, Some, None}
use Rattle.vfs_tree.specs.Place.{Mem}
use Rattle.vfs_tree.specs.Views.{facts_of}
use Rattle.vfs_tree.specs.declared.walk.Found.TheVariants as found
use Rattle.vfs_tree.specs.declared.walk.Leaf.TheVariants as leaf
use Rattle.call_model.specs.declared.call.Call.TheVariants as call
use Rattle.worked_calls.specs.Worlds.{with_a}
use Rattle.worked_calls.proofs.Rules.{rows, by_walks}
use Rattle.worked_calls.proofs.Walks.{a_named, b_in_a}
use Rattle.worked_calls.proofs.names.a_directory_does_not_go_below_itself.Goals as goal

pub returns : goal.returns
returns c =
    by_walks with_a 1 (call.Rename (codes "/a") (codes "/a/b")) leaf.Parent (codes "/a") (found.In (Mem 0 1) (codes "a") (Some (Mem 0 2))) leaf.Parent (codes "/a/b") (found.In (Mem 0 2) (codes "b") None) _ refl refl
    (a_named (facts_of with_a) (record { bare = simp rows refl; kind = simp rows refl; dir = simp rows refl }) (simp rows refl))
    (b_in_a (facts_of with_a) (record { bare = simp rows refl; kind = simp rows refl; dir = simp rows refl }) (simp rows refl) (simp rows refl) (simp rows refl) (simp rows refl) (simp rows refl) (simp rows refl))
    (simp rows refl)
