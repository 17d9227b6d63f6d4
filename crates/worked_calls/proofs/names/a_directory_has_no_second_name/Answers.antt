use Rattle.std.proofs.Common.{refl}
use Rattle.std.specs.Prelude.{codes, None}
use Rattle.vfs_tree.specs.Place.{Mem}
use Rattle.vfs_tree.specs.Views.{facts_of}
use Rattle.vfs_tree.specs.declared.walk.Found.TheVariants as found
use Rattle.vfs_tree.specs.declared.walk.Leaf.TheVariants as leaf
use Rattle.call_model.specs.declared.call.Call.TheVariants as call
use Rattle.worked_calls.specs.Worlds.{with_a, with_f}
use Rattle.worked_calls.proofs.Rules.{rows, by_walks}
use Rattle.worked_calls.proofs.Walks.{a_dir, b_missing, f_file, g_missing}
use Rattle.worked_calls.proofs.names.a_directory_has_no_second_name.Goals as goal

pub returns-clause-directory : goal.returns-clause-directory
returns-clause-directory c =
    by_walks with_a 1 (call.Link (codes "/a") (codes "/b")) leaf.Follow (codes "/a") (found.At (Mem 0 2)) leaf.Parent (codes "/b") (found.In (Mem 0 1) (codes "b") None) _ refl refl
    (a_dir (facts_of with_a) (record { bare = simp rows refl; kind = simp rows refl; dir = simp rows refl }) (simp rows refl) (simp rows refl) (simp rows refl))
    (b_missing (facts_of with_a) (record { bare = simp rows refl; kind = simp rows refl; dir = simp rows refl }) (simp rows refl))
    (simp rows refl)

pub returns-clause-file : goal.returns-clause-file
returns-clause-file c =
    by_walks with_f 1 (call.Link (codes "/f") (codes "/g")) leaf.Follow (codes "/f") (found.At (Mem 0 2)) leaf.Parent (codes "/g") (found.In (Mem 0 1) (codes "g") None) _ refl refl
    (f_file (facts_of with_f) (record { bare = simp rows refl; kind = simp rows refl; dir = simp rows refl }) (simp rows refl) (simp rows refl) (simp rows refl))
    (g_missing (facts_of with_f) (record { bare = simp rows refl; kind = simp rows refl; dir = simp rows refl }) (simp rows refl))
    (simp rows refl)
