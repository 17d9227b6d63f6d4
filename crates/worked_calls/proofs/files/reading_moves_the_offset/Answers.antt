use Rattle.std.proofs.Common.{refl}
use Rattle.std.specs.Prelude.{codes}
use Rattle.vfs_tree.specs.Place.{Mem}
use Rattle.vfs_tree.specs.Views.{facts_of}
use Rattle.vfs_tree.specs.declared.walk.Found.TheVariants as found
use Rattle.vfs_tree.specs.declared.walk.Leaf.TheVariants as leaf
use Rattle.call_model.specs.declared.call.Call.TheVariants as call
use Rattle.call_model.specs.declared.call.Access.TheVariants as access
use Rattle.worked_calls.specs.Worlds.{with_f, flags}
use Rattle.worked_calls.proofs.Rules.{rows, by_walk}
use Rattle.worked_calls.proofs.Walks.{f_file}
use Rattle.worked_calls.proofs.files.reading_moves_the_offset.Goals as goal

pub returns-clause-open : goal.returns-clause-open
returns-clause-open c =
    by_walk with_f 1 (call.Open (codes "/f") (flags access.Read)) leaf.Follow (codes "/f") (found.At (Mem 0 2)) _ refl refl
    (f_file (facts_of with_f) (record { bare = simp rows refl; kind = simp rows refl; dir = simp rows refl }) (simp rows refl) (simp rows refl) (simp rows refl))
    (simp rows refl)

pub returns-clause-read : goal.returns-clause-read
returns-clause-read c = simp rows refl

pub returns-clause-closed : goal.returns-clause-closed
returns-clause-closed c = simp rows refl
