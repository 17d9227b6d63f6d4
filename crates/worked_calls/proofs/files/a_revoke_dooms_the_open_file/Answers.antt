use Rattle.std.proofs.Common.{refl}
use Rattle.std.specs.Prelude.{codes}
use Rattle.vfs_tree.specs.Place.{Mem}
use Rattle.vfs_tree.specs.Views.{facts_of}
use Rattle.vfs_tree.specs.declared.walk.Found.TheVariants as found
use Rattle.vfs_tree.specs.declared.walk.Leaf.TheVariants as leaf
use Rattle.call_model.specs.declared.call.Call.TheVariants as call
use Rattle.worked_calls.specs.Worlds.{read_f, dead_f}
use Rattle.worked_calls.proofs.Rules.{rows, by_walk}
use Rattle.worked_calls.proofs.Walks.{f_file}
use Rattle.worked_calls.proofs.files.a_revoke_dooms_the_open_file.Goals as goal

pub returns-clause-doom : goal.returns-clause-doom
returns-clause-doom c =
    by_walk read_f 2 (call.Revoke (codes "/f")) leaf.Follow (codes "/f") (found.At (Mem 0 2)) _ refl refl
    (f_file (facts_of read_f) (record { bare = simp rows refl; kind = simp rows refl; dir = simp rows refl }) (simp rows refl) (simp rows refl) (simp rows refl))
    (simp rows refl)

pub returns-clause-effect : goal.returns-clause-effect
returns-clause-effect c = simp rows refl

pub returns-clause-done : goal.returns-clause-done
returns-clause-done c =
    by_walk dead_f 2 (call.Revoke (codes "/f")) leaf.Follow (codes "/f") (found.At (Mem 0 2)) _ refl refl
    (f_file (facts_of dead_f) (record { bare = simp rows refl; kind = simp rows refl; dir = simp rows refl }) (simp rows refl) (simp rows refl) (simp rows refl))
    (simp rows refl)
