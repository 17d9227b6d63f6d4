use Rattle.std.proofs.Common.{refl}
use Rattle.std.specs.Prelude.{codes}
use Rattle.vfs_tree.specs.Place.{Mem, UnionLow}
use Rattle.vfs_tree.specs.Views.{facts_of}
use Rattle.vfs_tree.specs.declared.walk.Found.TheVariants as found
use Rattle.vfs_tree.specs.declared.walk.Leaf.TheVariants as leaf
use Rattle.call_model.specs.declared.call.Call.TheVariants as call
use Rattle.call_model.specs.declared.call.Access.TheVariants as access
use Rattle.worked_calls.specs.Worlds.{flags, layered_full}
use Rattle.worked_calls.proofs.Rules.{rows, by_walk}
use Rattle.worked_calls.proofs.Walks.{d_low, f_low}
use Rattle.worked_calls.proofs.numbers.nothing_is_made_above_without_a_number.Goals as goal

pub returns-clause-shadow : goal.returns-clause-shadow
returns-clause-shadow c =
    by_walk layered_full 1 (call.Stat (codes "/l/d")) leaf.Follow (codes "/l/d") (found.Need (record { mount = 2; dir = 1; name = codes "d" })) _ refl refl
    (d_low (facts_of layered_full) (record { root = record { bare = simp rows refl; kind = simp rows refl; dir = simp rows refl }; entry = simp rows refl; target = simp rows refl; covered = simp rows refl; mount = simp rows refl; bare = simp rows refl; is_dir = simp rows refl; dir = simp rows refl }) (simp rows refl) (simp rows refl) (simp rows refl))
    (simp rows refl)

pub returns-clause-copy : goal.returns-clause-copy
returns-clause-copy c =
    by_walk layered_full 1 (call.Open (codes "/l/f") (flags access.Write)) leaf.Follow (codes "/l/f") (found.At (UnionLow 2 1 (codes "f") (Mem 0 5))) _ refl refl
    (f_low (facts_of layered_full) (record { root = record { bare = simp rows refl; kind = simp rows refl; dir = simp rows refl }; entry = simp rows refl; target = simp rows refl; covered = simp rows refl; mount = simp rows refl; bare = simp rows refl; is_dir = simp rows refl; dir = simp rows refl }) (simp rows refl) (simp rows refl) (simp rows refl) (simp rows refl) (simp rows refl))
    (simp rows refl)
