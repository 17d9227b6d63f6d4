use Rattle.std.proofs.Common.{refl}
use Rattle.std.specs.Prelude.{codes}
use Rattle.vfs_tree.specs.Place.{Mem, UnionUp, UnionLow}
use Rattle.vfs_tree.specs.Views.{facts_of}
use Rattle.vfs_tree.specs.declared.walk.Found.TheVariants as found
use Rattle.vfs_tree.specs.declared.walk.Leaf.TheVariants as leaf
use Rattle.call_model.specs.declared.call.Call.TheVariants as call
use Rattle.worked_calls.specs.Worlds.{layered, shadowed}
use Rattle.worked_calls.proofs.Rules.{rows, by_walk}
use Rattle.worked_calls.proofs.Walks.{d_low, d_up, x_low}
use Rattle.worked_calls.proofs.unions.a_directory_of_the_lower_layer_needs_a_shadow.Goals as goal

pub returns-clause-needs : goal.returns-clause-needs
returns-clause-needs c =
    by_walk layered 1 (call.Stat (codes "/l/d")) leaf.Follow (codes "/l/d") (found.Need (record { mount = 2; dir = 1; name = codes "d" })) _ refl refl
    (d_low (facts_of layered) (record { root = record { bare = simp rows refl; kind = simp rows refl; dir = simp rows refl }; entry = simp rows refl; target = simp rows refl; covered = simp rows refl; mount = simp rows refl; bare = simp rows refl; is_dir = simp rows refl; dir = simp rows refl }) (simp rows refl) (simp rows refl) (simp rows refl))
    (simp rows refl)

pub returns-clause-effect : goal.returns-clause-effect
returns-clause-effect c = simp rows refl

pub returns-clause-found : goal.returns-clause-found
returns-clause-found c =
    by_walk shadowed 1 (call.Stat (codes "/l/d")) leaf.Follow (codes "/l/d") (found.At (UnionUp 2 2)) _ refl refl
    (d_up (facts_of shadowed) (record { root = record { bare = simp rows refl; kind = simp rows refl; dir = simp rows refl }; entry = simp rows refl; target = simp rows refl; covered = simp rows refl; mount = simp rows refl; bare = simp rows refl; is_dir = simp rows refl; dir = simp rows refl }) (simp rows refl) (simp rows refl) (simp rows refl))
    (simp rows refl)

pub returns-clause-below : goal.returns-clause-below
returns-clause-below c =
    by_walk shadowed 1 (call.Stat (codes "/l/d/x")) leaf.Follow (codes "/l/d/x") (found.At (UnionLow 2 2 (codes "x") (Mem 0 6))) _ refl refl
    (x_low (facts_of shadowed) (record { root = record { bare = simp rows refl; kind = simp rows refl; dir = simp rows refl }; entry = simp rows refl; target = simp rows refl; covered = simp rows refl; mount = simp rows refl; bare = simp rows refl; is_dir = simp rows refl; dir = simp rows refl }) (simp rows refl) (simp rows refl) (simp rows refl) (simp rows refl) (simp rows refl) (simp rows refl) (simp rows refl) (simp rows refl) (simp rows refl) (simp rows refl) (simp rows refl) (simp rows refl) (simp rows refl))
    (simp rows refl)
