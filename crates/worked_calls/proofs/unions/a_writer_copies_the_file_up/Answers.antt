use Rattle.std.proofs.Common.{refl}
use Rattle.std.specs.Prelude.{codes}
use Rattle.vfs_tree.specs.Place.{Mem, UnionUp, UnionLow}
use Rattle.vfs_tree.specs.Views.{facts_of}
use Rattle.vfs_tree.specs.declared.walk.Found.TheVariants as found
use Rattle.vfs_tree.specs.declared.walk.Leaf.TheVariants as leaf
use Rattle.call_model.specs.declared.call.Call.TheVariants as call
use Rattle.call_model.specs.declared.call.Access.TheVariants as access
use Rattle.worked_calls.specs.Worlds.{flags, layered, read_low, copied}
use Rattle.worked_calls.proofs.Rules.{rows, by_walk}
use Rattle.worked_calls.proofs.Walks.{f_low, f_up}
use Rattle.worked_calls.proofs.unions.a_writer_copies_the_file_up.Goals as goal

pub returns-clause-reader : goal.returns-clause-reader
returns-clause-reader c =
    by_walk layered 1 (call.Open (codes "/l/f") (flags access.Read)) leaf.Follow (codes "/l/f") (found.At (UnionLow 2 1 (codes "f") (Mem 0 5))) _ refl refl
    (f_low (facts_of layered) (record { root = record { bare = simp rows refl; kind = simp rows refl; dir = simp rows refl }; entry = simp rows refl; target = simp rows refl; covered = simp rows refl; mount = simp rows refl; bare = simp rows refl; is_dir = simp rows refl; dir = simp rows refl }) (simp rows refl) (simp rows refl) (simp rows refl) (simp rows refl) (simp rows refl))
    (simp rows refl)

pub returns-clause-writer : goal.returns-clause-writer
returns-clause-writer c =
    by_walk read_low 2 (call.Open (codes "/l/f") (flags access.Write)) leaf.Follow (codes "/l/f") (found.At (UnionLow 2 1 (codes "f") (Mem 0 5))) _ refl refl
    (f_low (facts_of read_low) (record { root = record { bare = simp rows refl; kind = simp rows refl; dir = simp rows refl }; entry = simp rows refl; target = simp rows refl; covered = simp rows refl; mount = simp rows refl; bare = simp rows refl; is_dir = simp rows refl; dir = simp rows refl }) (simp rows refl) (simp rows refl) (simp rows refl) (simp rows refl) (simp rows refl))
    (simp rows refl)

pub returns-clause-effect : goal.returns-clause-effect
returns-clause-effect c = simp rows refl

pub returns-clause-written : goal.returns-clause-written
returns-clause-written c =
    by_walk copied 2 (call.Open (codes "/l/f") (flags access.Write)) leaf.Follow (codes "/l/f") (found.At (UnionUp 2 2)) _ refl refl
    (f_up (facts_of copied) (record { root = record { bare = simp rows refl; kind = simp rows refl; dir = simp rows refl }; entry = simp rows refl; target = simp rows refl; covered = simp rows refl; mount = simp rows refl; bare = simp rows refl; is_dir = simp rows refl; dir = simp rows refl }) (simp rows refl) (simp rows refl) (simp rows refl))
    (simp rows refl)
