use Rattle.std.proofs.Common.{refl}
use Rattle.std.specs.Prelude.{codes, Some, None}
use Rattle.vfs_tree.specs.Place.{Mem, UnionUp, UnionLow}
use Rattle.vfs_tree.specs.Views.{facts_of}
use Rattle.vfs_tree.specs.declared.errno.Errno.TheVariants as errno
use Rattle.vfs_tree.specs.declared.walk.Found.TheVariants as found
use Rattle.vfs_tree.specs.declared.walk.Leaf.TheVariants as leaf
use Rattle.call_model.specs.declared.call.Call.TheVariants as call
use Rattle.worked_calls.specs.Worlds.{layered, hidden}
use Rattle.worked_calls.proofs.Rules.{rows, by_walk}
use Rattle.worked_calls.proofs.Walks.{f_low, f_low_named, f_hidden, f_hidden_named}
use Rattle.worked_calls.proofs.unions.a_whiteout_hides_the_lower_name.Goals as goal

pub returns-clause-shown : goal.returns-clause-shown
returns-clause-shown c =
    by_walk layered 1 (call.Stat (codes "/l/f")) leaf.Follow (codes "/l/f") (found.At (UnionLow 2 1 (codes "f") (Mem 0 5))) _ refl refl
    (f_low (facts_of layered) (record { root = record { bare = simp rows refl; kind = simp rows refl; dir = simp rows refl }; entry = simp rows refl; target = simp rows refl; covered = simp rows refl; mount = simp rows refl; bare = simp rows refl; is_dir = simp rows refl; dir = simp rows refl }) (simp rows refl) (simp rows refl) (simp rows refl) (simp rows refl) (simp rows refl))
    (simp rows refl)

pub returns-clause-unlink : goal.returns-clause-unlink
returns-clause-unlink c =
    by_walk layered 1 (call.Unlink (codes "/l/f")) leaf.Parent (codes "/l/f") (found.In (UnionUp 2 1) (codes "f") (Some (UnionLow 2 1 (codes "f") (Mem 0 5)))) _ refl refl
    (f_low_named (facts_of layered) (record { root = record { bare = simp rows refl; kind = simp rows refl; dir = simp rows refl }; entry = simp rows refl; target = simp rows refl; covered = simp rows refl; mount = simp rows refl; bare = simp rows refl; is_dir = simp rows refl; dir = simp rows refl }) (simp rows refl) (simp rows refl) (simp rows refl))
    (simp rows refl)

pub returns-clause-absent : goal.returns-clause-absent
returns-clause-absent c =
    by_walk hidden 1 (call.Stat (codes "/l/f")) leaf.Follow (codes "/l/f") (found.Refused errno.ENOENT) _ refl refl
    (f_hidden (facts_of hidden) (record { root = record { bare = simp rows refl; kind = simp rows refl; dir = simp rows refl }; entry = simp rows refl; target = simp rows refl; covered = simp rows refl; mount = simp rows refl; bare = simp rows refl; is_dir = simp rows refl; dir = simp rows refl }) (simp rows refl))
    (simp rows refl)

pub returns-clause-undelete : goal.returns-clause-undelete
returns-clause-undelete c =
    by_walk hidden 1 (call.Undelete (codes "/l/f")) leaf.Parent (codes "/l/f") (found.In (UnionUp 2 1) (codes "f") None) _ refl refl
    (f_hidden_named (facts_of hidden) (record { root = record { bare = simp rows refl; kind = simp rows refl; dir = simp rows refl }; entry = simp rows refl; target = simp rows refl; covered = simp rows refl; mount = simp rows refl; bare = simp rows refl; is_dir = simp rows refl; dir = simp rows refl }) (simp rows refl))
    (simp rows refl)
