use Rattle.std.proofs.Common.{refl}
use Rattle.std.specs.Prelude.{codes, Some, None}
use Rattle.vfs_tree.specs.Place.{Mem, UnionUp, UnionLow}
use Rattle.vfs_tree.specs.Views.{facts_of}
use Rattle.vfs_tree.specs.declared.errno.Errno.TheVariants as errno
use Rattle.vfs_tree.specs.declared.walk.Found.TheVariants as found
use Rattle.vfs_tree.specs.declared.walk.Leaf.TheVariants as leaf
use Rattle.call_model.specs.declared.call.Call.TheVariants as call
use Rattle.worked_calls.specs.Worlds.{shadowed, emptied, removed, remade}
use Rattle.worked_calls.proofs.Rules.{rows, by_walk}
use Rattle.worked_calls.proofs.Walks.{d_up_named, d_hidden_named, x_low_named, x_hidden}
use Rattle.worked_calls.proofs.unions.a_directory_that_is_made_again_is_opaque.Goals as goal

pub returns-clause-full : goal.returns-clause-full
returns-clause-full c =
    by_walk shadowed 1 (call.Rmdir (codes "/l/d")) leaf.Parent (codes "/l/d") (found.In (UnionUp 2 1) (codes "d") (Some (UnionUp 2 2))) _ refl refl
    (d_up_named (facts_of shadowed) (record { root = record { bare = simp rows refl; kind = simp rows refl; dir = simp rows refl }; entry = simp rows refl; target = simp rows refl; covered = simp rows refl; mount = simp rows refl; bare = simp rows refl; is_dir = simp rows refl; dir = simp rows refl }) (simp rows refl))
    (simp rows refl)

pub returns-clause-unlink : goal.returns-clause-unlink
returns-clause-unlink c =
    by_walk shadowed 1 (call.Unlink (codes "/l/d/x")) leaf.Parent (codes "/l/d/x") (found.In (UnionUp 2 2) (codes "x") (Some (UnionLow 2 2 (codes "x") (Mem 0 6)))) _ refl refl
    (x_low_named (facts_of shadowed) (record { root = record { bare = simp rows refl; kind = simp rows refl; dir = simp rows refl }; entry = simp rows refl; target = simp rows refl; covered = simp rows refl; mount = simp rows refl; bare = simp rows refl; is_dir = simp rows refl; dir = simp rows refl }) (simp rows refl) (simp rows refl) (simp rows refl) (simp rows refl) (simp rows refl) (simp rows refl) (simp rows refl) (simp rows refl) (simp rows refl) (simp rows refl) (simp rows refl))
    (simp rows refl)

pub returns-clause-rmdir : goal.returns-clause-rmdir
returns-clause-rmdir c =
    by_walk emptied 1 (call.Rmdir (codes "/l/d")) leaf.Parent (codes "/l/d") (found.In (UnionUp 2 1) (codes "d") (Some (UnionUp 2 2))) _ refl refl
    (d_up_named (facts_of emptied) (record { root = record { bare = simp rows refl; kind = simp rows refl; dir = simp rows refl }; entry = simp rows refl; target = simp rows refl; covered = simp rows refl; mount = simp rows refl; bare = simp rows refl; is_dir = simp rows refl; dir = simp rows refl }) (simp rows refl))
    (simp rows refl)

pub returns-clause-mkdir : goal.returns-clause-mkdir
returns-clause-mkdir c =
    by_walk removed 1 (call.Mkdir (codes "/l/d")) leaf.Parent (codes "/l/d") (found.In (UnionUp 2 1) (codes "d") None) _ refl refl
    (d_hidden_named (facts_of removed) (record { root = record { bare = simp rows refl; kind = simp rows refl; dir = simp rows refl }; entry = simp rows refl; target = simp rows refl; covered = simp rows refl; mount = simp rows refl; bare = simp rows refl; is_dir = simp rows refl; dir = simp rows refl }) (simp rows refl))
    (simp rows refl)

pub returns-clause-absent : goal.returns-clause-absent
returns-clause-absent c =
    by_walk remade 1 (call.Stat (codes "/l/d/x")) leaf.Follow (codes "/l/d/x") (found.Refused errno.ENOENT) _ refl refl
    (x_hidden (facts_of remade) (record { root = record { bare = simp rows refl; kind = simp rows refl; dir = simp rows refl }; entry = simp rows refl; target = simp rows refl; covered = simp rows refl; mount = simp rows refl; bare = simp rows refl; is_dir = simp rows refl; dir = simp rows refl }) (simp rows refl) (simp rows refl) (simp rows refl) (simp rows refl) (simp rows refl) (simp rows refl))
    (simp rows refl)
