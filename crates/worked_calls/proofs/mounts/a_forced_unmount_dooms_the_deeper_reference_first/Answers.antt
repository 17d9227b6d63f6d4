use Rattle.std.proofs.Common.{refl}
use Rattle.std.specs.Prelude.{codes}
use Rattle.vfs_tree.specs.Views.{facts_of}
use Rattle.vfs_tree.specs.declared.errno.Errno.TheVariants as errno
use Rattle.vfs_tree.specs.declared.walk.Found.TheVariants as found
use Rattle.vfs_tree.specs.declared.walk.Leaf.TheVariants as leaf
use Rattle.call_model.specs.declared.call.Call.TheVariants as call
use Rattle.worked_calls.specs.Worlds.{used, gone}
use Rattle.worked_calls.proofs.Rules.{rows, by_walk}
use Rattle.worked_calls.proofs.Walks.{a_mount, b_cut}
use Rattle.worked_calls.proofs.mounts.a_forced_unmount_dooms_the_deeper_reference_first.Goals as goal

pub returns-clause-detach : goal.returns-clause-detach
returns-clause-detach c =
    by_walk used 1 (call.UmountForce (codes "/a")) leaf.Mount (codes "/a") (found.Mount 1) _ refl refl
    (a_mount (facts_of used) (record { bare = simp rows refl; kind = simp rows refl; dir = simp rows refl }) (simp rows refl) (simp rows refl) (simp rows refl) (simp rows refl) (simp rows refl))
    (simp rows refl)

pub returns-clause-detached : goal.returns-clause-detached
returns-clause-detached c = simp rows refl

pub returns-clause-deeper : goal.returns-clause-deeper
returns-clause-deeper c = simp rows refl

pub returns-clause-doomed : goal.returns-clause-doomed
returns-clause-doomed c = simp rows refl

pub returns-clause-next : goal.returns-clause-next
returns-clause-next c = simp rows refl

pub returns-clause-all : goal.returns-clause-all
returns-clause-all c = simp rows refl

pub returns-clause-gone : goal.returns-clause-gone
returns-clause-gone c = simp rows refl

pub returns-clause-cut : goal.returns-clause-cut
returns-clause-cut c =
    by_walk gone 2 (call.Stat (codes "/b")) leaf.Follow (codes "/b") (found.Refused errno.EIO) _ refl refl
    (b_cut (facts_of gone) (record { bare = simp rows refl; kind = simp rows refl; dir = simp rows refl }) (simp rows refl) (simp rows refl) (simp rows refl) (simp rows refl))
    (simp rows refl)
