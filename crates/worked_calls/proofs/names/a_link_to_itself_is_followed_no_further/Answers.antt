use Rattle.std.proofs.Common.{refl}
use Rattle.std.specs.Prelude.{codes}
use Rattle.vfs_tree.specs.Place.{Mem}
use Rattle.vfs_tree.specs.Views.{facts_of}
use Rattle.vfs_tree.specs.declared.errno.Errno.TheVariants as errno
use Rattle.vfs_tree.specs.declared.walk.Found.TheVariants as found
use Rattle.vfs_tree.specs.declared.walk.Leaf.TheVariants as leaf
use Rattle.call_model.specs.declared.call.Call.TheVariants as call
use Rattle.worked_calls.specs.Worlds.{with_z}
use Rattle.worked_calls.proofs.Rules.{rows, by_walk}
use Rattle.worked_calls.proofs.Walks.{z_link, z_loop}
use Rattle.worked_calls.proofs.names.a_link_to_itself_is_followed_no_further.Goals as goal

pub returns-clause-stat : goal.returns-clause-stat
returns-clause-stat c =
    by_walk with_z 1 (call.Stat (codes "/z")) leaf.Follow (codes "/z") (found.Refused errno.ELOOP) _ refl refl
    (z_loop (facts_of with_z) (record { bare = simp rows refl; kind = simp rows refl; dir = simp rows refl }) (simp rows refl) (simp rows refl))
    (simp rows refl)

pub returns-clause-lstat : goal.returns-clause-lstat
returns-clause-lstat c =
    by_walk with_z 1 (call.Lstat (codes "/z")) leaf.NoFollow (codes "/z") (found.At (Mem 0 2)) _ refl refl
    (z_link (facts_of with_z) (record { bare = simp rows refl; kind = simp rows refl; dir = simp rows refl }) (simp rows refl) (simp rows refl))
    (simp rows refl)
