-- The calls: what the paths of each find, and what it answers then.
use Rattle.std.specs.Prelude.{ℕ, Bool, true, false, List, Option, Some, None}
use Rattle.std.specs.FinMap.{get}
use Rattle.vfs_tree.specs.Paths.{parse}
use Rattle.vfs_tree.specs.Steps.{◌>>◌}
use Rattle.vfs_tree.specs.declared.walk.Step.TheVariants.{Go}
use Rattle.vfs_tree.specs.Views.{facts_of}
use Rattle.vfs_tree.specs.Walk.{in_cwd, find}
use Rattle.vfs_tree.specs.declared.errno.Errno.TheVariants as errno
use Rattle.vfs_tree.specs.declared.walk.Found.{Found}
use Rattle.vfs_tree.specs.declared.walk.Found.TheVariants as found
use Rattle.vfs_tree.specs.declared.walk.Leaf.{Leaf}
use Rattle.vfs_tree.specs.declared.walk.Leaf.TheVariants as leaf
use Rattle.vfs_tree.specs.declared.world.World.{World}
use Rattle.call_model.specs.Checks.{Doing, Outcome}
use Rattle.call_model.specs.DataRows as data_rows
use Rattle.call_model.specs.MountRows as mount_rows
use Rattle.call_model.specs.NameRows as name_rows
use Rattle.call_model.specs.declared.call.Call.{Call}
use Rattle.call_model.specs.declared.call.Call.TheVariants as call

-- ---- paths

-- a path as it is written, and how it is walked
pub record Way : Type 0 where
  pub leaf : Leaf
  pub text : List ℕ

abbrev pub way : Leaf → List ℕ → Option Way
way leaf text = Some (record { leaf = leaf; text = text })

-- a file that must be new is looked for in its directory, and one that may be made is, where it isn't there
abbrev pub open_leaf : Bool → Bool → Leaf
open_leaf true true = leaf.Parent
open_leaf true false = leaf.Create
open_leaf false fresh = leaf.Follow

-- the first path of a call
abbrev pub first_way : Call → Option Way
first_way (call.Mkdir p) = way leaf.Parent p
first_way (call.Rmdir p) = way leaf.Parent p
first_way (call.Open p f) = way (open_leaf f.make f.fresh) p
first_way (call.Close d) = None
first_way (call.Read d n) = None
first_way (call.Pread d n o) = None
first_way (call.Write d w) = None
first_way (call.Pwrite d o w) = None
first_way (call.Lseek d h i) = None
first_way (call.Truncate p n) = way leaf.Follow p
first_way (call.Ftruncate d n) = None
first_way (call.Stat p) = way leaf.Follow p
first_way (call.Lstat p) = way leaf.NoFollow p
first_way (call.Fstat d) = None
first_way (call.Readdir d) = None
first_way (call.Unlink p) = way leaf.Parent p
first_way (call.Rename a b) = way leaf.Parent a
first_way (call.Link a b) = way leaf.Follow a
first_way (call.Symlink t p) = way leaf.Parent p
first_way (call.Readlink p) = way leaf.NoFollow p
first_way (call.Undelete p) = way leaf.Parent p
first_way (call.Chdir p) = way leaf.Follow p
first_way (call.Fchdir d) = None
first_way (call.Statfs p) = way leaf.Follow p
first_way (call.MountMem p) = way leaf.Follow p
first_way (call.MountNull t p) = way leaf.Follow t
first_way (call.MountUnion u p) = way leaf.Follow u
first_way (call.Umount p) = way leaf.Mount p
first_way (call.UmountForce p) = way leaf.Mount p
first_way (call.Revoke p) = way leaf.Follow p

-- the second path of a call
abbrev pub second_way : Call → Option Way
second_way (call.Rename a b) = way leaf.Parent b
second_way (call.Link a b) = way leaf.Parent b
second_way (call.MountNull t p) = way leaf.Follow p
second_way (call.MountUnion u p) = way leaf.Follow p
second_way _ = None

-- what a path finds for a caller; a call without that path never looks at the answer
abbrev pub found_at : World → ℕ → Option Way → Found
found_at w c (Some way) = let f = facts_of w in find f way.leaf (in_cwd f (get w.cwds c)) way.text
found_at w c None = found.Refused errno.EBADF

-- what the first path of a call finds
abbrev pub first_found : World → ℕ → Call → Found
first_found w c call = found_at w c (first_way call)

-- what the second path finds
abbrev pub second_found : World → ℕ → Call → Found
second_found w c call = found_at w c (second_way call)

-- ---- answers

-- a path must be one
abbrev pub check_way : Option Way → Doing (Unit {0})
check_way (Some way) = parse way.text >> Go tt
check_way None = Go tt

-- what a call answers, by what its paths found
abbrev pub decided : World → ℕ → Call → Found → Found → Outcome
decided w c (call.Mkdir p) a b = name_rows.mkdir w a
decided w c (call.Rmdir p) a b = name_rows.rmdir w a
decided w c (call.Open p f) a b = data_rows.open_file w c f a
decided w c (call.Close d) a b = data_rows.close w c d
decided w c (call.Read d n) a b = data_rows.read w c d n
decided w c (call.Pread d n o) a b = data_rows.pread w c d n o
decided w c (call.Write d bytes) a b = data_rows.write w c d bytes
decided w c (call.Pwrite d o bytes) a b = data_rows.pwrite w c d o bytes
decided w c (call.Lseek d h i) a b = data_rows.lseek w c d h i
decided w c (call.Truncate p n) a b = data_rows.truncate w a n
decided w c (call.Ftruncate d n) a b = data_rows.ftruncate w c d n
decided w c (call.Stat p) a b = name_rows.stat w a
decided w c (call.Lstat p) a b = name_rows.stat w a
decided w c (call.Fstat d) a b = data_rows.fstat w c d
decided w c (call.Readdir d) a b = data_rows.readdir w c d
decided w c (call.Unlink p) a b = name_rows.unlink w a
decided w c (call.Rename p q) a b = name_rows.rename w a b
decided w c (call.Link p q) a b = name_rows.link w a b
decided w c (call.Symlink t p) a b = name_rows.symlink w t a
decided w c (call.Readlink p) a b = name_rows.readlink w a
decided w c (call.Undelete p) a b = name_rows.undelete w a
decided w c (call.Chdir p) a b = name_rows.chdir w c a
decided w c (call.Fchdir d) a b = data_rows.fchdir w c d
decided w c (call.Statfs p) a b = name_rows.statfs w a
decided w c (call.MountMem p) a b = mount_rows.mount_mem w a
decided w c (call.MountNull t p) a b = mount_rows.mount_null w a b
decided w c (call.MountUnion u p) a b = mount_rows.mount_union w a b
decided w c (call.Umount p) a b = mount_rows.umount w a
decided w c (call.UmountForce p) a b = mount_rows.umount_force w c a
decided w c (call.Revoke p) a b = mount_rows.revoke w a

-- the paths must be paths, whatever else there is to say
abbrev pub row_at : World → ℕ → Call → Found → Found → Outcome
row_at w c call a b = check_way (first_way call) >> check_way (second_way call) >> decided w c call a b

-- the row of a call
abbrev pub row : World → ℕ → Call → Outcome
row w c call = row_at w c call (first_found w c call) (second_found w c call)
