-- What the calls on names answer. Each takes what its paths find.
use Rattle.std.specs.Prelude.{ℕ, min, Bool, true, false, not, ◌==◌, nat_lt, List, length, Option, Some, None}
use Rattle.std.specs.FinMap.{insert}
use Rattle.vfs_tree.specs.Place.{Seen, Mem, Null, UnionUp, UnionLow, mount_of, bare}
use Rattle.vfs_tree.specs.Layers.{base, is_dir, target_of, same_place, kind_in}
use Rattle.vfs_tree.specs.Carriers.{is_in_union, is_busy, is_below}
use Rattle.vfs_tree.specs.Child.{low}
use Rattle.vfs_tree.specs.Edits.{new_dir}
use Rattle.vfs_tree.specs.Paths.{has_zero, is_empty}
use Rattle.vfs_tree.specs.StoreEdits.{set_entry, clear_entry, renamed}
use Rattle.vfs_tree.specs.Steps.{◌>>=◌, ◌>>◌, refuse_if}
use Rattle.vfs_tree.specs.declared.walk.Step.TheVariants.{Go, Refuse}
use Rattle.vfs_tree.specs.Views.{facts_of}
use Rattle.vfs_tree.specs.Visible.{has_visible}
use Rattle.vfs_tree.specs.declared.errno.Errno.TheVariants as errno
use Rattle.vfs_tree.specs.declared.mount.MountKind.{MountKind}
use Rattle.vfs_tree.specs.declared.mount.MountKind.TheVariants as mount
use Rattle.vfs_tree.specs.declared.node.Kind.TheVariants as kind
use Rattle.vfs_tree.specs.declared.node.NameEntry.TheVariants.{Ino}
use Rattle.vfs_tree.specs.declared.node.Node.{Node}
use Rattle.vfs_tree.specs.declared.node.Node.TheVariants.{Dir, File, Link}
use Rattle.vfs_tree.specs.declared.walk.Child.{Child}
use Rattle.vfs_tree.specs.declared.walk.Child.TheVariants as child
use Rattle.vfs_tree.specs.declared.walk.Found.{Found}
use Rattle.vfs_tree.specs.declared.world.World.{World}
use Rattle.call_model.specs.Checks.{Doing, Outcome, lifted, need_shadow, copied, place_at, target_at, there, dir_at, free_target, node_of, edit_at, has_white, make_at, drop_at}
use Rattle.call_model.specs.declared.reply.MountWord.{MountWord}
use Rattle.call_model.specs.declared.reply.MountWord.TheVariants as word
use Rattle.call_model.specs.declared.reply.Reply.{Reply}
use Rattle.call_model.specs.declared.reply.Reply.TheVariants as reply
use Rattle.call_model.specs.declared.target.Target.{Target}

-- ---- directories

-- an empty directory is made; over a whiteout it is opaque
abbrev pub made_dir : World → Target → Doing World
made_dir w t = make_at w t.dir t.name (new_dir (base (facts_of w) t.dir).ino (has_white w t.dir t.name))

-- mkdir(2)
abbrev pub mkdir : World → Found → Outcome
mkdir w a = do
  t ← free_target w a
  new ← made_dir w t
  Go (new, reply.Done)

-- no name is visible in a directory
abbrev pub check_empty : World → Seen → Doing (Unit {0})
check_empty w d = do
  shows ← lifted w (has_visible w d)
  refuse_if shows errno.ENOTEMPTY

-- what is removed is there, is a directory on which nothing is mounted, and no name is visible in it
abbrev pub check_removed : World → Option Seen → Doing (Unit {0})
check_removed w child = do
  d ← there child
  refuse_if (not (is_dir (facts_of w) d)) errno.ENOTDIR
  refuse_if (is_busy w d) errno.EBUSY
  check_empty w d

-- rmdir(2)
abbrev pub rmdir : World → Found → Outcome
rmdir w a = do
  t ← target_at w errno.EINVAL a
  check_removed w t.child
  Go (drop_at w t.dir t.name, reply.Done)

-- ---- names of files and links

-- unlink(2)
abbrev pub unlink : World → Found → Outcome
unlink w a = do
  t ← target_at w errno.EPERM a
  p ← there t.child
  refuse_if (is_dir (facts_of w) p) errno.EPERM
  Go (drop_at w t.dir t.name, reply.Done)

-- link(2): the name gives the file's inode
abbrev pub link : World → Found → Found → Outcome
link w a b = do
  p ← place_at w a
  refuse_if (is_dir (facts_of w) p) errno.EPERM
  t ← free_target w b
  refuse_if (not (mount_of p == mount_of t.dir)) errno.EXDEV
  copied w p
  Go (edit_at w t.dir (λ s dir. set_entry s dir t.name (Ino (base (facts_of w) p).ino)), reply.Done)

-- the text of a link: some bytes, none of them zero, and not too many
abbrev pub check_text : List ℕ → Doing (Unit {0})
check_text text = do
  refuse_if (is_empty text) errno.ENOENT
  refuse_if (has_zero text) errno.EINVAL
  refuse_if (nat_lt 1023 (length text)) errno.ENAMETOOLONG

-- a link with that text is made
abbrev pub made_link : World → List ℕ → Target → Doing World
made_link w text t = make_at w t.dir t.name (Link text)

-- symlink(2)
abbrev pub symlink : World → List ℕ → Found → Outcome
symlink w text a = do
  check_text text
  t ← free_target w a
  new ← made_link w text t
  Go (new, reply.Done)

abbrev pub link_text : Option (List ℕ) → Doing (List ℕ)
link_text (Some text) = Go text
link_text None = Refuse errno.EINVAL

-- readlink(2)
abbrev pub readlink : World → Found → Outcome
readlink w a = do
  p ← place_at w a
  text ← link_text (target_of (facts_of w) p)
  Go (w, reply.Target text)

-- undelete(2): a whiteout goes
abbrev pub undelete : World → Found → Outcome
undelete w a = do
  t ← target_at w errno.EEXIST a
  refuse_if (not (has_white w t.dir t.name)) errno.EEXIST
  Go (edit_at w t.dir (λ s dir. clear_entry s dir t.name), reply.Done)

-- ---- rename(2)

-- whether a directory of a union has a lower part
abbrev pub is_lower : World → Child → Doing Bool
is_lower w (child.At d) = Go true
is_lower w child.Absent = Go false
is_lower w (child.Need x) = need_shadow w x

abbrev pub has_lower_place : World → Seen → Doing Bool
has_lower_place w (UnionUp m i) = is_lower w (low (facts_of w) m i)
has_lower_place w (Mem m i) = Go false
has_lower_place w (Null m p) = Go false
has_lower_place w (UnionLow m u n p) = Go false

-- a directory that has a lower part isn't moved or replaced
abbrev pub check_lower : World → Seen → Doing (Unit {0})
check_lower w d = do
  lower ← has_lower_place w (bare d)
  refuse_if lower errno.EXDEV

-- whether that place stands at the name
abbrev pub is_there : Seen → Option Seen → Bool
is_there p (Some q) = same_place p q
is_there p None = false

-- a directory that is moved, where what is moved is one: nothing is mounted on it, it doesn't go below itself, and it has
-- no lower part
abbrev pub check_source : Bool → World → Seen → Seen → Doing (Unit {0})
check_source true w source to = do
  refuse_if (is_busy w source) errno.EBUSY
  refuse_if (is_below (facts_of w) to source) errno.EINVAL
  check_lower w source
check_source false w source to = Go tt

-- a directory that is replaced: nothing is mounted on it, no name is visible in it, and it has no lower part
abbrev pub check_replaced_dir : World → Seen → Doing (Unit {0})
check_replaced_dir w d = do
  refuse_if (is_busy w d) errno.EBUSY
  check_empty w d
  check_lower w d

-- what is replaced is a directory exactly where what is moved is one
abbrev pub check_kinds : Bool → Bool → World → Seen → Doing (Unit {0})
check_kinds true false w p = Refuse errno.ENOTDIR
check_kinds false true w p = Refuse errno.EISDIR
check_kinds true true w p = check_replaced_dir w p
check_kinds false false w p = Go tt

abbrev pub check_replaced : World → Bool → Option Seen → Doing (Unit {0})
check_replaced w moves_dir (Some p) = check_kinds moves_dir (is_dir (facts_of w) p) w p
check_replaced w moves_dir None = Go tt

-- the new name gives what the old one gave
abbrev pub renamed_at : World → Seen → List ℕ → Target → World
renamed_at w d n new =
    edit_at w d (λ t from. renamed (is_in_union d) (is_in_union new.dir) t from n (base (facts_of w) new.dir).ino new.name)

-- where the two names don't stand for one place
abbrev pub rename_apart : World → Seen → Seen → List ℕ → Target → Outcome
rename_apart w source d n new = do
  check_source (is_dir (facts_of w) source) w source new.dir
  check_replaced w (is_dir (facts_of w) source) new.child
  copied w source
  Go (renamed_at w d n new, reply.Done)

abbrev pub rename_case : Bool → World → Seen → Seen → List ℕ → Target → Outcome
rename_case true w source d n new = Go (w, reply.Done)
rename_case false w source d n new = rename_apart w source d n new

abbrev pub rename : World → Found → Found → Outcome
rename w a b = do
  old ← target_at w errno.EINVAL a
  source ← there old.child
  new ← target_at w errno.EINVAL b
  refuse_if (not (mount_of old.dir == mount_of new.dir)) errno.EXDEV
  rename_case (is_there source new.child) w source old.dir old.name new

-- ---- what is known of a file

-- a size in bytes as an answer gives it
abbrev pub size_of : List ℕ → ℕ
size_of bytes = min (length bytes) 4294967295

-- the size of a node: a directory has 0, a link the length of its target
abbrev pub size_in : Option Node → ℕ
size_in (Some (Dir parent opaque names)) = 0
size_in (Some (File bytes)) = size_of bytes
size_in (Some (Link target)) = size_of target
size_in None = 0

-- the kind and size of a node
abbrev pub stat_of : Option Node → Doing Reply
stat_of (Some (Dir parent opaque names)) = Go (reply.Stat kind.Dir 0)
stat_of (Some (File bytes)) = Go (reply.Stat kind.File (size_of bytes))
stat_of (Some (Link target)) = Go (reply.Stat kind.Link (size_of target))
stat_of None = Refuse errno.ENOENT

-- stat(2), and lstat(2), whose walk doesn't follow a last link
abbrev pub stat : World → Found → Outcome
stat w a = do
  p ← place_at w a
  known ← stat_of (node_of w p)
  Go (w, known)

-- ---- current directories

-- a caller's current directory is set
abbrev pub with_cwd : World → ℕ → Seen → World
with_cwd w c d = record w { cwds = insert w.cwds c (record { place = d; dead = false }) }

-- chdir(2)
abbrev pub chdir : World → ℕ → Found → Outcome
chdir w c a = do
  d ← dir_at w a
  Go (with_cwd w c d, reply.Done)

-- ---- file systems

abbrev pub word_of : Option MountKind → MountWord
word_of (Some mount.Mem) = word.Mem
word_of (Some (mount.Null layer)) = word.Null
word_of (Some (mount.Union s u l)) = word.Union
word_of None = word.Mem

-- statfs(2): the mount of a file, and what it shows
abbrev pub statfs : World → Found → Outcome
statfs w a = do
  p ← place_at w a
  Go (w, reply.Fs (mount_of p) (word_of (kind_in (facts_of w) (mount_of p))))
