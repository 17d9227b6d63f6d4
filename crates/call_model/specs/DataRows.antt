-- What the calls on descriptors and on contents answer. Each takes what its path finds.
use Rattle.std.specs.Prelude.{ℕ, zero, suc, ◌+◌, ℤ, pos, negsuc, ◌+ℤ◌, Bool, true, false, not, ◌&&◌, nat_lt, List, [], ◌∷◌, length, take, drop, Option, Some, None, is_some}
use Rattle.std.specs.FinMap.{get, insert, remove, len}
use Rattle.vfs_tree.specs.FileEdits.{written, resized}
use Rattle.vfs_tree.specs.Place.{Seen, Mem, Null, UnionUp, UnionLow}
use Rattle.vfs_tree.specs.Layers.{base, is_dir}
use Rattle.vfs_tree.specs.Nodes.{next_of}
use Rattle.vfs_tree.specs.Steps.{◌>>=◌, ◌>>◌, refuse_if}
use Rattle.vfs_tree.specs.declared.walk.Step.TheVariants.{Go, Refuse}
use Rattle.vfs_tree.specs.Views.{facts_of}
use Rattle.vfs_tree.specs.Visible.{visible}
use Rattle.vfs_tree.specs.declared.errno.Errno.TheVariants as errno
use Rattle.vfs_tree.specs.declared.node.Node.{Node}
use Rattle.vfs_tree.specs.declared.node.Node.TheVariants.{Dir, File, Link}
use Rattle.vfs_tree.specs.declared.open.Mode.{Mode}
use Rattle.vfs_tree.specs.declared.open.Open.{Open}
use Rattle.vfs_tree.specs.declared.walk.Found.{Found}
use Rattle.vfs_tree.specs.declared.walk.Found.TheVariants as found
use Rattle.vfs_tree.specs.declared.world.World.{World}
use Rattle.call_model.specs.Checks.{Doing, Outcome, lifted, need_shadow, copied, place_at, node_of, edit_at, make_at}
use Rattle.call_model.specs.NameRows.{size_in, stat_of, with_cwd}
use Rattle.call_model.specs.declared.call.Access.{Access}
use Rattle.call_model.specs.declared.call.Access.TheVariants as access
use Rattle.call_model.specs.declared.call.Flags.{Flags}
use Rattle.call_model.specs.declared.call.Whence.{Whence}
use Rattle.call_model.specs.declared.call.Whence.TheVariants as whence
use Rattle.call_model.specs.declared.reply.Reply.TheVariants as reply

-- ---- contents

-- the contents of a regular file
abbrev pub contents : Option Node → List ℕ
contents (Some (File bytes)) = bytes
contents (Some (Dir parent opaque names)) = []
contents (Some (Link target)) = []
contents None = []

-- the contents of a place
abbrev pub bytes_of : World → Seen → List ℕ
bytes_of w p = contents (node_of w p)

-- at most n bytes from an offset on
abbrev pub piece : List ℕ → ℕ → ℕ → List ℕ
piece bytes at n = take n (drop at bytes)

-- the greatest size of a file in bytes
abbrev pub most_bytes : ℕ
most_bytes = 1048576

-- the greatest number of bytes of one read or write
abbrev pub most_moved : ℕ
most_moved = 65536

-- ---- descriptors

abbrev pub opened : Option Open → Doing Open
opened (Some o) = Go o
opened None = Refuse errno.EBADF

-- the open file of a caller's descriptor; EBADF where it isn't open
abbrev pub descriptor : World → ℕ → ℕ → Doing Open
descriptor w c d = opened (get w.opens (c, d))

-- a descriptor's open file is set
abbrev pub with_open : World → ℕ → ℕ → Open → World
with_open w c d o = record w { opens = insert w.opens (c, d) o }

-- the offset of a descriptor is set
abbrev pub with_offset : World → ℕ → ℕ → Open → ℕ → World
with_offset w c d o at = with_open w c d (record o { offset = at })

-- from a number on, the first that is free among that many
abbrev pub free_case : Doing ℕ → ℕ → Bool → Doing ℕ
free_case next d true = next
free_case next d false = Go d

abbrev pub free_from : ℕ → World → ℕ → ℕ → Doing ℕ
free_from zero w c d = Refuse errno.EMFILE
free_from (suc k) w c d = free_case (free_from k w c (d + 1)) d (is_some (get w.opens (c, d)))

-- the lowest free descriptor of a caller; EMFILE where all 32 are open
abbrev pub free_descriptor : World → ℕ → Doing ℕ
free_descriptor w c = free_from 32 w c 0

-- ---- open(2)

abbrev pub writes : Access → Bool
writes access.Read = false
writes access.Write = true
writes access.Both = true

abbrev pub reads : Access → Bool
reads access.Read = true
reads access.Write = false
reads access.Both = true

-- how the file is opened
abbrev pub mode_of : Flags → Mode
mode_of f = record { read = reads f.access; write = writes f.access; append = f.append }

-- a file gets a length
abbrev pub resize_at : World → Seen → ℕ → World
resize_at w p n = edit_at w p (λ t i. resized t i n)

-- the file is cut to nothing where that is asked
abbrev pub cut_to : Bool → World → Seen → World
cut_to true w p = resize_at w p 0
cut_to false w p = w

-- the descriptor stands for the place
abbrev pub open_place : World → ℕ → ℕ → Flags → Seen → World
open_place w c fd f p = with_open w c fd (record { place = p; offset = 0; mode = mode_of f; dead = false })

abbrev pub copied_for : Bool → World → Seen → Doing (Unit {0})
copied_for true w p = copied w p
copied_for false w p = Go tt

-- what stands there is opened
abbrev pub open_there : World → ℕ → ℕ → Flags → Seen → Outcome
open_there w c fd f p = do
  refuse_if (is_dir (facts_of w) p && writes f.access) errno.EISDIR
  refuse_if (not (is_dir (facts_of w) p) && f.dir) errno.ENOTDIR
  copied_for (writes f.access) w p
  Go (open_place (cut_to f.cut w p) c fd f p, reply.Fd fd)

-- the place of an inode that a directory's name gives
abbrev pub place_in : Seen → ℕ → Seen
place_in (Mem m u) i = Mem m i
place_in (Null m p) i = Null m (place_in p i)
place_in (UnionUp m u) i = UnionUp m i
place_in (UnionLow m u n p) i = UnionLow m u n p

-- an empty file is made, and opened
abbrev pub open_made : World → ℕ → ℕ → Flags → Seen → List ℕ → Outcome
open_made w c fd f d n = do
  new ← make_at w d n (File [])
  Go (open_place new c fd f (place_in d (next_of (get w.stores (base (facts_of w) d).store))), reply.Fd fd)

-- A file that isn't there is made. The walk is one of the form `Parent` where the file must be new, `Create` where it may
-- be, and else `Follow`.
abbrev pub open_found : World → ℕ → ℕ → Flags → Found → Outcome
open_found w c fd f (found.At p) = open_there w c fd f p
open_found w c fd f (found.In d n None) = open_made w c fd f d n
open_found w c fd f (found.In d n (Some p)) = Refuse errno.EEXIST
open_found w c fd f (found.Dot d) = Refuse errno.EEXIST
open_found w c fd f (found.Mount m) = Refuse errno.EINVAL
open_found w c fd f (found.Refused e) = Refuse e
open_found w c fd f (found.Need x) = need_shadow w x

-- to cut a file asks for writing, and a directory isn't made
abbrev pub are_flags : Flags → Bool
are_flags f = not (f.cut && not (writes f.access)) && not (f.make && f.dir)

abbrev pub open_file : World → ℕ → Flags → Found → Outcome
open_file w c f a = do
  refuse_if (not (are_flags f)) errno.EINVAL
  fd ← free_descriptor w c
  refuse_if (not (nat_lt (len w.opens) w.limits.files)) errno.ENFILE
  open_found w c fd f a

-- close(2)
abbrev pub close : World → ℕ → ℕ → Outcome
close w c d = do
  o ← descriptor w c d
  Go (record w { opens = remove w.opens (c, d) }, reply.Done)

-- ---- read(2) and pread(2)

-- the open file may be read, and so much at once
abbrev pub check_read : World → Open → ℕ → Doing (Unit {0})
check_read w o n = do
  refuse_if o.dead errno.EIO
  refuse_if (not o.mode.read) errno.EBADF
  refuse_if (is_dir (facts_of w) o.place) errno.EISDIR
  refuse_if (nat_lt most_moved n) errno.EINVAL

-- the offset moves by the bytes read
abbrev pub read : World → ℕ → ℕ → ℕ → Outcome
read w c d n = do
  o ← descriptor w c d
  check_read w o n
  let bytes = piece (bytes_of w o.place) o.offset n in Go (with_offset w c d o (o.offset + length bytes), reply.Bytes bytes)

-- the offset stays
abbrev pub pread : World → ℕ → ℕ → ℕ → ℕ → Outcome
pread w c d n at = do
  o ← descriptor w c d
  check_read w o n
  Go (w, reply.Bytes (piece (bytes_of w o.place) at n))

-- ---- write(2) and pwrite(2)

-- the open file may be written, and so much at once
abbrev pub check_write : Open → List ℕ → Doing (Unit {0})
check_write o bytes = do
  refuse_if o.dead errno.EIO
  refuse_if (not o.mode.write) errno.EBADF
  refuse_if (nat_lt most_moved (length bytes)) errno.EINVAL

abbrev pub end_if : Bool → ℕ → ℕ → ℕ
end_if true end at = end
end_if false end at = at

-- where the bytes go: to the end of a file that is open for appending
abbrev pub write_to : World → Open → ℕ → ℕ
write_to w o at = end_if o.mode.append (length (bytes_of w o.place)) at

-- bytes are written at an offset, where the file may grow so far; the world and the offset of their end
abbrev pub write_at : World → Open → ℕ → List ℕ → Doing (World × ℕ)
write_at w o at bytes = do
  refuse_if (nat_lt most_bytes (at + length bytes)) errno.EFBIG
  Go (edit_at w o.place (λ t i. written t i at bytes), at + length bytes)

-- no bytes change nothing
abbrev pub write_some : World → ℕ → ℕ → Open → List ℕ → Outcome
write_some w c d o [] = Go (w, reply.Count 0)
write_some w c d o (b ∷ bs) = do
  new ← write_at w o (write_to w o o.offset) (b ∷ bs)
  Go (with_offset new.0 c d o new.1, reply.Count (length (b ∷ bs)))

-- the offset is then the end of what was written
abbrev pub write : World → ℕ → ℕ → List ℕ → Outcome
write w c d bytes = do
  o ← descriptor w c d
  check_write o bytes
  write_some w c d o bytes

abbrev pub pwrite_some : World → Open → ℕ → List ℕ → Outcome
pwrite_some w o at [] = Go (w, reply.Count 0)
pwrite_some w o at (b ∷ bs) = do
  new ← write_at w o (write_to w o at) (b ∷ bs)
  Go (new.0, reply.Count (length (b ∷ bs)))

-- the offset stays
abbrev pub pwrite : World → ℕ → ℕ → ℕ → List ℕ → Outcome
pwrite w c d at bytes = do
  o ← descriptor w c d
  check_write o bytes
  pwrite_some w o at bytes

-- ---- lseek(2)

-- from where the offset counts
abbrev pub seek_from : World → Open → Whence → ℕ
seek_from w o whence.Set = 0
seek_from w o whence.Cur = o.offset
seek_from w o whence.End = size_in (node_of w o.place)

-- an offset lies from 0 to 4,294,967,295
abbrev pub offset_of : ℤ → Doing ℕ
offset_of (pos n) = refuse_if (nat_lt 4294967295 n) errno.EINVAL >> Go n
offset_of (negsuc n) = Refuse errno.EINVAL

abbrev pub lseek : World → ℕ → ℕ → Whence → ℤ → Outcome
lseek w c d h i = do
  o ← descriptor w c d
  refuse_if o.dead errno.EBADF
  at ← offset_of (pos (seek_from w o h) +ℤ i)
  Go (with_offset w c d o at, reply.Offset at)

-- ---- truncate(2) and ftruncate(2)

-- a file that gets a length: no directory, not too long, and of no lower layer alone
abbrev pub check_length : World → Seen → ℕ → Doing (Unit {0})
check_length w p n = do
  refuse_if (is_dir (facts_of w) p) errno.EISDIR
  refuse_if (nat_lt most_bytes n) errno.EFBIG
  copied w p

abbrev pub truncate : World → Found → ℕ → Outcome
truncate w a n = do
  p ← place_at w a
  check_length w p n
  Go (resize_at w p n, reply.Done)

-- the file of a descriptor that gets a length
abbrev pub open_length : World → ℕ → ℕ → ℕ → Doing Seen
open_length w c d n = do
  o ← descriptor w c d
  refuse_if o.dead errno.EBADF
  refuse_if (not o.mode.write) errno.EINVAL
  refuse_if (nat_lt most_bytes n) errno.EFBIG
  Go o.place

abbrev pub ftruncate : World → ℕ → ℕ → ℕ → Outcome
ftruncate w c d n = do
  p ← open_length w c d n
  Go (resize_at w p n, reply.Done)

-- ---- what is known of an open file

-- fstat(2)
abbrev pub fstat : World → ℕ → ℕ → Outcome
fstat w c d = do
  o ← descriptor w c d
  refuse_if o.dead errno.EBADF
  known ← stat_of (node_of w o.place)
  Go (w, known)

-- getdirentries(2), with all visible names at once
abbrev pub readdir : World → ℕ → ℕ → Outcome
readdir w c d = do
  o ← descriptor w c d
  refuse_if o.dead errno.EBADF
  refuse_if (not (is_dir (facts_of w) o.place)) errno.ENOTDIR
  names ← lifted w (visible w o.place)
  Go (w, reply.Names names)

-- the directory of a descriptor
abbrev pub open_dir : World → ℕ → ℕ → Doing Seen
open_dir w c d = do
  o ← descriptor w c d
  refuse_if o.dead errno.ENOTDIR
  refuse_if (not (is_dir (facts_of w) o.place)) errno.ENOTDIR
  Go o.place

-- fchdir(2)
abbrev pub fchdir : World → ℕ → ℕ → Outcome
fchdir w c d = do
  p ← open_dir w c d
  Go (with_cwd w c p, reply.Done)
