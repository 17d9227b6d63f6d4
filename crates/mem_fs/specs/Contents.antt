-- What a node holds, and its edits.
use Rattle.std.specs.Prelude.{ℕ, ◌≡◌, ◌+◌, ◌-◌, ◌<◌, ◌≤◌, ◌^◌, ⊤, Bool, ◌||◌, if◌then◌else◌, is_some, List, Option, Some, None, min, max}
use Rattle.std.specs.FinMap.{get, insert, remove, empty}
use Rattle.vfs_tree.specs.Bytes.{resize_bytes, write_bytes}
use Rattle.vfs_tree.specs.declared.node.Node.{Node}
use Rattle.vfs_tree.specs.declared.node.Node.TheVariants.{Dir, File, Link}
use Rattle.vfs_tree.specs.declared.node.NameEntry.{NameEntry}
use Rattle.mem_dir.specs.Directory.{Directory}
use Rattle.mem_file.specs.Contents.{Contents}
use Rattle.mem_fs.specs.declared.inode.Content.{Content}
use Rattle.mem_fs.specs.declared.inode.Content.TheVariants as held

-- ---- what contracts see

-- a node as a store has it
abbrev pub shown : Content → Node
shown (held.Dir parent opaque name names) = Dir parent opaque names.names
shown (held.File bytes) = File bytes.bytes
shown (held.Link target) = Link target

-- how many records of a directory were read
abbrev pub reads_of : Content → Option ℕ
reads_of (held.Dir parent opaque name names) = Some names.reads
reads_of (held.File bytes) = None
reads_of (held.Link target) = None

-- up to which length a regular file has room
abbrev pub reserved_of : Content → Option ℕ
reserved_of (held.Dir parent opaque name names) = None
reserved_of (held.File bytes) = Some bytes.reserved
reserved_of (held.Link target) = None

-- the name that its parent has for a directory
abbrev pub name_of : Content → Option (List ℕ)
name_of (held.Dir parent opaque name names) = name
name_of (held.File bytes) = None
name_of (held.Link target) = None

-- ---- room

-- a directory has room for a name, or has that name
abbrev pub HasRoom : List ℕ → Content → Type 0
HasRoom n (held.Dir parent opaque name names) = get names.names n ≡ None → 0 < names.spare
HasRoom n (held.File bytes) = ⊤
HasRoom n (held.Link target) = ⊤

-- a directory has room for any name
abbrev pub IsRoomy : Content → Type 0
IsRoomy (held.Dir parent opaque name names) = 0 < names.spare
IsRoomy (held.File bytes) = ⊤
IsRoomy (held.Link target) = ⊤

-- a regular file has room up to a length
abbrev pub HasRoomTo : ℕ → Content → Type 0
HasRoomTo len (held.Dir parent opaque name names) = ⊤
HasRoomTo len (held.File bytes) = len ≤ bytes.reserved
HasRoomTo len (held.Link target) = ⊤

-- ---- edits

-- a directory whose names and room are changed
abbrev pub with_dir : (Directory → Directory) → Content → Content
with_dir f (held.Dir parent opaque name names) = held.Dir parent opaque name (f names)
with_dir f (held.File bytes) = held.File bytes
with_dir f (held.Link target) = held.Link target

-- a regular file whose bytes and room are changed
abbrev pub with_file : (Contents → Contents) → Content → Content
with_file f (held.Dir parent opaque name names) = held.Dir parent opaque name names
with_file f (held.File bytes) = held.File (f bytes)
with_file f (held.Link target) = held.Link target

-- an entry is put at a name
abbrev pub put_in : List ℕ → NameEntry → Content → Content
put_in n e = with_dir (λ d. record { names = insert d.names n e; spare = if is_some (get d.names n) then d.spare else d.spare - 1; reads = d.reads })

-- the entry at a name goes
abbrev pub cleared_in : List ℕ → Content → Content
cleared_in n = with_dir (λ d. record { names = remove d.names n; spare = d.spare; reads = d.reads })

-- one more record was read
abbrev pub counted_in : Content → Content
counted_in = with_dir (λ d. record { names = d.names; spare = d.spare; reads = min (d.reads + 1) (2 ^ 64 - 1) })

-- there is room for a name
abbrev pub made_ready : Content → Content
made_ready = with_dir (λ d. record { names = d.names; spare = max d.spare 1; reads = d.reads })

-- a directory that no name gives any more, without names
abbrev pub bared : Content → Content
bared (held.Dir parent opaque name names) = held.Dir parent opaque None (record { names = empty; spare = names.spare; reads = names.reads })
bared (held.File bytes) = held.File bytes
bared (held.Link target) = held.Link target

-- a directory for which its parent has no name any more
abbrev pub nameless : Content → Content
nameless (held.Dir parent opaque name names) = held.Dir parent opaque None names
nameless (held.File bytes) = held.File bytes
nameless (held.Link target) = held.Link target

-- a directory gets its new parent and its name there, and becomes opaque where that is said
abbrev pub placed : ℕ → List ℕ → Bool → Content → Content
placed to own hides (held.Dir parent opaque name names) = held.Dir to (opaque || hides) (Some own) names
placed to own hides (held.File bytes) = held.File bytes
placed to own hides (held.Link target) = held.Link target

-- a piece is put at an offset
abbrev pub written_in : ℕ → List ℕ → Content → Content
written_in at piece = with_file (λ f. record { bytes = write_bytes f.bytes at piece; reserved = f.reserved })

-- a file gets a length
abbrev pub cut_in : ℕ → Content → Content
cut_in len = with_file (λ f. record { bytes = resize_bytes f.bytes len; reserved = f.reserved })

-- a file has room up to a length
abbrev pub reserved_to : ℕ → Content → Content
reserved_to len = with_file (λ f. record { bytes = f.bytes; reserved = max f.reserved len })
