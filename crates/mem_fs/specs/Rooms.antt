-- Which nodes have room.
use Rattle.std.specs.Prelude.{ℕ, List, Option, IfSome}
use Rattle.mem_fs.specs.declared.inode.Inode.{Inode}
use Rattle.mem_fs.specs.Contents.{HasRoom, IsRoomy, HasRoomTo}

-- a node, if it is there, has room for a name
abbrev pub HasRoomAt : List ℕ → Option Inode → Type 0
HasRoomAt n o = IfSome o (λ (x : Inode). HasRoom n x.content)

-- for any name
abbrev pub IsRoomyAt : Option Inode → Type 0
IsRoomyAt o = IfSome o (λ (x : Inode). IsRoomy x.content)

-- up to a length
abbrev pub HasRoomToAt : ℕ → Option Inode → Type 0
HasRoomToAt len o = IfSome o (λ (x : Inode). HasRoomTo len x.content)
