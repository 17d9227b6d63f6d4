-- Nodes that are to be made.
use Rattle.std.specs.Prelude.{ℕ, Bool, false, List, [], Option, Some, None}
use Rattle.vfs_tree.specs.Edits.{new_dir}
use Rattle.vfs_tree.specs.declared.node.Node.{Node}
use Rattle.vfs_tree.specs.declared.node.Node.TheVariants.{File, Link}
use Rattle.mem_fs.specs.declared.inode.NewNode.{NewNode}
use Rattle.mem_fs.specs.declared.inode.NewNode.TheVariants as new

-- the node under a name of a directory: a new directory is opaque where a whiteout stood there, a shadow never is
abbrev pub new_node : ℕ → Bool → NewNode → Node
new_node parent white new.Dir = new_dir parent white
new_node parent white new.File = File []
new_node parent white (new.Link target) = Link target
new_node parent white new.Shadow = new_dir parent false
new_node parent white (new.Copy bytes) = File bytes.bytes

-- how many records of a directory were read
abbrev pub new_reads : NewNode → Option ℕ
new_reads new.Dir = Some 0
new_reads new.File = None
new_reads (new.Link target) = None
new_reads new.Shadow = Some 0
new_reads (new.Copy bytes) = None

-- up to which length a regular file has room
abbrev pub new_reserved : NewNode → Option ℕ
new_reserved new.Dir = None
new_reserved new.File = Some 0
new_reserved (new.Link target) = None
new_reserved new.Shadow = None
new_reserved (new.Copy bytes) = Some bytes.reserved

-- the name that its parent has for a directory
abbrev pub new_name : List ℕ → NewNode → Option (List ℕ)
new_name n new.Dir = Some n
new_name n new.File = None
new_name n (new.Link target) = None
new_name n new.Shadow = Some n
new_name n (new.Copy bytes) = None
