-- What contracts see of a memory file system.
use Rattle.std.specs.Prelude.{ℕ, ◌≡◌, ⊤, Bool, false, List, Option, Some, None, [], refl}
use Rattle.std.specs.Ordering.{nat_cmp}
use Rattle.std.specs.FinMap.{FinMap, remove, code}
use Rattle.std.specs.Coded.{Coded, code_by, coded×, coded_ℕ}
use Rattle.vfs_tree.specs.Nodes.{is_given}
use Rattle.vfs_tree.specs.StoreEdits.{entry_of, with_node_at}
use Rattle.vfs_tree.specs.contracts.node.Node as node
use Rattle.vfs_tree.specs.declared.node.Node.{Node}
use Rattle.vfs_tree.specs.declared.view.DirFacts.{DirFacts}
use Rattle.vfs_tree.specs.declared.node.Node.TheVariants.{Dir, File, Link}
use Rattle.vfs_tree.specs.declared.node.NameEntry.{NameEntry}
use Rattle.vfs_tree.specs.declared.node.NameEntry.TheVariants.{Ino, White}
use Rattle.vfs_tree.specs.declared.node.Store.{Store}
use Rattle.mem_fs.specs.Inodes.{Inodes, store_of, reads_at, reserved_at}

-- the store, how many records of each directory were read, and up to which length each regular file has room
pub record FileSystem : Type 0 where
  pub store : Store
  pub reads : FinMap nat_cmp ℕ
  pub reserved : FinMap nat_cmp ℕ

-- the code of what contracts see of a memory file system
abbrev pub file_system_code : Coded FileSystem
file_system_code =
    code_by ((FinMap nat_cmp Node × ℕ) × (FinMap nat_cmp ℕ × FinMap nat_cmp ℕ))
    (coded× (coded× (code coded_ℕ node.the_row.coded) coded_ℕ) (coded× (code coded_ℕ coded_ℕ) (code coded_ℕ coded_ℕ)))
    (λ f. ((f.store.nodes, f.store.next), (f.reads, f.reserved)))
    (λ p. record { store = record { nodes = p.0.0; next = p.0.1 }; reads = p.1.0; reserved = p.1.1 }) (λ _. refl)

-- what contracts see of nodes
abbrev pub seen : Inodes → ℕ → FileSystem
seen m next = record { store = store_of m next; reads = reads_at m; reserved = reserved_at m }

-- the same but for the store
abbrev pub with_store : Store → FileSystem → FileSystem
with_store t f = record { store = t; reads = f.reads; reserved = f.reserved }

-- the same but for an edit of one node
abbrev pub with_edit : (Node → Node) → FileSystem → ℕ → FileSystem
with_edit h f i = with_store (with_node_at h f.store i) f

-- the same without one node
abbrev pub without : FileSystem → ℕ → FileSystem
without f i = record { store = record { nodes = remove f.store.nodes i; next = f.store.next }; reads = remove f.reads i; reserved = remove f.reserved i }

-- the bytes of a regular file; a node of another kind has none
abbrev pub bytes_in : Option Node → List ℕ
bytes_in (Some (File bytes)) = bytes
bytes_in (Some (Dir parent opaque names)) = []
bytes_in (Some (Link target)) = []
bytes_in None = []

-- what is to be known of a directory that is linked or isn't
abbrev pub facts_by : Bool → Node → Option DirFacts
facts_by linked (Dir parent opaque names) = Some (record { parent = parent; opaque = opaque; linked = linked })
facts_by linked (File bytes) = None
facts_by linked (Link target) = None

-- ---- what the calls on names ask for

-- what an entry gives has no names that give an inode
abbrev pub GivesBare : Store → Option NameEntry → Type 0
GivesBare t (Some (Ino i)) = (n : List ℕ) → is_given (entry_of t i n) ≡ false
GivesBare t (Some White) = ⊤
GivesBare t None = ⊤
