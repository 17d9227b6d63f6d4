-- What contracts see of a directory.
use Rattle.std.specs.Prelude.{ℕ, ◌≡◌, ◌<◌, ◌≤◌, List, [], Option, Some, None, IfSome, Bool, true, false, refl}
use Rattle.std.specs.List.{filter_map}
use Rattle.std.specs.FinMap.{entries, code}
use Rattle.std.specs.Coded.{Coded, code_by, coded×, coded_ℕ}
use Rattle.vfs_tree.specs.Name.{coded_name}
use Rattle.vfs_tree.specs.contracts.node.NameEntry as entry
use Rattle.vfs_tree.specs.Nodes.{Names}
use Rattle.vfs_tree.specs.Visible.{given_name}
use Rattle.mem_dir.specs.Records.{Record, joined, IsRising, AreFilled}
use Rattle.vfs_tree.specs.declared.node.NameEntry.{NameEntry}
use Rattle.vfs_tree.specs.declared.node.NameEntry.TheVariants.{Ino, White}

-- the names, how many more have room, and how many records were read
pub record Directory : Type 0 where
  pub names : Names
  pub spare : ℕ
  pub reads : ℕ

-- the code of what contracts see of a directory
abbrev pub directory_code : Coded Directory
directory_code =
    code_by (Names × (ℕ × ℕ)) (coded× (code coded_name entry.the_row.coded) (coded× coded_ℕ coded_ℕ)) (λ d. (d.names, (d.spare, d.reads)))
    (λ p. record { names = p.0; spare = p.1.0; reads = p.1.1 }) (λ _. refl)

-- a name that gives a whiteout
abbrev pub white_name : List ℕ × NameEntry → Option (List ℕ)
white_name (n, Ino i) = None
white_name (n, White) = Some n

-- the names that give a whiteout, in byte order
abbrev pub white_names : Names → List (List ℕ)
white_names names = filter_map white_name (entries names)

-- the name of a record, if it gives a whiteout or if it gives an inode
abbrev pub listed : Bool → List ℕ × NameEntry → Option (List ℕ)
listed true = white_name
listed false = given_name

-- records in order in blocks that are not empty; with a spare name, an empty block is at hand and the list of blocks has
-- room for it
pub record IsReady (blocks : List (List Record)) (len capacity : ℕ) (room : Option (List Record)) (spare : ℕ) : Type 0 where
  pub rising : IsRising (joined blocks)
  pub filled : AreFilled blocks
  pub empty : IfSome room (λ block. block ≡ [])
  pub one : spare ≤ 1
  pub at_hand : 0 < spare → room ≡ Some []
  pub list_room : 0 < spare → len < capacity
