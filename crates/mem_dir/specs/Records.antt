-- Records of names in byte order.
use Rattle.std.specs.Prelude.{ℕ, ◌≡◌, ◌<◌, ◌≤◌, ◌+◌, ◌-◌, Bool, true, false, List, [], ◌∷◌, ⊤, length, slice_index_or, All}
use Rattle.std.specs.List.{flat_map, list_any, AllByRecursion}
use Rattle.std.specs.Ordering.{is_lt}
use Rattle.std.specs.declared.cmp.Ordering.TheVariants.{Less}
use Rattle.std.specs.FinMap as map
use Rattle.vfs_tree.specs.Name.{name_cmp}
use Rattle.vfs_tree.specs.Counts.{gives_node}
use Rattle.vfs_tree.specs.Nodes.{Names}
use Rattle.vfs_tree.specs.declared.node.NameEntry.{NameEntry}
use Rattle.vfs_tree.specs.declared.node.NameEntry.TheVariants.{White}

-- a name, and what it gives
abbrev pub Record : Type 0
Record = List ℕ × NameEntry

-- whether a name comes before another
abbrev pub is_below : List ℕ → List ℕ → Bool
is_below a b = is_lt (name_cmp a b)

-- the record at a place
abbrev pub record_at : List Record → ℕ → Record
record_at records at = slice_index_or records at ([], White)

-- the name at a place
abbrev pub name_at : List Record → ℕ → List ℕ
name_at records at = (record_at records at).0

-- the records of blocks, one block after another
abbrev pub joined : List (List Record) → List Record
joined blocks = flat_map (λ block. block) blocks

-- whether some record gives an inode
abbrev pub gives_some : List Record → Bool
gives_some records = list_any (λ (r : Record). gives_node r.1) records

-- the first name of the block at a place
abbrev pub first_at : List (List Record) → ℕ → List ℕ
first_at blocks at = name_at (slice_index_or blocks at []) 0

-- each name is below those after it
abbrev pub IsRising : List Record → Type 0
IsRising [] = ⊤
IsRising (e ∷ es) = AllByRecursion (λ f. name_cmp e.0 f.0 ≡ Less) es × IsRising es

-- no block is empty
abbrev pub AreFilled : List (List Record) → Type 0
AreFilled blocks = All (λ block. 0 < length block) blocks

-- a place in a block: the block does not begin behind the name and the next one does, and the place is that of the
-- block's first name that is not below the name
pub record IsPlace (blocks : List (List Record)) (place at : ℕ) (name : List ℕ) : Type 0 where
  pub in_list : place < length blocks
  pub from : 0 < place → is_below name (first_at blocks place) ≡ false
  pub to : place + 1 < length blocks → is_below name (first_at blocks (place + 1)) ≡ true
  pub in_block : at ≤ length (slice_index_or blocks place [])
  pub below : 0 < at → is_below (name_at (slice_index_or blocks place []) (at - 1)) name ≡ true
  pub not_below : at < length (slice_index_or blocks place []) → is_below (name_at (slice_index_or blocks place []) at) name ≡ false

-- a map with the records put into it, one after the other
abbrev pub with_records : Names → List Record → Names
with_records names [] = names
with_records names (r ∷ records) = with_records (map.insert names r.0 r.1) records
