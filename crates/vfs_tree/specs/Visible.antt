-- The names that a directory shows.
use Rattle.std.specs.Prelude.{ℕ, zero, suc, Bool, true, false, if◌then◌else◌, List, [], ◌∷◌, Option, Some, None, is_some}
use Rattle.std.specs.List.{filter_map, fold}
use Rattle.std.specs.FinMap.{get, insert, entries, empty, contains_key}
use Rattle.vfs_tree.specs.Place.{Seen, Mem, Null, UnionUp, UnionLow, mount_of}
use Rattle.vfs_tree.specs.Layers.{kind_in, store_by}
use Rattle.vfs_tree.specs.Child.{low}
use Rattle.vfs_tree.specs.Nodes.{Names, node_at}
use Rattle.vfs_tree.specs.Steps.{Step, Go, Refuse, Wants, ◌>>=◌}
use Rattle.vfs_tree.specs.Views.{facts_of}
use Rattle.vfs_tree.specs.declared.node.NameEntry.{NameEntry}
use Rattle.vfs_tree.specs.declared.node.NameEntry.TheVariants.{Ino, White}
use Rattle.vfs_tree.specs.declared.node.Node.{Node}
use Rattle.vfs_tree.specs.declared.node.Node.TheVariants.{Dir, File, Link}
use Rattle.vfs_tree.specs.declared.walk.Child.{Child}
use Rattle.vfs_tree.specs.declared.walk.Child.TheVariants as child
use Rattle.vfs_tree.specs.declared.walk.Need.{Need}
use Rattle.vfs_tree.specs.declared.world.World.{World}

abbrev pub names_in : Option Node → Names
names_in (Some (Dir parent opaque names)) = names
names_in (Some (File bytes)) = empty
names_in (Some (Link target)) = empty
names_in None = empty

-- the names and whiteouts of a directory of a store
abbrev pub names_at : World → ℕ → ℕ → Names
names_at w s i = names_in (node_at w s i)

-- a name that gives an inode
abbrev pub given_name : List ℕ × NameEntry → Option (List ℕ)
given_name (n, Ino i) = Some n
given_name (n, White) = None

-- the names that give an inode, in byte order
abbrev pub given_names : Names → List (List ℕ)
given_names names = filter_map given_name (entries names)

-- a name of the lower part is added, unless the upper directory has an entry for it
abbrev pub with_lower_name : Names → Names → List ℕ → Names
with_lower_name upper names n = if contains_key upper n then names else insert names n (Ino 0)

-- the upper names that give an inode, and those of the lower part for which the upper directory has no entry: once each,
-- in byte order
abbrev pub merged : Names → List (List ℕ) → List (List ℕ)
merged upper lower = given_names (fold (with_lower_name upper) upper lower)

abbrev pub Listed : Type 0
Listed = Step (List (List ℕ)) Need

-- the names of a lower part, where there is one
abbrev pub listed_below : (Seen → Listed) → Child → Listed
listed_below list (child.At d) = list d
listed_below list child.Absent = Go []
listed_below list (child.Need x) = Wants x

abbrev pub visible_within : ℕ → World → Seen → Listed
visible_within zero w d = Go []
visible_within (suc k) w (Mem m i) = Go (given_names (names_at w m i))
visible_within (suc k) w (Null m p) = visible_within k w p
visible_within (suc k) w (UnionUp m u) =
    listed_below (visible_within k w) (low (facts_of w) m u) >>= (λ lower. Go (merged (names_at w (store_by (kind_in (facts_of w) m)) u) lower))
visible_within (suc k) w (UnionLow m u n p) = Go []

-- The names that a directory shows, once each, in byte order; a lower part that needs a shadow directory first is a need
-- of the listing too.
abbrev pub visible : World → Seen → Listed
visible w d = visible_within (suc (mount_of d)) w d

-- whether there is a name
abbrev pub is_some_name : List (List ℕ) → Bool
is_some_name [] = false
is_some_name (n ∷ names) = true

-- whether there is a name in a listing, or what it needs first
abbrev pub any_listed : Listed → Step Bool Need
any_listed listed = listed >>= (λ names. Go (is_some_name names))

-- whether a directory shows a name; a lower part that needs a shadow directory first is a need of this too
abbrev pub has_visible : World → Seen → Step Bool Need
has_visible w d = any_listed (visible w d)
