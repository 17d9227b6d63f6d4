-- What the inner entries do to a world.
use Rattle.std.specs.Prelude.{ℕ, false, ◌||◌, if◌then◌else◌, List, [], map, Option, Some, None}
use Rattle.std.specs.FinMap.{FinMap, get, insert, entries, from_entries}
use Rattle.std.specs.declared.cmp.Ordering.{Ordering}
use Rattle.vfs_tree.specs.Place.{Seen, Mem, Null, UnionUp, UnionLow}
use Rattle.vfs_tree.specs.Layers.{same_place}
use Rattle.vfs_tree.specs.Child.{child_of, child_below, low}
use Rattle.vfs_tree.specs.Edits.{made, with_store, new_dir}
use Rattle.vfs_tree.specs.Mounts.{cut_with}
use Rattle.vfs_tree.specs.Nodes.{next_of}
use Rattle.vfs_tree.specs.Views.{facts_of}
use Rattle.vfs_tree.specs.declared.node.Node.{Node}
use Rattle.vfs_tree.specs.declared.node.Node.TheVariants.{Dir, File, Link}
use Rattle.vfs_tree.specs.declared.open.Cwd.{Cwd}
use Rattle.vfs_tree.specs.declared.open.Open.{Open}
use Rattle.vfs_tree.specs.declared.walk.Child.{Child}
use Rattle.vfs_tree.specs.declared.walk.Child.TheVariants as child
use Rattle.vfs_tree.specs.declared.world.World.{World}
use Rattle.call_model.specs.Checks.{upper_store, node_of}
use Rattle.call_model.specs.Refs.{place_of}
use Rattle.call_model.specs.declared.entry.Inner.{Inner}
use Rattle.call_model.specs.declared.entry.Inner.TheVariants.{Shadow, CopyUp, Detach, Doom}
use Rattle.call_model.specs.declared.entry.Ref.{Ref}

-- a map with each value changed
abbrev pub each : {K X : Type 0} {R : K → K → Ordering} → (X → X) → FinMap R X → FinMap R X
each f m = from_entries (map (λ e. (e.0, f e.1)) (entries m))

-- ---- nodes in the upper layer of a union

-- a node is made at a name of an upper directory
abbrev pub made_above : World → ℕ → ℕ → List ℕ → Node → World
made_above w m u n node = let s = upper_store w m in with_store (λ t. made t u n node) w s (get w.stores s)

-- a shadow directory: empty, and what the lower layer has is seen in it
abbrev pub shadowed : World → ℕ → ℕ → List ℕ → World
shadowed w m u n = made_above w m u n (new_dir u false)

-- the file of the lower layer is seen in the upper one from now on, where a place stands on it
abbrev pub turned : Seen → Seen → Seen → Seen
turned from to (Mem m i) = Mem m i
turned from to (Null m p) = Null m (turned from to p)
turned from to (UnionUp m i) = UnionUp m i
turned from to (UnionLow m u n p) = if same_place from (UnionLow m u n p) then to else UnionLow m u n (turned from to p)

abbrev pub turned_open : Seen → Seen → Open → Open
turned_open from to o = record o { place = turned from to o.place }

abbrev pub turned_opens : Seen → Seen → World → World
turned_opens from to w = record w { opens = each (turned_open from to) w.opens }

-- a copy of a file or link
abbrev pub copy_of : Option Node → Node
copy_of (Some (File bytes)) = File bytes
copy_of (Some (Link target)) = Link target
copy_of (Some (Dir parent opaque names)) = File []
copy_of None = File []

abbrev pub copied_from : World → ℕ → ℕ → List ℕ → Seen → World
copied_from w m u n q =
    turned_opens (UnionLow m u n q) (UnionUp m (next_of (get w.stores (upper_store w m)))) (made_above w m u n (copy_of (node_of w q)))

abbrev pub copied_child : World → ℕ → ℕ → List ℕ → Child → World
copied_child w m u n (child.At q) = copied_from w m u n q
copied_child w m u n child.Absent = made_above w m u n (File [])
copied_child w m u n (child.Need x) = made_above w m u n (File [])

-- What the lower layer has at the name, a file or a link, is copied to the upper one, and each open file that stands on
-- it turns to the copy.
abbrev pub copied_up : World → ℕ → ℕ → List ℕ → World
copied_up w m u n = let f = facts_of w in copied_child w m u n (child_below (child_of f) (low f m u) n)

-- ---- forced unmounts and revocations

-- the mount is cut, and each that stands on it; the caller is leaving it
abbrev pub detached : World → ℕ → ℕ → World
detached w c m = record w { mounts = each (cut_with w.mounts m) w.mounts; leaving = insert w.leaving c m }

-- what has that place is dead
abbrev pub doomed_open : Seen → Open → Open
doomed_open p o = record o { dead = o.dead || same_place p o.place }

abbrev pub doomed_cwd : Seen → Cwd → Cwd
doomed_cwd p c = record c { dead = c.dead || same_place p c.place }

abbrev pub doomed_place : World → Option Seen → World
doomed_place w (Some p) = record w { opens = each (doomed_open p) w.opens; cwds = each (doomed_cwd p) w.cwds }
doomed_place w None = w

-- each open file and current directory with the same place is dead
abbrev pub doomed : World → Ref → World
doomed w at = doomed_place w (place_of w at)

-- ---- all of them

-- what an inner entry of a caller does
abbrev pub effect : World → ℕ → Inner → World
effect w c (Shadow m u n) = shadowed w m u n
effect w c (CopyUp m u n) = copied_up w m u n
effect w c (Detach m) = detached w c m
effect w c (Doom at) = doomed w at
