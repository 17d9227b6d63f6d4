-- The part of a world that anything can still lead to.
use Rattle.std.specs.Prelude.{ℕ, Bool, not, ◌&&◌, ◌||◌, List, [], ◌∷◌, map, Option, Some, None}
use Rattle.std.specs.List.{list_any}
use Rattle.std.specs.FinMap.{contains_key, entries, from_entries, retain_keys, values}
use Rattle.vfs_tree.specs.Place.{Seen, Mem}
use Rattle.vfs_tree.specs.Facts.{Facts}
use Rattle.vfs_tree.specs.Layers.{base, same_node}
use Rattle.vfs_tree.specs.Views.{facts_of, is_linked_in}
use Rattle.vfs_tree.specs.declared.mount.Mount.{Mount}
use Rattle.vfs_tree.specs.declared.mount.MountKind.{MountKind}
use Rattle.vfs_tree.specs.declared.mount.MountKind.TheVariants as kind
use Rattle.vfs_tree.specs.declared.node.Store.{Store}
use Rattle.vfs_tree.specs.declared.walk.NodeId.{NodeId}
use Rattle.vfs_tree.specs.declared.world.World.{World}

-- ---- what holds a node

-- whether a place rests on the node
abbrev pub rests_on : Facts → NodeId → Seen → Bool
rests_on f id p = same_node (base f p) id

-- the layers of a mount
abbrev pub layer_places : MountKind → List Seen
layer_places kind.Mem = []
layer_places (kind.Null layer) = layer ∷ []
layer_places (kind.Union s u lower) = Mem s u ∷ lower ∷ []

abbrev pub on_places : Option Seen → List Seen → List Seen
on_places (Some p) ps = p ∷ ps
on_places None ps = ps

-- the layers of a mount and the directory that it covers
abbrev pub mount_places : Mount → List Seen
mount_places t = on_places t.on (layer_places t.kind)

-- whether a live open file or directory rests on a node
abbrev pub is_open_on : World → NodeId → Bool
is_open_on w id = let f = facts_of w in list_any (λ o. not o.dead && rests_on f id o.place) (values w.opens)

-- whether a live current directory does
abbrev pub is_cwd_on : World → NodeId → Bool
is_cwd_on w id = let f = facts_of w in list_any (λ d. not d.dead && rests_on f id d.place) (values w.cwds)

-- whether a layer of a mount that isn't cut does, or the directory that it covers
abbrev pub is_mounted_on : World → NodeId → Bool
is_mounted_on w id = let f = facts_of w in list_any (λ t. not t.cut && list_any (rests_on f id) (mount_places t)) (values w.mounts)

-- ---- what is kept

-- whether a node is kept: the root, one that a name of its store gives, and one on which something rests
abbrev pub is_kept : World → ℕ → Store → ℕ → Bool
is_kept w s t i = let id : NodeId = record { store = s; ino = i } in is_linked_in t i || (is_open_on w id || (is_cwd_on w id || is_mounted_on w id))

-- a store with the nodes that are kept
abbrev pub kept_store : World → ℕ → Store → Store
kept_store w s t = record t { nodes = retain_keys t.nodes (is_kept w s t) }

-- a world without the stores whose mount is gone, and without the nodes that nothing leads to
abbrev pub kept : World → World
kept w = record w {
  stores = from_entries (map (λ e. (e.0, kept_store w e.0 e.1)) (entries (retain_keys w.stores (contains_key w.mounts))));
}
