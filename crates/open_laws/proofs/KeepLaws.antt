-- The node of an open file is there, and is kept.
use Rattle.std.proofs.Common.{◌≡◌, ℕ, true, false, ◌==◌, List, refl, subst, eq-eqb}
use Rattle.std.specs.Prelude.{Option, Some, None, IsSome, IfSome, option_map}
use Rattle.std.specs.FinMap.{get}
use Rattle.vfs_tree.specs.Facts.{Facts}
use Rattle.vfs_tree.specs.Layers.{kind_in, store_by, base}
use Rattle.vfs_tree.specs.Mounts.{stands_on, is_of}
use Rattle.vfs_tree.specs.Place.{Seen, Mem, Null, UnionUp, UnionLow, mount_of}
use Rattle.vfs_tree.specs.Sound.{is_mem, is_null, is_union, names_mounts, IsSoundPlace, EachLayer, IsSound}
use Rattle.vfs_tree.specs.Start.{start_world}
use Rattle.vfs_tree.specs.Views.{kind_of_node, facts_of}
use Rattle.vfs_tree.specs.declared.limits.Limits.{Limits}
use Rattle.vfs_tree.specs.declared.mount.MountKind.{MountKind}
use Rattle.vfs_tree.specs.declared.mount.MountKind.TheVariants as kind
use Rattle.vfs_tree.specs.declared.node.Node.{Node}
use Rattle.vfs_tree.specs.declared.open.Open.{Open}
use Rattle.vfs_tree.specs.declared.world.World.{World}
use Rattle.call_model.specs.Checks.{node_of}
use Rattle.call_model.specs.Kept.{kept}
use Rattle.call_model.specs.Legal.{Pending, IsLegal, replay}
use Rattle.call_model.specs.declared.entry.Entry.{Entry}
use Rattle.call_laws.specs.Lasting.{IsOver, IsLasting}
use Rattle.call_laws.proofs.DetachLaws.{is_layer}
use Rattle.call_laws.proofs.NamedLaws.{no_way}
use Rattle.call_laws.proofs.SoundParts.{second_of, or_first, mem_there, mount_there}
use Rattle.call_laws.proofs.WorldLaws.{sound_from_start, lasting_from_start}
use Rattle.open_laws.specs.Standing.{IsLayerDir, IsStanding, AreStanding}
use Rattle.open_laws.proofs.OpenFiles.{open_kept_in}
use Rattle.open_laws.proofs.FreedLaws.{under}
use Rattle.open_laws.proofs.HistoryLaws.{standing_from_start}

-- the store of a place is that of a memory mount, where the mounts stand that it names
module _ (w : World) (sound : IsSound w) (a : ℕ) (stands : IsStanding w a) where
  abbrev f : Facts
  f = facts_of w

  upper_mem : (o : Option MountKind) → IfSome o (EachLayer (IsLayerDir f)) → is_union o ≡ true → is_mem (kind_in f (store_by o)) ≡ true
  upper_mem (Some (kind.Union s u lower)) layers union = layers.0.0.place.mounts
  upper_mem (Some kind.Mem) layers union = no_way union
  upper_mem (Some (kind.Null layer)) layers union = no_way union
  upper_mem None layers union = no_way union

  store_mem : (p : Seen) → names_mounts f p ≡ true → IsOver f p → is_of w.mounts (mount_of p) a ≡ true → is_mem (kind_in f (base f p).store) ≡ true
  store_mem (Mem m i) names over of = names
  store_mem (Null m p) names over of =
      store_mem p (second_of (is_null (kind_in f m)) (names_mounts f p) names) over.1 (under w sound a m (mount_of p) (is_layer (get w.mounts m) (kind_in f m) (mount_of p) refl over.0) of)
  store_mem (UnionUp m i) names over of = upper_mem (kind_in f m) (stands m of) names
  store_mem (UnionLow m u n p) names over of =
      store_mem p (second_of (is_union (kind_in f m)) (names_mounts f p) names) over.1 (under w sound a m (mount_of p) (is_layer (get w.mounts m) (kind_in f m) (mount_of p) refl over.0) of)

-- what holds of everything open that isn't dead
of_open : (P : Open → Type 0) (w : World) (k : ℕ × ℕ) (o : Open) → get w.opens k ≡ Some o → o.dead ≡ false → IfSome (get w.opens k) (λ o. o.dead ≡ false → P o) → P o
of_open P w k o at alive h = subst (λ (y : Option Open). IfSome y (λ o. o.dead ≡ false → P o)) at h alive

pub store_mounted : (w : World) (k : ℕ × ℕ) (o : Open) → IsSound w → IsLasting w → AreStanding w → get w.opens k ≡ Some o → o.dead ≡ false → IsSome (get w.mounts (base (facts_of w) o.place).store)
store_mounted w k o sound lasts stands at alive =
    let s : ℕ = (base (facts_of w) o.place).store in
    let a : ℕ = mount_of o.place in
    let place : IsSoundPlace (facts_of w) o.place = of_open (λ o. IsSoundPlace (facts_of w) o.place) w k o at alive (sound.opens k) in
    let over : IsOver (facts_of w) o.place = of_open (λ o. IsOver (facts_of w) o.place) w k o at alive (lasts.opens k) in
    let stood : IsStanding w a = of_open (λ o. IsStanding w (mount_of o.place)) w k o at alive (stands k) in
    mount_there (get w.mounts s) (mem_there (kind_in (facts_of w) s) (store_mem w sound a stood o.place place.mounts over (or_first (a == a) (stands_on w.mounts a a) (eq-eqb a a refl))))

known_node : (r : Option Node) → IsSome (option_map kind_of_node r) → IsSome r
known_node (Some x) h = refl
known_node None h = no_way h

pub node_there : (w : World) (k : ℕ × ℕ) (o : Open) → IsSound w → get w.opens k ≡ Some o → o.dead ≡ false → IsSome (node_of w o.place)
node_there w k o sound at alive = known_node (node_of w o.place) (of_open (λ o. IsSoundPlace (facts_of w) o.place) w k o at alive (sound.opens k)).base

pub node_kept : (w : World) (k : ℕ × ℕ) (o : Open) → IsSound w → IsLasting w → AreStanding w → get w.opens k ≡ Some o → o.dead ≡ false → node_of (kept w) o.place ≡ node_of w o.place
node_kept w k o sound lasts stands at alive = open_kept_in w k o sound at alive (store_mounted w k o sound lasts stands at alive)

-- ---- histories

module _ (limits : Limits) (p : Pending) (es : List Entry) (k : ℕ × ℕ) (o : Open) where
  abbrev v : World
  v = replay (start_world limits) es

  pub history_mounted : IsLegal p (start_world limits) es → get v.opens k ≡ Some o → o.dead ≡ false → IsSome (get v.mounts (base (facts_of v) o.place).store)
  history_mounted legal = store_mounted v k o (sound_from_start limits p es legal) (lasting_from_start limits p es legal) (standing_from_start limits p es legal)

  pub history_there : IsLegal p (start_world limits) es → get v.opens k ≡ Some o → o.dead ≡ false → IsSome (node_of v o.place)
  history_there legal = node_there v k o (sound_from_start limits p es legal)

  pub history_kept : IsLegal p (start_world limits) es → get v.opens k ≡ Some o → o.dead ≡ false → node_of (kept v) o.place ≡ node_of v o.place
  history_kept legal = node_kept v k o (sound_from_start limits p es legal) (lasting_from_start limits p es legal) (standing_from_start limits p es legal)
