-- Mounts stay few layers deep.
use Rattle.std.proofs.Common.{◌≡◌, ℕ, zero, suc, ◌+◌, ◌≤◌, ◌<◌, inl, inr, false, ◌==◌, List, [], refl, ap, sym, ◌∙◌, subst, arith, eq-eqb, eq-or-lt_of_le}
use Rattle.std.specs.Prelude.{Option, Some, None, IfSome, is_some, option_map}
use Rattle.std.specs.Cmp.{nat_cmp_total}
use Rattle.std.specs.FinMap.{get}
use Rattle.vfs_tree.specs.Child.{child_of, child_below, low}
use Rattle.vfs_tree.specs.Facts.{Facts}
use Rattle.vfs_tree.specs.Edits.{new_dir}
use Rattle.vfs_tree.specs.Layers.{kind_in, cut_by, depth_by, depth_within, depth}
use Rattle.vfs_tree.specs.Mounts.{cut_with}
use Rattle.vfs_tree.specs.Place.{Seen, mount_of}
use Rattle.vfs_tree.specs.Sound.{EachLayer, EachPlace, IsSound}
use Rattle.vfs_tree.specs.Start.{root_mount, start_world}
use Rattle.vfs_tree.specs.Views.{facts_of}
use Rattle.vfs_tree.specs.declared.limits.Limits.{Limits}
use Rattle.vfs_tree.specs.declared.mount.Mount.{Mount}
use Rattle.vfs_tree.specs.declared.mount.MountKind.{MountKind}
use Rattle.vfs_tree.specs.declared.mount.MountKind.TheVariants as kind
use Rattle.vfs_tree.specs.declared.node.Node.{Node}
use Rattle.vfs_tree.specs.declared.node.Node.TheVariants.{File}
use Rattle.vfs_tree.specs.declared.walk.Child.{Child}
use Rattle.vfs_tree.specs.declared.walk.Child.TheVariants as child
use Rattle.vfs_tree.specs.declared.world.World.{World}
use Rattle.call_model.specs.Checks.{upper_store, node_of}
use Rattle.call_model.specs.Effects.{made_above, copy_of, copied_child, doomed_place, effect}
use Rattle.call_model.specs.Legal.{Pending, IsLegal, after, replay}
use Rattle.call_model.specs.MountRows.{most_depth}
use Rattle.call_model.specs.Refs.{place_of}
use Rattle.call_model.specs.declared.call.Call.{Call}
use Rattle.call_model.specs.declared.entry.Entry.{Entry}
use Rattle.call_model.specs.declared.entry.Entry.TheVariants as entry
use Rattle.call_model.specs.declared.entry.Inner.{Inner}
use Rattle.call_model.specs.declared.entry.Inner.TheVariants.{Shadow, CopyUp, Detach, Doom}
use Rattle.call_model.specs.declared.reply.Reply.{Reply}
use Rattle.call_laws.specs.Lasting.{lower_mount, IsOver, IsLasting}
use Rattle.call_laws.proofs.DetachLaws.{lower_less}
use Rattle.call_laws.proofs.FlagLaws.{get_each}
use Rattle.call_laws.proofs.NamedLaws.{no_way}
use Rattle.call_laws.proofs.PlaceLaws.{lasting-start}
use Rattle.call_laws.proofs.SoundLaws.{sound-start, only}
use Rattle.call_laws.proofs.SoundParts.{each_layer, mount_there}
use Rattle.call_laws.proofs.Whole.{IsWhole}
use Rattle.call_laws.proofs.WorldLaws.{whole-call, kept-history}
use Rattle.model_laws.proofs.FuelLaws.{depth_mem, depth_null, depth_union}
use Rattle.fuel_laws.specs.Layered.{IsFalling, IsLayered}
use Rattle.fuel_laws.proofs.ApartLaws.{HasRoom, Grown, kind_by, same-store, apart_call}
use Rattle.fuel_laws.proofs.LookLaws.{over_falls}

-- ---- mounts of the same kinds

module _ (f g : Facts) (same : (m : ℕ) → kind_in g m ≡ kind_in f m) where
  depth_alike : (k : Option MountKind) (a b : ℕ → ℕ) → ((m : ℕ) → a m ≡ b m) → depth_by a k ≡ depth_by b k
  depth_alike (Some kind.Mem) a b e = refl
  depth_alike (Some (kind.Null layer)) a b e = ap (λ n. 1 + n) (e (mount_of layer))
  depth_alike (Some (kind.Union s u lower)) a b e = ap (λ n. 1 + n) (e (mount_of lower))
  depth_alike None a b e = refl

  depth_kept : (k m : ℕ) → depth_within k g m ≡ depth_within k f m
  depth_kept zero m = refl
  depth_kept (suc k) m = ap (depth_by (depth_within k g)) (same m) ∙ depth_alike (kind_in f m) (depth_within k g) (depth_within k f) (depth_kept k)

layered_same : (w v : World) → ((m : ℕ) → kind_in (facts_of v) m ≡ kind_in (facts_of w) m) → IsLayered w → IsLayered v
layered_same w v same h = record {
  few = λ p. subst (λ n. n ≤ most_depth) (sym (depth_kept (facts_of w) (facts_of v) same (suc (mount_of p)) (mount_of p))) (h.few p);
  falling = λ m. subst (λ o. IfSome o (EachLayer IsFalling)) (sym (same m)) (h.falling m);
}

-- ---- inner entries

kind_as : (w v : World) → v.mounts ≡ w.mounts → (m : ℕ) → kind_in (facts_of v) m ≡ kind_in (facts_of w) m
kind_as w v e m = ap (λ x. kind_by (get x m)) e

mounts_above : (w : World) (m u : ℕ) (n : List ℕ) (node : Node) → (made_above w m u n node).mounts ≡ w.mounts
mounts_above w m u n node = (same-store _ w (upper_store w m) (get w.stores (upper_store w m))).1

mounts_copied : (w : World) (m u : ℕ) (n : List ℕ) (o : Child) → (copied_child w m u n o).mounts ≡ w.mounts
mounts_copied w m u n (child.At q) = mounts_above w m u n (copy_of (node_of w q))
mounts_copied w m u n child.Absent = mounts_above w m u n (File [])
mounts_copied w m u n (child.Need x) = mounts_above w m u n (File [])

mounts_doomed : (w : World) (o : Option Seen) → (doomed_place w o).mounts ≡ w.mounts
mounts_doomed w (Some p) = refl
mounts_doomed w None = refl

kind_cut : (w : World) (m : ℕ) (o : Option Mount) → kind_by (option_map (cut_with w.mounts m) o) ≡ kind_by o
kind_cut w m (Some t) = refl
kind_cut w m None = refl

kind_inner : (w : World) (c : ℕ) (x : Inner) (n : ℕ) → kind_in (facts_of (effect w c x)) n ≡ kind_in (facts_of w) n
kind_inner w c (Shadow m u a) n = kind_as w (effect w c (Shadow m u a)) (mounts_above w m u a (new_dir u false)) n
kind_inner w c (CopyUp m u a) n = kind_as w (effect w c (CopyUp m u a)) (mounts_copied w m u a (child_below (child_of (facts_of w)) (low (facts_of w) m u) a)) n
kind_inner w c (Detach m) n = ap kind_by (get_each nat_cmp_total (cut_with w.mounts m) w.mounts n) ∙ kind_cut w m (get w.mounts n)
kind_inner w c (Doom at) n = kind_as w (effect w c (Doom at)) (mounts_doomed w (place_of w at)) n

pub layered_inner : (w : World) (c : ℕ) (x : Inner) → IsLayered w → IsLayered (effect w c x)
layered_inner w c x h = layered_same w (effect w c x) (kind_inner w c x) h

-- ---- calls

not_most : (n : ℕ) → n ≤ most_depth → (n == most_depth) ≡ false → n < most_depth
not_most n most other = elim (eq-or-lt_of_le most) as (λ _. n < most_depth) [ inl e ↦ no_way (sym other ∙ eq-eqb n most_depth e) | inr less ↦ less ]

module _ (w v : World) (whole : IsWhole w) (new : IsWhole v) (layered : IsLayered w) (grown : (m : ℕ) → Grown w m (get v.mounts m)) where
  abbrev f : Facts
  f = facts_of w

  abbrev g : Facts
  g = facts_of v

  number : (m : ℕ) (k : MountKind) → kind_in f m ≡ Some k → m < w.next_mount
  number m k is = whole.lasts.counted.mounts m (mount_there (get w.mounts m) (ap is_some is))

  lower : (m l : ℕ) (k : Option MountKind) → kind_in f m ≡ k → lower_mount k ≡ Some l → l < m
  lower m l k is e = lower_less m (f.mount m) l (whole.sound.view.smaller m) (ap lower_mount is ∙ e)

  -- a layer of a mount that was there is no new mount
  old : (m l : ℕ) (k : MountKind) → kind_in f m ≡ Some k → lower_mount (Some k) ≡ Some l → l ≡ w.next_mount → ⊥
  old m l k is e same =
      let less : l < m = lower m l (Some k) is e in
      let most : m < w.next_mount = number m k is in
      omega (arith, less, most, same)

  kept_depth : (below over : ℕ → ℕ) (m : ℕ) (k : Option MountKind) → kind_in f m ≡ k → ((l : ℕ) → (l ≡ w.next_mount → ⊥) → below l ≤ over l) → depth_by below k ≤ depth_by over k
  kept_depth below over m (Some kind.Mem) is h = omega arith
  kept_depth below over m (Some (kind.Null layer)) is h =
      let less : below (mount_of layer) ≤ over (mount_of layer) = h (mount_of layer) (old m (mount_of layer) (kind.Null layer) is refl) in omega (arith, less)
  kept_depth below over m (Some (kind.Union s u l)) is h =
      let less : below (mount_of l) ≤ over (mount_of l) = h (mount_of l) (old m (mount_of l) (kind.Union s u l) is refl) in omega (arith, less)
  kept_depth below over m None is h = omega arith

  -- what isn't new is no deeper than it was
  no_deeper : (k m : ℕ) → (m ≡ w.next_mount → ⊥) → depth_within k g m ≤ depth_within k f m
  no_deeper zero m other = omega arith
  no_deeper (suc k) m other =
      elim (grown m) as (λ _. depth_by (depth_within k g) (kind_in g m) ≤ depth_by (depth_within k f) (kind_in f m)) [
        | inl x ↦ elim x as (λ _. depth_by (depth_within k g) (kind_in g m) ≤ depth_by (depth_within k f) (kind_in f m)) [
          | inl none ↦ subst (λ o. depth_by (depth_within k g) o ≤ depth_by (depth_within k f) (kind_in f m)) (sym none) (omega arith)
          | inr same ↦ subst (λ o. depth_by (depth_within k g) o ≤ depth_by (depth_within k f) (kind_in f m)) (sym same) (kept_depth (depth_within k g) (depth_within k f) m (kind_in f m) refl (no_deeper k))
        ]
        | inr new ↦ absurd (other new.at)
      ]

  -- where nothing is, nothing is under it
  depth_none : (p : Seen) → kind_in g (mount_of p) ≡ None → depth g p ≤ most_depth
  depth_none p is = subst (λ o. depth_by (depth_within (mount_of p) g) o ≤ most_depth) (sym is) (omega arith)

  depth_old : (p : Seen) → (k : Option MountKind) → kind_in f (mount_of p) ≡ k → kind_in g (mount_of p) ≡ k → depth g p ≤ most_depth
  depth_old p (Some k) was is =
      let less : mount_of p < w.next_mount = number (mount_of p) k was in
      let fewer : depth g p ≤ depth f p = no_deeper (suc (mount_of p)) (mount_of p) (λ e. omega (arith, less, e)) in
      let most : depth f p ≤ most_depth = layered.few p in
      omega (arith, fewer, most)
  depth_old p None was is = depth_none p is

  -- one layer more
  one_more : (p layer : Seen) → mount_of p ≡ w.next_mount → mount_of layer < mount_of p → (depth f layer == most_depth) ≡ false → depth g p ≡ 1 + depth g layer → depth g p ≤ most_depth
  one_more p layer at less shallow is =
      let fewer : depth g layer ≤ depth f layer = no_deeper (suc (mount_of layer)) (mount_of layer) (λ e. omega (arith, less, e, at)) in
      let room : depth f layer < most_depth = not_most (depth f layer) (layered.few layer) shallow in
      subst (λ n. n ≤ most_depth) (sym is) (omega (arith, fewer, room))

  new_lower : (m l : ℕ) (k : Option MountKind) → kind_in g m ≡ k → lower_mount k ≡ Some l → l < m
  new_lower m l k is e = lower_less m (g.mount m) l (new.sound.view.smaller m) (ap lower_mount is ∙ e)

  depth_new : (p : Seen) (k : Option MountKind) → kind_in g (mount_of p) ≡ k → mount_of p ≡ w.next_mount → HasRoom f k → depth g p ≤ most_depth
  depth_new p (Some kind.Mem) is at room = subst (λ n. n ≤ most_depth) (sym (depth_mem v p is)) (omega arith)
  depth_new p (Some (kind.Null layer)) is at room =
      one_more p layer at (new_lower (mount_of p) (mount_of layer) (Some (kind.Null layer)) is refl) room (depth_null v p layer new.sound is)
  depth_new p (Some (kind.Union s u l)) is at room =
      one_more p l at (new_lower (mount_of p) (mount_of l) (Some (kind.Union s u l)) is refl) room (depth_union v p l s u new.sound is)
  depth_new p None is at room = depth_none p is

  few_new : (p : Seen) → depth g p ≤ most_depth
  few_new p =
      elim (grown (mount_of p)) as (λ _. depth g p ≤ most_depth) [
        | inl x ↦ elim x as (λ _. depth g p ≤ most_depth) [
          | inl none ↦ depth_none p none
          | inr same ↦ depth_old p (kind_in f (mount_of p)) refl same
        ]
        | inr added ↦ depth_new p (kind_in g (mount_of p)) refl added.at added.room
      ]

  falling_new : (m : ℕ) (o : Option Mount) → IfSome o (λ t. t.cut ≡ false → EachPlace (IsOver g) t) → cut_by o ≡ false → IfSome (kind_by o) (EachLayer IsFalling)
  falling_new m (Some t) h uncut = each_layer (IsOver g) IsFalling (over_falls g new.sound.view.smaller) t.kind (h uncut).1
  falling_new m None h uncut = tt

  falling_all : (m : ℕ) → IfSome (kind_in g m) (EachLayer IsFalling)
  falling_all m =
      elim (grown m) as (λ _. IfSome (kind_in g m) (EachLayer IsFalling)) [
        | inl x ↦ elim x as (λ _. IfSome (kind_in g m) (EachLayer IsFalling)) [
          | inl none ↦ subst (λ o. IfSome o (EachLayer IsFalling)) (sym none) tt
          | inr same ↦ subst (λ o. IfSome o (EachLayer IsFalling)) (sym same) (layered.falling m)
        ]
        | inr added ↦ falling_new m (get v.mounts m) (new.lasts.overs m) added.uncut
      ]

  layered_grown : IsLayered v
  layered_grown = record { few = few_new; falling = falling_all }

layered_after : (w : World) (c : ℕ) (call : Call) (r : Reply) → IsWhole w → IsLayered w → IsLayered (after w (entry.Call c call r))
layered_after w c call r h layered = let new = after w (entry.Call c call r) in layered_grown w new h (whole-call w c r h call) layered (apart_call c w call r).mounts

pub layered_call : (w : World) (c : ℕ) (call : Call) (r : Reply) → IsSound w → IsLasting w → IsLayered w → IsLayered (after w (entry.Call c call r))
layered_call w c call r s l h = layered_after w c call r (record { sound = s; lasts = l }) h

-- ---- histories

pub layered_start : (limits : Limits) → IsLayered (start_world limits)
layered_start limits = record {
  few = λ p. only 0 root_mount (mount_of p) (λ o. depth_by (depth_within (mount_of p) (facts_of (start_world limits))) (kind_by o) ≤ most_depth) (λ _. omega arith) (omega arith);
  falling = λ m. only 0 root_mount m (λ o. IfSome (kind_by o) (EachLayer IsFalling)) (λ _. tt) tt;
}

-- a legal history leaves such a world
pub layered_on : (p : Pending) (w : World) (es : List Entry) → IsLegal p w es → IsSound w → IsLasting w → IsLayered w → IsLayered (replay w es)
layered_on p w es legal sound lasts layered = kept-history IsLayered (λ w h layered c r x. layered_after w c x r h layered) (λ w h layered c x i needs. layered_inner w c i layered) p [] w es legal (record { sound = sound; lasts = lasts }) layered

pub layered_history : (limits : Limits) (p : Pending) (es : List Entry) → IsLegal p (start_world limits) es → IsLayered (replay (start_world limits) es)
layered_history limits p es legal = layered_on p (start_world limits) es legal (sound-start limits) (lasting-start limits) (layered_start limits)

pub depth_history : (limits : Limits) (p : Pending) (es : List Entry) (q : Seen) → IsLegal p (start_world limits) es → depth (facts_of (replay (start_world limits) es)) q ≤ 4
depth_history limits p es q legal = (layered_history limits p es legal).few q
