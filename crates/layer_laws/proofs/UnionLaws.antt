-- Shadow directories and copies that calls need leave what their union shows.
use Rattle.std.proofs.Common.{◌≡◌, ℕ, suc, ◌<◌, true, false, List, [], ◌∷◌, refl, ap, sym, ◌∙◌, subst}
use Rattle.std.specs.Prelude.{Option, Some, None, IsSome, IfSome, option_map, option_and_then}
use Rattle.std.specs.FinMap.{get}
use Rattle.vfs_tree.specs.Child.{child_of}
use Rattle.vfs_tree.specs.Edits.{made, with_store, new_dir}
use Rattle.vfs_tree.specs.Facts.{Facts}
use Rattle.vfs_tree.specs.Layers.{kind_in, store_by, root_by, root_of, is_cut, is_dir, is_dir_kind, is_linked, linked_by}
use Rattle.vfs_tree.specs.Nodes.{entry_in}
use Rattle.vfs_tree.specs.Place.{Seen, Mem, UnionUp, UnionLow}
use Rattle.vfs_tree.specs.Shown.{Shown, shown_child, shown_node, shown_at, shown}
use Rattle.vfs_tree.specs.Shown as seen
use Rattle.vfs_tree.specs.Sound.{IsSound}
use Rattle.vfs_tree.specs.Views.{kind_of_node, dir_in, facts_of}
use Rattle.vfs_tree.specs.declared.mount.MountKind.{MountKind}
use Rattle.vfs_tree.specs.declared.mount.MountKind.TheVariants as kind
use Rattle.vfs_tree.specs.declared.node.Node.{Node}
use Rattle.vfs_tree.specs.declared.node.Node.TheVariants.{Dir, File, Link}
use Rattle.vfs_tree.specs.declared.node.Store.{Store}
use Rattle.vfs_tree.specs.declared.walk.Child.{Child}
use Rattle.vfs_tree.specs.declared.walk.Child.TheVariants as child
use Rattle.vfs_tree.specs.declared.world.World.{World}
use Rattle.call_model.specs.Checks.{is_full, node_of}
use Rattle.call_model.specs.Effects.{copy_of, copied_child, made_above, effect}
use Rattle.call_model.specs.declared.entry.Inner.TheVariants.{Shadow, CopyUp}
use Rattle.call_laws.specs.Lasting.{IsLasting}
use Rattle.call_laws.specs.Needing.{IsFree}
use Rattle.call_laws.proofs.CopyLaws.{whole-above}
use Rattle.call_laws.proofs.FoundLaws.{IsGood, ReadyChild, good_layers, ready-within}
use Rattle.call_laws.proofs.MadeLaws.{IsFresh}
use Rattle.call_laws.proofs.NameLaws.{has_room}
use Rattle.call_laws.proofs.PlaceLaws.{good_view}
use Rattle.call_laws.proofs.ShownLaws.{shown_there}
use Rattle.call_laws.proofs.Whole.{IsWhole}
use Rattle.call_laws.proofs.WholeLaws.{HasRoom}
use Rattle.layer_laws.specs.Apart.{IsApart}
use Rattle.layer_laws.proofs.CopiedLaws as copied
use Rattle.layer_laws.proofs.CopiedLaws.{HasStore, there_store}
use Rattle.layer_laws.proofs.ShadowLaws.{shadow_upper}
use Rattle.layer_laws.proofs.CopyTwins.{copy_upper, fresh_copy}
use Rattle.layer_laws.proofs.UpperLaws.{IsMade, world_made}

-- ---- a node that is made in the upper layer

module _ (w : World) (h : IsWhole w) (apart : IsApart w) (m s top : ℕ) (lower : Seen) (is : kind_in (facts_of w) m ≡ Some (kind.Union s top lower)) (cut : is_cut (facts_of w) m ≡ false)
    (u : ℕ) (n : List ℕ) (free : IsFree (facts_of w) m u n) (room : is_full w s ≡ false) where
  abbrev f : Facts
  f = facts_of w

  store_is : store_by (kind_in f m) ≡ s
  store_is = ap store_by is

  linked_in : is_linked f s u ≡ true
  linked_in = subst (λ r. is_linked f r u ≡ true) store_is free.linked

  free_in : f.entry s u n ≡ None
  free_in = subst (λ r. f.entry r u n ≡ None) store_is free.free

  stored : HasStore (get w.stores s)
  stored = there_store u (get w.stores s) linked_in

  abbrev t : Store
  t = stored.store

  has_number : t.next < 4294967295
  has_number = subst (λ o. IfSome o (λ t. t.next < 4294967295)) stored.at (has_room w s h room)

  top_there : IsSome (f.kind s top)
  top_there = let x : IsGood f (Mem s top) = (good_layers f (good_view w h.sound h.lasts) m (kind.Union s top lower) is cut).0 in x.sound.base

  module _ (node : Node) (fresh : IsFresh u node) where
    is_made : IsMade w m s top lower u n t node
    is_made = record {
      union = is;
      uncut = cut;
      apart = apart m s top lower is;
      store = stored.at;
      linked = sym (ap (λ (o : Option Store). linked_by (option_and_then (λ (t : Store). dir_in t u) o)) stored.at) ∙ linked_in;
      free = sym (ap (λ (o : Option Store). entry_in n (option_and_then (λ (t : Store). get t.nodes u) o)) stored.at) ∙ free_in;
      fresh = fresh;
    }

    made_is : made_above w m u n node ≡ world_made w s u n t node
    made_is = ap (λ r. with_store (λ t. made t u n node) w r (get w.stores r)) store_is ∙ ap (with_store (λ t. made t u n node) w s) stored.at

    made_whole : IsWhole (world_made w s u n t node)
    made_whole = subst IsWhole made_is (whole-above w h m u n (subst (HasRoom w) (sym store_is) (has_room w s h room)) free node fresh)

  -- ---- a shadow directory

  module _ (d : Seen) (there : shown_child f (UnionUp m u) n ≡ child.At d) (dir : is_dir f d ≡ true) where
    pub shadow_at : (c r : ℕ) → IsSome (f.kind s r) → (ns : List (List ℕ)) → shown (effect w c (Shadow m u n)) (UnionUp m r) ns ≡ shown w (UnionUp m r) ns
    shadow_at c r known ns =
        ap (λ (v : World). shown v (UnionUp m r) ns) (made_is (new_dir u false) (refl, refl))
        ∙ shadow_upper w h m s top lower u n t (is_made (new_dir u false) (refl, refl)) (made_whole (new_dir u false) (refl, refl)) has_number d there dir r known ns

  -- ---- a copy

  module _ (q : Seen) (there : child_of f (UnionUp m u) n ≡ child.At (UnionLow m u n q)) where
    pub copy_at : (c r : ℕ) → IsSome (f.kind s r) → (ns : List (List ℕ)) → shown (effect w c (CopyUp m u n)) (UnionUp m r) ns ≡ shown w (UnionUp m r) ns
    copy_at c r has ns =
        let node : Node = copy_of (node_of w q) in
        let fresh = fresh_copy u (node_of w q) in
        ap (λ (c : Child). shown (copied_child w m u n c) (UnionUp m r) ns) (copied.copied_is w h m s top lower is cut u n q there)
        ∙ ap (λ (v : World). shown v (UnionUp m r) ns) (made_is node fresh)
        ∙ copy_upper w h m s top lower u n t q (is_made node fresh) (made_whole node fresh) (shown_there f (UnionUp m u) n (UnionLow m u n q) there) (copied.plain w h m s top lower is cut u n q there) (copied.known w h m s top lower is cut u n q there) r has ns

-- ---- at the root of the union

root_same : (v w : World) (m s top : ℕ) (lower : Seen) (ns : List (List ℕ)) → kind_in (facts_of w) m ≡ Some (kind.Union s top lower) → shown v (UnionUp m top) ns ≡ shown w (UnionUp m top) ns
    → shown v (root_of (facts_of w) m) ns ≡ shown w (root_of (facts_of w) m) ns
root_same v w m s top lower ns is e = ap (λ (o : Option MountKind). shown v (root_by m o) ns) is ∙ e ∙ sym (ap (λ (o : Option MountKind). shown w (root_by m o) ns) is)

-- a directory is shown
record IsDirShown (f : Facts) (c : Child) : Type 0 where
  pub place : Seen
  pub at : c ≡ child.At place
  pub dir : is_dir f place ≡ true

dir_node : (o : Option Node) → option_map shown_node o ≡ Some seen.Dir → is_dir_kind (option_map kind_of_node o) ≡ true
dir_node (Some (Dir parent opaque names)) e = refl
dir_node (Some (File bytes)) e = absurd (let clash : Some (seen.File bytes) ≡ Some seen.Dir = e in cc)
dir_node (Some (Link target)) e = absurd (let clash : Some (seen.Link target) ≡ Some seen.Dir = e in cc)
dir_node None e = absurd (let clash : None ≡ Some seen.Dir = e in cc)

dir_is_shown : (w : World) (c : Child) → shown_at w c ≡ Some seen.Dir → IsDirShown (facts_of w) c
dir_is_shown w (child.At p) e = record { place = p; at = refl; dir = dir_node (node_of w p) e }
dir_is_shown w child.Absent e = absurd (let clash : None ≡ Some seen.Dir = e in cc)
dir_is_shown w (child.Need y) e = absurd (let clash : None ≡ Some seen.Dir = e in cc)

pub shadow_dir : (w : World) (c m s top u r : ℕ) (lower : Seen) (n : List ℕ) (ns : List (List ℕ)) → IsSound w → IsLasting w → IsApart w → kind_in (facts_of w) m ≡ Some (kind.Union s top lower) → is_cut (facts_of w) m ≡ false
    → IsFree (facts_of w) m u n → is_full w s ≡ false → shown w (UnionUp m u) (n ∷ []) ≡ Some seen.Dir → IsSome ((facts_of w).kind s r)
    → shown (effect w c (Shadow m u n)) (UnionUp m r) ns ≡ shown w (UnionUp m r) ns
shadow_dir w c m s top u r lower n ns sound lasts apart is cut free room dir there =
    let h : IsWhole w = record { sound = sound; lasts = lasts } in
    let d = dir_is_shown w (shown_child (facts_of w) (UnionUp m u) n) dir in
    shadow_at w h apart m s top lower is cut u n free room d.place d.at d.dir c r there ns

pub shadow_root : (w : World) (c m s top u : ℕ) (lower : Seen) (n : List ℕ) (ns : List (List ℕ)) → IsSound w → IsLasting w → IsApart w → kind_in (facts_of w) m ≡ Some (kind.Union s top lower) → is_cut (facts_of w) m ≡ false
    → IsFree (facts_of w) m u n → is_full w s ≡ false → shown w (UnionUp m u) (n ∷ []) ≡ Some seen.Dir
    → shown (effect w c (Shadow m u n)) (root_of (facts_of w) m) ns ≡ shown w (root_of (facts_of w) m) ns
shadow_root w c m s top u lower n ns sound lasts apart is cut free room dir =
    let h : IsWhole w = record { sound = sound; lasts = lasts } in
    root_same (effect w c (Shadow m u n)) w m s top lower ns is
    (shadow_dir w c m s top u top lower n ns sound lasts apart is cut free room dir (top_there w h apart m s top lower is cut u n free room))

pub copy_dir : (w : World) (c m s top u r : ℕ) (lower q : Seen) (n : List ℕ) (ns : List (List ℕ)) → IsSound w → IsLasting w → IsApart w → kind_in (facts_of w) m ≡ Some (kind.Union s top lower) → is_cut (facts_of w) m ≡ false
    → is_full w s ≡ false → child_of (facts_of w) (UnionUp m u) n ≡ child.At (UnionLow m u n q) → IsSome ((facts_of w).kind s r)
    → shown (effect w c (CopyUp m u n)) (UnionUp m r) ns ≡ shown w (UnionUp m r) ns
copy_dir w c m s top u r lower q n ns sound lasts apart is cut room file there =
    let h : IsWhole w = record { sound = sound; lasts = lasts } in
    copy_at w h apart m s top lower is cut u n (subst (ReadyChild (facts_of w)) file (ready-within (suc m) (facts_of w) (UnionUp m u) n)) room q file c r there ns

pub copy_root : (w : World) (c m s top u : ℕ) (lower q : Seen) (n : List ℕ) (ns : List (List ℕ)) → IsSound w → IsLasting w → IsApart w → kind_in (facts_of w) m ≡ Some (kind.Union s top lower) → is_cut (facts_of w) m ≡ false
    → is_full w s ≡ false → child_of (facts_of w) (UnionUp m u) n ≡ child.At (UnionLow m u n q)
    → shown (effect w c (CopyUp m u n)) (root_of (facts_of w) m) ns ≡ shown w (root_of (facts_of w) m) ns
copy_root w c m s top u lower q n ns sound lasts apart is cut room file =
    let h : IsWhole w = record { sound = sound; lasts = lasts } in
    let free : IsFree (facts_of w) m u n = subst (ReadyChild (facts_of w)) file (ready-within (suc m) (facts_of w) (UnionUp m u) n) in
    root_same (effect w c (CopyUp m u n)) w m s top lower ns is
    (copy_dir w c m s top u top lower q n ns sound lasts apart is cut room file (top_there w h apart m s top lower is cut u n free room))
