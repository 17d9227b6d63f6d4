-- What is shown at a place doesn't depend on a store on which it doesn't rest.
use Rattle.std.proofs.Common.{◌≡◌, ℕ, zero, suc, Bool, true, false, cond, ◌==◌, List, [], ◌∷◌, refl, ap, sym, ◌∙◌, subst, eq-eqb}
use Rattle.std.specs.Prelude.{Option, Some, None, option_map, option_and_then}
use Rattle.std.specs.FinMap.{get, insert}
use Rattle.std.specs.List.{list_any}
use Rattle.std.specs.Cmp.{nat_cmp_total}
use Rattle.std.proofs.lemmas.Map.Lookups.{exact_unsigned}
use Rattle.finite_maps.proofs.EntryLaws.{by_key}
use Rattle.vfs_tree.specs.Child.{child_mem, child_null, child_below, low_by, upper_entry}
use Rattle.vfs_tree.specs.Edits.{with_store}
use Rattle.vfs_tree.specs.Facts.{Facts}
use Rattle.vfs_tree.specs.Layers.{kind_in, is_cut, store_by, base, is_dir, is_dir_kind, stores_within, stores}
use Rattle.vfs_tree.specs.Nodes.{entry_in, node_at}
use Rattle.vfs_tree.specs.Place.{Seen, Mem, Null, UnionUp, UnionLow, mount_of}
use Rattle.vfs_tree.specs.Shown.{shown_low, shown_union, shown_within, shown_child, shown_along, shown_node, shown_at, shown}
use Rattle.vfs_tree.specs.Sound.{is_mem, is_null, is_union, names_mounts}
use Rattle.vfs_tree.specs.Views.{kind_of_node, dir_in, dir_name, facts_of}
use Rattle.vfs_tree.specs.declared.mount.Mount.{Mount}
use Rattle.vfs_tree.specs.declared.mount.MountKind.{MountKind}
use Rattle.vfs_tree.specs.declared.mount.MountKind.TheVariants as kind
use Rattle.vfs_tree.specs.declared.node.NameEntry.{NameEntry}
use Rattle.vfs_tree.specs.declared.node.NameEntry.TheVariants.{Ino, White}
use Rattle.vfs_tree.specs.declared.node.Store.{Store}
use Rattle.vfs_tree.specs.declared.walk.Child.{Child}
use Rattle.vfs_tree.specs.declared.walk.Child.TheVariants as child
use Rattle.vfs_tree.specs.declared.walk.Need.{Need}
use Rattle.vfs_tree.specs.declared.walk.NodeId.{NodeId}
use Rattle.vfs_tree.specs.declared.world.World.{World}
use Rattle.call_laws.specs.Lasting.{lower_mount, IsOver, IsUncut}
use Rattle.call_laws.proofs.FoundLaws.{IsGood, good_layers}
use Rattle.call_laws.proofs.NamedLaws.{no_way}
use Rattle.call_laws.proofs.PlaceLaws.{good_view}
use Rattle.call_laws.proofs.SoundParts.{first_of, second_of, or_none, number_or}
use Rattle.call_laws.proofs.Whole.{IsWhole}
use Rattle.model_laws.proofs.FuelLaws.{stores_mem, stores_null, stores_union}
use Rattle.layer_laws.proofs.LowerLaws.{Stands, stands_if, alike_lower, alike_below}

-- a place that doesn't rest on a store
abbrev pub Avoids : Facts → ℕ → Seen → Type 0
Avoids f s (Mem m i) = (m == s) ≡ false
Avoids f s (Null m p) = Avoids f s p
Avoids f s (UnionUp m i) = (is_union (kind_in f m) ≡ true) × (is_cut f m ≡ false) × (list_any (λ t. t == s) (stores f (UnionUp m i)) ≡ false)
Avoids f s (UnionLow m u n p) = Avoids f s p

-- two views that show the same but for a store
pub record SameBut (f g : Facts) (s : ℕ) : Type 0 where
  pub mount : (m : ℕ) → g.mount m ≡ f.mount m
  pub entry : (r d : ℕ) (n : List ℕ) → (r == s) ≡ false → g.entry r d n ≡ f.entry r d n
  pub kind : (r i : ℕ) → (r == s) ≡ false → g.kind r i ≡ f.kind r i
  pub dir : (r i : ℕ) → (r == s) ≡ false → g.dir r i ≡ f.dir r i
  pub name_of : (r i : ℕ) → (r == s) ≡ false → g.name_of r i ≡ f.name_of r i

pub mem_kind : (o : Option MountKind) → is_mem o ≡ true → o ≡ Some kind.Mem
mem_kind (Some kind.Mem) h = refl
mem_kind (Some (kind.Null layer)) h = no_way h
mem_kind (Some (kind.Union s u lower)) h = no_way h
mem_kind None h = no_way h

abbrev Always : ℕ → Type 0
Always u = Unit {0}

-- ---- where mounts are the same

module _ (f g : Facts) (same : (m : ℕ) → g.mount m ≡ f.mount m) where
  pub same_kind_in : (m : ℕ) → kind_in g m ≡ kind_in f m
  same_kind_in m = ap (λ (o : Option Mount). option_map (λ (t : Mount). t.kind) o) (same m)

  pub same_base : (p : Seen) → base g p ≡ base f p
  same_base (Mem m i) = refl
  same_base (Null m p) = same_base p
  same_base (UnionUp m i) = let at : Option MountKind → NodeId = λ o. record { store = store_by o; ino = i } in ap at (same_kind_in m)
  same_base (UnionLow m u n p) = same_base p

-- nothing is shown below what isn't there
pub none_along : (f : Facts) (ns : List (List ℕ)) → shown_along f child.Absent ns ≡ child.Absent
none_along f [] = refl
none_along f (n ∷ ns) = none_along f ns

pub need_along : (f : Facts) (x : Need) (ns : List (List ℕ)) → shown_along f (child.Need x) ns ≡ child.Need x
need_along f x [] = refl
need_along f x (n ∷ ns) = need_along f x ns

pub other_store : (w : World) (s r : ℕ) (t : Store) → (r == s) ≡ false → get (insert w.stores s t) r ≡ get w.stores r
other_store w s r t e = by_key nat_cmp_total exact_unsigned w.stores s t r (λ o. o ≡ get w.stores r) (λ same. no_way (sym e ∙ eq-eqb r s same)) refl

module _ (w : World) (h : IsWhole w) (s : ℕ) where
  abbrev f : Facts
  f = facts_of w

  abbrev test : ℕ → Bool
  test t = t == s

  null_rests : (m : ℕ) (p : Seen) (o : Option MountKind) → kind_in f m ≡ o → is_null o ≡ true → lower_mount o ≡ Some (mount_of p) → stores f (Null m p) ≡ stores f p
  null_rests m p (Some (kind.Null layer)) is null over = stores_null w (Null m p) layer h.sound is ∙ ap (λ x. stores_within (suc x) f x) (ap number_or over)
  null_rests m p (Some kind.Mem) is null over = no_way null
  null_rests m p (Some (kind.Union t u lower)) is null over = no_way null
  null_rests m p None is null over = no_way null

  low_rests : (m u : ℕ) (n : List ℕ) (p : Seen) (o : Option MountKind) → kind_in f m ≡ o → is_union o ≡ true → lower_mount o ≡ Some (mount_of p) → list_any test (stores f (UnionLow m u n p)) ≡ false
      → list_any test (stores f p) ≡ false
  low_rests m u n p (Some (kind.Union t top lower)) is union over none =
      let x = or_none (test t) (list_any test (stores f lower)) (subst (λ (ss : List ℕ). list_any test ss ≡ false) (stores_union w (UnionLow m u n p) lower t top h.sound is) none) in
      subst (λ (x : ℕ). list_any test (stores_within (suc x) f x) ≡ false) (ap number_or over) x.1
  low_rests m u n p (Some kind.Mem) is union over none = no_way union
  low_rests m u n p (Some (kind.Null layer)) is union over none = no_way union
  low_rests m u n p None is union over none = no_way union

  -- a place whose mount doesn't rest on the store
  pub avoids : (p : Seen) → names_mounts f p ≡ true → IsUncut f p → IsOver f p → list_any test (stores f p) ≡ false → Avoids f s p
  avoids (Mem m i) names cut over none =
      (or_none (m == s) false (subst (λ (ss : List ℕ). list_any test ss ≡ false) (stores_mem w (Mem m i) (mem_kind (kind_in f m) names)) none)).0
  avoids (Null m p) names cut over none =
      avoids p (second_of (is_null (kind_in f m)) (names_mounts f p) names) cut.1 over.1
      (subst (λ (ss : List ℕ). list_any test ss ≡ false) (null_rests m p (kind_in f m) refl (first_of (is_null (kind_in f m)) (names_mounts f p) names) over.0) none)
  avoids (UnionUp m i) names cut over none = (names, cut, none)
  avoids (UnionLow m u n p) names cut over none =
      avoids p (second_of (is_union (kind_in f m)) (names_mounts f p) names) cut.1 over.1
      (low_rests m u n p (kind_in f m) refl (first_of (is_union (kind_in f m)) (names_mounts f p) names) over.0 none)

  -- the lower layer of a union
  pub lower_avoids : (m t top : ℕ) (lower : Seen) → kind_in f m ≡ Some (kind.Union t top lower) → is_cut f m ≡ false → list_any test (stores f lower) ≡ false → Avoids f s lower
  lower_avoids m t top lower is cut none =
      let x : IsGood f lower = (good_layers f (good_view w h.sound h.lasts) m (kind.Union t top lower) is cut).1 in
      avoids lower x.sound.mounts x.uncut x.over none

  both_avoid : (m i t top : ℕ) (lower : Seen) → kind_in f m ≡ Some (kind.Union t top lower) → is_cut f m ≡ false → list_any test (stores f (UnionUp m i)) ≡ false → ((t == s) ≡ false) × Avoids f s lower
  both_avoid m i t top lower is cut none =
      let x = or_none (test t) (list_any test (stores f lower)) (subst (λ (ss : List ℕ). list_any test ss ≡ false) (stores_union w (UnionUp m i) lower t top h.sound is) none) in
      (x.0, lower_avoids m t top lower is cut x.1)

  base_case : (m i : ℕ) (o : Option MountKind) → kind_in f m ≡ o → is_union o ≡ true → is_cut f m ≡ false → list_any test (stores f (UnionUp m i)) ≡ false → (store_by o == s) ≡ false
  base_case m i (Some (kind.Union t top lower)) is union cut none = (both_avoid m i t top lower is cut none).0
  base_case m i (Some kind.Mem) is union cut none = no_way union
  base_case m i (Some (kind.Null layer)) is union cut none = no_way union
  base_case m i None is union cut none = no_way union

  -- its node is in another store
  pub avoids_base : (p : Seen) → Avoids f s p → ((base f p).store == s) ≡ false
  avoids_base (Mem m i) a = a
  avoids_base (Null m p) a = avoids_base p a
  avoids_base (UnionUp m i) a = base_case m i (kind_in f m) refl a.0 a.1 a.2
  avoids_base (UnionLow m u n p) a = avoids_base p a

  -- ---- in another view, which shows the same but for the store

  module _ (g : Facts) (same : SameBut f g s) where
    pub avoids_dir : (p : Seen) → Avoids f s p → is_dir g p ≡ is_dir f p
    avoids_dir p a =
        ap (λ (b : NodeId). is_dir_kind (g.kind b.store b.ino)) (same_base f g same.mount p)
        ∙ ap is_dir_kind (same.kind (base f p).store (base f p).ino (avoids_base p a))

    abbrev Alike : Child → Child → Type 0
    Alike x y = (x ≡ y) × Stands (Avoids f s) y

    frame-mem : (m i : ℕ) (n : List ℕ) → (m == s) ≡ false → (e : Option NameEntry) → Stands (Avoids f s) (child_mem m e)
    frame-mem m i n a (Some (Ino j)) = a
    frame-mem m i n a (Some White) = tt
    frame-mem m i n a None = tt

    frame-null : (m : ℕ) (c : Child) → Stands (Avoids f s) c → Stands (Avoids f s) (child_null m c)
    frame-null m (child.At q) a = a
    frame-null m child.Absent a = tt
    frame-null m (child.Need x) a = tt

    pub frame-shown_low : (m u : ℕ) (n : List ℕ) (c : Child) → Stands (Avoids f s) c → Alike (shown_low g m u n c) (shown_low f m u n c)
    frame-shown_low m u n (child.At q) a =
        (ap (λ x. cond x (child.At q) (child.At (UnionLow m u n q))) (avoids_dir q a), stands_if (Avoids f s) (is_dir f q) (child.At q) (child.At (UnionLow m u n q)) a a)
    frame-shown_low m u n child.Absent a = (refl, tt)
    frame-shown_low m u n (child.Need x) a = (refl, tt)

    frame-entry : (m u : ℕ) (n : List ℕ) → Avoids f s (UnionUp m u) → (e : Option NameEntry) (over under : List ℕ → Child) → Alike (over n) (under n) → Alike (shown_union g m u n e over) (shown_union f m u n e under)
    frame-entry m u n a (Some (Ino i)) over under x = (refl, a)
    frame-entry m u n a (Some White) over under x = (refl, tt)
    frame-entry m u n a None over under x =
        let y = frame-shown_low m u n (under n) x.1 in
        (ap (shown_low g m u n) x.0 ∙ y.0, y.1)

    abbrev FrameAt : ℕ → Type 0
    FrameAt k = (d : Seen) (n : List ℕ) → Avoids f s d → Alike (shown_within k g d n) (shown_within k f d n)

    -- by the mount's kind
    frame-union : (k : ℕ) → FrameAt k → (m u : ℕ) (n : List ℕ) → Avoids f s (UnionUp m u) → (o : Option MountKind) → kind_in f m ≡ o → is_union o ≡ true
        → Alike (shown_union g m u n (upper_entry g o u n) (child_below (shown_within k g) (low_by g (shown_within k g) u o)))
        (shown_union f m u n (upper_entry f o u n) (child_below (shown_within k f) (low_by f (shown_within k f) u o)))
    frame-union k frame m u n a (Some (kind.Union t top lower)) is union =
        let x = both_avoid m u t top lower is a.1 a.2 in
        let look = shown_within k f in
        let over = shown_within k g in
        let dirs : (u : ℕ) → Always u → g.dir t u ≡ f.dir t u = λ u e. same.dir t u x.0 in
        let names : (u : ℕ) → Always u → (u == 1) ≡ false → g.name_of t u ≡ f.name_of t u = λ u e o. same.name_of t u x.0 in
        let low : Option MountKind = Some (kind.Union t top lower) in
        let parts = alike_below f g t Always (Avoids f s) dirs names (λ u h e. tt) avoids_dir look over (λ d n a. (frame d n a).0) (λ d n a. (frame d n a).1)
        (low_by g over u low) (low_by f look u low)
        (alike_lower f g t Always (Avoids f s) dirs names (λ u h e. tt) avoids_dir look over (λ d n a. (frame d n a).0) (λ d n a. (frame d n a).1) top lower x.1 u (same.dir t u x.0) (λ e. tt)) n in
        let y = frame-entry m u n a (f.entry t u n) (child_below over (low_by g over u low)) (child_below look (low_by f look u low)) parts in
        (ap (λ (e : Option NameEntry). shown_union g m u n e (child_below over (low_by g over u low))) (same.entry t u n x.0) ∙ y.0, y.1)
    frame-union k frame m u n a (Some kind.Mem) is union = no_way union
    frame-union k frame m u n a (Some (kind.Null layer)) is union = no_way union
    frame-union k frame m u n a None is union = no_way union

    pub frame-within : (k : ℕ) → FrameAt k
    frame-within zero d n a = (refl, tt)
    frame-within (suc k) (Mem m i) n a = (ap (child_mem m) (same.entry m i n a), frame-mem m i n a (f.entry m i n))
    frame-within (suc k) (Null m p) n a =
        let x = frame-within k p n a in
        (ap (child_null m) x.0, frame-null m (shown_within k f p n) x.1)
    frame-within (suc k) (UnionUp m u) n a =
        let x = frame-union k (frame-within k) m u n a (kind_in f m) refl a.0 in
        (ap (λ (o : Option MountKind). shown_union g m u n (upper_entry g o u n) (child_below (shown_within k g) (low_by g (shown_within k g) u o))) (same_kind_in f g same.mount m) ∙ x.0, x.1)
    frame-within (suc k) (UnionLow m u b p) n a = (refl, tt)

    -- what is shown at a name of a place that doesn't rest on the store
    pub frame_shown : (d : Seen) (n : List ℕ) → Avoids f s d → Alike (shown_child g d n) (shown_child f d n)
    frame_shown d n a = frame-within (suc (mount_of d)) d n a

  -- ---- in another world, in which no other store is changed

  module _ (v : World) (mounts : (m : ℕ) → get v.mounts m ≡ get w.mounts m) (stores : (r : ℕ) → (r == s) ≡ false → get v.stores r ≡ get w.stores r) where
    abbrev g : Facts
    g = facts_of v

    pub same_but : SameBut f g s
    same_but = record {
      mount = mounts;
      entry = λ r d n e. ap (λ (o : Option Store). entry_in n (option_and_then (λ (t : Store). get t.nodes d) o)) (stores r e);
      kind = λ r i e. ap (λ (o : Option Store). option_map kind_of_node (option_and_then (λ (t : Store). get t.nodes i) o)) (stores r e);
      dir = λ r i e. ap (λ (o : Option Store). option_and_then (λ (t : Store). dir_in t i) o) (stores r e);
      name_of = λ r i e. ap (λ (o : Option Store). option_and_then (λ (t : Store). dir_name t i) o) (stores r e);
    }

    -- what stands at a place
    pub same_at : (p : Seen) → Avoids f s p → shown_at v (child.At p) ≡ shown_at w (child.At p)
    same_at p a =
        ap (λ (b : NodeId). option_map shown_node (node_at v b.store b.ino)) (same_base f g mounts p)
        ∙ ap (λ (o : Option Store). option_map shown_node (option_and_then (λ (t : Store). get t.nodes (base f p).ino) o)) (stores (base f p).store (avoids_base p a))

    -- and at the end of some names
    pub same_along : (ns : List (List ℕ)) (c : Child) → Stands (Avoids f s) c → shown_at v (shown_along g c ns) ≡ shown_at w (shown_along f c ns)
    same_along [] (child.At p) a = same_at p a
    same_along (n ∷ ns) (child.At p) a =
        let x = frame_shown g same_but p n a in
        ap (λ (c : Child). shown_at v (shown_along g c ns)) x.0 ∙ same_along ns (shown_child f p n) x.1
    same_along ns child.Absent a = ap (shown_at v) (none_along g ns) ∙ sym (ap (shown_at w) (none_along f ns))
    same_along ns (child.Need x) a = ap (shown_at v) (need_along g x ns) ∙ sym (ap (shown_at w) (need_along f x ns))

  -- ---- a store is edited

  module _ (edit : Store → Store) (p : Seen) (a : Avoids f s p) (ns : List (List ℕ)) where
    edited_store : (o : Option Store) → get w.stores s ≡ o → shown (with_store edit w s o) p ns ≡ shown w p ns
    edited_store (Some t) at = same_along (record w { stores = insert w.stores s (edit t) }) (λ m. refl) (λ r e. other_store w s r (edit t) e) ns (child.At p) a
    edited_store None at = refl

    -- what doesn't rest on it is shown as before
    pub edit_hidden : shown (with_store edit w s (get w.stores s)) p ns ≡ shown w p ns
    edit_hidden = edited_store (get w.stores s) refl
