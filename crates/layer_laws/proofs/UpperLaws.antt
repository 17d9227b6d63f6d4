-- What a union shows where a node is made in its upper layer at a name at which that has nothing.
use Rattle.std.proofs.Common.{◌≡◌, ℕ, Bool, true, false, ◌==◌, List, [], ◌∷◌, refl, ap, sym, ◌∙◌, subst}
use Rattle.std.specs.Prelude.{Option, Some, None, IsSome, IfSome, is_some, option_map, option_and_then}
use Rattle.std.specs.List.{list_any}
use Rattle.std.specs.Cmp.{nat_cmp_total}
use Rattle.std.specs.FinMap.{get, insert}
use Rattle.finite_maps.proofs.EntryLaws.{get_at-insert}
use Rattle.vfs_tree.specs.Child.{child_below, low_within, low_by, upper_entry}
use Rattle.vfs_tree.specs.Edits.{made}
use Rattle.vfs_tree.specs.Facts.{Facts}
use Rattle.vfs_tree.specs.Layers.{kind_in, store_by, is_cut, is_linked, linked_by, parent_ino, stores}
use Rattle.vfs_tree.specs.Nodes.{entry_in, node_at, AreBelow}
use Rattle.vfs_tree.specs.Place.{Seen, UnionUp}
use Rattle.vfs_tree.specs.Shown.{shown_low, shown_union, shown_within, shown_child, shown_along, shown_node, shown_at, shown}
use Rattle.vfs_tree.specs.StoreEdits.{entry_of}
use Rattle.vfs_tree.specs.Views.{kind_of_node, dir_in, facts_of}
use Rattle.vfs_tree.specs.declared.mount.MountKind.{MountKind}
use Rattle.vfs_tree.specs.declared.mount.MountKind.TheVariants as kind
use Rattle.vfs_tree.specs.declared.node.Kind.{Kind}
use Rattle.vfs_tree.specs.declared.node.Kind.TheVariants as node_kind
use Rattle.vfs_tree.specs.declared.node.NameEntry.{NameEntry}
use Rattle.vfs_tree.specs.declared.node.NameEntry.TheVariants.{Ino, White}
use Rattle.vfs_tree.specs.declared.node.Node.{Node}
use Rattle.vfs_tree.specs.declared.node.Store.{Store}
use Rattle.vfs_tree.specs.declared.view.DirFacts.{DirFacts}
use Rattle.vfs_tree.specs.declared.walk.Child.{Child}
use Rattle.vfs_tree.specs.declared.walk.Child.TheVariants as child
use Rattle.vfs_tree.specs.declared.world.World.{World}
use Rattle.call_laws.proofs.MadeLaws.{IsFresh, none_some, linked_dir, unused}
use Rattle.call_laws.proofs.NamedLaws.{no_way}
use Rattle.call_laws.proofs.SoundMade.{IsDirAt, dir_at}
use Rattle.call_laws.proofs.Whole.{IsWhole}
use Rattle.model_laws.proofs.LinkLaws.{linked_above}
use Rattle.layer_laws.proofs.LowerLaws.{Stands, alike_low, alike_lower, alike_below}
use Rattle.layer_laws.proofs.AvoidLaws.{Avoids, SameBut, none_along, other_store, lower_avoids, avoids_dir, frame-shown_low, frame-within, same_but, same_along}
use Rattle.layer_laws.proofs.MadeStores.{entry_case, entry_stays, shown_else, kind_else, dir_else}

-- what is given of the union, of the name and of the node that is made
pub record IsMade (w : World) (m s top : ℕ) (lower : Seen) (u : ℕ) (n : List ℕ) (t : Store) (node : Node) : Type 0 where
  pub union : kind_in (facts_of w) m ≡ Some (kind.Union s top lower)
  pub uncut : is_cut (facts_of w) m ≡ false
  pub apart : list_any (λ t. t == s) (stores (facts_of w) lower) ≡ false
  pub store : get w.stores s ≡ Some t
  pub linked : linked_by (dir_in t u) ≡ true
  pub free : entry_of t u n ≡ None
  pub fresh : IsFresh u node

-- the world with the node
abbrev pub world_made : World → ℕ → ℕ → List ℕ → Store → Node → World
world_made w s u n t node = record w { stores = insert w.stores s (made t u n node) }

module _ (w : World) (h : IsWhole w) (m s top : ℕ) (lower : Seen) (u : ℕ) (n : List ℕ) (t : Store) (node : Node) (x : IsMade w m s top lower u n t node) (hv : IsWhole (world_made w s u n t node)) where
  abbrev v : World
  v = world_made w s u n t node

  abbrev f : Facts
  f = facts_of w

  abbrev g : Facts
  g = facts_of v

  abbrev i : ℕ
  i = t.next

  abbrev new : Store
  new = made t u n node

  pub below : AreBelow t.nodes t.next
  below = subst (λ o. IfSome o (λ t. AreBelow t.nodes t.next)) x.store (h.lasts.numbered s)

  pub parts : IsDirAt (get t.nodes u)
  parts = dir_at t u (get t.nodes u) x.linked

  pub free_in : get parts.names n ≡ None
  free_in = sym (ap (entry_in n) parts.at) ∙ x.free

  -- ---- the store

  pub store_new : get v.stores s ≡ Some new
  store_new = get_at-insert nat_cmp_total w.stores s new

  pub unchanged : SameBut f g s
  unchanged = same_but w h s v (λ m. refl) (λ r e. other_store w s r new e)

  abbrev entry_by : ℕ → List ℕ → Option Store → Option NameEntry
  entry_by d k o = entry_in k (option_and_then (λ (t : Store). get t.nodes d) o)

  abbrev kind_by : ℕ → Option Store → Option Kind
  kind_by d o = option_map kind_of_node (option_and_then (λ (t : Store). get t.nodes d) o)

  abbrev dir_by : ℕ → Option Store → Option DirFacts
  dir_by d o = option_and_then (λ (t : Store). dir_in t d) o

  pub entry_is : (d : ℕ) (k : List ℕ) → f.entry s d k ≡ entry_of t d k
  entry_is d k = ap (entry_by d k) x.store

  entry_then : (d : ℕ) (k : List ℕ) → g.entry s d k ≡ entry_of new d k
  entry_then d k = ap (entry_by d k) store_new

  none_there : f.kind s i ≡ None
  none_there = ap (kind_by i) x.store ∙ ap (option_map kind_of_node) (unused t u n node parts.parent parts.opaque parts.names below parts.at)

  -- a node that is there isn't the new one
  pub other_by : (d : ℕ) → IsSome (f.kind s d) → d ≡ i → ⊥
  other_by d there is = no_way (sym (ap is_some (ap (f.kind s) is ∙ none_there)) ∙ there)

  linked_kind : (d : ℕ) → is_linked f s d ≡ true → f.kind s d ≡ Some node_kind.Dir
  linked_kind d l = ap (kind_by d) x.store ∙ linked_dir t d (get t.nodes d) (sym (ap (λ o. linked_by (dir_by d o)) x.store) ∙ l)

  pub linked_other : (d : ℕ) → is_linked f s d ≡ true → d ≡ i → ⊥
  linked_other d l is = other_by d (ap is_some (linked_kind d l)) is

  pub dir_is : (d : ℕ) → (d ≡ i → ⊥) → g.dir s d ≡ f.dir s d
  dir_is d other =
      ap (dir_by d) store_new ∙ dir_else t u n node parts.parent parts.opaque parts.names below parts.at free_in x.fresh d other ∙ sym (ap (dir_by d) x.store)

  -- ---- linked directories keep their names

  abbrev Linked : ℕ → Type 0
  Linked d = is_linked f s d ≡ true

  goes_up : (d : ℕ) → Linked d → (d == 1) ≡ false → Linked (parent_ino f s d)
  goes_up d l other = by (is_linked f s (parent_ino f s d)) refl
    where
      by : (b : Bool) → is_linked f s (parent_ino f s d) ≡ b → is_linked f s (parent_ino f s d) ≡ true
      by true e = e
      by false e =
          let a = linked_above w s d h.sound l other in
          none_some ((h.sound.view.names s).removed (parent_ino f s d) a.name e) a.gives

  name_is : (d : ℕ) → Linked d → (d == 1) ≡ false → g.name_of s d ≡ f.name_of s d
  name_is d l other =
      let a = linked_above w s d h.sound l other in
      let p = parent_ino f s d in
      let stays : g.entry s p a.name ≡ Some (Ino d) =
      entry_then p a.name ∙ entry_stays t u n node parts.parent parts.opaque parts.names below parts.at free_in x.fresh p a.name (Ino d) (sym (entry_is p a.name) ∙ a.gives) in
      let dir : g.kind s d ≡ Some node_kind.Dir =
      ap (kind_by d) store_new ∙ kind_else t u n node parts.parent parts.opaque parts.names below parts.at free_in x.fresh d (linked_other d l) ∙ sym (ap (kind_by d) x.store) ∙ linked_kind d l in
      ((hv.sound.view.names s).once p d a.name stays dir other).1 ∙ sym a.known

  -- ---- the lower part

  lowers : Avoids f s lower
  lowers = lower_avoids w h s m s top lower x.union x.uncut x.apart

  abbrev Alike : Child → Child → Type 0
  Alike a b = (a ≡ b) × Stands (Avoids f s) b

  abbrev union_kind : Option MountKind
  union_kind = Some (kind.Union s top lower)

  -- the lower part of a directory that was there before
  pub same_lower : (d : ℕ) → (d ≡ i → ⊥) → Alike (low_by g (shown_within m g) d union_kind) (low_by f (shown_within m f) d union_kind)
  same_lower d other =
      alike_lower f g s Linked (Avoids f s) (λ d l. dir_is d (linked_other d l)) name_is goes_up (avoids_dir w h s g unchanged) (shown_within m f) (shown_within m g)
      (λ p k a. (frame-within w h s g unchanged m p k a).0) (λ p k a. (frame-within w h s g unchanged m p k a).1) top lower lowers d (dir_is d other) (λ l. l)

  -- so it is where fewer steps up are made
  pub same_steps : (j d : ℕ) → Linked d → Alike (low_within j g (shown_within m g) s top lower d) (low_within j f (shown_within m f) s top lower d)
  same_steps j d l =
      alike_low f g s Linked (Avoids f s) (λ d l. dir_is d (linked_other d l)) name_is goes_up (avoids_dir w h s g unchanged) (shown_within m f) (shown_within m g)
      (λ p k a. (frame-within w h s g unchanged m p k a).0) (λ p k a. (frame-within w h s g unchanged m p k a).1) j top lower lowers d l

  pub beside : (over under : Child) → Alike over under → (k : List ℕ) → Alike (child_below (shown_within m g) over k) (child_below (shown_within m f) under k)
  beside over under same k =
      alike_below f g s Linked (Avoids f s) (λ d l. dir_is d (linked_other d l)) name_is goes_up (avoids_dir w h s g unchanged) (shown_within m f) (shown_within m g)
      (λ p k a. (frame-within w h s g unchanged m p k a).0) (λ p k a. (frame-within w h s g unchanged m p k a).1) over under same k

  pub same_beside : (d : ℕ) → (d ≡ i → ⊥) → (k : List ℕ)
      → Alike (child_below (shown_within m g) (low_by g (shown_within m g) d union_kind) k) (child_below (shown_within m f) (low_by f (shown_within m f) d union_kind) k)
  same_beside d other k = beside (low_by g (shown_within m g) d union_kind) (low_by f (shown_within m f) d union_kind) (same_lower d other) k

  -- ---- what the union shows

  pub upper_shown : (r : ℕ) (k : List ℕ) → shown_child f (UnionUp m r) k ≡ shown_union f m r k (f.entry s r k) (child_below (shown_within m f) (low_by f (shown_within m f) r union_kind))
  upper_shown r k = ap (λ (o : Option MountKind). shown_union f m r k (upper_entry f o r k) (child_below (shown_within m f) (low_by f (shown_within m f) r o))) x.union

  pub upper_then : (r : ℕ) (k : List ℕ) → shown_child g (UnionUp m r) k ≡ shown_union g m r k (g.entry s r k) (child_below (shown_within m g) (low_by g (shown_within m g) r union_kind))
  upper_then r k = ap (λ (o : Option MountKind). shown_union g m r k (upper_entry g o r k) (child_below (shown_within m g) (low_by g (shown_within m g) r o))) x.union

  -- what doesn't rest on the store is shown as before
  pub hidden_along : (ns : List (List ℕ)) (c : Child) → Stands (Avoids f s) c → shown_at v (shown_along g c ns) ≡ shown_at w (shown_along f c ns)
  hidden_along ns c a = same_along w h s v (λ m. refl) (λ r e. other_store w s r new e) ns c a

  pub upper_at : (r : ℕ) → (r ≡ i → ⊥) → shown_at v (child.At (UnionUp m r)) ≡ shown_at w (child.At (UnionUp m r))
  upper_at r other =
      ap (λ (o : Option MountKind). option_map shown_node (node_at v (store_by o) r)) x.union
      ∙ ap (λ (o : Option Store). option_map shown_node (option_and_then (λ (t : Store). get t.nodes r) o)) store_new
      ∙ shown_else t u n node parts.parent parts.opaque parts.names below parts.at free_in x.fresh r other
      ∙ sym (ap (λ (o : Option Store). option_map shown_node (option_and_then (λ (t : Store). get t.nodes r) o)) x.store)
      ∙ sym (ap (λ (o : Option MountKind). option_map shown_node (node_at w (store_by o) r)) x.union)

  -- where the new node is shown as what the lower layer had there, all is
  module _ (twin : (ns : List (List ℕ)) → shown_at v (shown_along g (child.At (UnionUp m i)) ns) ≡ shown_at w (shown_along f (shown_child f (UnionUp m u) n) ns)) where
    -- what is shown at a name, by the entry there
    at_entry : (ns : List (List ℕ)) → ((j : ℕ) → (j ≡ i → ⊥) → shown_at v (shown_along g (child.At (UnionUp m j)) ns) ≡ shown_at w (shown_along f (child.At (UnionUp m j)) ns))
        → (r : ℕ) → (r ≡ i → ⊥) → (k : List ℕ) (e : Option NameEntry) → f.entry s r k ≡ e
        → shown_at v (shown_along g (shown_union g m r k e (child_below (shown_within m g) (low_by g (shown_within m g) r union_kind))) ns)
        ≡ shown_at w (shown_along f (shown_union f m r k e (child_below (shown_within m f) (low_by f (shown_within m f) r union_kind))) ns)
    at_entry ns more r other k (Some (Ino j)) is = more j (other_by j ((h.sound.view.names s).given r j k is))
    at_entry ns more r other k (Some White) is = ap (shown_at v) (none_along g ns) ∙ sym (ap (shown_at w) (none_along f ns))
    at_entry ns more r other k None is =
        let b = same_beside r other k in
        let c = child_below (shown_within m f) (low_by f (shown_within m f) r union_kind) k in
        let y = frame-shown_low w h s g unchanged m r k c b.1 in
        ap (λ (c : Child). shown_at v (shown_along g (shown_low g m r k c) ns)) b.0
        ∙ ap (λ (c : Child). shown_at v (shown_along g c ns)) y.0
        ∙ hidden_along ns (shown_low f m r k c) y.1

    pub upper_along : (ns : List (List ℕ)) (r : ℕ) → (r ≡ i → ⊥) → shown_at v (shown_along g (child.At (UnionUp m r)) ns) ≡ shown_at w (shown_along f (child.At (UnionUp m r)) ns)
    upper_along [] r other = upper_at r other
    upper_along (k ∷ ns) r other =
        let over : List ℕ → Child = child_below (shown_within m g) (low_by g (shown_within m g) r union_kind) in
        let under : List ℕ → Child = child_below (shown_within m f) (low_by f (shown_within m f) r union_kind) in
        ap (λ (c : Child). shown_at v (shown_along g c ns)) (upper_then r k ∙ ap (λ (e : Option NameEntry). shown_union g m r k e over) (entry_then r k))
        ∙ entry_case t u n node parts.parent parts.opaque parts.names below parts.at free_in x.fresh r k other
        (λ e. shown_at v (shown_along g (shown_union g m r k e over) ns) ≡ shown_at w (shown_along f (shown_child f (UnionUp m r) k) ns))
        (λ same is. twin ns ∙ sym (ap (λ (r : ℕ). shown_at w (shown_along f (shown_child f (UnionUp m r) k) ns)) same ∙ ap (λ (k : List ℕ). shown_at w (shown_along f (shown_child f (UnionUp m u) k) ns)) is))
        (at_entry ns (upper_along ns) r other k (entry_of t r k) (entry_is r k)
        ∙ sym (ap (λ (c : Child). shown_at w (shown_along f c ns)) (upper_shown r k ∙ ap (λ (e : Option NameEntry). shown_union f m r k e under) (entry_is r k))))

    -- a directory that was there before
    pub upper_shows : (r : ℕ) → IsSome (f.kind s r) → (ns : List (List ℕ)) → shown v (UnionUp m r) ns ≡ shown w (UnionUp m r) ns
    upper_shows r there ns = upper_along ns r (other_by r there)
