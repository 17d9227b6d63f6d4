-- A shadow directory changes nothing of what its union shows.
use Rattle.std.proofs.Common.{◌≡◌, ℕ, suc, ◌<◌, Bool, true, false, cond, List, [], ◌∷◌, refl, ap, sym, ◌∙◌, subst}
use Rattle.std.specs.Prelude.{Option, Some, None, IsSome, option_map, option_and_then}
use Rattle.std.specs.FinMap.{get}
use Rattle.vfs_tree.specs.Child.{child_below, only_dir, low_by}
use Rattle.vfs_tree.specs.Edits.{made, new_dir}
use Rattle.vfs_tree.specs.Facts.{Facts}
use Rattle.vfs_tree.specs.Layers.{is_dir}
use Rattle.vfs_tree.specs.Nodes.{entry_in}
use Rattle.vfs_tree.specs.Place.{Seen, UnionUp, UnionLow, mount_of}
use Rattle.vfs_tree.specs.Shown.{shown_low, shown_union, shown_within, shown_child, shown_along, shown_at, shown}
use Rattle.vfs_tree.specs.Views.{kind_of_node, facts_in, dir_in, facts_of}
use Rattle.vfs_tree.specs.declared.mount.MountKind.{MountKind}
use Rattle.vfs_tree.specs.declared.mount.MountKind.TheVariants as kind
use Rattle.vfs_tree.specs.declared.node.NameEntry.{NameEntry}
use Rattle.vfs_tree.specs.declared.node.NameEntry.TheVariants.{Ino}
use Rattle.vfs_tree.specs.declared.node.Store.{Store}
use Rattle.vfs_tree.specs.declared.view.DirFacts.{DirFacts}
use Rattle.vfs_tree.specs.declared.walk.Child.{Child}
use Rattle.vfs_tree.specs.declared.walk.Child.TheVariants as child
use Rattle.vfs_tree.specs.declared.world.World.{World}
use Rattle.call_model.specs.Checks.{node_of}
use Rattle.call_laws.proofs.MadeLaws.{node_new, entry_new}
use Rattle.call_laws.proofs.NamedLaws.{no_way}
use Rattle.call_laws.proofs.PlaceLaws.{good_view}
use Rattle.call_laws.proofs.Whole.{IsWhole}
use Rattle.layer_laws.proofs.LowerLaws.{Stands}
use Rattle.layer_laws.proofs.NestLaws.{Under, shown_from, nests-below, shown_looking, shown_nests}
use Rattle.layer_laws.proofs.AvoidLaws.{Avoids, none_along, need_along, avoids_dir, frame-within}
use Rattle.layer_laws.proofs.MadeStores.{entry_fresh, linked_new}
use Rattle.layer_laws.proofs.NewLower as news
use Rattle.layer_laws.proofs.UpperLaws.{IsMade, world_made, below, parts, free_in, store_new, unchanged, same_beside, upper_then, hidden_along, upper_shows}
use Rattle.layer_laws.proofs.TwinLaws.{plain_shows, dir_child, dir_shown, other_u, node_made, made_at, other_root}

module _ (w : World) (h : IsWhole w) (m s top : ℕ) (lower : Seen) (u : ℕ) (n : List ℕ) (t : Store) (x : IsMade w m s top lower u n t (new_dir u false)) (hv : IsWhole (world_made w s u n t (new_dir u false)))
    (room : t.next < 4294967295) (d : Seen) (there : shown_child (facts_of w) (UnionUp m u) n ≡ child.At d) (dir : is_dir (facts_of w) d ≡ true) where
  abbrev v : World
  v = world_made w s u n t (new_dir u false)

  abbrev f : Facts
  f = facts_of w

  abbrev g : Facts
  g = facts_of v

  abbrev i : ℕ
  i = t.next

  abbrev new : Store
  new = made t u n (new_dir u false)

  abbrev union_kind : Option MountKind
  union_kind = Some (kind.Union s top lower)

  abbrev lower_child : Child
  lower_child = news.lower_child w h m s top lower u n t x hv room

  -- the lower layer shows the directory
  of_lower : (c : Child) → shown_low f m u n c ≡ child.At d → c ≡ child.At d
  of_lower (child.At q) e = by (is_dir f q) refl e
    where
      by : (b : Bool) → is_dir f q ≡ b → cond b (child.At q) (child.At (UnionLow m u n q)) ≡ child.At d → child.At q ≡ child.At d
      by true plain e = e
      by false plain e = no_way (sym plain ∙ ap (dir_child f) e ∙ dir)
  of_lower child.Absent e = absurd (let clash : child.Absent ≡ child.At d = e in cc)
  of_lower (child.Need y) e = absurd (let clash : child.Absent ≡ child.At d = e in cc)

  is_lower : lower_child ≡ child.At d
  is_lower = of_lower lower_child (news.shown_before w h m s top lower u n t x hv room ∙ there)

  under_d : Under f m d
  under_d =
      let view = good_view w h.sound h.lasts in
      subst (Stands (Under f m)) is_lower
      (nests-below f view (λ k. shown_within k f) (shown_union f) (shown_looking f) (shown_within m f) (shown_nests f view m) m u n x.uncut union_kind x.union)

  other : u ≡ i → ⊥
  other = other_u w h m s top lower u n t (new_dir u false) x hv

  avoids_d : Avoids f s d
  avoids_d = subst (Stands (Avoids f s)) is_lower (same_beside w h m s top lower u n t (new_dir u false) x hv u other n).1

  plain_dir : (p : Seen) → Avoids f s p → is_dir g p ≡ is_dir f p
  plain_dir p a = avoids_dir w h s g (unchanged w h m s top lower u n t (new_dir u false) x hv) p a

  -- ---- the new directory

  abbrev its_facts : DirFacts
  its_facts = record { parent = u; opaque = false; linked = true }

  dir_new : g.dir s i ≡ Some its_facts
  dir_new =
      let p = parts w h m s top lower u n t (new_dir u false) x hv in
      let below = below w h m s top lower u n t (new_dir u false) x hv in
      let free = free_in w h m s top lower u n t (new_dir u false) x hv in
      let at : Bool → Option DirFacts = λ b. Some (record { parent = u; opaque = false; linked = b }) in
      ap (λ (o : Option Store). option_and_then (λ (t : Store). dir_in t i) o) (store_new w h m s top lower u n t (new_dir u false) x hv)
      ∙ ap (option_and_then (facts_in new i)) (node_new t u n (new_dir u false) p.parent p.opaque p.names below p.at)
      ∙ ap at (linked_new t u n (new_dir u false) p.parent p.opaque p.names below p.at free x.fresh)

  entry_made : g.entry s u n ≡ Some (Ino i)
  entry_made =
      let p = parts w h m s top lower u n t (new_dir u false) x hv in
      ap (λ (o : Option Store). entry_in n (option_and_then (λ (t : Store). get t.nodes u) o)) (store_new w h m s top lower u n t (new_dir u false) x hv)
      ∙ entry_new t u n (new_dir u false) p.parent p.opaque p.names (below w h m s top lower u n t (new_dir u false) x hv) p.at

  entry_none : (k : List ℕ) → g.entry s i k ≡ None
  entry_none k =
      let p = parts w h m s top lower u n t (new_dir u false) x hv in
      ap (λ (o : Option Store). entry_in k (option_and_then (λ (t : Store). get t.nodes i) o)) (store_new w h m s top lower u n t (new_dir u false) x hv)
      ∙ entry_fresh t u n (new_dir u false) p.parent p.opaque p.names (below w h m s top lower u n t (new_dir u false) x hv) p.at (free_in w h m s top lower u n t (new_dir u false) x hv) x.fresh k

  name_new : g.name_of s i ≡ Some n
  name_new =
      ((hv.sound.view.names s).once u i n entry_made (ap (option_map kind_of_node) (node_made w h m s top lower u n t (new_dir u false) x hv)) (other_root w h m s top lower u n t (new_dir u false) x hv)).1

  -- ---- its lower part

  only_d : only_dir g (child.At d) ≡ child.At d
  only_d = ap (λ (b : Bool). cond b (child.At d) child.Absent) (plain_dir d avoids_d ∙ dir)

  low_new : low_by g (shown_within m g) i union_kind ≡ child.At d
  low_new = news.low_new w h m s top lower u n t x hv room dir_new name_new ∙ ap (only_dir g) is_lower ∙ only_d

  -- ---- what it shows

  new_shows : (k : List ℕ) → shown_child g (UnionUp m i) k ≡ shown_low g m i k (shown_child f d k)
  new_shows k =
      upper_then w h m s top lower u n t (new_dir u false) x hv i k
      ∙ ap (λ (e : Option NameEntry). shown_union g m i k e (child_below (shown_within m g) (low_by g (shown_within m g) i union_kind))) (entry_none k)
      ∙ ap (λ (c : Child). shown_low g m i k (child_below (shown_within m g) c k)) low_new
      ∙ ap (shown_low g m i k) ((frame-within w h s g (unchanged w h m s top lower u n t (new_dir u false) x hv) m d k avoids_d).0 ∙ shown_from f (good_view w h.sound h.lasts) m d k under_d.0 under_d.1)

  as_before : (ns : List (List ℕ)) (c : Child) → Stands (Avoids f s) c → shown_at v (shown_along g c ns) ≡ shown_at w (shown_along f c ns)
  as_before = hidden_along w h m s top lower u n t (new_dir u false) x hv

  -- a file of the lower layer alone
  file_along : (ns : List (List ℕ)) (k : List ℕ) (q : Seen) → Avoids f s q → is_dir f q ≡ false → shown_at v (shown_along g (child.At (UnionLow m i k q)) ns) ≡ shown_at w (shown_along f (child.At q) ns)
  file_along [] k q a plain = as_before [] (child.At q) a
  file_along (l ∷ ns) k q a plain =
      ap (shown_at v) (none_along g ns) ∙ sym (ap (shown_at w) (ap (λ (c : Child). shown_along f c ns) (plain_shows w (suc (mount_of q)) q l plain) ∙ none_along f ns))

  step : (ns : List (List ℕ)) (k : List ℕ) (c : Child) → Stands (Avoids f s) c → shown_at v (shown_along g (shown_low g m i k c) ns) ≡ shown_at w (shown_along f c ns)
  step ns k (child.At q) a =
      ap (λ (b : Bool). shown_at v (shown_along g (cond b (child.At q) (child.At (UnionLow m i k q))) ns)) (plain_dir q a) ∙ by (is_dir f q) refl
    where
      by : (b : Bool) → is_dir f q ≡ b → shown_at v (shown_along g (cond b (child.At q) (child.At (UnionLow m i k q))) ns) ≡ shown_at w (shown_along f (child.At q) ns)
      by true e = as_before ns (child.At q) a
      by false e = file_along ns k q a e
  step ns k child.Absent a = ap (shown_at v) (none_along g ns) ∙ sym (ap (shown_at w) (none_along f ns))
  step ns k (child.Need y) a = ap (shown_at v) (none_along g ns) ∙ sym (ap (shown_at w) (need_along f y ns))

  like_d : (ns : List (List ℕ)) → shown_at v (shown_along g (child.At (UnionUp m i)) ns) ≡ shown_at w (shown_along f (child.At d) ns)
  like_d [] = made_at w h m s top lower u n t (new_dir u false) x hv ∙ sym (dir_shown (node_of w d) dir)
  like_d (k ∷ ns) =
      ap (λ (c : Child). shown_at v (shown_along g c ns)) (new_shows k)
      ∙ step ns k (shown_child f d k) (frame-within w h s g (unchanged w h m s top lower u n t (new_dir u false) x hv) (suc (mount_of d)) d k avoids_d).1

  -- the union shows what it showed
  pub shadow_upper : (r : ℕ) → IsSome (f.kind s r) → (ns : List (List ℕ)) → shown v (UnionUp m r) ns ≡ shown w (UnionUp m r) ns
  shadow_upper r known ns =
      upper_shows w h m s top lower u n t (new_dir u false) x hv (λ ns. like_d ns ∙ sym (ap (λ (c : Child). shown_at w (shown_along f c ns)) there)) r known ns
