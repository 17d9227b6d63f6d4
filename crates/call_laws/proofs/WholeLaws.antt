-- Sound worlds that last, and edits of one store that keep them.
use Rattle.std.proofs.Common.{◌≡◌, ℕ, ◌≤◌, ◌<◌, Bool, true, false, cond, List, refl, ap, sym, ◌∙◌, subst, arith}
use Rattle.std.specs.Prelude.{Option, Some, None, IsSome, IfSome, is_some, option_map, option_and_then}
use Rattle.std.specs.Cmp.{nat_cmp_total}
use Rattle.std.specs.Ordering.{eq_by_cmp}
use Rattle.std.specs.FinMap.{get, insert, remove, get-remove}
use Rattle.std.proofs.lemmas.Map.Lookups.{exact_unsigned}
use Rattle.finite_maps.specs.Keys.{pair_cmp}
use Rattle.finite_maps.proofs.EntryLaws.{pair_total, pair_exact, by_key}
use Rattle.vfs_tree.specs.Edits.{with_node, with_store, made, with_made}
use Rattle.vfs_tree.specs.Facts.{Facts}
use Rattle.vfs_tree.specs.FileEdits.{with_bytes}
use Rattle.vfs_tree.specs.Layers.{kind_in, is_cut, is_dir_kind, is_dir, linked_by, is_linked}
use Rattle.vfs_tree.specs.Nodes.{entry_in, is_given, AreBelow}
use Rattle.vfs_tree.specs.Place.{Seen, Mem, Null, UnionUp, UnionLow, mount_of}
use Rattle.vfs_tree.specs.Sound.{IsSoundPlace, EachPlace}
use Rattle.vfs_tree.specs.StoreEdits.{with_node_at}
use Rattle.vfs_tree.specs.Views.{kind_of_node, dir_in, facts_of}
use Rattle.vfs_tree.specs.declared.mount.MountKind.{MountKind}
use Rattle.vfs_tree.specs.declared.node.Kind.{Kind}
use Rattle.vfs_tree.specs.declared.node.Node.{Node}
use Rattle.vfs_tree.specs.declared.node.Store.{Store}
use Rattle.vfs_tree.specs.declared.open.Cwd.{Cwd}
use Rattle.vfs_tree.specs.declared.open.Open.{Open}
use Rattle.vfs_tree.specs.declared.view.DirFacts.{DirFacts}
use Rattle.vfs_tree.specs.declared.world.World.{World}
use Rattle.call_laws.specs.Lasting.{lower_mount, IsOver, IsUncut, IsLasting}
use Rattle.call_laws.proofs.BytesLaws.{kind_alike, dir_alike, names_alike}
use Rattle.call_laws.proofs.MadeLaws.{IsFresh, StoreNames, kind_at, some_stays, made_names, kind_stays, made_below, made_parents}
use Rattle.call_laws.proofs.SoundLaws.{sound-open, sound-closed, sound-cwd}
use Rattle.call_laws.proofs.SoundMade.{NamesOf, sound-stores, dir_at, link_at}
use Rattle.call_laws.proofs.Whole.{IsWhole}
use Rattle.call_laws.proofs.SoundParts.{if_each, each_place, Stays, same_kind_of, if_both}

-- ---- places

lower_kept : (o r : Option MountKind) (n : ℕ) → ((k : MountKind) → o ≡ Some k → r ≡ Some k) → lower_mount o ≡ Some n → lower_mount r ≡ Some n
lower_kept (Some k) r n stay e = ap lower_mount (stay k refl) ∙ e
lower_kept None r n stay e = absurd (let clash : None ≡ Some n = e in cc)

-- what lies over lower layers does so as long as the mounts stay
pub over_stays : (f g : Facts) → ((m : ℕ) (k : MountKind) → kind_in f m ≡ Some k → kind_in g m ≡ Some k) → (p : Seen) → IsOver f p → IsOver g p
over_stays f g stay (Mem m i) h = tt
over_stays f g stay (Null m p) h = (lower_kept (kind_in f m) (kind_in g m) (mount_of p) (stay m) h.0, over_stays f g stay p h.1)
over_stays f g stay (UnionUp m i) h = tt
over_stays f g stay (UnionLow m u n p) h = (lower_kept (kind_in f m) (kind_in g m) (mount_of p) (stay m) h.0, over_stays f g stay p h.1)

pub uncut_stays : (f g : Facts) → ((m : ℕ) → is_cut f m ≡ false → is_cut g m ≡ false) → (p : Seen) → IsUncut f p → IsUncut g p
uncut_stays f g stay (Mem m i) h = stay m h
uncut_stays f g stay (Null m p) h = (stay m h.0, uncut_stays f g stay p h.1)
uncut_stays f g stay (UnionUp m i) h = stay m h
uncut_stays f g stay (UnionLow m u n p) h = (stay m h.0, uncut_stays f g stay p h.1)

-- a directory stays one
pub dir_stays : (f g : Facts) → Stays f g → (p : Seen) → IsSoundPlace f p → is_dir f p ≡ true → is_dir g p ≡ true
dir_stays f g stays p h dir = ap is_dir_kind (same_kind_of f g stays p h.mounts h.base) ∙ dir

-- ---- stores

-- what holds of a store besides that its names are sound
pub record IsWell (t : Store) : Type 0 where
  pub names : StoreNames t
  pub below : AreBelow t.nodes t.next
  pub most : t.next ≤ 4294967295
  pub parents : (i : ℕ) → IfSome (dir_in t i) (λ d. IsSome (kind_at t d.parent))

-- and of another one that stands in its place
pub record IsKept (t new : Store) : Type 0 where
  pub well : IsWell new
  pub kinds : (i : ℕ) (k : Kind) → kind_at t i ≡ Some k → kind_at new i ≡ Some k

module _ (w : World) (h : IsWhole w) (s : ℕ) where
  pub well_store : (t : Store) → get w.stores s ≡ Some t → IsWell t
  well_store t e = record {
    names = subst NamesOf e (h.sound.view.names s);
    below = subst (λ o. IfSome o (λ t. AreBelow t.nodes t.next)) e (h.lasts.numbered s);
    most = subst (λ o. IfSome o (λ t. t.next ≤ 4294967295)) e (h.lasts.counted.inodes s);
    parents = λ i. subst (λ o. IfSome (option_and_then (λ (t : Store). dir_in t i) o) (λ d. IsSome (option_map kind_of_node (option_and_then (λ (t : Store). get t.nodes d.parent) o)))) e (h.lasts.parents s i);
  }

  module _ (t new : Store) (e : get w.stores s ≡ Some t) (k : IsKept t new) where
    abbrev v : World
    v = record w { stores = insert w.stores s new }

    abbrev f : Facts
    f = facts_of w

    abbrev g : Facts
    g = facts_of v

    abbrev node_kind : ℕ → Option Store → Option Kind
    node_kind i o = option_map kind_of_node (option_and_then (λ (t : Store). get t.nodes i) o)

    stays : Stays f g
    stays = record {
      kinds = λ m k x. x;
      nodes = λ r i x is. by_key nat_cmp_total exact_unsigned w.stores s new r (λ o. node_kind i o ≡ Some x)
          (λ same. k.kinds i x (sym (ap (node_kind i) (ap (get w.stores) same ∙ e)) ∙ is)) is;
    }

    parents_there : (r i : ℕ) → IfSome (g.dir r i) (λ d. IsSome (g.kind r d.parent))
    parents_there r i =
        by_key nat_cmp_total exact_unsigned w.stores s new r (λ o. IfSome (option_and_then (λ (t : Store). dir_in t i) o) (λ d. IsSome (node_kind d.parent o)))
        (λ same. k.well.parents i) (h.lasts.parents r i)

    lasting-kept : IsLasting v
    lasting-kept = record {
      numbered = λ r. by_key nat_cmp_total exact_unsigned w.stores s new r (λ o. IfSome o (λ t. AreBelow t.nodes t.next)) (λ _. k.well.below) (h.lasts.numbered r);
      mounts = h.lasts.mounts;
      roots = λ m is. some_stays (f.kind m 1) (g.kind m 1) (stays.nodes m 1) (h.lasts.roots m is);
      parents = parents_there;
      first = h.lasts.first;
      uncut = λ m. if_each (λ t. t.cut ≡ false → EachPlace (IsUncut f) t) (λ t. t.cut ≡ false → EachPlace (IsUncut g) t) (λ t x cut. each_place (IsUncut f) (IsUncut g) (uncut_stays f g (λ m x. x)) t (x cut)) (get w.mounts m) (h.lasts.uncut m);
      overs = λ m. if_each (λ t. t.cut ≡ false → EachPlace (IsOver f) t) (λ t. t.cut ≡ false → EachPlace (IsOver g) t) (λ t x cut. each_place (IsOver f) (IsOver g) (over_stays f g stays.kinds) t (x cut)) (get w.mounts m) (h.lasts.overs m);
      opens = λ x. if_each (λ o. o.dead ≡ false → IsOver f o.place) (λ o. o.dead ≡ false → IsOver g o.place) (λ o x alive. over_stays f g stays.kinds o.place (x alive)) (get w.opens x) (h.lasts.opens x);
      cwds = λ c. if_both (λ d. d.dead ≡ false → IsSoundPlace f d.place) (λ d. d.dead ≡ false → IsOver f d.place × (is_dir f d.place ≡ true)) (λ d. d.dead ≡ false → IsOver g d.place × (is_dir g d.place ≡ true))
          (λ d p q alive. (over_stays f g stays.kinds d.place (q alive).0, dir_stays f g stays d.place (p alive) (q alive).1)) (get w.cwds c) (h.sound.cwds c) (h.lasts.cwds c);
      left = h.lasts.left;
      counted = record {
        mounts = h.lasts.counted.mounts;
        stores = λ r. by_key nat_cmp_total exact_unsigned w.stores s new r (λ o. IsSome o → r < w.next_mount)
            (λ same _. h.lasts.counted.stores r (ap (λ x. is_some (get w.stores x)) same ∙ ap is_some e)) (h.lasts.counted.stores r);
        most = h.lasts.counted.most;
        inodes = λ r. by_key nat_cmp_total exact_unsigned w.stores s new r (λ o. IfSome o (λ t. t.next ≤ 4294967295)) (λ _. k.well.most) (h.lasts.counted.inodes r);
      };
    }

    whole-kept : IsWhole v
    whole-kept = record {
      sound = sound-stores w (insert w.stores s new) h.sound (λ r. by_key nat_cmp_total exact_unsigned w.stores s new r NamesOf (λ _. k.well.names) (h.sound.view.names r)) stays;
      lasts = lasting-kept;
    }

  whole_case : (edit : Store → Store) → (o : Option Store) → get w.stores s ≡ o → ((t : Store) → get w.stores s ≡ Some t → IsWell t → IsKept t (edit t)) → IsWhole (with_store edit w s o)
  whole_case edit (Some t) e kept = whole-kept t (edit t) e (kept t e (well_store t e))
  whole_case edit None e kept = h

  -- a store is edited so that all that it should be it stays
  pub whole-store : (edit : Store → Store) → ((t : Store) → get w.stores s ≡ Some t → IsWell t → IsKept t (edit t)) → IsWhole (with_store edit w s (get w.stores s))
  whole-store edit kept = whole_case edit (get w.stores s) refl kept

-- ---- contents

parent_alike : (s t : Store) (i : ℕ) → ((d : ℕ) → kind_at s d ≡ kind_at t d) → (a b : Option DirFacts) → a ≡ b → IfSome b (λ d. IsSome (kind_at t d.parent)) → IfSome a (λ d. IsSome (kind_at s d.parent))
parent_alike s t i same a b e h =
    subst (λ o. IfSome o (λ d. IsSome (kind_at s d.parent))) (sym e) (if_each (λ d. IsSome (kind_at t d.parent)) (λ d. IsSome (kind_at s d.parent)) (λ d x. ap is_some (same d.parent) ∙ x) b h)

well_itself : (t : Store) → IsWell t → IsKept t t
well_itself t h = record { well = h; kinds = λ i k e. e }

bytes_kept : (t : Store) (i : ℕ) (g : List ℕ → List ℕ) → IsWell t → (o : Option Node) → get t.nodes i ≡ o → IsKept t (record t { nodes = with_node (with_bytes g) t.nodes i o })
bytes_kept t i g h (Some node) at =
    let new : Store = record { nodes = insert t.nodes i (with_bytes g node); next = t.next } in
    record {
      well = record {
        names = names_alike t i g node at t.next h.names;
        below = λ d. by_key nat_cmp_total exact_unsigned t.nodes i (with_bytes g node) d (λ o. IsSome o → d < t.next) (λ same _. h.below d (ap (λ x. is_some (get t.nodes x)) same ∙ ap is_some at)) (h.below d);
        most = h.most;
        parents = λ d. parent_alike new t d (kind_alike t i g node at t.next) (dir_in new d) (dir_in t d) (dir_alike t i g node at t.next d) (h.parents d);
      };
      kinds = λ d k e. kind_alike t i g node at t.next d ∙ e;
    }
bytes_kept t i g h None at = well_itself t h

-- the contents of a file are changed
pub whole-bytes : (w : World) (s i : ℕ) (g : List ℕ → List ℕ) → IsWhole w → IsWhole (with_store (λ t. with_node_at (with_bytes g) t i) w s (get w.stores s))
whole-bytes w s i g h = whole-store w h s (λ t. with_node_at (with_bytes g) t i) (λ t e well. bytes_kept t i g well (get t.nodes i) refl)

-- ---- new nodes

made_kept : (t : Store) (u : ℕ) (n : List ℕ) (node : Node) → IsWell t → t.next < 4294967295 → linked_by (dir_in t u) ≡ true → is_given (entry_in n (get t.nodes u)) ≡ false → IsFresh u node → IsKept t (made t u n node)
made_kept t u n node h room link free fresh =
    let d = dir_at t u (get t.nodes u) link in
    let linked = link_at t u (get t.nodes u) link in
    let unused : is_given (get d.names n) ≡ false = sym (ap (λ o. is_given (entry_in n o)) d.at) ∙ free in
    record {
      well = record {
        names = made_names t u n node d.parent d.opaque d.names h.below d.at linked unused fresh h.names;
        below = made_below t u n node d.parent d.opaque d.names h.below d.at linked unused fresh h.names;
        most = omega (arith, room);
        parents = made_parents t u n node d.parent d.opaque d.names h.below d.at linked unused fresh h.names h.parents;
      };
      kinds = kind_stays t u n node d.parent d.opaque d.names h.below d.at linked unused fresh h.names;
    }

abbrev pub HasRoom : World → ℕ → Type 0
HasRoom w s = IfSome (get w.stores s) (λ t. t.next < 4294967295)

-- a node is made at a name of a linked directory that gives nothing
pub whole-made : (w : World) (s u : ℕ) (n : List ℕ) (node : Node) → IsWhole w → HasRoom w s → is_linked (facts_of w) s u ≡ true → is_given ((facts_of w).entry s u n) ≡ false → IsFresh u node → IsWhole (with_made w s u n node)
whole-made w s u n node h room linked free fresh =
    whole-store w h s (λ t. made t u n node) (λ t e well.
    made_kept t u n node well (subst (λ o. IfSome o (λ t. t.next < 4294967295)) e room)
    (sym (ap (λ o. linked_by (option_and_then (λ (t : Store). dir_in t u) o)) e) ∙ linked)
    (sym (ap (λ o. is_given (entry_in n (option_and_then (λ (t : Store). get t.nodes u) o))) e) ∙ free) fresh)

-- ---- what is open

lasting-open : (w : World) (at : ℕ × ℕ) (o : Open) → IsLasting w → (o.dead ≡ false → IsOver (facts_of w) o.place) → IsLasting (record w { opens = insert w.opens at o })
lasting-open w at o h over = record {
  numbered = h.numbered;
  mounts = h.mounts;
  roots = h.roots;
  parents = h.parents;
  first = h.first;
  uncut = h.uncut;
  overs = h.overs;
  opens = λ k. by_key pair_total pair_exact w.opens at o k (λ x. IfSome x (λ o. o.dead ≡ false → IsOver (facts_of w) o.place)) (λ _. over) (h.opens k);
  cwds = h.cwds;
  left = h.left;
  counted = record { mounts = h.counted.mounts; stores = h.counted.stores; most = h.counted.most; inodes = h.counted.inodes };
}

gone : {A : Type 0} (P : A → Type 0) (b : Bool) (x : Option A) → IfSome x P → IfSome (cond b None x) P
gone P true x h = tt
gone P false x h = h

lasting-closed : (w : World) (at : ℕ × ℕ) → IsLasting w → IsLasting (record w { opens = remove w.opens at })
lasting-closed w at h = record {
  numbered = h.numbered;
  mounts = h.mounts;
  roots = h.roots;
  parents = h.parents;
  first = h.first;
  uncut = h.uncut;
  overs = h.overs;
  opens = λ k. subst (λ x. IfSome x (λ o. o.dead ≡ false → IsOver (facts_of w) o.place)) (sym (get-remove pair_total w.opens at k)) (gone (λ o. o.dead ≡ false → IsOver (facts_of w) o.place) (eq_by_cmp pair_cmp k at) (get w.opens k) (h.opens k));
  cwds = h.cwds;
  left = h.left;
  counted = record { mounts = h.counted.mounts; stores = h.counted.stores; most = h.counted.most; inodes = h.counted.inodes };
}

lasting-cwd : (w : World) (c : ℕ) (d : Cwd) → IsLasting w → IsOver (facts_of w) d.place → is_dir (facts_of w) d.place ≡ true → IsLasting (record w { cwds = insert w.cwds c d })
lasting-cwd w c d h over dir = record {
  numbered = h.numbered;
  mounts = h.mounts;
  roots = h.roots;
  parents = h.parents;
  first = h.first;
  uncut = h.uncut;
  overs = h.overs;
  opens = h.opens;
  cwds = λ k. by_key nat_cmp_total exact_unsigned w.cwds c d k (λ x. IfSome x (λ d. d.dead ≡ false → IsOver (facts_of w) d.place × (is_dir (facts_of w) d.place ≡ true))) (λ _ _. (over, dir)) (h.cwds k);
  left = h.left;
  counted = record { mounts = h.counted.mounts; stores = h.counted.stores; most = h.counted.most; inodes = h.counted.inodes };
}

pub whole-open : (w : World) (at : ℕ × ℕ) (o : Open) → IsWhole w → (o.dead ≡ false → IsSoundPlace (facts_of w) o.place) → (o.dead ≡ false → IsOver (facts_of w) o.place) → IsWhole (record w { opens = insert w.opens at o })
whole-open w at o h place over = record { sound = sound-open w at o h.sound place; lasts = lasting-open w at o h.lasts over }

pub whole-closed : (w : World) (at : ℕ × ℕ) → IsWhole w → IsWhole (record w { opens = remove w.opens at })
whole-closed w at h = record { sound = sound-closed w at h.sound; lasts = lasting-closed w at h.lasts }

pub whole-cwd : (w : World) (c : ℕ) (d : Cwd) → IsWhole w → IsSoundPlace (facts_of w) d.place → IsOver (facts_of w) d.place → is_dir (facts_of w) d.place ≡ true → IsWhole (record w { cwds = insert w.cwds c d })
whole-cwd w c d h place over dir = record { sound = sound-cwd w c d h.sound place; lasts = lasting-cwd w c d h.lasts over dir }
