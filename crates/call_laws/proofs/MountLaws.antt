-- New mounts keep sound worlds lasting.
use Rattle.std.proofs.Common.{◌≡◌, ℕ, ◌+◌, ◌≤◌, ◌<◌, ◌⊎◌, inl, inr, Bool, true, false, cond, not, ◌||◌, ◌==◌, List, [], ◌∷◌, refl, ap, sym, ◌∙◌, subst, arith, nat_cmp, eqb-true, eq-eqb, eq-or-lt_of_le}
use Rattle.std.specs.Prelude.{Option, Some, None, IsSome, IfSome, is_some, option_map, option_and_then, nat_lt}
use Rattle.std.specs.List.{list_any, find as find_in}
use Rattle.std.specs.Cmp.{nat_cmp_total}
use Rattle.std.specs.FinMap.{FinMap, get, insert, empty, len, values}
use Rattle.std.proofs.lemmas.Map.Lookups.{exact_unsigned}
use Rattle.finite_maps.proofs.EntryLaws.{by_key, get_at-insert}
use Rattle.vfs_tree.specs.Facts.{Facts}
use Rattle.vfs_tree.specs.Layers.{same_place, kind_in, is_cut, cut_by, is_dir, depth, stores}
use Rattle.vfs_tree.specs.Mounts.{covers}
use Rattle.vfs_tree.specs.Nodes.{AreBelow}
use Rattle.vfs_tree.specs.Place.{Seen, Mem, Null, UnionUp, UnionLow}
use Rattle.vfs_tree.specs.Sound.{is_mem, is_null, is_union, names_mounts, IsSoundPlace, IsSoundDir, EachLayer, EachPlace, IsBelow, covers_by, is_on_place, IsSound}
use Rattle.vfs_tree.specs.Start.{empty_store, start_world}
use Rattle.vfs_tree.specs.Views.{kind_of_node, dir_in, facts_of}
use Rattle.vfs_tree.specs.declared.errno.Errno.TheVariants as errno
use Rattle.vfs_tree.specs.declared.mount.Mount.{Mount}
use Rattle.vfs_tree.specs.declared.mount.MountKind.{MountKind}
use Rattle.vfs_tree.specs.declared.mount.MountKind.TheVariants as kind
use Rattle.vfs_tree.specs.declared.node.Kind.{Kind}
use Rattle.vfs_tree.specs.declared.node.Store.{Store}
use Rattle.vfs_tree.specs.declared.walk.Found.{Found}
use Rattle.vfs_tree.specs.declared.world.World.{World}
use Rattle.call_model.specs.Checks.{dir_at}
use Rattle.call_model.specs.MountRows as rows
use Rattle.call_laws.specs.Lasting.{IsOver, IsUncut, IsLasting}
use Rattle.call_laws.proofs.ChdirLaws.{IsEndDir, well-dir_at}
use Rattle.call_laws.proofs.FoundLaws.{IsGood}
use Rattle.call_laws.proofs.GivenLaws.{is_low, dir_upper}
use Rattle.call_laws.proofs.MadeLaws.{some_stays}
use Rattle.call_laws.proofs.NamedLaws.{no_way, value_any}
use Rattle.call_laws.proofs.NameLaws.{check_so}
use Rattle.call_laws.proofs.NeedLaws.{FreeFound}
use Rattle.call_laws.proofs.Parts.{Keeps, MakesNode, Well, found_so, refused, then, unless}
use Rattle.call_laws.proofs.PlaceLaws.{lasting-start}
use Rattle.call_laws.proofs.SoundLaws.{sound-start, start_node}
use Rattle.call_laws.proofs.SoundMade.{NamesOf}
use Rattle.call_laws.proofs.SoundParts.{first_of, second_of, if_each, each_layer, each_place, Stays, stays_place, stays_dir, if_both, mem_there, null_there, union_there, mount_there, kind_or}
use Rattle.call_laws.proofs.SoundRows.{LeavesSo}
use Rattle.call_laws.proofs.Whole.{IsWhole}
use Rattle.call_laws.proofs.WholeLaws.{over_stays, uncut_stays, dir_stays}

-- ---- places that are the same

pub same_is : (p q : Seen) → is_low p ≡ false → same_place p q ≡ true → p ≡ q
same_is (Mem m i) (Mem n j) low h =
    let a : m ≡ n = eqb-true m n (first_of (m == n) (i == j) h) in
    let b : i ≡ j = eqb-true i j (second_of (m == n) (i == j) h) in
    ap (λ x. Mem x i) a ∙ ap (Mem n) b
same_is (Null m p) (Null n q) low h = ap (λ x. Null x p) (eqb-true m n (first_of (m == n) (same_place p q) h)) ∙ ap (Null n) (same_is p q low (second_of (m == n) (same_place p q) h))
same_is (UnionUp m i) (UnionUp n j) low h =
    let a : m ≡ n = eqb-true m n (first_of (m == n) (i == j) h) in
    let b : i ≡ j = eqb-true i j (second_of (m == n) (i == j) h) in
    ap (λ x. UnionUp x i) a ∙ ap (UnionUp n) b
same_is (UnionLow m u a p) q low h = no_way (sym low)
same_is (Mem m i) (Null n q) low h = no_way h
same_is (Mem m i) (UnionUp n j) low h = no_way h
same_is (Mem m i) (UnionLow n v b q) low h = no_way h
same_is (Null m p) (Mem n j) low h = no_way h
same_is (Null m p) (UnionUp n j) low h = no_way h
same_is (Null m p) (UnionLow n v b q) low h = no_way h
same_is (UnionUp m i) (Mem n j) low h = no_way h
same_is (UnionUp m i) (Null n q) low h = no_way h
same_is (UnionUp m i) (UnionLow n v b q) low h = no_way h

find_none : {A : Type 0} (test : A → Bool) (xs : List A) → is_some (find_in test xs) ≡ false → list_any test xs ≡ false
find_none test [] h = refl
find_none test (x ∷ xs) h = by (test x) (find_none test xs) h
  where
    by : (b : Bool) → (is_some (find_in test xs) ≡ false → list_any test xs ≡ false) → is_some (cond b (Some x) (find_in test xs)) ≡ false → (b || list_any test xs) ≡ false
    by true f h = no_way (sym h)
    by false f h = f h

map_some : {A B : Type 0} (g : A → B) (o : Option A) → option_map g o ≡ None → is_some o ≡ false
map_some g (Some x) e = absurd (let clash : true ≡ false = ap is_some e in cc)
map_some g None e = refl

covered_so : (w : World) (p : Seen) (n : ℕ) (o : Option Mount) → get w.mounts n ≡ o → covers_by w.leaving p o ≡ true → list_any (covers w.leaving p) (values w.mounts) ≡ true
covered_so w p n (Some t) at h = value_any nat_cmp (covers w.leaving p) w.mounts n t at h
covered_so w p n None at h = no_way h

-- what nothing covers has no mount on it
pub no_cover : (w : World) (p : Seen) (n : ℕ) → (facts_of w).covering p ≡ None → is_on_place w p n ≡ true → ⊥
no_cover w p n bare on =
    no_way (sym (find_none (covers w.leaving p) (values w.mounts) (map_some (λ (t : Mount). t.number) (find_in (covers w.leaving p) (values w.mounts)) bare)) ∙ covered_so w p n (get w.mounts n) refl on)

-- ---- numbers

-- a directory that is good, and that a mount may be on or have as a layer
pub record IsLayerDir (f : Facts) (p : Seen) : Type 0 where
  pub good : IsGood f p
  pub dir : is_dir f p ≡ true

-- stores that stand in the place of a world's, for one mount more
pub record AreGrown (w : World) (s : FinMap nat_cmp Store) : Type 0 where
  pub names : (r : ℕ) → NamesOf (get s r)
  pub nodes : (r i : ℕ) (k : Kind) → (facts_of w).kind r i ≡ Some k → option_map kind_of_node (option_and_then (λ (t : Store). get t.nodes i) (get s r)) ≡ Some k
  pub numbered : (r : ℕ) → IfSome (get s r) (λ t. AreBelow t.nodes t.next)
  pub parents : (r i : ℕ) → IfSome (option_and_then (λ (t : Store). dir_in t i) (get s r)) (λ d. IsSome (option_map kind_of_node (option_and_then (λ (t : Store). get t.nodes d.parent) (get s r))))
  pub stores : (r : ℕ) → IsSome (get s r) → r < w.next_mount + 1
  pub inodes : (r : ℕ) → IfSome (get s r) (λ t. t.next ≤ 4294967295)

module _ (w : World) (h : IsWhole w) (s : FinMap nat_cmp Store) (grown : AreGrown w s) (k : MountKind) (on : Seen) (covered : IsEndDir (facts_of w) on) (layers : EachLayer (IsLayerDir (facts_of w)) k)
    (room : w.next_mount < 4294967295) (root : k ≡ kind.Mem → IsSome (option_map kind_of_node (option_and_then (λ (t : Store). get t.nodes 1) (get s w.next_mount)))) where
  abbrev m : ℕ
  m = w.next_mount

  abbrev t : Mount
  t = record { number = m; kind = k; on = Some on; cut = false }

  abbrev v : World
  v = record w { stores = s; mounts = insert w.mounts m t; next_mount = m + 1 }

  abbrev f : Facts
  f = facts_of w

  abbrev g : Facts
  g = facts_of v

  fresh : {A : Type 0} (n : ℕ) → n ≡ m → IsSome (get w.mounts n) → A
  fresh n e there = let less : n < m = h.lasts.counted.mounts n there in absurd (omega (arith, less, e))

  at_mount : (n : ℕ) (P : Option Mount → Type 0) → (n ≡ m → P (Some t)) → P (get w.mounts n) → P (get v.mounts n)
  at_mount n P here there = by_key nat_cmp_total exact_unsigned w.mounts m t n P here there

  kinds : (n : ℕ) (x : MountKind) → kind_in f n ≡ Some x → kind_in g n ≡ Some x
  kinds n x is = at_mount n (λ o. option_map (λ (t : Mount). t.kind) o ≡ Some x) (λ e. fresh n e (mount_there (get w.mounts n) (ap is_some is))) is

  cuts : (n : ℕ) → is_cut f n ≡ false → is_cut g n ≡ false
  cuts n is = at_mount n (λ o. cut_by o ≡ false) (λ _. refl) is

  stays : Stays f g
  stays = record { kinds = kinds; nodes = grown.nodes }

  -- ---- what is named is there

  number : (n : ℕ) → IsSome (kind_in f n) → n < m
  number n there = h.lasts.counted.mounts n (mount_there (get w.mounts n) there)

  below : (p : Seen) → names_mounts f p ≡ true → IsBelow m p
  below (Mem n i) x = number n (mem_there (kind_in f n) x)
  below (Null n p) x = (number n (null_there (kind_in f n) (first_of (is_null (kind_in f n)) (names_mounts f p) x)), below p (second_of (is_null (kind_in f n)) (names_mounts f p) x))
  below (UnionUp n i) x = number n (union_there (kind_in f n) x)
  below (UnionLow n u a p) x = (number n (union_there (kind_in f n) (first_of (is_union (kind_in f n)) (names_mounts f p) x)), below p (second_of (is_union (kind_in f n)) (names_mounts f p) x))

  layer_dir : (p : Seen) → IsLayerDir f p → IsSoundDir g p
  layer_dir p x = stays_dir f g stays p (record { place = x.good.sound; dir = x.dir })

  new_places : EachPlace (IsSoundDir g) t
  new_places = (layer_dir on (record { good = covered.end.good; dir = covered.dir }), each_layer (IsLayerDir f) (IsSoundDir g) layer_dir k layers)

  new_smaller : EachPlace (IsBelow m) t
  new_smaller = (below on covered.end.good.sound.mounts, each_layer (IsLayerDir f) (IsBelow m) (λ p x. below p x.good.sound.mounts) k layers)

  new_uncut : EachPlace (IsUncut g) t
  new_uncut = (uncut_stays f g cuts on covered.end.good.uncut, each_layer (IsLayerDir f) (IsUncut g) (λ p x. uncut_stays f g cuts p x.good.uncut) k layers)

  new_over : EachPlace (IsOver g) t
  new_over = (over_stays f g kinds on covered.end.good.over, each_layer (IsLayerDir f) (IsOver g) (λ p x. over_stays f g kinds p x.good.over) k layers)

  -- ---- no two mounts are on one place

  on_new : (p : Seen) (n : ℕ) → is_on_place v p n ≡ true → ((n ≡ m) × (same_place on p ≡ true)) ⊎ (is_on_place w p n ≡ true)
  on_new p n =
      at_mount n (λ o. covers_by w.leaving p o ≡ true → ((n ≡ m) × (same_place on p ≡ true)) ⊎ (is_on_place w p n ≡ true)) (λ e x. inl (e, first_of (same_place on p) _ x)) (λ x. inr x)

  alone : {A : Type 0} (p : Seen) (n : ℕ) → same_place on p ≡ true → is_on_place w p n ≡ true → A
  alone p n same x =
      let is : on ≡ p = same_is on p (dir_upper f on covered.end.good.sound.files covered.dir) same in
      absurd (no_cover w p n (sym (ap f.covering is) ∙ covered.end.bare) x)

  apart : (p : Seen) (a b : ℕ) → is_on_place v p a ≡ true → is_on_place v p b ≡ true → a ≡ b
  apart p a b x y = elim (on_new p a x) as (λ _. a ≡ b) [
    | inl i ↦ elim (on_new p b y) as (λ _. a ≡ b) [ inl j ↦ i.0 ∙ sym j.0 | inr j ↦ alone p b i.1 j ]
    | inr i ↦ elim (on_new p b y) as (λ _. a ≡ b) [ inl j ↦ alone p a j.1 i | inr j ↦ h.sound.apart p a b i j ]
  ]

  sound-mount : IsSound v
  sound-mount = record {
    view = record {
      names = grown.names;
      places = λ n. at_mount n (λ o. IfSome o (λ t. t.cut ≡ false → EachPlace (IsSoundDir g) t)) (λ _ _. new_places)
          (if_each (λ t. t.cut ≡ false → EachPlace (IsSoundDir f) t) (λ t. t.cut ≡ false → EachPlace (IsSoundDir g) t) (λ t x cut. each_place (IsSoundDir f) (IsSoundDir g) (stays_dir f g stays) t (x cut)) (get w.mounts n) (h.sound.view.places n));
      root = kinds 0 kind.Mem h.sound.view.root;
      smaller = λ n. at_mount n (λ o. IfSome o (EachPlace (IsBelow n))) (λ e. subst (λ x. EachPlace (IsBelow x) t) (sym e) new_smaller) (h.sound.view.smaller n);
    };
    opens = λ x. if_each (λ o. o.dead ≡ false → IsSoundPlace f o.place) (λ o. o.dead ≡ false → IsSoundPlace g o.place) (λ o y e. stays_place f g stays o.place (y e)) (get w.opens x) (h.sound.opens x);
    cwds = λ c. if_each (λ o. o.dead ≡ false → IsSoundPlace f o.place) (λ o. o.dead ≡ false → IsSoundPlace g o.place) (λ o y e. stays_place f g stays o.place (y e)) (get w.cwds c) (h.sound.cwds c);
    apart = apart;
  }

  root_there : (n : ℕ) → kind_in g n ≡ Some kind.Mem → IsSome (g.kind n 1)
  root_there n =
      at_mount n (λ o. option_map (λ (t : Mount). t.kind) o ≡ Some kind.Mem → IsSome (g.kind n 1)) (λ e is. ap (λ x. is_some (g.kind x 1)) e ∙ root (ap kind_or is))
      (λ is. some_stays (f.kind n 1) (g.kind n 1) (grown.nodes n 1) (h.lasts.roots n is))

  still_left : (n : ℕ) → (n < m) × IfSome (get w.mounts n) (λ t. t.cut ≡ true) → (n < m + 1) × IfSome (get v.mounts n) (λ t. t.cut ≡ true)
  still_left n x =
      let less : n < m = x.0 in
      (omega (arith, less), at_mount n (λ o. IfSome o (λ t. t.cut ≡ true)) (λ e. absurd (omega (arith, less, e))) x.1)

  lasting-mount : IsLasting v
  lasting-mount = record {
    numbered = grown.numbered;
    mounts = λ n. at_mount n (λ o. IfSome o (λ t. t.number ≡ n)) (λ e. sym e) (h.lasts.mounts n);
    roots = root_there;
    parents = grown.parents;
    first = cuts 0 h.lasts.first;
    uncut = λ n. at_mount n (λ o. IfSome o (λ t. t.cut ≡ false → EachPlace (IsUncut g) t)) (λ _ _. new_uncut)
        (if_each (λ t. t.cut ≡ false → EachPlace (IsUncut f) t) (λ t. t.cut ≡ false → EachPlace (IsUncut g) t) (λ t x cut. each_place (IsUncut f) (IsUncut g) (uncut_stays f g cuts) t (x cut)) (get w.mounts n) (h.lasts.uncut n));
    overs = λ n. at_mount n (λ o. IfSome o (λ t. t.cut ≡ false → EachPlace (IsOver g) t)) (λ _ _. new_over)
        (if_each (λ t. t.cut ≡ false → EachPlace (IsOver f) t) (λ t. t.cut ≡ false → EachPlace (IsOver g) t) (λ t x cut. each_place (IsOver f) (IsOver g) (over_stays f g kinds) t (x cut)) (get w.mounts n) (h.lasts.overs n));
    opens = λ x. if_each (λ o. o.dead ≡ false → IsOver f o.place) (λ o. o.dead ≡ false → IsOver g o.place) (λ o y e. over_stays f g kinds o.place (y e)) (get w.opens x) (h.lasts.opens x);
    cwds = λ c. if_both (λ d. d.dead ≡ false → IsSoundPlace f d.place) (λ d. d.dead ≡ false → IsOver f d.place × (is_dir f d.place ≡ true)) (λ d. d.dead ≡ false → IsOver g d.place × (is_dir g d.place ≡ true))
        (λ d p q e. (over_stays f g kinds d.place (q e).0, dir_stays f g stays d.place (p e) (q e).1)) (get w.cwds c) (h.sound.cwds c) (h.lasts.cwds c);
    left = λ c. if_each (λ n. (n < m) × IfSome (get w.mounts n) (λ t. t.cut ≡ true)) (λ n. (n < m + 1) × IfSome (get v.mounts n) (λ t. t.cut ≡ true)) still_left (get w.leaving c) (h.lasts.left c);
    counted = record {
      mounts = λ n. at_mount n (λ o. IsSome o → n < m + 1) (λ e _. omega (arith, e)) (λ there. let less : n < m = h.lasts.counted.mounts n there in omega (arith, less));
      stores = grown.stores;
      most = omega (arith, room);
      inodes = grown.inodes;
    };
  }

  pub whole-mount : IsWhole v
  whole-mount = record { sound = sound-mount; lasts = lasting-mount }

-- ---- stores

-- the same stores
same_grown : (w : World) → IsWhole w → AreGrown w w.stores
same_grown w h = record {
  names = h.sound.view.names;
  nodes = λ r i k e. e;
  numbered = h.lasts.numbered;
  parents = h.lasts.parents;
  stores = λ r there. let less : r < w.next_mount = h.lasts.counted.stores r there in omega (arith, less);
  inodes = h.lasts.counted.inodes;
}

-- a store with the root directory alone
module _ (w : World) (h : IsWhole w) where
  abbrev s : FinMap nat_cmp Store
  s = insert w.stores w.next_mount empty_store

  at_store : (r : ℕ) (P : Option Store → Type 0) → (r ≡ w.next_mount → P (Some empty_store)) → P (get w.stores r) → P (get s r)
  at_store r P here there = by_key nat_cmp_total exact_unsigned w.stores w.next_mount empty_store r P here there

  start_store : get (start_world w.limits).stores 0 ≡ Some empty_store
  start_store = get_at-insert nat_cmp_total empty 0 empty_store

  abbrev node_kind : ℕ → Option Store → Option Kind
  node_kind i o = option_map kind_of_node (option_and_then (λ (t : Store). get t.nodes i) o)

  store_some : (r i : ℕ) (k : Kind) (o : Option Store) → node_kind i o ≡ Some k → IsSome o
  store_some r i k (Some t) e = refl
  store_some r i k None e = absurd (let clash : None ≡ Some k = e in cc)

  fresh_store : {A : Type 0} (r : ℕ) → r ≡ w.next_mount → IsSome (get w.stores r) → A
  fresh_store r e there = let less : r < w.next_mount = h.lasts.counted.stores r there in absurd (omega (arith, less, e))

  mem_grown : AreGrown w s
  mem_grown = record {
    names = λ r. at_store r NamesOf (λ _. subst NamesOf start_store ((sound-start w.limits).view.names 0)) (h.sound.view.names r);
    nodes = λ r i k e. at_store r (λ o. node_kind i o ≡ Some k) (λ same. fresh_store r same (store_some r i k (get w.stores r) e)) e;
    numbered = λ r. at_store r (λ o. IfSome o (λ t. AreBelow t.nodes t.next)) (λ _. subst (λ o. IfSome o (λ t. AreBelow t.nodes t.next)) start_store ((lasting-start w.limits).numbered 0)) (h.lasts.numbered r);
    parents = λ r i. at_store r (λ o. IfSome (option_and_then (λ (t : Store). dir_in t i) o) (λ d. IsSome (node_kind d.parent o)))
        (λ _. subst (λ o. IfSome (option_and_then (λ (t : Store). dir_in t i) o) (λ d. IsSome (node_kind d.parent o))) start_store ((lasting-start w.limits).parents 0 i)) (h.lasts.parents r i);
    stores = λ r. at_store r (λ o. IsSome o → r < w.next_mount + 1) (λ e _. omega (arith, e)) (λ there. let less : r < w.next_mount = h.lasts.counted.stores r there in omega (arith, less));
    inodes = λ r. at_store r (λ o. IfSome o (λ t. t.next ≤ 4294967295)) (λ _. omega arith) (h.lasts.counted.inodes r);
  }

  mem_root : IsSome (node_kind 1 (get s w.next_mount))
  mem_root =
      ap (λ o. is_some (node_kind 1 o)) (get_at-insert nat_cmp_total w.stores w.next_mount empty_store) ∙ ap (λ o. is_some (node_kind 1 o)) (sym start_store)
      ∙ ap (λ o. is_some (option_map kind_of_node o)) (start_node w.limits)

-- ---- the rows

fewer : (n : ℕ) → n ≤ 4294967295 → (n == 4294967295) ≡ false → n < 4294967295
fewer n most free = elim (eq-or-lt_of_le most) as (λ _. n < 4294967295) [ inl e ↦ no_way (sym free ∙ eq-eqb n 4294967295 e) | inr less ↦ less ]

whole-check_mounts : (w : World) → IsWhole w → Keeps (λ _. w.next_mount < 4294967295) (MakesNode w) (rows.check_mounts w)
whole-check_mounts w h = unless (not (nat_lt (len w.mounts) w.limits.mounts)) _ (λ _. check_so (w.next_mount == 4294967295) errno.ENOSPC (fewer w.next_mount h.lasts.counted.most))

not_mem : {A : Type 0} (k : MountKind) → is_mem (Some k) ≡ false → k ≡ kind.Mem → A
not_mem k other e = no_way (sym other ∙ ap (λ x. is_mem (Some x)) e)

pub whole-mount_mem : (w : World) (a : Found) → FreeFound (facts_of w) a → Well w a → IsWhole w → Keeps (LeavesSo IsWhole) (MakesNode w) (rows.mount_mem w a)
whole-mount_mem w a fa wa h =
    then (dir_at w a) (well-dir_at w a fa (wa h)) (λ on x.
    then (rows.check_mounts w) (whole-check_mounts w h) (λ _ room.
    found_so (whole-mount w h (insert w.stores w.next_mount empty_store) (mem_grown w h) kind.Mem on x tt room (λ _. mem_root w h))))

layer_of : (f : Facts) (p : Seen) → IsEndDir f p → IsLayerDir f p
layer_of f p x = record { good = x.end.good; dir = x.dir }

pub whole-mount_null : (w : World) (a b : Found) → FreeFound (facts_of w) a → FreeFound (facts_of w) b → Well w a → Well w b → IsWhole w → Keeps (LeavesSo IsWhole) (MakesNode w) (rows.mount_null w a b)
whole-mount_null w a b fa fb wa wb h =
    then (dir_at w a) (well-dir_at w a fa (wa h)) (λ layer x.
    then (dir_at w b) (well-dir_at w b fb (wb h)) (λ on y.
    unless (same_place layer on) _ (λ _.
    unless (depth (facts_of w) layer == rows.most_depth) _ (λ _.
    then (rows.check_mounts w) (whole-check_mounts w h) (λ _ room.
    found_so (whole-mount w h w.stores (same_grown w h) (kind.Null layer) on y (layer_of (facts_of w) layer x) room (not_mem (kind.Null layer) refl)))))))

upper_so : (w : World) (p : Seen) → Keeps (λ x. p ≡ Mem x.store x.ino) (MakesNode w) (rows.upper_of p)
upper_so w (Mem m i) = found_so refl
upper_so w (Null m p) = refused
upper_so w (UnionUp m i) = refused
upper_so w (UnionLow m u n p) = refused

pub whole-mount_union : (w : World) (a b : Found) → FreeFound (facts_of w) a → FreeFound (facts_of w) b → Well w a → Well w b → IsWhole w → Keeps (LeavesSo IsWhole) (MakesNode w) (rows.mount_union w a b)
whole-mount_union w a b fa fb wa wb h =
    then (dir_at w a) (well-dir_at w a fa (wa h)) (λ up x.
    then (dir_at w b) (well-dir_at w b fb (wb h)) (λ on y.
    then (rows.upper_of up) (upper_so w up) (λ upper is.
    unless (list_any (λ s. s == upper.store) (stores (facts_of w) on)) _ (λ _.
    unless (depth (facts_of w) on == rows.most_depth) _ (λ _.
    then (rows.check_mounts w) (whole-check_mounts w h) (λ _ room.
    found_so (whole-mount w h w.stores (same_grown w h) (kind.Union upper.store upper.ino on) on y
    (subst (IsLayerDir (facts_of w)) is (layer_of (facts_of w) up x), layer_of (facts_of w) on y) room (not_mem (kind.Union upper.store upper.ino on) refl))))))))
