-- What a caller's path finds, links followed, is sound; and the world at the start lasts.
use Rattle.std.proofs.Common.{◌≡◌, ℕ, ◌≤◌, ◌<◌, Bool, true, false, cond, not, ◌&&◌, ◌==◌, List, [], ◌∷◌, map, refl, ap, sym, ◌∙◌, subst, arith, nat_cmp, eqb-true}
use Rattle.std.specs.Prelude.{Option, Some, None, IsSome, IfSome, is_some, option_map, option_and_then}
use Rattle.std.specs.List.{AllByRecursion, find as find_in}
use Rattle.std.specs.Str.{bytes_eq}
use Rattle.std.specs.Cmp.{nat_cmp_total}
use Rattle.std.specs.FinMap.{get, empty, entries, get-empty}
use Rattle.finite_maps.specs.Keys.{pair_cmp}
use Rattle.finite_maps.proofs.EntryLaws.{pair_total, get_at-insert}
use Rattle.vfs_tree.specs.Facts.{Facts}
use Rattle.vfs_tree.specs.Layers.{same_place, kind_in, is_cut, cut_by, is_dir_kind, is_dir}
use Rattle.vfs_tree.specs.Mounts.{is_left, is_on, covers}
use Rattle.vfs_tree.specs.Place.{Seen, Mem, Null, UnionUp, UnionLow, mount_of}
use Rattle.vfs_tree.specs.Sound.{EachLayer, EachPlace, IsSoundPlace, IsSoundDir, IsBelow, IsSound}
use Rattle.vfs_tree.specs.Start.{empty_dir, empty_store, root_mount, root_cwd, root_cwds, start_world}
use Rattle.vfs_tree.specs.Views.{kind_of_node, facts_in, dir_in, facts_of}
use Rattle.vfs_tree.specs.declared.limits.Limits.{Limits}
use Rattle.vfs_tree.specs.declared.mount.Mount.{Mount}
use Rattle.vfs_tree.specs.declared.mount.MountKind.{MountKind}
use Rattle.vfs_tree.specs.declared.mount.MountKind.TheVariants as kind
use Rattle.vfs_tree.specs.declared.node.Store.{Store}
use Rattle.vfs_tree.specs.declared.open.Cwd.{Cwd}
use Rattle.vfs_tree.specs.declared.open.Open.{Open}
use Rattle.vfs_tree.specs.declared.walk.Found.{Found}
use Rattle.vfs_tree.specs.declared.walk.Found.TheVariants as found
use Rattle.vfs_tree.specs.declared.walk.Leaf.TheVariants as leaf
use Rattle.vfs_tree.specs.declared.world.World.{World}
use Rattle.vfs_tree.proofs.StartLaws.{numbered-start}
use Rattle.call_model.specs.Effects.{doomed_open, doomed_cwd, doomed_place, doomed}
use Rattle.call_model.specs.Refs.{place_of}
use Rattle.call_model.specs.Rows.{Way, way, found_at}
use Rattle.call_model.specs.declared.entry.Ref.{Ref}
use Rattle.call_laws.specs.Lasting.{lower_mount, IsOver, IsUncut, AreCounted, IsLasting}
use Rattle.call_laws.proofs.FlagLaws.{get_each}
use Rattle.call_laws.proofs.FoundLaws.{IsGood, UncutNeed, IsGoodView, head_uncut, good_layers, dir_ready, GoodChild, good-child}
use Rattle.call_laws.proofs.WalkInduction.{found_so}
use Rattle.call_laws.proofs.WalkLaws.{stands_at, IsTarget, IsEnd, FoundWell, good_walks}
use Rattle.call_laws.proofs.SoundLaws.{only, start_node, each_root}
use Rattle.call_laws.proofs.NamedLaws.{no_way}
use Rattle.call_laws.proofs.SoundParts.{first_of, if_each, or_none, mapped, number_or}
use Rattle.call_laws.proofs.WeightLaws.{all_given}

-- ---- what covers a place

-- a mount that passes a test, and its number
record Covering (w : World) (test : Mount → Bool) (m : ℕ) : Type 0 where
  pub mount : Mount
  pub at : get w.mounts m ≡ Some mount
  pub passes : test mount ≡ true

same_mount : (p q : Seen) → same_place p q ≡ true → mount_of p ≡ mount_of q
same_mount (Mem m i) (Mem n j) h = eqb-true m n (first_of (m == n) (i == j) h)
same_mount (Null m p) (Null n q) h = eqb-true m n (first_of (m == n) (same_place p q) h)
same_mount (UnionUp m i) (UnionUp n j) h = eqb-true m n (first_of (m == n) (i == j) h)
same_mount (UnionLow m u a p) (UnionLow n v b q) h = eqb-true m n (first_of (m == n) ((u == v) && (bytes_eq a b && same_place p q)) h)
same_mount _ _ h = no_way h

pub below_head : (m : ℕ) (p : Seen) → IsBelow m p → mount_of p < m
below_head m (Mem n i) h = h
below_head m (Null n p) h = h.0
below_head m (UnionUp n i) h = h
below_head m (UnionLow n u a p) h = h.0

on_below : (m : ℕ) (p : Seen) (o : Option Seen) → IfSome o (IsBelow m) → is_on o p ≡ true → mount_of p < m
on_below m p (Some q) h is = subst (λ x. x < m) (same_mount q p is) (below_head m q h)
on_below m p None h is = no_way is

good_place : (f : Facts) (p : Seen) → IsSoundDir f p → IsUncut f p → IsOver f p → IsGood f p
good_place f p s u o = record { sound = s.place; uncut = u; over = o; ready = dir_ready f p s.place.files s.dir }

good_on_place : (f : Facts) (o : Option Seen) → IfSome o (IsSoundDir f) → IfSome o (IsUncut f) → IfSome o (IsOver f) → IfSome o (IsGood f)
good_on_place f (Some p) a b c = good_place f p a b c
good_on_place f None a b c = tt

good_kind : (f : Facts) (k : MountKind) → EachLayer (IsSoundDir f) k → EachLayer (IsUncut f) k → EachLayer (IsOver f) k → EachLayer (IsGood f) k
good_kind f kind.Mem a b c = tt
good_kind f (kind.Null layer) a b c = good_place f layer a b c
good_kind f (kind.Union s u lower) a b c = (good_place f (Mem s u) a.0 b.0 c.0, good_place f lower a.1 b.1 c.1)

good_mount : (f : Facts) (o : Option Mount) → IfSome o (λ t. t.cut ≡ false → EachPlace (IsSoundDir f) t) → IfSome o (λ t. t.cut ≡ false → EachPlace (IsUncut f) t)
    → IfSome o (λ t. t.cut ≡ false → EachPlace (IsOver f) t) → IfSome o (λ t. t.cut ≡ false → EachPlace (IsGood f) t)
good_mount f (Some t) a b c = λ cut. (good_on_place f t.on (a cut).0 (b cut).0 (c cut).0, good_kind f t.kind (a cut).1 (b cut).1 (c cut).1)
good_mount f None a b c = tt

module _ (w : World) (h : IsSound w) (lasts : IsLasting w) where
  -- ---- what covers a place is there

  standing : (test : Mount → Bool) (e : ℕ × Mount) (m : ℕ) → get w.mounts e.0 ≡ Some e.1 → test e.1 ≡ true → e.1.number ≡ m → Covering w test m
  standing test e m at passes is =
      let key : e.1.number ≡ e.0 = subst (λ o. IfSome o (λ t. t.number ≡ e.0)) at (lasts.mounts e.0) in
      record { mount = e.1; at = ap (get w.mounts) (sym is ∙ key) ∙ at; passes = passes }

  numbered_among : (test : Mount → Bool) (es : List (ℕ × Mount)) → AllByRecursion (λ e. get w.mounts e.0 ≡ Some e.1) es → (m : ℕ)
      → option_map (λ (t : Mount). t.number) (find_in test (map (λ e. e.1) es)) ≡ Some m → Covering w test m
  numbered_among test [] all m is = absurd (let clash : None ≡ Some m = is in cc)
  numbered_among test (e ∷ es) all m given =
      elim (test e.1) as (λ b. test e.1 ≡ b → option_map (λ (t : Mount). t.number) (cond b (Some e.1) (find_in test (map (λ e. e.1) es))) ≡ Some m → Covering w test m) [
        | true ↦ λ passes is. standing test e m all.0 passes (ap number_or is)
        | false ↦ λ passes is. numbered_among test es all.1 m is
      ] refl given

  covered_by : (p : Seen) (m : ℕ) → (facts_of w).covering p ≡ Some m → Covering w (covers w.leaving p) m
  covered_by p m is = numbered_among (covers w.leaving p) (entries w.mounts) (all_given nat_cmp nat_cmp_total w.mounts) m is

  rising : (p : Seen) (m : ℕ) → (facts_of w).covering p ≡ Some m → mount_of p < m
  rising p m is =
      let x = covered_by p m is in
      let below : EachPlace (IsBelow m) x.mount = subst (λ o. IfSome o (EachPlace (IsBelow m))) x.at (h.view.smaller m) in
      on_below m p x.mount.on below.0 (first_of (is_on x.mount.on p) (not (is_left w.leaving x.mount.number)) x.passes)

  few_mounts : (m : ℕ) → IsSome (get w.mounts m) → m < 4294967295
  few_mounts m there =
      let below : m < w.next_mount = lasts.counted.mounts m there in
      let most : w.next_mount ≤ 4294967295 = lasts.counted.most in
      omega (arith, below, most)

  pub good_view : IsGoodView (facts_of w)
  good_view = record {
    sound = h.view;
    places = λ m. good_mount (facts_of w) (get w.mounts m) (h.view.places m) (lasts.uncut m) (lasts.overs m);
    roots = lasts.roots;
    parents = lasts.parents;
    first = lasts.first;
    covers = λ p m is. ap is_some (covered_by p m is).at;
    rises = rising;
    few = few_mounts;
  }

  -- ---- where a relative path begins

  lower_uncut : (m n : ℕ) (k : Option MountKind) → kind_in (facts_of w) m ≡ k → lower_mount k ≡ Some n → is_cut (facts_of w) m ≡ false → is_cut (facts_of w) n ≡ false
  lower_uncut m n (Some (kind.Null layer)) is e cut =
      ap (is_cut (facts_of w)) (sym (ap number_or e)) ∙ head_uncut (facts_of w) layer (good_layers (facts_of w) good_view m (kind.Null layer) is cut).uncut
  lower_uncut m n (Some (kind.Union s u lower)) is e cut =
      ap (is_cut (facts_of w)) (sym (ap number_or e)) ∙ head_uncut (facts_of w) lower (good_layers (facts_of w) good_view m (kind.Union s u lower) is cut).1.uncut
  lower_uncut m n (Some kind.Mem) is e cut = absurd (let clash : None ≡ Some n = e in cc)
  lower_uncut m n None is e cut = absurd (let clash : None ≡ Some n = e in cc)

  over_uncut : (p : Seen) → IsOver (facts_of w) p → is_cut (facts_of w) (mount_of p) ≡ false → IsUncut (facts_of w) p
  over_uncut (Mem m i) over cut = cut
  over_uncut (Null m p) over cut = (cut, over_uncut p over.1 (lower_uncut m (mount_of p) (kind_in (facts_of w) m) refl over.0 cut))
  over_uncut (UnionUp m i) over cut = cut
  over_uncut (UnionLow m u n p) over cut = (cut, over_uncut p over.1 (lower_uncut m (mount_of p) (kind_in (facts_of w) m) refl over.0 cut))

  -- a directory in a mount that isn't cut
  pub good_dir : (p : Seen) → IsSoundPlace (facts_of w) p → IsOver (facts_of w) p → is_dir (facts_of w) p ≡ true → is_cut (facts_of w) (mount_of p) ≡ false → IsGood (facts_of w) p
  good_dir p sound over dir cut = record { sound = sound; uncut = over_uncut p over cut; over = over; ready = dir_ready (facts_of w) p sound.files dir }

  cwd_good : (o : Option Cwd) → IfSome o (λ d. d.dead ≡ false → IsSoundPlace (facts_of w) d.place) → IfSome o (λ d. d.dead ≡ false → IsOver (facts_of w) d.place × (is_dir (facts_of w) d.place ≡ true))
      → IfSome o (λ d. d.dead ≡ false → is_cut (facts_of w) (mount_of d.place) ≡ false → IsGood (facts_of w) d.place)
  cwd_good (Some d) sound over = λ alive cut. good_dir d.place (sound alive) (over alive).0 (over alive).1 cut
  cwd_good None sound over = tt

  -- where a caller's relative paths begin
  pub good_cwd : (c : ℕ) → IfSome (get w.cwds c) (λ d. d.dead ≡ false → is_cut (facts_of w) (mount_of d.place) ≡ false → IsGood (facts_of w) d.place)
  good_cwd c = cwd_good (get w.cwds c) (h.cwds c) (lasts.cwds c)

  -- what a path finds is well
  pub well_at : (c : ℕ) (o : Option Way) → FoundWell (facts_of w) (found_at w c o)
  well_at c o =
      let f = facts_of w in
      found_so w (UncutNeed f) (IsGood f) (IsEnd f) (IsTarget f) (λ m. IsSome (f.mount m)) (good_walks f good_view) c (good_cwd c) o

  end_at : (a : Found) (p : Seen) → FoundWell (facts_of w) a → a ≡ found.At p → IsEnd (facts_of w) p
  end_at a p g is = subst (FoundWell (facts_of w)) is g

  pub sound_at : (c : ℕ) (text : List ℕ) (p : Seen) → found_at w c (way leaf.Follow text) ≡ found.At p → IsSoundPlace (facts_of w) p
  sound_at c text p is = (end_at (found_at w c (way leaf.Follow text)) p (well_at c (way leaf.Follow text)) is).good.sound

  pub uncut_at : (c : ℕ) (text : List ℕ) (p : Seen) → found_at w c (way leaf.Follow text) ≡ found.At p → IsUncut (facts_of w) p
  uncut_at c text p is = (end_at (found_at w c (way leaf.Follow text)) p (well_at c (way leaf.Follow text)) is).good.uncut

  -- nothing covers it
  pub bare_at : (c : ℕ) (text : List ℕ) (p : Seen) → found_at w c (way leaf.Follow text) ≡ found.At p → (facts_of w).covering p ≡ None
  bare_at c text p is = (end_at (found_at w c (way leaf.Follow text)) p (well_at c (way leaf.Follow text)) is).bare

  target_at : (a : Found) (d : Seen) (n : List ℕ) (o : Option Seen) → FoundWell (facts_of w) a → a ≡ found.In d n o → IsTarget (facts_of w) d n o
  target_at a d n o g is = subst (FoundWell (facts_of w)) is g

  -- a name is in a directory at a sound place, and what stands at it is at one
  pub dir_at : (c : ℕ) (text : List ℕ) (d : Seen) (n : List ℕ) (o : Option Seen) → found_at w c (way leaf.Parent text) ≡ found.In d n o → IsSoundDir (facts_of w) d
  dir_at c text d n o is =
      let t = target_at (found_at w c (way leaf.Parent text)) d n o (well_at c (way leaf.Parent text)) is in
      record { place = t.good.sound; dir = t.dir }

  pub good_child_at : (d p : Seen) (n : List ℕ) → IsTarget (facts_of w) d n (Some p) → IsGood (facts_of w) p
  good_child_at d p n t =
      let c : GoodChild (facts_of w) good_view (mount_of d) (stands_at (Some p)) = subst (GoodChild (facts_of w) good_view (mount_of d)) t.child (good-child (facts_of w) good_view d n t.good) in
      c.0

  pub child_at : (c : ℕ) (text : List ℕ) (d p : Seen) (n : List ℕ) → found_at w c (way leaf.Parent text) ≡ found.In d n (Some p) → IsSoundPlace (facts_of w) p
  child_at c text d p n is = (good_child_at d p n (target_at (found_at w c (way leaf.Parent text)) d n (Some p) (well_at c (way leaf.Parent text)) is)).sound

  -- a mount that is found is there
  pub mount_at : (c : ℕ) (text : List ℕ) (m : ℕ) → found_at w c (way leaf.Mount text) ≡ found.Mount m → IsSome (get w.mounts m)
  mount_at c text m is = subst (FoundWell (facts_of w)) is (well_at c (way leaf.Mount text))

-- ---- the start

module _ (limits : Limits) where
  abbrev w : World
  w = start_world limits

  abbrev f : Facts
  f = facts_of w

  root_there : (s : ℕ) → s ≡ 0 → IsSome (f.kind s 1)
  root_there s is = ap (λ r. is_some (f.kind r 1)) is ∙ ap (λ o. is_some (option_map kind_of_node o)) (start_node limits)

  root_dir : is_dir f (Mem 0 1) ≡ true
  root_dir = ap (λ o. is_dir_kind (option_map kind_of_node o)) (start_node limits)

  below_one : (m : ℕ) → m ≡ 0 → m < 1
  below_one m is = omega (arith, is)

  counted-start : AreCounted (start_world limits)
  counted-start = record {
    mounts = λ m. only 0 root_mount m (λ o. IsSome o → m < 1) (λ same _. below_one m same) (λ e. no_way e);
    stores = λ s. only 0 empty_store s (λ o. IsSome o → s < 1) (λ same _. below_one s same) (λ e. no_way e);
    most = omega arith;
    inodes = λ s. only 0 empty_store s (λ o. IfSome o (λ t. t.next ≤ 4294967295)) (λ _. omega arith) tt;
  }

  pub lasting-start : IsLasting (start_world limits)
  lasting-start = record {
    numbered = numbered-start limits;
    mounts = λ m. only 0 root_mount m (λ o. IfSome o (λ t. t.number ≡ m)) (λ same. sym same) tt;
    roots = λ m. only 0 root_mount m (λ o. option_map (λ (t : Mount). t.kind) o ≡ Some kind.Mem → IsSome (f.kind m 1)) (λ same _. root_there m same) (λ e. absurd (let clash : None ≡ Some kind.Mem = e in cc));
    parents = λ s i. only 0 empty_store s (λ o. IfSome (option_and_then (λ (t : Store). dir_in t i) o) (λ d. IsSome (f.kind s d.parent)))
        (λ same. only 1 (empty_dir 1) i (λ o. IfSome (option_and_then (facts_in empty_store i) o) (λ d. IsSome (f.kind s d.parent))) (λ _. root_there s same) tt) tt;
    first = ap cut_by (get_at-insert nat_cmp_total empty 0 root_mount);
    uncut = λ m. only 0 root_mount m (λ o. IfSome o (λ t. t.cut ≡ false → EachPlace (IsUncut f) t)) (λ _ _. (tt, tt)) tt;
    overs = λ m. only 0 root_mount m (λ o. IfSome o (λ t. t.cut ≡ false → EachPlace (IsOver f) t)) (λ _ _. (tt, tt)) tt;
    opens = λ k. subst (λ o. IfSome o (λ (o : Open). o.dead ≡ false → IsOver f o.place)) (sym (get-empty {X = Open} pair_cmp k)) tt;
    cwds = λ c. if_each (λ d. d ≡ root_cwd) (λ d. d.dead ≡ false → IsOver f d.place × (is_dir f d.place ≡ true))
        (λ d e _. subst (λ x. IsOver f x.place × (is_dir f x.place ≡ true)) (sym e) (tt, root_dir)) (get (root_cwds limits.callers) c) (each_root limits limits.callers c);
    left = λ c. subst (λ o. IfSome o (λ m. (m < w.next_mount) × IfSome (get w.mounts m) (λ t. t.cut ≡ true))) (sym (get-empty {X = ℕ} nat_cmp c)) tt;
    counted = counted-start;
  }

-- ---- dooms

lasting_doomed_place : (w : World) (o : Option Seen) → IsLasting w → IsLasting (doomed_place w o)
lasting_doomed_place w (Some p) h = record {
  numbered = h.numbered;
  mounts = h.mounts;
  roots = h.roots;
  parents = h.parents;
  first = h.first;
  uncut = h.uncut;
  overs = h.overs;
  opens = λ k. subst (λ x. IfSome x (λ o. o.dead ≡ false → IsOver (facts_of w) o.place)) (sym (get_each pair_total (doomed_open p) w.opens k))
      (mapped (doomed_open p) (λ o. o.dead ≡ false → IsOver (facts_of w) o.place) (λ o. o.dead ≡ false → IsOver (facts_of w) o.place) (λ o s e. s (or_none o.dead _ e).0) (get w.opens k) (h.opens k));
  cwds = λ c. subst (λ x. IfSome x (λ d. d.dead ≡ false → IsOver (facts_of w) d.place × (is_dir (facts_of w) d.place ≡ true))) (sym (get_each nat_cmp_total (doomed_cwd p) w.cwds c))
      (mapped (doomed_cwd p) (λ d. d.dead ≡ false → IsOver (facts_of w) d.place × (is_dir (facts_of w) d.place ≡ true)) (λ d. d.dead ≡ false → IsOver (facts_of w) d.place × (is_dir (facts_of w) d.place ≡ true))
      (λ d s e. s (or_none d.dead _ e).0) (get w.cwds c) (h.cwds c));
  left = h.left;
  counted = record { mounts = h.counted.mounts; stores = h.counted.stores; most = h.counted.most; inodes = h.counted.inodes };
}
lasting_doomed_place w None h = h

-- what is doomed leaves what a sound world rests on
pub lasting-doom : (w : World) (at : Ref) → IsLasting w → IsLasting (doomed w at)
lasting-doom w at h = lasting_doomed_place w (place_of w at) h
