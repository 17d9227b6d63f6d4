-- A mount is detached, and what a sound world rests on is kept.
use Rattle.std.proofs.Common.{◌≡◌, ℕ, zero, suc, ◌≤◌, ◌<◌, Bool, true, false, not, ◌||◌, ◌==◌, List, [], ◌∷◌, refl, ap, sym, ◌∙◌, subst, arith, nat_cmp, eqb-true, eq-eqb}
use Rattle.std.specs.Prelude.{Option, Some, None, IsSome, IfSome, is_some, option_map}
use Rattle.std.specs.List.{list_any}
use Rattle.std.specs.Cmp.{nat_cmp_total}
use Rattle.std.specs.FinMap.{get}
use Rattle.std.proofs.lemmas.Map.Lookups.{exact_unsigned}
use Rattle.finite_maps.proofs.EntryLaws.{by_key}
use Rattle.vfs_tree.specs.Facts.{Facts}
use Rattle.vfs_tree.specs.Layers.{kind_in, is_cut, cut_by, is_dir}
use Rattle.vfs_tree.specs.Mounts.{Mounts, is_left, layers, layers_at, stands_within, stands_on, is_of, cut_with, covers_in, is_on_in, is_covered}
use Rattle.vfs_tree.specs.Place.{Seen, Mem, Null, UnionUp, UnionLow, mount_of}
use Rattle.vfs_tree.specs.Sound.{EachLayer, EachPlace, IsBelow, IsSoundPlace}
use Rattle.vfs_tree.specs.Views.{facts_of}
use Rattle.vfs_tree.specs.declared.mount.Mount.{Mount}
use Rattle.vfs_tree.specs.declared.mount.MountKind.{MountKind}
use Rattle.vfs_tree.specs.declared.mount.MountKind.TheVariants as kind
use Rattle.vfs_tree.specs.declared.world.World.{World}
use Rattle.call_model.specs.Effects.{detached}
use Rattle.call_laws.specs.Lasting.{lower_mount, IsOver, IsUncut, IsLasting}
use Rattle.call_laws.proofs.FlagLaws.{get_each}
use Rattle.call_laws.proofs.NamedLaws.{no_way, any_value, value_any}
use Rattle.call_laws.proofs.PlaceLaws.{below_head}
use Rattle.call_laws.proofs.SoundLaws.{sound-detach}
use Rattle.call_laws.proofs.SoundParts.{if_each, each_place, Stays, both_of, or_first, or_second, or_none, not_so, if_both, number_or, kind_or}
use Rattle.call_laws.proofs.Whole.{IsWhole}
use Rattle.call_laws.proofs.WholeLaws.{over_stays, dir_stays}

-- ---- lists

pub any_more : {A : Type 0} (p q : A → Bool) → ((a : A) → p a ≡ true → q a ≡ true) → (xs : List A) → list_any p xs ≡ true → list_any q xs ≡ true
any_more p q f [] h = no_way h
any_more p q f (x ∷ xs) h = by (p x) (q x) (f x) (any_more p q f xs) h
  where
    by : (a b : Bool) → (a ≡ true → b ≡ true) → (list_any p xs ≡ true → list_any q xs ≡ true) → (a || list_any p xs) ≡ true → (b || list_any q xs) ≡ true
    by true true g r e = refl
    by true false g r e = no_way (g refl)
    by false true g r e = refl
    by false false g r e = r e

or_more : (a b c : Bool) → (b ≡ true → c ≡ true) → (a || b) ≡ true → (a || c) ≡ true
or_more true b c f h = refl
or_more false b c f h = f h

-- ---- standing on

-- through more mounts as much and more is reached
more_steps : (k j : ℕ) → k ≤ j → (mounts : Mounts) (a b : ℕ) → stands_within k mounts a b ≡ true → stands_within j mounts a b ≡ true
more_steps zero j le mounts a b h = no_way h
more_steps (suc k) zero le mounts a b h = absurd (omega (arith, le))
more_steps (suc k) (suc j) le mounts a b h =
    any_more (λ l. (l == b) || stands_within k mounts l b) (λ l. (l == b) || stands_within j mounts l b)
    (λ l x. or_more (l == b) (stands_within k mounts l b) (stands_within j mounts l b) (more_steps k j (omega (arith, le)) mounts l b) x) (layers_at (get mounts a)) h

-- one of the mounts in which the layers of a mount lie
abbrev pub IsLayer : Option Mount → ℕ → Type 0
IsLayer o l = (test : ℕ → Bool) → test l ≡ true → list_any test (layers_at o) ≡ true

-- what is of the mount in which a layer lies, is of the mount
pub of_layer : (mounts : Mounts) (m n l : ℕ) → IsLayer (get mounts n) l → l < n → is_of mounts m l ≡ true → is_of mounts m n ≡ true
of_layer mounts m n l layer less h =
    or_second (n == m) (stands_on mounts n m)
    (layer (λ x. (x == m) || stands_within n mounts x m) (or_more (l == m) (stands_on mounts l m) (stands_within n mounts l m) (more_steps (suc l) n (omega (arith, less)) mounts l m) h))

layers_so : (o : Option Mount) (k : MountKind) → option_map (λ (t : Mount). t.kind) o ≡ Some k → (test : ℕ → Bool) → list_any test (layers k) ≡ true → list_any test (layers_at o) ≡ true
layers_so (Some t) k is test h = ap (λ x. list_any test (layers x)) (ap kind_or is) ∙ h
layers_so None k is test h = absurd (let clash : None ≡ Some k = is in cc)

pub null_layer : (o : Option Mount) (layer : Seen) → option_map (λ (t : Mount). t.kind) o ≡ Some (kind.Null layer) → IsLayer o (mount_of layer)
null_layer o layer is test h = layers_so o (kind.Null layer) is test (or_first (test (mount_of layer)) false h)

pub lower_layer : (o : Option Mount) (s u : ℕ) (lower : Seen) → option_map (λ (t : Mount). t.kind) o ≡ Some (kind.Union s u lower) → IsLayer o (mount_of lower)
lower_layer o s u lower is test h = layers_so o (kind.Union s u lower) is test (or_second (test s) _ (or_first (test (mount_of lower)) false h))

pub upper_layer : (o : Option Mount) (s u : ℕ) (lower : Seen) → option_map (λ (t : Mount). t.kind) o ≡ Some (kind.Union s u lower) → IsLayer o s
upper_layer o s u lower is test h = layers_so o (kind.Union s u lower) is test (or_first (test s) _ h)

-- the mount of the lower layer
pub is_layer : (o : Option Mount) (k : Option MountKind) (l : ℕ) → option_map (λ (t : Mount). t.kind) o ≡ k → lower_mount k ≡ Some l → IsLayer o l
is_layer o (Some kind.Mem) l is e = absurd (let clash : None ≡ Some l = e in cc)
is_layer o (Some (kind.Null layer)) l is e = subst (IsLayer o) (ap number_or e) (null_layer o layer is)
is_layer o (Some (kind.Union s u lower)) l is e = subst (IsLayer o) (ap number_or e) (lower_layer o s u lower is)
is_layer o None l is e = absurd (let clash : None ≡ Some l = e in cc)

-- the mount of a lower layer has a smaller number
pub lower_less : (m : ℕ) (o : Option Mount) (l : ℕ) → IfSome o (EachPlace (IsBelow m)) → lower_mount (option_map (λ (t : Mount). t.kind) o) ≡ Some l → l < m
lower_less m (Some t) l h e = by t.kind h.1 e
  where
    by : (k : MountKind) → EachLayer (IsBelow m) k → lower_mount (Some k) ≡ Some l → l < m
    by kind.Mem h e = absurd (let clash : None ≡ Some l = e in cc)
    by (kind.Null layer) h e = subst (λ x. x < m) (ap number_or e) (below_head m layer h)
    by (kind.Union s u lower) h e = subst (λ x. x < m) (ap number_or e) (below_head m lower h.1)
lower_less m None l h e = absurd (let clash : None ≡ Some l = e in cc)

pub stands_below : (w : World) → IsWhole w → (n l : ℕ) → lower_mount (kind_in (facts_of w) n) ≡ Some l → l < n
stands_below w h n l e = lower_less n (get w.mounts n) l (h.sound.view.smaller n) e

-- what is of the mount of the lower layer is of the mount
pub of_lower : (w : World) → IsWhole w → (m n l : ℕ) → lower_mount (kind_in (facts_of w) n) ≡ Some l → is_of w.mounts m l ≡ true → is_of w.mounts m n ≡ true
of_lower w h m n l e is = of_layer w.mounts m n l (is_layer (get w.mounts n) (kind_in (facts_of w) n) l refl e) (stands_below w h n l e) is

-- a mount that isn't cut is left by nobody
pub left_cut : (w : World) (n : ℕ) (t : Mount) → IsWhole w → get w.mounts n ≡ Some t → t.cut ≡ false → is_left w.leaving n ≡ false
left_cut w n t h at cut = not_so (is_left w.leaving n) (λ left.
    let x = any_value nat_cmp nat_cmp_total (λ k. k == n) w.leaving left in
    let same : x.value ≡ n = eqb-true x.value n x.passes in
    let of : (x.value < w.next_mount) × IfSome (get w.mounts x.value) (λ t. t.cut ≡ true) = subst (λ o. IfSome o (λ m. (m < w.next_mount) × IfSome (get w.mounts m) (λ t. t.cut ≡ true))) x.at (h.lasts.left x.key) in
    let dead : t.cut ≡ true = subst (λ o. IfSome o (λ t. t.cut ≡ true)) (ap (get w.mounts) same ∙ at) of.1 in
    no_way (sym cut ∙ dead))

module _ (w : World) (c m : ℕ) (h : IsWhole w) (none : get w.leaving c ≡ None) (other : (m == 0) ≡ false) (free : is_covered w m ≡ false) (there : IsSome (get w.mounts m)) where
  abbrev v : World
  v = detached w c m

  abbrev f : Facts
  f = facts_of w

  abbrev g : Facts
  g = facts_of v

  at_each : (n : ℕ) → get v.mounts n ≡ option_map (cut_with w.mounts m) (get w.mounts n)
  at_each n = get_each nat_cmp_total (cut_with w.mounts m) w.mounts n

  cut_kind : (o : Option Mount) → option_map (λ (t : Mount). t.kind) (option_map (cut_with w.mounts m) o) ≡ option_map (λ (t : Mount). t.kind) o
  cut_kind (Some t) = refl
  cut_kind None = refl

  same_kinds : (n : ℕ) → kind_in g n ≡ kind_in f n
  same_kinds n = ap (option_map (λ (t : Mount). t.kind)) (at_each n) ∙ cut_kind (get w.mounts n)

  stays : Stays f g
  stays = record { kinds = λ n k e. same_kinds n ∙ e; nodes = λ s i k e. e }

  -- ---- what isn't cut

  free_of : (o : Option Mount) (n : ℕ) → IfSome o (λ t. t.number ≡ n) → cut_by o ≡ false → is_of w.mounts m n ≡ false → cut_by (option_map (cut_with w.mounts m) o) ≡ false
  free_of (Some t) n is cut apart = ap (λ b. b || is_of w.mounts m t.number) cut ∙ ap (is_of w.mounts m) is ∙ apart
  free_of None n is cut apart = refl

  still_uncut : (n : ℕ) → is_cut f n ≡ false → is_of w.mounts m n ≡ false → is_cut g n ≡ false
  still_uncut n cut apart = ap cut_by (at_each n) ∙ free_of (get w.mounts n) n (h.lasts.mounts n) cut apart

  apart_below : (n l : ℕ) → lower_mount (kind_in f n) ≡ Some l → is_of w.mounts m n ≡ false → is_of w.mounts m l ≡ false
  apart_below n l e apart = not_so (is_of w.mounts m l) (λ is. no_way (sym apart ∙ of_lower w h m n l e is))

  place_uncut : (p : Seen) → IsOver f p → is_of w.mounts m (mount_of p) ≡ false → IsUncut f p → IsUncut g p
  place_uncut (Mem n i) over apart cut = still_uncut n cut apart
  place_uncut (Null n p) over apart cut = (still_uncut n cut.0 apart, place_uncut p over.1 (apart_below n (mount_of p) over.0 apart) cut.1)
  place_uncut (UnionUp n i) over apart cut = still_uncut n cut apart
  place_uncut (UnionLow n u a p) over apart cut = (still_uncut n cut.0 apart, place_uncut p over.1 (apart_below n (mount_of p) over.0 apart) cut.1)

  apart_layer : (n l : ℕ) → IsLayer (get w.mounts n) l → l < n → is_of w.mounts m n ≡ false → is_of w.mounts m l ≡ false
  apart_layer n l layer less apart = not_so (is_of w.mounts m l) (λ is. no_way (sym apart ∙ of_layer w.mounts m n l layer less is))

  layers_uncut : (n : ℕ) (k : MountKind) → kind_in f n ≡ Some k → EachLayer (IsBelow n) k → EachLayer (IsOver f) k → is_of w.mounts m n ≡ false → EachLayer (IsUncut f) k → EachLayer (IsUncut g) k
  layers_uncut n kind.Mem is below over apart cut = tt
  layers_uncut n (kind.Null layer) is below over apart cut =
      place_uncut layer over (apart_layer n (mount_of layer) (null_layer (get w.mounts n) layer is) (below_head n layer below) apart) cut
  layers_uncut n (kind.Union s u lower) is below over apart cut = (
    still_uncut s cut.0 (apart_layer n s (upper_layer (get w.mounts n) s u lower is) below.0 apart),
    place_uncut lower over.1 (apart_layer n (mount_of lower) (lower_layer (get w.mounts n) s u lower is) (below_head n lower below.1) apart) cut.1,
  )

  -- no mount that isn't left covers a place of the mount, or of one that stands on it
  on_apart : (n : ℕ) (t : Mount) → get w.mounts n ≡ Some t → t.number ≡ n → t.cut ≡ false → (p : Seen) → t.on ≡ Some p → is_of w.mounts m (mount_of p) ≡ false
  on_apart n t at number cut p on = not_so (is_of w.mounts m (mount_of p)) (λ is.
      let lies : is_on_in (is_of w.mounts m) t.on ≡ true = ap (is_on_in (is_of w.mounts m)) on ∙ is in
      let stays : not (is_left w.leaving t.number) ≡ true = ap (λ x. not (is_left w.leaving x)) number ∙ ap not (left_cut w n t h at cut) in
      no_way (sym free ∙ value_any nat_cmp (covers_in w.leaving (is_of w.mounts m)) w.mounts n t at (both_of (is_on_in (is_of w.mounts m) t.on) (not (is_left w.leaving t.number)) lies stays)))

  on_uncut : (n : ℕ) (t : Mount) → get w.mounts n ≡ Some t → t.number ≡ n → t.cut ≡ false → (o : Option Seen) → t.on ≡ o → IfSome o (IsOver f) → IfSome o (IsUncut f) → IfSome o (IsUncut g)
  on_uncut n t at number cut (Some p) on over uncut = place_uncut p over (on_apart n t at number cut p on) uncut
  on_uncut n t at number cut None on over uncut = tt

  mount_uncut : (n : ℕ) (o : Option Mount) → get w.mounts n ≡ o → IfSome o (λ t. t.number ≡ n) → IfSome o (EachPlace (IsBelow n)) → IfSome o (λ t. t.cut ≡ false → EachPlace (IsOver f) t)
      → IfSome o (λ t. t.cut ≡ false → EachPlace (IsUncut f) t) → IfSome (option_map (cut_with w.mounts m) o) (λ t. t.cut ≡ false → EachPlace (IsUncut g) t)
  mount_uncut n (Some t) at number below over uncut = λ cut.
      let alive : t.cut ≡ false = (or_none t.cut (is_of w.mounts m t.number) cut).0 in
      let apart : is_of w.mounts m n ≡ false = sym (ap (is_of w.mounts m) number) ∙ (or_none t.cut (is_of w.mounts m t.number) cut).1 in (
        on_uncut n t at number alive t.on refl (over alive).0 (uncut alive).0,
        layers_uncut n t.kind (ap (option_map (λ (t : Mount). t.kind)) at) below.1 (over alive).1 apart (uncut alive).1,
      )
  mount_uncut n None at number below over uncut = tt

  -- ---- mount 0

  no_layers : (o : Option Mount) → option_map (λ (t : Mount). t.kind) o ≡ Some kind.Mem → (test : ℕ → Bool) → list_any test (layers_at o) ≡ false
  no_layers (Some t) is test = ap (λ k. list_any test (layers k)) (ap kind_or is)
  no_layers None is test = refl

  swapped : (0 == m) ≡ false
  swapped = not_so (0 == m) (λ e. no_way (sym other ∙ ap (λ x. x == 0) (sym (eqb-true 0 m e))))

  first_apart : is_of w.mounts m 0 ≡ false
  first_apart = ap (λ b. b || stands_on w.mounts 0 m) swapped ∙ no_layers (get w.mounts 0) h.sound.view.root (λ l. (l == m) || stands_within 0 w.mounts l m)

  -- ---- all of it

  cut_own : (o : Option Mount) → IfSome o (λ t. t.number ≡ m) → IfSome (option_map (cut_with w.mounts m) o) (λ t. t.cut ≡ true)
  cut_own (Some t) is = or_second t.cut (is_of w.mounts m t.number) (or_first (t.number == m) (stands_on w.mounts t.number m) (eq-eqb t.number m is))
  cut_own None is = tt

  cut_still : (o : Option Mount) → IfSome o (λ t. t.cut ≡ true) → IfSome (option_map (cut_with w.mounts m) o) (λ t. t.cut ≡ true)
  cut_still (Some t) is = or_first t.cut (is_of w.mounts m t.number) is
  cut_still None is = tt

  same_there : (o : Option Mount) → IsSome (option_map (cut_with w.mounts m) o) → IsSome o
  same_there (Some t) x = refl
  same_there None x = no_way x

  same_number : (n : ℕ) (o : Option Mount) → IfSome o (λ t. t.number ≡ n) → IfSome (option_map (cut_with w.mounts m) o) (λ t. t.number ≡ n)
  same_number n (Some t) x = x
  same_number n None x = tt

  same_overs : (o : Option Mount) → IfSome o (λ t. t.cut ≡ false → EachPlace (IsOver f) t) → IfSome (option_map (cut_with w.mounts m) o) (λ t. t.cut ≡ false → EachPlace (IsOver g) t)
  same_overs (Some t) x = λ cut. each_place (IsOver f) (IsOver g) (over_stays f g stays.kinds) t (x (or_none t.cut (is_of w.mounts m t.number) cut).0)
  same_overs None x = tt

  still_left : (n : ℕ) → (n < w.next_mount) × IfSome (get w.mounts n) (λ t. t.cut ≡ true) → (n < v.next_mount) × IfSome (get v.mounts n) (λ t. t.cut ≡ true)
  still_left n x = (x.0, subst (λ o. IfSome o (λ t. t.cut ≡ true)) (sym (at_each n)) (cut_still (get w.mounts n) x.1))

  lasting-detach : IsLasting v
  lasting-detach = record {
    numbered = h.lasts.numbered;
    mounts = λ n. subst (λ o. IfSome o (λ t. t.number ≡ n)) (sym (at_each n)) (same_number n (get w.mounts n) (h.lasts.mounts n));
    roots = λ n is. h.lasts.roots n (sym (same_kinds n) ∙ is);
    parents = h.lasts.parents;
    first = still_uncut 0 h.lasts.first first_apart;
    uncut = λ n. subst (λ o. IfSome o (λ t. t.cut ≡ false → EachPlace (IsUncut g) t)) (sym (at_each n))
        (mount_uncut n (get w.mounts n) refl (h.lasts.mounts n) (h.sound.view.smaller n) (h.lasts.overs n) (h.lasts.uncut n));
    overs = λ n. subst (λ o. IfSome o (λ t. t.cut ≡ false → EachPlace (IsOver g) t)) (sym (at_each n)) (same_overs (get w.mounts n) (h.lasts.overs n));
    opens = λ k. if_each (λ o. o.dead ≡ false → IsOver f o.place) (λ o. o.dead ≡ false → IsOver g o.place) (λ o x alive. over_stays f g stays.kinds o.place (x alive)) (get w.opens k) (h.lasts.opens k);
    cwds = λ k. if_both (λ d. d.dead ≡ false → IsSoundPlace f d.place) (λ d. d.dead ≡ false → IsOver f d.place × (is_dir f d.place ≡ true)) (λ d. d.dead ≡ false → IsOver g d.place × (is_dir g d.place ≡ true))
        (λ d p q alive. (over_stays f g stays.kinds d.place (q alive).0, dir_stays f g stays d.place (p alive) (q alive).1)) (get w.cwds k) (h.sound.cwds k) (h.lasts.cwds k);
    left = λ d. by_key nat_cmp_total exact_unsigned w.leaving c m d (λ o. IfSome o (λ n. (n < v.next_mount) × IfSome (get v.mounts n) (λ t. t.cut ≡ true)))
        (λ _. (h.lasts.counted.mounts m there, subst (λ o. IfSome o (λ t. t.cut ≡ true)) (sym (at_each m)) (cut_own (get w.mounts m) (h.lasts.mounts m))))
        (if_each (λ n. (n < w.next_mount) × IfSome (get w.mounts n) (λ t. t.cut ≡ true)) (λ n. (n < v.next_mount) × IfSome (get v.mounts n) (λ t. t.cut ≡ true)) (λ n x. still_left n x) (get w.leaving d) (h.lasts.left d));
    counted = record {
      mounts = λ n x. h.lasts.counted.mounts n (same_there (get w.mounts n) (ap is_some (sym (at_each n)) ∙ x));
      stores = h.lasts.counted.stores;
      most = h.lasts.counted.most;
      inodes = h.lasts.counted.inodes;
    };
  }

  -- a detachment leaves a sound world that lasts
  pub whole-detach : IsWhole v
  whole-detach = record { sound = sound-detach w c m none h.sound; lasts = lasting-detach }
