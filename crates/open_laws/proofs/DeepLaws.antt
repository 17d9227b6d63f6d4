-- The deepest reference is doomed first.
use Rattle.std.proofs.Common.{◌≡◌, ℕ, ◌≤◌, ◌<◌, ◌⊎◌, inl, inr, Bool, true, false, cond, not, ◌&&◌, ◌||◌, ◌==◌, List, [], ◌∷◌, ◌++◌, map, refl, ap, sym, ◌∙◌, subst, arith, eqb-true, eq-eqb, nat_cmp}
use Rattle.std.proofs.lemmas.Bool.{ltb-true, lt-ltb, cases_order}
use Rattle.std.specs.Prelude.{Option, Some, None, IfSome, is_some, option_map, nat_lt}
use Rattle.std.specs.List.{filter, fold, AllByRecursion}
use Rattle.std.specs.Cmp.{nat_cmp_total}
use Rattle.std.specs.FinMap.{get, find, entries, get-entries}
use Rattle.std.specs.Ordering.{eq_by_cmp, is_eq}
use Rattle.std.specs.declared.cmp.Ordering.{Ordering}
use Rattle.std.specs.declared.cmp.Ordering.TheVariants.{Less, Equal, Greater}
use Rattle.std.proofs.lemmas.Map.Lookups.{CmpEqualImpliesEq, exact_unsigned}
use Rattle.finite_maps.specs.Keys.{pair_cmp}
use Rattle.finite_maps.proofs.EntryLaws.{pair_total, pair_exact}
use Rattle.vfs_tree.specs.Facts.{Facts}
use Rattle.vfs_tree.specs.Layers.{base, same_node, depth}
use Rattle.vfs_tree.specs.Mounts.{is_of}
use Rattle.vfs_tree.specs.Place.{Seen, mount_of}
use Rattle.vfs_tree.specs.Views.{facts_of}
use Rattle.vfs_tree.specs.declared.open.Cwd.{Cwd}
use Rattle.vfs_tree.specs.declared.open.Open.{Open}
use Rattle.vfs_tree.specs.declared.walk.Step.TheVariants.{Go, Wants}
use Rattle.vfs_tree.specs.declared.walk.NodeId.{NodeId}
use Rattle.vfs_tree.specs.declared.world.World.{World}
use Rattle.call_model.specs.Checks.{Outcome}
use Rattle.call_model.specs.MountRows.{left, doom_next, revoke_next}
use Rattle.call_model.specs.Refs.{Reference, comes_before, first_case, first_of_two, stands_first, first, first_in, open_reference, cwd_reference, open_references, references, place_of}
use Rattle.call_model.specs.Rows.{row}
use Rattle.call_model.specs.declared.call.Call.TheVariants as call
use Rattle.call_model.specs.declared.entry.Ref.{Ref}
use Rattle.call_model.specs.declared.entry.Ref.TheVariants.{Fd, Cwd as Here}
use Rattle.call_model.specs.declared.entry.Inner.TheVariants.{Doom}
use Rattle.call_model.specs.declared.reply.Reply.TheVariants as reply
use Rattle.call_laws.specs.Fitting.{IsLive}
use Rattle.call_laws.specs.Leaving.{IsLeaver}
use Rattle.call_laws.specs.Revoking.{first_open_on, IsRevoking}
use Rattle.call_laws.proofs.NamedLaws.{no_way}
use Rattle.call_laws.proofs.RevokeLaws.{revoking_row, revoking_first}
use Rattle.call_laws.proofs.RowLaws.{leaver_row}
use Rattle.call_laws.proofs.SoundParts.{first_of, second_of, both_of, or_first, or_second, not_so}
use Rattle.call_laws.proofs.WeightLaws.{all_given}
use Rattle.open_laws.specs.Deepest.{IsInside, IsDescriptor, IsOpenOn, IsDeepestOf, IsDeepest, IsDeepestOn}

abbrev or_place : Seen → Option Seen → Seen
or_place p (Some q) = q
or_place p None = p

abbrev or_ref : Ref → Option Ref → Ref
or_ref r (Some q) = q
or_ref r None = r

abbrev ref_of : Ref → Outcome → Ref
ref_of r (Wants (Doom at)) = at
ref_of r _ = r

abbrev Are : Outcome → Outcome → Type 0
Are o p = o ≡ p

doomed_at : (r at : Ref) → Are (Wants (Doom r)) (Wants (Doom at)) → r ≡ at
doomed_at r at e = ap (ref_of r) e

equal : (r : Ordering) → is_eq r ≡ true → r ≡ Equal
equal Less e = cc
equal Equal e = refl
equal Greater e = cc

-- ---- the order of references

abbrev Comes : Ref → Ref → Type 0
Comes (Fd c d) (Fd e f) = (c < e) ⊎ ((c ≡ e) × (d < f))
Comes (Fd c d) (Here e) = c ≤ e
Comes (Here c) (Fd e f) = c < e
Comes (Here c) (Here e) = c < e

either_so : (a b : Bool) {P Q : Type 0} → (a ≡ true → P) → (b ≡ true → Q) → (a || b) ≡ true → P ⊎ Q
either_so true b f g h = inl (f refl)
either_so false b f g h = inr (g h)

not_less : (e c : ℕ) → not (nat_lt e c) ≡ true → c ≤ e
not_less e c h = by (nat_lt e c) refl h
  where
    by : (b : Bool) → nat_lt e c ≡ b → not b ≡ true → c ≤ e
    by true is h = no_way h
    by false is h = let other : e < c → ⊥ = λ less. no_way (sym is ∙ lt-ltb e c less) in omega (arith, other)

less_not : (e c : ℕ) → c ≤ e → not (nat_lt e c) ≡ true
less_not e c h = by (nat_lt e c) refl
  where
    by : (b : Bool) → nat_lt e c ≡ b → not b ≡ true
    by true is = let less : e < c = ltb-true e c is in absurd (omega (arith, less, h))
    by false is = refl

to_comes : (a b : Ref) → comes_before a b ≡ true → Comes a b
to_comes (Fd c d) (Fd e f) h =
    either_so (nat_lt c e) ((c == e) && nat_lt d f) (ltb-true c e) (λ x. (eqb-true c e (first_of (c == e) (nat_lt d f) x), ltb-true d f (second_of (c == e) (nat_lt d f) x))) h
to_comes (Fd c d) (Here e) h = not_less e c h
to_comes (Here c) (Fd e f) h = ltb-true c e h
to_comes (Here c) (Here e) h = ltb-true c e h

from_comes : (a b : Ref) → Comes a b → comes_before a b ≡ true
from_comes (Fd c d) (Fd e f) (inl x) = or_first (nat_lt c e) ((c == e) && nat_lt d f) (lt-ltb c e x)
from_comes (Fd c d) (Fd e f) (inr x) = or_second (nat_lt c e) ((c == e) && nat_lt d f) (both_of (c == e) (nat_lt d f) (eq-eqb c e x.0) (lt-ltb d f x.1))
from_comes (Fd c d) (Here e) x = less_not e c x
from_comes (Here c) (Fd e f) x = lt-ltb c e x
from_comes (Here c) (Here e) x = lt-ltb c e x

comes_on : (a b c : Ref) → Comes a b → Comes b c → Comes a c
comes_on (Fd a x) (Fd b y) (Fd c z) p q = grind arith
comes_on (Fd a x) (Fd b y) (Here c) p q = grind arith
comes_on (Fd a x) (Here b) (Fd c z) p q = inl (omega (arith, p, q))
comes_on (Fd a x) (Here b) (Here c) p q = omega (arith, p, q)
comes_on (Here a) (Fd b y) (Fd c z) p q = grind arith
comes_on (Here a) (Fd b y) (Here c) p q = omega (arith, p, q)
comes_on (Here a) (Here b) (Fd c z) p q = omega (arith, p, q)
comes_on (Here a) (Here b) (Here c) p q = omega (arith, p, q)

-- what comes before another one comes before a third, or that before the other
comes_past : (a b c : Ref) → Comes a c → Comes a b ⊎ Comes b c
comes_past (Fd a x) (Fd b y) (Fd c z) p = grind arith
comes_past (Fd a x) (Fd b y) (Here c) p = grind arith
comes_past (Fd a x) (Here b) (Fd c z) p = grind arith
comes_past (Fd a x) (Here b) (Here c) p = grind arith
comes_past (Here a) (Fd b y) (Fd c z) p = grind arith
comes_past (Here a) (Fd b y) (Here c) p = grind arith
comes_past (Here a) (Here b) (Fd c z) p = grind arith
comes_past (Here a) (Here b) (Here c) p = grind arith

comes_not : (a : Ref) → Comes a a → ⊥
comes_not (Fd a x) p = grind arith
comes_not (Here a) p = absurd (omega (arith, p))

module _ (f : Facts) where
  abbrev deep : Reference → ℕ
  deep r = depth f r.place

  abbrev First : Reference → Reference → Type 0
  First a b = (deep b < deep a) ⊎ ((deep a ≡ deep b) × Comes a.at b.at)

  to_first : (a b : Reference) → stands_first f a b ≡ true → First a b
  to_first a b h =
      either_so (nat_lt (deep b) (deep a)) ((deep a == deep b) && comes_before a.at b.at) (ltb-true (deep b) (deep a))
      (λ x. (eqb-true (deep a) (deep b) (first_of (deep a == deep b) (comes_before a.at b.at) x), to_comes a.at b.at (second_of (deep a == deep b) (comes_before a.at b.at) x))) h

  -- neither the one nor the other
  first_past : (r a b : Reference) → First r b → First r a ⊎ First a b
  first_past r a b h = elim (cases_order (deep a) (deep r)) as (λ _. First r a ⊎ First a b) [
    | inl same ↦ elim h as (λ _. First r a ⊎ First a b) [
      | inl more ↦ inr (inl (omega (arith, same, more)))
      | inr x ↦ elim (comes_past r.at a.at b.at x.1) as (λ _. First r a ⊎ First a b) [ inl y ↦ inl (inr (sym same, y)) | inr y ↦ inr (inr (same ∙ x.0, y)) ]
    ]
    | inr apart ↦ elim apart as (λ _. First r a ⊎ First a b) [
      | inl less ↦ inl (inl less)
      | inr more ↦ elim h as (λ _. First r a ⊎ First a b) [
        | inl y ↦ inr (inl (omega (arith, y, more)))
        | inr x ↦ let same : deep r ≡ deep b = x.0 in inr (inl (omega (arith, same, more)))
      ]
    ]
  ]

  first_on : (r a b : Reference) → First r a → First a b → First r b
  first_on r a b p q = elim p as (λ _. First r b) [
    | inl x ↦ elim q as (λ _. First r b) [ inl y ↦ inl (omega (arith, x, y)) | inr y ↦ let same : deep a ≡ deep b = y.0 in inl (omega (arith, x, same)) ]
    | inr x ↦ let same : deep r ≡ deep a = x.0 in elim q as (λ _. First r b) [ inl y ↦ inl (omega (arith, same, y)) | inr y ↦ inr (same ∙ y.0, comes_on r.at a.at b.at x.1 y.1) ]
  ]

  first_not : (b : Reference) → First b b → ⊥
  first_not b p = elim p as (λ _. ⊥) [ inl x ↦ absurd (omega (arith, x)) | inr x ↦ comes_not b.at x.1 ]

  -- no reference comes before it
  abbrev Behind : Reference → Reference → Type 0
  Behind b r = First r b → ⊥

  not_first : (a r : Reference) → stands_first f r a ≡ false → First r a → ⊥
  not_first a r none (inl x) = no_way (sym none ∙ or_first (nat_lt (deep a) (deep r)) ((deep r == deep a) && comes_before r.at a.at) (lt-ltb (deep a) (deep r) x))
  not_first a r none (inr x) =
      no_way (sym none ∙ or_second (nat_lt (deep a) (deep r)) ((deep r == deep a) && comes_before r.at a.at) (both_of (deep r == deep a) (comes_before r.at a.at) (eq-eqb (deep r) (deep a) x.0) (from_comes r.at a.at x.1)))

  one_step : (a r b : Reference) (x : Bool) → stands_first f r a ≡ x → IfSome (first_case a r x) (Behind b) → Behind b a × Behind b r
  one_step a r b true is h = (λ p. h (first_on r a b (to_first r a is) p), h)
  one_step a r b false is h = (h, λ p. elim (first_past r a b p) as (λ _. ⊥) [ inl y ↦ not_first a r is y | inr y ↦ h y ])

  all_behind : (rs : List Reference) (acc : Option Reference) (b : Reference) → fold (first_of_two f) acc rs ≡ Some b → IfSome acc (Behind b) × AllByRecursion (Behind b) rs
  all_behind [] acc b e = (subst (λ o. IfSome o (Behind b)) (sym e) (first_not b), tt)
  all_behind (r ∷ rs) None b e = let h = all_behind rs (Some r) b e in (tt, (h.0, h.1))
  all_behind (r ∷ rs) (Some a) b e =
      let h = all_behind rs (first_case a r (stands_first f r a)) b e in
      let k = one_step a r b (stands_first f r a) refl h.0 in
      (k.0, (k.1, h.1))

  -- it is one of them
  kept_in : (Q : Reference → Type 0) (rs : List Reference) (acc : Option Reference) → IfSome acc Q → AllByRecursion Q rs → IfSome (fold (first_of_two f) acc rs) Q
  kept_in Q [] acc h k = h
  kept_in Q (r ∷ rs) acc h k = kept_in Q rs (first_of_two f acc r) (step acc h) k.1
    where
      chosen : (a : Reference) (x : Bool) → Q a → IfSome (first_case a r x) Q
      chosen a true h = k.0
      chosen a false h = h

      step : (o : Option Reference) → IfSome o Q → IfSome (first_of_two f o r) Q
      step None h = k.0
      step (Some a) h = chosen a (stands_first f r a) h

alive : (b : Bool) → not b ≡ true → b ≡ false
alive true e = no_way e
alive false e = refl

-- ---- the references of a world

abbrev live_at : Ref → Seen → Reference
live_at r p = record { at = r; place = p; dead = false }

abbrev or_this : {X : Type 0} → X → Option X → X
or_this y (Some z) = z
or_this y None = y

abbrev pair_of : {K X : Type 0} → K → X → K × X
pair_of k x = (k, x)

pairs : {K X : Type 0} (k l : K) (x v : X) → k ≡ l → x ≡ v → pair_of l x ≡ pair_of k v
pairs k l x v p q = ap (λ a. pair_of a x) (sym p) ∙ ap (pair_of k) q

-- what holds of the entries of a map holds of what stands at a key
at_given : {K X : Type 0} (R : K → K → Ordering) → CmpEqualImpliesEq R → (g : K × X → Reference) (P : Reference → Type 0) (es : List (K × X)) → AllByRecursion P (map g es) → (k : K) (v : X) → find R k es ≡ Some v → P (g (k, v))
at_given R exact g P [] h k v e = absurd (let clash : None ≡ Some v = e in cc)
at_given R exact g P (x ∷ es) h k v e =
    elim (eq_by_cmp R k x.0) as (λ b. eq_by_cmp R k x.0 ≡ b → cond b (Some x.1) (find R k es) ≡ Some v → P (g (k, v))) [
      | true ↦ λ is s. subst P (ap g (let same : x.1 ≡ v = ap (or_this x.1) s in pairs k x.0 x.1 v (exact k x.0 (equal (R k x.0) is)) same)) h.0
      | false ↦ λ is s. at_given R exact g P es h.1 k v s
    ] refl e

all_joined : (P : Reference → Type 0) (xs ys : List Reference) → AllByRecursion P xs → AllByRecursion P ys → AllByRecursion P (xs ++ ys)
all_joined P [] ys h k = k
all_joined P (x ∷ xs) ys h k = (h.0, all_joined P xs ys h.1 k)

parted : (P : Reference → Type 0) (xs ys : List Reference) → AllByRecursion P (xs ++ ys) → AllByRecursion P xs × AllByRecursion P ys
parted P [] ys h = (tt, h)
parted P (x ∷ xs) ys h = let k = parted P xs ys h.1 in ((h.0, k.0), k.1)

-- the references at some places
module _ (w : World) (among : Seen → Bool) where
  -- those that aren't dead
  abbrev kept : List Reference → List Reference
  kept rs = filter (λ r. not r.dead && among r.place) rs

  abbrev Kept : (Reference → Type 0) → Reference → Type 0
  Kept Q r = r.dead ≡ false → among r.place ≡ true → Q r

  all_kept : (Q : Reference → Type 0) (rs : List Reference) → AllByRecursion (Kept Q) rs → AllByRecursion Q (kept rs)
  all_kept Q [] h = tt
  all_kept Q (r ∷ rs) h = by (all_kept Q rs h.1) (not r.dead && among r.place) refl
    where
      by : AllByRecursion Q (kept rs) → (b : Bool) → (not r.dead && among r.place) ≡ b → AllByRecursion Q (cond b (r ∷ kept rs) (kept rs))
      by rest true e = (h.0 (alive r.dead (first_of (not r.dead) (among r.place) e)) (second_of (not r.dead) (among r.place) e), rest)
      by rest false e = rest

  -- what holds of all that are kept holds of each that isn't dead and stands there
  unkept : (Q : Reference → Type 0) (rs : List Reference) → AllByRecursion Q (kept rs) → AllByRecursion (Kept Q) rs
  unkept Q [] h = tt
  unkept Q (r ∷ rs) h = by (λ k. unkept Q rs k) (not r.dead && among r.place) refl h
    where
      by : (AllByRecursion Q (kept rs) → AllByRecursion (Kept Q) rs) → (b : Bool) → (not r.dead && among r.place) ≡ b → AllByRecursion Q (cond b (r ∷ kept rs) (kept rs)) → AllByRecursion (Kept Q) (r ∷ rs)
      by more true e k = (λ alive inside. k.0, more k.1)
      by more false e k = (λ alive inside. no_way (sym e ∙ both_of (not r.dead) (among r.place) (ap not alive) inside), more k)

  -- ---- open files and current directories

  abbrev Given : (Ref → Seen → Type 0) → Type 0
  Given P = (r : Ref) (p : Seen) → IsLive w r → place_of w r ≡ Some p → among p ≡ true → P r p

  module _ (P : Ref → Seen → Type 0) (given : Given P) where
    open_kept : (e : (ℕ × ℕ) × Open) → get w.opens e.0 ≡ Some e.1 → Kept (λ r. P r.at r.place) (open_reference e)
    open_kept e is alive inside =
        given (Fd e.0.0 e.0.1) e.1.place (subst (λ x. IfSome x (λ o. o.dead ≡ false)) (sym is) alive, ap is_some is) (ap (option_map (λ (o : Open). o.place)) is) inside

    cwd_kept : (e : ℕ × Cwd) → get w.cwds e.0 ≡ Some e.1 → Kept (λ r. P r.at r.place) (cwd_reference e)
    cwd_kept e is alive inside =
        given (Here e.0) e.1.place (subst (λ x. IfSome x (λ d. d.dead ≡ false)) (sym is) alive, ap is_some is) (ap (option_map (λ (d : Cwd). d.place)) is) inside

    opens_kept : (es : List ((ℕ × ℕ) × Open)) → AllByRecursion (λ e. get w.opens e.0 ≡ Some e.1) es → AllByRecursion (Kept (λ r. P r.at r.place)) (map open_reference es)
    opens_kept [] h = tt
    opens_kept (e ∷ es) h = (open_kept e h.0, opens_kept es h.1)

    cwds_kept : (es : List (ℕ × Cwd)) → AllByRecursion (λ e. get w.cwds e.0 ≡ Some e.1) es → AllByRecursion (Kept (λ r. P r.at r.place)) (map cwd_reference es)
    cwds_kept [] h = tt
    cwds_kept (e ∷ es) h = (cwd_kept e h.0, cwds_kept es h.1)

    all_opens : AllByRecursion (Kept (λ r. P r.at r.place)) (open_references w)
    all_opens = opens_kept (entries w.opens) (all_given pair_cmp pair_total w.opens)

    all_references : AllByRecursion (Kept (λ r. P r.at r.place)) (references w)
    all_references =
        all_joined (Kept (λ r. P r.at r.place)) (open_references w) (map cwd_reference (entries w.cwds)) all_opens (cwds_kept (entries w.cwds) (all_given nat_cmp nat_cmp_total w.cwds))

  -- what holds of all of them holds of each
  module _ (Q : Reference → Type 0) where
    of_open : AllByRecursion (Kept Q) (open_references w) → (c d : ℕ) (p : Seen) → IsLive w (Fd c d) → place_of w (Fd c d) ≡ Some p → among p ≡ true → Q (live_at (Fd c d) p)
    of_open all c d p live here inside = by (get w.opens (c, d)) refl live.0 here
      where
        by : (o : Option Open) → get w.opens (c, d) ≡ o → IfSome o (λ o. o.dead ≡ false) → option_map (λ (o : Open). o.place) o ≡ Some p → Q (live_at (Fd c d) p)
        by (Some o) at alive here =
            let same : o.place ≡ p = ap (or_place p) here in
            let kept : Q (open_reference ((c, d), o)) = at_given pair_cmp pair_exact open_reference (Kept Q) (entries w.opens) all (c, d) o (sym (get-entries w.opens (c, d)) ∙ at) alive (ap among same ∙ inside) in
            subst (λ q. Q (live_at (Fd c d) q)) same (subst (λ b. Q (record { at = Fd c d; place = o.place; dead = b })) alive kept)
        by None at alive here = absurd (let clash : None ≡ Some p = here in cc)

    of_cwd : AllByRecursion (Kept Q) (map cwd_reference (entries w.cwds)) → (c : ℕ) (p : Seen) → IsLive w (Here c) → place_of w (Here c) ≡ Some p → among p ≡ true → Q (live_at (Here c) p)
    of_cwd all c p live here inside = by (get w.cwds c) refl live.0 here
      where
        by : (o : Option Cwd) → get w.cwds c ≡ o → IfSome o (λ d. d.dead ≡ false) → option_map (λ (d : Cwd). d.place) o ≡ Some p → Q (live_at (Here c) p)
        by (Some d) at alive here =
            let same : d.place ≡ p = ap (or_place p) here in
            let kept : Q (cwd_reference (c, d)) = at_given nat_cmp exact_unsigned cwd_reference (Kept Q) (entries w.cwds) all c d (sym (get-entries w.cwds c) ∙ at) alive (ap among same ∙ inside) in
            subst (λ q. Q (live_at (Here c) q)) same (subst (λ b. Q (record { at = Here c; place = d.place; dead = b })) alive kept)
        by None at alive here = absurd (let clash : None ≡ Some p = here in cc)

    of_reference : AllByRecursion (Kept Q) (references w) → (r : Ref) (p : Seen) → IsLive w r → place_of w r ≡ Some p → among p ≡ true → Q (live_at r p)
    of_reference all (Fd c d) p live here inside = of_open (parted (Kept Q) (open_references w) (map cwd_reference (entries w.cwds)) all).0 c d p live here inside
    of_reference all (Here c) p live here inside = of_cwd (parted (Kept Q) (open_references w) (map cwd_reference (entries w.cwds)) all).1 c p live here inside

  -- ---- the first of those of a list

  module _ (P : Ref → Seen → Type 0) (rs : List Reference) (from : AllByRecursion (Kept (λ r. P r.at r.place)) rs)
      (to : (b : Reference) → AllByRecursion (Kept (Behind (facts_of w) b)) rs → (r : Ref) (p : Seen) → P r p → Behind (facts_of w) b (live_at r p)) where
    is_first : (b : Reference) → first (facts_of w) (kept rs) ≡ Some b → IsDeepestOf w P b.at
    is_first b is = record {
      place = b.place;
      stands = subst (λ o. IfSome o (λ r. P r.at r.place)) is (kept_in (facts_of w) (λ r. P r.at r.place) (kept rs) None tt (all_kept (λ r. P r.at r.place) rs from));
      deepest = λ r p h. let none = behind r p h in let deeper : depth (facts_of w) b.place < depth (facts_of w) p → ⊥ = λ less. none (inl less) in omega (arith, deeper);
      first = λ r p h same. not_so (comes_before r b.at) (λ e. behind r p h (inr (same, to_comes r b.at e)));
    }
      where
        behind : (r : Ref) (p : Seen) → P r p → Behind (facts_of w) b (live_at r p)
        behind = to b (unkept (Behind (facts_of w) b) rs (all_behind (facts_of w) (kept rs) None b is).1)

    at_first : (at : Ref) (o : Option Reference) → first (facts_of w) (kept rs) ≡ o → option_map (λ r. r.at) o ≡ Some at → IsDeepestOf w P at
    at_first at (Some b) is e = subst (IsDeepestOf w P) (ap (or_ref at) e) (is_first b is)
    at_first at None is e = absurd (let clash : None ≡ Some at = e in cc)

-- ---- in a forced unmount

module _ (w : World) (m : ℕ) where
  abbrev inside : Seen → Bool
  inside p = is_of w.mounts m (mount_of p)

  -- the first live reference in a mount, or in one that stands on it
  pub first_deepest : (at : Ref) → first_in w m ≡ Some at → IsDeepest w m at
  first_deepest at e =
      at_first w inside (IsInside w m) (references w) (all_references w inside (IsInside w m) (λ r p live here is. record { live = live; here = here; inside = is }))
      (λ b all r p x. of_reference w inside (Behind (facts_of w) b) all r p x.live x.here x.inside) at (first (facts_of w) (kept w inside (references w))) refl e

next_deepest : (w : World) (c m : ℕ) (at : Ref) (o : Option Ref) → first_in w m ≡ o → doom_next w c m o ≡ Wants (Doom at) → IsDeepest w m at
next_deepest w c m at (Some r) is e = subst (IsDeepest w m) (doomed_at r at e) (first_deepest w m r is)
next_deepest w c m at None is e = absurd (let clash : Go (left w c m, reply.Done) ≡ Wants (Doom at) = e in cc)

-- what a forced unmount dooms next
pub doomed_deepest : (w : World) (c m : ℕ) (text : List ℕ) (at : Ref) → get w.leaving c ≡ Some m → IsLeaver (Some (call.UmountForce text)) → row w c (call.UmountForce text) ≡ Wants (Doom at) → IsDeepest w m at
doomed_deepest w c m text at leaves lawful e = next_deepest w c m at (first_in w m) refl (sym (leaver_row w c (call.UmountForce text) m leaves lawful) ∙ e)

-- ---- in a revoke

same_nodes : (a b : NodeId) → same_node a b ≡ true → a ≡ b
same_nodes a b e = λ t. record {
  store = eqb-true a.store b.store (first_of (a.store == b.store) (a.ino == b.ino) e) t;
  ino = eqb-true a.ino b.ino (second_of (a.store == b.store) (a.ino == b.ino) e) t;
}

node_itself : (a : NodeId) → same_node a a ≡ true
node_itself a = both_of (a.store == a.store) (a.ino == a.ino) (eq-eqb a.store a.store refl) (eq-eqb a.ino a.ino refl)

module _ (w : World) (node : NodeId) where
  abbrev rests : Seen → Bool
  rests p = same_node (base (facts_of w) p) node

  given_open : (r : Ref) (p : Seen) → IsDescriptor r → IsLive w r → place_of w r ≡ Some p → rests p ≡ true → IsOpenOn w node r p
  given_open r p file live here is = record { file = file; live = live; here = here; rests = same_nodes (base (facts_of w) p) node is }

  -- it does where it is an open file
  abbrev IfOpen : Ref → Seen → Type 0
  IfOpen r p = IsDescriptor r → IsOpenOn w node r p

  descriptors : (es : List ((ℕ × ℕ) × Open)) → AllByRecursion (Kept w rests (λ r. IfOpen r.at r.place)) (map open_reference es) → AllByRecursion (Kept w rests (λ r. IsOpenOn w node r.at r.place)) (map open_reference es)
  descriptors [] h = tt
  descriptors (e ∷ es) h = (λ alive is. h.0 alive is tt, descriptors es h.1)

  -- the first live open file that rests on the node
  pub first_open_deepest : (at : Ref) → first_open_on w node ≡ Some at → IsDeepestOn w node at
  first_open_deepest at e =
      at_first w rests (IsOpenOn w node) (open_references w) (descriptors (entries w.opens) (all_opens w rests IfOpen (λ r p live here is file. given_open r p file live here is)))
      behind at (first (facts_of w) (kept w rests (open_references w))) refl e
    where
      behind : (b : Reference) → AllByRecursion (Kept w rests (Behind (facts_of w) b)) (open_references w) → (r : Ref) (p : Seen) → IsOpenOn w node r p → Behind (facts_of w) b (live_at r p)
      behind b all (Fd c d) p x =
          of_open w rests (Behind (facts_of w) b) all c d p x.live x.here (ap (λ a. same_node a node) x.rests ∙ node_itself node)
      behind b all (Here c) p x = absurd x.file

-- what a revoke dooms next
pub revoked_deepest : (w : World) (c : ℕ) (text : List ℕ) (at : Ref) (p : Seen) → row w c (call.Revoke text) ≡ Wants (Doom at) → place_of w at ≡ Some p
    → IsRevoking w c text (base (facts_of w) p) × IsDeepestOn w (base (facts_of w) p) at
revoked_deepest w c text at p e there =
    let node = base (facts_of w) p in
    let is : IsRevoking w c text node = revoking_first w c text at p e there in
    (is, next_open w node at (first_open_on w node) refl (sym (revoking_row w c text node is) ∙ e))
  where
    next_open : (w : World) (node : NodeId) (at : Ref) (o : Option Ref) → first_open_on w node ≡ o → revoke_next w o ≡ Wants (Doom at) → IsDeepestOn w node at
    next_open w node at (Some r) is e = subst (IsDeepestOn w node) (doomed_at r at e) (first_open_deepest w node r is)
    next_open w node at None is e = absurd (let clash : Go (w, reply.Done) ≡ Wants (Doom at) = e in cc)
