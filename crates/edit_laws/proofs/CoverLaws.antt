-- Which mount covers a place.
use Rattle.std.proofs.Common.{◌≡◌, ℕ, Bool, true, false, cond, not, ◌&&◌, ◌||◌, ◌==◌, List, [], ◌∷◌, map, refl, ap, sym, ◌∙◌, subst, nat_cmp, eqb-true, eq-eqb}
use Rattle.std.specs.Prelude.{Option, Some, None, IfSome, is_some, option_map}
use Rattle.std.specs.List.{AllByRecursion, list_any, find as find_in}
use Rattle.std.specs.Cmp.{nat_cmp_total}
use Rattle.std.specs.FinMap.{get, entries, values}
use Rattle.vfs_tree.specs.Mounts.{Leaving, is_left, is_on, covers}
use Rattle.vfs_tree.specs.Place.{Seen}
use Rattle.vfs_tree.specs.Sound.{covers_by, is_on_place}
use Rattle.vfs_tree.specs.Views.{facts_of}
use Rattle.vfs_tree.specs.declared.mount.Mount.{Mount}
use Rattle.vfs_tree.specs.declared.world.World.{World}
use Rattle.call_model.specs.NameEdits.{unless_by}
use Rattle.call_laws.proofs.NamedLaws.{no_way, value_any}
use Rattle.call_laws.proofs.SoundParts.{number_or}
use Rattle.call_laws.proofs.WeightLaws.{all_given}

-- a world whose mounts stand by their numbers, of which no two that nobody is leaving are on one place
pub record AreApart (w : World) : Type 0 where
  pub numbers : (m : ℕ) → IfSome (get w.mounts m) (λ t. t.number ≡ m)
  pub apart : (p : Seen) (m n : ℕ) → is_on_place w p m ≡ true → is_on_place w p n ≡ true → m ≡ n

find_some : {A : Type 0} (test : A → Bool) (xs : List A) → list_any test xs ≡ true → is_some (find_in test xs) ≡ true
find_some test [] h = no_way h
find_some test (x ∷ xs) h = by (test x) (find_some test xs) h
  where
    by : (b : Bool) → (list_any test xs ≡ true → is_some (find_in test xs) ≡ true) → (b || list_any test xs) ≡ true → is_some (cond b (Some x) (find_in test xs)) ≡ true
    by true f e = refl
    by false f e = f e

module _ (w : World) (h : AreApart w) (p : Seen) where
  abbrev test : Mount → Bool
  test = covers w.leaving p

  standing : (e : ℕ × Mount) (m : ℕ) → get w.mounts e.0 ≡ Some e.1 → test e.1 ≡ true → e.1.number ≡ m → is_on_place w p m ≡ true
  standing e m at passes is =
      let key : e.1.number ≡ e.0 = subst (λ o. IfSome o (λ t. t.number ≡ e.0)) at (h.numbers e.0) in
      ap (λ x. covers_by w.leaving p (get w.mounts x)) (sym is ∙ key) ∙ ap (covers_by w.leaving p) at ∙ passes

  among : (es : List (ℕ × Mount)) → AllByRecursion (λ e. get w.mounts e.0 ≡ Some e.1) es → (m : ℕ)
      → option_map (λ (t : Mount). t.number) (find_in test (map (λ e. e.1) es)) ≡ Some m → is_on_place w p m ≡ true
  among [] all m is = absurd (let clash : None ≡ Some m = is in cc)
  among (e ∷ es) all m given =
      elim (test e.1) as (λ b. test e.1 ≡ b → option_map (λ (t : Mount). t.number) (cond b (Some e.1) (find_in test (map (λ e. e.1) es))) ≡ Some m → is_on_place w p m ≡ true) [
        | true ↦ λ passes is. standing e m all.0 passes (ap number_or is)
        | false ↦ λ passes is. among es all.1 m is
      ] refl given

  -- what covers a place is on it
  pub covering_on : (m : ℕ) → (facts_of w).covering p ≡ Some m → is_on_place w p m ≡ true
  covering_on m is = among (entries w.mounts) (all_given nat_cmp nat_cmp_total w.mounts) m is

  some_on : (n : ℕ) (o : Option Mount) → get w.mounts n ≡ o → covers_by w.leaving p o ≡ true → list_any test (values w.mounts) ≡ true
  some_on n (Some t) at x = value_any nat_cmp test w.mounts n t at x
  some_on n None at x = no_way x

  mapped_some : (o : Option Mount) → is_some o ≡ true → is_some (option_map (λ (t : Mount). t.number) o) ≡ true
  mapped_some (Some t) e = refl
  mapped_some None e = no_way e

  covered : (n : ℕ) → is_on_place w p n ≡ true → is_some ((facts_of w).covering p) ≡ true
  covered n on = mapped_some (find_in test (values w.mounts)) (find_some test (values w.mounts) (some_on n (get w.mounts n) refl on))

  -- what is on a place covers it
  pub covering_is : (n : ℕ) → is_on_place w p n ≡ true → (facts_of w).covering p ≡ Some n
  covering_is n on = by ((facts_of w).covering p) refl (covered n on)
    where
      by : (o : Option ℕ) → (facts_of w).covering p ≡ o → is_some o ≡ true → o ≡ Some n
      by (Some m) is there = ap Some (h.apart p m n (covering_on m is) on)
      by None is there = no_way there

  -- so what covers it is known by what is on it
  pub by_places : (r : Option ℕ) → ((n : ℕ) → is_on_place w p n ≡ true → r ≡ Some n) → ((n : ℕ) → r ≡ Some n → is_on_place w p n ≡ true) → (facts_of w).covering p ≡ r
  by_places r f g = by ((facts_of w).covering p) refl r f g
    where
      by : (o : Option ℕ) → (facts_of w).covering p ≡ o → (r : Option ℕ) → ((n : ℕ) → is_on_place w p n ≡ true → r ≡ Some n) → ((n : ℕ) → r ≡ Some n → is_on_place w p n ≡ true) → o ≡ r
      by (Some m) is r f g = sym (f m (covering_on m is))
      by None is (Some n) f g = sym is ∙ covering_is n (g n refl)
      by None is None f g = refl

-- ---- where a mount covers nothing any more

-- the mounts that are left by other callers are as before
abbrev pub OthersLeft : Leaving → Leaving → ℕ → Type 0
OthersLeft new old m = (n : ℕ) → (n ≡ m → ⊥) → is_left new n ≡ is_left old n

pub covers_same : (new old : Leaving) (m : ℕ) → OthersLeft new old m → (p : Seen) (n : ℕ) → (n ≡ m → ⊥) → (o : Option Mount) → IfSome o (λ t. t.number ≡ n) → covers_by new p o ≡ covers_by old p o
covers_same new old m same p n ne (Some t) is = ap (λ b. is_on t.on p && not b) (same t.number (λ e. ne (sym is ∙ e)))
covers_same new old m same p n ne None is = refl

module _ (w v : World) (m : ℕ) (before : AreApart w) (after : AreApart v) (others : (n : ℕ) → (n ≡ m → ⊥) → (p : Seen) → is_on_place v p n ≡ is_on_place w p n)
    (gone : (p : Seen) → is_on_place v p m ≡ false) (p : Seen) where
  into : (n : ℕ) (b : Bool) → (n == m) ≡ b → is_on_place v p n ≡ true → unless_by m ((facts_of w).covering p) ≡ Some n
  into n true e on = no_way (sym (gone p) ∙ ap (is_on_place v p) (sym (eqb-true n m e)) ∙ on)
  into n false e on =
      let other = λ (is : n ≡ m). no_way {A = ⊥} (sym e ∙ eq-eqb n m is) in
      ap (unless_by m) (covering_is w before p n (sym (others n other p) ∙ on)) ∙ ap (λ b. cond b None (Some n)) e

  back : (n : ℕ) (o : Option ℕ) → (facts_of w).covering p ≡ o → unless_by m o ≡ Some n → is_on_place v p n ≡ true
  back n None is e = absurd (let clash : None ≡ Some n = e in cc)
  back n (Some k) is e = by (k == m) refl e
    where
      by : (b : Bool) → (k == m) ≡ b → cond b None (Some k) ≡ Some n → is_on_place v p n ≡ true
      by true x e = absurd (let clash : None ≡ Some n = e in cc)
      by false x e =
          let same : k ≡ n = ap number_or e in
          let other = λ (at : k ≡ m). no_way {A = ⊥} (sym x ∙ eq-eqb k m at) in
          subst (λ n. is_on_place v p n ≡ true) same (others k other p ∙ covering_on w before p k is)

  -- what covers a place then
  pub uncover : (facts_of v).covering p ≡ unless_by m ((facts_of w).covering p)
  uncover = by_places v after p (unless_by m ((facts_of w).covering p)) (λ n on. into n (n == m) refl on) (λ n e. back n ((facts_of w).covering p) refl e)
