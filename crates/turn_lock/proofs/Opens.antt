-- The lock at its start.
use Rattle.std.proofs.Common.{◌≡◌, ℕ, zero, suc, ◌<◌, List, [], ◌∷◌, length, Some, refl, sym, subst, inr, false, arith}
use mathlib.Core.Option.{some, some-injective, some-ne-none}
use lib.ListN.{get_elem?}
use Rattle.atomic_table.specs.Table.{opening}
use Rattle.turn_lock.specs.declared.view.View.{View}
use Rattle.turn_lock.specs.Turns.{Turns, Knows, first_view, parts_to}
use Rattle.turn_lock.proofs.Parts.{part_to, only_to, length_to, is_there}
use Rattle.turn_lock.proofs.Places.{whole}

only : {W : Type 0} (w : W) (j : ℕ) (v : W) → get_elem? (w ∷ []) j ≡ some v → (0 ≡ j) × (w ≡ v)
only w zero v at = (refl, some-injective w v at)
only w (suc j) v at = absurd (some-ne-none v (sym at))

module _ {T E F Q : Type 0} (list : T → List E) (fixed : T → F) (part : T → ℕ → Q) where
  pub opens : (y : T) (n count : ℕ) → 0 < n → count ≡ length (list y)
      → Turns list fixed part (fixed y) n (opening (0 ∷ 0 ∷ count ∷ []) (Some y ∷ []) (first_view list fixed part y n))
  opens y n count top_some e = record {
    cur = y;
    owner = λ _. 0;
    keeper = λ _. 0;
    next = 0;
    serving = 0;
    count = count;
    out = false;
    words_are = refl;
    homes_are = refl;
    ordered = omega arith;
    fits = omega arith;
    counted = e;
    fixed_is = refl;
    holder = λ h. cc;
    drawn = λ m low high. absurd (omega arith);
    kept = λ m low high. (first_view list fixed part y n, refl, is_there m (parts_to (part y) n) (part y m) (part_to (part y) n m low high));
    each = λ j v at. let o = only (first_view list fixed part y n) j v at in
        let P : ℕ → View T E F Q → Type 0 = λ i w. Knows list part (fixed y) n y (λ _. 0) (λ _. 0) 0 0 false i w in
        subst (λ i. P i v) o.0 (subst (λ w. P 0 w) o.1 (record {
          saw = whole (list y);
          heard = (list y, refl);
          same = λ f h. cc;
          drew = λ m h. cc;
          has = λ z h. cc;
          owns = λ m q h. let r = only_to (part y) n m q h in (refl, r.0, r.1, r.2);
          live = inr (length_to (part y) n top_some);
        }));
  }
