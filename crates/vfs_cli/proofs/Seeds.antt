-- A seed that is read is spelled so, and each seed is read.
use Rattle.std.proofs.Common.{◌≡◌, ℕ, ◌<◌, ◌^◌, true, ◌&&◌, nat_lt, List, Option, Some, None, IfSome, IfNone, refl, sym, ap, subst, ◌∙◌, arith, decimal}
use Rattle.std.specs.Str.{bytes_eq}
use Rattle.std.specs.Str.Parse.{digits_value}
use Rattle.std.proofs.lemmas.Slice.Eq.{bytes_eq-Decides}
use Rattle.std.proofs.lemmas.Option.{cond_some}
use Rattle.std.proofs.lemmas.Bool.{and_parts, ltb-true, lt-ltb}
use Rattle.std.proofs.lemmas.Fmt.{decimal_is_IsNumeral}
use Rattle.vfs_cli.specs.Words.{seed_at}

seed_found : (word : List ℕ) (n : ℕ) → seed_at word ≡ Some n → (decimal n ≡ word) × (n < 2 ^ 64)
unfolding seed_at
seed_found word n e =
    let v = digits_value 10 word in
    let c = cond_some (bytes_eq (decimal v) word && nat_lt v (2 ^ 64)) v n e in
    let p = and_parts (bytes_eq (decimal v) word) (nat_lt v (2 ^ 64)) c.0 in
    subst (λ (k : ℕ). (decimal k ≡ word) × (k < 2 ^ 64)) c.1 ((bytes_eq-Decides (decimal v) word).0 p.0, ltb-true v (2 ^ 64) p.1)

seed_again : (n : ℕ) → n < 2 ^ 64 → seed_at (decimal n) ≡ Some n
unfolding seed_at
seed_again n lt =
    let v : digits_value 10 (decimal n) ≡ n = (decimal_is_IsNumeral n (omega arith)).1 in
    let same : bytes_eq (decimal n) (decimal n) ≡ true = (bytes_eq-Decides (decimal n) (decimal n)).1 refl in
    let small : nat_lt n (2 ^ 64) ≡ true = lt-ltb n (2 ^ 64) lt in
    rw (v, same, small) refl

-- a function that finds the number, and answers nothing only where there is none, is `seed_at`
pub seed_is : (word : List ℕ) (r : Option ℕ) → IfSome r (λ n. n < 2 ^ 64) → IfSome r (λ n. decimal n ≡ word) → IfNone r ((n : ℕ) → n < 2 ^ 64 → decimal n ≡ word → ⊥) → r ≡ seed_at word
seed_is word (Some n) small found none = sym (ap seed_at (sym found) ∙ seed_again n small)
seed_is word None small found none =
    elim (seed_at word) as (λ o. seed_at word ≡ o → None ≡ o) [
      | None ↦ λ e. refl
      | Some n ↦ λ e. let f = seed_found word n e in absurd (none n f.1 f.0)
    ] refl
