-- A limits line that is read is spelled so and lawful, and lawful limits are read again from their line.
use Rattle.std.proofs.Common.{◌≡◌, ℕ, ◌*◌, ◌<◌, ◌≤◌, ◌^◌, Bool, true, false, ◌&&◌, nat_lt, nat_le, ◌==◌, cond, List, [], ◌∷◌, codes, decimal, Option, Some, None, refl, sym, ap, subst, ◌∙◌, arith, lit<}
use Rattle.std.specs.List.{slice_split, join_with_byte}
use Rattle.std.specs.Str.{bytes_eq}
use Rattle.std.specs.Str.Parse.{AllDigits}
use Rattle.std.proofs.lemmas.Option.{cond_some}
use Rattle.std.proofs.lemmas.Bool.{and_parts, and_from, ltb-true, lt-ltb, leb-true, le-leb}
use Rattle.std.proofs.lemmas.Fmt.{decimal_is_IsNumeral}
use Rattle.std.proofs.lemmas.Str.Parse.{digit_from_value}
use Rattle.std.proofs.lemmas.List.Splits.{join_with_byte-slice_split}
use Rattle.vfs_tree.specs.declared.limits.Limits.{Limits}
use Rattle.vfs_tree.specs.Limits.{holders, IsLawful}
use Rattle.call_model.specs.declared.call.Line.{Line}
use Rattle.script_text.specs.Keyword.{keyword, keyword_text}
use Rattle.script_text.specs.Line.{call_words, line_words, line_text}
use Rattle.script_text.specs.Fits.{FitsLine}
use Rattle.script_text.specs.Script.{limits_words, limits_text}
use Rattle.script_text.specs.Reading.{◌>>=◌}
use Rattle.script_text.specs.ReadWord.{number_at}
use Rattle.script_text.specs.ReadScript.{is_within, is_lawful, lawful_only, limits_from, limits_in, limits_at}
use Rattle.script_text.proofs.Joined.{lacks, EachLacks, cut_joined, joined_lacks}
use Rattle.script_text.proofs.Values.{bytes_are, bind_some, number_found, number_again}
use Rattle.script_text.proofs.CallLaws.{number_lacks}
use Rattle.script_text.proofs.LineLaws.{caller_below, line_cut}

-- ---- lawful limits

within : (n most : ℕ) → is_within n most ≡ true → (1 ≤ n) × (n ≤ most)
within n most e =
    let p = and_parts (nat_lt 0 n) (nat_le n most) e in
    let some : 0 < n = ltb-true 0 n p.0 in
    (omega arith, leb-true n most p.1)

within_again : (n most : ℕ) → 1 ≤ n → n ≤ most → is_within n most ≡ true
within_again n most some few = and_from (nat_lt 0 n) (nat_le n most) (lt-ltb 0 n (omega arith)) (le-leb n most few)

lawful_found : (limits : Limits) → is_lawful limits ≡ true → IsLawful limits
lawful_found limits e =
    let vnodes : Bool = nat_le (9 * holders limits) limits.vnodes && nat_le limits.vnodes 4096 in
    let a = and_parts (is_within limits.callers 16) (is_within limits.files 256 && (is_within limits.mounts 16 && vnodes)) e in
    let b = and_parts (is_within limits.files 256) (is_within limits.mounts 16 && vnodes) a.1 in
    let c = and_parts (is_within limits.mounts 16) vnodes b.1 in
    let d = and_parts (nat_le (9 * holders limits) limits.vnodes) (nat_le limits.vnodes 4096) c.1 in
    let p = within limits.callers 16 a.0 in
    let f = within limits.files 256 b.0 in
    let m = within limits.mounts 16 c.0 in
    record { some_caller = p.0; few_callers = p.1; some_file = f.0; few_files = f.1; some_mount = m.0; few_mounts = m.1; enough_vnodes = leb-true (9 * holders limits) limits.vnodes d.0; few_vnodes = leb-true limits.vnodes 4096 d.1 }

lawful_again : (limits : Limits) → IsLawful limits → is_lawful limits ≡ true
lawful_again limits h =
    let vnodes : Bool = nat_le (9 * holders limits) limits.vnodes && nat_le limits.vnodes 4096 in
    and_from (is_within limits.callers 16) (is_within limits.files 256 && (is_within limits.mounts 16 && vnodes)) (within_again limits.callers 16 h.some_caller h.few_callers)
    (and_from (is_within limits.files 256) (is_within limits.mounts 16 && vnodes) (within_again limits.files 256 h.some_file h.few_files)
    (and_from (is_within limits.mounts 16) vnodes (within_again limits.mounts 16 h.some_mount h.few_mounts)
    (and_from (nat_le (9 * holders limits) limits.vnodes) (nat_le limits.vnodes 4096) (le-leb (9 * holders limits) limits.vnodes h.enough_vnodes) (le-leb limits.vnodes 4096 h.few_vnodes))))

-- ---- the limits line

made : ℕ → ℕ → ℕ → ℕ → Limits
made callers files mounts vnodes = record { callers = callers; files = files; mounts = mounts; vnodes = vnodes }

five_same : {a b c d e v w x y z : List ℕ} → a ≡ v → b ≡ w → c ≡ x → d ≡ y → e ≡ z → a ∷ b ∷ c ∷ d ∷ e ∷ [] ≡ v ∷ w ∷ x ∷ y ∷ z ∷ []
five_same p q r s t = cc

from_found : (word p f m n : List ℕ) (limits : Limits) → word ≡ codes "limits" → limits_from p f m n ≡ Some limits → (limits_words limits ≡ word ∷ p ∷ f ∷ m ∷ n ∷ []) × IsLawful limits
unfolding made
from_found word p f m n limits is e =
    let a = bind_some (number_at p) (λ callers. number_at f >>= λ files. number_at m >>= λ mounts. number_at n >>= λ vnodes. lawful_only (made callers files mounts vnodes)) limits e in
    let b = bind_some (number_at f) (λ files. number_at m >>= λ mounts. number_at n >>= λ vnodes. lawful_only (made a.0 files mounts vnodes)) limits a.2 in
    let c = bind_some (number_at m) (λ mounts. number_at n >>= λ vnodes. lawful_only (made a.0 b.0 mounts vnodes)) limits b.2 in
    let d = bind_some (number_at n) (λ vnodes. lawful_only (made a.0 b.0 c.0 vnodes)) limits c.2 in
    let t = cond_some (is_lawful (made a.0 b.0 c.0 d.0)) (made a.0 b.0 c.0 d.0) limits d.2 in
    let words : limits_words (made a.0 b.0 c.0 d.0) ≡ word ∷ p ∷ f ∷ m ∷ n ∷ [] = five_same (sym is) (number_found p a.0 a.1).0 (number_found f b.0 b.1).0 (number_found m c.0 c.1).0 (number_found n d.0 d.1).0 in
    subst (λ (l : Limits). (limits_words l ≡ word ∷ p ∷ f ∷ m ∷ n ∷ []) × IsLawful l) t.1 (words, lawful_found (made a.0 b.0 c.0 d.0) t.0)

cond_some_is : {A : Type 0} (b : Bool) (o : Option A) (y : A) → cond b o None ≡ Some y → (b ≡ true) × (o ≡ Some y)
cond_some_is true o y e = (refl, e)
cond_some_is false o y e = absurd cc

in_found : (words : List (List ℕ)) (limits : Limits) → limits_in words ≡ Some limits → (limits_words limits ≡ words) × IsLawful limits
unfolding limits_in
in_found [] limits e = absurd cc
in_found (word ∷ []) limits e = absurd cc
in_found (word ∷ p ∷ []) limits e = absurd cc
in_found (word ∷ p ∷ f ∷ []) limits e = absurd cc
in_found (word ∷ p ∷ f ∷ m ∷ []) limits e = absurd cc
in_found (word ∷ p ∷ f ∷ m ∷ n ∷ []) limits e =
    let c = cond_some_is (bytes_eq word (codes "limits")) (limits_from p f m n) limits e in
    from_found word p f m n limits (bytes_are word (codes "limits") c.0) c.1
in_found (word ∷ p ∷ f ∷ m ∷ n ∷ more ∷ words) limits e = absurd cc

pub limits_found : (text : List ℕ) (limits : Limits) → limits_at text ≡ Some limits → (text ≡ limits_text limits) × IsLawful limits
unfolding limits_at limits_text
limits_found text limits e =
    let found = in_found (slice_split (λ b. b == 32) text) limits e in
    (sym (join_with_byte-slice_split 32 text) ∙ ap (join_with_byte 32) (sym found.0), found.1)

words_lack : (b : ℕ) (limits : Limits) → b < 33 → lacks b (codes "limits") ≡ true → IsLawful limits → EachLacks b (limits_words limits)
words_lack b limits low first h =
    (first, (number_lacks b limits.callers low (omega (arith, h.few_callers)), (number_lacks b limits.files low (omega (arith, h.few_files)), (number_lacks b limits.mounts low (omega (arith, h.few_mounts)), (number_lacks b limits.vnodes low (omega (arith, h.few_vnodes)), tt)))))

pub limits_again : (limits : Limits) → IsLawful limits → limits_at (limits_text limits) ≡ Some limits
unfolding limits_at limits_in limits_text
limits_again limits h =
    let cut : slice_split (λ b. b == 32) (join_with_byte 32 (limits_words limits)) ≡ limits_words limits = cut_joined 32 (codes "limits") (decimal limits.callers ∷ decimal limits.files ∷ decimal limits.mounts ∷ decimal limits.vnodes ∷ []) (words_lack 32 limits (lit< tt) refl h) in
    let p : number_at (decimal limits.callers) ≡ Some limits.callers = number_again limits.callers (omega (arith, h.few_callers)) in
    let f : number_at (decimal limits.files) ≡ Some limits.files = number_again limits.files (omega (arith, h.few_files)) in
    let m : number_at (decimal limits.mounts) ≡ Some limits.mounts = number_again limits.mounts (omega (arith, h.few_mounts)) in
    let n : number_at (decimal limits.vnodes) ≡ Some limits.vnodes = number_again limits.vnodes (omega (arith, h.few_vnodes)) in
    let lawful : is_lawful limits ≡ true = lawful_again limits h in
    rw (cut, p, f, m, n, lawful) refl

pub limits_lack : (limits : Limits) → IsLawful limits → lacks 10 (limits_text limits) ≡ true
unfolding limits_text
limits_lack limits h = joined_lacks 10 32 (limits_words limits) refl (words_lack 10 limits (lit< tt) refl h)

-- ---- what is no limits line

no_number : (n : ℕ) → n < 2 ^ 32 → decimal n ≡ codes "limits" → ⊥
no_number n lt e =
    let digits : AllDigits 10 (codes "limits") = subst (AllDigits 10) e (decimal_is_IsNumeral n (omega arith)).0.1 in
    let range = digit_from_value 108 digits.0 in
    absurd (omega (arith, range))

number_is_other : (n : ℕ) → n < 2 ^ 32 → bytes_eq (decimal n) (codes "limits") ≡ false
number_is_other n lt =
    elim (bytes_eq (decimal n) (codes "limits")) as (λ b. bytes_eq (decimal n) (codes "limits") ≡ b → b ≡ false) [
      | true ↦ λ e. absurd (no_number n lt (bytes_are (decimal n) (codes "limits") e))
      | false ↦ λ e. refl
    ] refl

other_in : (word : List ℕ) (words : List (List ℕ)) → bytes_eq word (codes "limits") ≡ false → limits_in (word ∷ words) ≡ None
unfolding limits_in
other_in word [] other = refl
other_in word (p ∷ []) other = refl
other_in word (p ∷ f ∷ []) other = refl
other_in word (p ∷ f ∷ m ∷ []) other = refl
other_in word (p ∷ f ∷ m ∷ n ∷ []) other = rw other refl
other_in word (p ∷ f ∷ m ∷ n ∷ more ∷ words) other = refl

pub line_is_no_limits : (callers : ℕ) (line : Line) → callers ≤ 16 → FitsLine callers line → limits_at (line_text line) ≡ None
unfolding limits_at
line_is_no_limits callers line few fits =
    let cut : slice_split (λ b. b == 32) (line_text line) ≡ line_words line = line_cut callers line few fits in
    let other : limits_in (line_words line) ≡ None = other_in (decimal line.caller) (keyword_text (keyword line.call) ∷ call_words line.call) (number_is_other line.caller (caller_below callers line few fits)) in
    rw (cut, other) refl

pub end_is_no_limits : limits_at (codes "end") ≡ None
unfolding limits_at limits_in
end_is_no_limits = refl
