-- The word of some bytes is read as these bytes, and it has no space and no line end.
use Rattle.std.proofs.Common.{◌≡◌, ℕ, ◌+◌, ◌-◌, ◌*◌, ◌/◌, ◌%◌, ◌<◌, true, false, ◌&&◌, not, nat_lt, ◌==◌, cond, List, [], ◌∷◌, ◌++◌, Some, refl, ap, subst, ◌∙◌, arith, flat_map}
use Rattle.std.proofs.lemmas.Bool.{and_parts, and_from, not-true, eqb-true, agree_below_at}
use Rattle.std.proofs.lemmas.Option.{same_Some}
use Rattle.std.proofs.lemmas.List.Folds.{list_all-append}
use Rattle.script_text.specs.declared.word.Escape.TheVariants.{Outside, Sign, Digit}
use Rattle.script_text.specs.Word.{IsBytes, is_plain, hex_digit, byte_text, word_text}
use Rattle.script_text.specs.declared.word.Escape.{Escape}
use Rattle.script_text.specs.ReadWord.{digit_value, bytes_from, bytes_at}
use Rattle.script_text.proofs.Joined.{is_above}

digit_below : (c : ℕ) → digit_value c < 16
digit_below c = let d : ℕ = cond (nat_lt c 58) (c - 48) (c - 87) in let below : d % 16 < 16 = omega arith in below

digit_again : (d : ℕ) → d < 16 → digit_value (hex_digit d) ≡ d
digit_again d lt = eqb-true (digit_value (hex_digit d)) d (agree_below_at (λ d. digit_value (hex_digit d) == d) (λ _. true) 16 d refl lt)

byte_again : (b : ℕ) (rest : List ℕ) → b < 256 → bytes_from Outside (byte_text b ++ rest) ≡ b ∷ bytes_from Outside rest
byte_again b rest lt =
    elim (is_plain b) as (λ t. is_plain b ≡ t → bytes_from Outside (cond t (b ∷ []) (37 ∷ hex_digit (b / 16) ∷ hex_digit (b % 16) ∷ []) ++ rest) ≡ b ∷ bytes_from Outside rest) [
      | true ↦ λ plain.
          let p = and_parts (nat_lt 32 b) (nat_lt b 127 && not (b == 37)) plain in
          let low = and_parts (nat_lt b 127) (not (b == 37)) p.1 in
          let other : (b == 37) ≡ false = not-true (b == 37) low.1 in
          let below : b % 256 ≡ b = omega arith in
          rw (other, below) refl
      | false ↦ λ escaped.
          let high : digit_value (hex_digit (b / 16)) ≡ b / 16 = digit_again (b / 16) (omega arith) in
          let low : digit_value (hex_digit (b % 16)) ≡ b % 16 = digit_again (b % 16) (omega arith) in
          let whole : 16 * (b / 16) + b % 16 ≡ b = omega arith in
          let value : 16 * digit_value (hex_digit (b / 16)) + digit_value (hex_digit (b % 16)) ≡ b = rw (high, low) whole in
          ap (λ (x : ℕ). x ∷ bytes_from Outside rest) value
    ] refl

bytes_again : (bytes : List ℕ) → IsBytes bytes → bytes_from Outside (flat_map byte_text bytes) ≡ bytes
bytes_again [] h = refl
bytes_again (b ∷ bs) h = byte_again b (flat_map byte_text bs) h.0 ∙ ap (λ (t : List ℕ). b ∷ t) (bytes_again bs h.1)

pub word_again : (bytes : List ℕ) → IsBytes bytes → bytes_at (word_text bytes) ≡ Some bytes
unfolding bytes_at word_text
word_again [] h = refl
word_again (b ∷ bs) h = ap (λ (t : List ℕ). Some t) (bytes_again (b ∷ bs) h)

bytes_above : (bytes : List ℕ) → IsBytes bytes → is_above (flat_map byte_text bytes) ≡ true
bytes_above [] h = refl
bytes_above (b ∷ bs) h =
    let one : is_above (byte_text b) ≡ true = agree_below_at (λ b. is_above (byte_text b)) (λ _. true) 256 b refl h.0 in
    list_all-append (λ b. nat_lt 32 b) (byte_text b) (flat_map byte_text bs) ∙ and_from (is_above (byte_text b)) (is_above (flat_map byte_text bs)) one (bytes_above bs h.1)

pub word_above : (bytes : List ℕ) → IsBytes bytes → is_above (word_text bytes) ≡ true
unfolding word_text
word_above [] h = refl
word_above (b ∷ bs) h = bytes_above (b ∷ bs) h

-- what is read is bytes
bytes_from_IsBytes : (e : Escape) (word : List ℕ) → IsBytes (bytes_from e word)
bytes_from_IsBytes e [] = tt
bytes_from_IsBytes Outside (c ∷ cs) =
    elim (c == 37) as (λ t. IsBytes (cond t (bytes_from Sign cs) (c % 256 ∷ bytes_from Outside cs))) [
      | true ↦ bytes_from_IsBytes Sign cs
      | false ↦ (omega arith, bytes_from_IsBytes Outside cs)
    ]
bytes_from_IsBytes Sign (c ∷ cs) = bytes_from_IsBytes (Digit c) cs
bytes_from_IsBytes (Digit high) (c ∷ cs) =
    let first : digit_value high < 16 = digit_below high in
    let second : digit_value c < 16 = digit_below c in
    let below : 16 * digit_value high + digit_value c < 256 = omega arith in
    (below, bytes_from_IsBytes Outside cs)

pub bytes_found : (word bytes : List ℕ) → bytes_at word ≡ Some bytes → IsBytes bytes
unfolding bytes_at
bytes_found word bytes e = subst IsBytes (same_Some (bytes_from Outside word) bytes e) (bytes_from_IsBytes Outside word)
