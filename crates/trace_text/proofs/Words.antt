-- Words, whose bytes are all above the space, are told from what follows them, and one spelling is that of one value.
use Rattle.std.proofs.Common.{◌≡◌, ℕ, ◌+◌, ◌/◌, ◌%◌, ◌<◌, Bool, true, false, ◌&&◌, not, nat_lt, ◌==◌, cond, List, [], ◌∷◌, ◌++◌, suc, zero, refl, sym, ap, ◌∙◌, arith, decimal, append_assoc, flat_map, lit<}
use Rattle.std.specs.List.{join_with_byte, list_all, AllByRecursion}
use Rattle.std.specs.Fmt.{digits, digits_onto, digit_glyph}
use Rattle.std.specs.Str.{bytes_eq}
use Rattle.std.proofs.lemmas.Slice.Eq.{bytes_eq-Decides}
use Rattle.std.proofs.lemmas.Bool.{and_parts, and_from, ltb-true, lt-ltb}
use Rattle.std.proofs.lemmas.List.Folds.{list_all-append}
use Rattle.script_text.specs.Word.{is_plain, hex_digit, byte_text, word_text}

-- each byte is above the space
abbrev pub is_above : List ℕ → Bool
is_above xs = list_all (λ b. nat_lt 32 b) xs

abbrev pub EachAbove : List (List ℕ) → Type 0
EachAbove words = AllByRecursion (λ w. is_above w ≡ true) words

-- ---- the words of a line

-- the first word and the byte behind it
pub first_same : (xs us ys vs : List ℕ) (c d : ℕ) → c < 33 → d < 33 → is_above xs ≡ true → is_above us ≡ true → xs ++ c ∷ ys ≡ us ++ d ∷ vs → (xs ≡ us) × (c ≡ d) × (ys ≡ vs)
first_same [] [] ys vs c d low other h k e = (refl, cc, cc)
first_same [] (u ∷ us) ys vs c d low other h k e =
    let p = and_parts (nat_lt 32 u) (is_above us) k in
    let high : 32 < u = ltb-true 32 u p.0 in
    let same : c ≡ u = cc in
    absurd (omega arith)
first_same (x ∷ xs) [] ys vs c d low other h k e =
    let p = and_parts (nat_lt 32 x) (is_above xs) h in
    let high : 32 < x = ltb-true 32 x p.0 in
    let same : x ≡ d = cc in
    absurd (omega arith)
first_same (x ∷ xs) (u ∷ us) ys vs c d low other h k e =
    let p = and_parts (nat_lt 32 x) (is_above xs) h in
    let q = and_parts (nat_lt 32 u) (is_above us) k in
    let head : x ≡ u = cc in
    let rest : xs ++ c ∷ ys ≡ us ++ d ∷ vs = cc in
    let more = first_same xs us ys vs c d low other p.1 q.1 rest in
    let front : xs ≡ us = more.0 in
    (cc, more.1, more.2)

-- all words of a line that a line end ends, and what follows it
pub line_same : (p : List ℕ) (ps : List (List ℕ)) (q : List ℕ) (qs : List (List ℕ)) (r s : List ℕ) → EachAbove (p ∷ ps) → EachAbove (q ∷ qs) → join_with_byte 32 (p ∷ ps) ++ 10 ∷ r ≡ join_with_byte 32 (q ∷ qs) ++ 10 ∷ s → (p ∷ ps ≡ q ∷ qs) × (r ≡ s)
line_same p [] q [] r s h k e =
    let f = first_same p q r s 10 10 (lit< tt) (lit< tt) h.0 k.0 e in
    (ap (λ (w : List ℕ). w ∷ []) f.0, f.2)
line_same p [] q (y ∷ qs) r s h k e =
    let f = first_same p q r (join_with_byte 32 (y ∷ qs) ++ 10 ∷ s) 10 32 (lit< tt) (lit< tt) h.0 k.0 (e ∙ append_assoc q (32 ∷ join_with_byte 32 (y ∷ qs)) (10 ∷ s)) in
    let same : ◌≡◌ {A = ℕ} 10 32 = f.1 in
    absurd (omega arith)
line_same p (x ∷ ps) q [] r s h k e =
    let f = first_same p q (join_with_byte 32 (x ∷ ps) ++ 10 ∷ r) s 32 10 (lit< tt) (lit< tt) h.0 k.0 (sym (append_assoc p (32 ∷ join_with_byte 32 (x ∷ ps)) (10 ∷ r)) ∙ e) in
    let same : ◌≡◌ {A = ℕ} 32 10 = f.1 in
    absurd (omega arith)
line_same p (x ∷ ps) q (y ∷ qs) r s h k e =
    let f = first_same p q (join_with_byte 32 (x ∷ ps) ++ 10 ∷ r) (join_with_byte 32 (y ∷ qs) ++ 10 ∷ s) 32 32 (lit< tt) (lit< tt) h.0 k.0 (sym (append_assoc p (32 ∷ join_with_byte 32 (x ∷ ps)) (10 ∷ r)) ∙ e ∙ append_assoc q (32 ∷ join_with_byte 32 (y ∷ qs)) (10 ∷ s)) in
    let more = line_same x ps y qs r s h.1 k.1 f.2 in
    let front : p ≡ q = f.0 in
    let behind : x ∷ ps ≡ y ∷ qs = more.0 in
    (cc, more.1)

-- ---- numbers

glyph_above : (d : ℕ) → nat_lt 32 (digit_glyph false d) ≡ true
glyph_above d = elim (nat_lt d 10) as (λ b. nat_lt 32 (cond b (48 + d) (cond false (55 + d) (87 + d))) ≡ true) [
  | true ↦ lt-ltb 32 (48 + d) (omega arith)
  | false ↦ lt-ltb 32 (87 + d) (omega arith)
]

onto_above : (k n : ℕ) (acc : List ℕ) → is_above acc ≡ true → is_above (digits_onto k 10 false n acc) ≡ true
onto_above zero n acc h = h
onto_above (suc k) n acc h =
    let glyph = digit_glyph false (n % 10) in
    let more : is_above (glyph ∷ acc) ≡ true = and_from (nat_lt 32 glyph) (is_above acc) (glyph_above (n % 10)) h in
    elim (n / 10 == 0) as (λ b. is_above (cond b (glyph ∷ acc) (digits_onto k 10 false (n / 10) (glyph ∷ acc))) ≡ true) [
      | true ↦ more
      | false ↦ onto_above k (n / 10) (glyph ∷ acc) more
    ]

pub decimal_above : (n : ℕ) → is_above (decimal n) ≡ true
unfolding digits
decimal_above n = onto_above 64 n [] refl

-- ---- byte words

hex_above : (v : ℕ) → nat_lt 32 (hex_digit v) ≡ true
hex_above v = elim (nat_lt v 10) as (λ b. nat_lt 32 (cond b (48 + v) (87 + v)) ≡ true) [
  | true ↦ lt-ltb 32 (48 + v) (omega arith)
  | false ↦ lt-ltb 32 (87 + v) (omega arith)
]

byte_above : (b : ℕ) → is_above (byte_text b) ≡ true
byte_above b = elim (is_plain b) as (λ t. is_plain b ≡ t → is_above (cond t (b ∷ []) (37 ∷ hex_digit (b / 16) ∷ hex_digit (b % 16) ∷ [])) ≡ true) [
  | true ↦ λ plain. and_from (nat_lt 32 b) true (and_parts (nat_lt 32 b) (nat_lt b 127 && not (b == 37)) plain).0 refl
  | false ↦ λ escaped. and_from (nat_lt 32 (hex_digit (b / 16))) (nat_lt 32 (hex_digit (b % 16)) && true) (hex_above (b / 16)) (and_from (nat_lt 32 (hex_digit (b % 16))) true (hex_above (b % 16)) refl)
] refl

bytes_above : (bytes : List ℕ) → is_above (flat_map byte_text bytes) ≡ true
bytes_above [] = refl
bytes_above (b ∷ bs) = list_all-append (λ b. nat_lt 32 b) (byte_text b) (flat_map byte_text bs) ∙ and_from (is_above (byte_text b)) (is_above (flat_map byte_text bs)) (byte_above b) (bytes_above bs)

pub word_above : (bytes : List ℕ) → is_above (word_text bytes) ≡ true
unfolding word_text
word_above [] = refl
word_above (b ∷ bs) = bytes_above (b ∷ bs)

hex_same : (v w : ℕ) → hex_digit v ≡ hex_digit w → v ≡ w
hex_same v w e = elim (nat_lt v 10) as (λ a. nat_lt v 10 ≡ a → cond a (48 + v) (87 + v) ≡ hex_digit w → v ≡ w) [
  | true ↦ λ p. elim (nat_lt w 10) as (λ a. nat_lt w 10 ≡ a → 48 + v ≡ cond a (48 + w) (87 + w) → v ≡ w) [
    | true ↦ λ q e. omega arith
    | false ↦ λ q e. let low : v < 10 = ltb-true v 10 p in omega arith
  ] refl
  | false ↦ λ p. elim (nat_lt w 10) as (λ a. nat_lt w 10 ≡ a → 87 + v ≡ cond a (48 + w) (87 + w) → v ≡ w) [
    | true ↦ λ q e. let low : w < 10 = ltb-true w 10 q in omega arith
    | false ↦ λ q e. omega arith
  ] refl
] refl e

-- a byte that stands for itself is no `%`
plain_other : (b : ℕ) → is_plain b ≡ true → b ≡ 37 → ⊥
plain_other b plain e =
    let p = and_parts (nat_lt 32 b) (nat_lt b 127 && not (b == 37)) plain in
    let other : not (b == 37) ≡ true = (and_parts (nat_lt b 127) (not (b == 37)) p.1).1 in
    let is : (b == 37) ≡ true = ap (λ (x : ℕ). x == 37) e in
    absurd cc

abbrev split_text : Bool → ℕ → List ℕ
split_text t b = cond t (b ∷ []) (37 ∷ hex_digit (b / 16) ∷ hex_digit (b % 16) ∷ [])

byte_same : (b c : ℕ) (r s : List ℕ) → byte_text b ++ r ≡ byte_text c ++ s → (b ≡ c) × (r ≡ s)
byte_same b c r s e =
    elim (is_plain b) as (λ t. is_plain b ≡ t → split_text t b ++ r ≡ byte_text c ++ s → (b ≡ c) × (r ≡ s)) [
      | true ↦ λ p. elim (is_plain c) as (λ u. is_plain c ≡ u → b ∷ r ≡ split_text u c ++ s → (b ≡ c) × (r ≡ s)) [
        | true ↦ λ q e. (cc, cc)
        | false ↦ λ q e. let is : b ≡ 37 = cc in absurd (plain_other b p is)
      ] refl
      | false ↦ λ p. elim (is_plain c) as (λ u. is_plain c ≡ u → 37 ∷ hex_digit (b / 16) ∷ hex_digit (b % 16) ∷ r ≡ split_text u c ++ s → (b ≡ c) × (r ≡ s)) [
        | true ↦ λ q e. let is : c ≡ 37 = cc in absurd (plain_other c q is)
        | false ↦ λ q e.
            let high : b / 16 ≡ c / 16 = hex_same (b / 16) (c / 16) cc in
            let low : b % 16 ≡ c % 16 = hex_same (b % 16) (c % 16) cc in
            (omega arith, cc)
      ] refl
    ] refl e

byte_is_some : (b : ℕ) (r : List ℕ) → [] ≡ byte_text b ++ r → ⊥
byte_is_some b r e = elim (is_plain b) as (λ t. [] ≡ split_text t b ++ r → ⊥) [
  | true ↦ λ e. absurd cc
  | false ↦ λ e. absurd cc
] e

bytes_same : (xs ys : List ℕ) → flat_map byte_text xs ≡ flat_map byte_text ys → xs ≡ ys
bytes_same [] [] e = refl
bytes_same [] (y ∷ ys) e = absurd (byte_is_some y (flat_map byte_text ys) e)
bytes_same (x ∷ xs) [] e = absurd (byte_is_some x (flat_map byte_text xs) (sym e))
bytes_same (x ∷ xs) (y ∷ ys) e =
    let f = byte_same x y (flat_map byte_text xs) (flat_map byte_text ys) e in
    let head : x ≡ y = f.0 in
    let rest : xs ≡ ys = bytes_same xs ys f.1 in
    cc

-- the word `%` is that of no byte
no_sign_alone : (b : ℕ) (r : List ℕ) → 37 ∷ [] ≡ byte_text b ++ r → ⊥
no_sign_alone b r e = elim (is_plain b) as (λ t. is_plain b ≡ t → 37 ∷ [] ≡ split_text t b ++ r → ⊥) [
  | true ↦ λ p e. let is : b ≡ 37 = cc in plain_other b p is
  | false ↦ λ p e. absurd cc
] refl e

pub word_same : (xs ys : List ℕ) → word_text xs ≡ word_text ys → xs ≡ ys
unfolding word_text
word_same [] [] e = refl
word_same [] (y ∷ ys) e = absurd (no_sign_alone y (flat_map byte_text ys) e)
word_same (x ∷ xs) [] e = absurd (no_sign_alone x (flat_map byte_text xs) (sym e))
word_same (x ∷ xs) (y ∷ ys) e = bytes_same (x ∷ xs) (y ∷ ys) e

-- ---- words that are known

-- texts at which a comparison computes to false
pub differ : (xs ys : List ℕ) → bytes_eq xs ys ≡ false → xs ≡ ys → ⊥
differ xs ys other e =
    let same : bytes_eq xs ys ≡ true = (bytes_eq-Decides xs ys).1 e in
    absurd cc

pub first_is : {A : Type 0} (x y : A) (xs ys : List A) → x ∷ xs ≡ y ∷ ys → x ≡ y
first_is x y xs ys e = cc

pub rest_is : {A : Type 0} (x y : A) (xs ys : List A) → x ∷ xs ≡ y ∷ ys → xs ≡ ys
rest_is x y xs ys e = cc
