-- Facts on a queue of slots: what is in it, what is apart, and what taking out and putting in do.
use Rattle.std.proofs.Common.{ℕ, ◌≡◌, ◌≢◌, ◌<◌, ◌≤◌, true, false, ◌==◌, ◌||◌, cond, refl, sym, ap, ◌∙◌, inl, inr, ◌⊎◌, List, [], ◌∷◌, ◌++◌, length, arith}
use Rattle.std.specs.List.{All, IsDistinct, AllByRecursion, list_any}
use Rattle.std.proofs.lemmas.List.Elements.{All-nil, All-cons}
use Rattle.std.proofs.Math.Dec.{eqb}
use Rattle.std.proofs.lemmas.Map.Steps.{length-le_from_distinct_below}
use Rattle.free_list.specs.Queue.{member, without}
use Rattle.free_list.specs.Links.{Apart}

-- numbers and their test
pub eq_no : (x y : ℕ) → x ≢ y → (x == y) ≡ false
eq_no x y h = grind arith

pub eq_yes : (x y : ℕ) → x ≡ y → (x == y) ≡ true
eq_yes x y h = grind arith

pub no_eq : (x y : ℕ) → (x == y) ≡ false → x ≢ y
no_eq x y h = grind arith

pub yes_eq : (x y : ℕ) → (x == y) ≡ true → x ≡ y
yes_eq x y h = grind arith

-- a number that isn't among more isn't the first, nor among the rest
pub out_head : (x y : ℕ) (ys : List ℕ) → member x (y ∷ ys) ≡ false → x ≢ y
out_head x y ys h = grind arith

pub out_tail : (x y : ℕ) (ys : List ℕ) → member x (y ∷ ys) ≡ false → member x ys ≡ false
out_tail x y ys h = grind arith

pub in_or : (x y : ℕ) (ys : List ℕ) → member x (y ∷ ys) ≡ true → (x ≡ y) ⊎ (member x ys ≡ true)
in_or x y ys h = grind arith

pub apart_ne : (x y : ℕ) (ys : List ℕ) → member x ys ≡ false → member y ys ≡ true → x ≢ y
apart_ne x y ys out isin = grind arith

pub below : (n : ℕ) (x : ℕ) (xs : List ℕ) → Apart n xs → member x xs ≡ true → x < n
below n x [] a h = grind arith
below n x (y ∷ ys) a h = elim (in_or x y ys h) [ inl e ↦ (let k = a.0 in omega arith) | inr k ↦ below n x ys a.2 k ]

-- a list without a number that it does not have
pub without_none : (s : ℕ) (xs : List ℕ) → member s xs ≡ false → without s xs ≡ xs
without_none s [] h = refl
without_none s (x ∷ xs) h = rw (eq_no s x (out_head s x xs h), without_none s xs (out_tail s x xs h)) refl

-- a number that is not there is not there after another is taken out, and the other way round
pub out_without : (j s : ℕ) (xs : List ℕ) → member j xs ≡ false → member j (without s xs) ≡ false
out_without j s [] h = refl
out_without j s (x ∷ xs) h = elim (s == x) as (λ b. member j (cond b (without s xs) (x ∷ without s xs)) ≡ false) [
  | true ↦ out_without j s xs (out_tail j x xs h)
  | false ↦ rw (eq_no j x (out_head j x xs h), out_without j s xs (out_tail j x xs h)) refl
]

pub out_before : (j s : ℕ) (xs : List ℕ) → j ≢ s → member j (without s xs) ≡ false → member j xs ≡ false
out_before j s [] n h = refl
out_before j s (x ∷ xs) n h = (elim (s == x) as (λ b. (s == x) ≡ b → member j (cond b (without s xs) (x ∷ without s xs)) ≡ false → member j (x ∷ xs) ≡ false) [
  | true ↦ λ t m. rw (eq_no j x (λ q. n (q ∙ sym (yes_eq s x t))), out_before j s xs n m) refl
  | false ↦ λ t m. rw (eq_no j x (out_head j x (without s xs) m), out_before j s xs n (out_tail j x (without s xs) m)) refl
]) refl h

-- the number that is taken out is gone, and the others stay
pub gone : (s : ℕ) (xs : List ℕ) → member s (without s xs) ≡ false
gone s [] = refl
gone s (x ∷ xs) = (elim (s == x) as (λ b. (s == x) ≡ b → member s (cond b (without s xs) (x ∷ without s xs)) ≡ false) [
  | true ↦ λ t. gone s xs
  | false ↦ λ t. rw (t, gone s xs) refl
]) refl

pub others : (j s : ℕ) (xs : List ℕ) → j ≢ s → member j (without s xs) ≡ member j xs
others j s [] n = refl
others j s (x ∷ xs) n = (elim (s == x) as (λ b. (s == x) ≡ b → member j (cond b (without s xs) (x ∷ without s xs)) ≡ member j (x ∷ xs)) [
  | true ↦ λ t. rw (eq_no j x (λ q. n (q ∙ sym (yes_eq s x t))), others j s xs n) refl
  | false ↦ λ t. ap (λ b. (j == x) || b) (others j s xs n)
]) refl

-- the members after one was put at the back
pub pushed : (j s : ℕ) (xs : List ℕ) → member j (xs ++ s ∷ []) ≡ (member j xs || (j == s))
pushed j s [] = elim (j == s) as (λ b. (b || false) ≡ b) [ true ↦ refl | false ↦ refl ]
pushed j s (x ∷ xs) = rw (pushed j s xs) (elim (j == x) as (λ b. (b || (member j xs || (j == s))) ≡ ((b || member j xs) || (j == s))) [ true ↦ refl | false ↦ refl ])

out_push : (j s : ℕ) (xs : List ℕ) → member j xs ≡ false → j ≢ s → member j (xs ++ s ∷ []) ≡ false
out_push j s [] h n = rw (eq_no j s n) refl
out_push j s (x ∷ xs) h n = rw (eq_no j x (out_head j x xs h), out_push j s xs (out_tail j x xs h) n) refl

pub out_pushed : (j s : ℕ) (xs : List ℕ) → member j (xs ++ s ∷ []) ≡ false → (member j xs ≡ false) × (j ≢ s)
out_pushed j s [] h = (refl, out_head j s [] h)
out_pushed j s (x ∷ xs) h = let k = out_pushed j s xs (out_tail j x (xs ++ s ∷ []) h) in (rw (eq_no j x (out_head j x (xs ++ s ∷ []) h), k.0) refl, k.1)

-- taking out and putting in keep the numbers apart
pub apart_without : (n s : ℕ) (xs : List ℕ) → Apart n xs → Apart n (without s xs)
apart_without n s [] a = tt
apart_without n s (x ∷ xs) a = elim (s == x) as (λ b. Apart n (cond b (without s xs) (x ∷ without s xs))) [
  | true ↦ apart_without n s xs a.2
  | false ↦ (a.0, out_without x s xs a.1, apart_without n s xs a.2)
]

pub apart_push : (n s : ℕ) (xs : List ℕ) → Apart n xs → s < n → member s xs ≡ false → Apart n (xs ++ s ∷ [])
apart_push n s [] a b h = (b, refl, tt)
apart_push n s (x ∷ xs) a b h = (a.0, out_push x s xs a.1 (λ q. out_head s x xs h (sym q)), apart_push n s xs a.2 b (out_tail s x xs h))

-- the end is not in the list
pub end_out : (z : ℕ) (xs : List ℕ) → Apart z xs → member z xs ≡ false
end_out z [] a = refl
end_out z (x ∷ xs) a = rw (eq_no z x (let k = a.0 in omega arith), end_out z xs a.2) refl

-- numbers that are apart are distinct in std's words
pub distinct : (n : ℕ) (xs : List ℕ) → Apart n xs → IsDistinct eqb xs
unfolding IsDistinct
distinct n [] a = tt
distinct n (x ∷ xs) a = (outs x xs a.1, distinct n xs a.2)
  where
    outs : (x : ℕ) (ys : List ℕ) → member x ys ≡ false → AllByRecursion (λ y. eqb x y ≡ false) ys
    outs x [] h = tt
    outs x (y ∷ ys) h = (eq_no x y (out_head x y ys h), outs x ys (out_tail x y ys h))

same_member : (q : ℕ) (xs : List ℕ) → list_any (eqb q) xs ≡ member q xs
same_member q [] = refl
same_member q (x ∷ xs) = ap (λ b. (q == x) || b) (same_member q xs)

-- numbers that are apart and below n are at most n
pub few : (n : ℕ) (xs : List ℕ) → Apart n xs → length xs ≤ n
few n xs a = length-le_from_distinct_below xs n (distinct n xs a) (λ q h. below n q xs a (sym (same_member q xs) ∙ h))

-- numbers that are apart and below n are each below n
pub all_below : (n : ℕ) (xs : List ℕ) → Apart n xs → All (λ x. x < n) xs
all_below n [] a = All-nil (λ x. x < n)
all_below n (x ∷ xs) a = All-cons (λ x. x < n) x xs a.0 (all_below n xs a.2)
