-- Paths under changes of links.
use Rattle.std.proofs.Common.{ℕ, zero, suc, ◌≡◌, ◌≢◌, ◌≤◌, true, false, ◌==◌, cond, refl, sym, ap, ◌∙◌, subst, inl, inr, ◌⊎◌, List, [], ◌∷◌, ◌++◌, length, arith}
use Rattle.free_list.specs.Queue.{member, without}
use Rattle.free_list.specs.Links.{chase, Path, Apart}
use Rattle.free_list.proofs.Queues.{eq_no, eq_yes, yes_eq, out_head, out_tail, in_or, apart_ne, without_none}

-- following the links finds the path
pub chase-path : (nx pv : ℕ → ℕ) (z k a : ℕ) (xs : List ℕ) → Path nx pv a xs z → member z xs ≡ false → length xs ≤ k → chase nx z k a ≡ xs
chase-path nx pv z zero a [] p out le = refl
chase-path nx pv z zero a (x ∷ xs) p out le = absurd (omega (arith, le))
chase-path nx pv z (suc k) a [] p out le = rw (eq_yes (nx a) z p.0) refl
chase-path nx pv z (suc k) a (x ∷ xs) p out le =
    let e : (nx a == z) ≡ false = eq_no (nx a) z (λ h. out_head z x xs out (sym h ∙ p.0)) in
    let rest : chase nx z k x ≡ xs = chase-path nx pv z k x xs p.2 (out_tail z x xs out) (omega (arith, le)) in
    let e' : (x == z) ≡ false = rw p.0 at e in
    rw (p.0, e') (ap (λ l. x ∷ l) rest)

-- the number before the end of a path
pub last_in : (nx pv : ℕ → ℕ) (a : ℕ) (xs : List ℕ) (z : ℕ) → Path nx pv a xs z → (pv z ≡ a) ⊎ (member (pv z) xs ≡ true)
last_in nx pv a [] z p = inl p.1
last_in nx pv a (x ∷ xs) z p = elim (last_in nx pv x xs z p.2) [ inl e ↦ inr (grind arith) | inr m ↦ inr (grind arith) ]

-- the number before one that is on a path
pub before_in : (nx pv : ℕ → ℕ) (a : ℕ) (xs : List ℕ) (z s : ℕ) → Path nx pv a xs z → member s xs ≡ true → (pv s ≡ a) ⊎ (member (pv s) xs ≡ true)
before_in nx pv a [] z s p h = grind arith
before_in nx pv a (x ∷ xs) z s p h = elim (in_or s x xs h) [
  | inl e ↦ inl (rw e p.1)
  | inr m ↦ (elim (before_in nx pv x xs z s p.2 m) [ inl e ↦ inr (grind arith) | inr k ↦ inr (grind arith) ])
]

-- the number after one that is on a path
pub after_in : (nx pv : ℕ → ℕ) (a : ℕ) (xs : List ℕ) (z s : ℕ) → Path nx pv a xs z → member s xs ≡ true → (nx s ≡ z) ⊎ (member (nx s) xs ≡ true)
after_in nx pv a [] z s p h = grind arith
after_in nx pv a (x ∷ []) z s p h = elim (in_or s x [] h) [ inl e ↦ inl (rw e p.2.0) | inr m ↦ grind arith ]
after_in nx pv a (x ∷ y ∷ ys) z s p h = elim (in_or s x (y ∷ ys) h) [
  | inl e ↦ (let k : nx s ≡ y = rw e p.2.0 in inr (grind arith))
  | inr m ↦ (elim (after_in nx pv x (y ∷ ys) z s p.2 m) [ inl e ↦ inl e | inr k ↦ inr (grind arith) ])
]

-- a path whose links stay
pub kept : (nx pv nx' pv' : ℕ → ℕ) (a : ℕ) (xs : List ℕ) (z : ℕ) → Path nx pv a xs z
    → nx' a ≡ nx a → pv' z ≡ pv z
    → ((j : ℕ) → member j xs ≡ true → nx' j ≡ nx j) → ((j : ℕ) → member j xs ≡ true → pv' j ≡ pv j) → Path nx' pv' a xs z
kept nx pv nx' pv' a [] z p ha hz hn hp = (ha ∙ p.0, hz ∙ p.1)
kept nx pv nx' pv' a (x ∷ xs) z p ha hz hn hp =
    let on : member x (x ∷ xs) ≡ true = grind arith in
    (ha ∙ p.0, hp x on ∙ p.1, kept nx pv nx' pv' x xs z p.2 (hn x on) hz (λ j m. hn j (grind arith)) (λ j m. hp j (grind arith)))

-- one number is taken out of a path
module _ (nx pv nx' pv' : ℕ → ℕ) (z s : ℕ) (link : nx' (pv s) ≡ nx s) (back : pv' (nx s) ≡ pv s)
    (keep : (j : ℕ) → j ≢ pv s → j ≢ s → nx' j ≡ nx j) (keep_back : (j : ℕ) → j ≢ nx s → j ≢ s → pv' j ≡ pv j) (far : s ≢ z) where
  pub cut : (n a : ℕ) (xs : List ℕ) → Path nx pv a xs z → member s xs ≡ true → Apart n xs → member z xs ≡ false → member a xs ≡ false → Path nx' pv' a (without s xs) z
  cut n a [] p h apart end first = grind arith
  cut n a (x ∷ xs) p h apart end first = elim (s == x) as (λ b. (s == x) ≡ b → Path nx' pv' a (cond b (without s xs) (x ∷ without s xs)) z) [
    | true ↦ λ t. (let e : s ≡ x = yes_eq s x t in let o : member s xs ≡ false = subst (λ y. member y xs ≡ false) (sym e) apart.1 in rw (without_none s xs o) (here a xs (subst (λ y. pv y ≡ a) (sym e) p.1) (subst (λ y. Path nx pv y xs z) (sym e) p.2) o n apart.2 (out_tail z x xs end) (out_tail a x xs first)))
    | false ↦ λ t. (
        let isin : member s xs ≡ true = grind arith in
        let bi = before_in nx pv x xs z s p.2 isin in
        let ai = after_in nx pv x xs z s p.2 isin in
        let a_p : a ≢ pv s = elim bi [ inl e ↦ (let k = out_head a x xs first in λ q. k (q ∙ e)) | inr m ↦ apart_ne a (pv s) xs (out_tail a x xs first) m ] in
        let a_s : a ≢ s = apart_ne a s xs (out_tail a x xs first) isin in
        let x_q : x ≢ nx s = elim ai [ inl e ↦ (let k = out_head z x xs end in λ q. k (sym (q ∙ e))) | inr m ↦ apart_ne x (nx s) xs apart.1 m ] in
        let x_s : x ≢ s = apart_ne x s xs apart.1 isin in
        (keep a a_p a_s ∙ p.0, keep_back x x_q x_s ∙ p.1, cut n x xs p.2 isin apart.2 (out_tail z x xs end) apart.1)
        )
  ] refl
    where
      here : (a : ℕ) (xs : List ℕ) → pv s ≡ a → Path nx pv s xs z → member s xs ≡ false → (n : ℕ) → Apart n xs → member z xs ≡ false → member a xs ≡ false → Path nx' pv' a xs z
      here a [] e p out n apart end first = (subst (λ y. nx' y ≡ z) e (link ∙ p.0), subst (λ y. pv' y ≡ a) p.0 (back ∙ e))
      here a (y ∷ ys) e p out n apart end first =
          let ny : nx s ≡ y = p.0 in
          let ya : y ≢ pv s = λ q. out_head a y ys first (sym (q ∙ e)) in
          let ys_ : y ≢ s = λ q. out_head s y ys out (sym q) in
          let zq : z ≢ nx s = λ q. out_head z y ys end (q ∙ ny) in (
            subst (λ w. nx' w ≡ y) e (link ∙ ny),
            subst (λ w. pv' w ≡ a) ny (back ∙ e),
            kept nx pv nx' pv' y ys z p.2 (keep y ya ys_) (keep_back z zq (λ q. far (sym q)))
                (λ j m. keep j (λ q. apart_ne a j ys (out_tail a y ys first) m (sym (q ∙ e))) (λ q. apart_ne s j ys (out_tail s y ys out) m (sym q)))
                (λ j m. keep_back j (λ q. apart_ne y j ys apart.1 m (sym (q ∙ ny))) (λ q. apart_ne s j ys (out_tail s y ys out) m (sym q))),
          )

-- one number is put at the end of a path
module _ (nx pv nx' pv' : ℕ → ℕ) (z s : ℕ) (link : nx' (pv z) ≡ s) (on : nx' s ≡ z) (back : pv' z ≡ s) (back_on : pv' s ≡ pv z)
    (keep : (j : ℕ) → j ≢ pv z → j ≢ s → nx' j ≡ nx j) (keep_back : (j : ℕ) → j ≢ z → j ≢ s → pv' j ≡ pv j) where
  pub put : (n a : ℕ) (xs : List ℕ) → Path nx pv a xs z → Apart n xs → member z xs ≡ false → member a xs ≡ false → member s xs ≡ false → s ≢ a → Path nx' pv' a (xs ++ s ∷ []) z
  put n a [] p apart end first out sa = (subst (λ w. nx' w ≡ s) p.1 link, back_on ∙ p.1, (on, back))
  put n a (x ∷ xs) p apart end first out sa =
      let li = last_in nx pv x xs z p.2 in
      let a_t : a ≢ pv z = elim li [ inl e ↦ (λ q. out_head a x xs first (q ∙ e)) | inr m ↦ apart_ne a (pv z) xs (out_tail a x xs first) m ] in (
        keep a a_t (λ q. sa (sym q)) ∙ p.0,
        keep_back x (λ q. out_head z x xs end (sym q)) (λ q. out_head s x xs out (sym q)) ∙ p.1,
        put n x xs p.2 apart.2 (out_tail z x xs end) apart.1 (out_tail s x xs out) (out_head s x xs out),
      )

-- no number on a path is linked to itself
pub before_ne : (nx pv : ℕ → ℕ) (a : ℕ) (xs : List ℕ) (z s n : ℕ) → Path nx pv a xs z → member s xs ≡ true → Apart n xs → member a xs ≡ false → pv s ≢ s
before_ne nx pv a [] z s n p h apart first = grind arith
before_ne nx pv a (x ∷ xs) z s n p h apart first = elim (in_or s x xs h) [
  | inl e ↦ λ q. out_head a x xs first (sym p.1 ∙ (subst (λ y. pv y ≡ y) e q))
  | inr m ↦ before_ne nx pv x xs z s n p.2 m apart.2 apart.1
]

pub after_ne : (nx pv : ℕ → ℕ) (a : ℕ) (xs : List ℕ) (z s n : ℕ) → Path nx pv a xs z → member s xs ≡ true → Apart n xs → member z xs ≡ false → nx s ≢ s
after_ne nx pv a [] z s n p h apart end = grind arith
after_ne nx pv a (x ∷ []) z s n p h apart end = elim (in_or s x [] h) [
  | inl e ↦ λ q. out_head z x [] end (sym p.2.0 ∙ (subst (λ y. nx y ≡ y) e q))
  | inr m ↦ grind arith
]
after_ne nx pv a (x ∷ y ∷ ys) z s n p h apart end = elim (in_or s x (y ∷ ys) h) [
  | inl e ↦ λ q. out_head x y ys apart.1 (sym (sym p.2.0 ∙ (subst (λ y. nx y ≡ y) e q)))
  | inr m ↦ after_ne nx pv x (y ∷ ys) z s n p.2 m apart.2 (out_tail z x (y ∷ ys) end)
]
