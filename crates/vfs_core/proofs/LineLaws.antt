-- Lines, and the callers of those that are left.
use Rattle.std.proofs.Common.{◌≡◌, ℕ, suc, ◌+◌, ◌<◌, ◌≤◌, arith, length, eq-eqb, Bool, true, false, ◌==◌, ◌++◌, List, [], ◌∷◌, refl, ap, sym, ◌∙◌, subst, cond, inl, inr, map, drop, get_or, reverse}
use Rattle.std.specs.Prelude.{nat_lt, unwrap_or}
use Rattle.std.specs.List.{AllByRecursion}
use Rattle.std.proofs.lemmas.Bool.{lt-ltb, le-ltb, ltb-true, ltb-false}
use Rattle.std.proofs.lemmas.Bool.Decides.{eqb_tells}
use Rattle.call_model.specs.Legal.{calls_in}
use Rattle.call_model.specs.declared.call.Call.{Call}
use Rattle.call_model.specs.declared.call.Line.{Line}
use Rattle.vfs_core.specs.Turning.{times, callers_left, without_first}

pub apart : (c d : ℕ) → (c == d) ≡ false → (d == c) ≡ false
apart c d other = elim (eqb_tells d c) [
  | inl e ↦ absurd (let clash : false ≡ true = sym other ∙ ap (λ x. x == d) (sym e.1) ∙ eq-eqb d d refl in cc)
  | inr e ↦ e.0
]

-- ---- how many lines a caller has

pub times_calls : (c : ℕ) (lines : List Line) → length (calls_in c lines) ≡ times c (map (λ (l : Line). l.caller) lines)
times_calls c [] = refl
times_calls c (l ∷ ls) =
    let t : ℕ = times c (map (λ (l : Line). l.caller) ls) in
    elim (c == l.caller) as (λ b. length (cond b (l.call ∷ calls_in c ls) (calls_in c ls)) ≡ cond b (suc t) t) [
      | true ↦ ap suc (times_calls c ls)
      | false ↦ times_calls c ls
    ]

times_here : (c : ℕ) (cs : List ℕ) → times c (c ∷ cs) ≡ suc (times c cs)
times_here c cs = ap (λ b. cond b (suc (times c cs)) (times c cs)) (eq-eqb c c refl)

times_there : (c d : ℕ) (cs : List ℕ) → (c == d) ≡ false → times c (d ∷ cs) ≡ times c cs
times_there c d cs other = ap (λ b. cond b (suc (times c cs)) (times c cs)) other

times_more : (c d : ℕ) (cs : List ℕ) → times c cs ≤ times c (d ∷ cs)
times_more c d cs = elim (c == d) as (λ b. times c cs ≤ cond b (suc (times c cs)) (times c cs)) [ true ↦ omega arith | false ↦ omega arith ]

pub times_low : (c : ℕ) (cs : List ℕ) → times c cs ≤ length cs
times_low c [] = omega arith
times_low c (d ∷ cs) =
    let low : times c cs ≤ length cs = times_low c cs in
    elim (c == d) as (λ b. cond b (suc (times c cs)) (times c cs) ≤ suc (length cs)) [ true ↦ omega arith | false ↦ omega arith ]

-- at most as many are left as there are
pub times_left : (owed : ℕ → ℕ) (c : ℕ) (cs : List ℕ) → times c (callers_left owed cs) ≤ times c cs
times_left owed c [] = omega arith
times_left owed c (d ∷ cs) =
    let l : ℕ = times c (callers_left owed cs) in
    let rest : l ≤ times c cs = times_left owed c cs in
    elim (nat_lt (times d cs) (owed d)) as (λ b. times c (cond b (d ∷ callers_left owed cs) (callers_left owed cs)) ≤ times c (d ∷ cs)) [
      | true ↦ elim (c == d) as (λ b. cond b (suc l) l ≤ cond b (suc (times c cs)) (times c cs)) [ true ↦ omega arith | false ↦ rest ]
      | false ↦ below l (times c cs) (times c (d ∷ cs)) rest (times_more c d cs)
    ]
  where
    below : (a b c : ℕ) → a ≤ b → b ≤ c → a ≤ c
    below a b c e f = omega arith

-- all are left where each caller is owed all
pub all_left : (owed : ℕ → ℕ) (cs : List ℕ) → ((c : ℕ) → times c cs ≤ owed c) → callers_left owed cs ≡ cs
all_left owed [] enough = refl
all_left owed (c ∷ cs) enough =
    let rest : callers_left owed cs ≡ cs = all_left owed cs (λ d. below _ _ _ (times_more d c cs) (enough d)) in
    let here : times c cs < owed c = low _ _ _ (times_here c cs) (enough c) in
    ap (λ b. cond b (c ∷ callers_left owed cs) (callers_left owed cs)) (lt-ltb (times c cs) (owed c) here) ∙ ap (λ (t : List ℕ). c ∷ t) rest
  where
    below : (a b c : ℕ) → a ≤ b → b ≤ c → a ≤ c
    below a b c e f = omega arith

    low : (a b c : ℕ) → b ≡ suc a → b ≤ c → a < c
    low a b c e f = omega arith

-- what holds of all callers holds of those of lines that are left
pub each_left : (P : ℕ → Type 0) (owed : ℕ → ℕ) (cs : List ℕ) → AllByRecursion P cs → AllByRecursion P (callers_left owed cs)
each_left P owed [] all = tt
each_left P owed (c ∷ cs) all = elim (nat_lt (times c cs) (owed c)) as (λ b. AllByRecursion P (cond b (c ∷ callers_left owed cs) (callers_left owed cs))) [
  | true ↦ (all.0, each_left P owed cs all.1)
  | false ↦ each_left P owed cs all.1
]

-- ---- the first line of a caller goes

-- callers without the first one of these
abbrev pub without : ℕ → List ℕ → List ℕ
without c [] = []
without c (d ∷ ds) = cond (c == d) ds (d ∷ without c ds)

pub callers_without : (c : ℕ) (lines : List Line) → map (λ (l : Line). l.caller) (without_first c lines) ≡ without c (map (λ (l : Line). l.caller) lines)
callers_without c [] = refl
callers_without c (l ∷ ls) =
    let cs : List ℕ = map (λ (l : Line). l.caller) ls in
    elim (c == l.caller) as (λ b. map (λ (l : Line). l.caller) (cond b ls (l ∷ without_first c ls)) ≡ cond b cs (l.caller ∷ without c cs)) [
      | true ↦ refl
      | false ↦ ap (λ (t : List ℕ). l.caller ∷ t) (callers_without c ls)
    ]

-- its calls
pub calls_without : (c : ℕ) (lines : List Line) → calls_in c (without_first c lines) ≡ drop 1 (calls_in c lines)
calls_without c [] = refl
calls_without c (l ∷ ls) =
    elim (c == l.caller) as (λ b. (c == l.caller) ≡ b → calls_in c (cond b ls (l ∷ without_first c ls)) ≡ drop 1 (cond b (l.call ∷ calls_in c ls) (calls_in c ls))) [
      | true ↦ λ e. refl
      | false ↦ λ e. ap (λ b. cond b (l.call ∷ calls_in c (without_first c ls)) (calls_in c (without_first c ls))) e ∙ calls_without c ls
    ] refl

-- and those of the others
pub others_without : (c d : ℕ) (lines : List Line) → (c == d) ≡ false → calls_in d (without_first c lines) ≡ calls_in d lines
others_without c d [] other = refl
others_without c d (l ∷ ls) other = elim (eqb_tells c l.caller) [
  | inl e ↦
      let mine : (d == l.caller) ≡ false = ap (λ x. d == x) (sym e.1) ∙ apart c d other in
      ap (λ b. calls_in d (cond b ls (l ∷ without_first c ls))) e.0 ∙ sym (ap (λ b. cond b (l.call ∷ calls_in d ls) (calls_in d ls)) mine)
  | inr e ↦
      ap (λ b. calls_in d (cond b ls (l ∷ without_first c ls))) e.0
      ∙ ap (λ (t : List Call). cond (d == l.caller) (l.call ∷ t) t) (others_without c d ls other)
]

module _ (n m : ℕ → ℕ) (c k : ℕ) (was : n c ≡ suc k) (is : m c ≡ k) (others : (d : ℕ) → (c == d) ≡ false → m d ≡ n d) where
  -- where a caller is owed one less, and all its lines are left still, so are the same
  still_left : (cs : List ℕ) → times c cs ≤ k → callers_left m cs ≡ callers_left n cs
  still_left [] few = refl
  still_left (d ∷ cs) few = elim (eqb_tells c d) [
    | inl e ↦
        let low : times d cs < k = subst (λ x. times x cs < k) e.1 (less _ _ _ (times_here c cs) (subst (λ x. times c (x ∷ cs) ≤ k) (sym e.1) few)) in
        let rest : callers_left m cs ≡ callers_left n cs = still_left cs (below _ _ _ (times_more c d cs) few) in
        ap (λ b. cond b (d ∷ callers_left m cs) (callers_left m cs)) (lt-ltb (times d cs) (m d) (subst (λ x. times d cs < x) (sym is ∙ ap m e.1) low))
        ∙ ap (λ (t : List ℕ). d ∷ t) rest
        ∙ sym (ap (λ b. cond b (d ∷ callers_left n cs) (callers_left n cs)) (lt-ltb (times d cs) (n d) (subst (λ x. times d cs < x) (sym was ∙ ap n e.1) (more _ _ low))))
    | inr e ↦
        let rest : callers_left m cs ≡ callers_left n cs = still_left cs (below _ _ _ (times_more c d cs) few) in
        ap (λ x. cond (nat_lt (times d cs) x) (d ∷ callers_left m cs) (callers_left m cs)) (others d e.0)
        ∙ ap (λ (t : List ℕ). cond (nat_lt (times d cs) (n d)) (d ∷ t) t) rest
  ]
    where
      below : (a b c : ℕ) → a ≤ b → b ≤ c → a ≤ c
      below a b c e f = omega arith

      less : (a b c : ℕ) → b ≡ suc a → b ≤ c → a < c
      less a b c e f = omega arith

      more : (a b : ℕ) → a < b → a < suc b
      more a b e = omega arith

  -- where a caller is owed one less, its first line of those that were left is left no more
  pub first_gone : (cs : List ℕ) → suc k ≤ times c cs → callers_left m cs ≡ without c (callers_left n cs)
  first_gone [] some = absurd (omega arith)
  first_gone (d ∷ cs) some = elim (eqb_tells c d) [
    | inl e ↦ subst (λ x. callers_left m (x ∷ cs) ≡ without c (callers_left n (x ∷ cs))) e.1 (here (λ low. first_gone cs low) (ends (subst (λ x. suc k ≤ times c (x ∷ cs)) (sym e.1) some)))
    | inr e ↦
        let rest : callers_left m cs ≡ without c (callers_left n cs) = first_gone cs (subst (λ x. suc k ≤ x) (times_there c d cs e.0) some) in
        ap (λ x. cond (nat_lt (times d cs) x) (d ∷ callers_left m cs) (callers_left m cs)) (others d e.0)
        ∙ elim (nat_lt (times d cs) (n d)) as (λ b. cond b (d ∷ callers_left m cs) (callers_left m cs) ≡ without c (cond b (d ∷ callers_left n cs) (callers_left n cs))) [
          | true ↦ ap (λ (t : List ℕ). d ∷ t) rest ∙ sym (ap (λ b. cond b (callers_left n cs) (d ∷ without c (callers_left n cs))) e.0)
          | false ↦ rest
        ]
  ]
    where
      ends : suc k ≤ times c (c ∷ cs) → k ≤ times c cs
      ends low = let one : times c (c ∷ cs) ≡ suc (times c cs) = times_here c cs in omega arith

      here : (suc k ≤ times c cs → callers_left m cs ≡ without c (callers_left n cs)) → k ≤ times c cs → callers_left m (c ∷ cs) ≡ without c (callers_left n (c ∷ cs))
      here rest low =
          let gone : callers_left m (c ∷ cs) ≡ callers_left m cs = ap (λ b. cond b (c ∷ callers_left m cs) (callers_left m cs)) (le-ltb (times c cs) (m c) (subst (λ x. x ≤ times c cs) (sym is) low)) in
          gone ∙ elim (nat_lt (times c cs) (n c)) as (λ b. nat_lt (times c cs) (n c) ≡ b → callers_left m cs ≡ without c (cond b (c ∷ callers_left n cs) (callers_left n cs))) [
            | true ↦ λ t. still_left cs (few t) ∙ sym (ap (λ b. cond b (callers_left n cs) (c ∷ without c (callers_left n cs))) (eq-eqb c c refl))
            | false ↦ λ t. rest (subst (λ x. x ≤ times c cs) was (ltb-false (times c cs) (n c) t))
          ] refl
        where
          few : nat_lt (times c cs) (n c) ≡ true → times c cs ≤ k
          few t = let low : times c cs < n c = ltb-true (times c cs) (n c) t in omega arith
