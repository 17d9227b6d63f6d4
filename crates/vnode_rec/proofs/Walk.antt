-- A walk along a chain.
use Rattle.std.proofs.Common.{ℕ, ◌≡◌, ◌<◌, ◌≤◌, ◌+◌, true, refl, sym, ap, ◌∙◌, subst, inl, inr, List, [], ◌∷◌, length, arith, slice_get, get_or, Option, Some}
use Rattle.std.proofs.lemmas.Option.{slice_get_within, slice_get-get_or}
use Rattle.op_vector.specs.declared.data.VData.{VData}
use Rattle.free_list.specs.Queue.{member}
use Rattle.free_list.specs.Links.{at, Path}
use Rattle.free_list.proofs.Queues.{eq_yes, in_or, few}
use Rattle.vnode_rec.specs.declared.slot.Slot.{Slot}
use Rattle.vnode_rec.specs.Chains.{AreChained}
use Rattle.vnode_rec.specs.Vnodes.{HasIdentity}
use Rattle.vnode_rec.proofs.Links.{listed_at}

-- from `a` the links lead along the list to the end
abbrev pub Ahead : (ℕ → ℕ) → ℕ → List ℕ → ℕ → Type 0
Ahead next a [] end = a ≡ end
Ahead next a (x ∷ xs) end = (a ≡ x) × Ahead next (next x) xs end

path_ahead : (next prev : ℕ → ℕ) (a : ℕ) (xs : List ℕ) (end : ℕ) → Path next prev a xs end → Ahead next (next a) xs end
path_ahead next prev a [] end p = p.0
path_ahead next prev a (x ∷ xs) end p = (p.0, path_ahead next prev x xs end p.2)

-- what is left of a walk: each slot of the chain with the identity is ahead
pub record Walking {X : Type 0} (next : List ℕ) (place : List ℕ) (n : ℕ) (chain : ℕ) (id : VData × Option (List ℕ)) (slots : List (Slot X)) (a : ℕ) (count : ℕ) : Type 0 where
  pub rest : List ℕ
  pub ahead : Ahead (at next) a rest (n + chain)
  pub few : length rest + count ≤ n
  pub there : (s : ℕ) → member s rest ≡ true → (s < n) × (at place s ≡ chain)
  pub left : (s : ℕ) → at place s ≡ chain → HasIdentity id slots s → member s rest ≡ true

module _ {X : Type 0} (next prev place : List ℕ) (n m chain : ℕ) (are : AreChained next prev place n m) (cm : chain < m) (id : VData × Option (List ℕ)) (slots : List (Slot X)) (len : length slots ≡ n) where
  pub start : (a : ℕ) → a ≡ at next (n + chain) → Walking next place n chain id slots a 0
  start a e =
      let c = are.each chain cm in
      let short = few n c.queue c.apart in
      record {
        rest = c.queue;
        ahead = subst (λ b. Ahead (at next) b c.queue (n + chain)) (sym e) (path_ahead (at next) (at prev) (n + chain) c.queue (n + chain) c.path);
        few = omega arith;
        there = λ s h. listed_at next prev place n m are chain cm s h;
        left = λ s h i. c.has s (let k = slice_get_within slots s i.0 i.1 in omega arith) ∙ eq_yes (at place s) chain h;
      }

module _ {X : Type 0} (next place : List ℕ) (n chain : ℕ) (id : VData × Option (List ℕ)) (slots : List (Slot X)) where
  step : (a count : ℕ) (rest : List ℕ) → Ahead (at next) a rest (n + chain) → length rest + count ≤ n → ((s : ℕ) → member s rest ≡ true → (s < n) × (at place s ≡ chain))
      → ((s : ℕ) → at place s ≡ chain → HasIdentity id slots s → member s rest ≡ true) → a < n → (HasIdentity id slots a → ⊥) → Walking next place n chain id slots (at next a) (count + 1)
  step a count [] ahead short there left an differs = absurd (omega arith)
  step a count (x ∷ xs) ahead short there left an differs = record {
    rest = xs;
    ahead = subst (λ b. Ahead (at next) (at next b) xs (n + chain)) (sym ahead.0) ahead.1;
    few = omega arith;
    there = λ s h. there s (grind arith);
    left = λ s h i. elim (in_or s x xs (left s h i)) [
      | inl e ↦ absurd (differs (subst (λ b. HasIdentity id slots b) (e ∙ sym ahead.0) i))
      | inr k ↦ k
    ];
  }

  pub onward : (a count : ℕ) → Walking next place n chain id slots a count → a < n → (HasIdentity id slots a → ⊥) → Walking next place n chain id slots (at next a) (count + 1)
  onward a count w an differs = step a count w.rest w.ahead w.few w.there w.left an differs

  nothing : (rest : List ℕ) (a : ℕ) → Ahead (at next) a rest (n + chain) → ((s : ℕ) → member s rest ≡ true → (s < n) × (at place s ≡ chain)) → n ≤ a → rest ≡ []
  nothing [] a ahead there an = refl
  nothing (x ∷ xs) a ahead there an = (let h = (there x (grind arith)).0 in let e = ahead.0 in absurd (omega arith))

  pub none_left : (a count : ℕ) → Walking next place n chain id slots a count → n ≤ a → (s : ℕ) → at place s ≡ chain → HasIdentity id slots s → ⊥
  none_left a count w an s h i =
      let e : member s [] ≡ true = ap (member s) (sym (nothing w.rest a w.ahead w.there an)) ∙ w.left s h i in
      cc

  empty : (rest : List ℕ) → length rest ≤ 0 → rest ≡ []
  empty [] h = refl
  empty (x ∷ xs) h = absurd (omega (arith, h))

  pub all_met : (a count : ℕ) → Walking next place n chain id slots a count → n ≤ count → (s : ℕ) → at place s ≡ chain → HasIdentity id slots s → ⊥
  all_met a count w over s h i =
      let few = w.few in
      let e : member s [] ≡ true = ap (member s) (sym (empty w.rest (omega arith))) ∙ w.left s h i in
      cc

  on_rest : (rest : List ℕ) (a : ℕ) → Ahead (at next) a rest (n + chain) → a < n → member a rest ≡ true
  on_rest [] a ahead an = absurd (omega (arith, ahead, an))
  on_rest (x ∷ xs) a ahead an = (let e = ahead.0 in grind arith)

  pub on_chain : (a count : ℕ) → Walking next place n chain id slots a count → a < n → at place a ≡ chain
  on_chain a count w an = (w.there a (on_rest w.rest a w.ahead an)).1

  -- what an index read of the slots is the slot of that number
  pub is_at : (a : ℕ) (x : Slot X) → a < length slots → x ≡ get_or slots a x → slice_get slots a ≡ Some x
  is_at a x h e = slice_get-get_or slots a x h ∙ ap (λ (y : Slot X). Some y) (sym e)
