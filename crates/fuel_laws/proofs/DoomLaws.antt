-- Which callers have doomed something since their last call entry.
use Rattle.std.proofs.Common.{◌≡◌, ℕ, Bool, true, false, cond, not, ◌||◌, ◌==◌, List, [], ◌∷◌, refl, ap, sym, ◌∙◌, inl, inr, eq-eqb}
use Rattle.std.specs.List.{list_any, filter}
use Rattle.std.proofs.lemmas.Bool.Decides.{eqb_tells}
use Rattle.call_model.specs.Legal.{doomers_after}
use Rattle.call_model.specs.declared.call.Call.{Call}
use Rattle.call_model.specs.declared.entry.Entry.TheVariants as entry
use Rattle.call_model.specs.declared.entry.Inner.{Inner}
use Rattle.call_model.specs.declared.entry.Inner.TheVariants.{CopyUp, Detach, Doom, Shadow}
use Rattle.call_model.specs.declared.entry.Ref.{Ref}
use Rattle.call_model.specs.declared.reply.Reply.{Reply}
use Rattle.call_laws.proofs.NamedLaws.{no_way}

abbrev has : ℕ → List ℕ → Bool
has d ds = list_any (λ k. k == d) ds

-- callers but one
abbrev without : ℕ → List ℕ → List ℕ
without c ds = filter (λ k. not (k == c)) ds

other_way : (c d : ℕ) → (d == c) ≡ false → (c == d) ≡ false
other_way c d other = elim (eqb_tells c d) as (λ _. (c == d) ≡ false) [
  | inl e ↦ no_way (sym other ∙ eq-eqb d c (sym e.1))
  | inr e ↦ e.0
]

has_others : (c d : ℕ) (ds : List ℕ) → (d == c) ≡ false → has d (without c ds) ≡ has d ds
has_others c d [] other = refl
has_others c d (k ∷ ks) other = elim (eqb_tells k c) as (λ _. has d (without c (k ∷ ks)) ≡ has d (k ∷ ks)) [
  | inl e ↦ ap (λ b. has d (cond (not b) (k ∷ without c ks) (without c ks))) e.0 ∙ has_others c d ks other
      ∙ sym (ap (λ b. b || has d ks) (ap (λ x. x == d) e.1 ∙ other_way c d other))
  | inr e ↦ ap (λ b. has d (cond (not b) (k ∷ without c ks) (without c ks))) e.0 ∙ ap (λ b. (k == d) || b) (has_others c d ks other)
]

has_no_own : (c : ℕ) (ds : List ℕ) → has c (without c ds) ≡ false
has_no_own c [] = refl
has_no_own c (k ∷ ks) = elim (eqb_tells k c) as (λ _. has c (without c (k ∷ ks)) ≡ false) [
  | inl e ↦ ap (λ b. has c (cond (not b) (k ∷ without c ks) (without c ks))) e.0 ∙ has_no_own c ks
  | inr e ↦ ap (λ b. has c (cond (not b) (k ∷ without c ks) (without c ks))) e.0 ∙ ap (λ b. b || has c (without c ks)) e.0 ∙ has_no_own c ks
]

pub doomer_own : (ds : List ℕ) (c : ℕ) (at : Ref) → has c (doomers_after ds (entry.Inner c (Doom at))) ≡ true
doomer_own ds c at = ap (λ b. b || has c ds) (eq-eqb c c refl)

pub doomer_ended : (ds : List ℕ) (c : ℕ) (call : Call) (r : Reply) → has c (doomers_after ds (entry.Call c call r)) ≡ false
doomer_ended ds c call r = has_no_own c ds

pub doomer_call : (ds : List ℕ) (c d : ℕ) (call : Call) (r : Reply) → (d == c) ≡ false → has d (doomers_after ds (entry.Call c call r)) ≡ has d ds
doomer_call ds c d call r other = has_others c d ds other

pub doomer_inner : (ds : List ℕ) (c d : ℕ) (x : Inner) → (d == c) ≡ false → has d (doomers_after ds (entry.Inner c x)) ≡ has d ds
doomer_inner ds c d (Doom at) other = ap (λ b. b || has d ds) (other_way c d other)
doomer_inner ds c d (Shadow m u n) other = refl
doomer_inner ds c d (CopyUp m u n) other = refl
doomer_inner ds c d (Detach m) other = refl
