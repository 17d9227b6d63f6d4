-- The calls of a caller in a history.
use Rattle.std.proofs.Common.{◌≡◌, ℕ, Bool, true, false, cond, ◌==◌, List, [], ◌∷◌, ◌++◌, refl, ap, ◌∙◌, eq-eqb}
use Rattle.std.proofs.lemmas.List.{append-nil}
use Rattle.call_model.specs.Legal.{calls_of}
use Rattle.call_model.specs.declared.call.Call.{Call}
use Rattle.call_model.specs.declared.entry.Entry.{Entry}
use Rattle.call_model.specs.declared.entry.Entry.TheVariants as entry
use Rattle.call_model.specs.declared.entry.Inner.{Inner}
use Rattle.call_model.specs.declared.reply.Reply.{Reply}

pub calls_joined : (c : ℕ) (es fs : List Entry) → calls_of c (es ++ fs) ≡ calls_of c es ++ calls_of c fs
calls_joined c [] fs = refl
calls_joined c (entry.Call d call r ∷ es) fs =
    elim (c == d) as (λ b. cond b (call ∷ calls_of c (es ++ fs)) (calls_of c (es ++ fs)) ≡ cond b (call ∷ calls_of c es) (calls_of c es) ++ calls_of c fs) [
      | true ↦ ap (λ (t : List Call). call ∷ t) (calls_joined c es fs)
      | false ↦ calls_joined c es fs
    ]
calls_joined c (entry.Inner d x ∷ es) fs = calls_joined c es fs

-- one entry more
entry_of : (es : List Entry) (c d : ℕ) (call : Call) (r : Reply) (b : Bool) → (d == c) ≡ b → calls_of d (es ++ entry.Call c call r ∷ []) ≡ calls_of d es ++ cond b (call ∷ []) []
entry_of es c d call r b is = calls_joined d es (entry.Call c call r ∷ []) ∙ ap (λ b. calls_of d es ++ cond b (call ∷ []) []) is

pub calls_own : (es : List Entry) (c : ℕ) (call : Call) (r : Reply) → calls_of c (es ++ entry.Call c call r ∷ []) ≡ calls_of c es ++ call ∷ []
calls_own es c call r = entry_of es c c call r true (eq-eqb c c refl)

pub calls_others : (es : List Entry) (c d : ℕ) (call : Call) (r : Reply) → (d == c) ≡ false → calls_of d (es ++ entry.Call c call r ∷ []) ≡ calls_of d es
calls_others es c d call r other = entry_of es c d call r false other ∙ append-nil (calls_of d es)

pub calls_inner : (es : List Entry) (c d : ℕ) (x : Inner) → calls_of d (es ++ entry.Inner c x ∷ []) ≡ calls_of d es
calls_inner es c d x = calls_joined d es (entry.Inner c x ∷ []) ∙ append-nil (calls_of d es)
