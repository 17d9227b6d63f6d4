-- Reading lines one after the other, as a loop does.
use Rattle.std.proofs.Common.{◌≡◌, ℕ, ◌+◌, ◌-◌, ◌==◌, List, [], ◌∷◌, ◌++◌, Some, None, Result, Ok, Err, refl, sym, ap, ◌∙◌, append_assoc}
use Rattle.std.proofs.lemmas.List.{append-nil}
use Rattle.call_model.specs.declared.call.Line.{Line}
use Rattle.script_text.specs.declared.fault.ScriptFault.{ScriptFault}
use Rattle.script_text.specs.declared.fault.ScriptFault.TheVariants as fault
use Rattle.script_text.specs.Reading.{FailsAt}
use Rattle.script_text.specs.ReadScript.{step_at, onto, lines_at}

-- what was read before, and what is still read
abbrev pub with_front : List Line → Result (List Line) ℕ → Result (List Line) ℕ
with_front front (Ok lines) = Ok (front ++ lines)
with_front front (Err n) = Err n

regroup : (front : List Line) (line : Line) (read : Result (List Line) ℕ) → with_front front (onto line read) ≡ with_front (front ++ line ∷ []) read
regroup front line (Ok others) = ap (λ (ls : List Line). Ok ls) (simp append_assoc)
regroup front line (Err n) = refl

pub goes_on : (callers left number : ℕ) (front : List Line) (text : List ℕ) (rest : List (List ℕ)) (line : Line) (total : Result (List Line) ℕ) → step_at callers (left == 0) number text rest ≡ Ok (Some line)
    → with_front front (lines_at callers left number (text ∷ rest)) ≡ total → with_front (front ++ line ∷ []) (lines_at callers (left - 1) (number + 1) rest) ≡ total
unfolding lines_at
goes_on callers left number front text rest line total step so_far =
    let one : with_front front (lines_at callers left number (text ∷ rest)) ≡ with_front (front ++ line ∷ []) (lines_at callers (left - 1) (number + 1) rest) = rw step (regroup front line (lines_at callers (left - 1) (number + 1) rest)) in
    sym one ∙ so_far

pub ends_well : (callers left number : ℕ) (front : List Line) (text : List ℕ) (rest : List (List ℕ)) (total : Result (List Line) ℕ) → step_at callers (left == 0) number text rest ≡ Ok None
    → with_front front (lines_at callers left number (text ∷ rest)) ≡ total → total ≡ Ok front
unfolding lines_at
ends_well callers left number front text rest total step so_far =
    let one : with_front front (lines_at callers left number (text ∷ rest)) ≡ Ok front = rw step (ap (λ (ls : List Line). Ok ls) (append-nil front)) in
    sym so_far ∙ one

pub ends_badly : (e : ScriptFault) (callers left number : ℕ) (front : List Line) (text : List ℕ) (rest : List (List ℕ)) (total : Result (List Line) ℕ) → FailsAt e (step_at callers (left == 0) number text rest)
    → with_front front (lines_at callers left number (text ∷ rest)) ≡ total → FailsAt e total
unfolding lines_at
ends_badly fault.NoMemory callers left number front text rest total step so_far = tt
ends_badly (fault.BadLine n) callers left number front text rest total step so_far =
    let one : with_front front (lines_at callers left number (text ∷ rest)) ≡ Err n = rw step refl in
    sym so_far ∙ one

pub never_ends : (callers left number : ℕ) (front : List Line) (total : Result (List Line) ℕ) → with_front front (lines_at callers left number []) ≡ total → total ≡ Err number
unfolding lines_at
never_ends callers left number front total so_far = sym so_far
