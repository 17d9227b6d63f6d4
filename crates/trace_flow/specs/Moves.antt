-- How bytes go to a sink by way of a buffer.
use Rattle.std.specs.Prelude.{◌≡◌, ℕ, ◌≤◌, List, ◌++◌, MatchResult}
use Rattle.std.specs.Io.KnownBytes.{Appends}
use Rattle.std.specs.declared.option.Option.{Option}
use Rattle.std.specs.declared.result.Result.{Result}
use Rattle.vfs_flow.specs.Faults.{Rose}
use Rattle.trace_flow.specs.declared.piece.Halt.{Halt}
use Rattle.trace_flow.specs.declared.piece.Halt.TheVariants as halt

-- a front of the bytes went to the sink, whose count of faults didn't fall, and the rest is left
pub record Moves {K : Type 0} (written : K → Option (List ℕ)) (faults : K → ℕ) (old new : K) (bytes rest : List ℕ) : Type 0 where
  pub front : List ℕ
  pub put : Appends (written old) (written new) front
  pub split : bytes ≡ front ++ rest
  pub later : faults old ≤ faults new

-- a front of the bytes went to the sink before it came to a halt, at which the count rose if the sink failed
pub record Halts {K : Type 0} (written : K → Option (List ℕ)) (faults : K → ℕ) (old new : K) (bytes : List ℕ) (cause : Halt) : Type 0 where
  pub rest : List ℕ
  pub moved : Moves written faults old new bytes rest
  pub rose : cause ≡ halt.Failed → Rose (faults old) (faults new)

-- the rest of the bytes is left, or they came to a halt
abbrev pub Passes : {K T : Type 0} → (K → Option (List ℕ)) → (K → ℕ) → K → K → List ℕ → List ℕ → Result T Halt → Type 0
Passes written faults old new bytes rest result = MatchResult result (λ _. Moves written faults old new bytes rest) (λ cause. Halts written faults old new bytes cause)
