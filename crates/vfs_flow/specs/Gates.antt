-- Gates that name two calls.
use Rattle.std.specs.Prelude.{◌≡◌, ℕ}

-- a call of a caller, and a call of another one; calls of a caller are counted from 0
pub record Pair : Type 0 where
  pub caller : ℕ
  pub call : ℕ
  pub other_caller : ℕ
  pub other_call : ℕ

-- this call of this caller is that call of that caller
abbrev pub IsCallOf : ℕ → ℕ → ℕ → ℕ → Type 0
IsCallOf caller call of_caller of_call = (caller ≡ of_caller) × (call ≡ of_call)
