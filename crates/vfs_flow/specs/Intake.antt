-- A sink in memory.
use Rattle.std.specs.Prelude.{ℕ, List}

-- the bytes that were written, the room that is left, and the count of faults
pub record Intake : Type 0 where
  pub written : List ℕ
  pub room : ℕ
  pub faults : ℕ
