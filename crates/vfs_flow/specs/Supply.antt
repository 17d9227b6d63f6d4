-- A source in memory.
use Rattle.std.specs.Prelude.{ℕ, List}

-- the bytes that are left, the length of the longest piece, the calls that fail (counted from 1), the
-- number of calls that were made, and the count of faults
pub record Supply : Type 0 where
  pub left : List ℕ
  pub piece : ℕ
  pub fails : List ℕ
  pub turn : ℕ
  pub faults : ℕ
