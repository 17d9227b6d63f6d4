-- A buffer of bytes, with room.
use Rattle.std.specs.Prelude.{ℕ, List}

-- the bytes, and how many more have room
pub record Buffer : Type 0 where
  pub bytes : List ℕ
  pub spare : ℕ
