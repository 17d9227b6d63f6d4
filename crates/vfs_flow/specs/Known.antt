-- A source over a reader, or a sink over a writer.
use Rattle.std.specs.Prelude.{ℕ, List}
use Rattle.std.specs.declared.option.Option.{Option}

-- the bytes that the reader has left, or that the writer holds, where they are known, and the count
-- of faults
pub record Known : Type 0 where
  pub bytes : Option (List ℕ)
  pub faults : ℕ
