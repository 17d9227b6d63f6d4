-- What the two loops keep.
use Rattle.std.specs.Prelude.{ℕ, ◌≤◌, List, length, take}
use Rattle.std.specs.Io.KnownBytes.{Consumes, Appends}
use Rattle.std.specs.declared.option.Option.{Option}

-- these bytes came from the source, and its count of faults didn't fall
pub record Reading {S : Type 0} (left : S → Option (List ℕ)) (faults : S → ℕ) (limit : ℕ) (old now : S) (bytes : List ℕ) : Type 0 where
  pub within : length bytes ≤ limit
  pub taken : Consumes (left old) (left now) bytes
  pub later : faults old ≤ faults now

-- this front of the text went to the sink, and its count of faults didn't fall
pub record Writing {K : Type 0} (written : K → Option (List ℕ)) (faults : K → ℕ) (old now : K) (text : List ℕ) (at : ℕ) : Type 0 where
  pub within : at ≤ length text
  pub put : Appends (written old) (written now) (take at text)
  pub later : faults old ≤ faults now
