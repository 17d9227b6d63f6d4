-- What contracts see of a history.
use Rattle.std.specs.Prelude.{ℕ, List}
use Rattle.call_model.specs.declared.entry.Entry.{Entry}

-- the entries in their order, and how many more have room
pub record Recorded : Type 0 where
  pub entries : List Entry
  pub spare : ℕ
