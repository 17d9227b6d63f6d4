-- Histories that write to nothing for which a descriptor stands.
use Rattle.std.specs.Prelude.{ℕ, List, [], ◌∷◌}
use Rattle.vfs_tree.specs.Place.{Seen}
use Rattle.vfs_tree.specs.declared.world.World.{World}
use Rattle.call_model.specs.Legal.{after}
use Rattle.call_model.specs.declared.entry.Entry.{Entry}
use Rattle.open_laws.specs.Contents.{IsOpenAt, WritesElsewhere}

-- a descriptor is open and isn't dead, and an entry writes to no file or to one of another node than what it stands for
pub record IsUnwrittenBy (w : World) (e : Entry) (k : ℕ × ℕ) : Type 0 where
  pub place : Seen
  pub at : IsOpenAt w k place
  pub elsewhere : WritesElsewhere w e place

-- so it is before each entry of a history. What it stands for then may be a copy of what it stood for.
abbrev pub StaysUnwritten : World → List Entry → ℕ × ℕ → Type 0
StaysUnwritten w [] k = Unit {0}
StaysUnwritten w (e ∷ es) k = IsUnwrittenBy w e k × StaysUnwritten (after w e) es k
