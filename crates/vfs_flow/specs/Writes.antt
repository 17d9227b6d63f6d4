-- What one call of a sink does to what was written.
use Rattle.std.specs.Prelude.{ℕ, ◌-◌, ◌≤◌, List, length, take}
use Rattle.std.specs.Io.KnownBytes.{Appends, Keeps}
use Rattle.std.specs.declared.option.Option.{Option}
use Rattle.vfs_flow.specs.Faults.{next_word}
use Rattle.vfs_flow.specs.declared.sink.Put.{Put}
use Rattle.vfs_flow.specs.declared.sink.Put.TheVariants as put

-- the fact, for the number of bytes that were taken
abbrev pub IfPut : Put → (ℕ → Type 0) → Type 0
IfPut (put.Some n) P = P n
IfPut put.Failed P = Unit {0}
IfPut put.NoMemory P = Unit {0}

-- the first n bytes of the piece were appended
pub record Taken (n : ℕ) (written written' : Option (List ℕ)) (piece : List ℕ) : Type 0 where
  pub some : 1 ≤ n
  pub within : n ≤ length piece
  pub front : Appends written written' (take n piece)

-- a front of the piece was appended, or nothing was
abbrev pub Writes : Option (List ℕ) → Option (List ℕ) → List ℕ → Put → Type 0
Writes written written' piece (put.Some n) = Taken n written written' piece
Writes written written' piece put.Failed = Keeps written written'
Writes written written' piece put.NoMemory = Keeps written written'

-- the room that is left after this answer
abbrev pub room_after : ℕ → Put → ℕ
room_after room (put.Some n) = room - n
room_after room put.Failed = room
room_after room put.NoMemory = room

-- the count of faults after this answer, where it rises at `Failed` alone
abbrev pub faults_after_write : ℕ → Put → ℕ
faults_after_write count (put.Some n) = count
faults_after_write count put.Failed = next_word count
faults_after_write count put.NoMemory = count
