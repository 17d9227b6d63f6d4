-- What one call of a source does to its bytes and to the buffer.
use Rattle.std.specs.Prelude.{◌≡◌, ℕ, ◌≤◌, List, ◌++◌, length}
use Rattle.std.specs.Io.KnownBytes.{Consumes, Keeps, IsAtEnd}
use Rattle.std.specs.declared.option.Option.{Option}
use Rattle.vfs_flow.specs.Faults.{next_word}
use Rattle.vfs_flow.specs.declared.source.Got.{Got}
use Rattle.vfs_flow.specs.declared.source.Got.TheVariants as got

-- the fact, for the number of bytes of a piece
abbrev pub IfGot : Got → (ℕ → Type 0) → Type 0
IfGot (got.Some n) P = P n
IfGot got.End P = Unit {0}
IfGot got.Failed P = Unit {0}
IfGot got.NoMemory P = Unit {0}

-- a piece of n bytes went from the front of what is left to the end of the buffer
pub record Moved (most n : ℕ) (left left' : Option (List ℕ)) (into into' : List ℕ) : Type 0 where
  pub some : 1 ≤ n
  pub at_most : n ≤ most
  pub piece : List ℕ
  pub count : length piece ≡ n
  pub buffer : into' ≡ into ++ piece
  pub taken : Consumes left left' piece

-- nothing moved
pub record Stayed (left left' : Option (List ℕ)) (into into' : List ℕ) : Type 0 where
  pub buffer : into' ≡ into
  pub kept : Keeps left left'

-- a piece of 1 to `most` bytes moved, or none did; at the end nothing is left
abbrev pub Reads : ℕ → Option (List ℕ) → Option (List ℕ) → List ℕ → List ℕ → Got → Type 0
Reads most left left' into into' (got.Some n) = Moved most n left left' into into'
Reads most left left' into into' got.End = Stayed left left' into into' × IsAtEnd left'
Reads most left left' into into' got.Failed = Stayed left left' into into'
Reads most left left' into into' got.NoMemory = Stayed left left' into into'

-- the count of faults after this answer, where it rises at `Failed` alone
abbrev pub faults_after_read : ℕ → Got → ℕ
faults_after_read count (got.Some n) = count
faults_after_read count got.End = count
faults_after_read count got.Failed = next_word count
faults_after_read count got.NoMemory = count
