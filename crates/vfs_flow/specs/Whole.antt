-- What reading a whole source, and writing a whole text, do.
use Rattle.std.specs.Prelude.{◌≡◌, ℕ, ◌≤◌, ◌<◌, List, length, take}
use Rattle.std.specs.Io.KnownBytes.{Consumes, Appends, IsAtEnd}
use Rattle.std.specs.declared.option.Option.{Option}
use Rattle.vfs_flow.specs.declared.whole.WholeRead.{WholeRead}
use Rattle.vfs_flow.specs.declared.whole.WholeRead.TheVariants as read
use Rattle.vfs_flow.specs.declared.whole.WholeWrite.{WholeWrite}
use Rattle.vfs_flow.specs.declared.whole.WholeWrite.TheVariants as write

-- fewer bytes than the limit were read
abbrev pub ReadsFewer : ℕ → Option (List ℕ) → Option (List ℕ) → Type 0
ReadsFewer limit left left' = (bytes : List ℕ) × (length bytes < limit) × Consumes left left' bytes

-- all of the bytes were read and are fewer than the limit, or as many as the limit, or fewer
abbrev pub ReadsWhole : ℕ → Option (List ℕ) → Option (List ℕ) → WholeRead → Type 0
ReadsWhole limit left left' (read.All bytes) = (length bytes.items < limit) × Consumes left left' bytes.items × IsAtEnd left'
ReadsWhole limit left left' read.TooLong = (bytes : List ℕ) × (length bytes ≡ limit) × Consumes left left' bytes
ReadsWhole limit left left' read.Failed = ReadsFewer limit left left'
ReadsWhole limit left left' read.NoMemory = ReadsFewer limit left left'

-- a front of the text was appended to what was written
abbrev pub WritesFront : Option (List ℕ) → Option (List ℕ) → List ℕ → Type 0
WritesFront written written' text = (n : ℕ) × (n ≤ length text) × Appends written written' (take n text)

-- the whole text was appended, or a front of it
abbrev pub WritesWhole : Option (List ℕ) → Option (List ℕ) → List ℕ → WholeWrite → Type 0
WritesWhole written written' text write.Done = Appends written written' text
WritesWhole written written' text write.Failed = WritesFront written written' text
WritesWhole written written' text write.NoMemory = WritesFront written written' text
