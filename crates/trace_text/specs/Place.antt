-- The text of a place.
use Rattle.std.specs.Prelude.{ℕ, List, [], ◌∷◌, ◌++◌, codes, decimal}
use Rattle.vfs_tree.specs.Place.{Seen, Mem, Null, UnionUp, UnionLow}
use Rattle.script_text.specs.Word.{word_text}

-- a mount and an inode number in its store
abbrev pub numbers_text : ℕ → ℕ → List ℕ
numbers_text mount ino = decimal mount ++ 58 ∷ [] ++ decimal ino

-- a place, the outermost mount first
abbrev pub place_text : Seen → List ℕ
place_text (Mem mount ino) = codes "m" ++ numbers_text mount ino
place_text (Null mount lower) = codes "n" ++ decimal mount ++ 40 ∷ [] ++ place_text lower ++ 41 ∷ []
place_text (UnionUp mount ino) = codes "u" ++ numbers_text mount ino
place_text (UnionLow mount dir name lower) =
    codes "l" ++ numbers_text mount dir ++ 58 ∷ [] ++ word_text name ++ 40 ∷ [] ++ place_text lower ++ 41 ∷ []
