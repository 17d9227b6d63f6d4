-- The words of open flags and of the place from which an offset counts.
use Rattle.std.specs.Prelude.{ℕ, Bool, if◌then◌else◌, List, [], ◌∷◌, ◌++◌, codes}
use Rattle.call_model.specs.declared.call.Access.{Access}
use Rattle.call_model.specs.declared.call.Access.TheVariants.{Read, Write, Both}
use Rattle.call_model.specs.declared.call.Flags.{Flags}
use Rattle.call_model.specs.declared.call.Whence.{Whence}
use Rattle.call_model.specs.declared.call.Whence.TheVariants.{Set, Cur, End}

-- `r`, `w` or `b`
abbrev pub access_letter : Access → ℕ
access_letter Read = 114
access_letter Write = 119
access_letter Both = 98

-- the letter where the flag is set
abbrev pub letter_if : Bool → ℕ → List ℕ
letter_if set letter = if set then letter ∷ [] else []

-- the letters `c`, `x`, `t`, `a` and `d` of the flags that are set
abbrev pub flag_letters : Flags → List ℕ
flag_letters f = letter_if f.make 99 ++ (letter_if f.fresh 120 ++ (letter_if f.cut 116 ++ (letter_if f.append 97 ++ letter_if f.dir 100)))

-- the flags word
unfoldable pub flags_text : Flags → List ℕ
flags_text f = access_letter f.access ∷ flag_letters f

-- `set`, `cur` or `end`
abbrev pub whence_text : Whence → List ℕ
whence_text Set = codes "set"
whence_text Cur = codes "cur"
whence_text End = codes "end"
