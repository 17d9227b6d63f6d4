-- Reading words in good faith: right for each word that is spelled right.
use Rattle.std.specs.Prelude.{ℕ, ◌+◌, ◌-◌, ◌*◌, ◌%◌, ◌^◌, Bool, ◌&&◌, nat_lt, ◌==◌, if◌then◌else◌, List, [], ◌∷◌, codes, decimal, Option, Some, None, ℤ, pos, neg_ℤ}
use Rattle.std.specs.List.{list_any}
use Rattle.std.specs.Str.{bytes_eq}
use Rattle.std.specs.Str.Parse.{digits_value}
use Rattle.call_model.specs.declared.call.Access.{Access}
use Rattle.call_model.specs.declared.call.Access.TheVariants.{Read, Write, Both}
use Rattle.call_model.specs.declared.call.Flags.{Flags}
use Rattle.call_model.specs.declared.call.Whence.{Whence}
use Rattle.call_model.specs.declared.call.Whence.TheVariants.{Set, Cur, End}
use Rattle.script_text.specs.declared.word.Escape.{Escape}
use Rattle.script_text.specs.declared.word.Escape.TheVariants.{Outside, Sign, Digit}
use Rattle.script_text.specs.Reading.{◌>>=◌}

-- the value of a lower-case hexadecimal digit, and some value below 16 of any other byte
abbrev pub digit_value : ℕ → ℕ
digit_value c = (if nat_lt c 58 then c - 48 else c - 87) % 16

-- the bytes of a word that is spelled right, and some bytes of any other
abbrev pub bytes_from : Escape → List ℕ → List ℕ
bytes_from e [] = []
bytes_from Outside (c ∷ cs) = if c == 37 then bytes_from Sign cs else c % 256 ∷ bytes_from Outside cs
bytes_from Sign (c ∷ cs) = bytes_from (Digit c) cs
bytes_from (Digit high) (c ∷ cs) = (16 * digit_value high + digit_value c) ∷ bytes_from Outside cs

unfoldable pub bytes_at : List ℕ → Option (List ℕ)
bytes_at word = Some (bytes_from Outside word)

-- the number below 2 ^ 32 that the word spells
unfoldable pub number_at : List ℕ → Option ℕ
number_at word = if bytes_eq (decimal (digits_value 10 word)) word && nat_lt (digits_value 10 word) (2 ^ 32) then Some (digits_value 10 word) else None

-- the number that the word spells, or the one below 0 that it spells after `-`
unfoldable pub offset_at : List ℕ → Option ℤ
offset_at [] = number_at [] >>= λ n. Some (pos n)
offset_at (c ∷ cs) = if c == 45 then (number_at cs >>= λ n. Some (neg_ℤ (pos n))) else (number_at (c ∷ cs) >>= λ n. Some (pos n))

-- what the first letter of a flags word opens for
abbrev pub access_of : ℕ → Access
access_of c = if c == 114 then Read else (if c == 119 then Write else Both)

-- the letter is among the letters
abbrev pub has_letter : ℕ → List ℕ → Bool
has_letter c letters = list_any (λ letter. letter == c) letters

-- the flags whose letters the word has
unfoldable pub flags_at : List ℕ → Option Flags
flags_at [] = None
flags_at (c ∷ cs) = Some (record { access = access_of c; make = has_letter 99 cs; fresh = has_letter 120 cs; cut = has_letter 116 cs; append = has_letter 97 cs; dir = has_letter 100 cs })

-- the place that the word names
abbrev pub whence_of : List ℕ → Whence
whence_of word = if bytes_eq word (codes "set") then Set else (if bytes_eq word (codes "cur") then Cur else End)

abbrev pub whence_at : List ℕ → Option Whence
whence_at word = Some (whence_of word)
