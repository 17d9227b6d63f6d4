-- The first line that isn't lawful at its place.
use Rattle.std.specs.Prelude.{◌≡◌, ℕ, ◌+◌, ◌-◌, ◌<◌, ◌==◌, ◌⊎◌, List, [], ◌∷◌, codes}
use Rattle.std.specs.List.{slice_split}
use Rattle.vfs_tree.specs.declared.limits.Limits.{Limits}
use Rattle.vfs_tree.specs.Limits.{IsLawful}
use Rattle.call_model.specs.declared.call.Line.{Line}
use Rattle.script_text.specs.declared.script.Script.{Script}
use Rattle.script_text.specs.Line.{line_text}
use Rattle.script_text.specs.Fits.{FitsLine}
use Rattle.script_text.specs.Script.{limits_text, HasText, IsTextOf}

-- where a line of a script stands: it is the first, the second, a later one of so many callers with so many calls that
-- may still come, or it stands past the line `end`
pub data Place : Type 0 where
  First : Place
  Second : Place
  Later : ℕ → ℕ → Place
  Past : Place

-- a call line of a script of so many callers
abbrev pub IsCallLine : ℕ → List ℕ → Type 0
IsCallLine callers text = (line : Line) × FitsLine callers line × (text ≡ line_text line)

-- among the call lines, the text is lawful, and the next line stands at this place
abbrev pub IsLater : ℕ → ℕ → List ℕ → Place → Type 0
IsLater callers left text after = ((text ≡ codes "end") × (after ≡ Past)) ⊎ ((0 < left) × IsCallLine callers text × (after ≡ Later callers (left - 1)))

-- the text is a limits line, and the next line stands at this place
abbrev pub IsLimitsLine : List ℕ → Place → Type 0
IsLimitsLine text after = (limits : Limits) × IsLawful limits × (text ≡ limits_text limits) × (after ≡ Later limits.callers 4096)

-- a line of this text is lawful at the place, and the next line stands at the other place
abbrev pub IsLawfulAt : Place → List ℕ → Place → Type 0
IsLawfulAt First text after = (text ≡ codes "vfs 1") × (after ≡ Second)
IsLawfulAt Second text after = IsLimitsLine text after ⊎ IsLater 16 4096 text after
IsLawfulAt (Later callers left) text after = IsLater callers left text after
IsLawfulAt Past text after = ⊥

-- of these parts between line ends, the first of which is the line `number` at this place, line n is the first that
-- isn't lawful; the last part has no line end, so it is lawful only where it is empty and stands past the line `end`
abbrev pub IsBadFrom : Place → ℕ → List (List ℕ) → ℕ → Type 0
IsBadFrom place number [] n = n ≡ number
IsBadFrom place number (last ∷ []) n = (n ≡ number) × ((place ≡ Past) × (last ≡ []) → ⊥)
IsBadFrom place number (text ∷ next ∷ parts) n =
    ((n ≡ number) × ((after : Place) → IsLawfulAt place text after → ⊥)) ⊎ ((after : Place) × IsLawfulAt place text after × IsBadFrom after (number + 1) (next ∷ parts) n)

-- line n of the bytes, counted from 1, is the first that isn't lawful at its place, and no script has this text
pub record IsBadLine (bytes : List ℕ) (n : ℕ) : Type 0 where
  pub first : IsBadFrom First 1 (slice_split (λ b. b == 10) bytes) n
  pub no_script : (script : Script) → HasText script → IsTextOf script bytes → ⊥
