-- Counts of faults: words of 64 bits that stand still at the greatest word.
use Rattle.std.specs.Prelude.{ℕ, ◌+◌, ◌-◌, ◌^◌, ◌≤◌, min}

-- the count after one more
abbrev pub next_word : ℕ → ℕ
next_word count = min (count + 1) (2 ^ 64 - 1)

-- the count rose, or stands at the greatest word
abbrev pub Rose : ℕ → ℕ → Type 0
Rose before now = next_word before ≤ now
