-- The rows of holders, and how often a slot stands in them.
use Rattle.std.specs.Prelude.{ℕ, ◌≡◌, ◌<◌, ◌≤◌, ◌*◌, ◌^◌, ◌==◌, cond, nat_lt, List, [], ◌∷◌, ◌++◌, length, take, Option, All, slice_get, slice_set, slice_index_or, slice_index, sum_by, count_by}
use Rattle.std.specs.Option.{option_and_then}
use Rattle.op_vector.specs.declared.data.Vid.{Vid}

-- the rows of holders, the first of which are use rows, and the number of slots
pub record Held : Type 0 where
  pub rows : List (List Vid)
  pub uses : ℕ
  pub slots : ℕ

-- how often a slot stands in a row
abbrev pub occurs_in : ℕ → List Vid → ℕ
occurs_in s row = count_by (λ v. v.slot == s) row

-- how often a slot stands in rows
abbrev pub occurs : ℕ → List (List Vid) → ℕ
occurs s rows = sum_by (occurs_in s) rows

-- a row, which is empty where there is none of that number
abbrev pub row_in : List (List Vid) → ℕ → List Vid
row_in rows row = slice_index_or rows row []

-- the vnode at a place of a row, the lowest at 0
abbrev pub held_in : List (List Vid) → ℕ → ℕ → Option Vid
held_in rows row place = option_and_then (λ vids. slice_get vids place) (slice_get rows row)

-- the rows with one vnode more at the end of a row
abbrev pub pushed : ℕ → Vid → List (List Vid) → List (List Vid)
pushed row vid rows = slice_set rows row (row_in rows row ++ vid ∷ [])

-- a row of the holders counts as a use where it is a use row
abbrev pub weight : ℕ → ℕ → ℕ
weight uses row = cond (nat_lt row uses) 1 0

-- the counts are the numbers of occurrences in the use rows and in all rows
pub record AreCounted (rows : List (List Vid)) (uses : ℕ) (use_counts : List ℕ) (hold_counts : List ℕ) : Type 0 where
  pub use_len : length use_counts ≡ length hold_counts
  pub few : 9 * length rows ≤ length hold_counts
  pub small : length hold_counts < 2 ^ 32
  pub some_uses : uses ≤ length rows
  pub short : All (λ row. length row ≤ 9) rows
  pub below : All (All (λ v. v.slot < length hold_counts)) rows
  pub use_count : (s : ℕ) → s < length hold_counts → slice_index use_counts s ≡ occurs s (take uses rows)
  pub hold_count : (s : ℕ) → s < length hold_counts → slice_index hold_counts s ≡ occurs s rows
