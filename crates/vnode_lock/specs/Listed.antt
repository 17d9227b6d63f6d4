-- A list of locked vnodes, which is asked by slots.
use Rattle.std.specs.Prelude.{ℕ, Bool, false, ◌≡◌, ◌<◌, ◌≤◌, ◌||◌, ◌==◌, cond, List, [], ◌∷◌, length, map, All, slice_index_or}
use Rattle.op_vector.specs.declared.data.Vid.{Vid}

-- the vnodes of a list, and how many slots there are
pub record Listed : Type 0 where
  pub vids : List Vid
  pub slots : ℕ

-- whether a vnode of the list has that slot
abbrev pub has_slot : ℕ → List Vid → Bool
has_slot slot [] = false
has_slot slot (vid ∷ rest) = (slot == vid.slot) || has_slot slot rest

-- each vnode of the list has a slot below `slots`
abbrev pub AreBelow : ℕ → List Vid → Type 0
AreBelow slots vids = All (λ vid. vid.slot < slots) vids

-- `to` in place of a vnode that has the slot of `from`
abbrev pub replaced : Vid → Vid → Vid → Vid
replaced from to vid = cond (vid.slot == from.slot) to vid

-- the list with `to` for each vnode that has the slot of `from`
abbrev pub moved : Vid → Vid → List Vid → List Vid
moved from to vids = map (replaced from to) vids

-- exactly the slots of the list are marked, and there is room for `most` vnodes
pub record IsMarked (vids : List Vid) (marks : List Bool) (most : ℕ) (capacity : ℕ) : Type 0 where
  pub marked : (slot : ℕ) → slice_index_or marks slot false ≡ has_slot slot vids
  pub below : AreBelow (length marks) vids
  pub room : most ≤ capacity

-- the lists of the callers, by their numbers, and how many slots there are
pub record Rows : Type 0 where
  pub rows : List (List Vid)
  pub slots : ℕ

-- the vnodes of each list
abbrev pub vids_of : List Listed → List (List Vid)
vids_of lists = map (λ list. list.vids) lists

-- each list is for so many slots
abbrev pub AreOf : ℕ → List Listed → Type 0
AreOf slots lists = All (λ list. list.slots ≡ slots) lists
