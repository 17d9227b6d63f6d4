-- Which slots a list has, and marks of slots that are written one after another.
use Rattle.std.proofs.Common.{ℕ, Bool, true, false, ◌≡◌, ◌≢◌, ◌<◌, ◌==◌, ◌∙◌, ap, sym, cond, inl, inr, List, [], ◌∷◌, ◌++◌, ◌+◌, take, drop, length, get_or, set, refl, arith}
use Rattle.std.proofs.lemmas.List.{get_or-set_same, get_or-set_other, length-set, length-map, length-drop, get_or-map, get_or_past, drop_more, take_more_set, map_more, drop-set-lt}
use Rattle.std.proofs.lemmas.Bool.{cases_eq, cases_lt, or_right, false≢true}
use Rattle.op_vector.specs.declared.data.Vid.{Vid}
use Rattle.vnode_lock.specs.Listed.{has_slot, AreBelow, replaced, moved}

-- numbers and their test
eq_no : (x y : ℕ) → x ≢ y → (x == y) ≡ false
eq_no x y h = grind arith

eq_yes : (x y : ℕ) → x ≡ y → (x == y) ≡ true
eq_yes x y h = grind arith

yes_eq : (x y : ℕ) → (x == y) ≡ true → x ≡ y
yes_eq x y h = grind arith

no_eq : (x y : ℕ) → (x == y) ≡ false → x ≢ y
no_eq x y h = grind arith

-- choices of two values that are equal, or tests themselves
cond_same : (b x : Bool) → cond b x x ≡ x
cond_same true x = refl
cond_same false x = refl

cond_itself : (b : Bool) → cond b true false ≡ b
cond_itself true = refl
cond_itself false = refl

cond_never : (b : Bool) → cond b false b ≡ false
cond_never true = refl
cond_never false = refl

-- a mark was written, and the rest of the list is left
pub mark_written : (marks : List Bool) (vid : Vid) (rest : List Vid) (mark : Bool) → vid.slot < length marks → (slot : ℕ)
    → cond (has_slot slot rest) mark (get_or (set marks vid.slot mark) slot false) ≡ cond (has_slot slot (vid ∷ rest)) mark (get_or marks slot false)
mark_written marks vid rest mark within slot = elim (cases_eq slot vid.slot) [
  | inl e ↦ rw (eq_yes slot vid.slot e) (ap (λ s. cond (has_slot slot rest) mark (get_or (set marks vid.slot mark) s false)) e ∙ (ap (cond (has_slot slot rest) mark) (get_or-set_same marks vid.slot mark false within) ∙ cond_same (has_slot slot rest) mark))
  | inr n ↦ rw (eq_no slot vid.slot n, get_or-set_other marks vid.slot slot mark false n) refl
]

-- the slots of a list in which a vnode was replaced
module _ (from to : Vid) where
  pub slot_replaced : (vid : Vid) → vid.slot ≡ from.slot → replaced from to vid ≡ to
  slot_replaced vid e = rw (eq_yes vid.slot from.slot e) refl

  pub slot_kept : (vid : Vid) → vid.slot ≢ from.slot → replaced from to vid ≡ vid
  slot_kept vid n = rw (eq_no vid.slot from.slot n) refl

  pub has_target : (vids : List Vid) → has_slot from.slot vids ≡ true → has_slot to.slot (moved from to vids) ≡ true
  has_target [] h = h
  has_target (vid ∷ rest) h = elim (cases_eq vid.slot from.slot) [
    | inl e ↦ rw (slot_replaced vid e, eq_yes to.slot to.slot refl) refl
    | inr n ↦ or_right (to.slot == (replaced from to vid).slot) (has_slot to.slot (moved from to rest)) (has_target rest (rw (eq_no from.slot vid.slot (λ e. n (sym e))) at h))
  ]

  pub has_others : (vids : List Vid) (slot : ℕ) → slot ≢ to.slot → slot ≢ from.slot → has_slot slot (moved from to vids) ≡ has_slot slot vids
  has_others [] slot n m = refl
  has_others (vid ∷ rest) slot n m = elim (cases_eq vid.slot from.slot) [
    | inl e ↦ rw (slot_replaced vid e, eq_no slot to.slot n, eq_no slot vid.slot (λ q. m (q ∙ e)), has_others rest slot n m) refl
    | inr k ↦ rw (slot_kept vid k, has_others rest slot n m) refl
  ]

  pub has_source : (vids : List Vid) → from.slot ≢ to.slot → has_slot from.slot (moved from to vids) ≡ false
  has_source [] n = refl
  has_source (vid ∷ rest) n = elim (cases_eq vid.slot from.slot) [
    | inl e ↦ rw (slot_replaced vid e, eq_no from.slot to.slot n, has_source rest n) refl
    | inr k ↦ rw (slot_kept vid k, eq_no from.slot vid.slot (λ q. k (sym q)), has_source rest n) refl
  ]

  below_replaced : (slots : ℕ) (vid : Vid) → to.slot < slots → vid.slot < slots → (replaced from to vid).slot < slots
  below_replaced slots vid t h = elim (cases_eq vid.slot from.slot) [
    | inl e ↦ rw (slot_replaced vid e) t
    | inr n ↦ rw (slot_kept vid n) h
  ]

  pub below_moved : (slots : ℕ) (vids : List Vid) → to.slot < slots → AreBelow slots vids → AreBelow slots (moved from to vids)
  below_moved slots vids t h = λ k d within.
      let inside : k < length vids = rw (length-map vids (replaced from to)) at within in
      rw (get_or-map (replaced from to) vids k d d inside) (below_replaced slots (get_or vids k d) t (h k d inside))

  -- one more vnode was replaced, or kept
  pub step_replaced : (now initial : List Vid) (i : ℕ) (d next : Vid) → i < length now
      → take i now ≡ moved from to (take i initial) → drop i now ≡ drop i initial → next ≡ replaced from to (get_or now i d)
      → (take (i + 1) (set now i next) ≡ moved from to (take (i + 1) initial)) × (drop (i + 1) (set now i next) ≡ drop (i + 1) initial)
  step_replaced now initial i d next within front back is =
      let inside : i < length initial = omega (arith, simp length-drop at (ap length back)) in
      let at_now = drop_more now i d within in
      let at_first = drop_more initial i d inside in
      let heads : get_or now i d ≡ get_or initial i d = cc in
      let tails : drop (i + 1) now ≡ drop (i + 1) initial = cc in
      let put : take (i + 1) (set now i next) ≡ take i now ++ next ∷ [] = take_more_set now i next within in
      let more : moved from to (take (i + 1) initial) ≡ moved from to (take i initial) ++ replaced from to (get_or initial i d) ∷ [] = map_more (replaced from to) initial i d inside in
      let same : next ≡ replaced from to (get_or initial i d) = is ∙ ap (replaced from to) heads in
      let past : i < i + 1 = omega arith in
      (put ∙ (rw (front, same) (sym more)), drop-set-lt (i + 1) now i next past ∙ tails)

-- marks that are those of a list, after its calls
pub marked_filled : (vids : List Vid) (old new : List Bool) → ((slot : ℕ) → get_or old slot false ≡ false)
    → ((slot : ℕ) → get_or new slot false ≡ cond (has_slot slot vids) true (get_or old slot false))
    → (slot : ℕ) → get_or new slot false ≡ has_slot slot vids
marked_filled vids old new none wrote slot = wrote slot ∙ (ap (cond (has_slot slot vids) true) (none slot) ∙ cond_itself (has_slot slot vids))

pub marked_cleared : (vids : List Vid) (old new : List Bool) → ((slot : ℕ) → get_or old slot false ≡ has_slot slot vids)
    → ((slot : ℕ) → get_or new slot false ≡ cond (has_slot slot vids) false (get_or old slot false))
    → (slot : ℕ) → get_or new slot false ≡ false
marked_cleared vids old new marked wrote slot = wrote slot ∙ (ap (cond (has_slot slot vids) false) (marked slot) ∙ cond_never (has_slot slot vids))

pub marked_moved : (from to : Vid) (vids : List Vid) (marks : List Bool) → ((slot : ℕ) → get_or marks slot false ≡ has_slot slot vids)
    → has_slot from.slot vids ≡ true → from.slot < length marks → to.slot < length marks
    → (slot : ℕ) → get_or (set (set marks from.slot false) to.slot true) slot false ≡ has_slot slot (moved from to vids)
marked_moved from to vids marks marked listed from_in to_in slot = elim (cases_eq slot to.slot) [
  | inl e ↦ (let within : to.slot < length (set marks from.slot false) = rw length-set to_in in
      rw e (get_or-set_same (set marks from.slot false) to.slot true false within ∙ sym (has_target from to vids listed)))
  | inr n ↦ get_or-set_other (set marks from.slot false) to.slot slot true false n ∙ elim (cases_eq slot from.slot) [
    | inl e ↦ rw e (get_or-set_same marks from.slot false false from_in ∙ sym (has_source from to vids (λ q. n (e ∙ q))))
    | inr m ↦ get_or-set_other marks from.slot slot false false m ∙ (marked slot ∙ sym (has_others from to vids slot n m))
  ]
]

-- a slot that is marked is within the marks
pub marked_within : (marks : List Bool) (slot : ℕ) → get_or marks slot false ≡ true → slot < length marks
marked_within marks slot h = elim (cases_lt slot (length marks)) [
  | inl within ↦ within
  | inr past ↦ absurd (false≢true (sym (get_or_past marks slot false past) ∙ h))
]
