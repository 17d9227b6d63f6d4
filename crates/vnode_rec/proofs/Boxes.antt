-- The boxes that go from the rack to slots and back.
use Rattle.std.proofs.Common.{ℕ, zero, suc, ◌≡◌, ◌≢◌, ◌<◌, ◌≤◌, ◌+◌, Bool, true, false, cond, inl, inr, refl, sym, ap, ◌∙◌, subst, List, [], ◌∷◌, ◌++◌, length, arith, get_or, slice_set, slice_get, count_by, Some, length-append}
use Rattle.std.proofs.lemmas.List.{length-set}
use Rattle.std.proofs.lemmas.List.Sums.{sum_by-set, sum_by-cons, count_by-le-length, get_or-le-sum_by}
use Rattle.std.proofs.lemmas.Option.{get_or_from_slice_get, slice_get_within}
use Rattle.op_vector.specs.declared.data.VKind.{VKind}
use Rattle.op_vector.specs.declared.data.VKind.TheVariants.{Mem, Null, Union, Dead}
use Rattle.op_vector.specs.declared.rack.RackOf.{RackOf}
use Rattle.op_vector.specs.Rack.{boxes_of, room_of, with_boxes}
use Rattle.vnode_rec.specs.declared.slot.Slot.{Slot}
use Rattle.vnode_rec.specs.Vnodes.{EachSlot, HasVector}
use Rattle.vnode_rec.specs.Sound.{IsSupplied, same_kind, has_kind}
use Rattle.vnode_rec.proofs.Slots.{at_set}

pub same_yes : (a b : VKind) → same_kind a b ≡ true → a ≡ b
same_yes Mem Mem h = refl
same_yes Mem Null h = cc
same_yes Mem Union h = cc
same_yes Mem Dead h = cc
same_yes Null Mem h = cc
same_yes Null Null h = refl
same_yes Null Union h = cc
same_yes Null Dead h = cc
same_yes Union Mem h = cc
same_yes Union Null h = cc
same_yes Union Union h = refl
same_yes Union Dead h = cc
same_yes Dead Mem h = cc
same_yes Dead Null h = cc
same_yes Dead Union h = cc
same_yes Dead Dead h = refl

pub same_refl : (a : VKind) → same_kind a a ≡ true
same_refl Mem = refl
same_refl Null = refl
same_refl Union = refl
same_refl Dead = refl

cond_le : (b : Bool) → cond b 1 0 ≤ 1
cond_le true = omega arith
cond_le false = omega arith

count_lt : {Y : Type 0} (p : Y → Bool) (xs : List Y) (i : ℕ) (d : Y) → i < length xs → p (get_or xs i d) ≡ false → count_by p xs < length xs
count_lt p [] i d h e = absurd (omega (arith, h))
count_lt p (x ∷ xs) zero d h e =
    let c : count_by p (x ∷ xs) ≡ cond {A = ℕ} (p x) 1 0 + count_by p xs = sum_by-cons (λ y. cond (p y) 1 0) x xs in
    let k : cond {A = ℕ} (p x) 1 0 ≡ 0 = ap (λ (b : Bool). cond {A = ℕ} b 1 0) e in
    let l = count_by-le-length p xs in
    omega (arith, c, k, l)
count_lt p (x ∷ xs) (suc i) d h e =
    let c : count_by p (x ∷ xs) ≡ cond {A = ℕ} (p x) 1 0 + count_by p xs = sum_by-cons (λ y. cond (p y) 1 0) x xs in
    let l = count_lt p xs i d (omega (arith, h)) e in
    let k = cond_le (p x) in
    omega (arith, c, l, k)

module _ {X : Type 0} where
  list_with : (k k' : VKind) (xs : List X) (r : RackOf X) → boxes_of k (with_boxes k' xs r) ≡ cond (same_kind k' k) xs (boxes_of k r)
  list_with Mem Mem xs r = refl
  list_with Mem Null xs r = refl
  list_with Mem Union xs r = refl
  list_with Mem Dead xs r = refl
  list_with Null Mem xs r = refl
  list_with Null Null xs r = refl
  list_with Null Union xs r = refl
  list_with Null Dead xs r = refl
  list_with Union Mem xs r = refl
  list_with Union Null xs r = refl
  list_with Union Union xs r = refl
  list_with Union Dead xs r = refl
  list_with Dead Mem xs r = refl
  list_with Dead Null xs r = refl
  list_with Dead Union xs r = refl
  list_with Dead Dead xs r = refl

  room_with : (k k' : VKind) (xs : List X) (r : RackOf X) → room_of k (with_boxes k' xs r) ≡ room_of k r
  room_with Mem Mem xs r = refl
  room_with Mem Null xs r = refl
  room_with Mem Union xs r = refl
  room_with Mem Dead xs r = refl
  room_with Null Mem xs r = refl
  room_with Null Null xs r = refl
  room_with Null Union xs r = refl
  room_with Null Dead xs r = refl
  room_with Union Mem xs r = refl
  room_with Union Null xs r = refl
  room_with Union Union xs r = refl
  room_with Union Dead xs r = refl
  room_with Dead Mem xs r = refl
  room_with Dead Null xs r = refl
  room_with Dead Union xs r = refl
  room_with Dead Dead xs r = refl

  -- a box was given to a rack
  module _ (kind : VKind) (rack rack' : RackOf X) (box : X) (given : rack' ≡ with_boxes kind (boxes_of kind rack ++ box ∷ []) rack) where
    pub given_len : (k : VKind) → length (boxes_of k rack') ≡ length (boxes_of k rack) + cond (same_kind kind k) 1 0
    given_len k = ap (λ (r : RackOf X). length (boxes_of k r)) given ∙ (ap length (list_with k kind (boxes_of kind rack ++ box ∷ []) rack) ∙ (elim (same_kind kind k) as (λ b. same_kind kind k ≡ b → length (cond b (boxes_of kind rack ++ box ∷ []) (boxes_of k rack)) ≡ length (boxes_of k rack) + cond b 1 0) [
      | true ↦ λ t. length-append (boxes_of kind rack) (box ∷ []) ∙ ap (λ j. length (boxes_of j rack) + 1) (same_yes kind k t)
      | false ↦ λ t. omega arith
    ]) refl)

    pub given_room : (k : VKind) → room_of k rack' ≡ room_of k rack
    given_room k = ap (room_of k) given ∙ room_with k kind (boxes_of kind rack ++ box ∷ []) rack

  -- a box was taken from a rack
  module _ (kind : VKind) (rack rack' : RackOf X) (box : X) (taken : boxes_of kind rack ≡ boxes_of kind rack' ++ box ∷ []) (rest : rack' ≡ with_boxes kind (boxes_of kind rack') rack) where
    pub taken_len : (k : VKind) → length (boxes_of k rack') + cond (same_kind kind k) 1 0 ≡ length (boxes_of k rack)
    taken_len k = (elim (same_kind kind k) as (λ b. same_kind kind k ≡ b → boxes_of k rack' ≡ cond b (boxes_of kind rack') (boxes_of k rack) → length (boxes_of k rack') + cond b 1 0 ≡ length (boxes_of k rack)) [
      | true ↦ λ y m. (
          let a = ap length taken in
          let b = length-append (boxes_of kind rack') (box ∷ []) in
          let h : length (boxes_of kind rack') + 1 ≡ length (boxes_of kind rack) = omega (arith, a, b) in
          subst (λ (j : VKind). length (boxes_of j rack') + 1 ≡ length (boxes_of j rack)) (same_yes kind k y) h
          )
      | false ↦ λ n m. (let a = ap length m in omega (arith, a))
    ]) refl (ap (boxes_of k) rest ∙ list_with k kind (boxes_of kind rack') rack)

    pub taken_room : (k : VKind) → room_of k rack' ≡ room_of k rack
    taken_room k = ap (room_of k) rest ∙ room_with k kind (boxes_of kind rack') rack

  -- another slot stands at a number
  module _ (slots : List (Slot X)) (i : ℕ) (old : Slot X) (was : slice_get slots i ≡ Some old) where
    pub within : i < length slots
    within = slice_get_within slots i old was

    at_old : get_or slots i old ≡ old
    at_old = get_or_from_slice_get slots i old old was

    pub counted : (k : VKind) (new : Slot X) → count_by (has_kind k) (slice_set slots i new) + cond (has_kind k old) 1 0 ≡ count_by (has_kind k) slots + cond (has_kind k new) 1 0
    counted k new = let s = sum_by-set (λ (s : Slot X). cond (has_kind k s) 1 0) slots i new old within in rw at_old at s

    -- a list has a box where a slot has none of that kind
    pub some_left : (k : VKind) (rack : RackOf X) → IsSupplied slots rack k → has_kind k old ≡ false → boxes_of k rack ≢ []
    some_left k rack supplied no_kind e =
        let n = supplied.enough in
        let l = count_lt (has_kind k) slots i old within (rw at_old no_kind) in
        let z : length (boxes_of k rack) ≡ 0 = ap length e in
        omega (arith, n, l, z)

    -- the rack has room for the box of a slot
    pub room_for : (k : VKind) (rack : RackOf X) → IsSupplied slots rack k → has_kind k old ≡ true → length (boxes_of k rack) < room_of k rack
    room_for k rack supplied its =
        let l = get_or-le-sum_by (λ (s : Slot X). cond (has_kind k s) 1 0) slots i old within in
        let l' = rw (at_old, its) at l in
        let r = supplied.room in
        omega (arith, l', r)

    -- as many boxes of a kind as before
    pub supplied_as : (k : VKind) (new : Slot X) (rack rack' : RackOf X) → IsSupplied slots rack k → room_of k rack' ≡ room_of k rack
        → length (boxes_of k rack') + cond (has_kind k new) 1 0 ≡ length (boxes_of k rack) + cond (has_kind k old) 1 0 → IsSupplied (slice_set slots i new) rack' k
    supplied_as k new rack rack' supplied er el =
        let c = counted k new in
        let ln : length (slice_set slots i new) ≡ length slots = length-set slots i new in
        let n = supplied.enough in
        let r = supplied.room in
        record {
          enough = omega (arith, c, ln, n, el);
          room = omega (arith, c, r, el, er);
        }

    -- each vnode has its vector still
    pub still_matched : (vkind : X → VKind) (new : Slot X) → EachSlot (λ s slot. (box : X) → slot.vop ≡ Some box → HasVector vkind slot box) slots → ((box : X) → new.vop ≡ Some box → HasVector vkind new box)
        → EachSlot (λ s slot. (box : X) → slot.vop ≡ Some box → HasVector vkind slot box) (slice_set slots i new)
    still_matched vkind new all its s x e = elim (at_set slots i new s x within e) [
      | inl same ↦ subst (λ (y : Slot X). (box : X) → y.vop ≡ Some box → HasVector vkind y box) (sym same.1) its
      | inr other ↦ all s x other.1
    ]
