-- Where a row has room, not every slot is held.
use Rattle.std.proofs.Common.{ℕ, zero, suc, ◌≡◌, ◌≢◌, ◌<◌, ◌≤◌, ◌+◌, ◌*◌, true, false, ◌==◌, cond, refl, sym, ap, ◌∙◌, List, [], ◌∷◌, ◌++◌, length, arith, get_or, slice_get, slice_set, Some, All, sum_by, length-append}
use Rattle.std.proofs.lemmas.List.{length-set}
use Rattle.std.proofs.lemmas.List.Sums.{sum_by-set, sum_by-cons, sum_by-le}
use Rattle.std.proofs.lemmas.List.Elements.{All-set}
use Rattle.std.proofs.lemmas.Option.{slice_get-get_or}
use Rattle.op_vector.specs.declared.data.Vid.{Vid}
use Rattle.op_vector.specs.declared.rack.RackOf.{RackOf}
use Rattle.free_list.specs.Queue.{Queue, member}
use Rattle.free_list.proofs.Queues.{yes_eq, no_eq, eq_no}
use Rattle.vnode_rec.specs.declared.slot.Slot.{Slot}
use Rattle.vnode_rec.specs.Holders.{Held, occurs, occurs_in, row_in}
use Rattle.vnode_rec.specs.Vnodes.{empty_slot, AreFilled, HasRoom}
use Rattle.vnode_rec.specs.Sound.{IsSound}

-- the sum of f over the numbers below n
total : ℕ → (ℕ → ℕ) → ℕ
total zero f = 0
total (suc n) f = total n f + f n

total_zero : (n : ℕ) → total n (λ _. 0) ≡ 0
unfolding total
total_zero zero = refl
total_zero (suc n) = let e = total_zero n in omega (arith, e)

total_add : (n : ℕ) (f a b : ℕ → ℕ) → ((s : ℕ) → f s ≡ a s + b s) → total n f ≡ total n a + total n b
unfolding total
total_add zero f a b h = refl
total_add (suc n) f a b h = let e = total_add n f a b h in let k = h n in omega (arith, e, k)

total_none : (n x : ℕ) → n ≤ x → total n (λ s. cond (x == s) 1 0) ≡ 0
unfolding total
total_none zero x h = refl
total_none (suc n) x h =
    let e = total_none n x (omega (arith, h)) in
    rw (eq_no x n (λ q. omega (arith, q, h))) (omega (arith, e))

total_one : (n x : ℕ) → total n (λ s. cond (x == s) 1 0) ≤ 1
unfolding total
total_one zero x = omega arith
total_one (suc n) x = (elim (x == n) as (λ b. (x == n) ≡ b → total n (λ s. cond (x == s) 1 0) + cond b 1 0 ≤ 1) [
  | true ↦ λ t. (let q = yes_eq x n t in let e = total_none n x (omega (arith, q)) in omega (arith, e))
  | false ↦ λ t. (let e = total_one n x in omega (arith, e))
]) refl

total_each : (n : ℕ) (f : ℕ → ℕ) → ((s : ℕ) → s < n → 0 < f s) → n ≤ total n f
unfolding total
total_each zero f h = omega arith
total_each (suc n) f h = let e = total_each n f (λ s k. h s (omega (arith, k))) in let one = h n (omega arith) in omega (arith, e, one)

in_row : (n : ℕ) (r : List Vid) → total n (λ s. occurs_in s r) ≤ length r
in_row n [] = let e = total_zero n in omega (arith, e)
in_row n (v ∷ r) =
    let a = total_add n (λ s. occurs_in s (v ∷ r)) (λ s. cond (v.slot == s) 1 0) (λ s. occurs_in s r) (λ s. sum_by-cons (λ (w : Vid). cond (w.slot == s) 1 0) v r) in
    let b = total_one n v.slot in
    let c = in_row n r in
    omega (arith, a, b, c)

in_rows : (n : ℕ) (rows : List (List Vid)) → total n (λ s. occurs s rows) ≤ sum_by length rows
in_rows n [] = let e = total_zero n in omega (arith, e)
in_rows n (r ∷ rows) =
    let a = total_add n (λ s. occurs s (r ∷ rows)) (λ s. occurs_in s r) (λ s. occurs s rows) (λ s. sum_by-cons (occurs_in s) r rows) in
    let b = in_row n r in
    let c = in_rows n rows in
    let d : sum_by length (r ∷ rows) ≡ length r + sum_by length rows = sum_by-cons length r rows in
    omega (arith, a, b, c, d)

room_left : (rows : List (List Vid)) (i : ℕ) → All (λ r. length r ≤ 9) rows → i < length rows → length (row_in rows i) < 9 → sum_by length rows < 9 * length rows
room_left rows i short h room =
    let v : Vid = record { slot = 0; generation = 0 } in
    let grown : List Vid = row_in rows i ++ v ∷ [] in
    let lg : length grown ≡ length (row_in rows i) + 1 = length-append (row_in rows i) (v ∷ []) in
    let all : All (λ r. length r ≤ 9) (slice_set rows i grown) = All-set (λ r. length r ≤ 9) rows i grown (omega (arith, lg, room)) short in
    let s = sum_by-set length rows i grown [] h in
    let m = sum_by-le length 9 (slice_set rows i grown) all in
    let l : length (slice_set rows i grown) ≡ length rows = length-set rows i grown in
    omega (arith, s, m, l, lg)

module _ {X : Type 0} (slots : List (Slot X)) (held : Held) (free empty : Queue) (place : List ℕ) (linked chains : ℕ) (rack : RackOf X) (sound : IsSound slots held free empty place linked chains rack) where
  held_if_none : AreFilled slots → free.queue ≡ [] → (s : ℕ) → s < length slots → 0 < occurs s held.rows
  held_if_none full none s h =
      let x : Slot X = get_or slots s (empty_slot 0) in
      let e : slice_get slots s ≡ Some x = slice_get-get_or slots s (empty_slot 0) h in
      (elim (occurs s held.rows == 0) as (λ b. (occurs s held.rows == 0) ≡ b → 0 < occurs s held.rows) [
        | true ↦ λ t. (
            let a = (sound.listed s x e).is_free in
            let b : member s [] ≡ true = ap (member s) (sym none) ∙ (a ∙ rw (full s x e, t) refl) in
            absurd (let k : ⊥ = cc in k)
            )
        | false ↦ λ t. (let n = no_eq (occurs s held.rows) 0 t in omega (arith, n))
      ]) refl

  pub one_is_free : All (λ r. length r ≤ 9) held.rows → HasRoom held.rows → AreFilled slots → free.queue ≢ []
  one_is_free short room full none =
      let a = total_each (length slots) (λ s. occurs s held.rows) (held_if_none full none) in
      let b = in_rows (length slots) held.rows in
      let c = room_left held.rows room.0 short room.1 room.2 in
      let f = sound.sizes.few in
      omega (arith, a, b, c, f)
