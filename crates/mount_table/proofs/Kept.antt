-- What a table keeps, with a mount more and a mount fewer.
use Rattle.std.proofs.Common.{ℕ, ◌≡◌, ◌<◌, ◌≤◌, ◌+◌, ◌-◌, ◌==◌, cond, List, [], ◌∷◌, ◌++◌, map, length, take, get_or, refl, ap, sym, ◌∙◌, inl, inr, arith}
use Rattle.std.specs.Prelude.{Option, Some, None, IsSome}
use Rattle.std.specs.List.{All}
use Rattle.std.specs.Cmp.{nat_cmp_total}
use Rattle.std.specs.FinMap.{get, insert, len, from_entries, get-from_entries, len-entries}
use Rattle.std.proofs.lemmas.List.{map-append, append-nil, length-append, length-map, take_more, take_all}
use Rattle.std.proofs.lemmas.List.Sums.{sum_by-append}
use Rattle.std.proofs.lemmas.Bool.{cases_lt, false≢true}
use Rattle.vfs_tree.specs.Place.{Seen}
use Rattle.vfs_tree.specs.declared.mount.Mount.{Mount}
use Rattle.vfs_tree.specs.declared.mount.MountKind.{MountKind}
use Rattle.vfs_tree.specs.Mounts.{layers}
use Rattle.mount_table.specs.Table.{HasLayers, new_mount, with_mount}
use Rattle.mount_table.specs.declared.seat.Seat.{Seat}
use Rattle.mount_table.specs.Seats.{numbered, mounts_in, leavers, leaving_in, table_of, AreRising, AreLowerIn, layers_of, occurs, AreSlotted, IsKept}
use Rattle.mount_table.proofs.Order.{seat_in, high_none, entries_of, rising_with, rising_without}
use Rattle.mount_table.proofs.Leavers.{leavers_staying, once_out}

-- ---- counts

-- the map of seats has as many entries as there are seats
pub len_of : (seats : List Seat) (next : ℕ) → AreRising 0 seats next → len (mounts_in seats) ≡ length seats
len_of seats next r =
    let key : Seat → ℕ × Mount = λ s. (s.mount.number, s.mount) in
    len-entries (mounts_in seats) ∙ (ap length (entries_of (λ seat. seat.mount) 0 seats next r) ∙ length-map seats key)

-- a number that is there is below the next
pub there_below : (seats : List Seat) (next n : ℕ) → AreRising 0 seats next → IsSome (get (mounts_in seats) n) → n < next
there_below seats next n r some = elim (cases_lt n next) [
  | inl h ↦ h
  | inr h ↦ absurd (no_some (get (mounts_in seats) n) (get-from_entries nat_cmp_total (numbered (λ seat. seat.mount) seats) n ∙ high_none (λ seat. seat.mount) 0 seats next n r h) some)
]
  where
    no_some : {X : Type 0} (o : Option X) → o ≡ None → IsSome o → ⊥
    no_some None e h = false≢true h
    no_some (Some x) e h = let f : Some x ≡ None = e in cc

pub layers_below : (seats : List Seat) (next : ℕ) (kind : MountKind) → AreRising 0 seats next → HasLayers kind (mounts_in seats) → All (λ layer. layer < next) (layers kind)
layers_below seats next kind r has = λ k d h. there_below seats next (get_or (layers kind) k d) r (has k d h)

-- ---- lower layers

lower_with : (es : List (ℕ × List ℕ)) (e : ℕ × List ℕ) → AreLowerIn es → All (λ layer. layer < e.0) e.1 → AreLowerIn (es ++ e ∷ [])
lower_with [] e h all = (all, tt)
lower_with (x ∷ es) e h all = (h.0, lower_with es e h.1 all)

lower_without : (xs ys : List (ℕ × List ℕ)) (e : ℕ × List ℕ) → AreLowerIn (xs ++ e ∷ ys) → AreLowerIn (xs ++ ys)
lower_without [] ys e h = h.1
lower_without (x ∷ xs) ys e h = (h.0, lower_without xs ys e h.1)

-- ---- slots

pub occurs_with : (slot s : ℕ) (xs : List ℕ) → occurs slot (xs ++ s ∷ []) ≡ occurs slot xs + occurs slot (s ∷ [])
occurs_with slot s xs = sum_by-append (λ x. cond (x == slot) 1 0) xs (s ∷ [])

pub occurs_first : (slot s : ℕ) (ys : List ℕ) → occurs slot (s ∷ ys) ≡ occurs slot (s ∷ []) + occurs slot ys
occurs_first slot s ys = sum_by-append (λ x. cond (x == slot) 1 0) (s ∷ []) ys

pub occurs_among : (slot s : ℕ) (xs ys : List ℕ) → occurs slot (xs ++ s ∷ ys) ≡ occurs slot (xs ++ ys) + occurs slot (s ∷ [])
occurs_among slot s xs ys =
    let one : occurs slot (xs ++ s ∷ ys) ≡ occurs slot xs + occurs slot (s ∷ ys) = sum_by-append (λ x. cond (x == slot) 1 0) xs (s ∷ ys) in
    let two : occurs slot (xs ++ ys) ≡ occurs slot xs + occurs slot ys = sum_by-append (λ x. cond (x == slot) 1 0) xs ys in
    one ∙ (ap (λ n. occurs slot xs + n) (occurs_first slot s ys) ∙ (regroup (occurs slot xs) (occurs slot (s ∷ [])) (occurs slot ys) ∙ ap (λ n. n + occurs slot (s ∷ [])) (sym two)))
  where
    regroup : (a b c : ℕ) → a + (b + c) ≡ (a + c) + b
    regroup a b c = omega arith

slotted_with : (slots free rest : List ℕ) (slot most room : ℕ) → free ≡ rest ++ slot ∷ [] → AreSlotted slots free most room → AreSlotted (slots ++ slot ∷ []) rest most room
slotted_with slots free rest slot most room is kept = record {
  once = λ s. let a = occurs_with s slot slots in let b = ap (occurs s) is ∙ occurs_with s slot rest in let c = kept.once s in omega arith;
  all = let a = length-append slots (slot ∷ []) in let b = ap length is ∙ length-append rest (slot ∷ []) in let c = kept.all in omega arith;
  room = kept.room;
}

slotted_without : (xs ys free : List ℕ) (slot most room : ℕ) → AreSlotted (xs ++ slot ∷ ys) free most room → AreSlotted (xs ++ ys) (free ++ slot ∷ []) most room
slotted_without xs ys free slot most room kept = record {
  once = λ s. let a = occurs_among s slot xs ys in let b = occurs_with s slot free in let c = kept.once s in omega arith;
  all = let a = length-append xs (slot ∷ ys) in let b = length-append xs ys in let d = length-append free (slot ∷ []) in let c = kept.all in omega arith;
  room = kept.room;
}

-- ---- the whole

pub kept_with : (seats : List Seat) (free rest : List ℕ) (next most room : ℕ) (seat : Seat) → IsKept seats free next most room
    → free ≡ rest ++ seat.slot ∷ [] → seat.mount.number ≡ next → seat.left_by ≡ None → All (λ layer. layer < seat.mount.number) (layers seat.mount.kind)
    → IsKept (seats ++ seat ∷ []) rest (next + 1) most room
kept_with seats free rest next most room seat kept is number stays lower =
    let key : Seat → ℕ × List ℕ = λ s. (s.mount.number, layers s.mount.kind) in
    let slot : Seat → ℕ = λ s. s.slot in
    let above : next ≤ seat.mount.number = omega arith in
    let same : leavers (seats ++ seat ∷ []) ≡ leavers seats = leavers_staying seats seat [] stays ∙ append-nil (leavers seats) in
    record {
      rising = rw (ap (λ n. n + 1) number) at (rising_with 0 seats seat next kept.rising above);
      lower = rw (map-append key seats (seat ∷ [])) (lower_with (layers_of seats) (key seat) kept.lower lower);
      callers = rw same kept.callers;
      slotted = rw (map-append slot seats (seat ∷ [])) (slotted_with (map slot seats) free rest seat.slot most room is kept.slotted);
    }

pub kept_without : (xs : List Seat) (seat : Seat) (ys : List Seat) (free : List ℕ) (next most room : ℕ) → IsKept (xs ++ seat ∷ ys) free next most room
    → IsKept (xs ++ ys) (free ++ seat.slot ∷ []) next most room
kept_without xs seat ys free next most room kept =
    let key : Seat → ℕ × List ℕ = λ s. (s.mount.number, layers s.mount.kind) in
    let slot : Seat → ℕ = λ s. s.slot in
    record {
      rising = rising_without 0 xs seat ys next kept.rising;
      lower = rw (map-append key xs ys) (lower_without (map key xs) (map key ys) (key seat) (rw (map-append key xs (seat ∷ ys)) at kept.lower));
      callers = once_out xs seat ys kept.callers;
      slotted = rw (map-append slot xs ys) (slotted_without (map slot xs) (map slot ys) free seat.slot most room (rw (map-append slot xs (seat ∷ ys)) at kept.slotted));
    }

-- the last of a list
pub last_split : (xs : List ℕ) (n x : ℕ) → length xs ≡ n → 0 < n → x ≡ get_or xs (n - 1) x → xs ≡ take (n - 1) xs ++ x ∷ []
last_split xs n x len some is =
    let within : n - 1 < length xs = omega arith in
    let all : length xs ≤ n - 1 + 1 = omega arith in
    sym (take_all (n - 1 + 1) xs all) ∙ (take_more xs (n - 1) x within ∙ ap (λ y. take (n - 1) xs ++ y ∷ []) (sym is))

-- the table with one mount more
pub table_with : (seats : List Seat) (next most : ℕ) (kind : MountKind) (on : Seen) (slot : ℕ) → AreRising 0 seats next
    → table_of (seats ++ record { mount = new_mount next kind on; slot = slot; left_by = None } ∷ []) (next + 1) most ≡ with_mount kind on slot (table_of seats next most)
table_with seats next most kind on slot rising =
    let seat : Seat = record { mount = new_mount next kind on; slot = slot; left_by = None } in
    let last : next ≤ next = omega arith in
    let mounts = seat_in (λ s. s.mount) 0 seats seat next rising last in
    let slots = seat_in (λ s. s.slot) 0 seats seat next rising last in
    let same : leaving_in (seats ++ seat ∷ []) ≡ leaving_in seats = ap from_entries (leavers_staying seats seat [] refl ∙ append-nil (leavers seats)) in
    ap (λ m. record { mounts = m; leaving = leaving_in (seats ++ seat ∷ []); next_mount = next + 1; slots = from_entries (numbered (λ s. s.slot) (seats ++ seat ∷ [])); most = most }) mounts
    ∙ (ap (λ l. record { mounts = insert (mounts_in seats) next (new_mount next kind on); leaving = l; next_mount = next + 1; slots = from_entries (numbered (λ s. s.slot) (seats ++ seat ∷ [])); most = most }) same
    ∙ ap (λ s. record { mounts = insert (mounts_in seats) next (new_mount next kind on); leaving = leaving_in seats; next_mount = next + 1; slots = s; most = most }) slots)
