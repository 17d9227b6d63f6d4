-- What the calls of a table read of its seats, and the seats that each leaves.
use Rattle.std.proofs.Common.{ℕ, suc, Bool, true, false, ◌≡◌, ◌≢◌, ◌<◌, ◌≤◌, ◌+◌, cond, nat_lt, ◌==◌, List, [], ◌∷◌, ◌++◌, map, take, drop, get_or, refl, ap, sym, ◌∙◌, inl, inr, arith, All}
use Rattle.std.specs.Prelude.{Option, Some, None, is_some}
use Rattle.std.specs.Ordering.{nat_cmp}
use Rattle.std.specs.Cmp.{nat_cmp_total}
use Rattle.std.specs.FinMap.{get, remove, find, from_entries, get-from_entries}
use Rattle.std.proofs.lemmas.List.{map-append}
use Rattle.std.proofs.lemmas.Bool.{cases_eq}
use Rattle.std.proofs.lemmas.Bool.Decides.{nat_tests}
use Rattle.vfs_tree.specs.Mounts.{is_left}
use Rattle.mount_table.specs.declared.seat.Seat.{Seat}
use Rattle.mount_table.specs.Seats.{numbered, mounts_in, leavers, leaving_in, table_of, AreRising, Once, occurs, IsKept, IsPlace}
use Rattle.mount_table.proofs.Entries.{key_yes, key_no, find_among}
use Rattle.mount_table.proofs.Order.{around, before_none, found_at, none_at, seat_out}
use Rattle.mount_table.proofs.Leavers.{left_at, leaver_is, leaving_out, staying_out}
use Rattle.mount_table.proofs.Kept.{occurs_among, occurs_first, kept_without}

-- ---- what stands at a number

module _ {X : Type 0} (f : Seat → X) where
  pub get_none : (seats : List Seat) (n : ℕ) → All (λ seat. seat.mount.number ≢ n) seats → get (from_entries {R = nat_cmp} (numbered f seats)) n ≡ None
  get_none seats n none = get-from_entries nat_cmp_total (numbered f seats) n ∙ none_at f seats n none

  pub get_some : (seats : List Seat) (n i : ℕ) (d : Seat) → IsPlace seats n i → get (from_entries {R = nat_cmp} (numbered f seats)) n ≡ Some (f (get_or seats i d))
  get_some seats n i d place = get-from_entries nat_cmp_total (numbered f seats) n ∙ found_at f seats n i d place

-- ---- slots

one_below : (s most : ℕ) → 1 ≤ cond (nat_lt s most) 1 0 → s < most
one_below s most h = grind (arith, nat_tests)

most_one : (b : Bool) → cond b 1 0 ≤ 1
most_one true = omega arith
most_one false = omega arith

occurs_itself : (s : ℕ) → occurs s (s ∷ []) ≡ 1
occurs_itself s = let same : (s == s) ≡ true = grind arith in ap (λ b. 0 + cond b 1 0) same

no_slot : (seats : List Seat) (s n : ℕ) → occurs s (map (λ seat. seat.slot) seats) ≡ 0 → find nat_cmp n (numbered (λ seat. seat.slot) seats) ≡ Some s → ⊥
no_slot [] s n none found = let e : None ≡ Some s = found in cc
no_slot (seat ∷ rest) s n none found =
    let slot : Seat → ℕ = λ t. t.slot in
    let split = occurs_first s seat.slot (map slot rest) in
    elim (cases_eq n seat.mount.number) [
      | inl e ↦ (let first : Some seat.slot ≡ Some s = rw (key_yes n seat.mount.number e) at found in
          let same : seat.slot ≡ s = cc in
          let one : occurs s (seat.slot ∷ []) ≡ 1 = ap (λ t. occurs s (t ∷ [])) same ∙ occurs_itself s in
          absurd (omega arith))
      | inr m ↦ no_slot rest s n (omega arith) (rw (key_no n seat.mount.number m) at found)
    ]

module _ (seats : List Seat) (free : List ℕ) (next most room : ℕ) (kept : IsKept seats free next most room) (n i : ℕ) (d : Seat) (place : IsPlace seats n i) where
  abbrev xs : List Seat
  xs = take i seats

  abbrev ys : List Seat
  ys = drop (suc i) seats

  abbrev here : Seat
  here = get_or seats i d

  pub whole : xs ++ here ∷ ys ≡ seats
  whole = around seats i d place.within

  slots_split : occurs here.slot (map (λ seat. seat.slot) seats) ≡ occurs here.slot (map (λ seat. seat.slot) (xs ++ ys)) + occurs here.slot (here.slot ∷ [])
  slots_split =
      let slot : Seat → ℕ = λ s. s.slot in
      ap (λ l. occurs here.slot (map slot l)) (sym whole)
      ∙ (ap (occurs here.slot) (map-append slot xs (here ∷ ys))
      ∙ (occurs_among here.slot here.slot (map slot xs) (map slot ys)
      ∙ ap (λ l. occurs here.slot l + occurs here.slot (here.slot ∷ [])) (sym (map-append slot xs ys))))

  pub slot_below : here.slot < most
  slot_below =
      let a = slots_split in
      let b = occurs_itself here.slot in
      let c = kept.slotted.once here.slot in
      one_below here.slot most (omega arith)

  no_other : occurs here.slot (map (λ seat. seat.slot) (xs ++ ys)) ≡ 0
  no_other =
      let a = slots_split in
      let b = occurs_itself here.slot in
      let c = kept.slotted.once here.slot in
      let e = most_one (nat_lt here.slot most) in
      omega arith

  pub slot_own : (other : ℕ) → get (from_entries {R = nat_cmp} (numbered (λ seat. seat.slot) seats)) other ≡ Some here.slot → other ≡ n
  slot_own other is =
      let slot : Seat → ℕ = λ s. s.slot in
      let key : Seat → ℕ × ℕ = λ s. (s.mount.number, s.slot) in
      let number : here.mount.number ≡ n = place.is d in
      elim (cases_eq other n) [
        | inl e ↦ e
        | inr m ↦ (
            let rising : AreRising 0 (xs ++ here ∷ ys) next = rw whole kept.rising in
            let before = before_none slot 0 xs here ys next rising in
            let found : find nat_cmp other (numbered slot seats) ≡ Some here.slot = sym (get-from_entries nat_cmp_total (numbered slot seats) other) ∙ is in
            let at_split : find nat_cmp other (numbered slot xs ++ (here.mount.number, here.slot) ∷ numbered slot ys) ≡ Some here.slot =
            ap (find nat_cmp other) (sym (map-append key xs (here ∷ ys))) ∙ (ap (λ l. find nat_cmp other (numbered slot l)) whole ∙ found) in
            let among = find_among (numbered slot xs) (numbered slot ys) here.mount.number here.slot other before in
            let not_here : other ≢ here.mount.number = λ e. m (e ∙ number) in
            let rest : find nat_cmp other (numbered slot xs ++ numbered slot ys) ≡ Some here.slot = sym (rw (key_no other here.mount.number not_here) at among) ∙ at_split in
            absurd (no_slot (xs ++ ys) here.slot other no_other (ap (find nat_cmp other) (map-append key xs ys) ∙ rest)))
      ]

  -- without the mount
  pub out_map : {X : Type 0} (f : Seat → X) → from_entries {R = nat_cmp} (numbered f (xs ++ ys)) ≡ remove (from_entries (numbered f seats)) n
  out_map f =
      let rising : AreRising 0 (xs ++ here ∷ ys) next = rw whole kept.rising in
      let number : here.mount.number ≡ n = place.is d in
      seat_out f 0 xs here ys next rising ∙ (ap (λ l. remove (from_entries (numbered f l)) here.mount.number) whole ∙ ap (remove (from_entries (numbered f seats))) number)

  pub out_left : (caller : ℕ) → get (leaving_in seats) caller ≡ Some n → leaving_in (xs ++ ys) ≡ remove (leaving_in seats) caller
  out_left caller is =
      let rising : AreRising 0 (xs ++ here ∷ ys) next = rw whole kept.rising in
      let once : Once (leavers (xs ++ here ∷ ys)) = rw whole kept.callers in
      let number : here.mount.number ≡ n = place.is d in
      let found : find nat_cmp caller (leavers (xs ++ here ∷ ys)) ≡ Some here.mount.number =
      ap (λ l. find nat_cmp caller (leavers l)) whole ∙ (sym (get-from_entries nat_cmp_total (leavers seats) caller) ∙ (is ∙ ap Some (sym number))) in
      leaving_out xs here ys caller once (leaver_is 0 xs here ys next caller rising found) ∙ ap (λ l. remove (leaving_in l) caller) whole

  pub out_staying : is_left (leaving_in seats) n ≡ false → leaving_in (xs ++ ys) ≡ leaving_in seats
  out_staying stays =
      let rising : AreRising 0 (xs ++ here ∷ ys) next = rw whole kept.rising in
      let once : Once (leavers (xs ++ here ∷ ys)) = rw whole kept.callers in
      let number : here.mount.number ≡ n = place.is d in
      let told = left_at 0 xs here ys next rising once in
      let none : here.left_by ≡ None = none_of here.left_by (sym told ∙ (ap (λ l. is_left (leaving_in l) here.mount.number) whole ∙ (ap (is_left (leaving_in seats)) number ∙ stays))) in
      staying_out xs here ys none ∙ ap leaving_in whole
    where
      none_of : (o : Option ℕ) → is_some o ≡ false → o ≡ None
      none_of None h = refl
      none_of (Some c) h = cc

  pub kept_out : IsKept (xs ++ ys) (free ++ here.slot ∷ []) next most room
  kept_out = kept_without xs here ys free next most room (rw whole kept)

  pub table_out : table_of (xs ++ ys) next most ≡ record (table_of seats next most) { mounts = remove (mounts_in seats) n; slots = remove (from_entries (numbered (λ seat. seat.slot) seats)) n; leaving = leaving_in (xs ++ ys) }
  table_out =
      ap (λ m. record { mounts = m; leaving = leaving_in (xs ++ ys); next_mount = next; slots = from_entries (numbered (λ seat. seat.slot) (xs ++ ys)); most = most }) (out_map (λ seat. seat.mount))
      ∙ ap (λ s. record { mounts = remove (mounts_in seats) n; leaving = leaving_in (xs ++ ys); next_mount = next; slots = s; most = most }) (out_map (λ seat. seat.slot))
