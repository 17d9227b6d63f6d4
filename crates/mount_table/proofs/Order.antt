-- Seats in the order of their numbers.
use Rattle.std.proofs.Common.{ℕ, suc, zero, ◌≡◌, ◌≢◌, ◌<◌, ◌≤◌, ◌+◌, List, [], ◌∷◌, ◌++◌, map, length, take, drop, get_or, refl, ap, sym, ◌∙◌, arith, All}
use Rattle.std.specs.Prelude.{Some, None}
use Rattle.std.proofs.lemmas.List.{map-append, append-nil, set_split, set-get_or, length-take, get_or-take}
use Rattle.std.specs.Ordering.{nat_cmp}
use Rattle.std.specs.Cmp.{nat_cmp_total}
use Rattle.std.specs.FinMap.{insert, remove, entries, values, from_entries, find, put, entries-insert}
use Rattle.std.specs.FinMap.Entries.{by_order}
use Rattle.mount_table.specs.declared.seat.Seat.{Seat}
use Rattle.mount_table.specs.Seats.{numbered, mounts_in, AreRising, IsPlace}
use Rattle.mount_table.proofs.Entries.{key_yes, key_no, key_less, none_cons, inserted, taken_out, entries-empty}

-- a list around one of its elements
pub around : {X : Type 0} (xs : List X) (i : ℕ) (d : X) → i < length xs → take i xs ++ get_or xs i d ∷ drop (suc i) xs ≡ xs
around xs i d within = sym (set_split xs i (get_or xs i d) within) ∙ set-get_or xs i d

-- ---- rising numbers

pub rising_from : (low lower : ℕ) (seats : List Seat) (high : ℕ) → lower ≤ low → AreRising low seats high → AreRising lower seats high
rising_from low lower [] high h r = omega arith
rising_from low lower (seat ∷ rest) high h r = (omega (arith, r.0), r.1)

pub rising_bounds : (low : ℕ) (seats : List Seat) (high : ℕ) → AreRising low seats high → low ≤ high
rising_bounds low [] high r = r
rising_bounds low (seat ∷ rest) high r = let h = rising_bounds (seat.mount.number + 1) rest high r.1 in omega (arith, r.0)

pub rising_without : (low : ℕ) (xs : List Seat) (seat : Seat) (ys : List Seat) (high : ℕ) → AreRising low (xs ++ seat ∷ ys) high → AreRising low (xs ++ ys) high
rising_without low [] seat ys high r = rising_from (seat.mount.number + 1) low ys high (omega (arith, r.0)) r.1
rising_without low (x ∷ xs) seat ys high r = (r.0, rising_without (x.mount.number + 1) xs seat ys high r.1)

pub rising_with : (low : ℕ) (seats : List Seat) (seat : Seat) (high : ℕ) → AreRising low seats high → high ≤ seat.mount.number → AreRising low (seats ++ seat ∷ []) (seat.mount.number + 1)
rising_with low [] seat high r h = (omega arith, omega arith)
rising_with low (x ∷ xs) seat high r h = (r.0, rising_with (x.mount.number + 1) xs seat high r.1 h)

module _ {X : Type 0} (f : Seat → X) where
  -- a smaller number, or a greater one, is no seat's
  pub low_none : (low : ℕ) (seats : List Seat) (high n : ℕ) → AreRising low seats high → n < low → find nat_cmp n (numbered f seats) ≡ None
  low_none low [] high n r h = refl
  low_none low (seat ∷ rest) high n r h =
      none_cons (seat.mount.number, f seat) (numbered f rest) n (let k = r.0 in omega arith) (low_none (seat.mount.number + 1) rest high n r.1 (let k = r.0 in omega arith))

  pub high_none : (low : ℕ) (seats : List Seat) (high n : ℕ) → AreRising low seats high → high ≤ n → find nat_cmp n (numbered f seats) ≡ None
  high_none low [] high n r h = refl
  high_none low (seat ∷ rest) high n r h =
      let k = rising_bounds (seat.mount.number + 1) rest high r.1 in
      none_cons (seat.mount.number, f seat) (numbered f rest) n (omega arith) (high_none (seat.mount.number + 1) rest high n r.1 h)

  -- nor is a seat's number another one's
  pub before_none : (low : ℕ) (xs : List Seat) (seat : Seat) (ys : List Seat) (high : ℕ) → AreRising low (xs ++ seat ∷ ys) high → find nat_cmp seat.mount.number (numbered f xs) ≡ None
  before_none low [] seat ys high r = refl
  before_none low (x ∷ xs) seat ys high r =
      none_cons (x.mount.number, f x) (numbered f xs) seat.mount.number (let k = below_later (x.mount.number + 1) xs seat ys high r.1 in omega arith) (before_none (x.mount.number + 1) xs seat ys high r.1)
    where
      below_later : (low : ℕ) (xs : List Seat) (seat : Seat) (ys : List Seat) (high : ℕ) → AreRising low (xs ++ seat ∷ ys) high → low ≤ seat.mount.number
      below_later low [] seat ys high r = r.0
      below_later low (x ∷ xs) seat ys high r = let k = below_later (x.mount.number + 1) xs seat ys high r.1 in omega (arith, r.0)

  pub after_none : (low : ℕ) (xs : List Seat) (seat : Seat) (ys : List Seat) (high : ℕ) → AreRising low (xs ++ seat ∷ ys) high → find nat_cmp seat.mount.number (numbered f ys) ≡ None
  after_none low [] seat ys high r = low_none (seat.mount.number + 1) ys high seat.mount.number r.1 (omega arith)
  after_none low (x ∷ xs) seat ys high r = after_none (x.mount.number + 1) xs seat ys high r.1

  -- the map of the seats without one, and with one more at the end
  pub seat_out : (low : ℕ) (xs : List Seat) (seat : Seat) (ys : List Seat) (high : ℕ) → AreRising low (xs ++ seat ∷ ys) high
      → from_entries {R = nat_cmp} (numbered f (xs ++ ys)) ≡ remove (from_entries (numbered f (xs ++ seat ∷ ys))) seat.mount.number
  seat_out low xs seat ys high r =
      let key : Seat → ℕ × X = λ s. (s.mount.number, f s) in
      ap from_entries (map-append key xs ys)
      ∙ (taken_out (numbered f xs) (numbered f ys) seat.mount.number (f seat) (before_none low xs seat ys high r) (after_none low xs seat ys high r)
      ∙ ap (λ es. remove (from_entries es) seat.mount.number) (sym (map-append key xs (seat ∷ ys))))

  pub seat_in : (low : ℕ) (seats : List Seat) (seat : Seat) (high : ℕ) → AreRising low seats high → high ≤ seat.mount.number
      → from_entries {R = nat_cmp} (numbered f (seats ++ seat ∷ [])) ≡ insert (from_entries (numbered f seats)) seat.mount.number (f seat)
  seat_in low seats seat high r h =
      let key : Seat → ℕ × X = λ s. (s.mount.number, f s) in
      ap from_entries (map-append key seats (seat ∷ []))
      ∙ (inserted (numbered f seats) [] seat.mount.number (f seat) (high_none low seats high seat.mount.number r h)
      ∙ ap (λ es. insert (from_entries es) seat.mount.number (f seat)) (append-nil (numbered f seats)))

  -- the entries of the map are those of the seats, in their order
  put_first : (k : ℕ) (v : X) (seats : List Seat) (high : ℕ) → AreRising (k + 1) seats high → put nat_cmp k v (numbered f seats) ≡ (k, v) ∷ numbered f seats
  put_first k v [] high r = refl
  put_first k v (seat ∷ rest) high r =
      ap (λ o. by_order o ((k, v) ∷ (seat.mount.number, f seat) ∷ numbered f rest) ((seat.mount.number, v) ∷ numbered f rest) ((seat.mount.number, f seat) ∷ put nat_cmp k v (numbered f rest)))
      (key_less k seat.mount.number (let h = r.0 in omega arith))

  pub entries_of : (low : ℕ) (seats : List Seat) (high : ℕ) → AreRising low seats high → entries (from_entries {R = nat_cmp} (numbered f seats)) ≡ numbered f seats
  entries_of low [] high r = entries-empty X
  entries_of low (seat ∷ rest) high r =
      entries-insert nat_cmp_total (from_entries (numbered f rest)) seat.mount.number (f seat)
      ∙ (ap (put nat_cmp seat.mount.number (f seat)) (entries_of (seat.mount.number + 1) rest high r.1)
      ∙ put_first seat.mount.number (f seat) rest high r.1)

  -- what stands at a number
  pub found_at : (seats : List Seat) (n i : ℕ) (d : Seat) → IsPlace seats n i → find nat_cmp n (numbered f seats) ≡ Some (f (get_or seats i d))
  found_at seats n i d place = found_by seats i n place.within (place.is d) (λ k h.
      let short : k < length (take i seats) = (let w = place.within in omega (arith, length-take i seats)) in
      rw (get_or-take i seats k d h) at (place.first k d short))
    where
      found_by : (seats : List Seat) (i n : ℕ) → i < length seats → (get_or seats i d).mount.number ≡ n
          → ((k : ℕ) → k < i → (get_or seats k d).mount.number ≢ n) → find nat_cmp n (numbered f seats) ≡ Some (f (get_or seats i d))
      found_by [] i n within is before = absurd (omega arith)
      found_by (seat ∷ rest) zero n within is before = rw (key_yes n seat.mount.number (sym is)) refl
      found_by (seat ∷ rest) (suc i) n within is before =
          let first : seat.mount.number ≢ n = before 0 (omega arith) in
          rw (key_no n seat.mount.number (λ e. first (sym e))) (found_by rest i n (omega arith) is (λ k h. before (suc k) (omega arith)))

  pub none_at : (seats : List Seat) (n : ℕ) → All (λ seat. seat.mount.number ≢ n) seats → find nat_cmp n (numbered f seats) ≡ None
  none_at [] n all = refl
  none_at (seat ∷ rest) n all =
      let first : seat.mount.number ≢ n = all 0 seat (omega arith) in
      none_cons (seat.mount.number, f seat) (numbered f rest) n (λ e. first (sym e)) (none_at rest n (λ k d h. all (suc k) d (omega arith)))

-- the mounts in the order of their numbers
pub values_of : (low : ℕ) (seats : List Seat) (high : ℕ) → AreRising low seats high → values (mounts_in seats) ≡ map (λ seat. seat.mount) seats
values_of low seats high r = ap (map (λ e. e.1)) (entries_of (λ seat. seat.mount) low seats high r) ∙ seconds seats
  where
    seconds : (seats : List Seat) → map (λ e. e.1) (numbered (λ seat. seat.mount) seats) ≡ map (λ seat. seat.mount) seats
    seconds [] = refl
    seconds (seat ∷ rest) = ap (λ l. seat.mount ∷ l) (seconds rest)
