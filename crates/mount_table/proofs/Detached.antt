-- Seats after a forced unmount has begun.
use Rattle.std.proofs.Common.{ℕ, suc, Bool, true, false, ◌≡◌, ◌<◌, ◌+◌, cond, List, [], ◌∷◌, ◌++◌, map, length, take, drop, get_or, set, refl, ap, sym, ◌∙◌}
use Rattle.std.specs.Prelude.{Option, Some, None, is_some, option_map}
use Rattle.std.specs.Ordering.{nat_cmp, eq_by_cmp}
use Rattle.std.specs.Cmp.{nat_cmp_total}
use Rattle.std.specs.FinMap.{get, insert, find, from_entries, get-from_entries}
use Rattle.std.proofs.lemmas.List.{set_split, length-map, get_or-map}
use Rattle.std.proofs.Math.Seq.{map-set_same}
use Rattle.vfs_tree.specs.declared.mount.Mount.{Mount}
use Rattle.vfs_tree.specs.Start.{root_mount}
use Rattle.vfs_tree.specs.Mounts.{Mounts, layers, is_left, cut_with}
use Rattle.mount_table.specs.declared.seat.Seat.{Seat}
use Rattle.mount_table.specs.Seats.{numbered, mounts_in, leavers, leaver_of, leaving_in, AreRising, IsKept, IsLeft, table_of, cut_seat}
use Rattle.mount_table.proofs.Order.{around}
use Rattle.mount_table.proofs.Leavers.{left_at, once_left, leaving_left}

-- ---- cut seats

module _ (mounts : Mounts) (m : ℕ) where
  rising_cut : (low : ℕ) (seats : List Seat) (high : ℕ) → AreRising low seats high → AreRising low (map (cut_seat mounts m) seats) high
  rising_cut low [] high r = r
  rising_cut low (seat ∷ rest) high r = (r.0, rising_cut (seat.mount.number + 1) rest high r.1)

  leavers_cut : (seats : List Seat) → leavers (map (cut_seat mounts m) seats) ≡ leavers seats
  leavers_cut [] = refl
  leavers_cut (seat ∷ rest) = ap (leaver_of seat.mount.number seat.left_by) (leavers_cut rest)

  -- what doesn't look at the cut
  kept_cut : {X : Type 0} (key : Seat → X) → ((seat : Seat) → key (cut_seat mounts m seat) ≡ key seat) → (seats : List Seat) → map key (map (cut_seat mounts m) seats) ≡ map key seats
  kept_cut key same [] = refl
  kept_cut key same (seat ∷ rest) = ap (λ x. x ∷ map key (map (cut_seat mounts m) rest)) (same seat) ∙ ap (λ l. key seat ∷ l) (kept_cut key same rest)

  chosen : (b : Bool) (t : Mount) (o : Option Mount) → cond b (Some (cut_with mounts m t)) (option_map (cut_with mounts m) o) ≡ option_map (cut_with mounts m) (cond b (Some t) o)
  chosen true t o = refl
  chosen false t o = refl

  find_cut : (seats : List Seat) (n : ℕ) → find nat_cmp n (numbered (λ seat. seat.mount) (map (cut_seat mounts m) seats)) ≡ option_map (cut_with mounts m) (find nat_cmp n (numbered (λ seat. seat.mount) seats))
  find_cut [] n = refl
  find_cut (seat ∷ rest) n =
      ap (cond (eq_by_cmp nat_cmp n seat.mount.number) (Some (cut_with mounts m seat.mount))) (find_cut rest n)
      ∙ chosen (eq_by_cmp nat_cmp n seat.mount.number) seat.mount (find nat_cmp n (numbered (λ seat. seat.mount) rest))

rising_other : (low : ℕ) (xs : List Seat) (old new : Seat) (ys : List Seat) (high : ℕ) → new.mount.number ≡ old.mount.number → AreRising low (xs ++ old ∷ ys) high → AreRising low (xs ++ new ∷ ys) high
rising_other low [] old new ys high same r = (rw same r.0, rw same r.1)
rising_other low (x ∷ xs) old new ys high same r = (r.0, rising_other (x.mount.number + 1) xs old new ys high same r.1)

none_of : (o : Option ℕ) → is_some o ≡ false → o ≡ None
none_of None h = refl
none_of (Some c) h = cc

-- ---- the seats after it

module _ (seats : List Seat) (free : List ℕ) (next most room : ℕ) (kept : IsKept seats free next most room) (m caller at : ℕ) (d : Seat)
    (within : at < length (map (cut_seat (mounts_in seats) m) seats)) (number : (get_or (map (cut_seat (mounts_in seats) m) seats) at d).mount.number ≡ m)
    (idle : get (leaving_in seats) caller ≡ None) (staying : is_left (leaving_in seats) m ≡ false) where
  abbrev now : List Seat
  now = map (cut_seat (mounts_in seats) m) seats

  abbrev old : Seat
  old = get_or now at d

  abbrev new : Seat
  new = record old { left_by = Some caller }

  is_now : take at now ++ old ∷ drop (suc at) now ≡ now
  is_now = around now at d within

  is_new : set now at new ≡ take at now ++ new ∷ drop (suc at) now
  is_new = set_split now at new within

  rising_now : AreRising 0 (take at now ++ old ∷ drop (suc at) now) next
  rising_now = rw is_now (rising_cut (mounts_in seats) m 0 seats next kept.rising)

  leavers_now : leavers (take at now ++ old ∷ drop (suc at) now) ≡ leavers seats
  leavers_now = ap leavers is_now ∙ leavers_cut (mounts_in seats) m seats

  stays : old.left_by ≡ None
  stays =
      let once = rw (sym leavers_now) at kept.callers in
      let told = left_at 0 (take at now) old (drop (suc at) now) next rising_now once in
      none_of old.left_by (sym told ∙ (ap (λ es. is_left (from_entries es) old.mount.number) leavers_now ∙ (ap (is_left (leaving_in seats)) number ∙ staying)))

  no_leaver : find nat_cmp caller (leavers (take at now ++ old ∷ drop (suc at) now)) ≡ None
  no_leaver = ap (find nat_cmp caller) leavers_now ∙ (sym (get-from_entries nat_cmp_total (leavers seats) caller) ∙ idle)

  same_keys : {X : Type 0} (key : Seat → X) → ((seat : Seat) → key (cut_seat (mounts_in seats) m seat) ≡ key seat) → key new ≡ key old → map key (set now at new) ≡ map key seats
  same_keys key same put = map-set_same key now at new d put ∙ kept_cut (mounts_in seats) m key same seats

  pub detached_kept : IsKept (set now at new) free next most room
  detached_kept = record {
    rising = rw is_new (rising_other 0 (take at now) old new (drop (suc at) now) next refl rising_now);
    lower = rw (same_keys {X = ℕ × List ℕ} (λ s. (s.mount.number, layers s.mount.kind)) (λ s. refl) refl) kept.lower;
    callers = rw is_new (once_left (take at now) old new (drop (suc at) now) caller (rw (sym leavers_now) at kept.callers) no_leaver stays refl);
    slotted = rw (same_keys (λ s. s.slot) (λ s. refl) refl) kept.slotted;
  }

  pub detached_leaving : leaving_in (set now at new) ≡ insert (leaving_in seats) caller m
  detached_leaving =
      ap leaving_in is_new
      ∙ (leaving_left (take at now) old new (drop (suc at) now) caller no_leaver stays refl
      ∙ (ap (λ es. insert (from_entries es) caller old.mount.number) leavers_now ∙ ap (insert (leaving_in seats) caller) number))

  pub detached_slots : from_entries {R = nat_cmp} (numbered (λ seat. seat.slot) (set now at new)) ≡ from_entries (numbered (λ seat. seat.slot) seats)
  detached_slots = ap from_entries (same_keys {X = ℕ × ℕ} (λ s. (s.mount.number, s.slot)) (λ s. refl) refl)

  pub detached_mounts : (n : ℕ) → get (mounts_in (set now at new)) n ≡ option_map (cut_with (mounts_in seats) m) (get (mounts_in seats) n)
  detached_mounts n =
      let key : Seat → ℕ × Mount = λ s. (s.mount.number, s.mount) in
      ap (λ es. get (from_entries {R = nat_cmp} es) n) (map-set_same key now at new d refl)
      ∙ (get-from_entries nat_cmp_total (numbered (λ seat. seat.mount) now) n
      ∙ (find_cut (mounts_in seats) m seats n
      ∙ ap (option_map (cut_with (mounts_in seats) m)) (sym (get-from_entries nat_cmp_total (numbered (λ seat. seat.mount) seats) n))))

-- the same, as the seats are left
module _ (seats : List Seat) (free : List ℕ) (next most room : ℕ) (kept : IsKept seats free next most room) (m caller : ℕ) (left : List Seat)
    (is : IsLeft seats m caller left) (idle : get (leaving_in seats) caller ≡ None) (staying : is_left (leaving_in seats) m ≡ false) where
  some : Seat
  some = record { mount = root_mount; slot = 0; left_by = None }

  within_cut : is.place < length (map (cut_seat (mounts_in seats) m) seats)
  within_cut = rw (length-map seats (cut_seat (mounts_in seats) m)) is.is.within

  number_cut : (d : Seat) → (get_or (map (cut_seat (mounts_in seats) m) seats) is.place d).mount.number ≡ m
  number_cut d = ap (λ s. s.mount.number) (get_or-map (cut_seat (mounts_in seats) m) seats is.place d d is.is.within) ∙ is.is.is d

  pub left_kept : IsKept left free next most room
  left_kept = rw (is.cut some) (detached_kept seats free next most room kept m caller is.place some within_cut (number_cut some) idle staying)

  pub left_mounts : (n : ℕ) → get (mounts_in left) n ≡ option_map (cut_with (mounts_in seats) m) (get (mounts_in seats) n)
  left_mounts n = ap (λ l. get (mounts_in l) n) (is.cut some) ∙ detached_mounts seats free next most room kept m caller is.place some within_cut (number_cut some) idle staying n

  pub left_table : table_of left next most ≡ record (table_of seats next most) { mounts = mounts_in left; leaving = insert (leaving_in seats) caller m }
  left_table =
      let leaving : leaving_in left ≡ insert (leaving_in seats) caller m = ap leaving_in (is.cut some) ∙ detached_leaving seats free next most room kept m caller is.place some within_cut (number_cut some) idle staying in
      let slots : from_entries {R = nat_cmp} (numbered (λ seat. seat.slot) left) ≡ from_entries (numbered (λ seat. seat.slot) seats) =
      ap (λ l. from_entries (numbered (λ seat. seat.slot) l)) (is.cut some) ∙ detached_slots seats free next most room kept m caller is.place some within_cut (number_cut some) idle staying in
      ap (λ l. record { mounts = mounts_in left; leaving = l; next_mount = next; slots = from_entries (numbered (λ seat. seat.slot) left); most = most }) leaving
      ∙ ap (λ s. record { mounts = mounts_in left; leaving = insert (leaving_in seats) caller m; next_mount = next; slots = s; most = most }) slots
