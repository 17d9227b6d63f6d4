-- Which callers are leaving the mounts of seats.
use Rattle.std.proofs.Common.{ℕ, Bool, true, false, ◌≡◌, ◌≢◌, ◌<◌, ◌≤◌, ◌+◌, ◌==◌, ◌||◌, List, [], ◌∷◌, ◌++◌, refl, ap, sym, ◌∙◌, inl, inr, ◌⊎◌, arith}
use Rattle.std.specs.Prelude.{Option, Some, None, is_some}
use Rattle.std.specs.List.{list_any}
use Rattle.std.specs.Ordering.{nat_cmp}
use Rattle.std.specs.FinMap.{insert, remove, from_entries, find}
use Rattle.std.proofs.lemmas.Bool.{cases_eq}
use Rattle.vfs_tree.specs.Mounts.{is_left}
use Rattle.mount_table.specs.declared.seat.Seat.{Seat}
use Rattle.mount_table.specs.Seats.{leaver_of, leavers, leaving_in, AreRising, Once}
use Rattle.mount_table.proofs.Entries.{key_yes, key_no, head_none, inserted, taken_out, once_without, once_with, any_value}

-- ---- one seat among others

leaver_of-append : (n : ℕ) (o : Option ℕ) (xs ys : List (ℕ × ℕ)) → leaver_of n o xs ++ ys ≡ leaver_of n o (xs ++ ys)
leaver_of-append n (Some c) xs ys = refl
leaver_of-append n None xs ys = refl

pub leavers-append : (xs ys : List Seat) → leavers (xs ++ ys) ≡ leavers xs ++ leavers ys
leavers-append [] ys = refl
leavers-append (x ∷ xs) ys = ap (leaver_of x.mount.number x.left_by) (leavers-append xs ys) ∙ sym (leaver_of-append x.mount.number x.left_by (leavers xs) (leavers ys))

-- nobody is leaving the seat's mount
pub leavers_staying : (xs : List Seat) (seat : Seat) (ys : List Seat) → seat.left_by ≡ None → leavers (xs ++ seat ∷ ys) ≡ leavers xs ++ leavers ys
leavers_staying xs seat ys stays = leavers-append xs (seat ∷ ys) ∙ ap (λ o. leavers xs ++ leaver_of seat.mount.number o (leavers ys)) stays

-- a caller is
pub leavers_leaving : (xs : List Seat) (seat : Seat) (ys : List Seat) (c : ℕ) → seat.left_by ≡ Some c → leavers (xs ++ seat ∷ ys) ≡ leavers xs ++ (c, seat.mount.number) ∷ leavers ys
leavers_leaving xs seat ys c leaves = leavers-append xs (seat ∷ ys) ∙ ap (λ o. leavers xs ++ leaver_of seat.mount.number o (leavers ys)) leaves

-- ---- a seat goes

pub once_out : (xs : List Seat) (seat : Seat) (ys : List Seat) → Once (leavers (xs ++ seat ∷ ys)) → Once (leavers (xs ++ ys))
once_out xs seat ys once = rw (leavers-append xs ys) (by_leaver seat.left_by refl)
  where
    by_leaver : (o : Option ℕ) → seat.left_by ≡ o → Once (leavers xs ++ leavers ys)
    by_leaver None e = rw (leavers_staying xs seat ys e) at once
    by_leaver (Some c) e = (once_without (leavers xs) (leavers ys) (c, seat.mount.number) (rw (leavers_leaving xs seat ys c e) at once)).2

pub leaving_out : (xs : List Seat) (seat : Seat) (ys : List Seat) (c : ℕ) → Once (leavers (xs ++ seat ∷ ys)) → seat.left_by ≡ Some c
    → leaving_in (xs ++ ys) ≡ remove (leaving_in (xs ++ seat ∷ ys)) c
leaving_out xs seat ys c once e =
    let parts = once_without (leavers xs) (leavers ys) (c, seat.mount.number) (rw (leavers_leaving xs seat ys c e) at once) in
    ap from_entries (leavers-append xs ys)
    ∙ (taken_out (leavers xs) (leavers ys) c seat.mount.number parts.0 parts.1
    ∙ ap (λ es. remove (from_entries es) c) (sym (leavers_leaving xs seat ys c e)))

pub staying_out : (xs : List Seat) (seat : Seat) (ys : List Seat) → seat.left_by ≡ None → leaving_in (xs ++ ys) ≡ leaving_in (xs ++ seat ∷ ys)
staying_out xs seat ys e = ap from_entries (leavers-append xs ys ∙ sym (leavers_staying xs seat ys e))

-- ---- a caller begins to leave

pub once_left : (xs : List Seat) (old new : Seat) (ys : List Seat) (c : ℕ) → Once (leavers (xs ++ old ∷ ys)) → find nat_cmp c (leavers (xs ++ old ∷ ys)) ≡ None
    → old.left_by ≡ None → new.left_by ≡ Some c → Once (leavers (xs ++ new ∷ ys))
once_left xs old new ys c once none was is =
    let same = leavers_staying xs old ys was in
    let idle : find nat_cmp c (leavers xs ++ leavers ys) ≡ None = ap (find nat_cmp c) (sym same) ∙ none in
    let apart : Once (leavers xs ++ leavers ys) = rw same at once in
    rw (leavers_leaving xs new ys c is) (once_with (leavers xs) (leavers ys) c new.mount.number apart idle)

pub leaving_left : (xs : List Seat) (old new : Seat) (ys : List Seat) (c : ℕ) → find nat_cmp c (leavers (xs ++ old ∷ ys)) ≡ None
    → old.left_by ≡ None → new.left_by ≡ Some c → leaving_in (xs ++ new ∷ ys) ≡ insert (leaving_in (xs ++ old ∷ ys)) c new.mount.number
leaving_left xs old new ys c none was is =
    let same = leavers_staying xs old ys was in
    let idle : find nat_cmp c (leavers xs ++ leavers ys) ≡ None = ap (find nat_cmp c) (sym same) ∙ none in
    ap from_entries (leavers_leaving xs new ys c is)
    ∙ (inserted (leavers xs) (leavers ys) c new.mount.number (front_none (leavers xs) (leavers ys) c idle)
    ∙ ap (λ es. insert (from_entries es) c new.mount.number) (sym same))
  where
    front_none : (xs ys : List (ℕ × ℕ)) (k : ℕ) → find nat_cmp k (xs ++ ys) ≡ None → find nat_cmp k xs ≡ None
    front_none [] ys k h = refl
    front_none (x ∷ xs) ys k h = let t = head_none x (xs ++ ys) k h in rw (key_no k x.0 t.0) (front_none xs ys k t.1)

-- ---- whether somebody is leaving a mount

any_skip : (n m : ℕ) (o : Option ℕ) (es : List (ℕ × ℕ)) (b : Bool) → m ≢ n → list_any (λ e. e.1 == n) es ≡ b → list_any (λ e. e.1 == n) (leaver_of m o es) ≡ b
any_skip n m None es b other h = h
any_skip n m (Some c) es b other h = let no : (m == n) ≡ false = grind arith in ap (λ x. x || list_any (λ e. e.1 == n) es) no ∙ h

any_here : (n : ℕ) (o : Option ℕ) (es : List (ℕ × ℕ)) → list_any (λ e. e.1 == n) es ≡ false → list_any (λ e. e.1 == n) (leaver_of n o es) ≡ is_some o
any_here n None es h = h
any_here n (Some c) es h = let same : (n == n) ≡ true = grind arith in ap (λ x. x || list_any (λ e. e.1 == n) es) same

any_none : (low : ℕ) (seats : List Seat) (high n : ℕ) → AreRising low seats high → n < low → list_any (λ e. e.1 == n) (leavers seats) ≡ false
any_none low [] high n r h = refl
any_none low (seat ∷ rest) high n r h =
    any_skip n seat.mount.number seat.left_by (leavers rest) false (let k = r.0 in omega arith) (any_none (seat.mount.number + 1) rest high n r.1 (let k = r.0 in omega arith))

later : (low : ℕ) (xs : List Seat) (seat : Seat) (ys : List Seat) (high : ℕ) → AreRising low (xs ++ seat ∷ ys) high → low ≤ seat.mount.number
later low [] seat ys high r = r.0
later low (x ∷ xs) seat ys high r = let k = later (x.mount.number + 1) xs seat ys high r.1 in omega (arith, r.0)

left_here : (low : ℕ) (xs : List Seat) (seat : Seat) (ys : List Seat) (high : ℕ) → AreRising low (xs ++ seat ∷ ys) high
    → list_any (λ e. e.1 == seat.mount.number) (leavers (xs ++ seat ∷ ys)) ≡ is_some seat.left_by
left_here low [] seat ys high r = any_here seat.mount.number seat.left_by (leavers ys) (any_none (seat.mount.number + 1) ys high seat.mount.number r.1 (omega arith))
left_here low (x ∷ xs) seat ys high r =
    any_skip seat.mount.number x.mount.number x.left_by (leavers (xs ++ seat ∷ ys)) (is_some seat.left_by)
    (let above = later (x.mount.number + 1) xs seat ys high r.1 in omega arith) (left_here (x.mount.number + 1) xs seat ys high r.1)

pub left_at : (low : ℕ) (xs : List Seat) (seat : Seat) (ys : List Seat) (high : ℕ) → AreRising low (xs ++ seat ∷ ys) high → Once (leavers (xs ++ seat ∷ ys))
    → is_left (leaving_in (xs ++ seat ∷ ys)) seat.mount.number ≡ is_some seat.left_by
left_at low xs seat ys high r once = any_value (λ n. n == seat.mount.number) (leavers (xs ++ seat ∷ ys)) once ∙ left_here low xs seat ys high r

-- the caller that is leaving a seat's mount is the one that the seat names
first_or_rest : (c n m : ℕ) (o : Option ℕ) (es : List (ℕ × ℕ)) → find nat_cmp c (leaver_of m o es) ≡ Some n → ((o ≡ Some c) × (m ≡ n)) ⊎ (find nat_cmp c es ≡ Some n)
first_or_rest c n m None es h = inr h
first_or_rest c n m (Some d) es h = elim (cases_eq c d) [
  | inl e ↦ (let first : Some m ≡ Some n = rw (key_yes c d e) at h in let same : m ≡ n = cc in inl (ap Some (sym e), same))
  | inr k ↦ inr (rw (key_no c d k) at h)
]

leaver_low : (low : ℕ) (seats : List Seat) (high c n : ℕ) → AreRising low seats high → find nat_cmp c (leavers seats) ≡ Some n → low ≤ n
leaver_low low [] high c n r h = absurd (let e : None ≡ Some n = h in cc)
leaver_low low (seat ∷ rest) high c n r h = elim (first_or_rest c n seat.mount.number seat.left_by (leavers rest) h) [
  | inl p ↦ (let k = r.0 in let e = p.1 in omega arith)
  | inr t ↦ (let k = leaver_low (seat.mount.number + 1) rest high c n r.1 t in let l = r.0 in omega arith)
]

pub leaver_is : (low : ℕ) (xs : List Seat) (seat : Seat) (ys : List Seat) (high c : ℕ) → AreRising low (xs ++ seat ∷ ys) high
    → find nat_cmp c (leavers (xs ++ seat ∷ ys)) ≡ Some seat.mount.number → seat.left_by ≡ Some c
leaver_is low [] seat ys high c r h = elim (first_or_rest c seat.mount.number seat.mount.number seat.left_by (leavers ys) h) [
  | inl p ↦ p.0
  | inr t ↦ absurd (let k = leaver_low (seat.mount.number + 1) ys high c seat.mount.number r.1 t in omega arith)
]
leaver_is low (x ∷ xs) seat ys high c r h = elim (first_or_rest c seat.mount.number x.mount.number x.left_by (leavers (xs ++ seat ∷ ys)) h) [
  | inl p ↦ absurd (let k = later (x.mount.number + 1) xs seat ys high r.1 in let e = p.1 in omega arith)
  | inr t ↦ leaver_is (x.mount.number + 1) xs seat ys high c r.1 t
]
