-- What each call makes of the places and of the free slots.
use Rattle.std.proofs.Common.{◌≡◌, ◌≢◌, ℕ, zero, suc, ◌+◌, ◌-◌, ◌*◌, ◌<◌, ◌≤◌, nat_lt, ◌==◌, true, false, cond, refl, sym, ap, ◌∙◌, List, [], ◌∷◌, ◌++◌, take, drop, length, count_by, is_some, Option, Some, None, arith}
use Rattle.std.specs.Option.{option_map}
use Rattle.std.specs.List.{slice_index_or, slice_set}
use Rattle.std.specs.FinMap.{FinMap, get, len, get-empty, len-remove, empty_of_len}
use Rattle.std.proofs.lemmas.List.{set-get_or, get_or-set_other, length-set, append-nil, take_all, drop_all, length-append}
use Rattle.std.proofs.lemmas.List.Sums.{sum_by-set, get_or-le-sum_by, sum_by_push}
use Rattle.std.proofs.lemmas.Bool.Decides.{nat_tests}
use Rattle.finite_maps.specs.Keys.{pair_cmp}
use Rattle.finite_maps.proofs.EntryLaws.{pair_total}
use Rattle.open_files.specs.declared.places.Seat.{Seat}
use Rattle.open_files.specs.Rows.{place_of, key_of, file_of, slot_of, seat_of, without_seat, sits, opens_in, slots_in, IsSeated}
use Rattle.open_files.proofs.Maps.{get_seat, get_without, place_of_some, key_of_place}

-- a list that was written through a slice of the whole
pub written : {X : Type 0} (n : ℕ) (now was : List X) → length now ≡ length was → length was ≤ n → take n (now ++ drop (length now) was) ≡ now
written n now was same le =
    let none : drop (length now) was ≡ [] = drop_all (length now) was (omega arith) in
    ap (λ rest. take n (now ++ rest)) none ∙ ap (take n) (append-nil now) ∙ take_all n now (omega arith)

counts_one : (slot : ℕ) (p : Option Seat) (seat : Seat) → p ≡ Some seat → seat.slot ≡ slot → ◌≡◌ {A = ℕ} (cond (sits slot p) 1 0) 1
counts_one slot p seat is same =
    let yes : sits slot (Some seat) ≡ true = grind arith in
    ap (λ (o : Option Seat). cond (sits slot o) 1 0) is ∙ ap (λ b. cond b 1 0) yes

pub one_sits : (slot : ℕ) (places : List (Option Seat)) (i : ℕ) (seat : Seat) → i < length places → slice_index_or places i None ≡ Some seat → seat.slot ≡ slot → 1 ≤ count_by (sits slot) places
one_sits slot places i seat le is same =
    let bound = get_or-le-sum_by (λ p. cond (sits slot p) 1 0) places i None le in
    let here = counts_one slot (slice_index_or places i None) seat is same in
    omega arith

-- two places with one slot
two_sit : (slot : ℕ) (places : List (Option Seat)) (i j : ℕ) (a b : Seat) → i ≢ j → i < length places → j < length places
    → slice_index_or places i None ≡ Some a → slice_index_or places j None ≡ Some b → a.slot ≡ slot → b.slot ≡ slot → 2 ≤ count_by (sits slot) places
two_sit slot places i j a b apart li lj ia jb sa sb =
    let gone = sum_by-set (λ p. cond (sits slot p) 1 0) places i None None li in
    let here = counts_one slot (slice_index_or places i None) a ia sa in
    let other = one_sits slot (slice_set places i None) j b (let n = length-set places i None in omega arith) (get_or-set_other places i j None None (λ e. apart (sym e)) ∙ jb) sb in
    omega arith

-- the place of what a descriptor has
place_of_seat : (places : List (Option Seat)) (caller fd : ℕ) (seat : Seat) → seat_of places caller fd ≡ Some seat → (fd < 32) × (slice_index_or places (place_of caller fd) None ≡ Some seat)
place_of_seat places caller fd seat is = (elim (nat_lt fd 32) as (λ b. nat_lt fd 32 ≡ b → cond b (slice_index_or places (place_of caller fd) None) None ≡ Some seat → (fd < 32) × (slice_index_or places (place_of caller fd) None ≡ Some seat)) [
  | true ↦ λ within e. (grind arith, e)
  | false ↦ λ past e. cc
]) refl is

count_without : (slot : ℕ) (places : List (Option Seat)) (caller fd : ℕ) (seat : Seat) → 1 ≤ caller → caller * 32 ≤ length places → seat_of places caller fd ≡ Some seat
    → count_by (sits slot) (without_seat places caller fd) + cond (seat.slot == slot) 1 0 ≡ count_by (sits slot) places
count_without slot places caller fd seat one le is =
    let at = place_of_seat places caller fd seat is in
    let within : nat_lt fd 32 ≡ true = grind (arith, at.0) in
    let sum = sum_by-set (λ p. cond (sits slot p) 1 0) places (place_of caller fd) None None (let b = at.0 in omega arith) in
    let sum' = rw at.1 at sum in
    let whole : without_seat places caller fd ≡ slice_set places (place_of caller fd) None = ap (λ b. cond b (slice_set places (place_of caller fd) None) places) within in
    rw whole (omega arith)

pub length_without : (places : List (Option Seat)) (caller fd : ℕ) → length (without_seat places caller fd) ≡ length places
length_without places caller fd = elim (nat_lt fd 32) as (λ b. length (cond b (slice_set places (place_of caller fd) None) places) ≡ length places) [
  | true ↦ length-set places (place_of caller fd) None
  | false ↦ refl
]

-- a map with something in it
positive : {X : Type 0} (m : FinMap pair_cmp X) (key : ℕ × ℕ) (x : X) → get m key ≡ Some x → 0 < len m
positive m key x is = (elim (len m) as (λ n. len m ≡ n → 0 < n) [
  | zero ↦ λ e. (let none = ap (λ n. get n key) (empty_of_len m e) ∙ get-empty pair_cmp key in cc)
  | suc n ↦ λ e. omega arith
]) refl

-- a place without a slot's seat is left as it is
pub without_none : (places : List (Option Seat)) (caller fd : ℕ) → seat_of places caller fd ≡ None → without_seat places caller fd ≡ places
without_none places caller fd is = (elim (nat_lt fd 32) as (λ b. cond b (slice_index_or places (place_of caller fd) None) None ≡ None → cond b (slice_set places (place_of caller fd) None) places ≡ places) [
  | true ↦ λ e. ap (slice_set places (place_of caller fd)) (sym e) ∙ set-get_or places (place_of caller fd) None
  | false ↦ λ _. refl
]) is

module _ (callers files : ℕ) (places : List (Option Seat)) (free : List ℕ) (seated : IsSeated callers files places free) where
  pub rows : (caller : ℕ) → caller ≤ callers → caller * 32 ≤ length places
  rows caller le = let n = seated.rows in omega arith

  pub slot_below : (caller fd : ℕ) (seat : Seat) → 1 ≤ caller → caller ≤ callers → seat_of places caller fd ≡ Some seat → seat.slot < files
  slot_below caller fd seat one to is =
      let at = place_of_seat places caller fd seat is in
      let le = rows caller to in
      let sits_here = one_sits seat.slot places (place_of caller fd) seat (let b = at.0 in omega arith) at.1 refl in
      let once = seated.once seat.slot in
      grind (arith, nat_tests)

  pub slot_alone : (caller fd : ℕ) (seat : Seat) → 1 ≤ caller → caller ≤ callers → seat_of places caller fd ≡ Some seat
      → (key : ℕ × ℕ) → get (slots_in places) key ≡ Some seat.slot → key ≡ (caller, fd)
  slot_alone caller fd seat one to is key has =
      let at = place_of_seat places caller fd seat is in
      let le = rows caller to in
      let other = place_of_some slot_of places key seat.slot has in
      let same : key_of (place_of caller fd) ≡ (caller, fd) = key_of_place caller fd one at.0 in
      (elim (other.0 == place_of caller fd) as (λ b. (other.0 == place_of caller fd) ≡ b → key ≡ (caller, fd)) [
        | true ↦ λ e. other.1 ∙ (let p : other.0 ≡ place_of caller fd = grind arith in ap key_of p) ∙ same
        | false ↦ λ e. (
            let apart : other.0 ≢ place_of caller fd = grind arith in
            let two = two_sit seat.slot places other.0 (place_of caller fd) other.3 seat apart other.2 (let b = at.0 in omega arith) other.4 at.1 other.5 refl in
            let once = seated.once seat.slot in
            absurd (grind (arith, nat_tests))
            )
      ]) refl

  pub none_open : (caller fd : ℕ) → 1 ≤ caller → seat_of places caller fd ≡ None → get (opens_in places) (caller, fd) ≡ None
  none_open caller fd one is = get_seat file_of places caller fd one ∙ ap (option_map file_of) is

  pub some_open : (caller fd : ℕ) (seat : Seat) → 1 ≤ caller → seat_of places caller fd ≡ Some seat → get (opens_in places) (caller, fd) ≡ Some seat.file
  some_open caller fd seat one is = get_seat file_of places caller fd one ∙ ap (option_map file_of) is

  -- a descriptor is closed
  pub closed : (caller fd : ℕ) (seat : Seat) → 1 ≤ caller → caller ≤ callers → seat_of places caller fd ≡ Some seat
      → IsSeated callers files (without_seat places caller fd) (free ++ seat.slot ∷ []) × (length free < files)
  closed caller fd seat one to is =
      let le = rows caller to in
      let there = some_open caller fd seat one is in
      let gone = get_without file_of places caller fd one le in
      let fewer = len-remove pair_total (opens_in places) (caller, fd) in
      let some = positive (opens_in places) (caller, fd) seat.file there in
      let is_there : is_some (get (opens_in places) (caller, fd)) ≡ true = ap is_some there in
      let n : len (opens_in (without_seat places caller fd)) ≡ len (opens_in places) - 1 = ap len gone ∙ fewer ∙ ap (λ b. cond b (len (opens_in places) - 1) (len (opens_in places))) is_there in
      let total = seated.total in
      let room : length free < files = omega arith in (
        record {
          rows = length_without places caller fd ∙ seated.rows;
          once = λ slot. (
              let once = seated.once slot in
              let more = sum_by_push (λ x. cond (x == slot) 1 0) free seat.slot in
              let less = count_without slot places caller fd seat one le is in
              omega arith
              );
          total = omega (arith, length-append free (seat.slot ∷ []));
        },
        room,
      )
