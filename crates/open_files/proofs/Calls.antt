-- Each call's clauses, over the table that the contracts see.
use Rattle.std.proofs.Common.{◌≡◌, ℕ, ◌+◌, ◌*◌, ◌<◌, ◌≤◌, ◌↔◌, nat_lt, ◌==◌, true, false, cond, refl, sym, ap, ◌∙◌, subst, List, [], ◌∷◌, ◌++◌, take, drop, length, replicate, count_by, is_some, IsSome, IsNone, IfSome, IfNone, Option, Some, None, arith}
use Rattle.std.specs.Option.{option_map}
use Rattle.std.specs.List.{slice_index_or, slice_set}
use Rattle.std.specs.FinMap.{empty, get, insert, remove, len, len-empty, len-insert}
use Rattle.std.proofs.lemmas.List.{length-set, length-replicate, length-append}
use Rattle.std.proofs.lemmas.List.Sums.{sum_by-set, sum_by_push}
use Rattle.std.proofs.lemmas.List.Folds.{sum_by-replicate}
use Rattle.std.proofs.lemmas.Bool.Decides.{nat_tests}
use Rattle.finite_maps.specs.Keys.{pair_cmp}
use Rattle.finite_maps.proofs.EntryLaws.{pair_total, pair_exact, insert_same}
use Rattle.vfs_tree.specs.declared.open.Open.{Open}
use Rattle.open_files.specs.declared.places.Seat.{Seat}
use Rattle.open_files.specs.Opens.{Opens, IsCallerFull, IsLowestFree, GetsSlot, HasLawfulKeys}
use Rattle.open_files.specs.Rows.{place_of, file_of, slot_of, seat_of, without_seat, sits, opens_in, slots_in, IsSeated, HasExchanged}
use Rattle.open_files.proofs.Maps.{get_seat, get_without, get_at, get_past, keyed_put, keyed_none, place_of_some}
use Rattle.open_files.proofs.Tables.{written, length_without, slot_below, slot_alone, closed, one_sits}

abbrev shown : ℕ → ℕ → List (Option Seat) → Opens
shown callers files places = record { callers = callers; files = files; opens = opens_in places; slots = slots_in places }

some_kept : (o : Option Seat) → IsSome o → IsSome (option_map file_of o)
some_kept None h = cc
some_kept (Some seat) h = refl

none_same : (o : Option Seat) → IsNone (option_map slot_of o) ↔ (option_map file_of o ≡ None)
none_same None = (λ _. refl, λ _. refl)
none_same (Some seat) = (λ e. cc, λ e. cc)

a_some : {X : Type 0} (o : Option X) → IsSome o → (x : X) × (o ≡ Some x)
a_some None h = cc
a_some (Some x) h = (x, refl)

-- nothing is open in a new table
pub seated_new : (callers files : ℕ) (places : List (Option Seat)) (free : List ℕ) → places ≡ replicate (callers * 32) None → length free ≡ files
    → ((slot : ℕ) → count_by (λ x. x == slot) free ≡ cond (nat_lt slot files) 1 0) → IsSeated callers files places free
seated_new callers files places free e n once =
    let opens : opens_in places ≡ empty = ap opens_in e ∙ keyed_none file_of 0 (callers * 32) in
    let none : len (opens_in places) ≡ 0 = ap len opens ∙ len-empty pair_cmp Open in
    record {
      rows = ap length e ∙ length-replicate (callers * 32) None;
      once = λ slot. (
          let here = once slot in
          let away = ap (count_by (sits slot)) e ∙ sum_by-replicate (λ p. cond (sits slot p) 1 0) (callers * 32) None in
          omega arith
          );
      total = omega arith;
    }

pub shown_new : (callers files : ℕ) (places : List (Option Seat)) → places ≡ replicate (callers * 32) None → shown callers files places ≡ record { callers = callers; files = files; opens = empty; slots = empty }
shown_new callers files places e =
    let opens : opens_in places ≡ empty = ap opens_in e ∙ keyed_none file_of 0 (callers * 32) in
    let slots : slots_in places ≡ empty = ap slots_in e ∙ keyed_none slot_of 0 (callers * 32) in
    λ i. record { callers = callers; files = files; opens = opens i; slots = slots i }

module _ (callers files : ℕ) (places : List (Option Seat)) (free : List ℕ) (t : Opens) (seated : IsSeated callers files places free) (v : shown callers files places ≡ t) where
  in_callers : (caller : ℕ) → caller ≤ t.callers → caller ≤ callers
  in_callers caller to = subst (λ (u : Opens). caller ≤ u.callers) (sym v) to

  pub in_rows : (caller : ℕ) (slice : List (Option Seat)) → slice ≡ places → caller ≤ t.callers → caller * 32 ≤ length slice
  in_rows caller slice same to =
      let n = seated.rows in
      let m = ap length same in
      let le = in_callers caller to in
      omega arith

  -- what a look-up answers
  pub get_open : (caller fd : ℕ) (o : Option Seat) (slice : List (Option Seat)) → slice ≡ places → 1 ≤ caller → o ≡ seat_of slice caller fd → option_map file_of o ≡ get t.opens (caller, fd)
  get_open caller fd o slice same one e =
      ap (option_map file_of) (e ∙ ap (λ ps. seat_of ps caller fd) same) ∙ sym (get_seat file_of places caller fd one) ∙ ap (λ (u : Opens). get u.opens (caller, fd)) v

  pub get_slot : (caller fd : ℕ) (o : Option Seat) (slice : List (Option Seat)) → slice ≡ places → 1 ≤ caller → o ≡ seat_of slice caller fd → option_map slot_of o ≡ get t.slots (caller, fd)
  get_slot caller fd o slice same one e =
      ap (option_map slot_of) (e ∙ ap (λ ps. seat_of ps caller fd) same) ∙ sym (get_seat slot_of places caller fd one) ∙ ap (λ (u : Opens). get u.slots (caller, fd)) v

  pub slot_none : (caller fd : ℕ) (o : Option Seat) (slice : List (Option Seat)) → slice ≡ places → 1 ≤ caller → o ≡ seat_of slice caller fd → IsNone (option_map slot_of o) ↔ (get t.opens (caller, fd) ≡ None)
  slot_none caller fd o slice same one e = subst (λ g. IsNone (option_map slot_of o) ↔ (g ≡ None)) (get_open caller fd o slice same one e) (none_same o)

  pub slot_low : (caller fd : ℕ) (o : Option Seat) (slice : List (Option Seat)) → slice ≡ places → 1 ≤ caller → caller ≤ t.callers → o ≡ seat_of slice caller fd → IfSome (option_map slot_of o) (λ slot. slot < t.files)
  slot_low caller fd None slice same one to e = tt
  slot_low caller fd (Some seat) slice same one to e =
      subst (λ (u : Opens). seat.slot < u.files) v (slot_below callers files places free seated caller fd seat one (in_callers caller to) (sym (e ∙ ap (λ ps. seat_of ps caller fd) same)))

  pub slot_own : (caller fd : ℕ) (o : Option Seat) (slice : List (Option Seat)) → slice ≡ places → 1 ≤ caller → caller ≤ t.callers → o ≡ seat_of slice caller fd
      → IfSome (option_map slot_of o) (λ slot. (key : ℕ × ℕ) → get t.slots key ≡ Some slot → key ≡ (caller, fd))
  slot_own caller fd None slice same one to e = tt
  slot_own caller fd (Some seat) slice same one to e = λ key has.
      slot_alone callers files places free seated caller fd seat one (in_callers caller to) (sym (e ∙ ap (λ ps. seat_of ps caller fd) same)) key (subst (λ (u : Opens). get u.slots key ≡ Some seat.slot) (sym v) has)

  -- what a place shows
  get_now : (caller fd : ℕ) → 1 ≤ caller → fd < 32 → option_map file_of (slice_index_or places (place_of caller fd) None) ≡ get t.opens (caller, fd)
  get_now caller fd one within = sym (get_at file_of places caller fd one within) ∙ ap (λ (u : Opens). get u.opens (caller, fd)) v

  some_now : (caller fd : ℕ) (slice : List (Option Seat)) → slice ≡ places → 1 ≤ caller → fd < 32 → IsSome (slice_index_or slice (place_of caller fd) None) → IsSome (get t.opens (caller, fd))
  some_now caller fd slice same one within h =
      subst (λ g. IsSome g) (get_now caller fd one within) (some_kept _ (subst (λ ps. IsSome (slice_index_or ps (place_of caller fd) None)) same h))

  none_now : (caller fd : ℕ) (slice : List (Option Seat)) → slice ≡ places → 1 ≤ caller → fd < 32 → slice_index_or slice (place_of caller fd) None ≡ None → get t.opens (caller, fd) ≡ None
  none_now caller fd slice same one within h =
      sym (get_now caller fd one within) ∙ ap (option_map file_of) (subst (λ ps. slice_index_or ps (place_of caller fd) None ≡ None) same h)

  -- going through the opens of a caller
  pub next_is : (caller from : ℕ) (r : Option ℕ) (slice : List (Option Seat)) → slice ≡ places → 1 ≤ caller → IfSome r (λ fd. (from ≤ fd) × (fd < 32))
      → IfSome r (λ fd. IsSome (slice_index_or slice (place_of caller fd) None)) → IfSome r (λ fd. IsSome (get t.opens (caller, fd)))
  next_is caller from None slice same one w h = tt
  next_is caller from (Some fd) slice same one w h = some_now caller fd slice same one w.1 h

  pub next_first : (caller from : ℕ) (r : Option ℕ) (slice : List (Option Seat)) → slice ≡ places → 1 ≤ caller → IfSome r (λ fd. (from ≤ fd) × (fd < 32))
      → IfSome r (λ fd. (k : ℕ) → from ≤ k → k < fd → slice_index_or slice (place_of caller k) None ≡ None) → IfSome r (λ fd. (k : ℕ) → from ≤ k → k < fd → get t.opens (caller, k) ≡ None)
  next_first caller from None slice same one w h = tt
  next_first caller from (Some fd) slice same one w h = λ k a b. none_now caller k slice same one (let below = w.1 in omega arith) (h k a b)

  pub next_none : (caller from : ℕ) (r : Option ℕ) (slice : List (Option Seat)) → slice ≡ places → 1 ≤ caller
      → IfNone r ((k : ℕ) → from ≤ k → k < 32 → slice_index_or slice (place_of caller k) None ≡ None) → IfNone r ((k : ℕ) → from ≤ k → get t.opens (caller, k) ≡ None)
  next_none caller from (Some fd) slice same one h = tt
  next_none caller from None slice same one h = λ k a. ((elim (nat_lt k 32) as (λ b. nat_lt k 32 ≡ b → get t.opens (caller, k) ≡ None) [
    | true ↦ λ within. none_now caller k slice same one (grind arith) (h k a (grind arith))
    | false ↦ λ past. subst (λ (u : Opens). get u.opens (caller, k) ≡ None) v (get_past file_of places caller k (grind arith))
  ]) refl)

  -- what every table keeps
  pub lawful_keys : HasLawfulKeys t
  lawful_keys = λ key is. (
      let x = a_some (get t.opens key) is in
      let has : get (opens_in places) key ≡ Some x.0 = subst (λ (u : Opens). get u.opens key ≡ Some x.0) (sym v) x.1 in
      let at = place_of_some file_of places key x.0 has in
      let row = ap (λ (k : ℕ × ℕ). k.0) at.1 in
      let col = ap (λ (k : ℕ × ℕ). k.1) at.1 in
      let le = at.2 in
      let n = seated.rows in
      let to : key.0 ≤ callers = omega arith in
      (omega arith, subst (λ (u : Opens). key.0 ≤ u.callers) v to, omega arith)
      )

  pub few_open : len t.opens ≤ t.files
  few_open =
      let total = seated.total in
      let few : len (opens_in places) ≤ files = omega arith in
      subst (λ (u : Opens). len u.opens ≤ u.files) v few

  -- when no descriptor is opened
  pub full : (caller : ℕ) (slice : List (Option Seat)) → slice ≡ places → 1 ≤ caller → ((k : ℕ) → k < 32 → IsSome (slice_index_or slice (place_of caller k) None)) → IsCallerFull caller t
  full caller slice same one h = λ fd within. some_now caller fd slice same one within (h fd within)

  pub not_full : (caller fd : ℕ) (slice : List (Option Seat)) → slice ≡ places → 1 ≤ caller → fd < 32 → slice_index_or slice (place_of caller fd) None ≡ None → IsCallerFull caller t → ⊥
  not_full caller fd slice same one within none all =
      let is = all fd within in
      let isnt = none_now caller fd slice same one within none in
      cc

  pub all_open : length free ≡ 0 → len t.opens ≡ t.files
  all_open none =
      let total = seated.total in
      let all : len (opens_in places) ≡ files = omega arith in
      subst (λ (u : Opens). len u.opens ≡ u.files) v all

  pub not_all : (init : List ℕ) (slot : ℕ) → free ≡ init ++ slot ∷ [] → len t.opens ≡ t.files → ⊥
  not_all init slot e all =
      let total = seated.total in
      let some = ap length e ∙ length-append init (slot ∷ []) in
      let all' : len (opens_in places) ≡ files = subst (λ (u : Opens). len u.opens ≡ u.files) (sym v) all in
      omega arith

  pub lowest : (caller fd : ℕ) (slice : List (Option Seat)) → slice ≡ places → 1 ≤ caller → fd < 32 → slice_index_or slice (place_of caller fd) None ≡ None
      → ((k : ℕ) → k < fd → IsSome (slice_index_or slice (place_of caller k) None)) → IsLowestFree caller fd t
  lowest caller fd slice same one within none lower = record {
    within = within;
    free = none_now caller fd slice same one within none;
    lower = λ k below. some_now caller k slice same one (omega arith) (lower k below);
  }

  -- a descriptor is opened
  module _ (caller fd slot : ℕ) (init : List ℕ) (file : Open) (slice : List (Option Seat)) (last : free ≡ init ++ slot ∷ []) (same : slice ≡ places) (one : 1 ≤ caller) (to : caller ≤ t.callers) (within : fd < 32)
      (none : slice_index_or slice (place_of caller fd) None ≡ None) where
    abbrev given : Seat
    given = record { slot = slot; file = file }

    in_places : place_of caller fd < length places
    in_places = let le = in_rows caller places refl to in omega arith

    was_none : slice_index_or places (place_of caller fd) None ≡ None
    was_none = subst (λ ps. slice_index_or ps (place_of caller fd) None ≡ None) same none

    slots_free : (s : ℕ) → count_by (λ x. x == s) free ≡ count_by (λ x. x == s) init + cond (slot == s) 1 0
    slots_free s = ap (count_by (λ x. x == s)) last ∙ sum_by_push (λ x. cond (x == s) 1 0) init slot

    opens_put : opens_in (slice_set places (place_of caller fd) (Some given)) ≡ insert (opens_in places) (caller, fd) file
    opens_put = keyed_put file_of places caller fd given one within in_places

    pub opened_opens : opens_in (slice_set places (place_of caller fd) (Some given)) ≡ insert t.opens (caller, fd) file
    opened_opens = subst (λ (u : Opens). opens_in (slice_set places (place_of caller fd) (Some given)) ≡ insert u.opens (caller, fd) file) v opens_put

    pub opened_seated : IsSeated callers files (slice_set places (place_of caller fd) (Some given)) init
    opened_seated =
        let none_open : get (opens_in places) (caller, fd) ≡ None = get_at file_of places caller fd one within ∙ ap (option_map file_of) was_none in
        let isnt_there : is_some (get (opens_in places) (caller, fd)) ≡ false = ap is_some none_open in
        let n : len (opens_in (slice_set places (place_of caller fd) (Some given))) ≡ len (opens_in places) + 1
        = ap len opens_put ∙ len-insert pair_total (opens_in places) (caller, fd) file ∙ ap (λ b. cond b (len (opens_in places)) (len (opens_in places) + 1)) isnt_there in
        let total = seated.total in
        let more = ap length last ∙ length-append init (slot ∷ []) in
        record {
          rows = length-set places (place_of caller fd) (Some given) ∙ seated.rows;
          once = λ s. (
              let once = seated.once s in
              let out = slots_free s in
              let put = rw was_none at (sum_by-set (λ p. cond (sits s p) 1 0) places (place_of caller fd) (Some given) None in_places) in
              omega arith
              );
          total = omega arith;
        }

    has_one : 1 ≤ count_by (λ x. x == slot) free
    has_one =
        let out = slots_free slot in
        let yes : (slot == slot) ≡ true = grind arith in
        let out' = rw yes at out in
        omega arith

    slot_under : slot < files
    slot_under =
        let once = seated.once slot in
        let here = has_one in
        grind (arith, nat_tests)

    slot_apart : (key : ℕ × ℕ) → get (slots_in places) key ≡ Some slot → ⊥
    slot_apart key has =
        let at = place_of_some slot_of places key slot has in
        let sits_there = one_sits slot places at.0 at.3 at.2 at.4 at.5 in
        let once = seated.once slot in
        let here = has_one in
        grind (arith, nat_tests)

    pub opened_slot : GetsSlot (caller, fd) t (shown callers files (slice_set places (place_of caller fd) (Some given)))
    opened_slot = record {
      slot = slot;
      below = subst (λ (u : Opens). slot < u.files) v slot_under;
      free = λ key has. slot_apart key (subst (λ (u : Opens). get u.slots key ≡ Some slot) (sym v) has);
      given = subst (λ (u : Opens). slots_in (slice_set places (place_of caller fd) (Some given)) ≡ insert u.slots (caller, fd) slot) v (keyed_put slot_of places caller fd given one within in_places);
    }

  -- where a descriptor is open
  pub placed : (caller fd : ℕ) (slice : List (Option Seat)) → slice ≡ places → IsSome (get t.opens (caller, fd))
      → (1 ≤ caller) × (fd < 32) × (caller * 32 ≤ length slice) × IsSome (slice_index_or slice (place_of caller fd) None)
  placed caller fd slice same is =
      let x = a_some (get t.opens (caller, fd)) is in
      let has : get (opens_in places) (caller, fd) ≡ Some x.0 = subst (λ (u : Opens). get u.opens (caller, fd) ≡ Some x.0) (sym v) x.1 in
      let at = place_of_some file_of places (caller, fd) x.0 has in
      let row = ap (λ (k : ℕ × ℕ). k.0) at.1 in
      let col = ap (λ (k : ℕ × ℕ). k.1) at.1 in
      let le = at.2 in
      let n = seated.rows in
      let m = ap length same in
      let one : 1 ≤ caller = omega arith in
      let within : fd < 32 = omega arith in
      let here : at.0 ≡ place_of caller fd = omega arith in
      let there : slice_index_or places (place_of caller fd) None ≡ Some at.3 = subst (λ i. slice_index_or places i None ≡ Some at.3) here at.4 in
      (one, within, omega arith, subst (λ ps. IsSome (slice_index_or ps (place_of caller fd) None)) (sym same) (ap is_some there))

  -- the open file of a descriptor is exchanged
  module _ (caller fd n : ℕ) (old new : Open) (slice now : List (Option Seat)) (same : slice ≡ places) (whole : length slice ≡ n) (is : IsSome (get t.opens (caller, fd)))
      (x : HasExchanged slice now (place_of caller fd) old new) where
    abbrev other : Seat
    other = record { slot = x.slot; file = new }

    abbrev before : Seat
    before = record { slot = x.slot; file = old }

    where_placed : (1 ≤ caller) × (fd < 32) × (caller * 32 ≤ length places) × IsSome (slice_index_or places (place_of caller fd) None)
    where_placed = placed caller fd places refl is

    exchange_in : place_of caller fd < length places
    exchange_in = let w = where_placed in omega (arith, w.0, w.1, w.2)

    stood : slice_index_or places (place_of caller fd) None ≡ Some before
    stood = subst (λ ps. slice_index_or ps (place_of caller fd) None ≡ Some before) same x.was

    now_is : now ≡ slice_set places (place_of caller fd) (Some other)
    now_is = x.is ∙ ap (λ ps. slice_set ps (place_of caller fd) (Some other)) same

    pub all_now : take n (now ++ drop (length now) places) ≡ slice_set places (place_of caller fd) (Some other)
    all_now =
        let m = ap length same in
        let k = ap length now_is ∙ length-set places (place_of caller fd) (Some other) in
        written n now places k (omega arith) ∙ now_is

    file_stood : get (opens_in places) (caller, fd) ≡ Some old
    file_stood = let w = where_placed in get_at file_of places caller fd w.0 w.1 ∙ ap (option_map file_of) stood

    slot_stood : get (slots_in places) (caller, fd) ≡ Some x.slot
    slot_stood = let w = where_placed in get_at slot_of places caller fd w.0 w.1 ∙ ap (option_map slot_of) stood

    opens_now : opens_in (slice_set places (place_of caller fd) (Some other)) ≡ insert (opens_in places) (caller, fd) new
    opens_now = let w = where_placed in keyed_put file_of places caller fd other w.0 w.1 exchange_in

    slots_now : slots_in (slice_set places (place_of caller fd) (Some other)) ≡ slots_in places
    slots_now =
        let w = where_placed in
        keyed_put slot_of places caller fd other w.0 w.1 exchange_in ∙ insert_same pair_total pair_exact (slots_in places) (caller, fd) x.slot slot_stood

    pub exchanged_before : get t.opens (caller, fd) ≡ Some old
    exchanged_before = subst (λ (u : Opens). get u.opens (caller, fd) ≡ Some old) v file_stood

    pub exchanged_seated : IsSeated callers files (slice_set places (place_of caller fd) (Some other)) free
    exchanged_seated =
        let is_there : is_some (get (opens_in places) (caller, fd)) ≡ true = ap is_some file_stood in
        let k : len (opens_in (slice_set places (place_of caller fd) (Some other))) ≡ len (opens_in places)
        = ap len opens_now ∙ len-insert pair_total (opens_in places) (caller, fd) new ∙ ap (λ b. cond b (len (opens_in places)) (len (opens_in places) + 1)) is_there in
        let total = seated.total in
        record {
          rows = length-set places (place_of caller fd) (Some other) ∙ seated.rows;
          once = λ s. (
              let once = seated.once s in
              let put = rw stood at (sum_by-set (λ p. cond (sits s p) 1 0) places (place_of caller fd) (Some other) None exchange_in) in
              omega arith
              );
          total = omega arith;
        }

    pub exchanged_after : shown callers files (slice_set places (place_of caller fd) (Some other)) ≡ record t { opens = insert t.opens (caller, fd) new }
    exchanged_after =
        let same_slots = slots_now in
        let put = opens_now in
        subst (λ (u : Opens). shown callers files (slice_set places (place_of caller fd) (Some other)) ≡ record u { opens = insert u.opens (caller, fd) new }) v
        (λ i. record { callers = callers; files = files; opens = put i; slots = same_slots i })

  -- a descriptor is closed
  module _ (caller fd n : ℕ) (slice now : List (Option Seat)) (same : slice ≡ places) (whole : length slice ≡ n) (one : 1 ≤ caller) (to : caller ≤ t.callers) (taken : now ≡ without_seat slice caller fd) where
    now_without : now ≡ without_seat places caller fd
    now_without = taken ∙ ap (λ ps. without_seat ps caller fd) same

    pub left_now : take n (now ++ drop (length now) places) ≡ without_seat places caller fd
    left_now =
        let m = ap length same in
        let k = ap length now_without ∙ length_without places caller fd in
        written n now places k (omega arith) ∙ now_without

    pub closed_opens : opens_in (take n (now ++ drop (length now) places)) ≡ remove t.opens (caller, fd)
    closed_opens = ap opens_in left_now ∙ get_without file_of places caller fd one (in_rows caller places refl to) ∙ ap (λ (u : Opens). remove u.opens (caller, fd)) v

    pub closed_slots : slots_in (take n (now ++ drop (length now) places)) ≡ remove t.slots (caller, fd)
    closed_slots = ap slots_in left_now ∙ get_without slot_of places caller fd one (in_rows caller places refl to) ∙ ap (λ (u : Opens). remove u.slots (caller, fd)) v

    pub closed_seated : (seat : Seat) → Some seat ≡ seat_of slice caller fd → IsSeated callers files (take n (now ++ drop (length now) places)) (free ++ seat.slot ∷ []) × (length free < files)
    closed_seated seat e =
        let done = closed callers files places free seated caller fd seat one (in_callers caller to) (sym (e ∙ ap (λ ps. seat_of ps caller fd) same)) in
        (subst (λ ps. IsSeated callers files ps (free ++ seat.slot ∷ [])) (sym left_now) done.0, done.1)
