-- What a table keeps, after other locks of a caller.
use Rattle.std.proofs.Common.{ℕ, suc, Bool, true, false, ◌≡◌, ◌≢◌, ◌<◌, ◌||◌, ◌&&◌, ◌==◌, not, ◌∙◌, ap, sym, subst, refl, inl, inr, List, [], ◌∷◌, length, get_or, set, arith}
use Rattle.std.specs.List.{All}
use Rattle.std.proofs.lemmas.List.{get_or-set_same, get_or-set_other, length-set, get_or_past}
use Rattle.std.proofs.lemmas.List.Elements.{All-set}
use Rattle.std.proofs.lemmas.Bool.{cases_eq, cases_lt, both_ways, false_from_ne_true, or_parts, or_from, and_left, and_right, not_from_true, false≢true}
use Rattle.op_vector.specs.declared.data.Vid.{Vid}
use Rattle.vnode_lock.specs.declared.answer.Mode.TheVariants.{Exclusive}
use Rattle.vnode_lock.specs.Listed.{has_slot, AreBelow, moved}
use Rattle.vnode_lock.specs.Locks.{Locks, shared_of, exclusive_of, with_locks, IsCaller, IsNowhereExclusive, bars, IsFree, AreFree, IsLawful}
use Rattle.vnode_lock.proofs.Marks.{has_others, below_moved}

-- what holds of each vnode's slot holds of a slot of the list
pub at_slot : (P : ℕ → Type 0) (vids : List Vid) (slot : ℕ) → All (λ vid. P vid.slot) vids → has_slot slot vids ≡ true → P slot
at_slot P [] slot all h = absurd (false≢true h)
at_slot P (vid ∷ rest) slot all h = elim (cases_eq slot vid.slot) [
  | inl e ↦ subst P (sym e) (all 0 vid (omega arith))
  | inr n ↦ at_slot P rest slot (λ k d within. all (suc k) d (omega arith)) (skipped n h)
]
  where
    skipped : slot ≢ vid.slot → ((slot == vid.slot) || has_slot slot rest) ≡ true → has_slot slot rest ≡ true
    skipped n h = grind arith

-- another caller doesn't keep out where nothing conflicts, and the other way round
other_free : (by caller : ℕ) (b : Bool) → by ≢ caller → (not (by == caller) && b) ≡ false → b ≡ false
other_free by caller b n h = grind arith

free_other : (by caller : ℕ) (b : Bool) → (by ≢ caller → b ≡ false) → (not (by == caller) && b) ≡ false
free_other by caller b h = elim (cases_eq by caller) [
  | inl e ↦ and_left (not (by == caller)) b (not_from_true (by == caller) (same_test by caller e))
  | inr n ↦ and_right (not (by == caller)) b (h n)
]
  where
    same_test : (x y : ℕ) → x ≡ y → (x == y) ≡ true
    same_test x y e = grind arith

-- what a table keeps, for a table in which one caller has other locks
module _ (old new : Locks) (caller : ℕ)
    (exclusive_kept : (by : ℕ) → by ≢ caller → exclusive_of by new ≡ exclusive_of by old)
    (shared_kept : (by : ℕ) → by ≢ caller → shared_of by new ≡ shared_of by old)
    (own : (slot : ℕ) → has_slot slot (exclusive_of caller new) ≡ true → (by : ℕ) → by ≢ caller → bars by Exclusive slot old ≡ false)
    (others : (slot by : ℕ) → by ≢ caller → has_slot slot (exclusive_of by old) ≡ true → bars caller Exclusive slot new ≡ false)
    (lawful : IsLawful old) where
  bars_kept : (by slot : ℕ) → by ≢ caller → bars by Exclusive slot new ≡ bars by Exclusive slot old
  bars_kept by slot n = rw (exclusive_kept by n, shared_kept by n) refl

  pub apart_kept : (holder : ℕ) (vid : Vid) → has_slot vid.slot (exclusive_of holder new) ≡ true → IsFree new holder Exclusive vid
  apart_kept holder vid h by = free_other by holder (bars by Exclusive vid.slot new) (λ n. elim (cases_eq holder caller) [
    | inl e ↦ (let m : by ≢ caller = λ q. n (q ∙ sym e) in
        bars_kept by vid.slot m ∙ own vid.slot (ap (λ c. has_slot vid.slot (exclusive_of c new)) (sym e) ∙ h) by m)
    | inr m ↦ (let held : has_slot vid.slot (exclusive_of holder old) ≡ true = ap (has_slot vid.slot) (sym (exclusive_kept holder m)) ∙ h in
        elim (cases_eq by caller) [
          | inl e ↦ rw e (others vid.slot holder m held)
          | inr k ↦ bars_kept by vid.slot k ∙ other_free by holder (bars by Exclusive vid.slot old) n (lawful.apart holder vid held by)
        ])
  ])

-- a caller took locks that are free
module _ (locks : Locks) (caller : ℕ) (shared exclusive : List Vid) (lawful : IsLawful locks) (is_caller : IsCaller caller locks)
    (free : AreFree locks caller shared exclusive) where
  new : Locks
  new = with_locks caller shared exclusive locks

  own_exclusive : exclusive_of caller new ≡ exclusive
  unfolding new
  own_exclusive = let e = lawful.exclusive_len in let m = is_caller.1 in
      let within : caller < length locks.exclusive = omega arith in
      get_or-set_same locks.exclusive caller exclusive [] within

  own_shared : shared_of caller new ≡ shared
  unfolding new
  own_shared = let e = lawful.shared_len in let m = is_caller.1 in
      let within : caller < length locks.shared = omega arith in
      get_or-set_same locks.shared caller shared [] within

  own_free : (slot : ℕ) → has_slot slot exclusive ≡ true → (by : ℕ) → by ≢ caller → bars by Exclusive slot locks ≡ false
  own_free slot h by n = at_slot (λ s. bars by Exclusive s locks ≡ false) exclusive slot
      (λ k d within. other_free by caller (bars by Exclusive (get_or exclusive k d).slot locks) n (free.0 k d within by)) h

  shared_free : (slot : ℕ) → has_slot slot shared ≡ true → (by : ℕ) → by ≢ caller → has_slot slot (exclusive_of by locks) ≡ false
  shared_free slot h by n = at_slot (λ s. has_slot s (exclusive_of by locks) ≡ false) shared slot
      (λ k d within. other_free by caller (has_slot (get_or shared k d).slot (exclusive_of by locks)) n (free.1 k d within by)) h

  others_free : (slot by : ℕ) → by ≢ caller → has_slot slot (exclusive_of by locks) ≡ true → (has_slot slot exclusive || has_slot slot shared) ≡ false
  others_free slot by n held = or_from (has_slot slot exclusive) (has_slot slot shared)
      (false_from_ne_true (has_slot slot exclusive) (λ t. both_ways (has_slot slot (exclusive_of by locks)) ((or_parts (has_slot slot (exclusive_of by locks)) (has_slot slot (shared_of by locks)) (own_free slot t by n)).0) held))
      (false_from_ne_true (has_slot slot shared) (λ t. both_ways (has_slot slot (exclusive_of by locks)) (shared_free slot t by n) held))

  pub taken_lawful : AreBelow locks.slots shared → AreBelow locks.slots exclusive → IsLawful (with_locks caller shared exclusive locks)
  unfolding new
  taken_lawful below_shared below_exclusive =
      let other : 0 ≢ caller = (let m = is_caller.0 in omega arith) in
      record {
        apart = apart_kept locks new caller
            (λ by n. get_or-set_other locks.exclusive caller by exclusive [] n)
            (λ by n. get_or-set_other locks.shared caller by shared [] n)
            (λ slot h. own_free slot (ap (has_slot slot) (sym own_exclusive) ∙ h))
            (λ slot by n held. ap (λ v. has_slot slot v || has_slot slot (shared_of caller new)) own_exclusive ∙ (ap (λ v. has_slot slot exclusive || has_slot slot v) own_shared ∙ others_free slot by n held))
            lawful;
        shared_len = length-set locks.shared caller shared ∙ lawful.shared_len;
        exclusive_len = length-set locks.exclusive caller exclusive ∙ lawful.exclusive_len;
        nobody = (get_or-set_other locks.shared caller 0 shared [] other ∙ lawful.nobody.0, get_or-set_other locks.exclusive caller 0 exclusive [] other ∙ lawful.nobody.1);
        shared_below = All-set (AreBelow locks.slots) locks.shared caller shared below_shared lawful.shared_below;
        exclusive_below = All-set (AreBelow locks.slots) locks.exclusive caller exclusive below_exclusive lawful.exclusive_below;
      }

-- a caller's shared lock was moved
module _ (locks : Locks) (caller : ℕ) (from to : Vid) (lawful : IsLawful locks)
    (held : has_slot from.slot (shared_of caller locks) ≡ true) (free : IsNowhereExclusive locks to) where
  now_shared : List Vid
  now_shared = moved from to (shared_of caller locks)

  moved_to : Locks
  moved_to = record locks { shared = set locks.shared caller now_shared }

  holds_some : caller < length locks.shared
  holds_some = elim (cases_lt caller (length locks.shared)) [
    | inl within ↦ within
    | inr past ↦ absurd (false≢true (sym (ap (has_slot from.slot) (get_or_past locks.shared caller [] past)) ∙ held))
  ]

  not_nobody : 0 ≢ caller
  not_nobody e = false≢true (sym (ap (has_slot from.slot) lawful.nobody.0) ∙ (ap (λ c. has_slot from.slot (shared_of c locks)) e ∙ held))

  -- nothing that another holds exclusively
  slots_moved : (slot by : ℕ) → by ≢ caller → has_slot slot (exclusive_of by locks) ≡ true
      → (has_slot slot (exclusive_of caller locks) ≡ false) × (has_slot slot now_shared ≡ false)
  unfolding now_shared
  slots_moved slot by n exclusive =
      let vid : Vid = record { slot = slot; generation = 0 } in
      let clear = or_parts (has_slot slot (exclusive_of caller locks)) (has_slot slot (shared_of caller locks)) (other_free caller by (bars caller Exclusive slot locks) (λ e. n (sym e)) (lawful.apart by vid exclusive caller)) in (
        clear.0,
        elim (cases_eq slot to.slot) [
          | inl e ↦ absurd (both_ways (has_slot to.slot (exclusive_of by locks)) (free by) (ap (λ s. has_slot s (exclusive_of by locks)) (sym e) ∙ exclusive))
          | inr m ↦ elim (cases_eq slot from.slot) [
            | inl e ↦ absurd (both_ways (has_slot slot (shared_of caller locks)) clear.1 (ap (λ s. has_slot s (shared_of caller locks)) e ∙ held))
            | inr k ↦ has_others from to (shared_of caller locks) slot m k ∙ clear.1
          ]
        ],
      )

  pub moved_lawful : to.slot < locks.slots → IsLawful (record locks { shared = set locks.shared caller (moved from to (shared_of caller locks)) })
  unfolding now_shared moved_to
  moved_lawful below = record {
    apart = apart_kept locks moved_to caller
        (λ by n. refl)
        (λ by n. get_or-set_other locks.shared caller by now_shared [] n)
        (λ slot h by n. other_free by caller (bars by Exclusive slot locks) n (lawful.apart caller (record { slot = slot; generation = 0 }) h by))
        (λ slot by n exclusive. let clear = slots_moved slot by n exclusive in
        ap (λ v. has_slot slot (exclusive_of caller locks) || has_slot slot v) (get_or-set_same locks.shared caller now_shared [] holds_some) ∙ or_from (has_slot slot (exclusive_of caller locks)) (has_slot slot now_shared) clear.0 clear.1)
        lawful;
    shared_len = length-set locks.shared caller now_shared ∙ lawful.shared_len;
    exclusive_len = lawful.exclusive_len;
    nobody = (get_or-set_other locks.shared caller 0 now_shared [] not_nobody ∙ lawful.nobody.0, lawful.nobody.1);
    shared_below = All-set (AreBelow locks.slots) locks.shared caller now_shared (below_moved from to locks.slots (shared_of caller locks) below (lawful.shared_below caller [] holds_some)) lawful.shared_below;
    exclusive_below = lawful.exclusive_below;
  }
