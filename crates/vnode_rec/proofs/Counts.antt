-- Counts as occurrences in rows.
use Rattle.std.proofs.Common.{ℕ, ◌≡◌, ◌<◌, ◌≤◌, ◌+◌, ◌-◌, ◌*◌, ◌^◌, Bool, true, false, ◌==◌, cond, refl, sym, ap, ◌∙◌, subst, List, [], ◌∷◌, ◌++◌, length, take, arith, slice_index, slice_index_or, slice_set, get_or, All, length-append, ltb}
use Rattle.std.proofs.lemmas.List.{get_or-set_same, get_or-set_other, take-set-le, get_or-take, length-set, length-take-le, get_or_append_left}
use Rattle.std.proofs.Math.Seq.{take-set-lt, get_or-append_seam}
use Rattle.std.proofs.lemmas.Option.{get_or_from_slice_get, slice_get-get_or}
use Rattle.std.proofs.lemmas.List.Sums.{sum_by-set, sum_by_push, sum_by-le, sum_by-take-le, count_by-le-length}
use Rattle.std.proofs.lemmas.List.Elements.{All-set, All-push}
use Rattle.op_vector.specs.declared.data.Vid.{Vid}
use Rattle.free_list.proofs.Queues.{yes_eq, no_eq, eq_yes}
use Rattle.vnode_rec.specs.Holders.{occurs, occurs_in, row_in, pushed, weight, AreCounted}

-- an item read at an index, whatever stands for one that is not there
pub any_default : {Y : Type 0} (xs : List Y) (i : ℕ) (d e : Y) → i < length xs → get_or xs i d ≡ get_or xs i e
any_default xs i d e h = get_or_from_slice_get xs i (get_or xs i e) d (slice_get-get_or xs i e h)

-- what an index read of the rows is the row
pub row_of : (rows : List (List Vid)) (i : ℕ) (r : List Vid) → i < length rows → r ≡ get_or rows i r → r ≡ row_in rows i
row_of rows i r h e = e ∙ any_default rows i r [] h

-- a row takes a vnode
pub occurs_push : (s : ℕ) (rows : List (List Vid)) (i : ℕ) (v : Vid) → i < length rows → occurs s (pushed i v rows) ≡ occurs s rows + cond (v.slot == s) 1 0
occurs_push s rows i v h =
    let a = sum_by-set (occurs_in s) rows i (row_in rows i ++ v ∷ []) [] h in
    let b = sum_by_push (λ (v : Vid). cond (v.slot == s) 1 0) (row_in rows i) v in
    omega (arith, a, b)

-- a row loses its last vnode
pub occurs_pop : (s : ℕ) (rows : List (List Vid)) (i : ℕ) (r : List Vid) (v : Vid) → i < length rows → row_in rows i ≡ r ++ v ∷ [] → occurs s rows ≡ occurs s (slice_set rows i r) + cond (v.slot == s) 1 0
occurs_pop s rows i r v h e =
    let a = sum_by-set (occurs_in s) rows i r [] h in
    let b = sum_by_push (λ (v : Vid). cond (v.slot == s) 1 0) r v in
    let c : occurs_in s (row_in rows i) ≡ occurs_in s (r ++ v ∷ []) = ap (occurs_in s) e in
    omega (arith, a, b, c)

pub occurs_le : (s : ℕ) (rows : List (List Vid)) → All (λ r. length r ≤ 9) rows → occurs s rows ≤ length rows * 9
occurs_le s rows short = sum_by-le (occurs_in s) 9 rows (λ k d h. (let l = short k d h in let c = count_by-le-length (λ (v : Vid). v.slot == s) (slice_index_or rows k d) in omega (arith, l, c)))

weight_in : (uses i : ℕ) → i < uses → weight uses i ≡ 1
weight_in uses i h = rw (ltb_yes i uses h) refl
  where
    ltb_yes : (i n : ℕ) → i < n → ltb i n ≡ true
    ltb_yes i n h = grind arith

weight_out : (uses i : ℕ) → uses ≤ i → weight uses i ≡ 0
weight_out uses i h = rw (ltb_no i uses h) refl
  where
    ltb_no : (i n : ℕ) → n ≤ i → ltb i n ≡ false
    ltb_no i n h = grind arith

none_or : (b : Bool) → cond {A = ℕ} b 0 0 ≡ 0
none_or true = refl
none_or false = refl

in_range : (i n : ℕ) → ltb i n ≡ true → i < n
in_range i n h = grind arith

out_range : (i n : ℕ) → ltb i n ≡ false → n ≤ i
out_range i n h = grind arith

-- the use rows take or lose a vnode where the row is one of them
pub front_push : (s uses : ℕ) (rows : List (List Vid)) (i : ℕ) (v : Vid) → i < length rows → uses ≤ length rows → occurs s (take uses (pushed i v rows)) ≡ occurs s (take uses rows) + cond (v.slot == s) (weight uses i) 0
front_push s uses rows i v h su = (elim (ltb i uses) as (λ b. ltb i uses ≡ b → occurs s (take uses (pushed i v rows)) ≡ occurs s (take uses rows) + cond (v.slot == s) (cond b 1 0) 0) [
  | true ↦ λ t. (
      let iu : i < uses = in_range i uses t in
      let e : take uses (pushed i v rows) ≡ slice_set (take uses rows) i (row_in rows i ++ v ∷ []) = take-set-lt uses rows i (row_in rows i ++ v ∷ []) iu in
      let r : row_in (take uses rows) i ≡ row_in rows i = get_or-take uses rows i [] iu in
      let ln : length (take uses rows) ≡ uses = length-take-le uses rows su in
      let p = occurs_push s (take uses rows) i v (rw ln iu) in
      ap (occurs s) (e ∙ ap (λ (w : List Vid). slice_set (take uses rows) i (w ++ v ∷ [])) (sym r)) ∙ p
      )
  | false ↦ λ t. (
      let ui : uses ≤ i = out_range i uses t in
      let e : take uses (pushed i v rows) ≡ take uses rows = take-set-le uses rows i (row_in rows i ++ v ∷ []) ui in
      let z = none_or (v.slot == s) in
      let a = ap (occurs s) e in
      omega (arith, a, z)
      )
]) refl

pub front_pop : (s uses : ℕ) (rows : List (List Vid)) (i : ℕ) (r : List Vid) (v : Vid) → i < length rows → uses ≤ length rows → row_in rows i ≡ r ++ v ∷ [] → occurs s (take uses rows) ≡ occurs s (take uses (slice_set rows i r)) + cond (v.slot == s) (weight uses i) 0
front_pop s uses rows i r v h su was = (elim (ltb i uses) as (λ b. ltb i uses ≡ b → occurs s (take uses rows) ≡ occurs s (take uses (slice_set rows i r)) + cond (v.slot == s) (cond b 1 0) 0) [
  | true ↦ λ t. (
      let iu : i < uses = in_range i uses t in
      let e : take uses (slice_set rows i r) ≡ slice_set (take uses rows) i r = take-set-lt uses rows i r iu in
      let w : row_in (take uses rows) i ≡ row_in rows i = get_or-take uses rows i [] iu in
      let ln : length (take uses rows) ≡ uses = length-take-le uses rows su in
      let p = occurs_pop s (take uses rows) i r v (rw ln iu) (w ∙ was) in
      let a = ap (occurs s) e in
      omega (arith, a, p)
      )
  | false ↦ λ t. (
      let ui : uses ≤ i = out_range i uses t in
      let e : take uses (slice_set rows i r) ≡ take uses rows = take-set-le uses rows i r ui in
      let z = none_or (v.slot == s) in
      let a = ap (occurs s) e in
      omega (arith, a, z)
      )
]) refl

-- one count is raised or lowered
pub raised_at : (counts : List ℕ) (slot by s : ℕ) → slot < length counts → slice_index (slice_set counts slot (slice_index counts slot + by)) s ≡ slice_index counts s + cond (slot == s) by 0
raised_at counts slot by s h = (elim (slot == s) as (λ b. (slot == s) ≡ b → slice_index (slice_set counts slot (slice_index counts slot + by)) s ≡ slice_index counts s + cond b by 0) [
  | true ↦ λ t. subst (λ k. slice_index (slice_set counts slot (slice_index counts slot + by)) k ≡ slice_index counts k + by) (yes_eq slot s t) (get_or-set_same counts slot (slice_index counts slot + by) 0 h)
  | false ↦ λ t. (let e = get_or-set_other counts slot s (slice_index counts slot + by) 0 (λ q. no_eq slot s t (sym q)) in omega (arith, e))
]) refl

pub lowered_at : (counts : List ℕ) (slot by s : ℕ) → slot < length counts → by ≤ slice_index counts slot → slice_index (slice_set counts slot (slice_index counts slot - by)) s + cond (slot == s) by 0 ≡ slice_index counts s
lowered_at counts slot by s h le = (elim (slot == s) as (λ b. (slot == s) ≡ b → slice_index (slice_set counts slot (slice_index counts slot - by)) s + cond b by 0 ≡ slice_index counts s) [
  | true ↦ λ t. subst (λ k. slice_index (slice_set counts slot (slice_index counts slot - by)) k + by ≡ slice_index counts k) (yes_eq slot s t) (let e = get_or-set_same counts slot (slice_index counts slot - by) 0 h in omega (arith, e, le))
  | false ↦ λ t. (let e = get_or-set_other counts slot s (slice_index counts slot - by) 0 (λ q. no_eq slot s t (sym q)) in omega (arith, e))
]) refl

weight_le : (uses i : ℕ) → weight uses i ≤ 1
weight_le uses i = elim (ltb i uses) as (λ b. cond b 1 0 ≤ 1) [ true ↦ omega arith | false ↦ omega arith ]

module _ (rows : List (List Vid)) (uses : ℕ) (uc hc : List ℕ) (are : AreCounted rows uses uc hc) where
  hold_small : (s : ℕ) → s < length hc → slice_index hc s < 2 ^ 32
  hold_small s h =
      let a = are.hold_count s h in
      let b = occurs_le s rows are.short in
      let c = are.few in
      let d = are.small in
      omega (arith, a, b, c, d)

  use_small : (s : ℕ) → s < length hc → slice_index uc s < 2 ^ 32
  use_small s h =
      let a = are.use_count s h in
      let e = sum_by-take-le (occurs_in s) rows uses in
      let b = occurs_le s rows are.short in
      let c = are.few in
      let d = are.small in
      omega (arith, a, b, c, d, e)

  -- a row takes a vnode
  module _ (i : ℕ) (v : Vid) (ir : i < length rows) (room : length (row_in rows i) < 9) (below : v.slot < length hc) where
    pub use_within : v.slot < length uc
    use_within = let e = are.use_len in omega (arith, e)

    pub use_raise : slice_index uc v.slot + weight uses i < 2 ^ 63
    use_raise = let a = use_small v.slot below in let b = weight_le uses i in omega (arith, a, b)

    pub hold_raise : slice_index hc v.slot + 1 < 2 ^ 63
    hold_raise = let a = hold_small v.slot below in omega (arith, a)

    pub took : AreCounted (pushed i v rows) uses (slice_set uc v.slot (slice_index uc v.slot + weight uses i)) (slice_set hc v.slot (slice_index hc v.slot + 1))
    took =
        let row : List Vid = row_in rows i ++ v ∷ [] in
        let ul : length (slice_set uc v.slot (slice_index uc v.slot + weight uses i)) ≡ length uc = length-set uc v.slot (slice_index uc v.slot + weight uses i) in
        let hl : length (slice_set hc v.slot (slice_index hc v.slot + 1)) ≡ length hc = length-set hc v.slot (slice_index hc v.slot + 1) in
        let rl : length (pushed i v rows) ≡ length rows = length-set rows i row in
        let few = are.few in
        let small = are.small in
        let su = are.some_uses in
        let long : length row ≡ length (row_in rows i) + 1 = length-append (row_in rows i) (v ∷ []) in
        record {
          use_len = ul ∙ (are.use_len ∙ sym hl);
          few = rw (hl, rl) few;
          small = rw hl small;
          some_uses = rw rl su;
          short = All-set (λ (r : List Vid). length r ≤ 9) rows i row (omega (arith, long, room)) are.short;
          below = subst (λ n. All (All (λ (w : Vid). w.slot < n)) (pushed i v rows)) (sym hl) (All-set (All (λ (w : Vid). w.slot < length hc)) rows i row (All-push (λ (w : Vid). w.slot < length hc) (row_in rows i) v (are.below i [] ir) below) are.below);
          use_count = λ s h. raised_at uc v.slot (weight uses i) s use_within ∙ (let a = are.use_count s (rw hl at h) in let b = front_push s uses rows i v ir su in omega (arith, a, b));
          hold_count = λ s h. raised_at hc v.slot 1 s below ∙ (let a = are.hold_count s (rw hl at h) in let b = occurs_push s rows i v ir in omega (arith, a, b));
        }

  -- a row loses its last vnode
  module _ (i : ℕ) (r : List Vid) (v : Vid) (ir : i < length rows) (was : row_in rows i ≡ r ++ v ∷ []) where
    whole : All (λ (w : Vid). w.slot < length hc) (r ++ v ∷ [])
    whole = subst (λ (l : List Vid). All (λ (w : Vid). w.slot < length hc) l) was (are.below i [] ir)

    pub popped_below : v.slot < length hc
    popped_below = subst (λ (w : Vid). w.slot < length hc) (get_or-append_seam r v [] v) (whole (length r) v (rw (length-append r (v ∷ [])) (omega arith)))

    pub use_lower : weight uses i ≤ slice_index uc v.slot
    use_lower =
        let a = are.use_count v.slot popped_below in
        let b = front_pop v.slot uses rows i r v ir are.some_uses was in
        let c = rw (eq_yes v.slot v.slot refl) at b in
        omega (arith, a, c)

    pub hold_lower : 1 ≤ slice_index hc v.slot
    hold_lower =
        let a = are.hold_count v.slot popped_below in
        let b = occurs_pop v.slot rows i r v ir was in
        let c = rw (eq_yes v.slot v.slot refl) at b in
        omega (arith, a, c)

    pub left : AreCounted (slice_set rows i r) uses (slice_set uc v.slot (slice_index uc v.slot - weight uses i)) (slice_set hc v.slot (slice_index hc v.slot - 1))
    left =
        let ul : length (slice_set uc v.slot (slice_index uc v.slot - weight uses i)) ≡ length uc = length-set uc v.slot (slice_index uc v.slot - weight uses i) in
        let hl : length (slice_set hc v.slot (slice_index hc v.slot - 1)) ≡ length hc = length-set hc v.slot (slice_index hc v.slot - 1) in
        let rl : length (slice_set rows i r) ≡ length rows = length-set rows i r in
        let few = are.few in
        let small = are.small in
        let su = are.some_uses in
        let ue = are.use_len in
        let below = popped_below in
        let sh : length (r ++ v ∷ []) ≤ 9 = subst (λ (l : List Vid). length l ≤ 9) was (are.short i [] ir) in
        let long : length (r ++ v ∷ []) ≡ length r + 1 = length-append r (v ∷ []) in
        record {
          use_len = ul ∙ (are.use_len ∙ sym hl);
          few = rw (hl, rl) few;
          small = rw hl small;
          some_uses = rw rl su;
          short = All-set (λ (r : List Vid). length r ≤ 9) rows i r (omega (arith, sh, long)) are.short;
          below = subst (λ n. All (All (λ (w : Vid). w.slot < n)) (slice_set rows i r)) (sym hl) (All-set (All (λ (w : Vid). w.slot < length hc)) rows i r (λ k d h. subst (λ (w : Vid). w.slot < length hc) (get_or_append_left r (v ∷ []) d k h) (whole k d (omega (arith, h, long)))) are.below);
          use_count = λ s h. (
              let l = lowered_at uc v.slot (weight uses i) s (omega (arith, below, ue)) use_lower in
              let a = are.use_count s (rw hl at h) in
              let b = front_pop s uses rows i r v ir su was in
              omega (arith, l, a, b)
              );
          hold_count = λ s h. (
              let l = lowered_at hc v.slot 1 s below hold_lower in
              let a = are.hold_count s (rw hl at h) in
              let b = occurs_pop s rows i r v ir was in
              omega (arith, l, a, b)
              );
        }

-- empty rows have no vnode
pub occurs_none : (s : ℕ) (rows : List (List Vid)) → All (λ row. row ≡ []) rows → occurs s rows ≡ 0
occurs_none s rows none = let a = sum_by-le (occurs_in s) 0 rows (λ k d h. (let e = ap (occurs_in s) (none k d h) in omega (arith, e))) in omega (arith, a)

pub nothing_counted : (rows : List (List Vid)) (uses : ℕ) (uc hc : List ℕ) → length uc ≡ length hc → 9 * length rows ≤ length hc → length hc < 2 ^ 32 → uses ≤ length rows
    → All (λ row. row ≡ []) rows → ((s : ℕ) → slice_index uc s ≡ 0) → ((s : ℕ) → slice_index hc s ≡ 0) → AreCounted rows uses uc hc
nothing_counted rows uses uc hc ul few small su none zu zh = record {
  use_len = ul;
  few = few;
  small = small;
  some_uses = su;
  short = λ k d h. (let e = ap length (none k d h) in omega (arith, e));
  below = λ k d h. subst (All (λ (w : Vid). w.slot < length hc)) (sym (none k d h)) (λ j w i. absurd (omega (arith, i)));
  use_count = λ s h. zu s ∙ (let a = sum_by-take-le (occurs_in s) rows uses in let b = occurs_none s rows none in omega (arith, a, b));
  hold_count = λ s h. zh s ∙ sym (occurs_none s rows none);
}
