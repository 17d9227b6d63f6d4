-- What is true of a table's fields stays so where a row takes or loses a vnode.
use Rattle.std.proofs.Common.{ℕ, ◌≡◌, ◌≢◌, ◌<◌, ◌+◌, Bool, true, false, ◌==◌, ◌||◌, ◌&&◌, refl, sym, ap, ◌∙◌, subst, List, [], ◌∷◌, ◌++◌, length, arith, slice_get, slice_set, All, Some, IsSome, length-append}
use Rattle.std.proofs.lemmas.List.{length-set, get_or_append_left, get_or-set_same, set-set}
use Rattle.std.proofs.Math.Seq.{get_or-append_seam}
use Rattle.std.proofs.lemmas.List.Elements.{All-set, All-push}
use Rattle.op_vector.specs.declared.data.Vid.{Vid}
use Rattle.op_vector.specs.declared.rack.RackOf.{RackOf}
use Rattle.free_list.specs.Queue.{Queue, member, without}
use Rattle.free_list.proofs.Queues.{yes_eq, no_eq, eq_yes, eq_no, gone, others, pushed}
use Rattle.vnode_rec.specs.declared.slot.Slot.{Slot}
use Rattle.vnode_rec.specs.Holders.{Held, occurs, row_in, pushed as pushed_row}
use Rattle.vnode_rec.specs.Vnodes.{Table, is_filled, slot_in}
use Rattle.vnode_rec.specs.Effects.{queued, LeftRow}
use Rattle.vnode_rec.specs.Sound.{HaveSizes, IsSound}
use Rattle.vnode_rec.proofs.Counts.{occurs_push, occurs_pop}
use Rattle.vnode_rec.proofs.Slots.{and_false, found, current_below}

or_false : (b : Bool) → (b || false) ≡ b
or_false true = refl
or_false false = refl

or_true : (b : Bool) → (b || true) ≡ true
or_true true = refl
or_true false = refl

pub queued_other : (b : Bool) (j s : ℕ) (q : List ℕ) → j ≢ s → member j (queued b s q) ≡ member j q
queued_other true j s q n = pushed j s q ∙ rw (eq_no j s n) (or_false (member j q))
queued_other false j s q n = refl

pub queued_same : (s : ℕ) (q : List ℕ) → member s (queued true s q) ≡ true
queued_same s q = pushed s s q ∙ rw (eq_yes s s refl) (or_true (member s q))

module _ {X : Type 0} (slots : List (Slot X)) (held : Held) (free empty : Queue) (place : List ℕ) (linked chains : ℕ) (rack : RackOf X) (sound : IsSound slots held free empty place linked chains rack) (i : ℕ) (v : Vid) (ir : i < length held.rows) where
  -- other rows, and another queue of free slots, change no number
  sizes_with : (rows : List (List Vid)) → length rows ≡ length held.rows → (queue : List ℕ) → HaveSizes slots (record held { rows = rows }) (record free { queue = queue }) empty place linked chains
  sizes_with rows ln queue =
      let sizes = sound.sizes in
      let few = sizes.few in
      record {
        held_len = sizes.held_len;
        free_len = sizes.free_len;
        empty_len = sizes.empty_len;
        linked_len = sizes.linked_len;
        place_len = sizes.place_len;
        few = rw ln few;
        small = sizes.small;
        some_chains = sizes.some_chains;
      }

  module _ (current : IsSome (slot_in slots v)) where
    pub took_sound : IsSound slots (record held { rows = pushed_row i v held.rows }) (record free { queue = without v.slot free.queue }) empty place linked chains rack
    took_sound =
        let rows' : List (List Vid) = pushed_row i v held.rows in
        let ln : length rows' ≡ length held.rows = length-set held.rows i (row_in held.rows i ++ v ∷ []) in
        record {
          sizes = sizes_with rows' ln _;
          current = All-set (All (λ (w : Vid). IsSome (slot_in slots w))) held.rows i (row_in held.rows i ++ v ∷ []) (All-push (λ (w : Vid). IsSome (slot_in slots w)) (row_in held.rows i) v (sound.current i [] ir) current) sound.current;
          listed = λ j x e. (
              let l = sound.listed j x e in
              let p = occurs_push j held.rows i v ir in
              record {
                is_free = (elim (v.slot == j) as (λ b. (v.slot == j) ≡ b → member j (without v.slot free.queue) ≡ (is_filled x && (occurs j rows' == 0))) [
                  | true ↦ λ t. (
                      let q : v.slot ≡ j = yes_eq v.slot j t in
                      let p' = rw t at p in
                      let z : (occurs j rows' == 0) ≡ false = eq_no (occurs j rows') 0 (λ k. omega (arith, k, p')) in
                      rw (z, and_false (is_filled x)) (subst (λ k. member k (without v.slot free.queue) ≡ false) q (gone v.slot free.queue))
                      )
                  | false ↦ λ t. (
                      let p' = rw t at p in
                      let k : occurs j rows' ≡ occurs j held.rows = omega (arith, p') in
                      others j v.slot free.queue (λ q. no_eq v.slot j t (sym q)) ∙ (l.is_free ∙ ap (λ n. is_filled x && (n == 0)) (sym k))
                      )
                ]) refl;
                is_empty = l.is_empty;
                low = l.low;
                placed = l.placed;
              }
              );
          unique = sound.unique;
          supplied = sound.supplied;
        }

  module _ (r : List Vid) (was : row_in held.rows i ≡ r ++ v ∷ []) where
    all_was : All (λ (w : Vid). IsSome (slot_in slots w)) (r ++ v ∷ [])
    all_was = subst (λ (l : List Vid). All (λ (w : Vid). IsSome (slot_in slots w)) l) was (sound.current i [] ir)

    pub popped_current : IsSome (slot_in slots v)
    popped_current = subst (λ (w : Vid). IsSome (slot_in slots w)) (get_or-append_seam r v [] v) (all_was (length r) v (rw (length-append r (v ∷ [])) (omega arith)))

    pub popped_below : v.slot < length slots
    popped_below = current_below slots v popped_current

    pub popped_absent : member v.slot free.queue ≡ false
    popped_absent =
        let f = found slots v popped_current in
        let l = sound.listed v.slot f.slot f.was in
        let p = occurs_pop v.slot held.rows i r v ir was in
        let p' = rw (eq_yes v.slot v.slot refl) at p in
        let z : (occurs v.slot held.rows == 0) ≡ false = eq_no (occurs v.slot held.rows) 0 (λ k. omega (arith, k, p')) in
        l.is_free ∙ rw z (and_false (is_filled f.slot))

    here : member v.slot (queued (occurs v.slot (slice_set held.rows i r) == 0) v.slot free.queue) ≡ (occurs v.slot (slice_set held.rows i r) == 0)
    here = elim (occurs v.slot (slice_set held.rows i r) == 0) as (λ b. member v.slot (queued b v.slot free.queue) ≡ b) [
      | true ↦ queued_same v.slot free.queue
      | false ↦ popped_absent
    ]

    pub left_sound : IsSound slots (record held { rows = slice_set held.rows i r }) (record free { queue = queued (occurs v.slot (slice_set held.rows i r) == 0) v.slot free.queue }) empty place linked chains rack
    left_sound =
        let rows' : List (List Vid) = slice_set held.rows i r in
        let ln : length rows' ≡ length held.rows = length-set held.rows i r in
        let la : length (r ++ v ∷ []) ≡ length r + 1 = length-append r (v ∷ []) in
        let f = found slots v popped_current in
        record {
          sizes = sizes_with rows' ln _;
          current = All-set (All (λ (w : Vid). IsSome (slot_in slots w))) held.rows i r (λ k d h. subst (λ (w : Vid). IsSome (slot_in slots w)) (get_or_append_left r (v ∷ []) d k h) (all_was k d (omega (arith, h, la)))) sound.current;
          listed = λ j x e. (
              let l = sound.listed j x e in
              let p = occurs_pop j held.rows i r v ir was in
              record {
                is_free = (elim (v.slot == j) as (λ b. (v.slot == j) ≡ b → member j (queued (occurs v.slot rows' == 0) v.slot free.queue) ≡ (is_filled x && (occurs j rows' == 0))) [
                  | true ↦ λ t. (
                      let q : v.slot ≡ j = yes_eq v.slot j t in
                      let both : Some f.slot ≡ Some x = sym f.was ∙ (ap (slice_get slots) q ∙ e) in
                      let same : f.slot ≡ x = cc in
                      let full : is_filled x ≡ true = subst (λ (y : Slot X). is_filled y ≡ true) same f.filled in
                      rw full (subst (λ k. member k (queued (occurs v.slot rows' == 0) v.slot free.queue) ≡ (occurs k rows' == 0)) q here)
                      )
                  | false ↦ λ t. (
                      let p' = rw t at p in
                      let k : occurs j rows' ≡ occurs j held.rows = omega (arith, p') in
                      queued_other (occurs v.slot rows' == 0) j v.slot free.queue (λ q. no_eq v.slot j t (sym q)) ∙ (l.is_free ∙ ap (λ n. is_filled x && (n == 0)) (sym k))
                      )
                ]) refl;
                is_empty = l.is_empty;
                low = l.low;
                placed = l.placed;
              }
              );
          unique = sound.unique;
          supplied = sound.supplied;
        }

    -- what a row lets go, by the rows that are left
    module _ (held' : Held) (free' : Queue) (is : held' ≡ record held { rows = slice_set held.rows i r }) (queued_is : free' ≡ record free { queue = queued (occurs v.slot held'.rows == 0) v.slot free.queue }) where
      rows_are : held'.rows ≡ slice_set held.rows i r
      rows_are = ap (λ (h : Held). h.rows) is

      free_is : free' ≡ record free { queue = queued (occurs v.slot (slice_set held.rows i r) == 0) v.slot free.queue }
      free_is = queued_is ∙ ap (λ rows. record free { queue = queued (occurs v.slot rows == 0) v.slot free.queue }) rows_are

      pub let_go_sound : IsSound slots held' free' empty place linked chains rack
      let_go_sound = rw (is, free_is) left_sound

      pub let_go_row : LeftRow i (record { slots = slots; rows = held.rows; uses = held.uses; free = free; rack = rack }) v (record { slots = slots; rows = held'.rows; uses = held'.uses; free = free'; rack = rack })
      let_go_row =
          let kept : row_in held'.rows i ≡ r = ap (λ rows. row_in rows i) rows_are ∙ get_or-set_same held.rows i r [] ir in
          record {
            was = was ∙ ap (λ (w : List Vid). w ++ v ∷ []) (sym kept);
            current = popped_current;
            now =
                ap (λ (rows : List (List Vid)). record { slots = slots; rows = rows; uses = held'.uses; free = free'; rack = rack }) (rows_are ∙ ap (slice_set held.rows i) (sym kept))
                ∙ (ap (λ (uses : ℕ). record { slots = slots; rows = slice_set held.rows i (row_in held'.rows i); uses = uses; free = free'; rack = rack }) (ap (λ (h : Held). h.uses) is)
                ∙ ap (λ (q : Queue). record { slots = slots; rows = slice_set held.rows i (row_in held'.rows i); uses = held.uses; free = q; rack = rack }) queued_is);
          }

-- the uppermost vnode of a row of the table is let go
module _ {X : Type 0} (slots : List (Slot X)) (held : Held) (free empty : Queue) (place : List ℕ) (linked chains : ℕ) (rack : RackOf X) (sound : IsSound slots held free empty place linked chains rack)
    {t : Table X} (is : ◌≡◌ {A = Table X} (record { slots = slots; rows = held.rows; uses = held.uses; free = free; rack = rack }) t)
    (i : ℕ) (there : i < length t.rows) (v : Vid) (held' : Held) (popped : row_in held.rows i ≡ row_in held'.rows i ++ v ∷ []) where
  in_rows : i < length held.rows
  in_rows = subst (λ (t : Table X). i < length t.rows) (sym is) there

  pub gone_below : v.slot < free.slots
  gone_below = let b = popped_below slots held free empty place linked chains rack sound i v in_rows (row_in held'.rows i) popped in let e = sound.sizes.free_len in omega (arith, b, e)

  pub gone_absent : member v.slot free.queue ≡ false
  gone_absent = popped_absent slots held free empty place linked chains rack sound i v in_rows (row_in held'.rows i) popped

  module _ (others : held' ≡ record held { rows = slice_set held.rows i (row_in held'.rows i) }) (count : ℕ) (counted : count ≡ occurs v.slot held'.rows) (free' : Queue)
      (queued_if : free' ≡ record free { queue = queued (count == 0) v.slot free.queue }) where
    queued_is : free' ≡ record free { queue = queued (occurs v.slot held'.rows == 0) v.slot free.queue }
    queued_is = queued_if ∙ ap (λ n. record free { queue = queued (n == 0) v.slot free.queue }) counted

    pub gone_sound : IsSound slots held' free' empty place linked chains rack
    gone_sound = let_go_sound slots held free empty place linked chains rack sound i v in_rows (row_in held'.rows i) popped held' free' others queued_is

    pub gone_row : LeftRow i t v (record { slots = slots; rows = held'.rows; uses = held'.uses; free = free'; rack = rack })
    gone_row =
        subst (λ (t : Table X). LeftRow i t v (record { slots = slots; rows = held'.rows; uses = held'.uses; free = free'; rack = rack })) is
        (let_go_row slots held free empty place linked chains rack sound i v in_rows (row_in held'.rows i) popped held' free' others queued_is)

-- rows that lose one vnode after another
module _ {X : Type 0} (t s u : Table X) (row : ℕ) (v : Vid) where
  pub left_again : s ≡ record t { rows = slice_set t.rows row (row_in s.rows row); free = s.free } → LeftRow row s v u → u ≡ record t { rows = slice_set t.rows row (row_in u.rows row); free = u.free }
  left_again before left =
      let make : List (Slot X) → List (List Vid) → ℕ → RackOf X → Table X = λ slots rows uses rack. record { slots = slots; rows = rows; uses = uses; free = u.free; rack = rack } in
      let slots : u.slots ≡ t.slots = ap (λ (w : Table X). w.slots) left.now ∙ ap (λ (w : Table X). w.slots) before in
      let uses : u.uses ≡ t.uses = ap (λ (w : Table X). w.uses) left.now ∙ ap (λ (w : Table X). w.uses) before in
      let rack : u.rack ≡ t.rack = ap (λ (w : Table X). w.rack) left.now ∙ ap (λ (w : Table X). w.rack) before in
      let rows : u.rows ≡ slice_set t.rows row (row_in u.rows row) =
      ap (λ (w : Table X). w.rows) left.now ∙ (ap (λ (w : List (List Vid)). slice_set w row (row_in u.rows row)) (ap (λ (w : Table X). w.rows) before) ∙ set-set t.rows row (row_in s.rows row) (row_in u.rows row)) in
      ap (λ (w : List (Slot X)). make w u.rows u.uses u.rack) slots ∙ (ap (λ (w : List (List Vid)). make t.slots w u.uses u.rack) rows ∙ (ap (λ w. make t.slots (slice_set t.rows row (row_in u.rows row)) w u.rack) uses ∙ ap (λ (w : RackOf X). make t.slots (slice_set t.rows row (row_in u.rows row)) t.uses w) rack))
