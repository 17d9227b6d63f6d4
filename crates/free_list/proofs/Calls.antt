-- What the calls read of a ring, and the ring that each leaves.
use Rattle.std.proofs.Common.{ℕ, ◌≡◌, ◌≢◌, ◌<◌, true, false, not, ◌==◌, ◌∙◌, List, [], ◌∷◌, ◌++◌, length, nat_eq, get_or, slice_set, arith, All}
use Rattle.std.proofs.lemmas.Grind.{get_or_default_zero}
use Rattle.std.specs.List.{IsDistinct}
use Rattle.free_list.specs.Queue.{member, without}
use Rattle.free_list.specs.Links.{at, chased, IsRing}
use Rattle.free_list.proofs.Queues.{distinct, all_below}
use Rattle.free_list.proofs.Rings.{s_below, before_below, after_below, cut_ring, last_below, put_ring, has_spec, front_in}

-- what an index read is the link
link_of : (links : List ℕ) (i v : ℕ) → i < length links → v ≡ get_or links i v → v ≡ at links i
link_of links i v h e = e ∙ get_or_default_zero links i v h

module _ {next prev : List ℕ} {z : ℕ} (ring : IsRing next prev z) where
  end_in_next : z < length next
  end_in_next = let e = ring.next_len in omega arith

  end_in_prev : z < length prev
  end_in_prev = let e = ring.prev_len in omega arith

  -- taking a slot of the list out
  module _ (s : ℕ) (listed : member s (chased next z) ≡ true) where
    pub slot_in_next : s < length next
    slot_in_next = let e = ring.next_len in let h = s_below next prev z ring s listed in omega arith

    pub slot_in_prev : s < length prev
    slot_in_prev = let e = ring.prev_len in let h = s_below next prev z ring s listed in omega arith

    pub before_in_next : (before : ℕ) → before ≡ get_or prev s before → before < length next
    before_in_next before reads =
        let is = link_of prev s before slot_in_prev reads in
        let e = ring.next_len in
        let h = before_below next prev z ring s listed in
        omega arith

    pub after_in_prev : (after : ℕ) → after ≡ get_or next s after → after < length prev
    after_in_prev after reads =
        let is = link_of next s after slot_in_next reads in
        let e = ring.prev_len in
        let h = after_below next prev z ring s listed in
        omega arith

    pub removed : (before after : ℕ) → before ≡ get_or prev s before → after ≡ get_or next s after
        → IsRing (slice_set (slice_set next before after) s s) (slice_set (slice_set prev after before) s s) z × (chased (slice_set (slice_set next before after) s s) z ≡ without s (chased next z))
    removed before after reads reads' = cut_ring next prev z ring s listed before after (link_of prev s before slot_in_prev reads) (link_of next s after slot_in_next reads')

  -- putting a slot at the back
  module _ (s : ℕ) (below : s < z) (absent : member s (chased next z) ≡ false) (last : ℕ) (reads : last ≡ get_or prev z last) where
    pub last_in_next : last < length next
    last_in_next =
        let is = link_of prev z last end_in_prev reads in
        let e = ring.next_len in
        let h = last_below next prev z ring in
        omega arith

    pub pushed_back : IsRing (slice_set (slice_set next last s) s z) (slice_set (slice_set prev s last) z s) z × (chased (slice_set (slice_set next last s) s z) z ≡ chased next z ++ s ∷ [])
    pushed_back = put_ring next prev z ring s below absent last (link_of prev z last end_in_prev reads)

  -- looking
  pub tells : (s v : ℕ) → s < z → v ≡ get_or next s v → not (v == s) ≡ member s (chased next z)
  tells s v below reads =
      let e = ring.next_len in
      let within : s < length next = omega arith in
      has_spec next prev z s v ring below (link_of next s v within reads)

  pub lists_below : All (λ slot. slot < z) (chased next z)
  lists_below = all_below z (chased next z) ring.apart

  pub lists_distinct : IsDistinct nat_eq (chased next z)
  lists_distinct = distinct z (chased next z) ring.apart

  module _ (front : ℕ) (reads : front ≡ get_or next z front) where
    pub some_at_front : front ≢ z → (front < z) × (member front (chased next z) ≡ true) × (chased next z ≡ front ∷ without front (chased next z))
    some_at_front n = front_in next prev z front ring (link_of next z front end_in_next reads) n
