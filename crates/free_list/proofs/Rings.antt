-- What each call makes of a ring.
use Rattle.std.proofs.Common.{ℕ, ◌≡◌, ◌≢◌, ◌<◌, ◌+◌, true, false, ◌==◌, refl, sym, ap, ◌∙◌, subst, inl, inr, List, [], ◌∷◌, ◌++◌, length, arith, slice_set, not}
use Rattle.std.proofs.lemmas.List.{get_or-set_same, get_or-set_other, length-set}
use Rattle.free_list.specs.Queue.{member, without}
use Rattle.free_list.specs.Links.{at, chased, Path, Apart, IsRing}
use Rattle.free_list.proofs.Queues.{eq_no, eq_yes, no_eq, yes_eq, out_head, apart_ne, below, without_none, out_before, out_pushed, apart_without, apart_push, end_out, few}
use Rattle.free_list.proofs.Chains.{chase-path, last_in, before_in, after_in, cut, put, before_ne, after_ne}

pub at_same : (xs : List ℕ) (i v : ℕ) → i < length xs → at (slice_set xs i v) i ≡ v
at_same xs i v h = get_or-set_same xs i v 0 h

pub at_other : (xs : List ℕ) (i j v : ℕ) → j ≢ i → at (slice_set xs i v) j ≡ at xs j
at_other xs i j v h = get_or-set_other xs i j v 0 h

module _ (next prev : List ℕ) (z : ℕ) (ring : IsRing next prev z) where
  pub end_far : member z (chased next z) ≡ false
  end_far = end_out z (chased next z) ring.apart

  made : (next' prev' : List ℕ) (ys : List ℕ) → length next' ≡ length next → length prev' ≡ length prev
      → Path (at next') (at prev') z ys z → Apart z ys → ((s : ℕ) → s < z → member s ys ≡ false → at next' s ≡ s)
      → IsRing next' prev' z × (chased next' z ≡ ys)
  made next' prev' ys ln lp path apart loose =
      let e : chased next' z ≡ ys = chase-path (at next') (at prev') z z z ys path (end_out z ys apart) (few z ys apart) in (
        record {
          next_len = ln ∙ ring.next_len;
          prev_len = lp ∙ ring.prev_len;
          path = rw e path;
          apart = rw e apart;
          loose = rw e loose;
        },
        e,
      )

  module _ (s : ℕ) (isin : member s (chased next z) ≡ true) where
    pub s_below : s < z
    s_below = below z s (chased next z) ring.apart isin

    pub before_below : at prev s < z + 1
    before_below = elim (before_in (at next) (at prev) z (chased next z) z s ring.path isin) [ inl e ↦ omega (arith, e) | inr m ↦ (let k = below z (at prev s) (chased next z) ring.apart m in omega (arith, k)) ]

    pub after_below : at next s < z + 1
    after_below = elim (after_in (at next) (at prev) z (chased next z) z s ring.path isin) [ inl e ↦ omega (arith, e) | inr m ↦ (let k = below z (at next s) (chased next z) ring.apart m in omega (arith, k)) ]

    before_far : at prev s ≢ s
    before_far = before_ne (at next) (at prev) z (chased next z) z s z ring.path isin ring.apart end_far

    pub after_far : at next s ≢ s
    after_far = after_ne (at next) (at prev) z (chased next z) z s z ring.path isin ring.apart end_far

    pub cut_ring : (p q : ℕ) → p ≡ at prev s → q ≡ at next s
        → IsRing (slice_set (slice_set next p q) s s) (slice_set (slice_set prev q p) s s) z × (chased (slice_set (slice_set next p q) s s) z ≡ without s (chased next z))
    cut_ring p q ep eq =
        let next' : List ℕ = slice_set (slice_set next p q) s s in
        let prev' : List ℕ = slice_set (slice_set prev q p) s s in
        let bb = before_below in
        let ab = after_below in
        let sb = s_below in
        let nl = ring.next_len in
        let pl = ring.prev_len in
        let link : at next' (at prev s) ≡ at next s = subst (λ w. at next' w ≡ at next s) ep (at_other (slice_set next p q) s p s (λ k. before_far (sym ep ∙ k)) ∙ (at_same next p q (omega (arith, ep, bb, nl)) ∙ eq)) in
        let back : at prev' (at next s) ≡ at prev s = subst (λ w. at prev' w ≡ at prev s) eq (at_other (slice_set prev q p) s q s (λ k. after_far (sym eq ∙ k)) ∙ (at_same prev q p (omega (arith, eq, ab, pl)) ∙ ep)) in
        let keep : (j : ℕ) → j ≢ at prev s → j ≢ s → at next' j ≡ at next j = λ j a b. at_other (slice_set next p q) s j s b ∙ at_other next p j q (λ k. a (k ∙ ep)) in
        let keep_back : (j : ℕ) → j ≢ at next s → j ≢ s → at prev' j ≡ at prev j = λ j a b. at_other (slice_set prev q p) s j s b ∙ at_other prev q j p (λ k. a (k ∙ eq)) in
        let same : at next' s ≡ s = at_same (slice_set next p q) s s (rw (length-set next p q) (omega (arith, sb, nl))) in
        made next' prev' (without s (chased next z))
        (length-set (slice_set next p q) s s ∙ length-set next p q)
        (length-set (slice_set prev q p) s s ∙ length-set prev q p)
        (cut (at next) (at prev) (at next') (at prev') z s link back keep keep_back (λ k. (let j = sb in omega (arith, k, j))) z z (chased next z) ring.path isin ring.apart end_far end_far)
        (apart_without z s (chased next z) ring.apart)
        (λ j jz out. elim (s == j) as (λ b. (s == j) ≡ b → at next' j ≡ j) [
          | true ↦ λ t. subst (λ w. at next' w ≡ w) (yes_eq s j t) same
          | false ↦ λ t. (
              let js : j ≢ s = λ k. no_eq s j t (sym k) in
              let oj : member j (chased next z) ≡ false = out_before j s (chased next z) js out in
              let jp : j ≢ at prev s = elim (before_in (at next) (at prev) z (chased next z) z s ring.path isin) [ inl e ↦ (λ k. omega (arith, k, e, jz)) | inr m ↦ apart_ne j (at prev s) (chased next z) oj m ] in
              keep j jp js ∙ ring.loose j jz oj
              )
        ] refl)

  pub last_below : at prev z < z + 1
  last_below = elim (last_in (at next) (at prev) z (chased next z) z ring.path) [ inl e ↦ omega (arith, e) | inr m ↦ (let k = below z (at prev z) (chased next z) ring.apart m in omega (arith, k)) ]

  module _ (s : ℕ) (sz : s < z) (out : member s (chased next z) ≡ false) where
    last_ne : (j : ℕ) → j < z → member j (chased next z) ≡ false → j ≢ at prev z
    last_ne j jz oj = elim (last_in (at next) (at prev) z (chased next z) z ring.path) [ inl e ↦ (λ k. omega (arith, k, e, jz)) | inr m ↦ apart_ne j (at prev z) (chased next z) oj m ]

    pub put_ring : (t : ℕ) → t ≡ at prev z
        → IsRing (slice_set (slice_set next t s) s z) (slice_set (slice_set prev s t) z s) z × (chased (slice_set (slice_set next t s) s z) z ≡ chased next z ++ s ∷ [])
    put_ring t et =
        let next' : List ℕ = slice_set (slice_set next t s) s z in
        let prev' : List ℕ = slice_set (slice_set prev s t) z s in
        let lb = last_below in
        let nl = ring.next_len in
        let pl = ring.prev_len in
        let st : s ≢ t = λ k. last_ne s sz out (k ∙ et) in
        let link : at next' (at prev z) ≡ s = subst (λ w. at next' w ≡ s) et (at_other (slice_set next t s) s t z (λ k. st (sym k)) ∙ at_same next t s (omega (arith, et, lb, nl))) in
        let on : at next' s ≡ z = at_same (slice_set next t s) s z (rw (length-set next t s) (omega (arith, sz, nl))) in
        let back : at prev' z ≡ s = at_same (slice_set prev s t) z s (rw (length-set prev s t) (omega (arith, pl))) in
        let back_on : at prev' s ≡ at prev z = at_other (slice_set prev s t) z s s (λ k. omega (arith, k, sz)) ∙ (at_same prev s t (omega (arith, sz, pl)) ∙ et) in
        let keep : (j : ℕ) → j ≢ at prev z → j ≢ s → at next' j ≡ at next j = λ j a b. at_other (slice_set next t s) s j z b ∙ at_other next t j s (λ k. a (k ∙ et)) in
        let keep_back : (j : ℕ) → j ≢ z → j ≢ s → at prev' j ≡ at prev j = λ j a b. at_other (slice_set prev s t) z j s a ∙ at_other prev s j t b in
        made next' prev' (chased next z ++ s ∷ [])
        (length-set (slice_set next t s) s z ∙ length-set next t s)
        (length-set (slice_set prev s t) z s ∙ length-set prev s t)
        (put (at next) (at prev) (at next') (at prev') z s link on back back_on keep keep_back z z (chased next z) ring.path ring.apart end_far end_far out (λ k. omega (arith, k, sz)))
        (apart_push z s (chased next z) ring.apart sz out)
        (λ j jz o. (
        let both = out_pushed j s (chased next z) o in
        keep j (last_ne j jz both.0) both.1 ∙ ring.loose j jz both.0
        ))

  by_first : (ys : List ℕ) → chased next z ≡ ys → (at next z ≡ z → chased next z ≡ []) × (at next z ≢ z → (ys : List ℕ) × (chased next z ≡ at next z ∷ ys))
  by_first [] e = (λ _. e, (let p : Path (at next) (at prev) z [] z = subst (λ l. Path (at next) (at prev) z l z) e ring.path in λ n. absurd (n p.0)))
  by_first (y ∷ ys) e =
      let p : Path (at next) (at prev) z (y ∷ ys) z = subst (λ l. Path (at next) (at prev) z l z) e ring.path in
      let o : member z (y ∷ ys) ≡ false = subst (λ l. member z l ≡ false) e end_far in
      (λ h. absurd (out_head z y ys o (sym h ∙ p.0)), λ _. (ys, e ∙ ap (λ w. w ∷ ys) (sym p.0)))

  -- the first of the list, or none
  pub first_of : (at next z ≡ z → chased next z ≡ []) × (at next z ≢ z → (ys : List ℕ) × (chased next z ≡ at next z ∷ ys))
  first_of = by_first (chased next z) refl

pub has_spec : (next prev : List ℕ) (z s r : ℕ) → IsRing next prev z → s < z → r ≡ at next s → not (r == s) ≡ member s (chased next z)
has_spec next prev z s r ring sz e = (elim (member s (chased next z)) as (λ b. member s (chased next z) ≡ b → not (r == s) ≡ b) [
  | true ↦ λ t. rw (eq_no r s (λ k. after_far next prev z ring s t (sym e ∙ k))) refl
  | false ↦ λ t. rw (eq_yes r s (e ∙ ring.loose s sz t)) refl
]) refl

pub front_of : (next prev : List ℕ) (z f : ℕ) → IsRing next prev z → f ≡ at next z → f ≢ z → chased next z ≡ f ∷ without f (chased next z)
front_of next prev z f ring e n =
    let ys = (first_of next prev z ring).1 (λ k. n (e ∙ k)) in
    let here : chased next z ≡ f ∷ ys.0 = ys.1 ∙ ap (λ w. w ∷ ys.0) (sym e) in
    let apart : Apart z (f ∷ ys.0) = subst (Apart z) here ring.apart in
    here ∙ ap (λ l. f ∷ l) (sym (ap (without f) here ∙ rw (eq_yes f f refl) (without_none f ys.0 apart.1)))

pub front_in : (next prev : List ℕ) (z f : ℕ) → IsRing next prev z → f ≡ at next z → f ≢ z → (f < z) × (member f (chased next z) ≡ true) × (chased next z ≡ f ∷ without f (chased next z))
front_in next prev z f ring e n =
    let h = front_of next prev z f ring e n in
    let m : member f (chased next z) ≡ true = ap (member f) h ∙ rw (eq_yes f f refl) refl in
    (below z f (chased next z) ring.apart m, m, h)
