-- The links of chains, and the chains that each change leaves.
use Rattle.std.proofs.Common.{ℕ, ◌≡◌, ◌≢◌, ◌<◌, ◌+◌, Bool, true, false, ◌==◌, refl, sym, ap, ◌∙◌, subst, inl, inr, ◌⊎◌, List, [], ◌∷◌, ◌++◌, length, arith, slice_set, get_or, ◌||◌}
use Rattle.std.proofs.lemmas.List.{length-set}
use Rattle.std.proofs.lemmas.Grind.{get_or_default_zero}
use Rattle.free_list.specs.Queue.{member, without}
use Rattle.free_list.specs.Links.{at, AreLoopedTo}
use Rattle.free_list.proofs.Queues.{eq_no, eq_yes, no_eq, yes_eq, below, gone, others, pushed, apart_without, apart_push}
use Rattle.free_list.proofs.Chains.{kept, cut, put, last_in, before_in, after_in}
use Rattle.free_list.proofs.Rings.{at_same, at_other}
use Rattle.vnode_rec.specs.Chains.{IsChain, AreChained, Links}

-- a number is not two
apart_from : (x y z : ℕ) → (x == y) ≡ true → y ≢ z → (x == z) ≡ false
apart_from x y z h n = eq_no x z (λ q. n (sym (yes_eq x y h) ∙ q))

-- what an index read is the link
pub link_of : (links : List ℕ) (i v : ℕ) → i < length links → v ≡ get_or links i v → v ≡ at links i
link_of links i v h e = e ∙ get_or_default_zero links i v h

-- links that lead from each number to itself are those of empty chains
pub all_empty : (next prev place : List ℕ) (n m : ℕ) → AreLoopedTo next (n + m) → AreLoopedTo prev (n + m) → length place ≡ n → ((s : ℕ) → s < n → at place s ≡ m) → AreChained next prev place n m
all_empty next prev place n m ln lp len nowhere = record {
  next_len = ln.len;
  prev_len = lp.len;
  place_len = len;
  each = λ c cm. record {
    queue = [];
    path = (ln.looped (n + c) (omega arith), lp.looped (n + c) (omega arith));
    apart = tt;
    has = λ s sn. sym (eq_no (at place s) c (λ q. (let e = nowhere s sn in omega arith)));
  };
}

module _ (next prev place : List ℕ) (n m : ℕ) (are : AreChained next prev place n m) where
  pub listed_at : (c : ℕ) (cm : c < m) (k : ℕ) → member k (are.each c cm).queue ≡ true → (k < n) × (at place k ≡ c)
  listed_at c cm k h =
      let chain = are.each c cm in
      let kn : k < n = below n k chain.queue chain.apart h in
      (kn, yes_eq (at place k) c (sym (chain.has k kn) ∙ h))

  -- the rings of two chains have no number in common
  rings_apart : (c d : ℕ) (cm : c < m) (dm : d < m) → c ≢ d → (k : ℕ) → (k ≡ n + c) ⊎ (member k (are.each c cm).queue ≡ true) → (j : ℕ) → (j ≡ n + d) ⊎ (member j (are.each d dm).queue ≡ true) → j ≢ k
  rings_apart c d cm dm far k (inl e) j (inl f) = λ q. far (let h : n + c ≡ n + d = sym e ∙ (sym q ∙ f) in omega arith)
  rings_apart c d cm dm far k (inl e) j (inr f) = λ q. (let h = listed_at d dm j f in let a = h.0 in omega arith)
  rings_apart c d cm dm far k (inr e) j (inl f) = λ q. (let h = listed_at c cm k e in let a = h.0 in omega arith)
  rings_apart c d cm dm far k (inr e) j (inr f) = λ q. (let h = listed_at c cm k e in let g = listed_at d dm j f in far (sym h.1 ∙ (ap (at place) (sym q) ∙ g.1)))

  -- a slot whose place is elsewhere is not on a ring
  off_ring : (d : ℕ) (dm : d < m) (s : ℕ) → s < n → at place s ≢ d → (j : ℕ) → (j ≡ n + d) ⊎ (member j (are.each d dm).queue ≡ true) → j ≢ s
  off_ring d dm s sn out j (inl f) = λ q. omega arith
  off_ring d dm s sn out j (inr f) = λ q. (let g = listed_at d dm j f in out (ap (at place) (sym q) ∙ g.1))

  end_free : (c : ℕ) (cm : c < m) → member (n + c) (are.each c cm).queue ≡ false
  end_free c cm = (elim (member (n + c) (are.each c cm).queue) as (λ b. member (n + c) (are.each c cm).queue ≡ b → b ≡ false) [
    | true ↦ λ t. (let h = listed_at c cm (n + c) t in let a = h.0 in absurd (omega arith))
    | false ↦ λ t. refl
  ]) refl

  -- a chain that a change of links doesn't touch
  untouched : (next' prev' place' : List ℕ) (d : ℕ) (dm : d < m)
      → ((j : ℕ) → (j ≡ n + d) ⊎ (member j (are.each d dm).queue ≡ true) → at next' j ≡ at next j)
      → ((j : ℕ) → (j ≡ n + d) ⊎ (member j (are.each d dm).queue ≡ true) → at prev' j ≡ at prev j)
      → ((j : ℕ) → j < n → (at place' j == d) ≡ (at place j == d))
      → IsChain next' prev' place' n d
  untouched next' prev' place' d dm hn hp same =
      let chain = are.each d dm in
      record {
        queue = chain.queue;
        path = kept (at next) (at prev) (at next') (at prev') (n + d) chain.queue (n + d) chain.path (hn (n + d) (inl refl)) (hp (n + d) (inl refl)) (λ j h. hn j (inr h)) (λ j h. hp j (inr h));
        apart = chain.apart;
        has = λ s sn. chain.has s sn ∙ sym (same s sn);
      }

  -- a slot is taken out of its chain
  module _ (s : ℕ) (sn : s < n) (cm : at place s < m) where
    slot_on : member s (are.each (at place s) cm).queue ≡ true
    slot_on = (are.each (at place s) cm).has s sn ∙ eq_yes (at place s) (at place s) refl

    before_on : (at prev s ≡ n + at place s) ⊎ (member (at prev s) (are.each (at place s) cm).queue ≡ true)
    before_on = let chain = are.each (at place s) cm in before_in (at next) (at prev) (n + at place s) chain.queue (n + at place s) s chain.path slot_on

    after_on : (at next s ≡ n + at place s) ⊎ (member (at next s) (are.each (at place s) cm).queue ≡ true)
    after_on = let chain = are.each (at place s) cm in after_in (at next) (at prev) (n + at place s) chain.queue (n + at place s) s chain.path slot_on

    pub before_below : at prev s < n + m
    before_below = elim before_on [ inl e ↦ omega arith | inr h ↦ (let k = (listed_at (at place s) cm (at prev s) h).0 in omega arith) ]

    pub after_below : at next s < n + m
    after_below = elim after_on [ inl e ↦ omega arith | inr h ↦ (let k = (listed_at (at place s) cm (at next s) h).0 in omega arith) ]

    removed_chain : (next' prev' place' : List ℕ) → next' ≡ slice_set next (at prev s) (at next s) → prev' ≡ slice_set prev (at next s) (at prev s) → place' ≡ slice_set place s m
        → (d : ℕ) → d < m → IsChain next' prev' place' n d
    removed_chain next' prev' place' en ep el d dm =
        let nl = are.next_len in
        let pl = are.prev_len in
        let ll = are.place_len in
        let bb = before_below in
        let ab = after_below in
        let gone_place : at place' s ≡ m = ap (λ l. at l s) el ∙ at_same place s m (omega arith) in
        let other_place : (j : ℕ) → j ≢ s → at place' j ≡ at place j = λ j q. ap (λ l. at l j) el ∙ at_other place s j m q in
        let keep : (j : ℕ) → j ≢ at prev s → at next' j ≡ at next j = λ j q. ap (λ l. at l j) en ∙ at_other next (at prev s) j (at next s) q in
        let keep_back : (j : ℕ) → j ≢ at next s → at prev' j ≡ at prev j = λ j q. ap (λ l. at l j) ep ∙ at_other prev (at next s) j (at prev s) q in
        let link : at next' (at prev s) ≡ at next s = ap (λ l. at l (at prev s)) en ∙ at_same next (at prev s) (at next s) (omega arith) in
        let back : at prev' (at next s) ≡ at prev s = ap (λ l. at l (at next s)) ep ∙ at_same prev (at next s) (at prev s) (omega arith) in
        (elim (at place s == d) as (λ b. (at place s == d) ≡ b → IsChain next' prev' place' n d) [
          | true ↦ λ t. subst (λ c. IsChain next' prev' place' n c) (yes_eq (at place s) d t) (
              let chain = are.each (at place s) cm in
              let far : member (n + at place s) chain.queue ≡ false = end_free (at place s) cm in
              record {
                queue = without s chain.queue;
                path = cut (at next) (at prev) (at next') (at prev') (n + at place s) s link back (λ j p q. keep j p) (λ j p q. keep_back j p) (λ q. omega arith) n (n + at place s) chain.queue chain.path slot_on chain.apart far far;
                apart = apart_without n s chain.queue chain.apart;
                has = λ j jn. (elim (j == s) as (λ b. (j == s) ≡ b → member j (without s chain.queue) ≡ (at place' j == at place s)) [
                  | true ↦ λ u. subst (λ k. member k (without s chain.queue) ≡ (at place' k == at place s)) (sym (yes_eq j s u)) (gone s chain.queue ∙ sym (eq_no (at place' s) (at place s) (λ q. omega arith)))
                  | false ↦ λ u. others j s chain.queue (no_eq j s u) ∙ (chain.has j jn ∙ ap (λ k. k == at place s) (sym (other_place j (no_eq j s u))))
                ]) refl;
              }
              )
          | false ↦ λ t. (
              let far = no_eq (at place s) d t in
              untouched next' prev' place' d dm
              (λ j on. keep j (rings_apart (at place s) d cm dm far (at prev s) before_on j on))
              (λ j on. keep_back j (rings_apart (at place s) d cm dm far (at next s) after_on j on))
              (λ j jn. (elim (j == s) as (λ b. (j == s) ≡ b → (at place' j == d) ≡ (at place j == d)) [
                | true ↦ λ u. subst (λ k. (at place' k == d) ≡ (at place k == d)) (sym (yes_eq j s u)) (eq_no (at place' s) d (λ q. omega arith) ∙ sym t)
                | false ↦ λ u. ap (λ k. k == d) (other_place j (no_eq j s u))
              ]) refl)
              )
        ]) refl

    pub removed : (before after : ℕ) → before ≡ at prev s → after ≡ at next s
        → AreChained (slice_set next before after) (slice_set prev after before) (slice_set place s m) n m
    removed before after eb ea = record {
      next_len = length-set next before after ∙ are.next_len;
      prev_len = length-set prev after before ∙ are.prev_len;
      place_len = length-set place s m ∙ are.place_len;
      each = removed_chain (slice_set next before after) (slice_set prev after before) (slice_set place s m) (rw (eb, ea) refl) (rw (eb, ea) refl) refl;
    }

  -- a slot that is in no chain is put into one
  module _ (s c : ℕ) (sn : s < n) (cm : c < m) (out : at place s ≡ m) where
    last_on : (at prev (n + c) ≡ n + c) ⊎ (member (at prev (n + c)) (are.each c cm).queue ≡ true)
    last_on = let chain = are.each c cm in last_in (at next) (at prev) (n + c) chain.queue (n + c) chain.path

    pub last_below : at prev (n + c) < n + m
    last_below = elim last_on [ inl e ↦ omega arith | inr h ↦ (let k = (listed_at c cm (at prev (n + c)) h).0 in omega arith) ]

    not_last : s ≢ at prev (n + c)
    not_last = λ q. off_ring c cm s sn (λ r. omega arith) (at prev (n + c)) last_on (sym q)

    put_chain : (next' prev' place' : List ℕ) → next' ≡ slice_set (slice_set next (at prev (n + c)) s) s (n + c) → prev' ≡ slice_set (slice_set prev s (at prev (n + c))) (n + c) s → place' ≡ slice_set place s c
        → (d : ℕ) → d < m → IsChain next' prev' place' n d
    put_chain next' prev' place' en ep el d dm =
        let nl = are.next_len in
        let pl = are.prev_len in
        let ll = are.place_len in
        let lb = last_below in
        let next1 : List ℕ = slice_set next (at prev (n + c)) s in
        let prev1 : List ℕ = slice_set prev s (at prev (n + c)) in
        let n1 : length next1 ≡ length next = length-set next (at prev (n + c)) s in
        let p1 : length prev1 ≡ length prev = length-set prev s (at prev (n + c)) in
        let new_place : at place' s ≡ c = ap (λ l. at l s) el ∙ at_same place s c (omega arith) in
        let other_place : (j : ℕ) → j ≢ s → at place' j ≡ at place j = λ j q. ap (λ l. at l j) el ∙ at_other place s j c q in
        let keep : (j : ℕ) → j ≢ at prev (n + c) → j ≢ s → at next' j ≡ at next j = λ j p q. ap (λ l. at l j) en ∙ (at_other next1 s j (n + c) q ∙ at_other next (at prev (n + c)) j s p) in
        let keep_back : (j : ℕ) → j ≢ n + c → j ≢ s → at prev' j ≡ at prev j = λ j p q. ap (λ l. at l j) ep ∙ (at_other prev1 (n + c) j s p ∙ at_other prev s j (at prev (n + c)) q) in
        let link : at next' (at prev (n + c)) ≡ s = ap (λ l. at l (at prev (n + c))) en ∙ (at_other next1 s (at prev (n + c)) (n + c) (λ q. not_last (sym q)) ∙ at_same next (at prev (n + c)) s (omega arith)) in
        let on : at next' s ≡ n + c = ap (λ l. at l s) en ∙ at_same next1 s (n + c) (omega arith) in
        let back : at prev' (n + c) ≡ s = ap (λ l. at l (n + c)) ep ∙ at_same prev1 (n + c) s (omega arith) in
        let back_on : at prev' s ≡ at prev (n + c) = ap (λ l. at l s) ep ∙ (at_other prev1 (n + c) s s (λ q. omega arith) ∙ at_same prev s (at prev (n + c)) (omega arith)) in
        (elim (c == d) as (λ b. (c == d) ≡ b → IsChain next' prev' place' n d) [
          | true ↦ λ t. subst (λ e. IsChain next' prev' place' n e) (yes_eq c d t) (
              let chain = are.each c cm in
              let far : member (n + c) chain.queue ≡ false = end_free c cm in
              let fresh : member s chain.queue ≡ false = chain.has s sn ∙ eq_no (at place s) c (λ q. omega arith) in
              record {
                queue = chain.queue ++ s ∷ [];
                path = put (at next) (at prev) (at next') (at prev') (n + c) s link on back back_on keep keep_back n (n + c) chain.queue chain.path chain.apart far far fresh (λ q. omega arith);
                apart = apart_push n s chain.queue chain.apart sn fresh;
                has = λ j jn. pushed j s chain.queue ∙ ((elim (j == s) as (λ b. (j == s) ≡ b → (member j chain.queue || b) ≡ (at place' j == c)) [
                  | true ↦ λ u. subst (λ k. (member k chain.queue || true) ≡ (at place' k == c)) (sym (yes_eq j s u)) (ap (λ b. b || true) fresh ∙ sym (eq_yes (at place' s) c new_place))
                  | false ↦ λ u. or_false (member j chain.queue) ∙ (chain.has j jn ∙ ap (λ k. k == c) (sym (other_place j (no_eq j s u))))
                ]) refl);
              }
              )
          | false ↦ λ t. (
              let far = no_eq c d t in
              untouched next' prev' place' d dm
              (λ j on. keep j (rings_apart c d cm dm far (at prev (n + c)) last_on j on) (off_ring d dm s sn (λ q. omega arith) j on))
              (λ j on. keep_back j (rings_apart c d cm dm far (n + c) (inl refl) j on) (off_ring d dm s sn (λ q. omega arith) j on))
              (λ j jn. (elim (j == s) as (λ b. (j == s) ≡ b → (at place' j == d) ≡ (at place j == d)) [
                | true ↦ λ u. subst (λ k. (at place' k == d) ≡ (at place k == d)) (sym (yes_eq j s u)) (eq_no (at place' s) d (λ q. far (sym new_place ∙ q)) ∙ sym (eq_no (at place s) d (λ q. omega arith)))
                | false ↦ λ u. ap (λ k. k == d) (other_place j (no_eq j s u))
              ]) refl)
              )
        ]) refl
      where
        or_false : (b : Bool) → (b || false) ≡ b
        or_false true = refl
        or_false false = refl

    pub put_in : (last : ℕ) → last ≡ at prev (n + c)
        → AreChained (slice_set (slice_set next last s) s (n + c)) (slice_set (slice_set prev s last) (n + c) s) (slice_set place s c) n m
    put_in last el = record {
      next_len = length-set (slice_set next last s) s (n + c) ∙ (length-set next last s ∙ are.next_len);
      prev_len = length-set (slice_set prev s last) (n + c) s ∙ (length-set prev s last ∙ are.prev_len);
      place_len = length-set place s c ∙ are.place_len;
      each = put_chain (slice_set (slice_set next last s) s (n + c)) (slice_set (slice_set prev s last) (n + c) s) (slice_set place s c) (rw el refl) (rw el refl) refl;
    }

-- ---- links as they are read, in the words of what callers see

module _ (next prev place : List ℕ) (n m : ℕ) (are : AreChained next prev place n m) {seen : Links} (is : ◌≡◌ {A = Links} (record { next = next; place = place; slots = n; chains = m }) seen) (s : ℕ) (below : s < seen.slots) where
  slot_below : s < n
  slot_below = subst (λ (v : Links). s < v.slots) (sym is) below

  -- a slot that is in a chain
  module _ (somewhere : at seen.place s < seen.chains) where
    in_one : at place s < m
    in_one = subst (λ (v : Links). at v.place s < v.chains) (sym is) somewhere

    module _ (before : ℕ) (read : before ≡ get_or prev s before) where
      before_is : before ≡ at prev s
      before_is = let pl = are.prev_len in let b = slot_below in link_of prev s before (omega (arith, pl, b)) read

      pub next_room : before < length next
      next_room = let nl = are.next_len in let e = before_is in let h = before_below next prev place n m are s slot_below in_one in omega (arith, nl, e, h)

    module _ (after : ℕ) (read : after ≡ get_or next s after) where
      after_is : after ≡ at next s
      after_is = let nl = are.next_len in let b = slot_below in link_of next s after (omega (arith, nl, b)) read

      pub prev_room : after < length prev
      prev_room = let pl = are.prev_len in let e = after_is in let h = after_below next prev place n m are s slot_below in_one in omega (arith, pl, e, h)

    pub taken_out : (before after : ℕ) → before ≡ get_or prev s before → after ≡ get_or next s after → AreChained (slice_set next before after) (slice_set prev after before) (slice_set place s m) n m
    taken_out before after b a = removed next prev place n m are s slot_below in_one before after (before_is before b) (after_is after a)

  -- a slot that is in none, and a chain whose last is read
  module _ (nowhere : at seen.place s ≡ seen.chains) (c : ℕ) (chain : c < seen.chains) (last : ℕ) (read : last ≡ get_or prev (n + c) last) where
    in_none : at place s ≡ m
    in_none = subst (λ (v : Links). at v.place s ≡ v.chains) (sym is) nowhere

    chain_below : c < m
    chain_below = subst (λ (v : Links). c < v.chains) (sym is) chain

    last_is : last ≡ at prev (n + c)
    last_is = let pl = are.prev_len in let b = chain_below in link_of prev (n + c) last (omega (arith, pl, b)) read

    pub last_room : last < length next
    last_room = let nl = are.next_len in let e = last_is in let h = last_below next prev place n m are s c slot_below chain_below in_none in omega (arith, nl, e, h)

    pub put_at_end : AreChained (slice_set (slice_set next last s) s (n + c)) (slice_set (slice_set prev s last) (n + c) s) (slice_set place s c) n m
    put_at_end = put_in next prev place n m are s c slot_below chain_below in_none last last_is
