-- Splitting, joining and closing keep the rule.
use Rattle.std.proofs.Common.{◌≡◌, ◌≢◌, ℕ, ◌<◌, ◌≤◌, Bool, true, false, cond, List, [], ◌∷◌, ◌++◌, length, Option, Some, None, refl, sym, ap, ◌∙◌, subst, inl, inr, ⊎_elim, set, get_or, eqb, eq-eqb, ne_eqb, length-append, arith}
use Rattle.std.proofs.lemmas.List.{length-set}
use mathlib.Core.Option.{some, none, some-injective}
use mathlib.Core.Logic.{dite}
use native.Mathlib.Decide.{ℕ_discrete}
use lib.ListN.{get_elem?}
use Rattle.atomic_table.specs.Table.{State, Me, step, Act, keeps, Allows, Valid, homes_after, carried_after, Splits, Joins, Final, Seen}
use Rattle.atomic_table.proofs.Lists.{set_else, at_longer, at_last}
use Rattle.turn_lock.specs.declared.view.View.{View}
use Rattle.turn_lock.specs.Known.{StartsWith, longer, part_in, is_in}
use Rattle.turn_lock.specs.Turns.{Turns, Knows, At, homes_at, spent_view}
use Rattle.turn_lock.specs.Plays.{agreed, kept_view, given_view, both_view, agreed_view, without_number, only_number, AreKnown, IsIdle, Joined}
use Rattle.turn_lock.proofs.Parts.{its_part, is_there, some_number, first_number, part_without, part_only, part_both, of_both, in_first, in_second}
use Rattle.turn_lock.proofs.Places.{not_true, snoc_at, set_at, keep_each, keep_at, same_view, compared}

-- what a number that isn't cut off keeps, and the one that is
pub still_without : {Q : Type 0} (k n : ℕ) (m : List (ℕ × Q)) → n ≢ k → is_in n m ≡ true → is_in n (without_number k m) ≡ true
still_without k n m ne h = let f = its_part n m h in is_there n (without_number k m) f.0 (part_without k n m ∙ (ap (λ b. cond b None (part_in n m)) (ne_eqb n k ne) ∙ f.1))

pub of_without : {Q : Type 0} (k n : ℕ) (m : List (ℕ × Q)) (q : Q) → part_in n (without_number k m) ≡ Some q → (n ≢ k) × (part_in n m ≡ Some q)
of_without k n m q h = let e = sym (part_without k n m) ∙ h in dite (ℕ_discrete n k)
    (λ s. let t = rw (eq-eqb n k s) at e in cc)
    (λ ns. (ns, rw (ne_eqb n k ns) at e))

pub still_only : {Q : Type 0} (k : ℕ) (m : List (ℕ × Q)) → is_in k m ≡ true → is_in k (only_number k m) ≡ true
still_only k m h = let f = its_part k m h in is_there k (only_number k m) f.0 (part_only k k m ∙ (ap (λ b. cond b (part_in k m) None) (eq-eqb k k refl) ∙ f.1))

pub of_only : {Q : Type 0} (k n : ℕ) (m : List (ℕ × Q)) (q : Q) → part_in n (only_number k m) ≡ Some q → (n ≡ k) × (part_in n m ≡ Some q)
of_only k n m q h = let e = sym (part_only k n m) ∙ h in dite (ℕ_discrete n k)
    (λ s. (s, rw (eq-eqb n k s) at e))
    (λ ns. let t = rw (ne_eqb n k ns) at e in cc)

module _ {T E F Q : Type 0} (list : T → List E) (fixed : T → F) (part : T → ℕ → Q) (kept_fixed : F) (top : ℕ) where
  abbrev W : Type 0
  W = View T E F Q

  abbrev S : Type 0
  S = Option T

  abbrev Rule : State S W → Type 0
  Rule = Turns list fixed part kept_fixed top

  abbrev KnowsAt : T → (ℕ → ℕ) → (ℕ → ℕ) → ℕ → ℕ → Bool → ℕ → W → Type 0
  KnowsAt = Knows list part kept_fixed top

  pub forks : (id : ℕ) (v : W) (n : ℕ) → v.ticket ≡ None → v.out ≡ None → is_in n v.mine ≡ true → (m : ℕ) → m ≢ n → is_in m v.mine ≡ true → Splits Rule id v (kept_view n v) (given_view n v)
  forks id v n idle home has m apart also s h at =
      let k = h.each id v at in
      let len : ℕ = length s.views in
      let keeper' : ℕ → ℕ = λ i. cond (eqb i n) len (h.keeper i) in
      let else_is : (i : ℕ) → i ≢ n → keeper' i ≡ h.keeper i = λ i ne. ap (λ b. cond b len (h.keeper i)) (ne_eqb i n ne) in
      let here_is : (i : ℕ) → i ≡ n → keeper' i ≡ len = λ i e. ap (λ b. cond b len (h.keeper i)) (eq-eqb i n e) in
      let cut = its_part n v.mine has in
      let kept : h.keeper n ≡ id = (k.owns n cut.0 cut.1).0 in
      let u : W = kept_view n v in
      let g : W = given_view n v in
      let firsts : List W = set s.views id u in
      let views : List W = firsts ++ g ∷ [] in
      let Know : ℕ → W → Type 0 = KnowsAt h.cur h.owner keeper' h.serving h.next h.out in
      let stay : (P : W → Type 0) → (P v → P u) → (j : ℕ) → At P s.views j → At P views j = λ P on j a. let b = keep_at P s.views id v u at on j a in (b.0, at_longer firsts (g ∷ []) j b.0 b.1, b.2) in
      let far : (j i : ℕ) → j ≢ id → h.keeper i ≡ j → i ≢ n = λ j i ne q e. ne (sym q ∙ (ap h.keeper e ∙ kept)) in
      record {
        cur = h.cur;
        owner = h.owner;
        keeper = keeper';
        next = h.next;
        serving = h.serving;
        count = h.count;
        out = h.out;
        words_are = h.words_are;
        homes_are = h.homes_are;
        ordered = h.ordered;
        fits = h.fits;
        counted = h.counted;
        fixed_is = h.fixed_is;
        holder = λ o. stay (λ (x : W). x.out ≡ Some h.cur) (λ q. q) (h.owner h.serving) (h.holder o);
        drawn = λ i from below. stay (λ (x : W). x.ticket ≡ Some i) (λ q. q) (h.owner i) (h.drawn i from below);
        kept = λ i from to. dite (ℕ_discrete i n)
            (λ e. (g, ap (get_elem? views) (here_is i e) ∙ at_last firsts g len (length-set s.views id u), subst (λ t. is_in t g.mine ≡ true) (sym e) (still_only n v.mine has)))
            (λ ne. subst (At (λ (x : W). is_in i x.mine ≡ true) views) (sym (else_is i ne)) (stay (λ (x : W). is_in i x.mine ≡ true) (λ q. still_without n i v.mine ne q) (h.keeper i) (h.kept i from to)));
        each = λ j x there. ⊎_elim
            (λ (a : get_elem? firsts j ≡ some x). keep_each Know s.views id u
            (record {
              saw = k.saw;
              heard = k.heard;
              same = k.same;
              drew = k.drew;
              has = k.has;
              live = inr (some_number m (without_number n v.mine) (still_without n m v.mine apart also));
              owns = λ i q p. let w = of_without n i v.mine q p in let o = k.owns i q w.1 in (else_is i w.0 ∙ o.0, o.1, o.2, o.3);
            })
            (λ i z ne old. let k' = h.each i z old in record {
              saw = k'.saw;
              heard = k'.heard;
              same = k'.same;
              drew = k'.drew;
              has = k'.has;
              live = k'.live;
              owns = λ t q p. let o = k'.owns t q p in (else_is t (far i t ne o.0) ∙ o.0, o.1, o.2, o.3);
            })
            j x a)
            (λ (b : (length firsts ≡ j) × (g ≡ x)).
            let place : len ≡ j = sym (length-set s.views id u) ∙ b.0 in
            subst (λ i. Know i x) place (subst (λ w. Know len w) b.1
            (record {
              saw = k.saw;
              heard = k.heard;
              same = k.same;
              drew = λ i q. cc;
              has = λ y q. cc;
              live = inr (some_number n (only_number n v.mine) (still_only n v.mine has));
              owns = λ i q p. let w = of_only n i v.mine q p in let o = k.owns i q w.1 in (here_is i w.0, o.1, o.2, o.3);
            })))
            (snoc_at firsts g x j there);
      }

  pub merges : (id : ℕ) (v : W) (other : ℕ) (w : W) → v.ticket ≡ None → v.out ≡ None → 0 < length v.mine → w.ticket ≡ None → w.out ≡ None → Joins Rule id v other w (both_view v w) spent_view
  merges id v other w idle home some_mine idle' home' s h at ne there =
      let k = h.each id v at in
      let there' : get_elem? s.views other ≡ some w = sym (set_else s.views id other (both_view v w) ne) ∙ there in
      let k' = h.each other w there' in
      let keeper' : ℕ → ℕ = λ m. cond (eqb (h.keeper m) other) id (h.keeper m) in
      let stays : (j m : ℕ) → j ≢ other → h.keeper m ≡ j → keeper' m ≡ j = λ j m nj q. ap (λ b. cond b id (h.keeper m)) (ne_eqb (h.keeper m) other (λ e. nj (sym q ∙ e))) ∙ q in
      let comes : (m : ℕ) → h.keeper m ≡ other → keeper' m ≡ id = λ m q. ap (λ b. cond b id (h.keeper m)) (eq-eqb (h.keeper m) other q) in
      let ne' : id ≢ other = λ e. ne (sym e) in
      let u : W = both_view v w in
      let firsts : List W = set s.views id u in
      let views : List W = set firsts other spent_view in
      let Know : ℕ → W → Type 0 = KnowsAt h.cur h.owner keeper' h.serving h.next h.out in
      let stay : (P : W → Type 0) → (P v → P u) → (P w → P spent_view) → (j : ℕ) → At P s.views j → At P views j = λ P on off j a. keep_at P firsts other w spent_view there off j (keep_at P s.views id v u at on j a) in
      record {
        cur = h.cur;
        owner = h.owner;
        keeper = keeper';
        next = h.next;
        serving = h.serving;
        count = h.count;
        out = h.out;
        words_are = h.words_are;
        homes_are = h.homes_are;
        ordered = h.ordered;
        fits = h.fits;
        counted = h.counted;
        fixed_is = h.fixed_is;
        holder = λ o. stay (λ (x : W). x.out ≡ Some h.cur) (λ q. q) (λ q. cc) (h.owner h.serving) (h.holder o);
        drawn = λ i from below. stay (λ (x : W). x.ticket ≡ Some i) (λ q. q) (λ q. cc) (h.owner i) (h.drawn i from below);
        kept = λ i from to. let a = h.kept i from to in
            let from_first : (x : W) → get_elem? s.views (h.keeper i) ≡ some x → is_in i x.mine ≡ true → h.keeper i ≢ other → At (λ (y : W). is_in i y.mine ≡ true) views (keeper' i) = λ x old q far.
            let b = keep_at (λ (y : W). is_in i y.mine ≡ true) s.views id v u at (λ z. in_first i v.mine w.mine z) (h.keeper i) (x, old, q) in
            subst (At (λ (y : W). is_in i y.mine ≡ true) views) (sym (stays (h.keeper i) i far refl)) (b.0, set_else firsts other (h.keeper i) spent_view far ∙ b.1, b.2) in
            dite (ℕ_discrete (h.keeper i) other)
            (λ e. let z : a.0 ≡ w = same_view s.views (h.keeper i) other a.0 w e a.1 there' in
            let mine : is_in i w.mine ≡ true = ap (λ (y : W). is_in i y.mine) (sym z) ∙ a.2 in
            (u, ap (get_elem? views) (comes i e) ∙ (set_else firsts other id spent_view ne' ∙ set_at s.views id v u at), in_second i v.mine w.mine mine))
            (λ far. from_first a.0 a.1 a.2 far);
        each = keep_each Know firsts other spent_view
            (record { saw = (list h.cur, refl); heard = (list h.cur, refl); same = λ f q. cc; drew = λ m q. cc; has = λ y q. cc; owns = λ m q p. cc; live = inl refl })
            (λ j x nj a. keep_each (λ i z. i ≢ other → Know i z) s.views id u
            (λ _. record {
              saw = k.saw;
              heard = k'.saw;
              same = k.same;
              drew = k.drew;
              has = k.has;
              live = inr (let l = length-append v.mine w.mine in omega arith);
              owns = λ m q p. of_both (part_in m v.mine) (part_in m w.mine) q ((keeper' m ≡ id) × (q ≡ part h.cur m) × (0 < m) × (m ≤ top)) (sym (part_both m v.mine w.mine) ∙ p)
                  (λ t. let o = k.owns m q t in (stays id m ne' o.0, o.1, o.2, o.3))
                  (λ t. let o = k'.owns m q t in (comes m o.0, o.1, o.2, o.3));
            })
            (λ i z ni old no. let o = h.each i z old in record {
              saw = o.saw;
              heard = o.heard;
              same = o.same;
              drew = o.drew;
              has = o.has;
              live = o.live;
              owns = λ m q p. let r = o.owns m q p in (stays i m no r.0, r.1, r.2, r.3);
            })
            j x a nj);
      }

  pub agrees : (id slots : ℕ) (v : W) (c : List (ℕ × S)) → v.ticket ≡ None → v.out ≡ None → 0 < length v.mine → Allows Rule slots id (v, c) 1 (λ n. n) (agreed (step slots 1 0 0 none) (v, c))
  agrees id slots v c idle home some_mine s h deep at small =
      let P : List ℕ → Type 0 = λ ws. (u : W) × (a : Act S) × Valid s.homes c a × Rule (record { words = set ws 1 (get_or ws 1 0); homes = homes_after s.homes c a; views = set s.views id u }) × agreed (step slots 1 0 0 none) (v, c) (get_or ws 1 0) (u, carried_after c a) in
      let k = h.each id v at in
      let both = compared (list h.cur) v.seen v.heard k.saw k.heard in
      let u : W = agreed_view v in
      let stay : (P : W → Type 0) → (P v → P u) → (j : ℕ) → At P s.views j → At P (set s.views id u) j = λ P on j a. keep_at P s.views id v u at on j a in
      subst P (sym h.words_are) (
        u,
        keeps,
        tt,
        record {
          cur = h.cur;
          owner = h.owner;
          keeper = h.keeper;
          next = h.next;
          serving = h.serving;
          count = h.count;
          out = h.out;
          words_are = refl;
          homes_are = h.homes_are;
          ordered = h.ordered;
          fits = h.fits;
          counted = h.counted;
          fixed_is = h.fixed_is;
          holder = λ o. stay (λ (x : W). x.out ≡ Some h.cur) (λ q. q) (h.owner h.serving) (h.holder o);
          drawn = λ i from below. stay (λ (x : W). x.ticket ≡ Some i) (λ q. q) (h.owner i) (h.drawn i from below);
          kept = λ i from to. stay (λ (x : W). is_in i x.mine ≡ true) (λ q. q) (h.keeper i) (h.kept i from to);
          each = keep_each (KnowsAt h.cur h.owner h.keeper h.serving h.next h.out) s.views id u
              (record { saw = both.2; heard = (list h.cur, refl); same = k.same; drew = k.drew; owns = k.owns; live = inr some_mine; has = λ y q. let q' : v.out ≡ Some y = q in cc })
              (λ j x ne there. h.each j x there);
        },
        (refl, both.0, both.1),
      )

  -- the value at the end
  pub record Ends (v : W) (y : T) : Type 0 where
    pub later : StartsWith (list y) v.seen
    pub fixed_is : fixed y ≡ kept_fixed
    pub parts : AreKnown (part y) v.mine

  closes : (id : ℕ) (v : W) (ws : List ℕ) (xs : List S) → v.out ≡ None → ((n : ℕ) → 0 < n → n ≤ top → is_in n v.mine ≡ true) → Final (Seen Rule id v) ws xs
      → (y : T) × (get_elem? xs 0 ≡ some (Some y)) × Ends v y
  closes id v ws xs home all f =
      let s = f.0 in
      let h = f.1.0 in
      let at = f.1.1 in
      let k = h.each id v at in
      let at_home : h.out ≡ false = not_true h.out (λ o.
      let t = h.holder o in
      let kt = h.each (h.owner h.serving) t.0 t.1 in
      let some_mine : 0 < length t.0.mine = ⊎_elim (λ (e : t.0 ≡ spent_view). let z : None ≡ Some h.cur = sym (ap (λ (x : W). x.out) e) ∙ t.2 in cc) (λ (l : 0 < length t.0.mine). l) kt.live in
      let n = first_number t.0.mine some_mine in
      let o = kt.owns n.0 n.1.0 n.1.1 in
      let mine = its_part n.0 v.mine (all n.0 o.2 o.3) in
      let one : id ≡ h.owner h.serving = sym (k.owns n.0 mine.0 mine.1).0 ∙ o.0 in
      let z : v.out ≡ Some h.cur = ap (λ (x : W). x.out) (same_view s.views id (h.owner h.serving) v t.0 one at t.1) ∙ t.2 in cc) in
      let homes : s.homes ≡ some (Some h.cur) ∷ [] = h.homes_are ∙ ap (λ b. homes_at b h.cur) at_home in
      (h.cur, f.4 0 (Some h.cur) (ap (λ l. get_elem? l 0) homes), record { later = k.saw; fixed_is = h.fixed_is; parts = λ n q p. sym (k.owns n q p).1 })

  pub ends : (id : ℕ) (v : W) (ws : List ℕ) (xs : List S) (z : T) → v.out ≡ None → ((n : ℕ) → 0 < n → n ≤ top → is_in n v.mine ≡ true) → Final (Seen Rule id v) ws xs → get_elem? xs 0 ≡ some (Some z) → Ends v z
  ends id v ws xs z home all f there =
      let c = closes id v ws xs home all f in
      let same : Some c.0 ≡ Some z = some-injective (Some c.0) (Some z) (sym c.1 ∙ there) in
      let y : c.0 ≡ z = cc in
      subst (Ends v) y c.2

  pub never_empty : (id : ℕ) (v : W) (ws : List ℕ) (xs : List S) → v.out ≡ None → ((n : ℕ) → 0 < n → n ≤ top → is_in n v.mine ≡ true) → Final (Seen Rule id v) ws xs → get_elem? xs 0 ≡ some None → ⊥
  never_empty id v ws xs home all f there =
      let c = closes id v ws xs home all f in
      let same : Some c.0 ≡ None = some-injective (Some c.0) None (sym c.1 ∙ there) in cc

abbrev Of : (T E F Q : Type 0) → Type 0
Of T E F Q = Me (Option T) (View T E F Q)

module _ {T E F Q : Type 0} where
  pub joined : (m o n p : Of T E F Q) → IsIdle m → n ≡ (both_view m.0 o.0, m.1)
      → (p ≡ (agreed_view n.0, n.1)) × StartsWith (longer n.0.seen n.0.heard) n.0.seen × StartsWith (longer n.0.seen n.0.heard) n.0.heard → Joined m o p
  joined m o n p idle e told =
      let pf : p ≡ (agreed_view (both_view m.0 o.0), m.1) = told.0 ∙ ap (λ (s : Of T E F Q). (agreed_view s.0, s.1)) e in
      let l : StartsWith (longer m.0.seen o.0.seen) m.0.seen = subst (λ (s : Of T E F Q). StartsWith (longer s.0.seen s.0.heard) s.0.seen) e told.1 in
      let r : StartsWith (longer m.0.seen o.0.seen) o.0.seen = subst (λ (s : Of T E F Q). StartsWith (longer s.0.seen s.0.heard) s.0.heard) e told.2 in
      let sf : p.0.seen ≡ longer m.0.seen o.0.seen = ap (λ (s : Of T E F Q). s.0.seen) pf in
      record {
        seen = sf;
        later = (subst (λ x. StartsWith x m.0.seen) (sym sf) l, subst (λ x. StartsWith x o.0.seen) (sym sf) r);
        mine = ap (λ (s : Of T E F Q). s.0.mine) pf;
        fixed_is = ap (λ (s : Of T E F Q). s.0.fixed) pf;
        idle = (ap (λ (s : Of T E F Q). s.0.ticket) pf ∙ idle.0, ap (λ (s : Of T E F Q). s.0.out) pf ∙ idle.1, ap (λ (s : Of T E F Q). s.1) pf ∙ idle.2);
      }
