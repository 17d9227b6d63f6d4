-- Each step of a turn keeps the rule.
use Rattle.std.proofs.Common.{◌≡◌, ◌≢◌, ◌⊎◌, ℕ, ◌+◌, ◌%◌, ◌^◌, ◌<◌, Bool, true, false, cond, List, [], ◌∷◌, length, Option, Some, None, refl, sym, ap, ◌∙◌, subst, inr, ⊎_elim, set, get_or, eqb, eq-eqb, ne_eqb, arith}
use Rattle.std.proofs.Math.Nat.{mod-eq_of_lt}
use mathlib.Core.Option.{some, none}
use mathlib.Core.Logic.{dite}
use native.Mathlib.Decide.{ℕ_discrete}
use prog.Atomic.{either}
use lib.ListN.{get_elem?}
use Rattle.atomic_table.specs.Table.{State, step, Act, keeps, takes, gives, Allows, Valid, homes_after, carried_after}
use Rattle.atomic_table.proofs.Lists.{set_again, exchanged}
use Rattle.turn_lock.specs.declared.view.View.{View}
use Rattle.turn_lock.specs.Known.{StartsWith, is_in}
use Rattle.turn_lock.specs.Turns.{Turns, Knows, At, homes_at, spent_view}
use Rattle.turn_lock.specs.Plays.{drew, looked, recounted, passed, with_ticket, done, taking, recount}
use Rattle.turn_lock.proofs.Parts.{still_in, new_part, its_part, some_left}
use Rattle.turn_lock.proofs.Places.{not_true, set_at, keep_each, keep_at, same_view, whole, further}

abbrev pub first_of : {T : Type 0} → List (ℕ × Option T) → Option T
first_of [] = None
first_of (x ∷ xs) = x.1

module _ {T E F Q : Type 0} (list : T → List E) (fixed : T → F) (part : T → ℕ → Q) (kept_fixed : F) (top : ℕ) where
  abbrev W : Type 0
  W = View T E F Q

  abbrev S : Type 0
  S = Option T

  abbrev Rule : State S W → Type 0
  Rule = Turns list fixed part kept_fixed top

  abbrev KnowsAt : T → (ℕ → ℕ) → (ℕ → ℕ) → ℕ → ℕ → Bool → ℕ → W → Type 0
  KnowsAt = Knows list part kept_fixed top

  -- a view with a ticket has a number
  pub busy : (v : W) (n : ℕ) → v.ticket ≡ Some n → (v ≡ spent_view) ⊎ (0 < length v.mine) → 0 < length v.mine
  busy v n t l = ⊎_elim (λ (e : v ≡ spent_view). let z : None ≡ Some n = sym (ap (λ (x : W). x.ticket) e) ∙ t in cc) (λ (h : 0 < length v.mine). h) l

  pub draws : (id slots : ℕ) (v : W) (c : List (ℕ × S)) (w : ℕ) → v.ticket ≡ None → v.out ≡ None → 0 < length v.mine → w + 1 < 2 ^ 64
      → Allows Rule slots id (v, c) 0 (λ n. either (eqb n w) (w + 1) n) (drew (step slots 0 w (w + 1) none) (v, c))
  draws id slots v c w idle home some_number fits s h deep at small =
      let A : ℕ → Type 0 = λ m. (u : W) × (a : Act S) × Valid s.homes c a × Rule (record { words = m ∷ h.serving ∷ h.count ∷ []; homes = homes_after s.homes c a; views = set s.views id u }) × drew (step slots 0 w (w + 1) none) (v, c) h.next (u, carried_after c a) in
      let P : List ℕ → Type 0 = λ ws. (u : W) × (a : Act S) × Valid s.homes c a × Rule (record { words = set ws 0 (either (eqb (get_or ws 0 0) w) (w + 1) (get_or ws 0 0)); homes = homes_after s.homes c a; views = set s.views id u }) × drew (step slots 0 w (w + 1) none) (v, c) (get_or ws 0 0) (u, carried_after c a) in
      let k = h.each id v at in
      let low = h.ordered in
      let owner' : ℕ → ℕ = λ n. cond (eqb n h.next) id (h.owner n) in
      let old : (n : ℕ) → n < h.next → owner' n ≡ h.owner n = λ n lt. ap (λ b. cond b id (h.owner n)) (ne_eqb n h.next (λ e. omega arith)) in
      let new : (n : ℕ) → n ≡ h.next → owner' n ≡ id = λ n e. ap (λ b. cond b id (h.owner n)) (eq-eqb n h.next e) in
      subst P (sym h.words_are) (exchanged h.next w (w + 1) A
      (λ e.
      let u : W = with_ticket h.next v in (
        u,
        keeps,
        tt,
        record {
          cur = h.cur;
          owner = owner';
          keeper = h.keeper;
          next = w + 1;
          serving = h.serving;
          count = h.count;
          out = h.out;
          words_are = refl;
          homes_are = h.homes_are;
          ordered = omega arith;
          fits = fits;
          counted = h.counted;
          fixed_is = h.fixed_is;
          holder = λ o.
              let t = h.holder o in
              let d = (h.each (h.owner h.serving) t.0 t.1).drew h.serving ((h.each (h.owner h.serving) t.0 t.1).has h.cur t.2).1 in
              subst (At (λ (x : W). x.out ≡ Some h.cur) (set s.views id u)) (sym (old h.serving d.1)) (keep_at (λ (x : W). x.out ≡ Some h.cur) s.views id v u at (λ q. q) (h.owner h.serving) t);
          drawn = λ n from below. dite (ℕ_discrete n h.next)
              (λ q. (u, ap (get_elem? (set s.views id u)) (new n q) ∙ set_at s.views id v u at, ap Some (sym q)))
              (λ ne. let lt : n < h.next = omega (arith, ne) in subst (At (λ (x : W). x.ticket ≡ Some n) (set s.views id u)) (sym (old n lt)) (keep_at (λ (x : W). x.ticket ≡ Some n) s.views id v u at (λ q. cc) (h.owner n) (h.drawn n from lt)));
          kept = λ n from to. keep_at (λ (x : W). is_in n x.mine ≡ true) s.views id v u at (λ q. q) (h.keeper n) (h.kept n from to);
          each = keep_each (KnowsAt h.cur owner' h.keeper h.serving (w + 1) h.out) s.views id u
              (record {
                saw = k.saw;
                heard = k.heard;
                same = k.same;
                owns = k.owns;
                live = inr some_number;
                drew = λ n q. let e' : h.next ≡ n = cc in (omega arith, omega arith, new n (sym e'));
                has = λ y q. let q' : v.out ≡ Some y = q in cc;
              })
              (λ j x ne there. let k' = h.each j x there in record {
                saw = k'.saw;
                heard = k'.heard;
                same = k'.same;
                owns = k'.owns;
                live = k'.live;
                has = k'.has;
                drew = λ n q. let d = k'.drew n q in let lt = d.1 in (d.0, omega arith, old n d.1 ∙ d.2);
              });
        },
        ((λ r. refl), λ r. absurd (r e)),
      ))
      (λ ne. (
        v,
        keeps,
        tt,
        subst (λ vs. Rule (record { words = h.next ∷ h.serving ∷ h.count ∷ []; homes = s.homes; views = vs })) (sym (set_again s.views id v at))
            (subst (λ ws. Rule (record { words = ws; homes = s.homes; views = s.views })) h.words_are h),
        ((λ r. absurd (ne r)), λ r. refl),
      )))

  pub looks : (id slots : ℕ) (v : W) (c : List (ℕ × S)) (t : ℕ) → v.ticket ≡ Some t → v.out ≡ None
      → Allows Rule slots id (v, c) 1 (λ n. n) (looked list fixed part (step slots 1 0 0 none) (v, c))
  looks id slots v c t mine home s h deep at small =
      let P : List ℕ → Type 0 = λ ws. (u : W) × (a : Act S) × Valid s.homes c a × Rule (record { words = set ws 1 (get_or ws 1 0); homes = homes_after s.homes c a; views = set s.views id u }) × looked list fixed part (step slots 1 0 0 none) (v, c) (get_or ws 1 0) (u, carried_after c a) in
      let k = h.each id v at in
      subst P (sym h.words_are) (dite (ℕ_discrete t h.serving)
      (λ e.
      let here : h.owner h.serving ≡ id = ap h.owner (sym e) ∙ (k.drew t mine).2 in
      let at_home : h.out ≡ false = not_true h.out (λ o.
      let b = h.holder o in
      let z : v.out ≡ Some h.cur = ap (λ (x : W). x.out) (same_view s.views id (h.owner h.serving) v b.0 (sym here) at b.1) ∙ b.2 in cc) in
      let homes : s.homes ≡ some (Some h.cur) ∷ [] = h.homes_are ∙ ap (λ b. homes_at b h.cur) at_home in
      let u : W = taking list fixed part h.cur v in (
        u,
        takes 0 (Some h.cur),
        ap (λ l. get_elem? l 0) homes,
        record {
          cur = h.cur;
          owner = h.owner;
          keeper = h.keeper;
          next = h.next;
          serving = h.serving;
          count = h.count;
          out = true;
          words_are = refl;
          homes_are = ap (λ l. set l 0 none) homes;
          ordered = h.ordered;
          fits = h.fits;
          counted = h.counted;
          fixed_is = h.fixed_is;
          holder = λ o. (u, ap (get_elem? (set s.views id u)) here ∙ set_at s.views id v u at, refl);
          drawn = λ n from below. keep_at (λ (x : W). x.ticket ≡ Some n) s.views id v u at (λ q. q) (h.owner n) (h.drawn n from below);
          kept = λ n from to. keep_at (λ (x : W). is_in n x.mine ≡ true) s.views id v u at (λ q. q) (h.keeper n) (h.kept n from to);
          each = keep_each (KnowsAt h.cur h.owner h.keeper h.serving h.next true) s.views id u
              (record {
                saw = whole (list h.cur);
                heard = k.heard;
                same = k.same;
                drew = k.drew;
                owns = k.owns;
                live = inr (busy v t mine k.live);
                has = λ y q. let y' : h.cur ≡ y = cc in (sym y', mine ∙ ap Some e, refl, refl);
              })
              (λ j x ne there. let k' = h.each j x there in record {
                saw = k'.saw;
                heard = k'.heard;
                same = k'.same;
                drew = k'.drew;
                owns = k'.owns;
                live = k'.live;
                has = λ y q. let b = (k'.has y q).2 in cc;
              });
        },
        ((λ r. (h.cur, refl, k.saw, (λ f q. h.fixed_is ∙ sym (k.same f q)), (λ n q p. sym (k.owns n q p).1))), λ r. absurd (r (mine ∙ ap Some e))),
      ))
      (λ ne. (
        v,
        keeps,
        tt,
        subst (λ vs. Rule (record { words = h.next ∷ h.serving ∷ h.count ∷ []; homes = s.homes; views = vs })) (sym (set_again s.views id v at))
            (subst (λ ws. Rule (record { words = ws; homes = s.homes; views = s.views })) h.words_are h),
        ((λ r. absurd (ne (let q : Some t ≡ Some h.serving = sym mine ∙ r in cc))), λ r. refl),
      )))

  pub counts : (id slots : ℕ) (v : W) (x y : T) (k : ℕ) → v.out ≡ Some x → StartsWith (list y) v.seen → v.fixed ≡ Some (fixed y) → ((n : ℕ) → is_in n v.mine ≡ false → part y n ≡ part x n)
      → length v.seen + k ≡ length (list y) → length (list y) < 2 ^ 64
      → Allows Rule slots id (v, (0, Some y) ∷ []) 2 (λ n. (n + k) % 2 ^ 64) (recounted list part (step slots 2 k 0 none) (v, (0, Some y) ∷ []))
  counts id slots v x y k away longer kept others more small s h deep at low =
      let c : List (ℕ × S) = (0, Some y) ∷ [] in
      let P : List ℕ → Type 0 = λ ws. (u : W) × (a : Act S) × Valid s.homes c a × Rule (record { words = set ws 2 ((get_or ws 2 0 + k) % 2 ^ 64); homes = homes_after s.homes c a; views = set s.views id u }) × recounted list part (step slots 2 k 0 none) (v, c) (get_or ws 2 0) (u, carried_after c a) in
      let m = h.each id v at in
      let has = m.has x away in
      let here : h.owner h.serving ≡ id = (m.drew h.serving has.1).2 in
      let long : h.count + k ≡ length (list y) = omega (arith, h.counted, ap length has.3, more) in
      let u : W = recount list part y v in
      subst P (sym h.words_are) (
        u,
        keeps,
        tt,
        record {
          cur = y;
          owner = h.owner;
          keeper = h.keeper;
          next = h.next;
          serving = h.serving;
          count = (h.count + k) % 2 ^ 64;
          out = h.out;
          words_are = refl;
          homes_are = h.homes_are ∙ (ap (λ b. homes_at b h.cur) has.2 ∙ ap (λ b. homes_at b y) (sym has.2));
          ordered = h.ordered;
          fits = h.fits;
          counted = mod-eq_of_lt (omega arith) ∙ long;
          fixed_is = m.same (fixed y) kept;
          holder = λ o. (u, ap (get_elem? (set s.views id u)) here ∙ set_at s.views id v u at, refl);
          drawn = λ n from below. keep_at (λ (z : W). z.ticket ≡ Some n) s.views id v u at (λ q. q) (h.owner n) (h.drawn n from below);
          kept = λ n from to. keep_at (λ (z : W). is_in n z.mine ≡ true) s.views id v u at (λ q. still_in (part y) n v.mine ∙ q) (h.keeper n) (h.kept n from to);
          each = keep_each (KnowsAt y h.owner h.keeper h.serving h.next h.out) s.views id u
              (record {
                saw = whole (list y);
                heard = further (list y) v.seen v.heard longer (subst (λ l. StartsWith l v.heard) (sym has.3) m.heard);
                same = m.same;
                drew = m.drew;
                live = inr (some_left (part y) v.mine (busy v h.serving has.1 m.live));
                owns = λ n q p. let e = new_part (part y) n v.mine q p in let f = its_part n v.mine e.0 in let o = m.owns n f.0 f.1 in (o.0, e.1, o.2, o.3);
                has = λ z q. let z' : y ≡ z = cc in (sym z', has.1, has.2, refl);
              })
              (λ j z ne there. let m' = h.each j z there in record {
                saw = further (list y) v.seen z.seen longer (subst (λ l. StartsWith l z.seen) (sym has.3) m'.saw);
                heard = further (list y) v.seen z.heard longer (subst (λ l. StartsWith l z.heard) (sym has.3) m'.heard);
                same = m'.same;
                drew = m'.drew;
                live = m'.live;
                has = λ w q. absurd (ne (sym (m'.drew h.serving (m'.has w q).1).2 ∙ here));
                owns = λ n q p. let o = m'.owns n q p in
                    let stays : part y n ≡ part x n = others n (not_true (is_in n v.mine) (λ b. let f = its_part n v.mine b in ne (sym o.0 ∙ (m.owns n f.0 f.1).0))) in
                    (o.0, o.1 ∙ (sym (ap (λ w. part w n) has.0) ∙ sym stays), o.2, o.3);
              });
        },
        λ z q. let z0 : Some y ≡ Some z = ap first_of q in let z' : y ≡ z = cc in ap (λ w. (recount list part w v, c)) z',
      )

  pub passes : (id slots : ℕ) (v : W) (y : T) → v.out ≡ Some y → Allows Rule slots id (v, (0, Some y) ∷ []) 1 (λ n. (n + 1) % 2 ^ 64) (passed (step slots 1 1 0 none) (v, (0, Some y) ∷ []))
  passes id slots v y away s h deep at low =
      let c : List (ℕ × S) = (0, Some y) ∷ [] in
      let P : List ℕ → Type 0 = λ ws. (u : W) × (a : Act S) × Valid s.homes c a × Rule (record { words = set ws 1 ((get_or ws 1 0 + 1) % 2 ^ 64); homes = homes_after s.homes c a; views = set s.views id u }) × passed (step slots 1 1 0 none) (v, c) (get_or ws 1 0) (u, carried_after c a) in
      let m = h.each id v at in
      let has = m.has y away in
      let d = m.drew h.serving has.1 in
      let before : h.serving < h.next = d.1 in
      let here : h.owner h.serving ≡ id = d.2 in
      let most = h.fits in
      let step_is : (h.serving + 1) % 2 ^ 64 ≡ h.serving + 1 = mod-eq_of_lt (omega arith) in
      let u : W = done v in
      subst P (sym h.words_are) (
        u,
        gives,
        tt,
        record {
          cur = h.cur;
          owner = h.owner;
          keeper = h.keeper;
          next = h.next;
          serving = h.serving + 1;
          count = h.count;
          out = false;
          words_are = ap (λ n. h.next ∷ n ∷ h.count ∷ []) step_is;
          homes_are = ap (λ l. set l 0 (some (Some y))) (h.homes_are ∙ ap (λ b. homes_at b h.cur) has.2) ∙ ap (λ z. some (Some z) ∷ []) has.0;
          ordered = omega arith;
          fits = h.fits;
          counted = h.counted;
          fixed_is = h.fixed_is;
          holder = λ o. cc;
          drawn = λ n from below. keep_at (λ (z : W). z.ticket ≡ Some n) s.views id v u at (λ q. let same : Some h.serving ≡ Some n = sym has.1 ∙ q in let e : h.serving ≡ n = cc in absurd (omega arith)) (h.owner n) (h.drawn n (omega arith) below);
          kept = λ n from to. keep_at (λ (z : W). is_in n z.mine ≡ true) s.views id v u at (λ q. q) (h.keeper n) (h.kept n from to);
          each = keep_each (KnowsAt h.cur h.owner h.keeper (h.serving + 1) h.next false) s.views id u
              (record {
                saw = m.saw;
                heard = m.heard;
                same = m.same;
                owns = m.owns;
                live = inr (busy v h.serving has.1 m.live);
                drew = λ n q. cc;
                has = λ z q. cc;
              })
              (λ j z ne there. let m' = h.each j z there in record {
                saw = m'.saw;
                heard = m'.heard;
                same = m'.same;
                owns = m'.owns;
                live = m'.live;
                drew = λ n q. let e = m'.drew n q in let e0 = e.0 in
                    let apart : n ≢ h.serving = λ same. ne (sym e.2 ∙ (ap h.owner same ∙ here)) in (omega (arith, apart), e.1, e.2);
                has = λ w q. absurd (ne (sym (m'.drew h.serving (m'.has w q).1).2 ∙ here));
              });
        },
        refl,
      )
