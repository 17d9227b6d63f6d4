-- One more entry at the end of a history.
use Rattle.std.proofs.Common.{◌≡◌, ℕ, true, false, ◌==◌, ◌++◌, List, [], ◌∷◌, refl, ap, sym, ◌∙◌, subst, cond, inl, inr}
use Rattle.std.specs.Prelude.{Option, Some, None, MatchBool}
use Rattle.std.specs.Ordering.{nat_cmp, eq_by_cmp}
use Rattle.std.specs.FinMap.{get, remove, insert, get-remove, get-insert}
use Rattle.std.specs.Cmp.{nat_cmp_total, unsigned_ties}
use Rattle.std.proofs.lemmas.Bool.Decides.{eqb_tells}
use Rattle.vfs_tree.specs.declared.world.World.{World}
use Rattle.call_model.specs.Apply.{Finished, Needs, apply}
use Rattle.call_model.specs.Effects.{effect}
use Rattle.call_model.specs.Legal.{Pending, is_no_memory, world_after, after, replay, next_call, IsNeeded, MayLackMemory, doomers_after, doomers_in, IsRight, IsLegalFrom, IsLegal, calls_of, MayAnswer}
use Rattle.call_model.specs.declared.call.Call.{Call}
use Rattle.call_model.specs.declared.entry.Entry.{Entry}
use Rattle.call_model.specs.declared.entry.Entry.TheVariants as entry
use Rattle.call_model.specs.declared.entry.Inner.{Inner}
use Rattle.call_model.specs.declared.reply.Reply.{Reply}

pub replay-append : (w : World) (es : List Entry) (e : Entry) → replay w (es ++ e ∷ []) ≡ after (replay w es) e
replay-append w [] e = refl
replay-append w (x ∷ es) e = replay-append (after w x) es e

pub doomers_in-append : (ds : List ℕ) (es : List Entry) (e : Entry) → doomers_in ds (es ++ e ∷ []) ≡ doomers_after (doomers_in ds es) e
doomers_in-append ds [] e = refl
doomers_in-append ds (x ∷ es) e = doomers_in-append (doomers_after ds x) es e

pub calls_of-append : (c d : ℕ) (es : List Entry) (call : Call) (r : Reply) → calls_of c (es ++ entry.Call d call r ∷ []) ≡ calls_of c es ++ (cond (c == d) (call ∷ []) [])
calls_of-append c d [] call r = refl
calls_of-append c d (entry.Call e k s ∷ es) call r =
    elim (c == e) as (λ b. cond b (k ∷ calls_of c (es ++ entry.Call d call r ∷ [])) (calls_of c (es ++ entry.Call d call r ∷ [])) ≡ (cond b (k ∷ calls_of c es) (calls_of c es)) ++ (cond (c == d) (call ∷ []) [])) [
      | true ↦ ap (λ (t : List Call). k ∷ t) (calls_of-append c d es call r)
      | false ↦ calls_of-append c d es call r
    ]
calls_of-append c d (entry.Inner e x ∷ es) call r = calls_of-append c d es call r

-- two pending maps, before an entry and after it, that come to the same for all that stands before
abbrev pub Agree : Pending → Pending → Entry → Type 0
Agree p q e = (c : ℕ) → get p c ≡ next_call q c (e ∷ [])

next_call-append : (p q : Pending) (e : Entry) → Agree p q e → (c : ℕ) (es : List Entry) → next_call p c es ≡ next_call q c (es ++ e ∷ [])
next_call-append p q e same c [] = same c
next_call-append p q e same c (entry.Call d call r ∷ es) = ap (cond (c == d) (Some call)) (next_call-append p q e same c es)
next_call-append p q e same c (entry.Inner d x ∷ es) = next_call-append p q e same c es

right-append : (p q : Pending) (e : Entry) → Agree p q e → (ds : List ℕ) (w : World) (x : Entry) (es : List Entry) → IsRight p ds w x es → IsRight q ds w x (es ++ e ∷ [])
right-append p q e same ds w (entry.Call c call r) es h = h
right-append p q e same ds w (entry.Inner c x) es h = subst (λ o. IsNeeded w c o x) (next_call-append p q e same c es) h

legal_from-append : (p q : Pending) (ds : List ℕ) (w : World) (es : List Entry) (e : Entry) → Agree p q e → IsLegalFrom p ds w es → IsRight q (doomers_in ds es) (replay w es) e [] → IsLegalFrom q ds w (es ++ e ∷ [])
legal_from-append p q ds w [] e same h right = (right, tt)
legal_from-append p q ds w (x ∷ es) e same h right = (right-append p q e same ds w x es h.0, legal_from-append p q (doomers_after ds x) (after w x) es e same h.1 right)

test_same : (x y : ℕ) → eq_by_cmp nat_cmp x y ≡ (x == y)
test_same x y = sym (unsigned_ties x y)

-- a call entry at the end is that of the call that was pending
agree-call : (p : Pending) (c : ℕ) (call : Call) (r : Reply) → get p c ≡ Some call → Agree p (remove p c) (entry.Call c call r)
agree-call p c call r is d =
    let gone : get (remove p c) d ≡ cond (d == c) None (get p d) = get-remove nat_cmp_total p c d ∙ ap (λ b. cond b None (get p d)) (test_same d c) in
    elim (eqb_tells d c) [
      | inl e ↦ ap (get p) e.1 ∙ is ∙ sym (ap (λ b. cond b (Some call) (get (remove p c) d)) e.0)
      | inr e ↦ sym (gone ∙ ap (λ b. cond b None (get p d)) e.0) ∙ sym (ap (λ b. cond b (Some call) (get (remove p c) d)) e.0)
    ]

right_answer : (p : Pending) (ds : List ℕ) (w v : World) (c : ℕ) (call : Call) (r : Reply) → MayAnswer w ds c call r v → IsRight p ds w (entry.Call c call r) []
right_answer p ds w v c call r h =
    elim (is_no_memory r) as (λ b. MatchBool b (MayLackMemory w ds c × (v ≡ w)) (apply w c call ≡ Finished v r) → MatchBool b (MayLackMemory w ds c) (apply w c call ≡ Finished (world_after w (apply w c call)) r)) [
      | true ↦ λ x. x.0
      | false ↦ λ x. x ∙ ap (λ u. Finished u r) (sym (ap (world_after w) x))
    ] h

after_answer : (ds : List ℕ) (w v : World) (c : ℕ) (call : Call) (r : Reply) → MayAnswer w ds c call r v → v ≡ after w (entry.Call c call r)
after_answer ds w v c call r h =
    elim (is_no_memory r) as (λ b. MatchBool b (MayLackMemory w ds c × (v ≡ w)) (apply w c call ≡ Finished v r) → v ≡ cond b w (world_after w (apply w c call))) [
      | true ↦ λ x. x.1
      | false ↦ λ x. sym (ap (world_after w) x)
    ] h

-- a call that is answered in the world of a history stands right at its end
pub legal-answer : (p : Pending) (w v : World) (es : List Entry) (c : ℕ) (call : Call) (r : Reply) → IsLegal p w es → get p c ≡ Some call → MayAnswer (replay w es) (doomers_in [] es) c call r v
    → IsLegal (remove p c) w (es ++ entry.Call c call r ∷ [])
legal-answer p w v es c call r legal its right =
    legal_from-append p (remove p c) [] w es (entry.Call c call r) (agree-call p c call r its) legal (right_answer (remove p c) (doomers_in [] es) (replay w es) v c call r right)

-- and leaves the world that it answers
pub replay-answer : (w v : World) (es : List Entry) (c : ℕ) (call : Call) (r : Reply) → MayAnswer (replay w es) (doomers_in [] es) c call r v → v ≡ replay w (es ++ entry.Call c call r ∷ [])
replay-answer w v es c call r right = after_answer (doomers_in [] es) (replay w es) v c call r right ∙ sym (replay-append w es (entry.Call c call r))

-- an inner entry that a pending call needs in the world of a history stands right at its end
pub legal-inner : (p : Pending) (w : World) (es : List Entry) (c : ℕ) (call : Call) (x : Inner) → IsLegal p w es → get p c ≡ Some call → apply (replay w es) c call ≡ Needs x
    → IsLegal p w (es ++ entry.Inner c x ∷ [])
legal-inner p w es c call x legal its needs =
    legal_from-append p p [] w es (entry.Inner c x) (λ d. refl) legal (subst (λ o. IsNeeded (replay w es) c o x) (sym its) needs)

-- and leaves what it does to that world
pub replay-inner : (w : World) (es : List Entry) (c : ℕ) (x : Inner) → effect (replay w es) c x ≡ replay w (es ++ entry.Inner c x ∷ [])
replay-inner w es c x = sym (replay-append w es (entry.Inner c x))

-- ---- one more pending call

-- each call that is pending in one map is in the other
abbrev pub AreMore : Pending → Pending → Type 0
AreMore p q = (c : ℕ) (call : Call) → get p c ≡ Some call → get q c ≡ Some call

next_call-more : (p q : Pending) → AreMore p q → (c : ℕ) (call : Call) (es : List Entry) → next_call p c es ≡ Some call → next_call q c es ≡ Some call
next_call-more p q more c call [] is = more c call is
next_call-more p q more c call (entry.Call d k r ∷ es) is =
    elim (c == d) as (λ b. cond b (Some k) (next_call p c es) ≡ Some call → cond b (Some k) (next_call q c es) ≡ Some call) [
      | true ↦ λ e. e
      | false ↦ λ e. next_call-more p q more c call es e
    ] is
next_call-more p q more c call (entry.Inner d x ∷ es) is = next_call-more p q more c call es is

needed-more : (w : World) (c : ℕ) (x : Inner) (o r : Option Call) → ((call : Call) → o ≡ Some call → r ≡ Some call) → IsNeeded w c o x → IsNeeded w c r x
needed-more w c x (Some call) r more h = subst (λ y. IsNeeded w c y x) (sym (more call refl)) h
needed-more w c x None r more h = absurd h

right-more : (p q : Pending) → AreMore p q → (ds : List ℕ) (w : World) (x : Entry) (es : List Entry) → IsRight p ds w x es → IsRight q ds w x es
right-more p q more ds w (entry.Call c call r) es h = h
right-more p q more ds w (entry.Inner c x) es h = needed-more w c x (next_call p c es) (next_call q c es) (λ call is. next_call-more p q more c call es is) h

legal_from-more : (p q : Pending) → AreMore p q → (ds : List ℕ) (w : World) (es : List Entry) → IsLegalFrom p ds w es → IsLegalFrom q ds w es
legal_from-more p q more ds w [] h = tt
legal_from-more p q more ds w (x ∷ es) h = (right-more p q more ds w x es h.0, legal_from-more p q more (doomers_after ds x) (after w x) es h.1)

more-insert : (p : Pending) (c : ℕ) (call : Call) → get p c ≡ None → AreMore p (insert p c call)
more-insert p c call none d k is =
    get-insert nat_cmp_total p c call d ∙ ap (λ b. cond b (Some call) (get p d)) (test_same d c) ∙ elim (eqb_tells d c) as (λ _. cond (d == c) (Some call) (get p d) ≡ Some k) [
      | inl e ↦ let clash : None ≡ Some k = sym none ∙ sym (ap (get p) e.1) ∙ is in absurd cc
      | inr e ↦ ap (λ b. cond b (Some call) (get p d)) e.0 ∙ is
    ]

-- a call that is begun leaves the history legal
pub legal-begin : (p : Pending) (w : World) (es : List Entry) (c : ℕ) (call : Call) → get p c ≡ None → IsLegal p w es → IsLegal (insert p c call) w es
legal-begin p w es c call none h = legal_from-more p (insert p c call) (more-insert p c call none) [] w es h
