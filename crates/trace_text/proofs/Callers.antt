-- The callers of call entries, each once.
use Rattle.std.proofs.Common.{◌≡◌, ℕ, ◌+◌, Bool, true, false, ◌||◌, ◌==◌, cond, List, [], ◌∷◌, ◌++◌, length, Option, Some, None, is_some, refl, sym, ap, ◌∙◌, arith}
use Rattle.std.specs.List.{list_any}
use Rattle.std.specs.Set.{distinct_count, unique_keys}
use Rattle.std.specs.Ordering.{nat_cmp}
use Rattle.std.specs.Cmp.{nat_cmp_total, unsigned_tied}
use Rattle.std.specs.FinMap.{FinMap, empty, insert, get, len, get-empty, get-insert, len-empty, len-insert, same_map, nat_cmp-IsAntisymmetric}
use Rattle.call_model.specs.declared.call.Call.{Call}
use Rattle.call_model.specs.declared.reply.Reply.{Reply}
use Rattle.call_model.specs.declared.entry.Entry.{Entry}
use Rattle.call_model.specs.declared.entry.Entry.TheVariants as entry
use Rattle.trace_text.specs.Summary.{callers_of}

pub callers_of-append : (xs ys : List Entry) → callers_of (xs ++ ys) ≡ callers_of xs ++ callers_of ys
callers_of-append [] ys = refl
callers_of-append (entry.Call c k r ∷ xs) ys = ap (λ (t : List ℕ). c ∷ t) (callers_of-append xs ys)
callers_of-append (entry.Inner c x ∷ xs) ys = callers_of-append xs ys

-- the set of these callers
set_of : List ℕ → FinMap nat_cmp (Unit {0})
set_of [] = empty
set_of (c ∷ cs) = insert (set_of cs) c tt

one_more : (same : Bool) (before : Option (Unit {0})) → is_some (cond same (Some tt) before) ≡ (same || is_some before)
one_more true before = refl
one_more false before = refl

set_has : (cs : List ℕ) (q : ℕ) → is_some (get (set_of cs) q) ≡ list_any (λ c. q == c) cs
unfolding set_of
set_has [] q = ap is_some (get-empty {X = Unit {0}} nat_cmp q)
set_has (c ∷ cs) q =
    ap is_some (get-insert nat_cmp_total (set_of cs) c tt q ∙ ap (λ b. cond b (Some tt) (get (set_of cs) q)) (unsigned_tied q c)) ∙ one_more (q == c) (get (set_of cs) q)
    ∙ ap (λ b. (q == c) || b) (set_has cs q)

one_longer : (known : Bool) (n c : ℕ) (keys : List ℕ) → n ≡ length keys → cond known n (n + 1) ≡ length (cond known keys (c ∷ keys))
one_longer true n c keys e = e
one_longer false n c keys e = omega (arith, e)

set_len : (cs : List ℕ) → len (set_of cs) ≡ distinct_count (λ x y. x == y) cs
unfolding set_of
set_len [] = len-empty nat_cmp (Unit {0})
set_len (c ∷ cs) =
    len-insert nat_cmp_total (set_of cs) c tt ∙ ap (λ b. cond b (len (set_of cs)) (len (set_of cs) + 1)) (set_has cs c)
    ∙ one_longer (list_any (λ x. c == x) cs) (len (set_of cs)) c (unique_keys (λ x y. x == y) cs) (set_len cs)

same_unit : (a b : Option (Unit {0})) → is_some a ≡ is_some b → a ≡ b
same_unit None None e = refl
same_unit None (Some x) e = absurd cc
same_unit (Some x) None e = absurd cc
same_unit (Some x) (Some y) e = refl

-- a map that has these callers has as many keys as there are different ones
pub callers_counted : (m : FinMap nat_cmp (Unit {0})) (cs : List ℕ) → ((q : ℕ) → is_some (get m q) ≡ list_any (λ c. q == c) cs) → len m ≡ distinct_count (λ x y. x == y) cs
callers_counted m cs has =
    ap len (same_map nat_cmp_total nat_cmp-IsAntisymmetric m (set_of cs) (λ q. same_unit (get m q) (get (set_of cs) q) (has q ∙ sym (set_has cs q)))) ∙ set_len cs

or_turned : (a b : Bool) → (a || b) ≡ (b || (a || false))
or_turned true true = refl
or_turned true false = refl
or_turned false true = refl
or_turned false false = refl

-- the caller of a call entry is known
pub caller_known : (m new : FinMap nat_cmp (Unit {0})) (e : Entry) (c : ℕ) (call : Call) (r : Reply) (q : ℕ) → e ≡ entry.Call c call r → new ≡ insert m c tt
    → is_some (get new q) ≡ (is_some (get m q) || list_any (λ c. q == c) (callers_of (e ∷ [])))
caller_known m new e c call r q is more =
    ap (λ n. is_some (get n q)) more ∙ ap is_some (get-insert nat_cmp_total m c tt q ∙ ap (λ b. cond b (Some tt) (get m q)) (unsigned_tied q c)) ∙ one_more (q == c) (get m q)
    ∙ or_turned (q == c) (is_some (get m q)) ∙ sym (ap (λ e. is_some (get m q) || list_any (λ c. q == c) (callers_of (e ∷ []))) is)
