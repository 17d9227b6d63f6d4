-- Counts of the entries of a history, one entry after the other.
use Rattle.std.proofs.Common.{◌≡◌, ℕ, ◌+◌, ◌<◌, Bool, true, false, ◌||◌, ◌==◌, List, [], ◌∷◌, ◌++◌, length, take, get_or, is_some, Result, Ok, Err, OnOk, sym, ap, ◌∙◌, arith, append_assoc}
use mir.Val.{bool_byte}
use Rattle.std.specs.List.{count_by, list_any}
use Rattle.std.specs.Set.{distinct_count}
use Rattle.std.specs.Ordering.{nat_cmp}
use Rattle.std.specs.FinMap.{FinMap, empty, get, len, get-empty}
use Rattle.std.proofs.lemmas.List.{take_more}
use Rattle.std.proofs.lemmas.List.Folds.{list_any-append}
use Rattle.std.proofs.lemmas.List.Sums.{count_by_more_yes, count_by_more_no}
use Rattle.call_model.specs.declared.entry.Entry.{Entry}
use Rattle.vfs_tree.specs.declared.world.World.{World}
use Rattle.trace_text.specs.declared.summary.Counts.{Counts}
use Rattle.trace_text.specs.Summary.{is_call, is_inner, is_done, is_refused, lacks_memory, callers_of, AreCounts, calls_text, rest_text, summary_text}
use Rattle.trace_text.proofs.Callers.{callers_of-append, callers_counted}

-- one entry more, which counts where it passes the test
pub counted : (p : Entry → Bool) (es : List Entry) (i : ℕ) (e : Entry) (n m : ℕ) (b : Bool) → i < length es → e ≡ get_or es i e → n ≡ count_by p (take i es) → b ≡ p e → m ≡ bool_byte b
    → n + m ≡ count_by p (take (i + 1) es)
counted p es i e n m true within at so_far passes one =
    let yes : p (get_or es i e) ≡ true = sym (ap p at) ∙ sym passes in
    let more : count_by p (take (i + 1) es) ≡ count_by p (take i es) + 1 = count_by_more_yes p es i e within yes in
    omega (arith, so_far, one, more)
counted p es i e n m false within at so_far passes none =
    let no : p (get_or es i e) ≡ false = sym (ap p at) ∙ sym passes in
    let same : count_by p (take (i + 1) es) ≡ count_by p (take i es) = count_by_more_no p es i e within no in
    omega (arith, so_far, none, same)

-- the callers that are known, with that of one entry more
pub known : (m new : FinMap nat_cmp (Unit {0})) (es : List Entry) (i : ℕ) (e : Entry) (q : ℕ) → i < length es → e ≡ get_or es i e → is_some (get m q) ≡ list_any (λ c. q == c) (callers_of (take i es))
    → is_some (get new q) ≡ (is_some (get m q) || list_any (λ c. q == c) (callers_of (e ∷ []))) → is_some (get new q) ≡ list_any (λ c. q == c) (callers_of (take (i + 1) es))
known m new es i e q within at so_far more =
    let last : take (i + 1) es ≡ take i es ++ e ∷ [] = take_more es i e within ∙ ap (λ (x : Entry). take i es ++ x ∷ []) (sym at) in
    more ∙ ap (λ b. b || list_any (λ c. q == c) (callers_of (e ∷ []))) so_far ∙ sym (list_any-append (λ c. q == c) (callers_of (take i es)) (callers_of (e ∷ [])))
    ∙ sym (ap (list_any (λ c. q == c)) (ap callers_of last ∙ callers_of-append (take i es) (e ∷ [])))

-- before the first entry no caller is known
pub none_known : (m : FinMap nat_cmp (Unit {0})) (q : ℕ) → m ≡ empty → is_some (get m q) ≡ false
none_known m q is = ap (λ m. is_some (get m q)) is ∙ ap is_some (get-empty {X = Unit {0}} nat_cmp q)

-- what is written of the counts is the summary
pub summarized : (counts : Counts) (es : List Entry) (w : World) (out front whole : List ℕ) → AreCounts counts es → front ≡ out ++ calls_text counts.calls (len counts.callers) counts.done counts.refused counts.no_memory
    → whole ≡ front ++ rest_text counts.inner (length es) (len w.mounts) → whole ≡ out ++ summary_text es w
summarized counts es w out front whole h first rest =
    let callers : len counts.callers ≡ distinct_count (λ a b. a == b) (callers_of es) = callers_counted counts.callers (callers_of es) h.callers in
    let calls = calls_text (count_by is_call es) (distinct_count (λ a b. a == b) (callers_of es)) (count_by is_done es) (count_by is_refused es) (count_by lacks_memory es) in
    let begins : front ≡ out ++ calls = first ∙ (λ i. out ++ calls_text (h.calls i) (callers i) (h.done i) (h.refused i) (h.no_memory i)) in
    let ends : whole ≡ front ++ rest_text (count_by is_inner es) (length es) (len w.mounts) = rest ∙ ap (λ n. front ++ rest_text n (length es) (len w.mounts)) h.inner in
    ends ∙ ap (λ t. t ++ rest_text (count_by is_inner es) (length es) (len w.mounts)) begins ∙ append_assoc out calls (rest_text (count_by is_inner es) (length es) (len w.mounts))

pub written : {E : Type 0} (counts : Counts) (es : List Entry) (w : World) (out front whole : List ℕ) (mounts : ℕ) (r : Result (Unit {0}) E) → AreCounts counts es → front ≡ out ++ calls_text counts.calls (len counts.callers) counts.done counts.refused counts.no_memory
    → mounts ≡ len w.mounts → OnOk r (whole ≡ front ++ rest_text counts.inner (length es) mounts) → OnOk r (whole ≡ out ++ summary_text es w)
written counts es w out front whole mounts (Ok x) h first many rest = summarized counts es w out front whole h first (rest ∙ ap (λ n. front ++ rest_text counts.inner (length es) n) many)
written counts es w out front whole mounts (Err e) h first many rest = tt
