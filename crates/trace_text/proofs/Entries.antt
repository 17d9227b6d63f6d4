-- An entry by its words: a call with its reply, or an inner one; and a history by its lines.
use Rattle.std.proofs.Common.{◌≡◌, ℕ, List, [], ◌∷◌, ◌++◌, length, codes, decimal, refl, sym, ap, ◌∙◌, append_assoc, arith}
use Rattle.std.specs.List.{join_with_byte, AllByRecursion}
use Rattle.std.proofs.lemmas.Fmt.{decimal_injective}
use Rattle.call_model.specs.declared.call.Call.{Call}
use Rattle.call_model.specs.declared.entry.Entry.{Entry}
use Rattle.call_model.specs.declared.entry.Entry.TheVariants as entry
use Rattle.call_model.specs.declared.reply.Reply.{Reply}
use Rattle.script_text.specs.Keyword.{keyword, keyword_text}
use Rattle.script_text.specs.Line.{call_words, line_text}
use Rattle.trace_text.specs.Reply.{reply_text}
use Rattle.trace_text.specs.Inner.{inner_text}
use Rattle.trace_text.specs.History.{entry_text, history_text}
use Rattle.trace_text.specs.Bounded.{IsBoundedCall, IsBoundedReply, IsBoundedEntry}
use Rattle.trace_text.proofs.Words.{EachAbove, decimal_above, line_same, first_is, rest_is}
use Rattle.trace_text.proofs.Replies.{reply_words, reply_joined, reply_above, reply_same}
use Rattle.trace_text.proofs.Inners.{inner_words, inner_joined, inner_above, inner_same}
use Rattle.trace_text.proofs.Calls.{call_above, keyword_above, plus_is_no_call, same_count, call_same}

-- lists of the same length, each with a list behind it
fronts_same : {A : Type 0} (xs us ys vs : List A) → length xs ≡ length us → xs ++ ys ≡ us ++ vs → (xs ≡ us) × (ys ≡ vs)
fronts_same [] [] ys vs n e = (refl, e)
fronts_same [] (u ∷ us) ys vs n e = absurd (omega arith)
fronts_same (x ∷ xs) [] ys vs n e = absurd (omega arith)
fronts_same (x ∷ xs) (u ∷ us) ys vs n e =
    let head : x ≡ u = cc in
    let rest : xs ++ ys ≡ us ++ vs = cc in
    let more = fronts_same xs us ys vs (omega arith) rest in
    let front : xs ≡ us = more.0 in
    (cc, more.1)

-- ---- the words of an entry

abbrev pub entry_head : Entry → List ℕ
entry_head (entry.Call caller call reply) = decimal caller
entry_head (entry.Inner caller what) = decimal caller

abbrev pub entry_rest : Entry → List (List ℕ)
entry_rest (entry.Call caller call reply) = keyword_text (keyword call) ∷ (call_words call ++ codes "=" ∷ reply_words reply)
entry_rest (entry.Inner caller what) = codes "+" ∷ inner_words what

join-append : (p : List ℕ) (ps : List (List ℕ)) (q : List ℕ) (qs : List (List ℕ)) → join_with_byte 32 (p ∷ ps) ++ 32 ∷ join_with_byte 32 (q ∷ qs) ≡ join_with_byte 32 (p ∷ (ps ++ q ∷ qs))
join-append p [] q qs = refl
join-append p (x ∷ ps) q qs = append_assoc p (32 ∷ join_with_byte 32 (x ∷ ps)) (32 ∷ join_with_byte 32 (q ∷ qs)) ∙ ap (λ (t : List ℕ). p ++ 32 ∷ t) (join-append x ps q qs)

entry_joined : (e : Entry) → entry_text e ≡ join_with_byte 32 (entry_head e ∷ entry_rest e)
unfolding line_text
entry_joined (entry.Call caller c r) =
    append_assoc (join_with_byte 32 (decimal caller ∷ keyword_text (keyword c) ∷ call_words c)) (codes " = ") (reply_text r)
    ∙ ap (λ (t : List ℕ). join_with_byte 32 (decimal caller ∷ keyword_text (keyword c) ∷ call_words c) ++ (codes " = " ++ t)) (reply_joined r)
    ∙ join-append (decimal caller) (keyword_text (keyword c) ∷ call_words c) (codes "=") (reply_words r)
entry_joined (entry.Inner caller x) = append_assoc (decimal caller) (codes " + ") (inner_text x) ∙ ap (λ (t : List ℕ). decimal caller ++ (codes " + " ++ t)) (inner_joined x)

each_above-append : (ps qs : List (List ℕ)) → EachAbove ps → EachAbove qs → EachAbove (ps ++ qs)
each_above-append [] qs h k = k
each_above-append (p ∷ ps) qs h k = (h.0, each_above-append ps qs h.1 k)

entry_above : (e : Entry) → EachAbove (entry_head e ∷ entry_rest e)
entry_above (entry.Call caller c r) = (decimal_above caller, (keyword_above c, each_above-append (call_words c) (codes "=" ∷ reply_words r) (call_above c) (refl, reply_above r)))
entry_above (entry.Inner caller x) = (decimal_above caller, (refl, inner_above x))

-- ---- the same words, the same entry

-- the words of a call and of its reply
abbrev pub answered_words : Call → Reply → List (List ℕ)
answered_words c r = keyword_text (keyword c) ∷ (call_words c ++ codes "=" ∷ reply_words r)

answered_same : (c d : Call) (r s : Reply) → IsBoundedCall c → IsBoundedCall d → IsBoundedReply r → IsBoundedReply s → answered_words c r ≡ answered_words d s → (c ≡ d) × (r ≡ s)
answered_same c d r s f g h k e =
    let first = first_is (keyword_text (keyword c)) (keyword_text (keyword d)) (call_words c ++ codes "=" ∷ reply_words r) (call_words d ++ codes "=" ∷ reply_words s) e in
    let rest = rest_is (keyword_text (keyword c)) (keyword_text (keyword d)) (call_words c ++ codes "=" ∷ reply_words r) (call_words d ++ codes "=" ∷ reply_words s) e in
    let parts = fronts_same (call_words c) (call_words d) (codes "=" ∷ reply_words r) (codes "=" ∷ reply_words s) (same_count c d first) rest in
    let words : keyword_text (keyword c) ∷ call_words c ≡ keyword_text (keyword d) ∷ call_words d = λ i. first i ∷ parts.0 i in
    (call_same c d f g words, reply_same r s h k (rest_is (codes "=") (codes "=") (reply_words r) (reply_words s) parts.1))

entry_same : (e f : Entry) → IsBoundedEntry e → IsBoundedEntry f → entry_head e ∷ entry_rest e ≡ entry_head f ∷ entry_rest f → e ≡ f
entry_same (entry.Call a c r) (entry.Call b d s) h k e =
    let caller : a ≡ b = decimal_injective a b h.0 k.0 (first_is (decimal a) (decimal b) (answered_words c r) (answered_words d s) e) in
    let parts = answered_same c d r s h.1 k.1 h.2 k.2 (rest_is (decimal a) (decimal b) (answered_words c r) (answered_words d s) e) in
    λ i. entry.Call (caller i) (parts.0 i) (parts.1 i)
entry_same (entry.Call a c r) (entry.Inner b y) h k e =
    let rest = rest_is (decimal a) (decimal b) (answered_words c r) (codes "+" ∷ inner_words y) e in
    absurd (plus_is_no_call c (first_is (keyword_text (keyword c)) (codes "+") (call_words c ++ codes "=" ∷ reply_words r) (inner_words y) rest))
entry_same (entry.Inner a x) (entry.Call b d s) h k e =
    let rest = rest_is (decimal a) (decimal b) (codes "+" ∷ inner_words x) (answered_words d s) e in
    absurd (plus_is_no_call d (sym (first_is (codes "+") (keyword_text (keyword d)) (inner_words x) (call_words d ++ codes "=" ∷ reply_words s) rest)))
entry_same (entry.Inner a x) (entry.Inner b y) h k e =
    let caller : a ≡ b = decimal_injective a b h.0 k.0 (first_is (decimal a) (decimal b) (codes "+" ∷ inner_words x) (codes "+" ∷ inner_words y) e) in
    let rest = rest_is (decimal a) (decimal b) (codes "+" ∷ inner_words x) (codes "+" ∷ inner_words y) e in
    let what : x ≡ y = inner_same x y h.1 k.1 (rest_is (codes "+") (codes "+") (inner_words x) (inner_words y) rest) in
    λ i. entry.Inner (caller i) (what i)

-- ---- histories

spelled : (e : Entry) (rest : List ℕ) → (entry_text e ++ 10 ∷ []) ++ rest ≡ join_with_byte 32 (entry_head e ∷ entry_rest e) ++ 10 ∷ rest
spelled e rest = append_assoc (entry_text e) (10 ∷ []) rest ∙ ap (λ (t : List ℕ). t ++ 10 ∷ rest) (entry_joined e)

line_is_some : (text rest : List ℕ) → [] ≡ (text ++ 10 ∷ []) ++ rest → ⊥
line_is_some [] rest e = absurd cc
line_is_some (b ∷ bs) rest e = absurd cc

pub history_same : (es fs : List Entry) → AllByRecursion IsBoundedEntry es → AllByRecursion IsBoundedEntry fs → history_text es ≡ history_text fs → es ≡ fs
history_same [] [] h k e = refl
history_same [] (y ∷ fs) h k e = absurd (line_is_some (entry_text y) (history_text fs) e)
history_same (x ∷ es) [] h k e = absurd (line_is_some (entry_text x) (history_text es) (sym e))
history_same (x ∷ es) (y ∷ fs) h k e =
    let lines = sym (spelled x (history_text es)) ∙ e ∙ spelled y (history_text fs) in
    let parts = line_same (entry_head x) (entry_rest x) (entry_head y) (entry_rest y) (history_text es) (history_text fs) (entry_above x) (entry_above y) lines in
    let first : x ≡ y = entry_same x y h.0 k.0 parts.0 in
    let rest : es ≡ fs = history_same es fs h.1 k.1 parts.1 in
    λ i. first i ∷ rest i
