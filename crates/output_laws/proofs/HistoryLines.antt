-- A history by the lines of an output: where it ends, and which one it is.
use Rattle.std.proofs.Common.{◌≡◌, ℕ, ◌<◌, Bool, true, false, ◌||◌, nat_lt, ◌==◌, List, [], ◌∷◌, ◌++◌, codes, decimal, refl, sym, ap, ◌∙◌, append_assoc, arith}
use Rattle.std.specs.List.{join_with_byte, list_all, list_any, AllByRecursion}
use Rattle.std.proofs.lemmas.Bool.{and_parts, and_from, ltb-true, lt-ltb}
use Rattle.std.proofs.lemmas.List.Folds.{list_all-append}
use Rattle.vfs_tree.specs.declared.world.World.{World}
use Rattle.call_model.specs.declared.call.Call.{Call}
use Rattle.call_model.specs.declared.entry.Entry.{Entry}
use Rattle.call_model.specs.declared.entry.Entry.TheVariants as entry
use Rattle.call_model.specs.declared.entry.Inner.{Inner}
use Rattle.call_model.specs.declared.reply.Reply.{Reply}
use Rattle.script_text.specs.Keyword.{keyword, keyword_text}
use Rattle.script_text.specs.Line.{call_words, call_text, line_text}
use Rattle.trace_text.specs.Bounded.{IsBoundedEntry}
use Rattle.trace_text.specs.History.{entry_text, entry_line, history_text}
use Rattle.trace_text.specs.Inner.{inner_text}
use Rattle.trace_text.specs.Output.{first_line, trees_line, last_line, output_text}
use Rattle.trace_text.specs.Reply.{reply_text}
use Rattle.trace_text.specs.Trees.{trees_text}
use Rattle.trace_text.proofs.Calls.{call_above, keyword_above}
use Rattle.trace_text.proofs.Entries.{history_same}
use Rattle.trace_text.proofs.Inners.{inner_head, inner_rest, inner_joined, inner_above}
use Rattle.trace_text.proofs.Replies.{reply_head, reply_rest, reply_joined, reply_above}
use Rattle.trace_text.proofs.Words.{is_above, EachAbove, decimal_above}

-- ---- the text of an entry has no line end

-- each byte is a space or above it
abbrev is_spaced : List ℕ → Bool
is_spaced xs = list_all (λ b. nat_lt 31 b) xs

above_spaced : (xs : List ℕ) → is_above xs ≡ true → is_spaced xs ≡ true
above_spaced [] h = refl
above_spaced (x ∷ xs) h =
    let p = and_parts (nat_lt 32 x) (is_above xs) h in
    let high : 32 < x = ltb-true 32 x p.0 in
    and_from (nat_lt 31 x) (is_spaced xs) (lt-ltb 31 x (omega (arith, high))) (above_spaced xs p.1)

both_spaced : (xs ys : List ℕ) → is_spaced xs ≡ true → is_spaced ys ≡ true → is_spaced (xs ++ ys) ≡ true
both_spaced xs ys h k = list_all-append (λ b. nat_lt 31 b) xs ys ∙ and_from (is_spaced xs) (is_spaced ys) h k

joined_spaced : (p : List ℕ) (ps : List (List ℕ)) → EachAbove (p ∷ ps) → is_spaced (join_with_byte 32 (p ∷ ps)) ≡ true
joined_spaced p [] h = above_spaced p h.0
joined_spaced p (q ∷ qs) h = both_spaced p (32 ∷ join_with_byte 32 (q ∷ qs)) (above_spaced p h.0) (joined_spaced q qs h.1)

call_spaced : (caller : ℕ) (c : Call) → is_spaced (call_text caller c) ≡ true
unfolding line_text
call_spaced caller c = joined_spaced (decimal caller) (keyword_text (keyword c) ∷ call_words c) (decimal_above caller, (keyword_above c, call_above c))

reply_spaced : (r : Reply) → is_spaced (reply_text r) ≡ true
reply_spaced r = ap is_spaced (reply_joined r) ∙ joined_spaced (reply_head r) (reply_rest r) (reply_above r)

inner_spaced : (x : Inner) → is_spaced (inner_text x) ≡ true
inner_spaced x = ap is_spaced (inner_joined x) ∙ joined_spaced (inner_head x) (inner_rest x) (inner_above x)

entry_spaced : (e : Entry) → is_spaced (entry_text e) ≡ true
entry_spaced (entry.Call caller c r) = ap is_spaced (append_assoc (call_text caller c) (codes " = ") (reply_text r)) ∙ both_spaced (call_text caller c) (codes " = " ++ reply_text r) (call_spaced caller c) (reply_spaced r)
entry_spaced (entry.Inner caller x) =
    ap is_spaced (append_assoc (decimal caller) (codes " + ") (inner_text x)) ∙ both_spaced (decimal caller) (codes " + " ++ inner_text x) (above_spaced (decimal caller) (decimal_above caller)) (inner_spaced x)

-- a line up to its line end, and what follows it
line_apart : (xs us ys vs : List ℕ) → is_spaced xs ≡ true → is_spaced us ≡ true → xs ++ 10 ∷ ys ≡ us ++ 10 ∷ vs → (xs ≡ us) × (ys ≡ vs)
line_apart [] [] ys vs h k e = (refl, cc)
line_apart [] (u ∷ us) ys vs h k e =
    let p = and_parts (nat_lt 31 u) (is_spaced us) k in
    let high : 31 < u = ltb-true 31 u p.0 in
    let same : 10 ≡ u = cc in
    absurd (omega arith)
line_apart (x ∷ xs) [] ys vs h k e =
    let p = and_parts (nat_lt 31 x) (is_spaced xs) h in
    let high : 31 < x = ltb-true 31 x p.0 in
    let same : x ≡ 10 = cc in
    absurd (omega arith)
line_apart (x ∷ xs) (u ∷ us) ys vs h k e =
    let p = and_parts (nat_lt 31 x) (is_spaced xs) h in
    let q = and_parts (nat_lt 31 u) (is_spaced us) k in
    let head : x ≡ u = cc in
    let rest : xs ++ 10 ∷ ys ≡ us ++ 10 ∷ vs = cc in
    let more = line_apart xs us ys vs p.1 q.1 rest in
    let front : xs ≡ us = more.0 in
    (cc, more.1)

-- ---- the line behind the history is that of no entry

has_space : List ℕ → Bool
has_space xs = list_any (λ b. b == 32) xs

space_between : (xs ys : List ℕ) → has_space (xs ++ 32 ∷ ys) ≡ true
unfolding has_space
space_between [] ys = refl
space_between (x ∷ xs) ys = by (x == 32) (space_between xs ys)
  where
    by : (b : Bool) → has_space (xs ++ 32 ∷ ys) ≡ true → (b || has_space (xs ++ 32 ∷ ys)) ≡ true
    by true h = refl
    by false h = h

entry_space : (e : Entry) → has_space (entry_text e) ≡ true
entry_space (entry.Call caller c r) = ap has_space (append_assoc (call_text caller c) (codes " = ") (reply_text r)) ∙ space_between (call_text caller c) (codes "= " ++ reply_text r)
entry_space (entry.Inner caller x) = ap has_space (append_assoc (decimal caller) (codes " + ") (inner_text x)) ∙ space_between (decimal caller) (codes "+ " ++ inner_text x)

no_space : has_space (codes "trees") ≡ false
unfolding has_space
no_space = refl

trees_no_entry : (e : Entry) → codes "trees" ≡ entry_text e → ⊥
trees_no_entry e is =
    let clash : false ≡ true = sym no_space ∙ ap has_space is ∙ entry_space e in
    absurd cc

-- ---- histories

lines_apart : (e : Entry) (rest more : List ℕ) → (entry_line e ++ rest) ++ more ≡ entry_text e ++ 10 ∷ (rest ++ more)
lines_apart e rest more = append_assoc (entry_line e) rest more ∙ append_assoc (entry_text e) (10 ∷ []) (rest ++ more)

-- the same histories, each with the line and some text behind it
history_apart : (es fs : List Entry) (r s : List ℕ) → history_text es ++ (trees_line ++ r) ≡ history_text fs ++ (trees_line ++ s) → history_text es ≡ history_text fs
history_apart [] [] r s e = refl
history_apart [] (y ∷ fs) r s e =
    let more = history_text fs ++ (trees_line ++ s) in
    absurd (trees_no_entry y (line_apart (codes "trees") (entry_text y) r more refl (entry_spaced y) (e ∙ lines_apart y (history_text fs) (trees_line ++ s))).0)
history_apart (x ∷ es) [] r s e =
    let more = history_text es ++ (trees_line ++ r) in
    absurd (trees_no_entry x (sym (line_apart (entry_text x) (codes "trees") more s (entry_spaced x) refl (sym (lines_apart x (history_text es) (trees_line ++ r)) ∙ e)).0))
history_apart (x ∷ es) (y ∷ fs) r s e =
    let lines = sym (lines_apart x (history_text es) (trees_line ++ r)) ∙ e ∙ lines_apart y (history_text fs) (trees_line ++ s) in
    let parts = line_apart (entry_text x) (entry_text y) (history_text es ++ (trees_line ++ r)) (history_text fs ++ (trees_line ++ s)) (entry_spaced x) (entry_spaced y) lines in
    let first : entry_text x ≡ entry_text y = parts.0 in
    let rest : history_text es ≡ history_text fs = history_apart es fs r s parts.1 in
    λ i. (first i ++ 10 ∷ []) ++ rest i

-- behind the first line
after_first : (xs ys : List ℕ) → first_line ++ xs ≡ first_line ++ ys → xs ≡ ys
after_first xs ys e = cc

-- what stands behind the history
abbrev behind : World → List ℕ
behind w = trees_text w ++ last_line

output_parts : (es : List Entry) (w : World) → output_text es w ≡ first_line ++ (history_text es ++ (trees_line ++ behind w))
output_parts es w =
    append_assoc (first_line ++ history_text es ++ trees_line) (trees_text w) last_line
    ∙ append_assoc (first_line ++ history_text es) trees_line (behind w)
    ∙ append_assoc first_line (history_text es) (trees_line ++ behind w)

-- outputs of the same bytes have the same history
pub output_same : (es fs : List Entry) (w v : World) → AllByRecursion IsBoundedEntry es → AllByRecursion IsBoundedEntry fs → output_text es w ≡ output_text fs v → es ≡ fs
output_same es fs w v h k e =
    let parts = sym (output_parts es w) ∙ e ∙ output_parts fs v in
    history_same es fs h k (history_apart es fs (behind w) (behind v) (after_first (history_text es ++ (trees_line ++ behind w)) (history_text fs ++ (trees_line ++ behind v)) parts))
