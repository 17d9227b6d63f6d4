-- A line that is read is spelled so and fits, and a line that fits is read again.
use Rattle.std.proofs.Common.{◌≡◌, ℕ, ◌<◌, ◌≤◌, ◌^◌, true, false, ◌&&◌, nat_lt, nat_le, ◌==◌, cond, List, [], ◌∷◌, codes, decimal, Some, None, refl, sym, ap, subst, ◌∙◌, arith, lit<}
use Rattle.std.specs.List.{slice_split}
use Rattle.std.specs.Str.{bytes_eq}
use Rattle.std.proofs.lemmas.Option.{cond_some, same_Some}
use Rattle.std.proofs.lemmas.Bool.{and_parts, ltb-true, lt-ltb, leb-true, le-leb}
use Rattle.call_model.specs.declared.call.Call.{Call}
use Rattle.call_model.specs.declared.call.Line.{Line}
use Rattle.script_text.specs.Keyword.{keyword, keyword_text, keyword_at}
use Rattle.script_text.specs.Line.{call_words, line_words, line_text}
use Rattle.script_text.specs.Fits.{FitsCall, FitsLine}
use Rattle.script_text.specs.Reading.{◌>>=◌}
use Rattle.script_text.specs.ReadWord.{number_at}
use Rattle.script_text.specs.ReadCall.{call_at, words_at, is_caller, line_at}
use Rattle.script_text.proofs.Joined.{lacks, EachLacks, above_lacks, cut_joined, joined_lacks}
use Rattle.script_text.proofs.Values.{same_bytes, bytes_are, bind_some, number_again, keyword_again, keyword_above}
use Rattle.script_text.proofs.CallLaws.{call_found, call_again, number_lacks, call_lacks}

-- ---- words

-- the line of these three
abbrev made : ℕ → Call → Line
made n c = record { caller = n; call = c }

words_found : (words : List (List ℕ)) (line : Line) → words_at words ≡ Some line → FitsCall line.call
unfolding words_at
words_found [] line e = absurd cc
words_found (caller ∷ []) line e = absurd cc
words_found (caller ∷ word ∷ words) line e =
    let n = bind_some (number_at caller) (λ n. keyword_at word >>= λ k. call_at k words >>= λ c. Some (made n c)) line e in
    let k = bind_some (keyword_at word) (λ k. call_at k words >>= λ c. Some (made n.0 c)) line n.2 in
    let c = bind_some (call_at k.0 words) (λ c. Some (made n.0 c)) line k.2 in
    subst (λ (l : Line). FitsCall l.call) (same_Some (made n.0 c.0) line c.2) (call_found k.0 words c.0 c.1)

words_again : (line : Line) → line.caller < 2 ^ 32 → FitsCall line.call → words_at (line_words line) ≡ Some line
unfolding words_at
words_again line low fits =
    let n : number_at (decimal line.caller) ≡ Some line.caller = number_again line.caller low in
    let k : keyword_at (keyword_text (keyword line.call)) ≡ Some (keyword line.call) = keyword_again (keyword line.call) in
    let c : call_at (keyword line.call) (call_words line.call) ≡ Some line.call = call_again line.call fits in
    rw (n, k, c) refl

words_lack : (b : ℕ) (line : Line) → b < 33 → line.caller < 2 ^ 32 → FitsCall line.call → EachLacks b (line_words line)
words_lack b line low small fits =
    (number_lacks b line.caller low small, (above_lacks b (keyword_text (keyword line.call)) low (keyword_above (keyword line.call)), call_lacks b line.call low fits))

-- ---- lines

pub line_found : (callers : ℕ) (text : List ℕ) (line : Line) → line_at callers text ≡ Some line → (line_text line ≡ text) × FitsLine callers line
unfolding line_at
line_found callers text line e =
    let b = bind_some (words_at (slice_split (λ b. b == 32) text)) (λ l. cond (bytes_eq (line_text l) text && is_caller callers l.caller) (Some l) None) line e in
    let c = cond_some (bytes_eq (line_text b.0) text && is_caller callers b.0.caller) b.0 line b.2 in
    let p = and_parts (bytes_eq (line_text b.0) text) (is_caller callers b.0.caller) c.0 in
    let q = and_parts (nat_lt 0 b.0.caller) (nat_le b.0.caller callers) p.1 in
    let some : 0 < b.0.caller = ltb-true 0 b.0.caller q.0 in
    let few : b.0.caller ≤ callers = leb-true b.0.caller callers q.1 in
    subst (λ (x : Line). (line_text x ≡ text) × FitsLine callers x) c.1 (bytes_are (line_text b.0) text p.0, record { first = omega arith; last = few; call = words_found (slice_split (λ b. b == 32) text) b.0 b.1 })

pub caller_below : (callers : ℕ) (line : Line) → callers ≤ 16 → FitsLine callers line → line.caller < 2 ^ 32
caller_below callers line few fits = omega (arith, fits.last)

-- the words of a line are cut apart
pub line_cut : (callers : ℕ) (line : Line) → callers ≤ 16 → FitsLine callers line → slice_split (λ b. b == 32) (line_text line) ≡ line_words line
unfolding line_text
line_cut callers line few fits =
    cut_joined 32 (decimal line.caller) (keyword_text (keyword line.call) ∷ call_words line.call) (words_lack 32 line (lit< tt) (caller_below callers line few fits) fits.call)

pub line_again : (callers : ℕ) (line : Line) → callers ≤ 16 → FitsLine callers line → line_at callers (line_text line) ≡ Some line
unfolding line_at
line_again callers line few fits =
    let cut : slice_split (λ b. b == 32) (line_text line) ≡ line_words line = line_cut callers line few fits in
    let read : words_at (line_words line) ≡ Some line = words_again line (caller_below callers line few fits) fits.call in
    let same : bytes_eq (line_text line) (line_text line) ≡ true = same_bytes (line_text line) in
    let some : nat_lt 0 line.caller ≡ true = lt-ltb 0 line.caller (omega (arith, fits.first)) in
    let few_enough : nat_le line.caller callers ≡ true = le-leb line.caller callers fits.last in
    rw (cut, read, same, some, few_enough) refl

pub line_lacks : (callers : ℕ) (line : Line) → callers ≤ 16 → FitsLine callers line → lacks 10 (line_text line) ≡ true
unfolding line_text
line_lacks callers line few fits = joined_lacks 10 32 (line_words line) refl (words_lack 10 line (lit< tt) (caller_below callers line few fits) fits.call)

end_is_no_line : (callers : ℕ) (line : Line) → line_at callers (codes "end") ≡ Some line → ⊥
unfolding line_at words_at
end_is_no_line callers line e = cc

-- no line is the word `end`
pub line_is_no_end : (callers : ℕ) (line : Line) → callers ≤ 16 → FitsLine callers line → bytes_eq (line_text line) (codes "end") ≡ false
line_is_no_end callers line few fits =
    elim (bytes_eq (line_text line) (codes "end")) as (λ b. bytes_eq (line_text line) (codes "end") ≡ b → b ≡ false) [
      | true ↦ λ e.
          let end : line_text line ≡ codes "end" = bytes_are (line_text line) (codes "end") e in
          let read : line_at callers (codes "end") ≡ Some line = sym (ap (line_at callers) end) ∙ line_again callers line few fits in
          absurd (end_is_no_line callers line read)
      | false ↦ λ e. refl
    ] refl
