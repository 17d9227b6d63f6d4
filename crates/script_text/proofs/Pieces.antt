-- A line that is printed piece after piece.
use Rattle.std.proofs.Common.{◌≡◌, ℕ, List, [], ◌∷◌, ◌++◌, append_assoc, decimal, sym, ap, ◌∙◌}
use Rattle.call_model.specs.declared.call.Line.{Line}
use Rattle.script_text.specs.Keyword.{keyword, keyword_text}
use Rattle.script_text.specs.Line.{call_words, spaced, line_text}
use Rattle.script_text.proofs.Joined.{joined_first}

pub line_printed : (out a b d e text : List ℕ) (n : ℕ) (line : Line) → n ≡ line.caller → a ≡ out ++ decimal n → b ≡ a ++ 32 ∷ [] → text ≡ keyword_text (keyword line.call) → d ≡ b ++ text → e ≡ d ++ spaced (call_words line.call) → e ≡ out ++ line_text line
unfolding line_text
line_printed out a b d e text n line same first q is r s =
    let p : a ≡ out ++ decimal line.caller = rw same at first in
    let grouped : (((out ++ decimal line.caller) ++ 32 ∷ []) ++ text) ++ spaced (call_words line.call) ≡ out ++ (decimal line.caller ++ 32 ∷ (text ++ spaced (call_words line.call))) = simp append_assoc in
    let pieces : e ≡ (((out ++ decimal line.caller) ++ 32 ∷ []) ++ text) ++ spaced (call_words line.call) = cc in
    let words : decimal line.caller ++ 32 ∷ (text ++ spaced (call_words line.call)) ≡ line_text line = rw is (sym (joined_first 32 (decimal line.caller) (keyword_text (keyword line.call) ∷ call_words line.call))) in
    pieces ∙ grouped ∙ ap (λ (t : List ℕ). out ++ t) words
