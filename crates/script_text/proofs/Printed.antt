-- A script that is printed line after line.
use Rattle.std.proofs.Common.{◌≡◌, ℕ, true, false, cond, List, [], ◌∷◌, ◌++◌, codes, flat_map, refl, sym, ap, ◌∙◌, append_assoc}
use Rattle.std.specs.List.{join_with_byte}
use Rattle.call_model.specs.declared.call.Line.{Line}
use Rattle.script_text.specs.declared.script.Script.{Script}
use Rattle.script_text.specs.Line.{line_text, ended_line}
use Rattle.script_text.specs.Script.{is_default, limits_text, call_lines, short_text, whole_text, head_text, script_text}

joined_after : (first : List ℕ) (lines : List Line) → join_with_byte 10 (first ∷ call_lines lines) ≡ first ++ 10 ∷ join_with_byte 10 (call_lines lines)
joined_after first [] = refl
joined_after first (x ∷ xs) = refl

joined_lines : (lines : List Line) → join_with_byte 10 (call_lines lines) ≡ flat_map ended_line lines ++ codes "end\n"
joined_lines [] = refl
joined_lines (x ∷ xs) =
    let grouped : ((line_text x ++ 10 ∷ []) ++ flat_map ended_line xs) ++ codes "end\n" ≡ line_text x ++ 10 ∷ (flat_map ended_line xs ++ codes "end\n") = simp append_assoc in
    joined_after (line_text x) xs ∙ ap (λ (t : List ℕ). line_text x ++ 10 ∷ t) (joined_lines xs) ∙ sym grouped

short_is : (script : Script) → short_text script ≡ codes "vfs 1\n" ++ (flat_map ended_line script.lines ++ codes "end\n")
unfolding short_text
short_is script = joined_after (codes "vfs 1") script.lines ∙ ap (λ (t : List ℕ). codes "vfs 1" ++ 10 ∷ t) (joined_lines script.lines)

whole_is : (script : Script) → whole_text script ≡ codes "vfs 1\n" ++ ((limits_text script.limits ++ 10 ∷ []) ++ (flat_map ended_line script.lines ++ codes "end\n"))
unfolding whole_text
whole_is script =
    let rest : join_with_byte 10 (limits_text script.limits ∷ call_lines script.lines) ≡ limits_text script.limits ++ 10 ∷ (flat_map ended_line script.lines ++ codes "end\n") = joined_after (limits_text script.limits) script.lines ∙ ap (λ (t : List ℕ). limits_text script.limits ++ 10 ∷ t) (joined_lines script.lines) in
    let grouped : (limits_text script.limits ++ 10 ∷ []) ++ (flat_map ended_line script.lines ++ codes "end\n") ≡ limits_text script.limits ++ 10 ∷ (flat_map ended_line script.lines ++ codes "end\n") = append_assoc (limits_text script.limits) (10 ∷ []) (flat_map ended_line script.lines ++ codes "end\n") in
    ap (λ (t : List ℕ). codes "vfs 1" ++ 10 ∷ t) (rest ∙ sym grouped)

-- the text is the head, the lines and the last line
pub script_is : (script : Script) → script_text script ≡ (head_text script.limits ++ flat_map ended_line script.lines) ++ codes "end\n"
unfolding script_text
script_is script =
    let lines = flat_map ended_line script.lines in
    elim (is_default script.limits) as (λ b. cond b (short_text script) (whole_text script) ≡ ((codes "vfs 1" ++ 10 ∷ cond b [] (limits_text script.limits ++ 10 ∷ [])) ++ lines) ++ codes "end\n") [
      | true ↦ short_is script
      | false ↦
          let line = limits_text script.limits ++ 10 ∷ [] in
          whole_is script ∙ ap (λ (t : List ℕ). codes "vfs 1\n" ++ t) (sym (append_assoc line lines (codes "end\n")))
    ]

pub script_printed : (script : Script) (a b d : List ℕ) → a ≡ head_text script.limits → b ≡ a ++ flat_map ended_line script.lines → d ≡ b ++ codes "end\n" → d ≡ script_text script
script_printed script a b d p q r = r ∙ ap (λ (t : List ℕ). t ++ codes "end\n") (q ∙ ap (λ (t : List ℕ). t ++ flat_map ended_line script.lines) p) ∙ sym (script_is script)
