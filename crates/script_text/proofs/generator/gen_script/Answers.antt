use Rattle.std.proofs.Common.{◌≡◌, ℕ, map, refl, sym, ap, ◌∙◌, arith}
use Rattle.std.specs.List.{range_with_len}
use Rattle.std.proofs.lemmas.List.FromFn.{map-range_with_len_more}
use Rattle.script_text.specs.Generator.{gen_line, gen_lines}
use Rattle.script_text.proofs.GeneratorLaws.{gen_HasText}
use Rattle.script_text.proofs.generator.gen_script.Goals as goal

pub loop-j-preserved : goal.loop-j-preserved
loop-j-preserved c =
    let j = c.loop-j.j in
    let line : c.in_ok-gen_line.field-0 ≡ gen_line c.args.seed j = c.in_ok-gen_line.ensures in
    c.in_ok-push.ensures.items ∙ rw (c.loop-j.invariant, line) (sym (map-range_with_len_more (gen_line c.args.seed) 0 j j (omega arith)))

pub returns-clause-lines : goal.returns-clause-lines
unfolding gen_lines
returns-clause-lines c =
    let all : c.loop-j.j ≡ c.args.calls = omega arith in
    c.of.ensures ∙ c.loop-j.invariant ∙ ap (λ (n : ℕ). map (gen_line c.args.seed) (range_with_len 0 n)) all

pub returns-clause-text : goal.returns-clause-text
returns-clause-text c = gen_HasText c.args.seed c.args.calls _ c.requires.few refl (returns-clause-lines c)
