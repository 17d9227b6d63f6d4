use Rattle.std.proofs.Common.{◌∙◌, inl}
use Rattle.script_text.proofs.Printed.{script_printed}
use Rattle.script_text.proofs.ScriptLaws.{one_script}
use Rattle.script_text.proofs.script_printing.print_script.Goals as goal

pub returns-clause-text : goal.returns-clause-text
returns-clause-text c =
    c.of.ensures ∙ script_printed c.args.script.now c.in_ok-out.out.items _ _ c.in_ok-out.ensures (rw c.as_slice.ensures at c.in_ok-put_lines.ensures) c.in_ok-extend_from_slice.ensures.items

pub returns-clause-reread : goal.returns-clause-reread
returns-clause-reread c = λ other has is. one_script other c.args.script.now c.of.result has c.requires is (inl (returns-clause-text c))
