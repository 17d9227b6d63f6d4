use Rattle.std.proofs.Common.{ap, ◌∙◌}
use Rattle.script_text.specs.Keyword.{keyword_text}
use Rattle.script_text.proofs.Pieces.{line_printed}
use Rattle.script_text.proofs.printing.put_call.Goals as goal

pub returns : goal.returns
returns c =
    line_printed c.args.out.now.items _ _ _ _ c.text.result.now _ (record { caller = c.args.caller; call = c.args.call.now }) c.from.ensures c.in_ok-put_number.ensures c.in_ok-push.ensures.items
    (c.text.ensures ∙ ap keyword_text c.of.ensures) c.in_ok-extend_from_slice.ensures.items c.in_ok-put_call_words.ensures
