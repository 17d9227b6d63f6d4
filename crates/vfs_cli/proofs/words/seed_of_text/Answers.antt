use Rattle.std.proofs.Common.{◌≡◌, sym, arith, ap, decimal, ◌∙◌, false}
use Rattle.std.proofs.lemmas.Fmt.{parse-decimal}
use Rattle.std.proofs.lemmas.Slice.Eq.{slice_eq-Decides}
use Rattle.std.proofs.lemmas.Bool.Decides.{Decides-eqb}
use Rattle.vfs_cli.proofs.words.seed_of_text.Goals as goal

pub returns-in-Err-clause-none : goal.returns-in-Err-clause-none
returns-in-Err-clause-none c = λ n lt e.
    cc (parse-decimal 64 n c.args.text.now c.parse.result lt (omega arith) (sym e) c.parse.ensures.value.0)

pub returns-else-eq-clause-none : goal.returns-else-eq-clause-none
returns-else-eq-clause-none c = λ n lt e.
    let read = parse-decimal 64 n c.args.text.now c.parse.result lt (omega arith) (sym e) c.parse.ensures.value.0 in
    let same : c.in-Ok.number ≡ n = cc in
    let decides = slice_eq-Decides Decides-eqb c.format.result.now c.args.text.now false c.if-eq.ensures in
    cc (decides.1 (c.format.ensures.text ∙ ap decimal same ∙ e))
