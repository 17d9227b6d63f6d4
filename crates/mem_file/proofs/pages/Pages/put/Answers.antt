use Rattle.std.proofs.Common.{◌+◌, take, drop, ap, sym, ◌∙◌, arith, length-drop}
use Rattle.std.proofs.Math.Seq.{take-add}
use Rattle.std.proofs.lemmas.List.{length-take-le, take_rest}
use Rattle.mem_file.specs.Paste.{paste}
use Rattle.mem_file.proofs.Pieces.{paste-paste}
use Rattle.mem_file.proofs.pages.Pages.put.Goals as goal

pub loop-done-preserved : goal.loop-done-preserved
loop-done-preserved c =
    let n = c.loop-done.done in
    let r = c.put_piece-done.result in
    let bytes = c.args.bytes.now in
    record {
      within = omega (arith, length-drop n bytes);
      put =
          c.put_piece-done.ensures.put
          ∙ ap (λ x. paste c.loop-done.self (c.args.at + n) (take r x)) (take_rest bytes n)
          ∙ ap (λ x. paste x (c.args.at + n) (take r (drop n bytes))) c.loop-done.invariant.put
          ∙ ap (λ m. paste (paste c.args.self.now c.args.at (take n bytes)) (c.args.at + m) (take r (drop n bytes))) (sym (length-take-le n bytes c.loop-done.invariant.within))
          ∙ paste-paste c.args.self.now (take n bytes) (take r (drop n bytes)) c.args.at (omega arith)
          ∙ ap (paste c.args.self.now c.args.at) (sym (take-add n r bytes));
    }
