use Rattle.std.proofs.Common.{◌+◌, replicate, ap, sym, ◌∙◌, arith}
use Rattle.std.proofs.lemmas.List.{length-replicate, replicate-append-replicate}
use Rattle.mem_file.specs.Paste.{paste}
use Rattle.mem_file.proofs.Pieces.{paste-paste}
use Rattle.mem_file.proofs.pages.Pages.clear.Goals as goal

pub loop-done-preserved : goal.loop-done-preserved
loop-done-preserved c =
    let n = c.loop-done.done in
    let r = c.clear_piece-done.result in
    record {
      within = omega arith;
      put =
          c.clear_piece-done.ensures.put
          ∙ ap (λ x. paste x (c.args.at + n) (replicate r 0)) c.loop-done.invariant.put
          ∙ ap (λ m. paste (paste c.args.self.now c.args.at (replicate n 0)) (c.args.at + m) (replicate r 0)) (sym (length-replicate n 0))
          ∙ paste-paste c.args.self.now (replicate n 0) (replicate r 0) c.args.at (omega arith)
          ∙ ap (paste c.args.self.now c.args.at) (replicate-append-replicate n r 0);
    }
