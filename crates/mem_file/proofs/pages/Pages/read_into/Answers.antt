use Rattle.std.proofs.Common.{◌≡◌, ◌++◌, length, take, drop, ap, sym, ◌∙◌, arith, append_assoc}
use Rattle.std.proofs.Math.Seq.{take-add}
use Rattle.std.proofs.lemmas.List.{drop-drop}
use Rattle.mem_file.proofs.pages.Pages.read_into.Goals as goal

pub loop-done-preserved : goal.loop-done-preserved
loop-done-preserved c =
    let n = c.loop-done.done in
    let piece = c.piece-piece.result.now in
    let all = c.args.self.now in
    let old = c.args.into.now.bytes in
    let is : piece ≡ take (length piece) (drop n (drop c.args.at all)) =
    c.piece-piece.ensures.bytes ∙ ap (take (length piece)) (sym (drop-drop n c.args.at all)) in
    record {
      within = omega arith;
      bytes =
          c.push_slice.ensures.bytes
          ∙ ap (λ x. x ++ piece) c.loop-done.invariant.bytes
          ∙ append_assoc old (take n (drop c.args.at all)) piece
          ∙ ap (λ x. old ++ (take n (drop c.args.at all) ++ x)) is
          ∙ ap (λ x. old ++ x) (sym (take-add n (length piece) (drop c.args.at all)));
      spare = omega (arith, c.push_slice.ensures.spare);
    }
