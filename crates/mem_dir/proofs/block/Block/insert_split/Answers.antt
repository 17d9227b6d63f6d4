use Rattle.std.proofs.Common.{◌++◌, ap, sym, ◌∙◌, arith}
use Rattle.std.specs.List.{insert}
use Rattle.std.proofs.lemmas.List.Edits.{insert-append_right}
use Rattle.mem_dir.proofs.block.Block.insert_split.Goals as goal

pub returns-else-at-le-HALF-clause-joined : goal.returns-else-at-le-HALF-clause-joined
returns-else-at-le-HALF-clause-joined c =
    let from = c.move_back.new.from.items in
    let to = c.move_back.new.to.items in
    ap (λ x. from ++ x) c.insert-else-at-le-HALF.ensures
    ∙ sym (insert-append_right from to 32 c.args.at (c.args.name, c.args.entry) (omega (arith, c.move_back.ensures.half, c.move_back.new.from.ok.0)) (omega arith))
    ∙ ap (λ x. insert x c.args.at (c.args.name, c.args.entry)) (c.move_back.ensures.joined ∙ c.self.view_is)
