use Rattle.std.proofs.Common.{◌<◌, ◌%◌, length, take, drop, ap, sym, ◌∙◌, arith, length-take, length-drop}
use Rattle.std.specs.List.{concat}
use Rattle.std.proofs.Math.Nat.{mod-lt}
use Rattle.mem_file.proofs.Rows.{row_below, length-row, read_row}
use Rattle.mem_file.proofs.pages.Pages.piece.Goals as goal

pub index-requires : goal.index-requires
index-requires c =
    let within : c.args.at < length (concat c.self.inside.pages.items) = omega (arith, ap length c.self.view_is) in
    omega (arith, row_below 4096 c.self.inside.pages.items c.args.at (omega arith) c.self.invariant within, c.self.inside.pages.ok.0)

pub part-requires : goal.part-requires
part-requires c =
    let within : c.args.at < length (concat c.self.inside.pages.items) = omega (arith, ap length c.self.view_is) in
    omega (arith, length-row 4096 c.self.inside.pages.items c.args.at (omega arith) c.self.invariant within c.index.result.now c.index.ensures, mod-lt c.args.at {m = 4096} (omega arith))

pub returns-clause-bytes : goal.returns-clause-bytes
returns-clause-bytes c =
    let items = c.self.inside.pages.items in
    let within : c.args.at < length (concat items) = omega (arith, ap length c.self.view_is) in
    c.part.ensures
    ∙ read_row 4096 items c.args.at (omega arith) c.self.invariant within c.index.result.now c.args.most c.index.ensures
    ∙ ap (λ x. take (length x) (drop c.args.at (concat items))) (sym c.part.ensures)
    ∙ ap (λ x. take (length c.part.result.now) (drop c.args.at x)) c.self.view_is

pub returns-clause-some : goal.returns-clause-some
returns-clause-some c some =
    let within : c.args.at < length (concat c.self.inside.pages.items) = omega (arith, ap length c.self.view_is) in
    let row = length-row 4096 c.self.inside.pages.items c.args.at (omega arith) c.self.invariant within c.index.result.now c.index.ensures in
    let count = ap length c.part.ensures ∙ length-take c.args.most (drop (c.args.at % 4096) c.index.result.now) in
    omega (arith, row, count, length-drop (c.args.at % 4096) c.index.result.now, mod-lt c.args.at {m = 4096} (omega arith))
