use Rattle.std.proofs.Common.{◌<◌, ◌≤◌, ◌+◌, ◌/◌, ◌%◌, length, take, set, ap, ◌∙◌, arith, length-take}
use Rattle.std.specs.List.{concat}
use Rattle.std.proofs.Math.Nat.{mod-lt}
use Rattle.mem_file.specs.Paste.{paste}
use Rattle.mem_file.proofs.Rows.{row_below, length-row, put_row}
use Rattle.mem_file.proofs.pages.Pages.put_piece.Goals as goal

pub index_mut-requires : goal.index_mut-requires
index_mut-requires c =
    let within : c.args.at < length (concat c.self.inside.pages.items) = omega (arith, ap length c.self.view_is) in
    omega (arith, row_below 4096 c.self.inside.pages.items c.args.at (omega arith) c.self.invariant within, c.self.inside.pages.ok.0)

pub put-requires : goal.put-requires
put-requires c =
    let within : c.args.at < length (concat c.self.inside.pages.items) = omega (arith, ap length c.self.view_is) in
    let row = length-row 4096 c.self.inside.pages.items c.args.at (omega arith) c.self.invariant within c.index_mut.result.now c.index_mut.ensures.value in
    omega (arith, row, length-take c.min-count.result c.args.bytes.now, mod-lt c.args.at {m = 4096} (omega arith), c.min-count.ensures)

pub returns-clause-put : goal.returns-clause-put
returns-clause-put c =
    let items = c.self.inside.pages.items in
    let piece = take c.min-count.result c.args.bytes.now in
    let within : c.args.at < length (concat items) = omega (arith, ap length c.self.view_is) in
    let fits : c.args.at % 4096 + length piece ≤ 4096 = omega (arith, length-take c.min-count.result c.args.bytes.now, mod-lt c.args.at {m = 4096} (omega arith), c.min-count.ensures) in
    ap (λ x. concat (set items (c.args.at / 4096) x)) c.put.ensures
    ∙ put_row 4096 items c.args.at (omega arith) c.self.invariant within c.index_mut.result.now piece c.index_mut.ensures.value fits
    ∙ ap (λ x. paste x c.args.at piece) c.self.view_is
