use Rattle.std.proofs.Common.{◌∙◌, [], ◌∷◌}
use Rattle.recycle.proofs.TwoRows.{second_row}
use Rattle.recycle.proofs.tests.comes_and_goes.Goals as goal

pub returns-clause-rows : goal.returns-clause-rows
returns-clause-rows g c =
    second_row (c.args.held ∷ []) c.in_ok-vid.vid c.vdrop.result.vid c.make.new.table c.vhold.new.self c.vdrop.new.self (c.in_ok-vid.ensures.rows ∙ c.requires.rows) c.vhold.ensures.took c.vdrop.ensures.after
