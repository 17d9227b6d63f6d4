use Rattle.std.proofs.Common.{ap, ◌∙◌, cond}
use Rattle.vfs_tree.specs.StoreEdits.{clear_entry}
use Rattle.vfs_tree.proofs.StoreLaws.{shifted}
use Rattle.plain_edits.proofs.edit.shift_plain.Goals as goal

pub returns-in-Ok-clause-ok : goal.returns-in-Ok-clause-ok
returns-in-Ok-clause-ok c =
    c.clear_unless.ensures
    ∙ ap (λ t. cond c.is_same-same.result t (clear_entry t c.args.from.dir c.args.from.name)) c.in-Ok.ensures.ok
    ∙ shifted c.args.store.now c.args.from.dir c.args.to.dir c.args.from.name c.args.to.name _ c.is_same-same.result c.is_same-same.ensures
