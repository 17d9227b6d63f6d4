use Rattle.std.proofs.Common.{sym, ◌∙◌}
use Rattle.vfs_tree.proofs.ByteLaws.{put_grown}
use Rattle.vfs_tree.proofs.bytes.Bytes.write_at.Goals as goal

pub returns-clause-ok : goal.returns-clause-ok
returns-clause-ok c = c.put.ensures ∙ put_grown c.args.self.now c.args.piece.now _ c.args.at (sym c.is_empty.ensures ∙ c.if-is_empty.false) c.in_ok-grow_to.ensures.ok
