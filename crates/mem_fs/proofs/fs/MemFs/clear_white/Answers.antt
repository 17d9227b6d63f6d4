use Rattle.std.proofs.Common.{ap, ◌∙◌}
use Rattle.std.specs.FinMap.{remove}
use Rattle.vfs_tree.specs.Edits.{with_names}
use Rattle.mem_fs.specs.Inodes.{Inodes}
use Rattle.mem_fs.specs.FileSystem.{FileSystem, seen, with_edit}
use Rattle.mem_fs.proofs.Seen.{seen-edited, shows-clear}
use Rattle.mem_fs.proofs.KeptLaws.{kept-cleared}
use Rattle.mem_fs.proofs.Calls.{not_white}
use Rattle.mem_fs.proofs.fs.MemFs.clear_white.Goals as goal

pub invariant_of-self : goal.invariant_of-self
invariant_of-self c = kept-cleared c.self.inside.nodes _ c.self.inside.next c.args.dir c.args.name.now c.self.invariant
    (not_white c.self.inside.nodes c.self.inside.next c.args.self.now c.args.dir c.args.name.now c.self.view_is c.requires.white) c.clear.ensures

pub returns : goal.returns
returns c =
    ap (λ (x : Inodes). seen x c.self.inside.next) c.clear.ensures
    ∙ seen-edited _ _ (shows-clear c.args.name.now) c.self.inside.nodes c.self.inside.next c.args.dir
    ∙ ap (λ (x : FileSystem). with_edit (with_names (λ names. remove names c.args.name.now)) x c.args.dir) c.self.view_is
