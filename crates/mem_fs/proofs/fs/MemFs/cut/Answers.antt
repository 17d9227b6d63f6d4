use Rattle.std.proofs.Common.{ap, ◌∙◌}
use Rattle.mem_fs.specs.Inodes.{Inodes}
use Rattle.mem_fs.specs.FileSystem.{FileSystem, seen, with_edit}
use Rattle.vfs_tree.specs.FileEdits.{with_bytes}
use Rattle.vfs_tree.specs.Bytes.{resize_bytes}
use Rattle.mem_fs.proofs.Seen.{seen-edited, shows-cut}
use Rattle.mem_fs.proofs.Rooms.{has_room_to}
use Rattle.mem_fs.proofs.Looks.{kept-cut}
use Rattle.mem_fs.proofs.fs.MemFs.cut.Goals as goal

pub cut-requires : goal.cut-requires
cut-requires c = has_room_to c.self.inside.nodes c.self.inside.next c.args.ino c.args.len c.args.self.now c.self.view_is c.requires

pub invariant_of-self : goal.invariant_of-self
invariant_of-self c = kept-cut c.args.len c.self.inside.nodes _ c.self.inside.next c.args.ino c.self.invariant c.cut.ensures

pub returns : goal.returns
returns c =
    ap (λ (x : Inodes). seen x c.self.inside.next) c.cut.ensures
    ∙ seen-edited _ _ (shows-cut c.args.len) c.self.inside.nodes c.self.inside.next c.args.ino
    ∙ ap (λ (x : FileSystem). with_edit (with_bytes (λ old. resize_bytes old c.args.len)) x c.args.ino) c.self.view_is
