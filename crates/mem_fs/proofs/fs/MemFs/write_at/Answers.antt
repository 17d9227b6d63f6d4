use Rattle.std.proofs.Common.{ap, ◌∙◌, ◌+◌, length}
use Rattle.mem_fs.specs.Inodes.{Inodes}
use Rattle.mem_fs.specs.FileSystem.{FileSystem, seen, with_edit}
use Rattle.vfs_tree.specs.FileEdits.{with_bytes}
use Rattle.vfs_tree.specs.Bytes.{write_bytes}
use Rattle.mem_fs.proofs.Seen.{seen-edited, shows-write}
use Rattle.mem_fs.proofs.Rooms.{has_room_to}
use Rattle.mem_fs.proofs.Looks.{kept-written}
use Rattle.mem_fs.proofs.fs.MemFs.write_at.Goals as goal

pub write_at-requires : goal.write_at-requires
write_at-requires c = has_room_to c.self.inside.nodes c.self.inside.next c.args.ino (c.args.at + length c.args.bytes.now) c.args.self.now c.self.view_is c.requires

pub invariant_of-self : goal.invariant_of-self
invariant_of-self c = kept-written c.args.at c.args.bytes.now c.self.inside.nodes _ c.self.inside.next c.args.ino c.self.invariant c.write_at.ensures

pub returns : goal.returns
returns c =
    ap (λ (x : Inodes). seen x c.self.inside.next) c.write_at.ensures
    ∙ seen-edited _ _ (shows-write c.args.at c.args.bytes.now) c.self.inside.nodes c.self.inside.next c.args.ino
    ∙ ap (λ (x : FileSystem). with_edit (with_bytes (λ old. write_bytes old c.args.at c.args.bytes.now)) x c.args.ino) c.self.view_is
