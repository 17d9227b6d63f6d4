use Rattle.std.proofs.Common.{ap, sym, subst, ◌∙◌}
use Rattle.mem_fs.specs.Inodes.{Inodes, reads_at}
use Rattle.mem_fs.specs.FileSystem.{FileSystem, seen}
use Rattle.mem_fs.specs.Invariant.{IsKept}
use Rattle.mem_fs.proofs.Looks.{room_store, room_kept, room_reads, room_room}
use Rattle.mem_fs.proofs.Calls.{either, on_ok}
use Rattle.mem_fs.proofs.fs.MemFs.reserve_to.Goals as goal

pub invariant_of-self : goal.invariant_of-self
invariant_of-self c = either c.reserve_to.result c.reserve_to.ensures.ok c.reserve_to.ensures.err
    (room_kept c.args.len c.self.inside.nodes c.reserve_to.new.nodes c.self.inside.next c.args.ino c.self.invariant)
    (λ same. subst (λ (x : Inodes). IsKept x c.self.inside.next) (sym same) c.self.invariant)

pub returns-clause-room : goal.returns-clause-room
returns-clause-room c = on_ok c.reserve_to.result c.reserve_to.ensures.ok
    (room_room c.args.len c.self.inside.nodes c.reserve_to.new.nodes c.self.inside.next c.args.ino c.args.self.now c.self.view_is)

pub returns-clause-store : goal.returns-clause-store
returns-clause-store c = either c.reserve_to.result c.reserve_to.ensures.ok c.reserve_to.ensures.err
    (room_store c.args.len c.self.inside.nodes c.reserve_to.new.nodes c.self.inside.next c.args.ino c.args.self.now c.self.view_is)
    (λ same. ap (λ (x : Inodes). (seen x c.self.inside.next).store) same ∙ ap (λ (x : FileSystem). x.store) c.self.view_is)

pub returns-clause-reads : goal.returns-clause-reads
returns-clause-reads c = either c.reserve_to.result c.reserve_to.ensures.ok c.reserve_to.ensures.err
    (room_reads c.args.len c.self.inside.nodes c.reserve_to.new.nodes c.self.inside.next c.args.ino c.args.self.now c.self.view_is)
    (λ same. ap reads_at same ∙ ap (λ (x : FileSystem). x.reads) c.self.view_is)
