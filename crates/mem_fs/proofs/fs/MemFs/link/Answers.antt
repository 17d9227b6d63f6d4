use Rattle.std.proofs.Common.{◌≡◌, ◌∙◌}
use Rattle.mem_fs.specs.FileSystem.{seen}
use Rattle.mem_fs.specs.Invariant.{IsKept}
use Rattle.mem_fs.proofs.Seen.{kept-like, seen-linked}
use Rattle.mem_fs.proofs.KeptLaws.{kept-linked}
use Rattle.mem_fs.proofs.Calls.{dir_of, there_of, file_of, not_given, room_linked, even_err}
use Rattle.mem_fs.proofs.fs.MemFs.link.Goals as goal

pub invariant_of-self : goal.invariant_of-self
invariant_of-self c = kept-like c.self.inside.nodes c.make_room.new.nodes c.self.inside.next c.make_room.ensures.like c.self.invariant

pub returns-in_err-make_room-clause-err : goal.returns-in_err-make_room-clause-err
returns-in_err-make_room-clause-err c = even_err c.from_residual.result (c.make_room.ensures.like.seen c.self.inside.next ∙ c.self.view_is)

pub put-requires : goal.put-requires
put-requires c = room_linked c.make_room.new.nodes _ c.args.ino c.args.dir c.args.name c.in_ok-make_room.ensures.room c.gain.ensures

pub invariant_of-self-2 : goal.invariant_of-self-2
invariant_of-self-2 c =
    let n = c.make_room.new.nodes in
    let next = c.self.inside.next in
    let v = c.args.self.now in
    let is : seen n next ≡ v = c.make_room.ensures.like.seen next ∙ c.self.view_is in
    let kept : IsKept n next = kept-like c.self.inside.nodes n next c.make_room.ensures.like c.self.invariant in
    kept-linked n _ _ next c.args.ino c.args.dir c.args.name kept (there_of n next v c.args.ino is c.requires.node) (file_of n next v c.args.ino is c.requires.file) (not_given n next v c.args.dir c.args.name is c.requires.new)
    (dir_of n next v c.args.dir is c.requires.dir) c.gain.ensures c.put.ensures

pub returns-clause-linked : goal.returns-clause-linked
returns-clause-linked c =
    seen-linked c.self.inside.nodes c.make_room.new.nodes _ _ c.self.inside.next c.args.self.now c.args.ino c.args.dir c.args.name c.self.view_is c.make_room.ensures.like c.gain.ensures c.put.ensures
