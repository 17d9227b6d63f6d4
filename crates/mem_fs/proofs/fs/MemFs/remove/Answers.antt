use Rattle.std.proofs.Common.{◌≡◌, ◌∙◌}
use Rattle.mem_fs.specs.FileSystem.{seen}
use Rattle.mem_fs.specs.Invariant.{IsKept}
use Rattle.mem_fs.proofs.Seen.{kept-like, seen-removed}
use Rattle.mem_fs.proofs.KeptLaws.{kept-removed}
use Rattle.mem_fs.proofs.Calls.{dir_of, bare_of, room_copy, even_err}
use Rattle.mem_fs.proofs.fs.MemFs.remove.Goals as goal

pub invariant_of-self : goal.invariant_of-self
invariant_of-self c = kept-like c.self.inside.nodes c.whiteout.new.nodes c.self.inside.next c.whiteout.ensures.like c.self.invariant

pub returns-in_err-copy-clause-err : goal.returns-in_err-copy-clause-err
returns-in_err-copy-clause-err c = even_err c.from_residual.result (c.whiteout.ensures.like.seen c.self.inside.next ∙ c.self.view_is)

pub drop_name-requires-clause-room : goal.drop_name-requires-clause-room
drop_name-requires-clause-room c = room_copy c.in_ok-copy.copy c.whiteout.new.nodes _ c.entry_of-given.result c.args.dir c.in_ok-copy.ensures.room c.let_go.ensures

pub drop_name-requires-clause-same : goal.drop_name-requires-clause-same
drop_name-requires-clause-same c = c.in_ok-copy.ensures.same

pub invariant_of-self-2 : goal.invariant_of-self-2
invariant_of-self-2 c =
    let n = c.whiteout.new.nodes in
    let next = c.self.inside.next in
    let is : seen n next ≡ c.args.self.now = c.whiteout.ensures.like.seen next ∙ c.self.view_is in
    let kept : IsKept n next = kept-like c.self.inside.nodes n next c.whiteout.ensures.like c.self.invariant in
    kept-removed n _ _ next c.entry_of-given.result _ c.args.dir c.args.name.now kept c.entry_of-given.ensures
    (bare_of n next c.args.self.now c.args.dir c.args.name.now c.entry_of-given.result is c.entry_of-given.ensures c.requires.bare)
    (dir_of n next c.args.self.now c.args.dir is c.requires.dir) c.let_go.ensures c.drop_name.ensures

pub returns-clause-removed : goal.returns-clause-removed
returns-clause-removed c =
    seen-removed c.self.inside.nodes c.whiteout.new.nodes _ _ c.self.inside.next c.args.self.now c.entry_of-given.result _ c.args.white c.args.dir c.args.name.now
    c.self.view_is c.whiteout.ensures.like c.entry_of-given.ensures c.let_go.ensures c.drop_name.ensures c.in_ok-copy.ensures.copy
