use Rattle.std.proofs.Common.{◌≡◌, ap, sym, ◌∙◌}
use Rattle.vfs_tree.specs.Nodes.{is_given}
use Rattle.mem_fs.specs.FileSystem.{seen}
use Rattle.mem_fs.specs.Invariant.{IsKept}
use Rattle.mem_fs.proofs.Seen.{kept-like, like_both, seen-renamed}
use Rattle.mem_fs.proofs.Looks.{find_found}
use Rattle.mem_fs.proofs.KeptLaws.{kept-renamed}
use Rattle.mem_fs.proofs.Calls.{dir_of, bare_of, bare_store, room_copy, roomy_copy, room_new, given_both, even_err}
use Rattle.mem_fs.proofs.fs.MemFs.rename.Goals as goal

pub invariant_of-self : goal.invariant_of-self
invariant_of-self c = kept-like c.self.inside.nodes c.whiteout.new.nodes c.self.inside.next c.whiteout.ensures.like c.self.invariant

pub returns-in_err-copy-clause-err : goal.returns-in_err-copy-clause-err
returns-in_err-copy-clause-err c = even_err c.from_residual-in_err-copy.result (c.whiteout.ensures.like.seen c.self.inside.next ∙ c.self.view_is)

pub invariant_of-self-in_err-make_room : goal.invariant_of-self-in_err-make_room
invariant_of-self-in_err-make_room c = kept-like c.self.inside.nodes c.make_room.new.nodes c.self.inside.next
    (like_both c.self.inside.nodes c.whiteout.new.nodes c.make_room.new.nodes c.whiteout.ensures.like c.make_room.ensures.like) c.self.invariant

pub returns-in_err-make_room-clause-err : goal.returns-in_err-make_room-clause-err
returns-in_err-make_room-clause-err c = even_err c.from_residual-in_err-make_room.result (c.make_room.ensures.like.seen c.self.inside.next ∙ c.whiteout.ensures.like.seen c.self.inside.next ∙ c.self.view_is)

pub drop_name-requires-clause-room : goal.drop_name-requires-clause-room
drop_name-requires-clause-room c = room_copy c.in_ok-copy.copy c.make_room.new.nodes _ c.entry_of-target.result c.args.from
    (roomy_copy c.in_ok-copy.copy c.whiteout.new.nodes c.make_room.new.nodes c.args.from c.make_room.ensures.keeps c.in_ok-copy.ensures.room) c.let_go.ensures

pub drop_name-requires-clause-same : goal.drop_name-requires-clause-same
drop_name-requires-clause-same c = c.in_ok-copy.ensures.same

pub give-requires : goal.give-requires
give-requires c =
    let n = c.make_room.new.nodes in
    let next = c.self.inside.next in
    let is : seen n next ≡ c.args.self.now = c.make_room.ensures.like.seen next ∙ c.whiteout.ensures.like.seen next ∙ c.self.view_is in
    room_new n _ _ next c.entry_of-target.result _ c.args.from c.args.old.now c.args.to _
    (bare_store n next c.args.self.now c.args.to c.args.new.now c.entry_of-target.result is c.entry_of-target.ensures c.requires.bare)
    (ap is_given (find_found n next c.args.from c.args.old.now c.args.self.now is) ∙ c.requires.given)
    c.in_ok-make_room.ensures.room c.let_go.ensures c.drop_name.ensures

pub invariant_of-self-2 : goal.invariant_of-self-2
invariant_of-self-2 c =
    let n = c.make_room.new.nodes in
    let next = c.self.inside.next in
    let v = c.args.self.now in
    let is : seen n next ≡ v = c.make_room.ensures.like.seen next ∙ c.whiteout.ensures.like.seen next ∙ c.self.view_is in
    let kept : IsKept n next = kept-like c.self.inside.nodes n next (like_both c.self.inside.nodes c.whiteout.new.nodes n c.whiteout.ensures.like c.make_room.ensures.like) c.self.invariant in
    kept-renamed n _ _ _ next c.entry_of-given.result c.entry_of-target.result _ c.hides-conceals.result c.args.from c.args.old.now c.args.to c.args.new.now kept c.entry_of-given.ensures c.entry_of-target.ensures
    (ap is_given (c.entry_of-given.ensures ∙ find_found n next c.args.from c.args.old.now v is) ∙ c.requires.given)
    (λ same. c.requires.apart (sym (c.entry_of-target.ensures ∙ find_found n next c.args.to c.args.new.now v is) ∙ same ∙ c.entry_of-given.ensures ∙ find_found n next c.args.from c.args.old.now v is))
    (bare_of n next v c.args.to c.args.new.now c.entry_of-target.result is c.entry_of-target.ensures c.requires.bare)
    (dir_of n next v c.args.from is c.requires.from) (dir_of n next v c.args.to is c.requires.to)
    c.let_go.ensures c.drop_name.ensures (given_both _ _ _ c.args.to _ _ c.args.new.now c.hides-conceals.result c.entry_of-given.result c.in_ok-name.ensures c.in_ok-own.ensures c.give.ensures c.move_to.ensures)

pub returns-clause-renamed : goal.returns-clause-renamed
returns-clause-renamed c =
    seen-renamed c.self.inside.nodes c.make_room.new.nodes _ _ _ c.self.inside.next c.args.self.now c.entry_of-given.result c.entry_of-target.result _ c.args.white c.args.opaque c.hides-conceals.result
    c.args.from c.args.old.now c.args.to c.args.new.now c.self.view_is
    (like_both c.self.inside.nodes c.whiteout.new.nodes c.make_room.new.nodes c.whiteout.ensures.like c.make_room.ensures.like)
    c.entry_of-given.ensures c.entry_of-target.ensures c.hides-conceals.ensures c.let_go.ensures c.drop_name.ensures
    (given_both _ _ _ c.args.to _ _ c.args.new.now c.hides-conceals.result c.entry_of-given.result c.in_ok-name.ensures c.in_ok-own.ensures c.give.ensures c.move_to.ensures) c.in_ok-copy.ensures.copy
