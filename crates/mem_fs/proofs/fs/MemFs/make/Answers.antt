use Rattle.std.proofs.Common.{◌≡◌, ap, sym, subst, ◌∙◌, refl}
use Rattle.std.specs.Prelude.{Some}
use Rattle.vfs_tree.specs.Nodes.{entry_in, is_given, is_white}
use Rattle.mem_fs.specs.Contents.{reads_of, reserved_of}
use Rattle.mem_fs.specs.Named.{parent_in}
use Rattle.mem_fs.specs.NewNodes.{new_node, new_reads, new_reserved}
use Rattle.mem_fs.specs.Inodes.{Inodes, with_new}
use Rattle.mem_fs.specs.FileSystem.{FileSystem, seen}
use Rattle.mem_fs.specs.Invariant.{IsKept}
use Rattle.mem_fs.proofs.Seen.{kept-like, none_next, nodes-made, kept-made, reads_put, reserved_put}
use Rattle.mem_fs.proofs.Looks.{find_found}
use Rattle.mem_fs.proofs.Rooms.{dir_below}
use Rattle.mem_fs.proofs.KeptLaws as laws
use Rattle.mem_fs.proofs.Calls.{dir_of, not_given, new_bare, new_known, room_made, even_err}
use Rattle.mem_fs.proofs.fs.MemFs.make.Goals as goal

pub invariant_of-self : goal.invariant_of-self
invariant_of-self c = kept-like c.self.inside.nodes c.make_room.new.nodes c.self.inside.next c.make_room.ensures.like c.self.invariant

pub returns-in_err-make_room-clause-err : goal.returns-in_err-make_room-clause-err
returns-in_err-make_room-clause-err c = even_err c.from_residual-in_err-make_room.result (c.make_room.ensures.like.seen c.self.inside.next ∙ c.self.view_is)

pub put-requires : goal.put-requires
put-requires c =
    let n = c.make_room.new.nodes in
    let next = c.self.inside.next in
    let is : seen n next ≡ c.args.self.now = c.make_room.ensures.like.seen next ∙ c.self.view_is in
    let kept : IsKept n next = kept-like c.self.inside.nodes n next c.make_room.ensures.like c.self.invariant in
    room_made n _ next c.args.dir _ c.args.name c.in_ok-make_room.ensures.room (dir_below n next c.args.dir c.args.self.now is kept c.requires.dir) c.in_ok-insert.ensures.ok

pub invariant_of-self-2 : goal.invariant_of-self-2
invariant_of-self-2 c =
    let n = c.make_room.new.nodes in
    let next = c.self.inside.next in
    let v = c.args.self.now in
    let is : seen n next ≡ v = c.make_room.ensures.like.seen next ∙ c.self.view_is in
    let kept : IsKept n next = kept-like c.self.inside.nodes n next c.make_room.ensures.like c.self.invariant in
    laws.kept-made n _ _ next _ c.args.dir c.args.name kept (none_next n next kept) refl
    (λ name. ap (λ x. is_given (entry_in name (Some x))) c.in_ok-content.ensures.shown ∙ new_bare c.args.dir c.is_white-white.result c.args.node name)
    (λ p at.
    let own = new_known c.args.dir c.is_white-white.result c.args.name c.args.node p (sym (ap (λ x. parent_in (Some x)) c.in_ok-content.ensures.shown) ∙ at) in
    (own.0, c.in_ok-content.ensures.name ∙ own.1))
    (dir_below n next c.args.dir v is kept c.requires.dir) (not_given n next v c.args.dir c.args.name is c.requires.new)
    (dir_of n next v c.args.dir is c.requires.dir) c.in_ok-insert.ensures.ok c.put.ensures

pub returns-clause-made : goal.returns-clause-made
returns-clause-made c =
    nodes-made c.self.inside.nodes c.make_room.new.nodes _ _ c.self.inside.next c.args.self.now _ _ c.args.dir c.args.name c.self.view_is c.self.invariant c.make_room.ensures.like
    (c.in_ok-content.ensures.shown ∙ ap (λ w. new_node c.args.dir w c.args.node)
    (c.is_white-white.ensures ∙ ap is_white (c.entry_of.ensures ∙ find_found c.self.inside.nodes c.self.inside.next c.args.dir c.args.name c.args.self.now c.self.view_is))) c.in_ok-insert.ensures.ok c.put.ensures

pub returns-clause-reads : goal.returns-clause-reads
returns-clause-reads c =
    kept-made reads_of c.self.inside.nodes c.make_room.new.nodes _ _ c.self.inside.next _ _ c.args.dir c.args.name _ c.self.invariant c.make_room.ensures.like c.in_ok-content.ensures.reads
    (reads_put c.args.name _) c.in_ok-insert.ensures.ok c.put.ensures (ap (λ (x : FileSystem). x.reads) (c.make_room.ensures.like.seen c.self.inside.next ∙ c.self.view_is))
    ∙ ap (λ (x : FileSystem). with_new (new_reads c.args.node) c.args.self.now.reads x.store.next) c.self.view_is

pub returns-clause-reserved : goal.returns-clause-reserved
returns-clause-reserved c =
    kept-made reserved_of c.self.inside.nodes c.make_room.new.nodes _ _ c.self.inside.next _ _ c.args.dir c.args.name _ c.self.invariant c.make_room.ensures.like c.in_ok-content.ensures.reserved
    (reserved_put c.args.name _) c.in_ok-insert.ensures.ok c.put.ensures (ap (λ (x : FileSystem). x.reserved) (c.make_room.ensures.like.seen c.self.inside.next ∙ c.self.view_is))
    ∙ ap (λ (x : FileSystem). with_new (new_reserved c.args.node) c.args.self.now.reserved x.store.next) c.self.view_is

pub invariant_of-self-in_err-insert : goal.invariant_of-self-in_err-insert
invariant_of-self-in_err-insert c =
    subst (λ (x : Inodes). IsKept x c.self.inside.next) (sym c.in_err-insert.ensures.err) (kept-like c.self.inside.nodes c.make_room.new.nodes c.self.inside.next c.make_room.ensures.like c.self.invariant)

pub returns-in_err-insert-clause-err : goal.returns-in_err-insert-clause-err
returns-in_err-insert-clause-err c = even_err c.from_residual-in_err-insert.result
    (ap (λ (x : Inodes). seen x c.self.inside.next) c.in_err-insert.ensures.err ∙ c.make_room.ensures.like.seen c.self.inside.next ∙ c.self.view_is)
