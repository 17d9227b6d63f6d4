use Rattle.std.proofs.Common.{◌≡◌, ◌≤◌, ◌+◌, ap, sym, subst, ◌∙◌, arith}
use Rattle.std.specs.Prelude.{Some, IfSome, is_some}
use Rattle.std.specs.FinMap.{get}
use Rattle.call_model.specs.Legal.{is_no_memory}
use Rattle.call_model.specs.declared.entry.Entry.TheVariants as entry
use Rattle.plain_calls.specs.Answering.{NeedsNoMemory}
use Rattle.vfs_core.specs.Coming.{Ends}
use Rattle.vfs_core.specs.Kernel.{Kernel}
use Rattle.vfs_core.proofs.KernLaws.{end_room, ended_entries, ended_view, kept-ended, kept-went, less_work, some_room, went_view, work-went}
use Rattle.vfs_core.proofs.RoomLaws.{room_taken, rooms-ended, rooms-went}
use Rattle.vfs_core.proofs.kern.Kern.step.Goals as goal
use Rattle.vfs_core.proofs.kern.Kern.step.Goals.{After-end}

pub advance-requires-clause-room : goal.advance-requires-clause-room
advance-requires-clause-room c =
    let held = some_room _ c.self.inside.world c.self.inside.history _ c.args.caller c.self.invariant.0 (ap is_some (sym c.in-Some.ensures)) in
    omega arith

pub invariant_of-self : goal.invariant_of-self
invariant_of-self c =
    let goes = c.in-Went.ensures.advanced in (
      kept-went c.self.inside.limits c.self.inside.world c.advance.new.world c.self.inside.history c.advance.new.history c.self.inside.pending c.args.caller c.in-Some.call.now goes.0
          c.self.invariant.0 (sym c.in-Some.ensures) goes.1 c.advance.ensures.kept,
      rooms-went c.self.inside.pending c.self.inside.rooms c.take_room-room.new.rooms c.args.caller c.in-Some.call.now
          c.self.invariant.1 (sym c.in-Some.ensures) c.take_room-room.ensures.others c.in-Went.ensures.sure,
    )

pub returns-in-Went-clause-legal : goal.returns-in-Went-clause-legal
returns-in-Went-clause-legal c = (invariant_of-self c).0.legal

pub returns-in-Went-clause-stepped : goal.returns-in-Went-clause-stepped
returns-in-Went-clause-stepped c =
    let goes = c.in-Went.ensures.advanced in (
      goes.0,
      went_view c.args.self.now c.self.inside.limits c.self.inside.history.entries c.advance.new.history.entries c.self.inside.pending (entry.Inner c.args.caller goes.0) c.self.view_is goes.1.entered,
      less_work c.args.self.now c.self.inside.limits c.self.inside.history.entries c.advance.new.history.entries c.self.inside.pending c.self.view_is
          (work-went c.self.inside.limits c.self.inside.world c.advance.new.world c.self.inside.history c.advance.new.history c.self.inside.pending c.args.caller c.in-Some.call.now goes.0
          c.self.invariant.0 (sym c.in-Some.ensures) goes.1 c.advance.ensures.kept),
    )

pub end-requires-clause-room : goal.end-requires-clause-room
end-requires-clause-room c =
    end_room c.self.inside.limits c.self.inside.world c.advance.new.world c.self.inside.history c.advance.new.history c.self.inside.pending c.args.caller c.in-Some.call.now c.in-Ended.answer.reply
    c.self.invariant.0 (ap is_some (sym c.in-Some.ensures)) c.in-Ended.ensures.advanced

-- the call ended, with the reply that its entry has
ended : (c : After-end) → Ends c.self.inside.world c.advance.new.world c.self.inside.history c.advance.new.history c.args.caller c.in-Some.call.now c.end.result
ended c = subst (Ends c.self.inside.world c.advance.new.world c.self.inside.history c.advance.new.history c.args.caller c.in-Some.call.now) (sym c.end.ensures.reply) c.in-Ended.ensures.advanced

pub invariant_of-self-in-Ended : goal.invariant_of-self-in-Ended
invariant_of-self-in-Ended c = (
  kept-ended c.self.inside.limits c.self.inside.world c.advance.new.world c.self.inside.history c.advance.new.history c.end.new.history c.self.inside.pending c.end.new.pending
      c.args.caller c.in-Some.call.now c.end.result c.self.invariant.0 (sym c.in-Some.ensures) (ended c)
      c.end.ensures.removed (c.end.ensures.entered c.in-Some.call.now (sym c.in-Some.ensures)) c.end.ensures.spare c.advance.ensures.kept,
  rooms-ended c.self.inside.pending c.end.new.pending c.self.inside.rooms c.take_room-room.new.rooms c.args.caller c.self.invariant.1 c.take_room-room.ensures.others c.end.ensures.removed,
)

pub returns-in-Ended-clause-legal : goal.returns-in-Ended-clause-legal
returns-in-Ended-clause-legal c = (invariant_of-self-in-Ended c).0.legal

pub returns-in-Ended-clause-stepped : goal.returns-in-Ended-clause-stepped
returns-in-Ended-clause-stepped c =
    let ends = ended c in (
      c.in-Some.call.now,
      ends.ats,
      sym (ap (λ (k : Kernel). get k.pending c.args.caller) c.self.view_is) ∙ sym c.in-Some.ensures,
      ended_view c.args.self.now c.self.inside.limits c.self.inside.history.entries c.end.new.history.entries _ c.self.inside.pending c.end.new.pending c.args.caller c.self.view_is
          (ended_entries c.self.inside.world c.advance.new.world c.self.inside.history c.advance.new.history c.end.new.history c.args.caller c.in-Some.call.now c.end.result ends
          (c.end.ensures.entered c.in-Some.call.now (sym c.in-Some.ensures)))
          c.end.ensures.removed,
      ends.only,
    )

pub advance-requires-clause-holds : goal.advance-requires-clause-holds
advance-requires-clause-holds c =
    room_taken c.self.inside.pending c.self.inside.rooms c.args.caller c.in-Some.call.now c.take_room-room.result c.self.invariant.1 (sym c.in-Some.ensures) c.take_room-room.ensures.taken

pub returns-in-Went-clause-sure : goal.returns-in-Went-clause-sure
returns-in-Went-clause-sure c = λ none.
    let its : get c.args.self.now.pending c.args.caller ≡ Some c.in-Some.call.now = sym (ap (λ (k : Kernel). get k.pending c.args.caller) c.self.view_is) ∙ sym c.in-Some.ensures in
    c.in-Went.ensures.sure (subst (λ o. IfSome o NeedsNoMemory) its none)

pub returns-in-Ended-clause-sure : goal.returns-in-Ended-clause-sure
returns-in-Ended-clause-sure c = λ none.
    let its : get c.args.self.now.pending c.args.caller ≡ Some c.in-Some.call.now = sym (ap (λ (k : Kernel). get k.pending c.args.caller) c.self.view_is) ∙ sym c.in-Some.ensures in
    ap is_no_memory c.end.ensures.reply ∙ c.in-Ended.ensures.sure (subst (λ o. IfSome o NeedsNoMemory) its none)
