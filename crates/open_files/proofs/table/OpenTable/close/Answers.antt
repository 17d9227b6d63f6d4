use Rattle.std.proofs.Common.{◌∙◌, arith}
use Rattle.open_files.proofs.Calls.{get_open, closed_opens, closed_slots, closed_seated}
use Rattle.open_files.proofs.table.OpenTable.close.Goals as goal

pub returns-in_err-seat-clause-closed : goal.returns-in_err-seat-clause-closed
returns-in_err-seat-clause-closed c = c.from_residual.ensures ∙ get_open _ _ _ _ _ c.self.invariant.0 c.self.view_is c.args.caller c.args.fd _ _ c.as_mut_slice.ensures.value c.requires.from c.in_err-seat.ensures.before

pub returns-in_err-seat-clause-opens : goal.returns-in_err-seat-clause-opens
returns-in_err-seat-clause-opens c = closed_opens _ _ _ _ _ c.self.invariant.0 c.self.view_is c.args.caller c.args.fd _ _ _ c.as_mut_slice.ensures.value c.as_mut_slice.ensures.len c.requires.from c.requires.to c.take_seat.ensures.taken

pub returns-in_err-seat-clause-slots : goal.returns-in_err-seat-clause-slots
returns-in_err-seat-clause-slots c = closed_slots _ _ _ _ _ c.self.invariant.0 c.self.view_is c.args.caller c.args.fd _ _ _ c.as_mut_slice.ensures.value c.as_mut_slice.ensures.len c.requires.from c.requires.to c.take_seat.ensures.taken

pub push_reserved-requires : goal.push_reserved-requires
push_reserved-requires c =
    let done = closed_seated _ _ _ _ _ c.self.invariant.0 c.self.view_is c.args.caller c.args.fd _ _ _ c.as_mut_slice.ensures.value c.as_mut_slice.ensures.len c.requires.from c.requires.to c.take_seat.ensures.taken c.in_ok-seat.seat c.in_ok-seat.ensures.before in
    let below = done.1 in
    let room = c.self.invariant.1 in
    omega arith

pub invariant_of-self-2 : goal.invariant_of-self-2
invariant_of-self-2 c =
    let done = closed_seated _ _ _ _ _ c.self.invariant.0 c.self.view_is c.args.caller c.args.fd _ _ _ c.as_mut_slice.ensures.value c.as_mut_slice.ensures.len c.requires.from c.requires.to c.take_seat.ensures.taken c.in_ok-seat.seat c.in_ok-seat.ensures.before in
    (rw c.push_reserved.ensures.items done.0, rw c.push_reserved.ensures.capacity c.self.invariant.1)

pub returns-clause-closed : goal.returns-clause-closed
returns-clause-closed c = get_open _ _ _ _ _ c.self.invariant.0 c.self.view_is c.args.caller c.args.fd _ _ c.as_mut_slice.ensures.value c.requires.from c.in_ok-seat.ensures.before

pub returns-clause-opens : goal.returns-clause-opens
returns-clause-opens c = closed_opens _ _ _ _ _ c.self.invariant.0 c.self.view_is c.args.caller c.args.fd _ _ _ c.as_mut_slice.ensures.value c.as_mut_slice.ensures.len c.requires.from c.requires.to c.take_seat.ensures.taken

pub returns-clause-slots : goal.returns-clause-slots
returns-clause-slots c = closed_slots _ _ _ _ _ c.self.invariant.0 c.self.view_is c.args.caller c.args.fd _ _ _ c.as_mut_slice.ensures.value c.as_mut_slice.ensures.len c.requires.from c.requires.to c.take_seat.ensures.taken
