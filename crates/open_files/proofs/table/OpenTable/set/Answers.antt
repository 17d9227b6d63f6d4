use Rattle.open_files.proofs.Calls.{placed, all_now, exchanged_seated, exchanged_before, exchanged_after}
use Rattle.open_files.proofs.table.OpenTable.set.Goals as goal

pub exchange-requires-clause-from : goal.exchange-requires-clause-from
exchange-requires-clause-from c = (placed _ _ _ _ _ c.self.invariant.0 c.self.view_is c.args.caller c.args.fd _ c.as_mut_slice.ensures.value c.requires).0

pub exchange-requires-clause-within : goal.exchange-requires-clause-within
exchange-requires-clause-within c = (placed _ _ _ _ _ c.self.invariant.0 c.self.view_is c.args.caller c.args.fd _ c.as_mut_slice.ensures.value c.requires).1

pub exchange-requires-clause-to : goal.exchange-requires-clause-to
exchange-requires-clause-to c = (placed _ _ _ _ _ c.self.invariant.0 c.self.view_is c.args.caller c.args.fd _ c.as_mut_slice.ensures.value c.requires).2

pub exchange-requires-clause-taken : goal.exchange-requires-clause-taken
exchange-requires-clause-taken c = (placed _ _ _ _ _ c.self.invariant.0 c.self.view_is c.args.caller c.args.fd _ c.as_mut_slice.ensures.value c.requires).3

pub invariant_of-self : goal.invariant_of-self
invariant_of-self c = (
  rw (all_now _ _ _ _ _ c.self.invariant.0 c.self.view_is c.args.caller c.args.fd _ _ _ _ _ c.as_mut_slice.ensures.value c.as_mut_slice.ensures.len c.requires c.exchange.ensures)
      (exchanged_seated _ _ _ _ _ c.self.invariant.0 c.self.view_is c.args.caller c.args.fd _ _ _ _ _ c.as_mut_slice.ensures.value c.as_mut_slice.ensures.len c.requires c.exchange.ensures),
  c.self.invariant.1,
)

pub returns-clause-before : goal.returns-clause-before
returns-clause-before c = exchanged_before _ _ _ _ _ c.self.invariant.0 c.self.view_is c.args.caller c.args.fd _ _ _ _ _ c.as_mut_slice.ensures.value c.as_mut_slice.ensures.len c.requires c.exchange.ensures

pub returns-clause-after : goal.returns-clause-after
returns-clause-after c =
    rw (all_now _ _ _ _ _ c.self.invariant.0 c.self.view_is c.args.caller c.args.fd _ _ _ _ _ c.as_mut_slice.ensures.value c.as_mut_slice.ensures.len c.requires c.exchange.ensures)
    (exchanged_after _ _ _ _ _ c.self.invariant.0 c.self.view_is c.args.caller c.args.fd _ _ _ _ _ c.as_mut_slice.ensures.value c.as_mut_slice.ensures.len c.requires c.exchange.ensures)
