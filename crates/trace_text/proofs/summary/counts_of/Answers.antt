use Rattle.std.proofs.Common.{refl}
use Rattle.trace_text.specs.Summary.{is_call, is_inner, is_done, is_refused, lacks_memory}
use Rattle.trace_text.proofs.Counts.{counted, known, none_known}
use Rattle.trace_text.proofs.summary.counts_of.Goals as goal

pub loop-entry-init : goal.loop-entry-init
loop-entry-init c = record {
  calls = refl;
  callers = λ q. none_known c.new.result q c.new.ensures;
  done = refl;
  refused = refl;
  no_memory = refl;
  inner = refl;
}

pub loop-entry-preserved : goal.loop-entry-preserved
loop-entry-preserved c =
    let es = c.args.entries.now in
    let i = c.loop-entry.entry-index in
    let so_far = c.loop-entry.invariant in
    let within = c.loop-entry-test.true in
    let at = c.entry-item.is in
    record {
      calls = counted is_call es i _ _ _ _ within at so_far.calls c.tests_call.ensures c.from.ensures;
      callers = λ q. known _ _ es i _ q within at (so_far.callers q) (c.in_ok-add_caller.ensures q);
      done = counted is_done es i _ _ _ _ within at so_far.done c.tests_done.ensures c.from-in-loop-entry.ensures;
      refused = counted is_refused es i _ _ _ _ within at so_far.refused c.tests_refused.ensures c.from-in-loop-entry-2.ensures;
      no_memory = counted lacks_memory es i _ _ _ _ within at so_far.no_memory c.tests_lack.ensures c.from-in-loop-entry-3.ensures;
      inner = counted is_inner es i _ _ _ _ within at so_far.inner c.tests_inner.ensures c.from-in-loop-entry-4.ensures;
    }
