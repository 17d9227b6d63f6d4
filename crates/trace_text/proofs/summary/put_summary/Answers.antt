use Rattle.trace_text.proofs.Counts.{written}
use Rattle.trace_text.proofs.summary.put_summary.Goals as goal

pub returns : goal.returns
returns c =
    written c.in_ok-counts.counts c.args.entries.now c.args.world.now c.args.out.now.items c.put_calls.new.out.items c.put_rest.new.out.items c.len.result c.put_rest.result c.in_ok-counts.ensures c.in_ok-put_calls.ensures c.len.ensures.len c.put_rest.ensures
