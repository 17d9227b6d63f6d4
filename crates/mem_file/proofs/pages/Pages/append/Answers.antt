use Rattle.std.proofs.Common.{arith}
use Rattle.mem_file.specs.declared.page.TheConstants.{PAGE}
use Rattle.mem_file.proofs.Filled.{zeros_more, length_zeros_more}
use Rattle.mem_file.proofs.pages.Pages.append.Goals as goal

pub loop-alloc-preserved : goal.loop-alloc-preserved
loop-alloc-preserved c = record {
  few = omega (arith, length_zeros_more c.loop-alloc.self c.grow.new.self PAGE c.in_ok-grow.ensures.ok);
  more = omega (arith, length_zeros_more c.loop-alloc.self c.grow.new.self PAGE c.in_ok-grow.ensures.ok);
  zeros = zeros_more c.args.self.now c.loop-alloc.self c.grow.new.self PAGE c.loop-alloc.invariant.more c.loop-alloc.invariant.zeros c.in_ok-grow.ensures.ok;
}
