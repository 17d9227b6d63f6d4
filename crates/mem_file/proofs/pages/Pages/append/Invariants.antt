use Rattle.std.proofs.Common.{◌≡◌, ◌≤◌, ◌-◌, ◌*◌, ◌++◌, length, replicate}
use Rattle.std.specs.Prelude.{max}
use Rattle.mem_file.specs.declared.page.TheConstants.{PAGE}
use Rattle.mem_file.proofs.pages.Pages.append.Given as goal

-- zeros were appended
abbrev pub invariant-loop-alloc : goal.invariant-loop-alloc
invariant-loop-alloc l = record {
  few : length l.self ≤ max (length l.fn.self) (l.wanted * PAGE);
  more : length l.fn.self ≤ length l.self;
  zeros : l.self ≡ l.fn.self ++ replicate (length l.self - length l.fn.self) 0;
}

abbrev pub decreases-loop-alloc : goal.decreases-loop-alloc
decreases-loop-alloc l = l.wanted * 4096 - length l.self
