use Rattle.std.proofs.Common.{ℕ, ◌==◌, cond, arith}
use Rattle.std.proofs.lemmas.List.{length_push}
use Rattle.std.proofs.lemmas.List.Sums.{sum_by_push}
use Rattle.std.proofs.lemmas.Bool.Decides.{nat_tests}
use Rattle.open_files.proofs.places.free_slots.Goals as goal

pub loop-slot-preserved : goal.loop-slot-preserved
loop-slot-preserved c =
    let kept = c.in_ok-push.ensures.capacity in
    rw c.in_ok-push.ensures.items (
      omega (arith, length_push c.loop-slot.free.items c.loop-slot.slot),
      λ s. (
          let once = c.loop-slot.invariant.1 s in
          let more = sum_by_push (λ (x : ℕ). cond (x == s) 1 0) c.loop-slot.free.items c.loop-slot.slot in
          grind (arith, nat_tests)
          ),
      omega arith,
    )

pub returns-clause-once : goal.returns-clause-once
returns-clause-once c = λ s. (
    let once = c.loop-slot.invariant.1 s in
    let all = c.loop-slot.auto in
    grind (arith, nat_tests)
    )
