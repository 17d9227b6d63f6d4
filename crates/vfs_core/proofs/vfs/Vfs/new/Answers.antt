use Rattle.std.proofs.Common.{◌≡◌, ◌≤◌, ℕ, true, Some, ap, arith, subst}
use Rattle.vfs_tree.specs.declared.limits.Limits.{Limits}
use Rattle.turn_lock.specs.Known.{has_number, known_part}
use Rattle.vfs_core.specs.Seats.{known_calls, part_of}
use Rattle.vfs_core.proofs.SeatLaws.{first_seated}
use Rattle.vfs_core.proofs.vfs.Vfs.new.Goals as goal

pub invariant_of-result-in-Ok : goal.invariant_of-result-in-Ok
invariant_of-result-in-Ok g c =
    let limits = c.limits-numbers.ensures in
    let made = c.in-Ok.ensures in
    let p = c.in-Ok.pass in
    first_seated (known_calls 1 c.of-born.result.value) p c.args.kern (ap (known_calls 1) c.of-born.ensures) made.pass.1 c.requires.idle
    (subst (λ (x : Limits). 1 ≤ x.callers) limits.limits limits.lawful.some_caller)
    (subst (λ (x : Limits). (n : ℕ) → 1 ≤ n → n ≤ x.callers → known_part n p ≡ Some (part_of c.args.kern n)) limits.limits (λ n low high. made.parts n (omega arith) high))
    (subst (λ (x : Limits). (n : ℕ) → has_number n p ≡ true → (1 ≤ n) × (n ≤ x.callers)) limits.limits (λ n has. let within = made.numbers n has in (omega (arith, within), within.1)))
