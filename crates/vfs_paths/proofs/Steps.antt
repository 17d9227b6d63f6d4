-- How many steps a climb takes at most.
use Rattle.std.proofs.Common.{◌≡◌, ℕ, suc, ◌+◌, ◌-◌, ◌<◌, ◌≤◌, refl, arith}
use Rattle.vfs_tree.specs.Child.{steps}

pub steps_is : steps ≡ 4294967295
unfolding steps
steps_is = refl

-- one step less is left
pub step_left : (passed : ℕ) → passed < 4294967295 → steps - passed ≡ suc (steps - (passed + 1))
step_left passed h = omega (arith, steps_is)

-- no step is left
pub no_step_left : (passed : ℕ) → 4294967295 ≤ passed → steps - passed ≡ 0
no_step_left passed h = omega (arith, steps_is)

-- each step is left
pub all_steps_left : steps - 0 ≡ steps
all_steps_left = omega arith
