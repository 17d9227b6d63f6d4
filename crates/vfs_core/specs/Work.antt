-- What contracts see of a job, and what a job keeps.
use Rattle.std.specs.Prelude.{ℕ, List, IsSome}
use Rattle.std.specs.List.{AllByRecursion}
use Rattle.std.specs.FinMap.{get}
use Rattle.vfs_tree.specs.Limits.{IsCaller}
use Rattle.vfs_tree.specs.Start.{start_world}
use Rattle.call_model.specs.Legal.{IsLegal}
use Rattle.vfs_core.specs.Kernel.{Kernel}
use Rattle.vfs_core.specs.Queues.{Queues}

-- the kernel, by caller the calls that are left, and the callers of the lines in their order
pub record Work : Type 0 where
  pub kern : Kernel
  pub left : Queues
  pub order : List ℕ

-- the history is legal, and only callers have calls live or left, or lines
pub record IsRunning (kern : Kernel) (left : Queues) (order : List ℕ) : Type 0 where
  pub legal : IsLegal kern.pending (start_world kern.limits) kern.history
  pub live : (c : ℕ) → IsSome (get kern.pending c) → IsCaller kern.limits c
  pub within : (c : ℕ) → IsSome (get left c) → IsCaller kern.limits c
  pub lines : AllByRecursion (IsCaller kern.limits) order
