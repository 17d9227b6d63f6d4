-- How the queues of a job are filled.
use Rattle.std.specs.Prelude.{ℕ, ◌≡◌, ◌++◌, List, map, IsSome}
use Rattle.std.specs.List.{AllByRecursion}
use Rattle.std.specs.FinMap.{get}
use Rattle.vfs_tree.specs.Limits.{IsCaller}
use Rattle.vfs_tree.specs.declared.limits.Limits.{Limits}
use Rattle.call_model.specs.Legal.{calls_in}
use Rattle.call_model.specs.declared.call.Line.{Line}
use Rattle.vfs_core.specs.Queues.{Queues, queue_at}
use Rattle.vfs_core.specs.Turning.{FitsJob}

-- with these lines left of all, each caller has its calls of the lines before, and their callers stand in the order
pub record IsFilled (limits : Limits) (queues : Queues) (order : List ℕ) (lines rest : List Line) : Type 0 where
  pub calls : (c : ℕ) → queue_at queues c ++ calls_in c rest ≡ calls_in c lines
  pub callers : order ++ map (λ (l : Line). l.caller) rest ≡ map (λ (l : Line). l.caller) lines
  pub fits : AllByRecursion (FitsJob limits) rest
  pub within : (c : ℕ) → IsSome (get queues c) → IsCaller limits c
  pub runners : AllByRecursion (IsCaller limits) order
