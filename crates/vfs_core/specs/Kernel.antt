-- What contracts see of a kernel, and what a kernel keeps.
use Rattle.std.specs.Prelude.{ℕ, ◌+◌, ◌*◌, ◌≡◌, ◌==◌, ◌≤◌, true, List, [], IsSome, IfSome}
use Rattle.std.specs.List.{list_any}
use Rattle.std.specs.FinMap.{FinMap, get, len}
use Rattle.std.specs.Ordering.{nat_cmp}
use Rattle.vfs_tree.specs.Limits.{IsLawful, IsCaller}
use Rattle.vfs_tree.specs.Nodes.{IsNumbered}
use Rattle.vfs_tree.specs.Start.{start_world}
use Rattle.vfs_tree.specs.declared.limits.Limits.{Limits}
use Rattle.vfs_tree.specs.declared.world.World.{World}
use Rattle.call_model.specs.Legal.{Pending, IsLegal, replay, doomers_in, calls_of}
use Rattle.call_model.specs.Recorded.{Recorded}
use Rattle.call_model.specs.declared.entry.Entry.{Entry}
use Rattle.call_laws.specs.Live.{live, work_left}
use Rattle.call_laws.specs.Leaving.{IsLeaving}
use Rattle.plain_calls.specs.Answering.{HasRoomFor}

-- the limits, the entries of the history, and the pending calls by caller
pub record Kernel : Type 0 where
  pub limits : Limits
  pub history : List Entry
  pub pending : Pending

-- the world that a kernel's history leaves
abbrev pub world_of : Kernel → World
world_of k = replay (start_world k.limits) k.history

-- an upper bound on the inner entries that may still come before some call ends
abbrev pub work : Kernel → ℕ
work k = work_left k.limits (world_of k)

-- The history is legal with the pending calls, and the world is the one that it leaves. There is room for the entry of
-- each pending call, for the doom of each live reference, and for that of one more which each pending call may make live.
-- A caller that is leaving a mount does so by its pending call, and only such a caller has doomed something since its last
-- call ended. Only callers have calls in the history.
pub record IsKept (limits : Limits) (world : World) (history : Recorded) (pending : Pending) : Type 0 where
  pub lawful : IsLawful limits
  pub legal : IsLegal pending (start_world limits) history.entries
  pub stands : world ≡ replay (start_world limits) history.entries
  pub room : live world + 2 * len pending ≤ history.spare
  pub within : (c : ℕ) → IsSome (get pending c) → IsCaller limits c
  pub leaving : (c : ℕ) → IsLeaving world c (get pending c)
  pub doomers : (c : ℕ) → list_any (λ d. d == c) (doomers_in [] history.entries) ≡ true → IsSome (get world.leaving c)
  pub numbered : IsNumbered world
  pub callers : (c : ℕ) → (IsCaller limits c → ⊥) → calls_of c history.entries ≡ []

-- each pending call that reads bytes has room for them
abbrev pub HaveRoom : Pending → FinMap nat_cmp ℕ → Type 0
HaveRoom pending rooms = (c : ℕ) → IfSome (get pending c) (λ call. HasRoomFor call (get rooms c))
