-- The calls that callers have yet to make.
use Rattle.std.specs.Prelude.{ℕ, ◌≡◌, List, [], ◌∷◌, unwrap_or}
use Rattle.std.specs.Ordering.{nat_cmp}
use Rattle.std.specs.FinMap.{FinMap, get, insert}
use Rattle.call_model.specs.declared.call.Call.{Call}
use Rattle.vfs_core.specs.Kernel.{Kernel}
use Rattle.vfs_core.specs.declared.queue.Begun.{Begun}
use Rattle.vfs_core.specs.declared.queue.Begun.TheVariants as begun

-- by caller, the calls that are left, the next one first
abbrev pub Queues : Type 0
Queues = FinMap nat_cmp (List Call)

-- the calls that a caller has left
abbrev pub queue_at : Queues → ℕ → List Call
queue_at queues c = unwrap_or (get queues c) []

-- the next call of a queue is begun, unless there is none or no memory
abbrev pub BeginsNext : List Call → List Call → Kernel → Kernel → ℕ → Begun → Type 0
BeginsNext old new before after c begun.Idle = (old ≡ []) × (new ≡ old) × (after ≡ before)
BeginsNext old new before after c begun.NoMemory = (call : Call) × (rest : List Call) × (old ≡ call ∷ rest) × (new ≡ old) × (after ≡ before)
BeginsNext old new before after c begun.Began = (call : Call) × (rest : List Call) × (old ≡ call ∷ rest) × (new ≡ rest) × (after ≡ record before { pending = insert before.pending c call })
