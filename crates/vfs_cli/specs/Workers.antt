-- Workers: each makes the calls of one caller.
use Rattle.std.specs.Prelude.{ℕ, ◌-◌, ◌≡◌, ◌≢◌, ◌<◌, ◌≤◌, List, [], ◌++◌, length, slice_index_or, Some, None}
use Rattle.call_model.specs.Legal.{calls_in}
use Rattle.call_model.specs.declared.call.Call.{Call}
use Rattle.call_model.specs.declared.call.Line.{Line}
use Rattle.vfs_core.specs.Seats.{Sharing, Seating, IsSeatOf, made}
use Rattle.vfs_cli.specs.declared.worker.Worker.{Worker}

-- a caller with a number from 1 to n
pub record IsUpTo (n c : ℕ) : Type 0 where
  pub first : 1 ≤ c
  pub last : c ≤ n

-- ---- plans: the calls that callers have yet to make

-- the plan of a caller, where those of the callers from 1 on stand in a row
abbrev pub plan_at : List (List Call) → ℕ → List Call
plan_at plans c = slice_index_or plans (c - 1) []

-- n callers have their calls among the lines in their plans, in their order
pub record ArePlans (n : ℕ) (lines : List Line) (plans : List (List Call)) : Type 0 where
  pub count : length plans ≡ n
  pub calls : (c : ℕ) → IsUpTo n c → plan_at plans c ≡ calls_in c lines

-- a line of a caller
abbrev pub line_of : ℕ → Call → Line
line_of c call = record { caller = c; call = call }

-- ---- what a worker does

-- a worker has made the first of the calls that it had left, each once and in their order, and nothing else
pub record Worked (vfs : Sharing) (old new : Worker) : Type 0 where
  pub own : IsSeatOf vfs new.seat
  pub caller : new.seat.caller ≡ old.seat.caller
  pub more : List Call
  pub rest : old.left ≡ more ++ new.left
  pub adds : (before : List Call) → made old.seat.caller old.seat ≡ Some before → made old.seat.caller new.seat ≡ Some (before ++ more)
  pub others : (n : ℕ) → n ≢ old.seat.caller → made n new.seat ≡ made n old.seat

-- ---- the workers of all callers

-- a worker of a caller, whose seat has no other number: the calls that were made and then those that are left are the
-- caller's plan
pub record IsWorker (vfs : Sharing) (plans : List (List Call)) (c : ℕ) (worker : Worker) : Type 0 where
  pub own : IsSeatOf vfs worker.seat
  pub caller : worker.seat.caller ≡ c
  pub before : List Call
  pub has : made c worker.seat ≡ Some before
  pub calls : before ++ worker.left ≡ plan_at plans c
  pub alone : (n : ℕ) → n ≢ c → made n worker.seat ≡ None

-- workers of the last callers, that of the greatest number first
abbrev pub AreWorkers : Sharing → List (List Call) → List Worker → Type 0
AreWorkers vfs plans workers = (i : ℕ) (d : Worker) → i < length workers → IsWorker vfs plans (length plans - i) (slice_index_or workers i d)

-- caller 1's seat has the numbers of the callers up to n and no other one, and none of them has made a call
pub record IsFresh (vfs : Sharing) (n : ℕ) (seat : Seating) : Type 0 where
  pub own : IsSeatOf vfs seat
  pub caller : seat.caller ≡ 1
  pub fresh : (c : ℕ) → IsUpTo n c → made c seat ≡ Some []
  pub others : (c : ℕ) → (IsUpTo n c → ⊥) → made c seat ≡ None

-- a seat has the numbers of the callers up to n and no other one; for each of them the calls that were made and then those
-- that are left are the caller's plan
pub record HasGathered (vfs : Sharing) (plans : List (List Call)) (n : ℕ) (seat : Seating) (left : List (List Call)) : Type 0 where
  pub own : IsSeatOf vfs seat
  pub count : length left ≡ n
  pub calls : (c : ℕ) → IsUpTo n c → (before : List Call) × (made c seat ≡ Some before) × (before ++ plan_at left c ≡ plan_at plans c)
  pub others : (c : ℕ) → (IsUpTo n c → ⊥) → made c seat ≡ None
