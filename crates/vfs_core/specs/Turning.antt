-- What turns do.
use Rattle.std.specs.Prelude.{ℕ, zero, suc, ◌+◌, ◌*◌, ◌≡◌, ◌<◌, Bool, true, not, ◌==◌, nat_lt, if◌then◌else◌, List, [], ◌∷◌, ◌++◌, map, length, reverse, unwrap_or, Some, None, IsSome, is_some, ◌⊎◌}
use Rattle.std.specs.Option.{option_to_list}
use Rattle.std.specs.FinMap.{FinMap, get, insert, remove}
use Rattle.std.specs.List.{AllByRecursion}
use Rattle.std.specs.Ordering.{nat_cmp}
use Rattle.vfs_tree.specs.Limits.{IsCaller}
use Rattle.vfs_tree.specs.declared.limits.Limits.{Limits}
use Rattle.call_model.specs.Legal.{Extends, calls_of, calls_in}
use Rattle.call_model.specs.declared.call.Call.{Call}
use Rattle.call_model.specs.declared.call.Line.{Line}
use Rattle.call_model.specs.declared.entry.Entry.{Entry}
use Rattle.call_model.specs.declared.entry.Entry.TheVariants as entry
use Rattle.vfs_core.specs.Kernel.{Kernel, work}
use Rattle.vfs_core.specs.Queues.{queue_at}
use Rattle.vfs_core.specs.Stepping.{Steps}
use Rattle.vfs_core.specs.Work.{Work}
use Rattle.vfs_core.specs.declared.job.Pace.{Pace}
use Rattle.vfs_core.specs.declared.job.Pace.TheVariants as pace
use Rattle.vfs_core.specs.declared.kern.Stepped.TheVariants as stepped
use Rattle.vfs_core.specs.declared.queue.Begun.{Begun}
use Rattle.vfs_core.specs.declared.queue.Begun.TheVariants as begun
use Rattle.vfs_core.specs.declared.job.Turned.{Turned}
use Rattle.vfs_core.specs.declared.job.Turned.TheVariants as turned

-- a line of a caller
abbrev pub FitsJob : Limits → Line → Type 0
FitsJob limits line = IsCaller limits line.caller

-- a caller's live call, then its calls left
abbrev pub calls_at : Work → ℕ → List Call
calls_at job c = option_to_list (get job.kern.pending c) ++ queue_at job.left c

-- a caller's calls in the history, then its live call, then its calls left
abbrev pub calls_with : Work → ℕ → List Call
calls_with job c = calls_of c job.kern.history ++ calls_at job c

-- a turn of a caller: its live call is stepped; else its next call is begun, unless it has none or memory is wanting
abbrev pub Turns : Work → Work → ℕ → Turned → Type 0
Turns old new c turned.Idle = (get old.kern.pending c ≡ None) × (queue_at old.left c ≡ []) × (new ≡ old)
Turns old new c turned.NoMemory = (call : Call) × (rest : List Call) × (get old.kern.pending c ≡ None) × (queue_at old.left c ≡ call ∷ rest) × (new ≡ old)
Turns old new c turned.Began =
    (call : Call) × (rest : List Call) × (get old.kern.pending c ≡ None) × (queue_at old.left c ≡ call ∷ rest)
    × (new ≡ record { kern = record old.kern { pending = insert old.kern.pending c call }; left = insert old.left c rest; order = old.order })
Turns old new c (turned.Did stepped) = Steps old.kern new.kern c stepped × (new.left ≡ old.left) × (new.order ≡ old.order)

-- a caller without a live call begins its next one, unless it has none or memory is wanting
abbrev pub Begins : Work → Work → ℕ → Begun → Type 0
Begins old new c begun.Idle = Turns old new c turned.Idle
Begins old new c begun.NoMemory = Turns old new c turned.NoMemory
Begins old new c begun.Began = Turns old new c turned.Began

-- a caller has no live call, and none left
pub record IsDone (job : Work) (c : ℕ) : Type 0 where
  pub live : get job.kern.pending c ≡ None
  pub left : queue_at job.left c ≡ []

-- ---- the lines that are left

-- how many calls a caller has live or left
abbrev pub owed : Work → ℕ → ℕ
owed job c = length (calls_at job c)

-- how many of these callers are the one
abbrev pub times : ℕ → List ℕ → ℕ
times c [] = 0
times c (d ∷ ds) = if c == d then suc (times c ds) else times c ds

-- of the callers of all lines, those of the lines that have not ended: of each caller the last ones, as many as it is owed
abbrev pub callers_left : (ℕ → ℕ) → List ℕ → List ℕ
callers_left owed [] = []
callers_left owed (c ∷ cs) = if nat_lt (times c cs) (owed c) then c ∷ callers_left owed cs else callers_left owed cs

-- these lines have not ended, in this order: a live call is that of the first one of its caller
pub record HasLeft (lines : List Line) (job : Work) : Type 0 where
  pub order : map (λ (l : Line). l.caller) lines ≡ callers_left (owed job) job.order
  pub left : (c : ℕ) → calls_at job c ≡ calls_in c lines

-- the lines without the first one of a caller
abbrev pub without_first : ℕ → List Line → List Line
without_first c [] = []
without_first c (l ∷ ls) = if c == l.caller then ls else l ∷ without_first c ls

-- the lines that are left after a turn of a caller: where its live call ended, its first one isn't
abbrev pub lines_left : ℕ → Turned → List Line → List Line
lines_left c turned.Idle lines = lines
lines_left c turned.NoMemory lines = lines
lines_left c turned.Began lines = lines
lines_left c (turned.Did stepped.Went) lines = lines
lines_left c (turned.Did (stepped.Ended reply)) lines = without_first c lines

-- callers have had turns
pub record Runs (old new : Work) : Type 0 where
  pub limits : new.kern.limits ≡ old.kern.limits
  pub extends : Extends old.kern.history new.kern.history
  pub each_call : (d : ℕ) → calls_with new d ≡ calls_with old d
  pub left : (lines : List Line) → HasLeft lines old → (rest : List Line) × HasLeft rest new

-- ---- in the order of a seed

-- whether a caller has a call live or left
abbrev pub is_ready : Work → ℕ → Bool
is_ready job c = if is_some (get job.kern.pending c) then true else not (length (queue_at job.left c) == 0)

-- how many of the callers up to n have a call live or left
unfoldable pub ready_to : Work → ℕ → ℕ
ready_to job zero = 0
ready_to job (suc n) = ready_to job n + (if is_ready job (suc n) then 1 else 0)

-- how many callers have a call live or left
abbrev pub ready : Work → ℕ
ready job = ready_to job job.kern.limits.callers

-- the work of a caller: two for each call left, and one for a live call
abbrev pub caller_work : Work → ℕ → ℕ
caller_work job c = 2 * length (queue_at job.left c) + length (option_to_list (get job.kern.pending c))

-- the work of the callers up to n
unfoldable pub work_to : Work → ℕ → ℕ
work_to job zero = 0
work_to job (suc n) = work_to job n + caller_work job (suc n)

-- the work of all callers
abbrev pub calls_left : Work → ℕ
calls_left job = work_to job job.kern.limits.callers

-- what a turn means for a run of all calls
abbrev pub pace_of : Turned → Pace
pace_of turned.Idle = pace.Over
pace_of turned.NoMemory = pace.Stuck
pace_of turned.Began = pace.Moved
pace_of (turned.Did stepped.Went) = pace.Went
pace_of (turned.Did (stepped.Ended reply)) = pace.Moved

-- A turn of the caller on whom it falls: nobody has anything left, or a call was begun or ended, or one went on. Each but
-- the first brings the end nearer, unless memory is wanting.
abbrev pub Paces : Work → Work → Pace → Type 0
Paces old new pace.Over = (c : ℕ) → IsDone new c
Paces old new pace.Stuck = Unit {0}
Paces old new pace.Moved = calls_left new < calls_left old
Paces old new pace.Went = (calls_left new ≡ calls_left old) × (work new.kern < work old.kern)

-- ---- in the order of the lines

-- the calls in the call entries, each with its caller, in their order
abbrev pub lines_of : List Entry → List Line
lines_of [] = []
lines_of (entry.Call c call r ∷ es) = record { caller = c; call = call } ∷ lines_of es
lines_of (entry.Inner c x ∷ es) = lines_of es

-- a live call of a caller ended: its entry is the one call entry that is new
pub record Ends (old new : Kernel) (c : ℕ) : Type 0 where
  pub call : Call
  pub more : List Entry
  pub live : get old.pending c ≡ Some call
  pub line : lines_of more ≡ record { caller = c; call = call } ∷ []
  pub is : new ≡ record old { history = old.history ++ more; pending = remove old.pending c }

-- a live call of a caller went on: no call entry is new
pub record GoesOn (old new : Kernel) : Type 0 where
  pub more : List Entry
  pub none : lines_of more ≡ []
  pub is : new ≡ record old { history = old.history ++ more }

-- some of these lines have been run, in their order, and the others are left, whose callers are these
pub record HasRun (lines : List Line) (callers : List ℕ) (old new : Work) : Type 0 where
  pub run : List Line
  pub rest : List Line
  pub all : lines ≡ run ++ rest
  pub theirs : map (λ (l : Line). l.caller) rest ≡ callers
  pub left : HasLeft rest new
  pub entered : lines_of new.kern.history ≡ lines_of old.kern.history ++ run

-- the first line that is left has been run, if it is the caller's
abbrev pub RunsLine : ℕ → Work → Work → Type 0
RunsLine c old new =
    (l : Line) (rest : List Line) → HasLeft (l ∷ rest) old → l.caller ≡ c
    → HasLeft rest new × (lines_of new.kern.history ≡ lines_of old.kern.history ++ l ∷ [])

-- a caller's next call was begun, or one was live
abbrev pub StartsLine : ℕ → Work → Work → Type 0
StartsLine c old new = Begins old new c begun.Began ⊎ ((new ≡ old) × IsSome (get old.kern.pending c))

-- lines have been run, and those of these callers are left
pub record RunsLines (callers : List ℕ) (old new : Work) : Type 0 where
  pub runs : Runs old new
  pub fits : AllByRecursion (IsCaller old.kern.limits) callers
  pub ordered : (lines : List Line) → HasLeft lines old → HasRun lines callers old new

-- The lines of these last callers have been seen, from the last one on: found are the callers of those that have not ended,
-- the last one first, and seen is how often each caller stands among them all.
pub record IsSought (owed : ℕ → ℕ) (found : List ℕ) (seen : FinMap nat_cmp ℕ) (rest : List ℕ) : Type 0 where
  pub callers : reverse found ≡ callers_left owed rest
  pub later : (c : ℕ) → unwrap_or (get seen c) 0 ≡ times c rest
