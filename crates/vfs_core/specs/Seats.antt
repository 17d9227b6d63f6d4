-- Kernels that threads share: what contracts see of one and of its seats, and what a call does.
use Rattle.std.specs.Prelude.{ℕ, ◌+◌, ◌≡◌, ◌≢◌, ◌≤◌, ◌⊎◌, Bool, true, List, [], ◌∷◌, ◌++◌, length, drop, Option, Some, None, is_some, option_map, unwrap_or}
use Rattle.std.specs.FinMap.{get, insert}
use Rattle.vfs_tree.specs.Limits.{IsCaller}
use Rattle.vfs_tree.specs.Start.{start_world}
use Rattle.vfs_tree.specs.declared.limits.Limits.{Limits}
use Rattle.call_model.specs.Legal.{Pending, IsLegal, Extends, calls_of}
use Rattle.call_model.specs.declared.call.Call.{Call}
use Rattle.call_model.specs.declared.entry.Entry.{Entry}
use Rattle.call_model.specs.declared.entry.Entry.TheVariants as entry
use Rattle.call_model.specs.declared.reply.Reply.{Reply}
use Rattle.atomic_table.specs.Seated.{TableId}
use Rattle.turn_lock.specs.Known.{Lock, Known, known_part, part_in}
use Rattle.turn_lock.specs.Known as lock
use Rattle.vfs_core.specs.Kernel.{Kernel}
use Rattle.vfs_core.specs.Stepping.{Steps}
use Rattle.vfs_core.specs.declared.kern.Stepped.{Stepped}
use Rattle.vfs_core.specs.declared.kern.Stepped.TheVariants as stepped

-- ---- what the lock keeps

-- what belongs to a caller: its calls in the history, and its live call or none
abbrev pub Part : Type 0
Part = List Call × Option Call

-- the part of each number in a kernel
abbrev pub part_of : Kernel → ℕ → Part
part_of kern n = (calls_of n kern.history, get kern.pending n)

-- what contracts see of a pass of the lock round a kernel
abbrev pub Passing : Type 0
Passing = Known Kernel Entry Limits Part

-- ---- what contracts see

-- a kernel that threads share: what tells it from every other one, and its limits
pub record Sharing : Type 0 where
  pub home : TableId
  pub limits : Limits

-- what contracts see of a kernel behind this lock
abbrev pub shared : Lock Limits → Sharing
shared l = record { home = l.table; limits = l.fixed }

-- a seat: the kernel that it comes from and that kernel's limits, its caller, how many call entries of that caller stood in
-- the history when the seat was made, the history that it has seen, and its numbers with what it knows of their parts
pub record Seating : Type 0 where
  pub home : TableId
  pub limits : Option Limits
  pub caller : ℕ
  pub born : ℕ
  pub seen : List Entry
  pub parts : List (ℕ × Part)

-- the calls of a number that the seat has, and None for any other number
abbrev pub made : ℕ → Seating → Option (List Call)
made n seat = option_map (λ (q : Part). q.0) (part_in n seat.parts)

-- whether a seat has a number
abbrev pub has_number : ℕ → Seating → Bool
has_number n seat = is_some (made n seat)

-- the calls of the seat's own caller
abbrev pub own_calls : Seating → List Call
own_calls seat = unwrap_or (made seat.caller seat) []

-- those of them that were made since the seat was
abbrev pub mine : Seating → List Call
mine seat = drop seat.born (own_calls seat)

-- a seat comes from a kernel that is shared, and its numbers are callers
pub record IsSeatOf (vfs : Sharing) (seat : Seating) : Type 0 where
  pub home : seat.home ≡ vfs.home
  pub limits : seat.limits ≡ Some vfs.limits
  pub callers : (n : ℕ) → has_number n seat ≡ true → IsCaller vfs.limits n

-- ---- what a call does

-- A call of a seat ended with this reply: it stands last in what the seat has now seen, which is legal with some pending
-- calls, none of them the seat's, and begins with what the seat had seen. It is one more of the seat's own calls, of which
-- that history has these and no others.
pub record Called (limits : Limits) (old new : Seating) (call : Call) (reply : Reply) : Type 0 where
  pub pending : Pending
  pub legal : IsLegal pending (start_world limits) new.seen
  pub idle : get pending old.caller ≡ None
  pub later : Extends old.seen new.seen
  pub more : List Entry
  pub last : new.seen ≡ more ++ entry.Call old.caller call reply ∷ []
  pub calls : made old.caller new ≡ Some (calls_of old.caller new.seen)
  pub one : made old.caller new ≡ Some (own_calls old ++ call ∷ [])
  pub mine_one : mine new ≡ mine old ++ call ∷ []
  pub since : length (calls_of old.caller new.seen) ≡ old.born + length (mine new)
  pub others : (n : ℕ) → n ≢ old.caller → made n new ≡ made n old

-- A call of a seat came back: it stands nowhere. What the seat has now seen is legal with some pending calls, none of them
-- the seat's, begins with what it had seen, and has of the seat's own calls those that were made.
pub record CameBack (limits : Limits) (old new : Seating) : Type 0 where
  pub pending : Pending
  pub legal : IsLegal pending (start_world limits) new.seen
  pub idle : get pending old.caller ≡ None
  pub later : Extends old.seen new.seen
  pub calls : made old.caller new ≡ Some (calls_of old.caller new.seen)
  pub made_same : (n : ℕ) → made n new ≡ made n old
  pub mine_same : mine new ≡ mine old
  pub since : length (calls_of old.caller new.seen) ≡ old.born + length (mine new)

-- ---- what a seat keeps

-- the calls of a number, as a pass knows them
abbrev pub known_calls : ℕ → Passing → List Call
known_calls n pass = unwrap_or (option_map (λ (q : Part). q.0) (known_part n pass)) []

-- what contracts see of a seat with a pass; here `born` are the calls of its caller that had been made when the seat was
abbrev pub seated : ℕ → List Call → Passing → Seating
seated caller born pass = record { home = pass.table; limits = pass.fixed; caller = caller; born = length born; seen = pass.seen; parts = pass.parts }

-- between two calls a seat holds no turn, it has its own number, and no number of its has a live call
pub record IsSeated (caller : ℕ) (born : List Call) (pass : Passing) : Type 0 where
  pub rests : pass.held ≡ None
  pub own : lock.has_number caller pass ≡ true
  pub idle : (n : ℕ) (q : Part) → known_part n pass ≡ Some q → q.1 ≡ None
  pub since : length born ≤ length (known_calls caller pass)

-- ---- what a turn does

-- a caller that a pass has has made these calls, and has no live one
abbrev pub IsResting : ℕ → Passing → List Call → Type 0
IsResting c pass calls = known_part c pass ≡ Some (calls, None)

-- a caller that a pass has has made these calls, and has this one live
abbrev pub IsCalling : ℕ → Passing → List Call → Call → Type 0
IsCalling c pass calls call = known_part c pass ≡ Some (calls, Some call)

-- a caller without a live call has this one live
abbrev pub BeginsCall : Kernel → Kernel → ℕ → Call → Type 0
BeginsCall old new c call = (get old.pending c ≡ None) × (new ≡ record old { pending = insert old.pending c call })

-- nothing changed, or one call of a caller was begun, or its live call was stepped once
abbrev pub ChangesOnce : ℕ → Kernel → Kernel → Type 0
ChangesOnce c old new = (new ≡ old) ⊎ (((call : Call) × BeginsCall old new c call) ⊎ ((stepped : Stepped) × Steps old new c stepped))

-- a turn may end: the kernel that goes back to the lock is the one that came out of it, changed once at most
pub record MayEnd (limits : Limits) (pass : Passing) (back : Kernel) : Type 0 where
  pub out : Kernel
  pub holds : pass.held ≡ Some out
  pub seen : pass.seen ≡ out.history
  pub same : out.limits ≡ limits
  pub caller : ℕ
  pub has : lock.has_number caller pass ≡ true
  pub once : ChangesOnce caller out back

-- a pass had a turn, in which one kernel came out of the lock and another went back: the first has the lock's limits, and a
-- history that begins with what the pass had seen; the history of the other is what the pass has now seen
pub record HadTurn (limits : Limits) (old new : Passing) (out back : Kernel) : Type 0 where
  pub later : Extends old.seen out.history
  pub same : out.limits ≡ limits
  pub seen : new.seen ≡ back.history

-- a pass had a turn for a caller: what it has now seen begins with what it had, and is legal with some pending calls; it
-- knows the part of each of its numbers in that history, and of the caller's alone it may have changed
pub record TookTurn (limits : Limits) (c : ℕ) (old new : Passing) : Type 0 where
  pub later : Extends old.seen new.seen
  pub pending : Pending
  pub legal : IsLegal pending (start_world limits) new.seen
  pub known : (n : ℕ) (q : Part) → known_part n new ≡ Some q → q ≡ (calls_of n new.seen, get pending n)
  pub others : (n : ℕ) → n ≢ c → known_part n new ≡ known_part n old

-- the live call of a caller ended with this reply
pub record EndsTurn (c : ℕ) (calls : List Call) (call : Call) (reply : Reply) (new : Passing) : Type 0 where
  pub rests : IsResting c new (calls ++ call ∷ [])
  pub more : List Entry
  pub last : new.seen ≡ more ++ entry.Call c call reply ∷ []

-- the live call of a caller went on, or ended
abbrev pub StepsTurn : ℕ → Passing → Passing → Stepped → Type 0
StepsTurn c old new stepped.Went = known_part c new ≡ known_part c old
StepsTurn c old new (stepped.Ended reply) = (calls : List Call) (call : Call) → IsCalling c old calls call → EndsTurn c calls call reply new
