-- Histories: which are legal, the world that they leave, and the calls of a caller.
use Rattle.std.specs.Prelude.{ℕ, Bool, true, false, not, ◌==◌, ◌≡◌, if◌then◌else◌, MatchBool, List, [], ◌∷◌, ◌++◌, filter, Option, Some, None}
use Rattle.std.specs.List.{list_any}
use Rattle.std.specs.Ordering.{nat_cmp}
use Rattle.std.specs.FinMap.{FinMap, get}
use Rattle.vfs_tree.specs.declared.errno.Errno.{Errno}
use Rattle.vfs_tree.specs.declared.errno.Errno.TheVariants as errno
use Rattle.vfs_tree.specs.declared.world.World.{World}
use Rattle.call_model.specs.Apply.{Applied, Finished, Needs, apply}
use Rattle.call_model.specs.Effects.{effect}
use Rattle.call_model.specs.declared.call.Call.{Call}
use Rattle.call_model.specs.declared.call.Line.{Line}
use Rattle.call_model.specs.declared.entry.Entry.{Entry}
use Rattle.call_model.specs.declared.entry.Entry.TheVariants as entry
use Rattle.call_model.specs.declared.entry.Inner.{Inner}
use Rattle.call_model.specs.declared.entry.Inner.TheVariants as inner
use Rattle.call_model.specs.declared.reply.Reply.{Reply}
use Rattle.call_model.specs.declared.reply.Reply.TheVariants as reply

-- the calls that were begun and have no entry yet, by caller
abbrev pub Pending : Type 0
Pending = FinMap nat_cmp Call

-- ---- want of memory

abbrev pub is_enomem : Errno → Bool
is_enomem errno.ENOMEM = true
is_enomem _ = false

-- the reply of a call that found no memory
abbrev pub is_no_memory : Reply → Bool
is_no_memory (reply.Fail e) = is_enomem e
is_no_memory _ = false

-- ---- the world that a history leaves

abbrev pub world_after : World → Applied → World
world_after w (Finished new r) = new
world_after w (Needs x) = w

-- the world after an entry; want of memory leaves it
abbrev pub after : World → Entry → World
after w (entry.Call c call r) = if is_no_memory r then w else world_after w (apply w c call)
after w (entry.Inner c x) = effect w c x

-- the world that the entries leave, one after the other
abbrev pub replay : World → List Entry → World
replay w [] = w
replay w (e ∷ es) = replay (after w e) es

-- ---- legal histories

-- the call of a caller's next call entry, or the one that is pending
abbrev pub next_call : Pending → ℕ → List Entry → Option Call
next_call p c [] = get p c
next_call p c (entry.Call d call r ∷ es) = if c == d then Some call else next_call p c es
next_call p c (entry.Inner d x ∷ es) = next_call p c es

-- the inner entry is exactly what the call, if there is one, needs
abbrev pub IsNeeded : World → ℕ → Option Call → Inner → Type 0
IsNeeded w c (Some call) x = apply w c call ≡ Needs x
IsNeeded w c None x = ⊥

-- a caller that is leaving no mount, and has doomed nothing since its last call entry, may find no memory
abbrev pub MayLackMemory : World → List ℕ → ℕ → Type 0
MayLackMemory w doomers c = (get w.leaving c ≡ None) × (list_any (λ d. d == c) doomers ≡ false)

-- the callers that have doomed something since their last call entry
abbrev pub doomers_after : List ℕ → Entry → List ℕ
doomers_after doomers (entry.Call c call r) = filter (λ d. not (d == c)) doomers
doomers_after doomers (entry.Inner c (inner.Doom at)) = c ∷ doomers
doomers_after doomers (entry.Inner c (inner.Shadow m u n)) = doomers
doomers_after doomers (entry.Inner c (inner.CopyUp m u n)) = doomers
doomers_after doomers (entry.Inner c (inner.Detach m)) = doomers

-- the callers that have doomed something since their last call entry, after these entries
abbrev pub doomers_in : List ℕ → List Entry → List ℕ
doomers_in doomers [] = doomers
doomers_in doomers (e ∷ es) = doomers_in (doomers_after doomers e) es

-- a call may answer so in a world and leave the other one: want of memory leaves the world, where it may come
abbrev pub MayAnswer : World → List ℕ → ℕ → Call → Reply → World → Type 0
MayAnswer w doomers c call r new = MatchBool (is_no_memory r) (MayLackMemory w doomers c × (new ≡ w)) (apply w c call ≡ Finished new r)

-- an entry is right in the world before it, with the entries after it
abbrev pub IsRight : Pending → List ℕ → World → Entry → List Entry → Type 0
IsRight p doomers w (entry.Call c call r) es =
    MatchBool (is_no_memory r) (MayLackMemory w doomers c) (apply w c call ≡ Finished (world_after w (apply w c call)) r)
IsRight p doomers w (entry.Inner c x) es = IsNeeded w c (next_call p c es) x

-- each entry is right, where these callers have doomed something since their last call entry
abbrev pub IsLegalFrom : Pending → List ℕ → World → List Entry → Type 0
IsLegalFrom p doomers w [] = Unit {0}
IsLegalFrom p doomers w (e ∷ es) = IsRight p doomers w e es × IsLegalFrom p (doomers_after doomers e) (after w e) es

-- a history that is legal from a world on, with a pending map
abbrev pub IsLegal : Pending → World → List Entry → Type 0
IsLegal p w es = IsLegalFrom p [] w es

-- ---- calls of a caller

-- the calls in the call entries of a caller, in their order
abbrev pub calls_of : ℕ → List Entry → List Call
calls_of c [] = []
calls_of c (entry.Call d call r ∷ es) = if c == d then call ∷ calls_of c es else calls_of c es
calls_of c (entry.Inner d x ∷ es) = calls_of c es

-- the calls of a caller among lines, in their order
abbrev pub calls_in : ℕ → List Line → List Call
calls_in c [] = []
calls_in c (l ∷ ls) = if c == l.caller then l.call ∷ calls_in c ls else calls_in c ls

-- the new history begins with the old one
pub record Extends (old new : List Entry) : Type 0 where
  pub more : List Entry
  pub is : new ≡ old ++ more
