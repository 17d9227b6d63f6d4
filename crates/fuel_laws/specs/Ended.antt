-- The calls that are pending after an entry.
use Rattle.std.specs.FinMap.{remove}
use Rattle.call_model.specs.Legal.{Pending}
use Rattle.call_model.specs.declared.entry.Entry.{Entry}
use Rattle.call_model.specs.declared.entry.Entry.TheVariants as entry

-- an entry of a call ends it, and an inner entry ends none
abbrev pub pending_after : Pending → Entry → Pending
pending_after p (entry.Call c call r) = remove p c
pending_after p (entry.Inner c x) = p
