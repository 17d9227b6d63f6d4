-- What paths a call has as its function gives them, what room it has, and what an answer of a call may be.
use Rattle.std.specs.Prelude.{ℕ, ◌≡◌, ◌≤◌, List, Option, Some, None, option_map, Result, IfErr}
use Rattle.std.specs.Borrow.{Bor}
use Rattle.vfs_tree.specs.declared.walk.Leaf.{Leaf}
use Rattle.call_model.specs.DataRows.{most_moved}
use Rattle.call_model.specs.Rows.{Way}
use Rattle.call_model.specs.declared.call.Call.{Call}
use Rattle.call_model.specs.declared.call.Call.TheVariants as call
use Rattle.plain_checks.specs.declared.stop.Stop.{Stop}
use Rattle.plain_checks.specs.declared.stop.Stop.TheVariants as stop

-- memory wasn't wanting
abbrev pub HasMemory : {A : Type 0} → Result A Stop → Type 0
HasMemory r = IfErr r (λ why. why ≡ stop.NoMemory → ⊥)

-- there is room, and for so many bytes where so many may be read at once
abbrev pub HoldsBytes : ℕ → Option ℕ → Type 0
HoldsBytes n (Some room) = n ≤ most_moved → n ≤ room
HoldsBytes n None = ⊥

-- a call that reads bytes has room for them
abbrev pub HasRoomFor : Call → Option ℕ → Type 0
HasRoomFor (call.Read d n) room = HoldsBytes n room
HasRoomFor (call.Pread d n o) room = HoldsBytes n room
HasRoomFor _ room = Unit {0}

-- a call that never wants memory once it was begun
abbrev pub NeedsNoMemory : Call → Type 0
NeedsNoMemory (call.Close d) = Unit {0}
NeedsNoMemory (call.Read d n) = Unit {0}
NeedsNoMemory (call.Pread d n o) = Unit {0}
NeedsNoMemory (call.Lseek d h i) = Unit {0}
NeedsNoMemory (call.Fstat d) = Unit {0}
NeedsNoMemory _ = ⊥

-- a path as the function gives it
abbrev pub way_of : Option (Leaf × Bor (List ℕ)) → Option Way
way_of o = option_map (λ x. record { leaf = x.0; text = x.1.now }) o
