-- The beginnings of histories.
use Rattle.std.specs.Prelude.{List, [], ◌∷◌}
use Rattle.std.specs.FinMap.{insert}
use Rattle.call_model.specs.Legal.{Pending}
use Rattle.call_model.specs.declared.entry.Entry.{Entry}
use Rattle.call_model.specs.declared.entry.Entry.TheVariants as entry

-- the calls that are pending before some entries, where the ones of the map are after them
abbrev pub pending_before : Pending → List Entry → Pending
pending_before p [] = p
pending_before p (entry.Call c call r ∷ es) = insert (pending_before p es) c call
pending_before p (entry.Inner c x ∷ es) = pending_before p es
