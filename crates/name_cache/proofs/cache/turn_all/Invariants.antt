use Rattle.std.proofs.Common.{◌≡◌, ◌-◌, length}
use Rattle.name_cache.specs.Entries.{spares}
use Rattle.name_cache.proofs.Turns.{turning}
use Rattle.name_cache.proofs.cache.turn_all.Given as goal

abbrev pub invariant-loop-turn : goal.invariant-loop-turn
invariant-loop-turn l = (l.entries.entries ≡ turning (spares l.vid) l.initial.entries.entries (length l.initial.entries.entries - l._turn)) × (l.entries.cap ≡ l.initial.entries.cap)
