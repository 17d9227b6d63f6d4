-- Calls that never want memory.
use Rattle.plain_checks.specs.declared.stop.Stop.{Stop}
use Rattle.plain_checks.specs.declared.stop.Stop.TheVariants.{Refused, Needs, NoMemory}

-- a call goes no further for a reason that isn't want of memory
abbrev pub IsDecided : Stop → Type 0
IsDecided (Refused e) = Unit {0}
IsDecided (Needs x) = Unit {0}
IsDecided NoMemory = ⊥
