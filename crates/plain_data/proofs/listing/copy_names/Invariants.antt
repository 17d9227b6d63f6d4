use Rattle.std.proofs.Common.{◌≡◌, take}
use Rattle.plain_data.proofs.listing.copy_names.Given as goal

-- the names so far are copied
abbrev pub invariant-loop-name : goal.invariant-loop-name
invariant-loop-name l = l.copy.items ≡ take l.name-index l.name-items
