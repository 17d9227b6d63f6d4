-- What is left in a world that calls may use up: live references, inode numbers, and callers that aren't leaving.
use Rattle.std.specs.Prelude.{ℕ, zero, suc, ◌+◌, ◌-◌, not, List, [], ◌∷◌, length, filter, Option, Some, None}
use Rattle.std.specs.FinMap.{get, entries}
use Rattle.vfs_tree.specs.declared.limits.Limits.{Limits}
use Rattle.vfs_tree.specs.declared.node.Store.{Store}
use Rattle.vfs_tree.specs.declared.world.World.{World}
use Rattle.call_model.specs.Refs.{Reference, references}

-- how many open files and current directories aren't dead
abbrev pub live : World → ℕ
live w = length (filter (λ (r : Reference). not r.dead) (references w))

-- how many inode numbers a store has left
abbrev pub numbers_left : ℕ × Store → ℕ
numbers_left e = 4294967295 - e.1.next

-- the same for some stores together
unfoldable pub total_left : List (ℕ × Store) → ℕ
total_left [] = 0
total_left (e ∷ es) = numbers_left e + total_left es

-- how many inode numbers all stores have left
abbrev pub room : World → ℕ
room w = total_left (entries w.stores)

-- one for a caller that isn't leaving a mount
abbrev pub stays : Option ℕ → ℕ
stays (Some m) = 0
stays None = 1

-- how many of the callers up to n aren't leaving a mount
unfoldable pub staying_of : World → ℕ → ℕ
staying_of w zero = 0
staying_of w (suc n) = stays (get w.leaving (suc n)) + staying_of w n

-- how many callers aren't leaving a mount
abbrev pub staying : Limits → World → ℕ
staying limits w = staying_of w limits.callers

-- an upper bound on the inner entries that may still come before some call ends
abbrev pub work_left : Limits → World → ℕ
work_left limits w = room w + (live w + staying limits w)
