-- Files of the lower layer of a union alone, which nothing is to write.
use Rattle.std.specs.Prelude.{ℕ, ◌≡◌, Bool, true, false, IfSome}
use Rattle.std.specs.FinMap.{get}
use Rattle.vfs_tree.specs.Place.{Seen, Mem, Null, UnionUp, UnionLow}
use Rattle.vfs_tree.specs.declared.world.World.{World}

-- whether a place is a file that a union has in its lower layer alone, perhaps seen through null mounts
abbrev pub is_lower_file : Seen → Bool
is_lower_file (Mem m i) = false
is_lower_file (Null m p) = is_lower_file p
is_lower_file (UnionUp m i) = false
is_lower_file (UnionLow m u n p) = true

-- what is open for writing is no such file
abbrev pub AreWrittenAbove : World → Type 0
AreWrittenAbove w = (k : ℕ × ℕ) → IfSome (get w.opens k) (λ o. o.mode.write ≡ true → is_lower_file o.place ≡ false)
