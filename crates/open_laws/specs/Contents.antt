-- Entries that write to files, calls that drop names of files, and files that stay open.
use Rattle.std.specs.Prelude.{ℕ, ◌≡◌, Bool, true, false, not, if◌then◌else◌, List, [], ◌∷◌, Option, Some, None, IfSome, option_map}
use Rattle.std.specs.FinMap.{get}
use Rattle.vfs_tree.specs.Layers.{base, same_node}
use Rattle.vfs_tree.specs.Place.{Seen}
use Rattle.vfs_tree.specs.Views.{facts_of}
use Rattle.vfs_tree.specs.declared.open.Open.{Open}
use Rattle.vfs_tree.specs.declared.walk.Found.{Found}
use Rattle.vfs_tree.specs.declared.walk.Found.TheVariants as found
use Rattle.vfs_tree.specs.declared.world.World.{World}
use Rattle.call_model.specs.Apply.{Applied, Finished, Needs, apply}
use Rattle.call_model.specs.Legal.{after, is_no_memory}
use Rattle.call_model.specs.NameEdits.{is_fail}
use Rattle.call_model.specs.Rows.{first_found}
use Rattle.call_model.specs.declared.call.Call.{Call}
use Rattle.call_model.specs.declared.call.Call.TheVariants as call
use Rattle.call_model.specs.declared.entry.Entry.{Entry}
use Rattle.call_model.specs.declared.entry.Entry.TheVariants as entry

-- ---- entries that write

-- what stands at a path
abbrev pub place_found : Found → Option Seen
place_found (found.At p) = Some p
place_found _ = None

-- what a descriptor stands for
abbrev pub place_opened : World → ℕ → ℕ → Option Seen
place_opened w c d = option_map (λ o. o.place) (get w.opens (c, d))

-- the file to which a call writes or gives a length, where it is done. An `open` cuts what is there already. All calls
-- that aren't listed write to none.
abbrev pub written_place : World → ℕ → Call → Option Seen
written_place w c (call.Write d bytes) = place_opened w c d
written_place w c (call.Pwrite d o bytes) = place_opened w c d
written_place w c (call.Truncate p n) = place_found (first_found w c (call.Truncate p n))
written_place w c (call.Ftruncate d n) = place_opened w c d
written_place w c (call.Open p f) = if f.cut then place_found (first_found w c (call.Open p f)) else None
written_place w c _ = None

-- whether a call is done: it needs nothing first and isn't refused
abbrev pub is_done : Applied → Bool
is_done (Finished new r) = not (is_fail r)
is_done (Needs x) = false

-- an entry writes to no file, or to one that rests on another node than a place; a call that finds no memory or isn't
-- done writes to none
abbrev pub WritesElsewhere : World → Entry → Seen → Type 0
WritesElsewhere w (entry.Call c call r) p =
    is_no_memory r ≡ false → is_done (apply w c call) ≡ true
    → IfSome (written_place w c call) (λ q. same_node (base (facts_of w) q) (base (facts_of w) p) ≡ false)
WritesElsewhere w (entry.Inner c x) p = Unit {0}

-- so does each entry of a history
abbrev pub AllWriteElsewhere : World → List Entry → Seen → Type 0
AllWriteElsewhere w [] p = Unit {0}
AllWriteElsewhere w (e ∷ es) p = WritesElsewhere w e p × AllWriteElsewhere (after w e) es p

-- ---- what is open

-- a descriptor is open at a place, and isn't dead
pub record IsOpenAt (w : World) (k : ℕ × ℕ) (p : Seen) : Type 0 where
  pub file : Open
  pub at : get w.opens k ≡ Some file
  pub live : file.dead ≡ false
  pub place : file.place ≡ p

-- it is so before a history and after each of its entries
abbrev pub StaysOpenAt : World → List Entry → ℕ × ℕ → Seen → Type 0
StaysOpenAt w [] k p = IsOpenAt w k p
StaysOpenAt w (e ∷ es) k p = IsOpenAt w k p × StaysOpenAt (after w e) es k p

-- ---- names that are dropped

-- a call that may drop a name of a file, or have another file take its place there
abbrev pub DropsFiles : Call → Type 0
DropsFiles (call.Unlink p) = Unit {0}
DropsFiles (call.Rename p q) = Unit {0}
DropsFiles _ = ⊥
