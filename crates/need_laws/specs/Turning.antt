-- Open files that stand on what is copied to an upper layer.
use Rattle.std.specs.Prelude.{ℕ, ◌≡◌, Bool, ◌||◌, Some}
use Rattle.std.specs.FinMap.{get}
use Rattle.vfs_tree.specs.Facts.{Facts}
use Rattle.vfs_tree.specs.Layers.{base, same_place}
use Rattle.vfs_tree.specs.Place.{Seen, Mem, Null, UnionUp, UnionLow}
use Rattle.vfs_tree.specs.declared.open.Open.{Open}
use Rattle.vfs_tree.specs.declared.world.World.{World}
use Rattle.call_model.specs.Checks.{node_of}

-- whether a place is another one, or is seen over it through null mounts and unions
abbrev pub is_seen_over : Seen → Seen → Bool
is_seen_over q (Mem m i) = same_place q (Mem m i)
is_seen_over q (Null m p) = same_place q (Null m p) || is_seen_over q p
is_seen_over q (UnionUp m i) = same_place q (UnionUp m i)
is_seen_over q (UnionLow m u n p) = same_place q (UnionLow m u n p) || is_seen_over q p

-- an open file is the same but for its place, which rests on the node of another one
pub record TurnsTo (old new : World) (k : ℕ × ℕ) (o : Open) (to : Seen) : Type 0 where
  pub place : Seen
  pub at : get new.opens k ≡ Some (record o { place = place })
  -- in whatever view: so it reads from then on what is written there
  pub base : (f : Facts) → base f place ≡ base f to
  -- what it reads right after is what it read before
  pub same : node_of new place ≡ node_of old o.place

-- two descriptors are open at these places; both are dead or neither is, and both are for reading or neither is
pub record AreOpenAlike (w : World) (j k : ℕ × ℕ) (p q : Seen) : Type 0 where
  pub one : Open
  pub other : Open
  pub at : get w.opens j ≡ Some one
  pub other_at : get w.opens k ≡ Some other
  pub place : one.place ≡ p
  pub other_place : other.place ≡ q
  pub dead : one.dead ≡ other.dead
  pub reads : one.mode.read ≡ other.mode.read
