-- What a call may do to what is left in a world, and what it may need.
use Rattle.std.specs.Prelude.{ℕ, ◌+◌, ◌≡◌, ◌≤◌, ◌<◌, ◌⊎◌, false, ◌==◌, Some, None, IsSome, IfSome}
use Rattle.std.specs.FinMap.{get}
use Rattle.vfs_tree.specs.Nodes.{next_of}
use Rattle.vfs_tree.specs.declared.walk.Step.TheVariants.{Go, Refuse, Wants}
use Rattle.vfs_tree.specs.declared.world.World.{World}
use Rattle.call_model.specs.Checks.{Outcome, is_full, upper_store}
use Rattle.call_model.specs.Legal.{is_no_memory}
use Rattle.call_model.specs.declared.call.Call.{Call}
use Rattle.call_model.specs.declared.call.Call.TheVariants as call
use Rattle.call_model.specs.declared.entry.Inner.{Inner}
use Rattle.call_model.specs.declared.entry.Inner.TheVariants.{Shadow, CopyUp, Detach, Doom}
use Rattle.call_model.specs.declared.entry.Ref.{Ref}
use Rattle.call_model.specs.declared.entry.Ref.TheVariants.{Fd, Cwd as Here}
use Rattle.call_model.specs.declared.reply.Reply.{Reply}
use Rattle.call_laws.specs.Live.{live}
use Rattle.call_laws.specs.Leaving.{IsLeaver}

-- an open file or current directory is there and isn't dead
abbrev pub IsLive : World → Ref → Type 0
IsLive w (Fd c d) = IfSome (get w.opens (c, d)) (λ o. o.dead ≡ false) × IsSome (get w.opens (c, d))
IsLive w (Here c) = IfSome (get w.cwds c) (λ d. d.dead ≡ false) × IsSome (get w.cwds c)

abbrev pub IsRevoke : Call → Type 0
IsRevoke (call.Revoke p) = Unit {0}
IsRevoke _ = ⊥

-- what a call leaves: its reply isn't want of memory, at most one reference more is live, and its caller, where it was
-- leaving a mount by this call, leaves none any more, while the others do as before
pub record Leaves (w : World) (c : ℕ) (call : Call) (new : World) (r : Reply) : Type 0 where
  pub answered : is_no_memory r ≡ false
  pub live : live new ≤ live w + 1
  pub others : (d : ℕ) → (d == c) ≡ false → get new.leaving d ≡ get w.leaving d
  pub own : IfSome (get w.leaving c) (λ m. IsLeaver (Some call)) → get new.leaving c ≡ None

-- what a call may need: a node where a number is left for it; to detach a mount by a caller that leaves none; to doom a
-- live reference, in a forced unmount by a caller that is leaving, or in a revoke
abbrev pub MayNeed : World → ℕ → Call → Inner → Type 0
MayNeed w c call (Shadow m u n) = is_full w (upper_store w m) ≡ false
MayNeed w c call (CopyUp m u n) = is_full w (upper_store w m) ≡ false
MayNeed w c call (Detach m) = (get w.leaving c ≡ None) × IsLeaver (Some call)
MayNeed w c call (Doom at) = IsLive w at × (IsSome (get w.leaving c) ⊎ IsRevoke call)

-- what a row comes to
abbrev pub Fits : World → ℕ → Call → Outcome → Type 0
Fits w c call (Go x) = Leaves w c call x.0 x.1
Fits w c call (Refuse e) = Unit {0}
Fits w c call (Wants x) = MayNeed w c call x

-- an entry that makes a node takes an inode number that is there
abbrev pub TakesNumber : World → Inner → Type 0
TakesNumber w (Shadow m u n) = next_of (get w.stores (upper_store w m)) < 4294967295
TakesNumber w (CopyUp m u n) = next_of (get w.stores (upper_store w m)) < 4294967295
TakesNumber w (Detach m) = Unit {0}
TakesNumber w (Doom at) = Unit {0}
