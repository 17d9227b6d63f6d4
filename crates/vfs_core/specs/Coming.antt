-- What a call comes to, and how far a step takes it.
use Rattle.std.specs.Prelude.{ℕ, ◌+◌, ◌≡◌, ◌≤◌, ◌++◌, ◌∷◌, ◌⊎◌, false, List, [], map, Option, Some, None, IsSome}
use Rattle.std.specs.FinMap.{get}
use Rattle.vfs_tree.specs.declared.walk.NodeId.{NodeId}
use Rattle.vfs_tree.specs.declared.walk.Step.TheVariants.{Wants}
use Rattle.vfs_tree.specs.declared.world.World.{World}
use Rattle.call_model.specs.Effects.{effect, doomed}
use Rattle.call_model.specs.Legal.{MayAnswer, is_no_memory}
use Rattle.call_model.specs.Recorded.{Recorded}
use Rattle.call_model.specs.Rows.{row}
use Rattle.call_model.specs.declared.call.Call.{Call}
use Rattle.call_model.specs.declared.entry.Entry.TheVariants as entry
use Rattle.call_model.specs.declared.entry.Inner.{Inner}
use Rattle.call_model.specs.declared.entry.Inner.TheVariants.{Shadow, CopyUp, Detach, Doom}
use Rattle.call_model.specs.declared.entry.Ref.{Ref}
use Rattle.call_model.specs.declared.reply.Reply.{Reply}
use Rattle.call_laws.specs.Fitting.{IsRevoke, TakesNumber}
use Rattle.call_laws.specs.Live.{live}
use Rattle.call_laws.specs.Revoking.{first_open_on}
use Rattle.vfs_core.specs.Stepping.{dooms}
use Rattle.vfs_core.specs.declared.advancing.Advanced.{Advanced}
use Rattle.vfs_core.specs.declared.advancing.Advanced.TheVariants as advanced
use Rattle.vfs_core.specs.declared.answering.Came.{Came}
use Rattle.vfs_core.specs.declared.answering.Came.TheVariants as came

-- a call is answered, by ENOMEM where memory may be wanting, or needs an inner entry
abbrev pub ComesTo : World → World → ℕ → Call → Came → Type 0
ComesTo old new c call (came.Answered a) = MayAnswer old [] c call a.reply new
ComesTo old new c call (came.Needs x) = (row old c call ≡ Wants x) × (new ≡ old)

-- a call is answered, and not for want of memory
abbrev pub IsAnswered : Came → Type 0
IsAnswered (came.Answered a) = is_no_memory a.reply ≡ false
IsAnswered (came.Needs x) = ⊥

-- the reference that an inner entry dooms
abbrev pub doomed_by : Inner → Option Ref
doomed_by (Shadow m u n) = None
doomed_by (CopyUp m u n) = None
doomed_by (Detach m) = None
doomed_by (Doom at) = Some at

-- one after the other, these are the first live open files on a node, and they are doomed
abbrev pub DoomsOpen : NodeId → World → List Ref → World → Type 0
DoomsOpen node w [] v = v ≡ w
DoomsOpen node w (at ∷ ats) v = (first_open_on w node ≡ Some at) × DoomsOpen node (doomed w at) ats v

-- one after the other, the call needs these dooms, and they are made
abbrev pub NeedsDooms : ℕ → Call → World → List Ref → World → Type 0
NeedsDooms c call w [] v = v ≡ w
NeedsDooms c call w (at ∷ ats) v = (row w c call ≡ Wants (Doom at)) × NeedsDooms c call (doomed w at) ats v

-- each live open file on a node was doomed and entered, one after the other, and there is room as before for what is live
pub record DoomsAll (node : NodeId) (c : ℕ) (w v : World) (old new : Recorded) : Type 0 where
  pub ats : List Ref
  pub made : DoomsOpen node w ats v
  pub entered : new.entries ≡ old.entries ++ dooms c ats
  pub room : live v + old.spare ≤ live w + new.spare

-- a call goes on: what it needs was made and entered, with room as before; a doom alone only where the caller is leaving
pub record Goes (w v : World) (old new : Recorded) (c : ℕ) (call : Call) (x : Inner) : Type 0 where
  pub needs : row w c call ≡ Wants x
  pub world : v ≡ effect w c x
  pub number : TakesNumber w x
  pub entered : new.entries ≡ old.entries ++ entry.Inner c x ∷ []
  pub room : live v + old.spare ≤ live w + new.spare
  pub leaves : IsSome (doomed_by x) → IsSome (get w.leaving c)

-- a call ends: the dooms that it needs, if it is a revoke, were made and entered, with room as before, and then it is answered
pub record Ends (w v : World) (old new : Recorded) (c : ℕ) (call : Call) (r : Reply) : Type 0 where
  pub ats : List Ref
  pub mid : World
  pub made : NeedsDooms c call w ats mid
  pub entered : new.entries ≡ old.entries ++ dooms c ats
  pub room : live mid + old.spare ≤ live w + new.spare
  pub answered : MayAnswer mid (map (λ at. c) ats) c call r v
  pub only : (ats ≡ []) ⊎ IsRevoke call

-- how far a step takes a call
abbrev pub Advances : World → World → Recorded → Recorded → ℕ → Call → Advanced → Type 0
Advances w v old new c call advanced.Went = (x : Inner) × Goes w v old new c call x
Advances w v old new c call (advanced.Ended a) = Ends w v old new c call a.reply

-- the call is answered, and not for want of memory
abbrev pub IsEnded : Advanced → Type 0
IsEnded advanced.Went = ⊥
IsEnded (advanced.Ended a) = is_no_memory a.reply ≡ false
