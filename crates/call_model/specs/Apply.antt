-- What a call answers in a world, and the world that it leaves.
use Rattle.std.specs.Prelude.{ℕ}
use Rattle.vfs_tree.specs.declared.walk.Step.TheVariants.{Go, Refuse, Wants}
use Rattle.vfs_tree.specs.declared.world.World.{World}
use Rattle.call_model.specs.Checks.{Outcome}
use Rattle.call_model.specs.Rows.{row}
use Rattle.call_model.specs.declared.call.Call.{Call}
use Rattle.call_model.specs.declared.entry.Inner.{Inner}
use Rattle.call_model.specs.declared.reply.Reply.{Reply}
use Rattle.call_model.specs.declared.reply.Reply.TheVariants as reply

-- what `apply` answers: the world that the call leaves and its reply, or the inner entry that it needs
pub data Applied : Type 0 where
  Finished : World → Reply → Applied
  Needs : Inner → Applied

-- a refusal leaves the world
abbrev pub settle : World → Outcome → Applied
settle w (Go r) = Finished r.0 r.1
settle w (Refuse e) = Finished w (reply.Fail e)
settle w (Wants x) = Needs x

-- what a call of a caller answers in a world
abbrev pub apply : World → ℕ → Call → Applied
apply w c call = settle w (row w c call)
