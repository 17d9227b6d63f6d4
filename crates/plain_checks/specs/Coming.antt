-- What a part of a call comes to, as the result of its function tells.
use Rattle.std.specs.Prelude.{◌≡◌, Bool, true, false, Result, Ok, Err}
use Rattle.vfs_tree.specs.declared.errno.Errno.TheVariants as errno
use Rattle.vfs_tree.specs.declared.walk.Step.TheVariants.{Go, Refuse, Wants}
use Rattle.vfs_tree.specs.declared.world.World.{World}
use Rattle.call_model.specs.Checks.{Doing, Outcome}
use Rattle.call_model.specs.declared.entry.Inner.{Inner}
use Rattle.call_model.specs.declared.reply.Reply.{Reply}
use Rattle.plain_checks.specs.declared.answer.Answer.{Answer}
use Rattle.plain_checks.specs.declared.stop.Stop.{Stop}
use Rattle.plain_checks.specs.declared.stop.Stop.TheVariants as stop

-- it goes no further for that reason; memory may always be wanting
abbrev pub Stops : {A : Type 0} → Doing A → Stop → Type 0
Stops s (stop.Refused e) = s ≡ Refuse e
Stops s (stop.Needs x) = s ≡ Wants x
Stops s stop.NoMemory = Unit {0}

-- it goes on with a value, or no further
abbrev pub Comes : {A : Type 0} → Doing A → Result A Stop → Type 0
Comes s (Ok a) = s ≡ Go a
Comes s (Err why) = Stops s why

-- the inner entry, or ENOSPC where the store has no number left for its node
abbrev pub stop_for : Bool → Inner → Stop
stop_for true x = stop.Refused errno.ENOSPC
stop_for false x = stop.Needs x

-- a call is answered, and leaves the world; where it goes no further the world is as it was
abbrev pub Answers : Outcome → World → World → Result Answer Stop → Type 0
Answers s old new (Ok a) = s ≡ Go (new, a.reply)
Answers s old new (Err why) = Stops s why × (new ≡ old)

-- an edit is made, or the world is as it was
abbrev pub Edits : {A : Type 0} → Doing World → World → World → Result A Stop → Type 0
Edits s old new (Ok a) = s ≡ Go new
Edits s old new (Err why) = Stops s why × (new ≡ old)

-- a part of a call that makes the reply
abbrev pub Replies : Doing Reply → Result Answer Stop → Type 0
Replies s (Ok a) = s ≡ Go a.reply
Replies s (Err why) = Stops s why
