-- Numbers of at most 64 bits, as all are that the types hold: each has a text that no other number has.
use Rattle.std.specs.Prelude.{ℕ, ◌<◌, ◌^◌}
use Rattle.std.specs.Int.Signed.{mag}
use Rattle.call_model.specs.declared.call.Call.{Call}
use Rattle.call_model.specs.declared.call.Call.TheVariants as call
use Rattle.call_model.specs.declared.entry.Ref.{Ref}
use Rattle.call_model.specs.declared.entry.Ref.TheVariants as ref
use Rattle.call_model.specs.declared.entry.Inner.{Inner}
use Rattle.call_model.specs.declared.entry.Inner.TheVariants as inner
use Rattle.call_model.specs.declared.entry.Entry.{Entry}
use Rattle.call_model.specs.declared.entry.Entry.TheVariants as entry
use Rattle.call_model.specs.declared.reply.Reply.{Reply}
use Rattle.call_model.specs.declared.reply.Reply.TheVariants as reply

-- a number of at most 64 bits
abbrev pub IsBounded : ℕ → Type 0
IsBounded n = n < 2 ^ 64

-- the number of a reply, if it has one
abbrev pub IsBoundedReply : Reply → Type 0
IsBoundedReply (reply.Fd fd) = IsBounded fd
IsBoundedReply (reply.Count n) = IsBounded n
IsBoundedReply (reply.Offset at) = IsBounded at
IsBoundedReply (reply.Stat kind size) = IsBounded size
IsBoundedReply (reply.Fs mount kind) = IsBounded mount
IsBoundedReply _ = Unit {0}

-- the numbers of what is open
abbrev pub IsBoundedRef : Ref → Type 0
IsBoundedRef (ref.Fd caller fd) = IsBounded caller × IsBounded fd
IsBoundedRef (ref.Cwd caller) = IsBounded caller

-- the numbers of what happened in an inner entry
abbrev pub IsBoundedInner : Inner → Type 0
IsBoundedInner (inner.Shadow mount dir name) = IsBounded mount × IsBounded dir
IsBoundedInner (inner.CopyUp mount dir name) = IsBounded mount × IsBounded dir
IsBoundedInner (inner.Detach mount) = IsBounded mount
IsBoundedInner (inner.Doom at) = IsBoundedRef at

-- the numbers of a call; an offset has 64 bits with its sign
abbrev pub IsBoundedCall : Call → Type 0
IsBoundedCall (call.Close d) = IsBounded d
IsBoundedCall (call.Read d n) = IsBounded d × IsBounded n
IsBoundedCall (call.Pread d n o) = IsBounded d × IsBounded n × IsBounded o
IsBoundedCall (call.Write d w) = IsBounded d
IsBoundedCall (call.Pwrite d o w) = IsBounded d × IsBounded o
IsBoundedCall (call.Lseek d h i) = IsBounded d × (mag i < 2 ^ 63)
IsBoundedCall (call.Truncate p n) = IsBounded n
IsBoundedCall (call.Ftruncate d n) = IsBounded d × IsBounded n
IsBoundedCall (call.Fstat d) = IsBounded d
IsBoundedCall (call.Readdir d) = IsBounded d
IsBoundedCall (call.Fchdir d) = IsBounded d
IsBoundedCall _ = Unit {0}

-- the numbers of an entry
abbrev pub IsBoundedEntry : Entry → Type 0
IsBoundedEntry (entry.Call caller call reply) = IsBounded caller × IsBoundedCall call × IsBoundedReply reply
IsBoundedEntry (entry.Inner caller what) = IsBounded caller × IsBoundedInner what
