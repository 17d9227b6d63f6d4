-- Which lines may stand in a script.
use Rattle.std.specs.Prelude.{ℕ, ◌<◌, ◌≤◌, ◌^◌, suc, ℤ, pos, negsuc}
use Rattle.call_model.specs.declared.call.Call.{Call}
use Rattle.call_model.specs.declared.call.Call.TheVariants as call
use Rattle.call_model.specs.declared.call.Line.{Line}
use Rattle.script_text.specs.Word.{IsBytes}

-- a number up to 4,294,967,295
abbrev pub IsNumber : ℕ → Type 0
IsNumber n = n < 2 ^ 32

-- such a number, or one such below 0
abbrev pub IsOffset : ℤ → Type 0
IsOffset (pos n) = IsNumber n
IsOffset (negsuc n) = IsNumber (suc n)

-- the call has words: its numbers are such numbers, and its texts are bytes
abbrev pub FitsCall : Call → Type 0
FitsCall (call.Mkdir p) = IsBytes p
FitsCall (call.Rmdir p) = IsBytes p
FitsCall (call.Open p f) = IsBytes p
FitsCall (call.Close d) = IsNumber d
FitsCall (call.Read d n) = IsNumber d × IsNumber n
FitsCall (call.Pread d n o) = IsNumber d × IsNumber n × IsNumber o
FitsCall (call.Write d w) = IsNumber d × IsBytes w
FitsCall (call.Pwrite d o w) = IsNumber d × IsNumber o × IsBytes w
FitsCall (call.Lseek d h i) = IsNumber d × IsOffset i
FitsCall (call.Truncate p n) = IsBytes p × IsNumber n
FitsCall (call.Ftruncate d n) = IsNumber d × IsNumber n
FitsCall (call.Stat p) = IsBytes p
FitsCall (call.Lstat p) = IsBytes p
FitsCall (call.Fstat d) = IsNumber d
FitsCall (call.Readdir d) = IsNumber d
FitsCall (call.Unlink p) = IsBytes p
FitsCall (call.Rename a b) = IsBytes a × IsBytes b
FitsCall (call.Link a b) = IsBytes a × IsBytes b
FitsCall (call.Symlink t p) = IsBytes t × IsBytes p
FitsCall (call.Readlink p) = IsBytes p
FitsCall (call.Undelete p) = IsBytes p
FitsCall (call.Chdir p) = IsBytes p
FitsCall (call.Fchdir d) = IsNumber d
FitsCall (call.Statfs p) = IsBytes p
FitsCall (call.MountMem p) = IsBytes p
FitsCall (call.MountNull t p) = IsBytes t × IsBytes p
FitsCall (call.MountUnion u p) = IsBytes u × IsBytes p
FitsCall (call.Umount p) = IsBytes p
FitsCall (call.UmountForce p) = IsBytes p
FitsCall (call.Revoke p) = IsBytes p

-- the line may stand in a script of so many callers
pub record FitsLine (callers : ℕ) (line : Line) : Type 0 where
  pub first : 1 ≤ line.caller
  pub last : line.caller ≤ callers
  pub call : FitsCall line.call
