-- Calls that change no name and no mount, make no node, and open nothing by a path.
use Rattle.call_model.specs.declared.call.Call.{Call}
use Rattle.call_model.specs.declared.call.Call.TheVariants as call

abbrev pub IsQuiet : Call → Type 0
IsQuiet (call.Close d) = Unit {0}
IsQuiet (call.Read d n) = Unit {0}
IsQuiet (call.Pread d n o) = Unit {0}
IsQuiet (call.Lseek d h i) = Unit {0}
IsQuiet (call.Write d bytes) = Unit {0}
IsQuiet (call.Pwrite d o bytes) = Unit {0}
IsQuiet (call.Truncate p n) = Unit {0}
IsQuiet (call.Ftruncate d n) = Unit {0}
IsQuiet (call.Stat p) = Unit {0}
IsQuiet (call.Lstat p) = Unit {0}
IsQuiet (call.Fstat d) = Unit {0}
IsQuiet (call.Readdir d) = Unit {0}
IsQuiet (call.Readlink p) = Unit {0}
IsQuiet (call.Fchdir d) = Unit {0}
IsQuiet (call.Statfs p) = Unit {0}
IsQuiet (call.Revoke p) = Unit {0}
IsQuiet _ = ⊥
