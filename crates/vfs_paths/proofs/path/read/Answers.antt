use Rattle.std.proofs.Common.{sym, ap}
use Rattle.std.specs.Prelude.{Err}
use Rattle.vfs_paths.proofs.path.read.Goals as goal

pub returns-in-Err-Refused : goal.returns-in-Err-Refused
returns-in-Err-Refused c = sym ((c.in-Err-Refused.ensures.refused c.in-Err-Refused.errno).0 (ap Err c.in-Err-Refused.field-0-is))
