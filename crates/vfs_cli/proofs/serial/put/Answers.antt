use Rattle.std.proofs.Common.{refl}
use Rattle.vfs_cli.proofs.serial.put.Goals as goal

pub returns-in-Done : goal.returns-in-Done
returns-in-Done g c = c.in-Done.ensures.bytes

pub returns-in-Failed : goal.returns-in-Failed
returns-in-Failed g c = (c.in-Failed.ensures.bytes, c.in-Failed.ensures.cause refl)

pub returns-in-NoMemory : goal.returns-in-NoMemory
returns-in-NoMemory g c = c.in-NoMemory.ensures.bytes
