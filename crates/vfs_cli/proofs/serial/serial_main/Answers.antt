use Rattle.std.proofs.Common.{refl}
use Rattle.vfs_cli.proofs.ServingLaws.{serves_as}
use Rattle.vfs_cli.proofs.serial.serial_main.Goals as goal

pub returns : goal.returns
returns g c = serves_as _ _ _ _ _ refl c.status_of.ensures c.serve.ensures
