use Rattle.std.proofs.Common.{sym}
use Rattle.vfs_cli.proofs.ServingLaws.{serves_as, serves_same}
use Rattle.vfs_cli.proofs.top.vfs_main.Goals as goal

pub returns-then-is_together : goal.returns-then-is_together
returns-then-is_together g c =
    let all = serves_as _ _ _ _ _ (sym (c.is_together.ensures.together c.if-is_together.true)) c.status_of.ensures c.run_threads.ensures in
    record { serves = all; headline = all.headline }

pub returns-else-is_together : goal.returns-else-is_together
returns-else-is_together g c =
    let all = serves_same _ _ _ _ (c.is_together.ensures.serial c.if-is_together.false) c.serial_main.ensures in
    record { serves = all; headline = all.headline }
