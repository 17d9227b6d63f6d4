use denote.Param.Send.{sendable}
use Rattle.std.proofs.alloc.Global.TheSendSync.{the_sync as alloc-sync}
use Rattle.vfs_core.proofs.Sending.{seat-send, vfs-sync}
use Rattle.vfs_cli.proofs.Sending.{plan-send}
use Rattle.vfs_cli.proofs.worker.work_all.Goals as goal

pub for_each_mut-requires-send-T : goal.for_each_mut-requires-send-T
for_each_mut-requires-send-T g c κs within = search (seat-send, plan-send, sendable) depth 30

pub for_each_mut-requires-sync-F : goal.for_each_mut-requires-sync-F
for_each_mut-requires-sync-F g c κs within = search (vfs-sync, alloc-sync, sendable) depth 60
