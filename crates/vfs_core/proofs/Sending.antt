-- Threads may share a kernel, and have seats of their own: what these hold, down to the names of a world, may go to another thread.
use denote.Struct.Declared.{shape}
use denote.Param.Send.{IsSend, IsSync, recorded_send, sendable, struct_send}
use Rattle.std.proofs.Crossing.{crosses}
use Rattle.std.proofs.MapsCrossing.{crosses as maps}
use Rattle.vfs_tree.proofs.bytes.ByteBuffer.TheSendSync.{the_send as buffer-send}
use Rattle.vfs_tree.proofs.place.Place.TheLaws.TheKnot.{crosses as places}
use Rattle.vfs_tree.specs.contracts.world.World as World
use Rattle.call_model.proofs.call.Call.TheSendSync.{the_send as call-send}
use Rattle.call_model.proofs.history.History.TheSendSync.{the_send as history-send}
use Rattle.turn_lock.proofs.lock.TurnLock.TheSendSync.{the_sync as lock-sync}
use Rattle.turn_lock.proofs.pass.Pass.TheSendSync.{the_send as pass-send}
use Rattle.vfs_core.specs.contracts.kern.Kern as Kern
use Rattle.vfs_core.specs.contracts.kern.Kern.TheInside as KernInside
use Rattle.vfs_core.specs.contracts.ledger.Ledger as Ledger
use Rattle.vfs_core.specs.contracts.ledger.Ledger.TheInside as LedgerInside
use Rattle.vfs_core.specs.contracts.seat.Seat as Seat
use Rattle.vfs_core.specs.contracts.seat.Seat.TheInside as SeatInside
use Rattle.vfs_core.specs.contracts.vfs.Vfs as Vfs
use Rattle.vfs_core.specs.contracts.vfs.Vfs.TheInside as VfsInside

-- ---- the kernel

world-send : IsSend World.the_field.row
world-send = search (maps, crosses, places, sendable) depth 60 fits 20000

ledger-inside-send : IsSend LedgerInside.the_row
ledger-inside-send = search (history-send, sendable) depth 30

ledger-send : IsSend Ledger.the_row
ledger-send = search (ledger-inside-send, sendable) depth 10

-- each field by itself, since a search for all of them takes too many steps
kern-inside-send : IsSend KernInside.the_row
kern-inside-send =
    recorded_send KernInside.the_field.row _ _ KernInside.the_type.to_one
    (struct_send (shape KernInside.the_type) (
      search sendable depth 20,
      (
        world-send,
        (
          search (ledger-send, sendable) depth 20,
          (
            search (call-send, maps, crosses, sendable) depth 20,
            (
              search (buffer-send, maps, crosses, sendable) depth 30,
              (
                search (crosses, sendable) depth 20,
                tt,
              ),
            ),
          ),
        ),
      ),
    ))

kern-send : IsSend Kern.the_row
kern-send = search (kern-inside-send, sendable) depth 10

-- ---- what threads share and own

vfs-inside-sync : IsSync VfsInside.the_row
vfs-inside-sync = search (lock-sync, kern-send, sendable, crosses) depth 30

pub vfs-sync : IsSync Vfs.the_row
vfs-sync = search (vfs-inside-sync, sendable) depth 10

seat-inside-send : IsSend SeatInside.the_row
seat-inside-send = search (pass-send, kern-send, sendable, crosses) depth 30

pub seat-send : IsSend Seat.the_row
seat-send = search (seat-inside-send, sendable) depth 10
