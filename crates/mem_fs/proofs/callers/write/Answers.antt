use Rattle.std.proofs.Common.{length, ◌+◌}
use Rattle.mem_fs.proofs.RoomMade.{room_in}
use Rattle.mem_fs.proofs.callers.write.Goals as goal

pub write_at-requires : goal.write_at-requires
write_at-requires c = room_in c.args.fs.now.reserved c.reserve_to.new.self.reserved c.args.ino (c.args.at + length c.args.bytes.now) c.in_ok-reserve_to.ensures.room
