use Rattle.mem_fs.proofs.RoomMade.{room_in}
use Rattle.mem_fs.proofs.callers.cut.Goals as goal

pub cut-requires : goal.cut-requires
cut-requires c = room_in c.args.fs.now.reserved c.reserve_to.new.self.reserved c.args.ino c.args.len c.in_ok-reserve_to.ensures.room
