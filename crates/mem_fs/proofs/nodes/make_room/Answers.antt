use Rattle.mem_fs.proofs.Calls.{made_like, made_keeps, made_roomy}
use Rattle.mem_fs.proofs.nodes.make_room.Goals as goal

pub returns : goal.returns
returns c =
    let m = c.args.nodes.now in
    let n = c.reserve.new.nodes in
    record {
      like = made_like m n c.args.dir c.reserve.result c.reserve.ensures.ok c.reserve.ensures.err;
      keeps = made_keeps m n c.args.dir c.reserve.result c.reserve.ensures.ok c.reserve.ensures.err;
      room = made_roomy m n c.args.dir c.reserve.result c.reserve.ensures.ok;
    }
