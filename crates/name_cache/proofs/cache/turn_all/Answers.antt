use Rattle.std.proofs.Common.{length, refl, ◌∙◌, ◌<◌, arith}
use Rattle.name_cache.specs.Entries.{spares}
use Rattle.name_cache.proofs.Turns.{turning_more}
use Rattle.name_cache.proofs.cache.turn_all.Goals as goal

pub loop-turn-preserved : goal.loop-turn-preserved
loop-turn-preserved c =
    let es = c.args.entries.now.entries in
    let below : c.loop-turn._turn < length es = omega arith in
    (turning_more (spares c.args.vid) es _ _ c.loop-turn._turn (length es) refl below c.loop-turn.invariant.0 c.turn.ensures.entries, c.turn.ensures.cap ∙ c.loop-turn.invariant.1)
