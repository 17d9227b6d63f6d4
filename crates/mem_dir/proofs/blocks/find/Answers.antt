use Rattle.std.proofs.Common.{◌≡◌, length, arith}
use Rattle.mem_dir.proofs.Search.{answered, get_none}
use Rattle.mem_dir.proofs.blocks.find.Goals as goal

pub returns-then-is_empty : goal.returns-then-is_empty
returns-then-is_empty c =
    let none : length c.args.blocks.now ≡ 0 = grind arith in
    get_none c.args.blocks.now c.args.name.now none

pub returns : goal.returns
returns c =
    answered c.args.blocks.now c.locate-place.result.block c.locate-place.result.at c.args.name.now c.requires.rising c.requires.filled c.locate-place.ensures
    c.index-blocks-place.result c.index-blocks-place.is c.entry.result c.entry.ensures.some c.entry.ensures.none
