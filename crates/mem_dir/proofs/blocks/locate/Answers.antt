use Rattle.mem_dir.proofs.Search.{place_found}
use Rattle.mem_dir.proofs.blocks.locate.Goals as goal

pub returns : goal.returns
returns c =
    place_found c.args.blocks.now c.block_of-block.result c.place-at.result c.args.name.now c.index-blocks-block.result c.index-blocks-block.is
    c.block_of-block.ensures.within c.block_of-block.ensures.from c.block_of-block.ensures.to
    c.place-at.ensures.within c.place-at.ensures.below c.place-at.ensures.from
