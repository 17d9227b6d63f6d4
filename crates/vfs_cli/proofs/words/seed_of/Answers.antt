use Rattle.vfs_cli.proofs.Seeds.{seed_is}
use Rattle.vfs_cli.proofs.words.seed_of.Goals as goal

pub returns : goal.returns
returns c = seed_is c.args.word.now c.seed_in.result c.seed_in.ensures.small c.seed_in.ensures.found c.seed_in.ensures.none
