use Rattle.std.proofs.Common.{◌∙◌}
use Rattle.name_bench.proofs.Names.{all_counted}
use Rattle.name_bench.proofs.rounds.round.Goals as goal

pub returns : goal.returns
returns c = c.find_each-found.ensures.found ∙ all_counted c.link_each.new.fs.store 1 c.args.file c.args.names.now c.in_ok-link_each.ensures
