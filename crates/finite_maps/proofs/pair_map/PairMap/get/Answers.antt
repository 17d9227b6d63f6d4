use Rattle.std.proofs.Common.{ap, sym, ◌∙◌}
use Rattle.std.specs.FinMap as map
use Rattle.finite_maps.proofs.EntryLaws.{get_given, pair_total}
use Rattle.finite_maps.proofs.pair_map.PairMap.get.Goals as goal

pub returns : goal.returns
returns g c = c.get.ensures.value ∙ sym (get_given pair_total c.self.inside.tree.entries c.args.key) ∙ ap (λ m. map.get m c.args.key) c.self.view_is
