use Rattle.std.proofs.Common.{ap, sym, ◌∙◌}
use Rattle.std.specs.FinMap as map
use Rattle.finite_maps.proofs.EntryLaws.{entries_given, pair_total}
use Rattle.finite_maps.proofs.pair_map.PairMap.iter.Goals as goal

pub returns : goal.returns
returns g c = c.iter.ensures.rest ∙ sym (entries_given pair_total c.self.inside.tree.entries c.iter.ensures.ordered) ∙ ap (λ m. map.entries m) c.self.view_is
