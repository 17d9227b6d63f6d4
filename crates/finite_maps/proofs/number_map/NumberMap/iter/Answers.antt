use Rattle.std.proofs.Common.{ap, sym, ◌∙◌}
use Rattle.std.specs.FinMap as map
use Rattle.std.specs.Cmp.{nat_cmp_total}
use Rattle.finite_maps.proofs.EntryLaws.{entries_given}
use Rattle.finite_maps.proofs.number_map.NumberMap.iter.Goals as goal

pub returns : goal.returns
returns g c = c.iter.ensures.rest ∙ sym (entries_given nat_cmp_total c.self.inside.tree.entries c.iter.ensures.ordered) ∙ ap (λ m. map.entries m) c.self.view_is
