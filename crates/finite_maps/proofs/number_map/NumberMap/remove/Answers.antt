use Rattle.std.proofs.Common.{ap, sym, ◌∙◌}
use Rattle.std.specs.FinMap as map
use Rattle.std.specs.Cmp.{nat_cmp_total}
use Rattle.std.proofs.lemmas.Map.Lookups.{exact_unsigned}
use Rattle.finite_maps.proofs.EntryLaws.{get_given, remove_given}
use Rattle.finite_maps.proofs.number_map.NumberMap.remove.Goals as goal

pub returns-clause-before : goal.returns-clause-before
returns-clause-before g c = c.remove.ensures.value ∙ sym (get_given nat_cmp_total c.self.inside.tree.entries c.args.key) ∙ ap (λ m. map.get m c.args.key) c.self.view_is

pub returns-clause-removed : goal.returns-clause-removed
returns-clause-removed g c =
    remove_given nat_cmp_total exact_unsigned c.self.inside.tree.entries c.remove.new.self.entries c.args.key c.remove.ensures.updates.0
    ∙ ap (λ m. map.remove m c.args.key) c.self.view_is
