use Rattle.std.proofs.Common.{ap, sym, ◌∙◌, is_some}
use Rattle.std.specs.FinMap as map
use Rattle.std.specs.Cmp.{nat_cmp_total}
use Rattle.std.proofs.lemmas.Map.Lookups.{exact_unsigned}
use Rattle.finite_maps.proofs.EntryLaws.{get_given, insert_given}
use Rattle.finite_maps.proofs.number_map.NumberMap.try_insert.Goals as goal

pub returns-in-Ok-clause-before : goal.returns-in-Ok-clause-before
returns-in-Ok-clause-before g c = c.in-Ok.ensures.old ∙ sym (get_given nat_cmp_total c.self.inside.tree.entries c.args.key) ∙ ap (λ m. map.get m c.args.key) c.self.view_is

pub returns-in-Ok-clause-ok : goal.returns-in-Ok-clause-ok
returns-in-Ok-clause-ok g c =
    insert_given nat_cmp_total exact_unsigned c.self.inside.tree.entries c.insert.new.self.entries c.args.key c.args.value c.in-Ok.ensures.updates.0
    ∙ ap (λ m. map.insert m c.args.key c.args.value) c.self.view_is
