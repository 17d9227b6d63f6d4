use Rattle.std.proofs.Common.{ap, sym, ◌∙◌, length}
use Rattle.std.specs.FinMap as map
use Rattle.std.specs.Cmp.{nat_cmp_total}
use Rattle.finite_maps.proofs.EntryLaws.{entries_given}
use Rattle.finite_maps.proofs.number_map.NumberMap.len.Goals as goal

pub returns-clause-len : goal.returns-clause-len
returns-clause-len g c =
    let m = c.self.inside.tree in
    c.len.ensures.len ∙ sym (ap length (entries_given nat_cmp_total m.entries c.len.ensures.ordered)) ∙ sym (map.len-entries (map.from_entries m.entries)) ∙ ap (λ x. map.len x) c.self.view_is
