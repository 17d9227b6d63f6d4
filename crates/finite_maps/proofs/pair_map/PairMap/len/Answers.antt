use Rattle.std.proofs.Common.{ap, sym, ◌∙◌, length}
use Rattle.std.specs.FinMap as map
use Rattle.finite_maps.proofs.EntryLaws.{entries_given, pair_total}
use Rattle.finite_maps.proofs.pair_map.PairMap.len.Goals as goal

pub returns-clause-len : goal.returns-clause-len
returns-clause-len g c =
    let m = c.self.inside.tree in
    c.len.ensures.len ∙ sym (ap length (entries_given pair_total m.entries c.len.ensures.ordered)) ∙ sym (map.len-entries (map.from_entries m.entries)) ∙ ap (λ x. map.len x) c.self.view_is
