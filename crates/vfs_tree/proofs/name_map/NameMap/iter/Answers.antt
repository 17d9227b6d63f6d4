use Rattle.std.proofs.Common.{ap, sym, ◌∙◌}
use Rattle.std.specs.FinMap as map
use Rattle.std.specs.Cmp.Lexicographic.{nat_list_cmp_total}
use Rattle.finite_maps.proofs.EntryLaws.{entries_given}
use Rattle.vfs_tree.proofs.name_map.NameMap.iter.Goals as goal

pub returns : goal.returns
returns g c = c.iter.ensures.rest ∙ sym (entries_given nat_list_cmp_total c.self.inside.tree.entries c.iter.ensures.ordered) ∙ ap (λ m. map.entries m) c.self.view_is
