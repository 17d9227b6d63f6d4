use Rattle.std.proofs.Common.{ap, sym, ◌∙◌}
use Rattle.std.specs.FinMap as map
use Rattle.std.specs.Cmp.Lexicographic.{nat_list_cmp_total}
use Rattle.finite_maps.proofs.EntryLaws.{get_given}
use Rattle.vfs_tree.proofs.name_map.NameMap.get.Goals as goal

pub returns : goal.returns
returns g c = c.get.ensures.value ∙ sym (get_given nat_list_cmp_total c.self.inside.tree.entries c.args.key.now) ∙ ap (λ m. map.get m c.args.key.now) c.self.view_is
