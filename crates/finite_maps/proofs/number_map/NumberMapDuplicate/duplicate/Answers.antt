use Rattle.std.proofs.Common.{◌∙◌, ap}
use Rattle.std.specs.FinMap.{empty}
use Rattle.std.specs.Cmp.{nat_cmp_total}
use Rattle.std.proofs.lemmas.Map.Lookups.{exact_unsigned}
use Rattle.finite_maps.proofs.EntryLaws.{put_all, put_all-empty}
use Rattle.finite_maps.proofs.number_map.NumberMapDuplicate.duplicate.Goals as goal

pub loop-key-init : goal.loop-key-init
loop-key-init g c =
    let made = put_all-empty nat_cmp_total exact_unsigned c.self.inside.tree.entries c.iter-key-items.ensures.ordered ∙ c.self.view_is in
    (tt, tt, rw c.new-copy.ensures (ap (put_all empty) (c.into_iter-key-iterator.ensures.into_iter_gives ∙ c.iter-key-items.ensures.rest) ∙ made))
