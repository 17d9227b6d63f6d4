use Rattle.std.proofs.Common.{◌∙◌, ◌≡◌, ap, arith}
use Rattle.std.specs.FinMap.{entries}
use Rattle.vfs_tree.specs.Place.{UnionUp}
use Rattle.call_model.specs.Effects.{turned_open}
use Rattle.finite_maps.proofs.EntryLaws.{pair_total, pair_exact}
use Rattle.plain_effects.proofs.EachLaws.{changed_to, more_changed, all_of}
use Rattle.plain_effects.proofs.turn.turn_opens.Goals as goal

pub loop-at-preserved : goal.loop-at-preserved
loop-at-preserved c = more_changed _ _ _ _ _ c.loop-at.invariant c.turn_at.ensures

pub returns : goal.returns
returns c =
    let last : c.loop-at.at ≡ c.len-at-end.result = omega arith in
    all_of pair_total pair_exact c.args.opens.now _ _ (c.loop-at.invariant ∙ ap (λ i. changed_to i (turned_open c.args.from.now (UnionUp c.args.mount c.args.ino)) (entries c.args.opens.now)) (last ∙ c.len-at-end.ensures.len))
