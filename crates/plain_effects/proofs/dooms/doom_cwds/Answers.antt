use Rattle.std.proofs.Common.{◌∙◌, ◌≡◌, ap, arith}
use Rattle.std.specs.FinMap.{entries}
use Rattle.call_model.specs.Effects.{doomed_cwd}
use Rattle.std.specs.Cmp.{nat_cmp_total}
use Rattle.std.proofs.lemmas.Map.Lookups.{exact_unsigned}
use Rattle.plain_effects.proofs.EachLaws.{changed_to, more_changed, all_of}
use Rattle.plain_effects.proofs.dooms.doom_cwds.Goals as goal

pub loop-at-preserved : goal.loop-at-preserved
loop-at-preserved c = more_changed _ _ _ _ _ c.loop-at.invariant c.doom_cwd_at.ensures

pub returns : goal.returns
returns c =
    let last : c.loop-at.at ≡ c.len-at-end.result = omega arith in
    all_of nat_cmp_total exact_unsigned c.args.cwds.now _ _ (c.loop-at.invariant ∙ ap (λ i. changed_to i (doomed_cwd c.args.place.now) (entries c.args.cwds.now)) (last ∙ c.len-at-end.ensures.len))
