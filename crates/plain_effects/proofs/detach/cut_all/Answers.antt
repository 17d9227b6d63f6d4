use Rattle.std.proofs.Common.{◌∙◌, ◌≡◌, ap, arith}
use Rattle.std.specs.Cmp.{nat_cmp_total}
use Rattle.std.specs.FinMap.{entries}
use Rattle.std.proofs.lemmas.Map.Lookups.{exact_unsigned}
use Rattle.vfs_tree.specs.Mounts.{Mounts, cut_with}
use Rattle.vfs_tree.specs.declared.world.World.{World}
use Rattle.plain_effects.proofs.EachLaws.{changed_to, all_of}
use Rattle.plain_effects.proofs.DetachLaws.{more_cut}
use Rattle.plain_effects.proofs.detach.cut_all.Goals as goal

pub loop-at-preserved : goal.loop-at-preserved
loop-at-preserved c = (
  c.cut_at.ensures.rest ∙ ap (λ (x : World). record x { mounts = c.cut_at.new.world.mounts }) c.loop-at.invariant.0,
  more_cut c.args.world.now.mounts c.loop-at.world.mounts _ _ _ c.loop-at.invariant.1 c.cut_at.ensures.mounts,
)

pub returns : goal.returns
returns c =
    let last : c.loop-at.at ≡ c.len-at-end.result = omega arith in
    let m = c.args.world.now.mounts in
    let all = all_of nat_cmp_total exact_unsigned m c.loop-at.world.mounts _ (c.loop-at.invariant.1 ∙ ap (λ i. changed_to i (cut_with m c.args.mount) (entries m)) (last ∙ c.len-at-end.ensures.len)) in
    c.loop-at.invariant.0 ∙ ap (λ (x : Mounts). record c.args.world.now { mounts = x }) all
