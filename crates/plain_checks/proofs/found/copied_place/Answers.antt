use Rattle.std.proofs.Common.{ap, sym, subst, ◌∙◌}
use Rattle.vfs_tree.specs.PlaceView.{seen}
use Rattle.call_model.specs.Checks.{copied_place, is_full, upper_store}
use Rattle.call_model.specs.declared.entry.Inner.TheVariants.{CopyUp}
use Rattle.plain_checks.specs.Coming.{Stops, stop_for}
use Rattle.plain_checks.proofs.Binding.{needs}
use Rattle.plain_checks.proofs.found.copied_place.Goals as goal

pub returns-in_ok-name-in-UnionLow : goal.returns-in_ok-name-in-UnionLow
returns-in_ok-name-in-UnionLow c =
    let w = c.args.world.now in
    let place = sym c.bare.view_is ∙ ap seen c.in-UnionLow.is in
    let what = ap (λ n. CopyUp c.in-UnionLow.mount c.in-UnionLow.dir n) c.in_ok-name-in-UnionLow.ensures.copy in
    let why = c.need_copy.ensures ∙ ap (stop_for (is_full w (upper_store w c.in-UnionLow.mount))) what in
    subst (λ r. Stops (copied_place w c.args.bare.now) r) (sym why) (subst (λ p. Stops (copied_place w p) (stop_for (is_full w (upper_store w c.in-UnionLow.mount)) (CopyUp c.in-UnionLow.mount c.in-UnionLow.dir c.in-UnionLow.name))) (sym place) (needs _ w _ _))
