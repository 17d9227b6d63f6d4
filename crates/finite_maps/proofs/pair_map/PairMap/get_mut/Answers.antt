use Rattle.std.proofs.Common.{ap, sym, ◌∙◌, refl, subst}
use Rattle.std.specs.Prelude.{IsSome}
use Rattle.std.specs.FinMap as fin
use Rattle.finite_maps.proofs.EntryLaws.{get_given, insert_given, pair_total, pair_exact}
use Rattle.finite_maps.proofs.pair_map.PairMap.get_mut.Goals as goal

pub returns : goal.returns
returns g c =
    let m = c.self.inside.tree.entries in
    let same = sym (get_given pair_total m c.args.key) ∙ ap (λ x. fin.get x c.args.key) c.self.view_is in (
      (
        refl,
        λ w there. insert_given pair_total pair_exact m (c.get_mut.follows.lender w).entries c.args.key w
            ((c.get_mut.follows.holds w).3 (subst IsSome (sym same) there)).0 ∙ ap (λ x. fin.insert x c.args.key w) c.self.view_is,
        ap (λ t. fin.from_entries t.entries) c.get_mut.follows.holds-at-none ∙ c.self.view_is,
      ),
      record { writes_back = tt; value = c.get_mut.ensures.value ∙ same },
    )
