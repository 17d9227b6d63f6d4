use Rattle.std.proofs.Common.{◌∙◌, arith}
use Rattle.turn_lock.proofs.Calls.{counts_on, passes_on, left}
use Rattle.turn_lock.proofs.steps.give.Goals as goal

pub fetch_add-requires : goal.fetch_add-requires
fetch_add-requires g c =
    let e = c.exchange.ensures in (
      e.0 ∙ c.requires.own.0,
      (let z = c.requires.own.1 in omega (arith, z)),
      counts_on g.K.Kept.list g.K.Kept.fixed g.K.Kept.part (g.K.Kept.fixed c.args.words.now.key.of.value) c.args.words.now.key.numbers _ _ _ _ c.args.value c.args.added c.requires.may e.3 c.requires.added c.requires.fits,
    )

pub fetch_add-requires-2 : goal.fetch_add-requires-2
fetch_add-requires-2 g c =
    let e = c.exchange.ensures in
    let f = c.fetch_add.ensures in (
      f.0 ∙ (e.0 ∙ c.requires.own.0),
      (let z = c.requires.own.1 in omega (arith, z)),
      passes_on g.K.Kept.list g.K.Kept.fixed g.K.Kept.part (g.K.Kept.fixed c.args.words.now.key.of.value) c.args.words.now.key.numbers _ _ _ _ _ c.args.value c.requires.may e.3 f.2,
    )

pub returns-clause-left : goal.returns-clause-left
returns-clause-left g c = left g.K.Kept.list g.K.Kept.fixed g.K.Kept.part _ _ _ _ c.args.value c.requires.may c.exchange.ensures.3 c.fetch_add.ensures.2 c.fetch_add-2.ensures.2
