use Rattle.std.proofs.Common.{◌≡◌, ◌∙◌, subst}
use Rattle.std.specs.Prelude.{OnOk}
use Rattle.call_model.specs.DataRows.{open_place}
use Rattle.plain_checks.proofs.Binding.{stops}
use Rattle.plain_data.proofs.OpenLaws.{given_back, unmade}
use Rattle.plain_data.proofs.opening.open_made.Goals as goal

pub returns-clause-answered : goal.returns-clause-answered
returns-clause-answered c =
    let w = c.args.world.now in
    let held : c.hold.new.world ≡ open_place w c.args.caller c.args.fd c.args.flags c.in_ok-place.place =
    subst (λ r. OnOk r (c.hold.new.world ≡ open_place w c.args.caller c.args.fd c.args.flags c.in_ok-place.place)) c.in_ok-made.ensures.ok c.hold.ensures.ok in
    let why = c.in-Err.ensures.made in (
      stops _ _ c.in-Err.why (unmade w c.hold.new.world c.args.caller c.args.fd _ c.args.dir c.args.name _ c.in-Err.why held c.new.ensures why.0),
      given_back w c.make_at.new.world _ c.args.caller c.args.fd _ c.requires.free (why.1 ∙ held) c.remove.ensures.removed,
    )
