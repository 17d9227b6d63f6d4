use Rattle.vfs_paths.specs.Turns.{turned}
use Rattle.vfs_paths.proofs.Outcomes.{leads}
use Rattle.vfs_paths.proofs.TurnLaws.{name_passed}
use Rattle.vfs_paths.proofs.turn.look_up.Goals as goal

pub returns-in_ok-child-in-Name : goal.returns-in_ok-child-in-Name
returns-in_ok-child-in-Name g c jump =
    let f = g.V.NameView.facts c.args.view.now in
    leads c.pass_child.result (turned f c.args.leaf jump c.args.rest.now) _ _
    (name_passed f c.args.leaf jump c.args.rest.now c.args.dir _ _ _ c.requires c.in_ok-child-in-Name.ensures c.in-Name.is) (c.pass_child.ensures jump)
