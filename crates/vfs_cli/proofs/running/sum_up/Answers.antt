use Rattle.std.proofs.Common.{subst}
use Rattle.std.specs.Prelude.{IfOk}
use Rattle.script_text.specs.declared.script.Script.{Script}
use Rattle.vfs_cli.specs.Output.{Sums}
use Rattle.vfs_cli.specs.declared.words.Turns.TheVariants.{Scattered}
use Rattle.vfs_cli.proofs.RunLaws.{generated_is}
use Rattle.vfs_cli.proofs.running.sum_up.Goals as goal

pub returns : goal.returns
returns c =
    subst (λ (s : Script). IfOk c.summary_of.result (Sums s)) (generated_is c.args.seed c.args.calls c.in_ok-script.script c.in_ok-script.ensures.lines c.in_ok-script.ensures.limits)
    (c.summary_of.ensures (Scattered c.args.seed) c.in_ok-script.script c.in_ok-kern.ensures)
