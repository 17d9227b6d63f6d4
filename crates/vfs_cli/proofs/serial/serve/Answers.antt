use Rattle.std.proofs.Common.{ap, sym, refl, ◌∙◌}
use Rattle.std.specs.Prelude.{Some}
use Rattle.std.proofs.KnownBytes.{Appends-nil, Consumes-nil}
use Rattle.vfs_cli.proofs.EndLaws.{put_script, put_sum, same_command}
use Rattle.vfs_cli.proofs.serial.serve.Goals as goal

pub returns-in-Some-Run : goal.returns-in-Some-Run
returns-in-Some-Run g c = same_command _ _ _ _ (sym (ap Some c.in-Some-Run.field-0-is) ∙ c.in-Some-Run.ensures.command) c.run_script.ensures

pub returns-in-Some-Gen : goal.returns-in-Some-Gen
returns-in-Some-Gen g c =
    same_command _ _ _ _ (sym (ap Some c.in-Some-Gen.field-0-is) ∙ c.in-Some-Gen.ensures.command)
    (put_sum c.in-Some-Gen.seed c.in-Some-Gen.calls _ _ _ (Consumes-nil _) c.sum_up.ensures c.put_made.ensures)

pub returns-in-Some-Show : goal.returns-in-Some-Show
returns-in-Some-Show g c =
    same_command _ _ _ _ (sym (ap Some c.in-Some-Show.field-0-is) ∙ c.in-Some-Show.ensures.command)
    (put_script c.in-Some-Show.seed c.in-Some-Show.calls _ _ _ (Consumes-nil _) c.show.ensures c.put_made-in-Some-Show.ensures)

pub returns-in-None : goal.returns-in-None
returns-in-None g c = (sym c.in-None.ensures.command, Consumes-nil _, Appends-nil _)
