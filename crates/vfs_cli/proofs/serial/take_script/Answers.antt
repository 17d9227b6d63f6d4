use Rattle.std.proofs.Common.{ap, refl, sym, subst, Err}
use Rattle.std.proofs.KnownBytes.{Appends-nil}
use Rattle.script_text.specs.BadLine.{IsBadLine}
use Rattle.script_text.specs.Script.{IsTextOf}
use Rattle.vfs_cli.specs.Outcome.{effects, reading, writing}
use Rattle.vfs_cli.specs.declared.words.Command.TheVariants.{Run}
use Rattle.vfs_cli.proofs.EndLaws.{bad_line, lacking, read_fault, too_long}
use Rattle.vfs_cli.proofs.serial.take_script.Goals as goal

pub returns-in-TooLong : goal.returns-in-TooLong
returns-in-TooLong g c = λ turns. too_long turns (effects (reading g.S.Source.left g.S.Source.faults c.args.source.now c.read_to_end.new.source) (writing g.K.Sink.written g.K.Sink.faults c.args.sink.now c.args.sink.now)) c.in-TooLong.ensures.bytes (Appends-nil _)

pub returns-in-Failed : goal.returns-in-Failed
returns-in-Failed g c = λ turns. read_fault turns (effects (reading g.S.Source.left g.S.Source.faults c.args.source.now c.read_to_end.new.source) (writing g.K.Sink.written g.K.Sink.faults c.args.sink.now c.args.sink.now)) c.in-Failed.ensures.bytes (c.in-Failed.ensures.cause refl) (Appends-nil _)

pub returns-in-NoMemory : goal.returns-in-NoMemory
returns-in-NoMemory g c = λ turns. lacking (Run turns) (effects (reading g.S.Source.left g.S.Source.faults c.args.source.now c.read_to_end.new.source) (writing g.K.Sink.written g.K.Sink.faults c.args.sink.now c.args.sink.now)) c.in-NoMemory.ensures.bytes (Appends-nil _)

pub returns-in-Ok : goal.returns-in-Ok
returns-in-Ok g c =
    let all = c.in-All.ensures.bytes in
    let found = c.in-Ok.ensures.found in (
      record {
        can = found.0;
        bytes = c.in-All.bytes.items;
        spelled = subst (IsTextOf c.in-Ok.script) c.deref.ensures.value found.1;
        all = record { few = all.0; taken = all.1; whole = all.2 };
      },
      record { written = refl; faults = refl },
    )

pub returns-in-Err-BadLine : goal.returns-in-Err-BadLine
returns-in-Err-BadLine g c =
    let bad = subst (λ bytes. IsBadLine bytes c.in-Err-BadLine.line) c.deref.ensures.value (c.in-Err-BadLine.ensures.bad c.in-Err-BadLine.line (ap Err c.in-Err-BadLine.field-0-is)) in
    let all = c.in-All.ensures.bytes in
    let its = subst (λ n. IsBadLine c.in-All.bytes.items n) (sym c.in-Err-BadLine.line-is) bad in
    λ turns. bad_line turns _ _ _ c.in-All.bytes.items (record { few = all.0; taken = all.1; whole = all.2 }) its c.tell_bad_line.ensures

pub returns : goal.returns
returns g c =
    let all = c.in-All.ensures.bytes in
    λ turns. lacking (Run turns) (effects (reading g.S.Source.left g.S.Source.faults c.args.source.now c.read_to_end.new.source) (writing g.K.Sink.written g.K.Sink.faults c.args.sink.now c.args.sink.now)) (c.in-All.bytes.items, all.0, all.1) (Appends-nil _)
