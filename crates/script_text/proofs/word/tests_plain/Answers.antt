use Rattle.std.proofs.Common.{refl, lt-ltb, le-ltb, arith}
use Rattle.script_text.proofs.word.tests_plain.Goals as goal
use Rattle.script_text.proofs.word.tests_plain.Goals.{then-byte-gt32, else-byte-gt32}

pub returns-then-byte-lt127 : goal.returns-then-byte-lt127
returns-then-byte-lt127 c = rw (lt-ltb 32 c.args.byte c.if-byte-lt127.true.0, lt-ltb c.args.byte 127 c.if-byte-lt127.true.1) refl

pub returns-else-byte-lt127 : goal.returns-else-byte-lt127
returns-else-byte-lt127 c = elim c.if-byte-gt32.branch [
  | then-byte-gt32 w ↦ rw (w.t-3-is, lt-ltb 32 c.args.byte w.if-byte-gt32.true, le-ltb c.args.byte 127 (omega arith)) refl
  | else-byte-gt32 w ↦ rw (w.t-3-is, le-ltb 32 c.args.byte w.if-byte-gt32.false) refl
]
