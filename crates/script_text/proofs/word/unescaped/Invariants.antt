use Rattle.std.proofs.Common.{◌≡◌, ◌++◌, drop}
use Rattle.script_text.specs.ReadWord.{bytes_from}
use Rattle.script_text.specs.declared.word.Escape.TheVariants.{Outside}
use Rattle.script_text.proofs.word.unescaped.Given as goal

abbrev pub invariant-loop-c : goal.invariant-loop-c
invariant-loop-c l = l.bytes.items ++ bytes_from l.escape (drop l.c-index l.word) ≡ bytes_from Outside l.word
