use Rattle.std.proofs.Common.{◌≡◌, map}
use Rattle.std.specs.List.{range_with_len}
use Rattle.script_text.specs.Generator.{gen_line}
use Rattle.script_text.proofs.generator.gen_script.Given as goal

abbrev pub invariant-loop-j : goal.invariant-loop-j
invariant-loop-j l = l.lines.items ≡ map (gen_line l.seed) (range_with_len 0 l.j)
