use Rattle.std.proofs.Common.{◌≡◌, ◌≤◌, ◌+◌, ◌-◌, map, drop}
use Rattle.script_text.specs.ReadScript.{lines_at}
use Rattle.script_text.proofs.Loop.{with_front}
use Rattle.script_text.proofs.reading.lines_of.Given as goal

abbrev pub invariant-loop-i : goal.invariant-loop-i
invariant-loop-i l = (with_front l.lines.items (lines_at l.callers l.left (l.first + (4096 - l.left)) (map (λ w. w.now) (drop l.i l.texts))) ≡ lines_at l.callers 4096 l.first (map (λ w. w.now) l.texts)) × (l.left ≤ 4096)
