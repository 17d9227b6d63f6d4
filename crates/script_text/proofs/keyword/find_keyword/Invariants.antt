use Rattle.std.proofs.Common.{◌≡◌, drop}
use Rattle.script_text.specs.Keyword.{find_keyword}
use Rattle.script_text.proofs.keyword.find_keyword.Given as goal

abbrev pub invariant-loop-keyword : goal.invariant-loop-keyword
invariant-loop-keyword l = find_keyword l.word (drop l.keyword-index l.keywords) ≡ find_keyword l.word l.keywords
