use Rattle.std.proofs.Common.{refl, inl, inr}
use Rattle.script_text.proofs.BadLaws.{one_bad_line}
use Rattle.script_text.proofs.ScriptLaws.{one_script}
use Rattle.script_text.proofs.laws.texts_tell_scripts_apart.Goals as goal

pub returns-clause-printed : goal.returns-clause-printed
returns-clause-printed c = λ script. inl refl

pub returns-clause-spelled_out : goal.returns-clause-spelled_out
returns-clause-spelled_out c = λ script. inr refl

pub returns-clause-apart : goal.returns-clause-apart
returns-clause-apart c = one_script

pub returns-clause-one_bad_line : goal.returns-clause-one_bad_line
returns-clause-one_bad_line c = one_bad_line
