use Rattle.call_laws.proofs.WorkLaws.{work_fell}
use Rattle.call_laws.proofs.work.an_entry_uses_up_work.Goals as goal

pub returns : goal.returns
returns c = work_fell
