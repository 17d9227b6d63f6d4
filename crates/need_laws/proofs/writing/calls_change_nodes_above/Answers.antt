use Rattle.need_laws.proofs.WriteLaws.{changes_above, changes_low, changes_lower}
use Rattle.need_laws.proofs.writing.calls_change_nodes_above.Goals as goal

pub returns-clause-stores : goal.returns-clause-stores
returns-clause-stores c = changes_above

pub returns-clause-low : goal.returns-clause-low
returns-clause-low c = changes_low

pub returns-clause-lower : goal.returns-clause-lower
returns-clause-lower c = changes_lower
