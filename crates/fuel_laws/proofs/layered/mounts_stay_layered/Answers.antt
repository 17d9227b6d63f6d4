use Rattle.fuel_laws.proofs.LayerLaws.{layered_start, layered_call, layered_inner, layered_history, layered_on, depth_history}
use Rattle.fuel_laws.proofs.layered.mounts_stay_layered.Goals as goal

pub returns-clause-start : goal.returns-clause-start
returns-clause-start c = layered_start

pub returns-clause-call : goal.returns-clause-call
returns-clause-call c = layered_call

pub returns-clause-inner : goal.returns-clause-inner
returns-clause-inner c = layered_inner

pub returns-clause-history : goal.returns-clause-history
returns-clause-history c = layered_history

pub returns-clause-history_on : goal.returns-clause-history_on
returns-clause-history_on c = layered_on

pub returns-clause-depth : goal.returns-clause-depth
returns-clause-depth c = depth_history
