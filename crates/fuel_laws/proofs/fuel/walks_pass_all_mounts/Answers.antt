use Rattle.model_laws.proofs.FuelLaws.{whole_enter, whole_leave}
use Rattle.fuel_laws.proofs.fuel.walks_pass_all_mounts.Goals as goal

pub returns-clause-enter : goal.returns-clause-enter
returns-clause-enter c = whole_enter

pub returns-clause-leave : goal.returns-clause-leave
returns-clause-leave c = whole_leave
