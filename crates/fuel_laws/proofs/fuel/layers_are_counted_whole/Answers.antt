use Rattle.model_laws.proofs.FuelLaws.{depth_mem, stores_mem, depth_null, stores_null, depth_union, stores_union}
use Rattle.fuel_laws.proofs.fuel.layers_are_counted_whole.Goals as goal

pub returns-clause-mem_depth : goal.returns-clause-mem_depth
returns-clause-mem_depth c = depth_mem

pub returns-clause-mem_stores : goal.returns-clause-mem_stores
returns-clause-mem_stores c = stores_mem

pub returns-clause-null_depth : goal.returns-clause-null_depth
returns-clause-null_depth c = depth_null

pub returns-clause-null_stores : goal.returns-clause-null_stores
returns-clause-null_stores c = stores_null

pub returns-clause-union_depth : goal.returns-clause-union_depth
returns-clause-union_depth c = depth_union

pub returns-clause-union_stores : goal.returns-clause-union_stores
returns-clause-union_stores c = stores_union
