-- Facts on the four lists of a rack.
use Rattle.std.proofs.Common.{All}
use Rattle.op_vector.specs.declared.data.VKind.{VKind}
use Rattle.op_vector.specs.declared.data.VKind.TheVariants.{Mem, Null, Union, Dead}
use Rattle.op_vector.specs.declared.rack.RackOf.{RackOf}
use Rattle.op_vector.specs.Rack.{boxes_of}

-- what holds of the boxes of each list holds of the boxes of every kind
pub by_lists : {B : Type 0} (P : VKind → B → Type 0) (rack : RackOf B) → All (P Mem) rack.mem.0 → All (P Null) rack.null.0 → All (P Union) rack.union_boxes.0 → All (P Dead) rack.dead.0
    → (kind : VKind) → All (P kind) (boxes_of kind rack)
by_lists P rack mem null unions dead Mem = mem
by_lists P rack mem null unions dead Null = null
by_lists P rack mem null unions dead Union = unions
by_lists P rack mem null unions dead Dead = dead
