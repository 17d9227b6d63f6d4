-- A rack of boxes: the list of each kind, its room, and which racks are in order.
use Rattle.std.specs.Prelude.{ℕ, ◌≡◌, List, All}
use Rattle.op_vector.specs.declared.data.VKind.{VKind}
use Rattle.op_vector.specs.declared.data.VKind.TheVariants.{Mem, Null, Union, Dead}
use Rattle.op_vector.specs.declared.data.VData.{VData}
use Rattle.op_vector.specs.declared.data.Route.{Route}
use Rattle.op_vector.specs.declared.data.Op.{Op}
use Rattle.op_vector.specs.declared.rack.RackOf.{RackOf}
use Rattle.op_vector.specs.Routes.{routes_of}

module _ {B : Type 0} where
  -- the list of a kind, with its room
  abbrev pub shelf_of : VKind → RackOf B → List B × ℕ
  shelf_of Mem rack = rack.mem
  shelf_of Null rack = rack.null
  shelf_of Union rack = rack.union_boxes
  shelf_of Dead rack = rack.dead

  -- the boxes of a kind's list
  abbrev pub boxes_of : VKind → RackOf B → List B
  boxes_of kind rack = (shelf_of kind rack).0

  -- how many boxes a kind's list has room for
  abbrev pub room_of : VKind → RackOf B → ℕ
  room_of kind rack = (shelf_of kind rack).1

  -- the rack with other boxes in a kind's list
  abbrev pub with_boxes : VKind → List B → RackOf B → RackOf B
  with_boxes Mem boxes rack = record rack { mem = (boxes, rack.mem.1) }
  with_boxes Null boxes rack = record rack { null = (boxes, rack.null.1) }
  with_boxes Union boxes rack = record rack { union_boxes = (boxes, rack.union_boxes.1) }
  with_boxes Dead boxes rack = record rack { dead = (boxes, rack.dead.1) }

  -- all boxes are of this kind
  abbrev pub AreOf : (B → VKind) → VKind → List B → Type 0
  AreOf vkind kind boxes = All (λ b. vkind b ≡ kind) boxes

  -- each box stands in the list of its kind
  pub record IsByKind (vkind : B → VKind) (rack : RackOf B) : Type 0 where
    pub mem : AreOf vkind Mem (boxes_of Mem rack)
    pub null : AreOf vkind Null (boxes_of Null rack)
    pub unions : AreOf vkind Union (boxes_of Union rack)
    pub dead : AreOf vkind Dead (boxes_of Dead rack)

  -- a box of this kind with the routes of its kind
  pub record IsProperBox (vkind : B → VKind) (routes : B → VData → Op → Route) (kind : VKind) (b : B) : Type 0 where
    pub is_kind : vkind b ≡ kind
    pub answers : (vd : VData) (op : Op) → routes b vd op ≡ routes_of kind vd op

  -- each box is of its list's kind and has the routes of that kind
  abbrev pub IsProper : (B → VKind) → (B → VData → Op → Route) → RackOf B → Type 0
  IsProper vkind routes rack = (kind : VKind) → All (λ b. IsProperBox vkind routes kind b) (boxes_of kind rack)
