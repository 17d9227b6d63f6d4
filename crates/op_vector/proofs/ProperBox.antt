-- What a vector keeps when it is boxed.
use Rattle.std.proofs.Common.{◌≡◌, sym, subst, Global}
use Rattle.std.specs.declared.dyn_box.DynBox.{DynBox}
use Rattle.op_vector.specs.declared.data.VKind.{VKind}
use Rattle.op_vector.specs.declared.data.VData.{VData}
use Rattle.op_vector.specs.declared.data.Route.{Route}
use Rattle.op_vector.specs.declared.data.Op.{Op}
use Rattle.op_vector.specs.Routes.{routes_of}
use Rattle.op_vector.specs.Rack.{IsProperBox}

module _ {I : Type 0} {F : I → Type 0} where
  -- a box with the vtable i and the value y
  abbrev with_value : DynBox I Global F → (i : I) → F i → DynBox I Global F
  with_value b i y = record { ptr = b.ptr; vtable = i; alloc = b.alloc; value = y }

  -- a box with the vtable of a type is proper where each value of that type is of the kind and has the kind's routes
  pub proper_box : (vkind : DynBox I Global F → VKind) (routes : DynBox I Global F → VData → Op → Route) (kind : VKind) (b : DynBox I Global F) {at : I} → b.vtable ≡ at
      → ((y : F at) → vkind (with_value b at y) ≡ kind) → ((y : F at) (vd : VData) (op : Op) → routes (with_value b at y) vd op ≡ routes_of kind vd op)
      → IsProperBox vkind routes kind b
  proper_box vkind routes kind b is kinds answers = record {
    is_kind = subst (λ i. (y : F i) → vkind (with_value b i y) ≡ kind) (sym is) kinds b.value;
    answers = subst (λ i. (y : F i) (vd : VData) (op : Op) → routes (with_value b i y) vd op ≡ routes_of kind vd op) (sym is) answers b.value;
  }
