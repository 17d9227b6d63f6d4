-- A rack of few vectors that is proper.
use Rattle.std.proofs.Common.{◌≡◌, sym, subst, [], ◌∷◌, All}
use Rattle.std.proofs.lemmas.List.Elements.{All-cons, All-nil}
use Rattle.op_vector.specs.declared.data.VKind.{VKind}
use Rattle.op_vector.specs.declared.data.VKind.TheVariants.{Mem, Null, Union, Dead}
use Rattle.op_vector.specs.declared.data.VData.{VData}
use Rattle.op_vector.specs.declared.data.Route.{Route}
use Rattle.op_vector.specs.declared.data.Op.{Op}
use Rattle.op_vector.specs.declared.rack.RackOf.{RackOf}
use Rattle.op_vector.specs.Rack.{boxes_of, IsProper, IsProperBox}
use Rattle.op_vector.proofs.Lists.{by_lists}

module _ {B : Type 0} (vkind : B → VKind) (routes : B → VData → Op → Route) where
  -- a rack of one proper vector of each kind but the first
  pub proper_rack : (rack : RackOf B) (null both dead : B) → boxes_of Mem rack ≡ [] → boxes_of Null rack ≡ null ∷ [] → boxes_of Union rack ≡ both ∷ [] → boxes_of Dead rack ≡ dead ∷ []
      → IsProperBox vkind routes Null null → IsProperBox vkind routes Union both → IsProperBox vkind routes Dead dead → IsProper vkind routes rack
  proper_rack rack null both dead no_mem is_null is_both is_dead a b c = (
      let Q = IsProperBox vkind routes in
      by_lists Q rack
      (subst (All (Q Mem)) (sym no_mem) (All-nil (Q Mem)))
      (subst (All (Q Null)) (sym is_null) (All-cons (Q Null) null [] a (All-nil (Q Null))))
      (subst (All (Q Union)) (sym is_both) (All-cons (Q Union) both [] b (All-nil (Q Union))))
      (subst (All (Q Dead)) (sym is_dead) (All-cons (Q Dead) dead [] c (All-nil (Q Dead))))
      )
