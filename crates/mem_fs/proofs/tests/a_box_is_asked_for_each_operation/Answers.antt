use Rattle.std.proofs.Common.{refl}
use Rattle.op_vector.proofs.ProperBox.{proper_box}
use Rattle.mem_fs.proofs.tests.a_box_is_asked_for_each_operation.Goals as goal

pub route_of-requires : goal.route_of-requires
route_of-requires g c = proper_box _ _ _ _ c.into_dyn_box.ensures.0 (λ y. refl) (λ y vd op. refl)
