use Rattle.std.proofs.Common.{refl}
use Rattle.op_vector.proofs.ProperBox.{proper_box}
use Rattle.recycle.proofs.tests.a_rack_of_boxes_is_proper.Goals as goal

pub rack_of-requires-clause-null : goal.rack_of-requires-clause-null
rack_of-requires-clause-null g c = proper_box _ _ _ _ c.into_dyn_box.ensures.0 (λ y. refl) (λ y vd op. refl)

pub rack_of-requires-clause-both : goal.rack_of-requires-clause-both
rack_of-requires-clause-both g c = proper_box _ _ _ _ c.into_dyn_box-in_ok-new-2.ensures.0 (λ y. refl) (λ y vd op. refl)

pub rack_of-requires-clause-dead : goal.rack_of-requires-clause-dead
rack_of-requires-clause-dead g c = proper_box _ _ _ _ c.into_dyn_box-in_ok-new-3.ensures.0 (λ y. refl) (λ y vd op. refl)
