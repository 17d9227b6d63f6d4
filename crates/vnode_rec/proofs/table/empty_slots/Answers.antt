use Rattle.std.proofs.Common.{◌≡◌, ap, subst, sym, All, length, List, refl, arith, length-append, [], ◌∷◌}
use Rattle.std.proofs.lemmas.List.Elements.{All-push}
use Rattle.vnode_rec.specs.declared.slot.Slot.{Slot}
use Rattle.vnode_rec.specs.Vnodes.{empty_slot}
use Rattle.vnode_rec.proofs.table.empty_slots.Goals as goal

pub loop-preserved : goal.loop-preserved
loop-preserved g c =
    let e = c.in_ok-push.ensures.items in
    let was = c.loop.invariant.0 in
    let a = length-append c.loop.slots.items (empty_slot {X = g.row.B.Denot} 0 ∷ []) in
    let l = ap length e in (
      omega (arith, l, a, was),
      subst (λ (xs : List (Slot g.row.B.Denot)). All (λ slot. slot ≡ empty_slot 0) xs) (sym e) (All-push (λ (slot : Slot g.row.B.Denot). slot ≡ empty_slot 0) c.loop.slots.items (empty_slot 0) c.loop.invariant.1 refl),
    )
