use Rattle.std.proofs.Common.{◌∙◌, ap, sym}
use Rattle.std.specs.Prelude.{slice_get, option_map}
use Rattle.std.proofs.lemmas.Option.{slice_get-map}
use Rattle.vfs_tree.specs.declared.mount.Mount.{Mount}
use Rattle.mount_table.specs.declared.seat.Seat.{Seat}
use Rattle.mount_table.proofs.Order.{values_of}
use Rattle.mount_table.proofs.table.MountTable.at.Goals as goal

pub returns-in-Some : goal.returns-in-Some
returns-in-Some c =
    let mount : Seat → Mount = λ seat. seat.mount in
    let all = ap (λ ts. slice_get ts c.args.index) (values_of 0 c.self.inside.seats.items c.self.inside.next c.self.invariant.rising) ∙ slice_get-map mount c.self.inside.seats.items c.args.index in
    rw (← c.self.view_is) (sym (all ∙ ap (option_map mount) (sym (c.in-Some.ensures ∙ ap (λ seats. slice_get seats c.args.index) c.as_slice.ensures.value))))

pub returns-in-None : goal.returns-in-None
returns-in-None c =
    let mount : Seat → Mount = λ seat. seat.mount in
    let all = ap (λ ts. slice_get ts c.args.index) (values_of 0 c.self.inside.seats.items c.self.inside.next c.self.invariant.rising) ∙ slice_get-map mount c.self.inside.seats.items c.args.index in
    rw (← c.self.view_is) (sym (all ∙ ap (option_map mount) (sym (c.in-None.ensures ∙ ap (λ seats. slice_get seats c.args.index) c.as_slice.ensures.value))))
