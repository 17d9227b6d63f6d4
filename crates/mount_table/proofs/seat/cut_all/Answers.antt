use Rattle.std.proofs.Common.{◌≡◌, ◌<◌, ◌+◌, ◌||◌, ◌==◌, true, false, ◌∙◌, ap, sym, subst, length, take, drop, get_or, map, arith}
use Rattle.std.proofs.lemmas.List.{get_or_default, set-get_or}
use Rattle.vfs_tree.specs.Mounts.{is_of}
use Rattle.mount_table.specs.declared.seat.Seat.{Seat}
use Rattle.mount_table.specs.Seats.{mounts_in, cut_seat}
use Rattle.mount_table.proofs.Cuts.{changed_more, cut_is, cut_not, layers_cut}
use Rattle.mount_table.proofs.Layers.{stands_alike}
use Rattle.mount_table.proofs.seat.cut_all.Goals as goal
use Rattle.mount_table.proofs.seat.cut_all.Goals.{then-is_of, else-is_of}

pub loop-at-preserved : goal.loop-at-preserved
loop-at-preserved c =
    let m = c.args.number in
    let old = c.args.seats.now in
    let mounts = mounts_in old in
    let now = c.loop-at.seats in
    let i = c.loop-at.at in
    let d = c.index-seats-at.result in
    let here = get_or now i d in
    let within : i < length now = omega arith in
    let told : c.is_of.result ≡ is_of mounts m here.mount.number = c.is_of.ensures ∙ ap (λ b. (here.mount.number == m) || b) (stands_alike now old here.mount.number m c.loop-at.invariant.layers) in
    elim c.if-is_of.branch [
      | then-is_of w ↦ (
          let e = w.index-seats-at-then-is_of.result in
          let same : here ≡ get_or now i e = get_or_default now i d e within in
          let yes : is_of mounts m (get_or now i e).mount.number ≡ true = ap (λ s. is_of mounts m s.mount.number) (sym same) ∙ (sym told ∙ w.if-is_of.true) in
          let next : Seat = record (get_or now i e) { mount = record (get_or now i e).mount { cut = true } } in
          let is : next ≡ cut_seat mounts m (get_or now i e) = sym (cut_is mounts m (get_or now i e) yes) in
          let more = changed_more (cut_seat mounts m) now old i e next within c.loop-at.invariant.front c.loop-at.invariant.back is in
          rw w.seats-is (record { front = more.0; back = more.1; layers = layers_cut mounts m now i e next is ∙ c.loop-at.invariant.layers }))
      | else-is_of w ↦ (
          let no : is_of mounts m here.mount.number ≡ false = sym told ∙ w.if-is_of.false in
          let is : here ≡ cut_seat mounts m here = sym (cut_not mounts m here no) in
          let more = changed_more (cut_seat mounts m) now old i d here within c.loop-at.invariant.front c.loop-at.invariant.back is in
          let front = subst (λ l. take (i + 1) l ≡ map (cut_seat mounts m) (take (i + 1) old)) (set-get_or now i d) more.0 in
          let back = subst (λ l. drop (i + 1) l ≡ drop (i + 1) old) (set-get_or now i d) more.1 in
          rw w.seats-is (record { front = front; back = back; layers = c.loop-at.invariant.layers }))
    ]
