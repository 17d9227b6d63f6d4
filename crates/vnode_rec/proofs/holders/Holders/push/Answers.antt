use Rattle.std.proofs.Common.{◌≡◌, ◌<◌, ◌+◌, sym, subst, ap, ◌∙◌, ◌++◌, ◌∷◌, [], List, length, slice_index, slice_set}
use Rattle.op_vector.specs.declared.data.Vid.{Vid}
use Rattle.vnode_rec.specs.Holders.{Held, row_in, weight}
use Rattle.vnode_rec.proofs.Counts.{use_raise, hold_raise, took, row_of}
use Rattle.vnode_rec.proofs.holders.Holders.push.Goals as goal

pub raise-requires-clause-small : goal.raise-requires-clause-small
raise-requires-clause-small c =
    let f = c.self.inside in
    let ir : c.args.row < length f.rows.items = subst (λ (v : Held). c.args.row < length v.rows) (sym c.self.view_is) c.requires.there in
    let room : length (row_in f.rows.items c.args.row) < 9 = subst (λ (v : Held). length (row_in v.rows c.args.row) < 9) (sym c.self.view_is) c.requires.room in
    let below : c.args.vid.slot < length f.hold_counts.items = subst (λ (v : Held). c.args.vid.slot < v.slots) (sym c.self.view_is) c.requires.below in
    rw c.weight.ensures (use_raise f.rows.items f.uses f.use_counts.items f.hold_counts.items c.self.invariant c.args.row c.args.vid ir room below)

pub raise-requires-2-clause-small : goal.raise-requires-2-clause-small
raise-requires-2-clause-small c =
    let f = c.self.inside in
    let ir : c.args.row < length f.rows.items = subst (λ (v : Held). c.args.row < length v.rows) (sym c.self.view_is) c.requires.there in
    let room : length (row_in f.rows.items c.args.row) < 9 = subst (λ (v : Held). length (row_in v.rows c.args.row) < 9) (sym c.self.view_is) c.requires.room in
    let below : c.args.vid.slot < length f.hold_counts.items = subst (λ (v : Held). c.args.vid.slot < v.slots) (sym c.self.view_is) c.requires.below in
    hold_raise f.rows.items f.uses f.use_counts.items f.hold_counts.items c.self.invariant c.args.row c.args.vid ir room below

pub invariant_of-self : goal.invariant_of-self
invariant_of-self c =
    let f = c.self.inside in
    let ir : c.args.row < length f.rows.items = subst (λ (v : Held). c.args.row < length v.rows) (sym c.self.view_is) c.requires.there in
    let room : length (row_in f.rows.items c.args.row) < 9 = subst (λ (v : Held). length (row_in v.rows c.args.row) < 9) (sym c.self.view_is) c.requires.room in
    let below : c.args.vid.slot < length f.hold_counts.items = subst (λ (v : Held). c.args.vid.slot < v.slots) (sym c.self.view_is) c.requires.below in
    let row_is : c.push.new.self ≡ row_in f.rows.items c.args.row ++ c.args.vid ∷ [] = c.push.ensures ∙ ap (λ (r : List Vid). r ++ c.args.vid ∷ []) (row_of f.rows.items c.args.row c.index_mut.result.now ir c.index_mut.ensures.value) in
    let use_is : c.raise.new.counts.items ≡ slice_set f.use_counts.items c.args.vid.slot (slice_index f.use_counts.items c.args.vid.slot + weight f.uses c.args.row) = c.raise.ensures ∙ ap (λ w. slice_set f.use_counts.items c.args.vid.slot (slice_index f.use_counts.items c.args.vid.slot + w)) c.weight.ensures in
    rw (row_is, use_is, c.raise-2.ensures) (took f.rows.items f.uses f.use_counts.items f.hold_counts.items c.self.invariant c.args.row c.args.vid ir room below)
