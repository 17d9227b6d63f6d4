use Rattle.std.proofs.Common.{◌≡◌, ◌<◌, ◌-◌, sym, subst, ap, ◌∙◌, ◌++◌, ◌∷◌, [], length, slice_index, slice_set}
use Rattle.vnode_rec.specs.Holders.{Held, row_in, weight}
use Rattle.vnode_rec.proofs.Counts.{popped_below, use_lower, hold_lower, left, row_of}
use Rattle.vnode_rec.proofs.holders.Holders.pop.Goals as goal

pub lower-requires-clause-enough : goal.lower-requires-clause-enough
lower-requires-clause-enough c =
    let f = c.self.inside in
    let ir : c.args.row < length f.rows.items = subst (λ (v : Held). c.args.row < length v.rows) (sym c.self.view_is) c.requires.there in
    let was : row_in f.rows.items c.args.row ≡ c.pop-vid.new.self ++ c.pop-vid.result ∷ [] = sym (row_of f.rows.items c.args.row c.index_mut.result.now ir c.index_mut.ensures.value) ∙ c.pop-vid.ensures in
    rw c.weight.ensures (use_lower f.rows.items f.uses f.use_counts.items f.hold_counts.items c.self.invariant c.args.row c.pop-vid.new.self c.pop-vid.result ir was)

pub lower-requires-2-clause-within : goal.lower-requires-2-clause-within
lower-requires-2-clause-within c =
    let f = c.self.inside in
    let ir : c.args.row < length f.rows.items = subst (λ (v : Held). c.args.row < length v.rows) (sym c.self.view_is) c.requires.there in
    let was : row_in f.rows.items c.args.row ≡ c.pop-vid.new.self ++ c.pop-vid.result ∷ [] = sym (row_of f.rows.items c.args.row c.index_mut.result.now ir c.index_mut.ensures.value) ∙ c.pop-vid.ensures in
    popped_below f.rows.items f.uses f.use_counts.items f.hold_counts.items c.self.invariant c.args.row c.pop-vid.new.self c.pop-vid.result ir was

pub lower-requires-2-clause-enough : goal.lower-requires-2-clause-enough
lower-requires-2-clause-enough c =
    let f = c.self.inside in
    let ir : c.args.row < length f.rows.items = subst (λ (v : Held). c.args.row < length v.rows) (sym c.self.view_is) c.requires.there in
    let was : row_in f.rows.items c.args.row ≡ c.pop-vid.new.self ++ c.pop-vid.result ∷ [] = sym (row_of f.rows.items c.args.row c.index_mut.result.now ir c.index_mut.ensures.value) ∙ c.pop-vid.ensures in
    hold_lower f.rows.items f.uses f.use_counts.items f.hold_counts.items c.self.invariant c.args.row c.pop-vid.new.self c.pop-vid.result ir was

pub invariant_of-self : goal.invariant_of-self
invariant_of-self c =
    let f = c.self.inside in
    let ir : c.args.row < length f.rows.items = subst (λ (v : Held). c.args.row < length v.rows) (sym c.self.view_is) c.requires.there in
    let was : row_in f.rows.items c.args.row ≡ c.pop-vid.new.self ++ c.pop-vid.result ∷ [] = sym (row_of f.rows.items c.args.row c.index_mut.result.now ir c.index_mut.ensures.value) ∙ c.pop-vid.ensures in
    let use_is : c.lower.new.counts.items ≡ slice_set f.use_counts.items c.pop-vid.result.slot (slice_index f.use_counts.items c.pop-vid.result.slot - weight f.uses c.args.row) = c.lower.ensures ∙ ap (λ w. slice_set f.use_counts.items c.pop-vid.result.slot (slice_index f.use_counts.items c.pop-vid.result.slot - w)) c.weight.ensures in
    rw (use_is, c.lower-2.ensures) (left f.rows.items f.uses f.use_counts.items f.hold_counts.items c.self.invariant c.args.row c.pop-vid.new.self c.pop-vid.result ir was)

pub returns-clause-below : goal.returns-clause-below
returns-clause-below c =
    let f = c.self.inside in
    let ir : c.args.row < length f.rows.items = subst (λ (v : Held). c.args.row < length v.rows) (sym c.self.view_is) c.requires.there in
    let was : row_in f.rows.items c.args.row ≡ c.pop-vid.new.self ++ c.pop-vid.result ∷ [] = sym (row_of f.rows.items c.args.row c.index_mut.result.now ir c.index_mut.ensures.value) ∙ c.pop-vid.ensures in
    subst (λ (v : Held). c.pop-vid.result.slot < v.slots) c.self.view_is (popped_below f.rows.items f.uses f.use_counts.items f.hold_counts.items c.self.invariant c.args.row c.pop-vid.new.self c.pop-vid.result ir was)
