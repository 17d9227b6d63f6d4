use Rattle.std.proofs.Common.{◌≡◌, ◌<◌, ◌-◌, [], length, get_or, set, cond, true, false, ap, sym, ◌∙◌, subst, refl, arith}
use Rattle.std.specs.Prelude.{Some, None, is_some}
use Rattle.std.specs.FinMap as map
use Rattle.mem_dir.specs.Records.{is_below, record_at, name_at, joined, IsPlace}
use Rattle.mem_dir.proofs.Search.{rising_inserted, map_inserted, rising_put, map_put}
use Rattle.mem_dir.proofs.Edits.{found_facts, absent_fact, joined_put, filled_put, empty_absent, name_absent, name_present}
use Rattle.mem_dir.proofs.dir.Dir.insert.Goals as goal

pub insert_first-requires-clause-ready : goal.insert_first-requires-clause-ready
insert_first-requires-clause-ready c =
    let zero : c.self.inside.blocks.len ≡ 0 = grind arith in
    let spare = ap (λ d. d.spare) c.self.view_is in
    let absent = empty_absent c.self.inside.blocks.items c.self.inside.blocks.len c.args.self.now.names c.args.name c.self.inside.blocks.ok.0 zero (ap (λ d. d.names) c.self.view_is) in
    let some : 0 < c.self.inside.spare = omega (arith, spare, c.requires absent) in
    c.self.invariant.at_hand some

pub insert_first-requires-clause-list_room : goal.insert_first-requires-clause-list_room
insert_first-requires-clause-list_room c =
    let zero : c.self.inside.blocks.len ≡ 0 = grind arith in
    let spare = ap (λ d. d.spare) c.self.view_is in
    let absent = empty_absent c.self.inside.blocks.items c.self.inside.blocks.len c.args.self.now.names c.args.name c.self.inside.blocks.ok.0 zero (ap (λ d. d.names) c.self.view_is) in
    let some : 0 < c.self.inside.spare = omega (arith, spare, c.requires absent) in
    c.self.invariant.list_room some

pub overflow_sub-self : goal.overflow_sub-self
overflow_sub-self c =
    let zero : c.self.inside.blocks.len ≡ 0 = grind arith in
    let spare = ap (λ d. d.spare) c.self.view_is in
    let absent = empty_absent c.self.inside.blocks.items c.self.inside.blocks.len c.args.self.now.names c.args.name c.self.inside.blocks.ok.0 zero (ap (λ d. d.names) c.self.view_is) in
    let some : 0 < c.self.inside.spare = omega (arith, spare, c.requires absent) in
    omega arith

pub returns-then-is_empty-clause-spare : goal.returns-then-is_empty-clause-spare
returns-then-is_empty-clause-spare c =
    let zero : c.self.inside.blocks.len ≡ 0 = grind arith in
    let spare = ap (λ d. d.spare) c.self.view_is in
    let absent = empty_absent c.self.inside.blocks.items c.self.inside.blocks.len c.args.self.now.names c.args.name c.self.inside.blocks.ok.0 zero (ap (λ d. d.names) c.self.view_is) in
    let some : 0 < c.self.inside.spare = omega (arith, spare, c.requires absent) in
    ap (λ s. s - 1) spare ∙ sym (ap (λ o. cond (is_some o) c.args.self.now.spare (c.args.self.now.spare - 1)) absent)

pub insert-requires-clause-ready : goal.insert-requires-clause-ready
insert-requires-clause-ready c =
    let i = c.locate-place.result.block in
    let j = c.locate-place.result.at in
    let spare = ap (λ d. d.spare) c.self.view_is in
    let absent =
    name_absent c.self.inside.blocks.items c.deref.result.now i j c.args.name c.self.invariant.rising c.self.invariant.filled c.deref.ensures.value c.locate-place.ensures
    c.index.result.now c.index.ensures c.entry.result c.args.self.now.names (ap (λ d. d.names) c.self.view_is) c.entry.ensures.none (sym c.is_some.ensures ∙ c.if-is_some.false) in
    let some : 0 < c.self.inside.spare = omega (arith, spare, c.requires absent) in
    c.self.invariant.at_hand some

pub insert-requires-clause-list_room : goal.insert-requires-clause-list_room
insert-requires-clause-list_room c =
    let i = c.locate-place.result.block in
    let j = c.locate-place.result.at in
    let spare = ap (λ d. d.spare) c.self.view_is in
    let absent =
    name_absent c.self.inside.blocks.items c.deref.result.now i j c.args.name c.self.invariant.rising c.self.invariant.filled c.deref.ensures.value c.locate-place.ensures
    c.index.result.now c.index.ensures c.entry.result c.args.self.now.names (ap (λ d. d.names) c.self.view_is) c.entry.ensures.none (sym c.is_some.ensures ∙ c.if-is_some.false) in
    let some : 0 < c.self.inside.spare = omega (arith, spare, c.requires absent) in
    c.self.invariant.list_room some

pub overflow_sub-self-else-is_some : goal.overflow_sub-self-else-is_some
overflow_sub-self-else-is_some c =
    let i = c.locate-place.result.block in
    let j = c.locate-place.result.at in
    let spare = ap (λ d. d.spare) c.self.view_is in
    let absent =
    name_absent c.self.inside.blocks.items c.deref.result.now i j c.args.name c.self.invariant.rising c.self.invariant.filled c.deref.ensures.value c.locate-place.ensures
    c.index.result.now c.index.ensures c.entry.result c.args.self.now.names (ap (λ d. d.names) c.self.view_is) c.entry.ensures.none (sym c.is_some.ensures ∙ c.if-is_some.false) in
    let some : 0 < c.self.inside.spare = omega (arith, spare, c.requires absent) in
    omega arith

pub returns-else-is_some-clause-spare : goal.returns-else-is_some-clause-spare
returns-else-is_some-clause-spare c =
    let i = c.locate-place.result.block in
    let j = c.locate-place.result.at in
    let spare = ap (λ d. d.spare) c.self.view_is in
    let absent =
    name_absent c.self.inside.blocks.items c.deref.result.now i j c.args.name c.self.invariant.rising c.self.invariant.filled c.deref.ensures.value c.locate-place.ensures
    c.index.result.now c.index.ensures c.entry.result c.args.self.now.names (ap (λ d. d.names) c.self.view_is) c.entry.ensures.none (sym c.is_some.ensures ∙ c.if-is_some.false) in
    let some : 0 < c.self.inside.spare = omega (arith, spare, c.requires absent) in
    ap (λ s. s - 1) spare ∙ sym (ap (λ o. cond (is_some o) c.args.self.now.spare (c.args.self.now.spare - 1)) absent)

pub invariant_of-self-then-is_some : goal.invariant_of-self-then-is_some
invariant_of-self-then-is_some c =
    let bs = c.self.inside.blocks.items in
    let i = c.locate-place.result.block in
    let j = c.locate-place.result.at in
    let n = c.args.name in
    let p = subst (λ x. IsPlace x i j n) c.deref.ensures.value c.locate-place.ensures in
    let found = found_facts bs i j n c.index.result.now c.index.ensures p.in_list c.entry.result c.entry.ensures.some (sym c.is_some.ensures ∙ c.if-is_some.true) in
    let blocks = set bs i c.put.new.self in
    let joined_is = joined_put bs i j c.args.entry c.index_mut.result.now c.put.new.self c.index_mut.ensures.value p.in_list c.put.ensures in
    record {
      rising = rising_put bs i j n c.self.invariant.rising c.self.invariant.filled p found.0 found.1 c.args.entry (joined blocks) joined_is;
      filled = filled_put bs i j c.args.entry c.index_mut.result.now c.put.new.self c.index_mut.ensures.value p.in_list found.0 c.put.ensures c.self.invariant.filled;
      empty = c.self.invariant.empty;
      one = c.self.invariant.one;
      at_hand = c.self.invariant.at_hand;
      list_room = c.self.invariant.list_room;
    }

pub returns-then-is_some-clause-names : goal.returns-then-is_some-clause-names
returns-then-is_some-clause-names c =
    let bs = c.self.inside.blocks.items in
    let i = c.locate-place.result.block in
    let j = c.locate-place.result.at in
    let n = c.args.name in
    let p = subst (λ x. IsPlace x i j n) c.deref.ensures.value c.locate-place.ensures in
    let found = found_facts bs i j n c.index.result.now c.index.ensures p.in_list c.entry.result c.entry.ensures.some (sym c.is_some.ensures ∙ c.if-is_some.true) in
    let blocks = set bs i c.put.new.self in
    let joined_is = joined_put bs i j c.args.entry c.index_mut.result.now c.put.new.self c.index_mut.ensures.value p.in_list c.put.ensures in
    map_put bs i j n c.self.invariant.rising c.self.invariant.filled p found.0 found.1 c.args.entry (joined blocks) joined_is
    ∙ ap (λ d. map.insert d.names n c.args.entry) c.self.view_is

pub returns-then-is_some-clause-spare : goal.returns-then-is_some-clause-spare
returns-then-is_some-clause-spare c =
    let i = c.locate-place.result.block in
    let j = c.locate-place.result.at in
    let present =
    name_present c.self.inside.blocks.items c.deref.result.now i j c.args.name c.self.invariant.rising c.self.invariant.filled c.deref.ensures.value c.locate-place.ensures
    c.index.result.now c.index.ensures c.entry.result c.args.self.now.names (ap (λ d. d.names) c.self.view_is) c.entry.ensures.some (sym c.is_some.ensures ∙ c.if-is_some.true) in
    ap (λ d. d.spare) c.self.view_is ∙ sym (ap (λ b. cond b c.args.self.now.spare (c.args.self.now.spare - 1)) present)

pub invariant_of-self-else-is_some : goal.invariant_of-self-else-is_some
invariant_of-self-else-is_some c =
    let bs = c.self.inside.blocks.items in
    let i = c.locate-place.result.block in
    let j = c.locate-place.result.at in
    let n = c.args.name in
    let p = subst (λ x. IsPlace x i j n) c.deref.ensures.value c.locate-place.ensures in
    let none = absent_fact bs i j n c.index.result.now c.index.ensures p.in_list c.entry.result c.entry.ensures.none (sym c.is_some.ensures ∙ c.if-is_some.false) in
    record {
      rising = rising_inserted bs i j n c.self.invariant.rising c.self.invariant.filled p none c.args.entry (joined c.insert.new.blocks.items) c.insert.ensures.joined;
      filled = c.insert.ensures.filled;
      empty = c.insert.ensures.empty;
      one = omega (arith, c.self.invariant.one);
      at_hand = λ some. absurd (omega (arith, c.self.invariant.one));
      list_room = λ some. absurd (omega (arith, c.self.invariant.one));
    }

pub returns-else-is_some-clause-names : goal.returns-else-is_some-clause-names
returns-else-is_some-clause-names c =
    let bs = c.self.inside.blocks.items in
    let i = c.locate-place.result.block in
    let j = c.locate-place.result.at in
    let n = c.args.name in
    let p = subst (λ x. IsPlace x i j n) c.deref.ensures.value c.locate-place.ensures in
    let none = absent_fact bs i j n c.index.result.now c.index.ensures p.in_list c.entry.result c.entry.ensures.none (sym c.is_some.ensures ∙ c.if-is_some.false) in
    map_inserted bs i j n c.self.invariant.rising c.self.invariant.filled p none c.args.entry (joined c.insert.new.blocks.items) c.insert.ensures.joined
    ∙ ap (λ d. map.insert d.names n c.args.entry) c.self.view_is
