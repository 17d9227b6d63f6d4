use Rattle.std.proofs.Common.{◌≡◌, ◌<◌, [], length, get_or, ap, sym, ◌∙◌, subst, refl, false, arith}
use Rattle.std.specs.Prelude.{Some, None}
use Rattle.std.specs.FinMap as map
use Rattle.std.proofs.lemmas.List.{get_or_default}
use Rattle.mem_dir.specs.Records.{is_below, record_at, name_at, joined, IsPlace}
use Rattle.mem_dir.proofs.Middle.{remove_absent}
use Rattle.mem_dir.proofs.Search.{get_none, get_absent, get_present, rising_removed, map_removed}
use Rattle.mem_dir.proofs.Edits.{absent_fact}
use Rattle.mem_dir.proofs.dir.Dir.remove.Goals as goal

pub returns-then-is_empty-clause-before : goal.returns-then-is_empty-clause-before
returns-then-is_empty-clause-before c =
    let zero : c.self.inside.blocks.len ≡ 0 = grind arith in
    get_none c.self.inside.blocks.items c.args.name.now (sym c.self.inside.blocks.ok.0 ∙ zero)
    ∙ ap (λ d. map.get d.names c.args.name.now) c.self.view_is

pub returns-then-is_empty-clause-names : goal.returns-then-is_empty-clause-names
returns-then-is_empty-clause-names c = remove_absent c.args.self.now.names c.args.name.now (sym (returns-then-is_empty-clause-before c))

absent : (c : goal.After-from_residual) → map.get c.args.self.now.names c.args.name.now ≡ None
absent c =
    let bs = c.self.inside.blocks.items in
    let i = c.locate-place.result.block in
    let j = c.locate-place.result.at in
    let n = c.args.name.now in
    let p = subst (λ x. IsPlace x i j n) c.deref.ensures.value c.locate-place.ensures in
    sym (ap (λ d. map.get d.names n) c.self.view_is)
    ∙ get_absent bs i j n c.self.invariant.rising c.self.invariant.filled p
    (absent_fact bs i j n c.index.result.now c.index.ensures p.in_list None (c.in_err-entry.ensures.none) refl)

pub returns-in_err-entry-clause-before : goal.returns-in_err-entry-clause-before
returns-in_err-entry-clause-before c = let none = absent c in cc

pub returns-in_err-entry-clause-names : goal.returns-in_err-entry-clause-names
returns-in_err-entry-clause-names c = remove_absent c.args.self.now.names c.args.name.now (absent c)

pub invariant_of-self : goal.invariant_of-self
invariant_of-self c =
    let bs = c.self.inside.blocks.items in
    let i = c.locate-place.result.block in
    let j = c.locate-place.result.at in
    let n = c.args.name.now in
    let p = subst (λ x. IsPlace x i j n) c.deref.ensures.value c.locate-place.ensures in
    let read : c.index.result.now ≡ get_or bs i [] = c.index.ensures ∙ get_or_default bs i c.index.result.now [] p.in_list in
    let lt = subst (λ x. j < length x) read c.in_ok-entry.ensures.some.0 in
    let at = subst (λ x. is_below n (name_at x j) ≡ false) read c.in_ok-entry.ensures.some.1 in
    record {
      rising = rising_removed bs i j n c.self.invariant.rising c.self.invariant.filled p lt at (joined c.remove.new.blocks.items) c.remove.ensures.joined;
      filled = c.remove.ensures.filled;
      empty = c.self.invariant.empty;
      one = c.self.invariant.one;
      at_hand = c.self.invariant.at_hand;
      list_room = λ some. let before = c.self.invariant.list_room some in omega (arith, c.remove.ensures.len, c.remove.ensures.capacity);
    }

pub returns-clause-before : goal.returns-clause-before
returns-clause-before c =
    let bs = c.self.inside.blocks.items in
    let i = c.locate-place.result.block in
    let j = c.locate-place.result.at in
    let n = c.args.name.now in
    let p = subst (λ x. IsPlace x i j n) c.deref.ensures.value c.locate-place.ensures in
    let read : c.index.result.now ≡ get_or bs i [] = c.index.ensures ∙ get_or_default bs i c.index.result.now [] p.in_list in
    let lt = subst (λ x. j < length x) read c.in_ok-entry.ensures.some.0 in
    let at = subst (λ x. is_below n (name_at x j) ≡ false) read c.in_ok-entry.ensures.some.1 in
    ap Some (c.in_ok-entry.ensures.some.2 ∙ ap (λ x. (record_at x j).1) read)
    ∙ sym (get_present bs i j n c.self.invariant.rising c.self.invariant.filled p lt at)
    ∙ ap (λ d. map.get d.names n) c.self.view_is

pub returns-clause-names : goal.returns-clause-names
returns-clause-names c =
    let bs = c.self.inside.blocks.items in
    let i = c.locate-place.result.block in
    let j = c.locate-place.result.at in
    let n = c.args.name.now in
    let p = subst (λ x. IsPlace x i j n) c.deref.ensures.value c.locate-place.ensures in
    let read : c.index.result.now ≡ get_or bs i [] = c.index.ensures ∙ get_or_default bs i c.index.result.now [] p.in_list in
    let lt = subst (λ x. j < length x) read c.in_ok-entry.ensures.some.0 in
    let at = subst (λ x. is_below n (name_at x j) ≡ false) read c.in_ok-entry.ensures.some.1 in
    map_removed bs i j n c.self.invariant.rising c.self.invariant.filled p lt at (joined c.remove.new.blocks.items) c.remove.ensures.joined
    ∙ ap (λ d. map.remove d.names n) c.self.view_is
