use Rattle.std.proofs.Common.{refl, arith}
use Rattle.std.specs.Option.{option_copied}
use Rattle.vnode_rec.proofs.Found as finding
use Rattle.vnode_rec.proofs.table.VnodeTableOf.find.Goals as goal

pub overflow_cast-result : goal.overflow_cast-result
overflow_cast-result g c =
    let f = c.self.inside in
    let k = c.chain_for-chain in
    let below = finding.slot_below f.slots.items f.holders f.free f.empty f.chains.place f.chains.slots f.chains.chains f.rack c.self.invariant c.self.view_is
    c.args.vd.now (option_copied c.args.name) k.result c.count.result k.ensures.chain c.count.ensures k.ensures.within c.as_slice.result.now c.as_slice.ensures.value c.in-Some.slot c.in-Some.ensures.found.0 c.in-Some.ensures.found.1 in
    let small = c.self.invariant.sizes.small in
    omega (arith, small, below)

pub index-requires : goal.index-requires
index-requires g c =
    let f = c.self.inside in
    let k = c.chain_for-chain in
    let below = finding.slot_below f.slots.items f.holders f.free f.empty f.chains.place f.chains.slots f.chains.chains f.rack c.self.invariant c.self.view_is
    c.args.vd.now (option_copied c.args.name) k.result c.count.result k.ensures.chain c.count.ensures k.ensures.within c.as_slice.result.now c.as_slice.ensures.value c.in-Some.slot c.in-Some.ensures.found.0 c.in-Some.ensures.found.1 in
    let ok = f.slots.ok in
    omega (arith, ok, below)

pub returns-in-Some-clause-found : goal.returns-in-Some-clause-found
returns-in-Some-clause-found g c =
    let f = c.self.inside in
    let k = c.chain_for-chain in
    finding.has_found f.slots.items f.holders f.free f.empty f.chains.place f.chains.slots f.chains.chains f.rack c.self.invariant c.self.view_is
    c.args.vd.now (option_copied c.args.name) k.result c.count.result k.ensures.chain c.count.ensures k.ensures.within c.as_slice.result.now c.as_slice.ensures.value c.in-Some.slot c.in-Some.ensures.found.0 c.in-Some.ensures.found.1 c.index.result.now c.index.ensures

pub returns-in-Some-clause-none : goal.returns-in-Some-clause-none
returns-in-Some-clause-none g c =
    let f = c.self.inside in
    let k = c.chain_for-chain in
    finding.found_some f.slots.items f.holders f.free f.empty f.chains.place f.chains.slots f.chains.chains f.rack c.self.invariant c.self.view_is
    c.args.vd.now (option_copied c.args.name) k.result c.count.result k.ensures.chain c.count.ensures k.ensures.within c.as_slice.result.now c.as_slice.ensures.value c.in-Some.slot c.in-Some.ensures.found.0 c.in-Some.ensures.found.1 c.index.result.now c.index.ensures

pub returns-in-Some-clause-only : goal.returns-in-Some-clause-only
returns-in-Some-clause-only g c =
    let f = c.self.inside in
    let k = c.chain_for-chain in
    finding.found_only f.slots.items f.holders f.free f.empty f.chains.place f.chains.slots f.chains.chains f.rack c.self.invariant c.self.view_is
    c.args.vd.now (option_copied c.args.name) k.result c.count.result k.ensures.chain c.count.ensures k.ensures.within c.as_slice.result.now c.as_slice.ensures.value c.in-Some.slot c.in-Some.ensures.found.0 c.in-Some.ensures.found.1 c.index.result.now c.index.ensures

pub returns-in-Some-clause-exact : goal.returns-in-Some-clause-exact
returns-in-Some-clause-exact g c =
    let f = c.self.inside in
    let k = c.chain_for-chain in
    finding.found_exact f.slots.items f.holders f.free f.empty f.chains.place f.chains.slots f.chains.chains f.rack c.self.invariant c.self.view_is
    c.args.vd.now (option_copied c.args.name) k.result c.count.result k.ensures.chain c.count.ensures k.ensures.within c.as_slice.result.now c.as_slice.ensures.value c.in-Some.slot c.in-Some.ensures.found.0 c.in-Some.ensures.found.1 c.index.result.now c.index.ensures

pub returns-in-None-clause-none : goal.returns-in-None-clause-none
returns-in-None-clause-none g c =
    let f = c.self.inside in
    let k = c.chain_for-chain in
    let gone = finding.has_none f.slots.items f.holders f.free f.empty f.chains.place f.chains.slots f.chains.chains f.rack c.self.invariant c.self.view_is
    c.args.vd.now (option_copied c.args.name) k.result c.count.result k.ensures.chain c.count.ensures k.ensures.within c.as_slice.result.now c.as_slice.ensures.value c.in-None.ensures.none in
    (λ z. gone, λ none. refl)

pub returns-in-None-clause-only : goal.returns-in-None-clause-only
returns-in-None-clause-only g c =
    let f = c.self.inside in
    let k = c.chain_for-chain in
    let gone = finding.has_none f.slots.items f.holders f.free f.empty f.chains.place f.chains.slots f.chains.chains f.rack c.self.invariant c.self.view_is
    c.args.vd.now (option_copied c.args.name) k.result c.count.result k.ensures.chain c.count.ensures k.ensures.within c.as_slice.result.now c.as_slice.ensures.value c.in-None.ensures.none in
    λ w e. absurd (gone w e)

pub returns-in-None-clause-exact : goal.returns-in-None-clause-exact
returns-in-None-clause-exact g c =
    let f = c.self.inside in
    let k = c.chain_for-chain in
    finding.none_exact f.slots.items f.holders f.free f.empty f.chains.place f.chains.slots f.chains.chains f.rack c.self.invariant c.self.view_is
    c.args.vd.now (option_copied c.args.name) k.result c.count.result k.ensures.chain c.count.ensures k.ensures.within c.as_slice.result.now c.as_slice.ensures.value c.in-None.ensures.none
