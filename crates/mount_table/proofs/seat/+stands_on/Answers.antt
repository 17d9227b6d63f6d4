use Rattle.std.proofs.Common.{◌||◌, ◌==◌, ◌∷◌, [], false, ◌∙◌, ap, sym, arith}
use Rattle.std.specs.List.{list_any}
use Rattle.vfs_tree.specs.Place.{mount_of}
use Rattle.vfs_tree.specs.Mounts.{stands_on}
use Rattle.vfs_tree.specs.declared.mount.MountKind.TheVariants as kind
use Rattle.mount_table.specs.Seats.{mounts_in}
use Rattle.mount_table.proofs.Layers.{stands_at, smaller_at, stands_nowhere, hit, miss, reached, passed_by, or_none_else}
use Rattle.mount_table.proofs.seat.+stands_on.Goals as goal

pub returns-in_default : goal.returns-in_default
returns-in_default t c = sym (stands_nowhere c.args.seats.now c.args.a c.args.b c.requires c.in_default.ensures)

pub returns-in-Mem : goal.returns-in-Mem
returns-in-Mem t c =
    let d = c.index-seats-at.result in
    sym (stands_at c.args.seats.now c.args.a c.args.b c.in-Some.at d kind.Mem c.requires c.in-Some.ensures c.in-Mem.is)

pub returns-then-below-b : goal.returns-then-below-b
returns-then-below-b t c =
    let d = c.index-seats-at.result in
    let seats = c.args.seats.now in
    let at_kind = stands_at seats c.args.a c.args.b c.in-Some.at d (kind.Null c.in-Null.layer) c.requires c.in-Some.ensures c.in-Null.is in
    sym (at_kind ∙ hit (mount_of c.in-Null.layer) c.args.b (stands_on (mounts_in seats) (mount_of c.in-Null.layer) c.args.b) false (sym c.mount-below.ensures ∙ c.if-below-b.true))

pub stands_on-requires : goal.stands_on-requires
stands_on-requires t c =
    let d = c.index-seats-at.result in
    let smaller = smaller_at c.args.seats.now c.args.a c.in-Some.at d (kind.Null c.in-Null.layer) c.requires c.in-Some.ensures c.in-Null.is 0 0 (omega arith) in
    ((let is = c.mount-below.ensures in omega (arith, c.decreases)), c.requires)

pub returns-else-below-b : goal.returns-else-below-b
returns-else-below-b t c =
    let d = c.index-seats-at.result in
    let seats = c.args.seats.now in
    let layer = mount_of c.in-Null.layer in
    let at_kind = stands_at seats c.args.a c.args.b c.in-Some.at d (kind.Null c.in-Null.layer) c.requires c.in-Some.ensures c.in-Null.is in
    let s = stands_on (mounts_in seats) layer c.args.b in
    let passed = miss layer c.args.b s false (λ e. c.if-below-b.false (c.mount-below.ensures ∙ e)) ∙ or_none_else s in
    c.stands_on.ensures ∙ (ap (λ l. stands_on (mounts_in seats) l c.args.b) c.mount-below.ensures ∙ sym (at_kind ∙ passed))

pub returns-then-store-b : goal.returns-then-store-b
returns-then-store-b t c =
    let d = c.index-seats-at.result in
    let seats = c.args.seats.now in
    let at_kind = stands_at seats c.args.a c.args.b c.in-Some.at d (kind.Union c.in-Union.store c.in-Union.upper c.in-Union.lower) c.requires c.in-Some.ensures c.in-Union.is in
    sym (at_kind ∙ hit c.in-Union.store c.args.b (stands_on (mounts_in seats) c.in-Union.store c.args.b) (list_any (λ l. (l == c.args.b) || stands_on (mounts_in seats) l c.args.b) (mount_of c.in-Union.lower ∷ [])) c.if-store-b.true)

pub stands_on-requires-in-Union : goal.stands_on-requires-in-Union
stands_on-requires-in-Union t c =
    let d = c.index-seats-at.result in
    let smaller = smaller_at c.args.seats.now c.args.a c.in-Some.at d (kind.Union c.in-Union.store c.in-Union.upper c.in-Union.lower) c.requires c.in-Some.ensures c.in-Union.is 0 0 (omega arith) in
    (omega (arith, c.decreases), c.requires)

pub returns-then-stands_on : goal.returns-then-stands_on
returns-then-stands_on t c =
    let seats = c.args.seats.now in
    let b = c.args.b in
    let upper = c.in-Union.store in
    let at_kind = stands_at seats c.args.a b c.in-Some.at c.index-seats-at.result (kind.Union upper c.in-Union.upper c.in-Union.lower) c.requires c.in-Some.ensures c.in-Union.is in
    let rest = list_any (λ l. (l == b) || stands_on (mounts_in seats) l b) (mount_of c.in-Union.lower ∷ []) in
    sym (at_kind ∙ reached upper b (stands_on (mounts_in seats) upper b) rest (sym c.stands_on-in-Union.ensures ∙ c.if-stands_on.true))

pub returns-then-below-b-2 : goal.returns-then-below-b-2
returns-then-below-b-2 t c =
    let seats = c.args.seats.now in
    let b = c.args.b in
    let upper = c.in-Union.store in
    let layer = mount_of c.in-Union.lower in
    let s = stands_on (mounts_in seats) layer b in
    let at_kind = stands_at seats c.args.a b c.in-Some.at c.index-seats-at.result (kind.Union upper c.in-Union.upper c.in-Union.lower) c.requires c.in-Some.ensures c.in-Union.is in
    let passed = passed_by upper b (stands_on (mounts_in seats) upper b) (((layer == b) || s) || false) c.if-store-b.false (sym c.stands_on-in-Union.ensures ∙ c.if-stands_on.false) in
    sym (at_kind ∙ (passed ∙ hit layer b s false (sym c.mount-below-in-Union.ensures ∙ c.if-below-b-2.true)))

pub stands_on-requires-in-Union-2 : goal.stands_on-requires-in-Union-2
stands_on-requires-in-Union-2 t c =
    let smaller = smaller_at c.args.seats.now c.args.a c.in-Some.at c.index-seats-at.result (kind.Union c.in-Union.store c.in-Union.upper c.in-Union.lower) c.requires c.in-Some.ensures c.in-Union.is 1 0 (omega arith) in
    ((let is = c.mount-below-in-Union.ensures in omega (arith, c.decreases)), c.requires)

pub returns-else-below-b-2 : goal.returns-else-below-b-2
returns-else-below-b-2 t c =
    let seats = c.args.seats.now in
    let b = c.args.b in
    let upper = c.in-Union.store in
    let layer = mount_of c.in-Union.lower in
    let s = stands_on (mounts_in seats) layer b in
    let at_kind = stands_at seats c.args.a b c.in-Some.at c.index-seats-at.result (kind.Union upper c.in-Union.upper c.in-Union.lower) c.requires c.in-Some.ensures c.in-Union.is in
    let passed = passed_by upper b (stands_on (mounts_in seats) upper b) (((layer == b) || s) || false) c.if-store-b.false (sym c.stands_on-in-Union.ensures ∙ c.if-stands_on.false) in
    let missed = miss layer b s false (λ e. c.if-below-b-2.false (c.mount-below-in-Union.ensures ∙ e)) ∙ or_none_else s in
    c.stands_on-in-Union-2.ensures ∙ (ap (λ l. stands_on (mounts_in seats) l b) c.mount-below-in-Union.ensures ∙ sym (at_kind ∙ (passed ∙ missed)))
