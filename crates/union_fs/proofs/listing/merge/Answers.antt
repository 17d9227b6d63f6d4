use Rattle.std.proofs.Common.{◌≡◌, sym, subst, arith}
use Rattle.std.specs.List.{Contains}
use Rattle.std.specs.List.Sorted.{IsStrictlySortedBy}
use Rattle.vfs_tree.specs.Name.{name_cmp}
use Rattle.union_fs.specs.Visible.{IsVisible}
use Rattle.union_fs.proofs.Shown.{visible}
use Rattle.union_fs.proofs.Names.{shows_visible, in_order, whole_at_end}
use Rattle.union_fs.proofs.listing.merge.Goals as goal

pub returns-clause-visible : goal.returns-clause-visible
returns-clause-visible c = let whole : c.push_copies-2.new.names.items ≡ visible name_cmp c.args.upper.now c.args.white.now c.args.lower.now = whole_at_end c.args.upper.now c.args.white.now c.args.lower.now c.loop-name.upper_left.now c.loop-name.white_left.now c.loop-name.names.items c.push_copies-2.new.names.items c.loop-name.name-index c.loop-name.invariant (omega arith) c.in_ok-push_copies-2.ensures in
    λ name. subst (λ names. (Contains names name → IsVisible c.args.upper.now c.args.white.now c.args.lower.now name) × (IsVisible c.args.upper.now c.args.white.now c.args.lower.now name → Contains names name)) (sym whole) (shows_visible c.args.upper.now c.args.white.now c.args.lower.now c.requires.upper_in_order c.requires.white_in_order c.requires.lower_in_order name)

pub returns-clause-in_order : goal.returns-clause-in_order
returns-clause-in_order c = let whole : c.push_copies-2.new.names.items ≡ visible name_cmp c.args.upper.now c.args.white.now c.args.lower.now = whole_at_end c.args.upper.now c.args.white.now c.args.lower.now c.loop-name.upper_left.now c.loop-name.white_left.now c.loop-name.names.items c.push_copies-2.new.names.items c.loop-name.name-index c.loop-name.invariant (omega arith) c.in_ok-push_copies-2.ensures in
    subst (λ names. IsStrictlySortedBy name_cmp names) (sym whole) (in_order c.args.upper.now c.args.white.now c.args.lower.now c.requires.upper_in_order c.requires.white_in_order c.requires.lower_in_order)
