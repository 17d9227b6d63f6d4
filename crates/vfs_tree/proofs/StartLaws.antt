-- The world at the start is numbered.
use Rattle.std.proofs.Common.{◌≡◌, ℕ, ◌<◌, Bool, true, false, ap, sym, ◌∙◌, subst, arith}
use Rattle.std.specs.Prelude.{IsSome, IfSome, is_some}
use Rattle.std.specs.Ordering.{nat_cmp}
use Rattle.std.specs.Cmp.{nat_cmp_total}
use Rattle.std.specs.FinMap.{FinMap, get, insert, empty, get-empty}
use Rattle.std.proofs.lemmas.Map.Lookups.{exact_unsigned}
use Rattle.finite_maps.proofs.EntryLaws.{by_key}
use Rattle.vfs_tree.specs.Nodes.{AreBelow, IsNumbered}
use Rattle.vfs_tree.specs.Start.{start_world, empty_dir, empty_store}
use Rattle.vfs_tree.specs.declared.node.Node.{Node}
use Rattle.vfs_tree.specs.declared.node.Store.{Store}
use Rattle.vfs_tree.specs.declared.limits.Limits.{Limits}

below-one : (node : Node) (i : ℕ) → IsSome (get (insert {R = nat_cmp} empty 1 node) i) → i < 2
below-one node i there = by_key nat_cmp_total exact_unsigned empty 1 node i (λ o. IsSome o → i < 2) (λ e _. omega (arith, e)) (λ h. absurd (let clash : false ≡ true = sym (ap is_some (get-empty {X = Node} nat_cmp i)) ∙ h in cc)) there

-- a store whose only node is the root
pub below_root : (m n : FinMap nat_cmp Node) (node : Node) → n ≡ insert m 1 node → m ≡ empty → AreBelow n 2
below_root m n node put none = subst (λ x. AreBelow x 2) (sym (put ∙ ap (λ x. insert x 1 node) none)) (below-one node)

pub numbered-start : (limits : Limits) → IsNumbered (start_world limits)
numbered-start limits s = by_key nat_cmp_total exact_unsigned empty 0 empty_store s (λ o. IfSome o (λ t. AreBelow t.nodes t.next)) (λ _. below-one (empty_dir 1)) (subst (λ o. IfSome o (λ t. AreBelow t.nodes t.next)) (sym (get-empty {X = Store} nat_cmp s)) tt)
