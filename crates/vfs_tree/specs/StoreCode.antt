-- How a store is told from others.
use Rattle.std.specs.Prelude.{ℕ, refl}
use Rattle.std.specs.Coded.{Coded, code_by, coded×, coded_ℕ}
use Rattle.std.specs.Ordering.{nat_cmp}
use Rattle.std.specs.FinMap.{FinMap, code}
use Rattle.vfs_tree.specs.contracts.node.Node as node
use Rattle.vfs_tree.specs.declared.node.Node.{Node}
use Rattle.vfs_tree.specs.declared.node.Store.{Store}

-- a store is coded as the pair of its fields
abbrev pub store_code : Coded Store
store_code =
    code_by (FinMap nat_cmp Node × ℕ) (coded× (code coded_ℕ node.the_row.coded) coded_ℕ) (λ t. (t.nodes, t.next)) (λ p. record { nodes = p.0; next = p.1 }) (λ _. refl)
