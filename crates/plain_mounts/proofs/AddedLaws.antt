-- A memory file system that is added, and undone for want of memory.
use Rattle.std.proofs.Common.{◌≡◌, ℕ, ap, sym, ◌∙◌, subst}
use Rattle.std.specs.Prelude.{Option, Some, None, IsSome, is_some, IfSome}
use Rattle.std.specs.Ordering.{nat_cmp}
use Rattle.std.specs.Cmp.{nat_cmp_total}
use Rattle.std.specs.FinMap.{FinMap, get, insert}
use Rattle.std.proofs.lemmas.Map.Lookups.{exact_unsigned}
use Rattle.finite_maps.proofs.EntryLaws.{by_key, get_at-insert, insert_same, insert-insert, remove-insert}
use Rattle.vfs_tree.specs.Nodes.{AreBelow, IsNumbered}
use Rattle.vfs_tree.specs.declared.node.Store.{Store}
use Rattle.vfs_tree.specs.declared.world.World.{World}
use Rattle.plain_mounts.specs.Added.{with_value}

-- a store stands where it was put
pub is_there : (m n : FinMap nat_cmp Store) (k : ℕ) (t : Store) → n ≡ insert m k t → IsSome (get n k)
is_there m n k t put = ap is_some (ap (λ x. get x k) put ∙ get_at-insert nat_cmp_total m k t)

-- a world with one numbered store more is numbered
pub numbered_with : (w : World) (n : FinMap nat_cmp Store) (k : ℕ) (t : Store) → n ≡ insert w.stores k t → AreBelow t.nodes t.next → IsNumbered w → (s : ℕ) → IfSome (get n s) (λ t. AreBelow t.nodes t.next)
numbered_with w n k t put below numbered s =
    subst (λ m. IfSome (get m s) (λ t. AreBelow t.nodes t.next)) (sym put)
    (by_key nat_cmp_total exact_unsigned w.stores k t s (λ o. IfSome o (λ t. AreBelow t.nodes t.next)) (λ _. below) (numbered s))

-- where what stood there before is put back, the stores are as they were
back : (m : FinMap nat_cmp Store) (k : ℕ) (t : Store) (before : Option Store) → get m k ≡ before → with_value (insert m k t) k before ≡ m
back m k t (Some u) was = insert-insert nat_cmp_total exact_unsigned m k t u ∙ insert_same nat_cmp_total exact_unsigned m k u was
back m k t None was = remove-insert nat_cmp_total exact_unsigned m k t was

-- and so is the world
pub world_back : (w v : World) (put end : FinMap nat_cmp Store) (k : ℕ) (t : Store) (before : Option Store) → before ≡ get w.stores k → put ≡ insert w.stores k t → v ≡ record w { stores = put } → end ≡ with_value v.stores k before
    → record v { stores = end } ≡ w
world_back w v put end k t before was is same undone =
    let stores : end ≡ w.stores = undone ∙ ap (λ (x : World). with_value x.stores k before) same ∙ ap (λ x. with_value x k before) is ∙ back w.stores k t before (sym was) in
    ap (λ (x : World). record x { stores = end }) same ∙ ap (λ (x : FinMap nat_cmp Store). record w { stores = x }) stores
