-- What is left of a world after the edit of a store.
use Rattle.std.proofs.Common.{◌≡◌, ℕ, ◌==◌, Bool, true, false, ◌⊎◌, inl, inr, List, ap, sym, ◌∙◌, subst}
use Rattle.std.specs.Prelude.{Option, Some, IsSome, is_some, IfSome}
use Rattle.std.specs.Ordering.{nat_cmp}
use Rattle.std.specs.Cmp.{nat_cmp_total}
use Rattle.std.specs.FinMap.{FinMap, get, insert}
use Rattle.std.proofs.lemmas.Map.Lookups.{exact_unsigned}
use Rattle.finite_maps.proofs.EntryLaws.{by_key, insert_same}
use Rattle.vfs_tree.specs.Edits.{made, with_store}
use Rattle.vfs_tree.specs.Layers.{base}
use Rattle.vfs_tree.specs.Nodes.{AreBelow, IsNumbered}
use Rattle.vfs_tree.specs.Place.{Seen}
use Rattle.vfs_tree.specs.Steps.{◌>>◌, refuse_if}
use Rattle.vfs_tree.specs.Views.{facts_of}
use Rattle.vfs_tree.specs.declared.errno.Errno.TheVariants as errno
use Rattle.vfs_tree.specs.declared.node.Node.{Node}
use Rattle.vfs_tree.specs.declared.node.Store.{Store}
use Rattle.vfs_tree.specs.declared.walk.NodeId.{NodeId}
use Rattle.vfs_tree.specs.declared.walk.Step.TheVariants.{Go, Refuse}
use Rattle.vfs_tree.specs.declared.world.World.{World}
use Rattle.call_model.specs.Checks.{Doing, make_at, is_full, is_full_store}
use Rattle.plain_checks.specs.Coming.{Stops}
use Rattle.plain_checks.specs.declared.stop.Stop.{Stop}
use Rattle.plain_checks.specs.declared.stop.Stop.TheVariants as stop

-- a store that was lent and is as it was leaves the stores
pub stores_same : (m n : FinMap nat_cmp Store) (s : ℕ) (t u : Store) → Some t ≡ get m s → (IsSome (get m s) → n ≡ insert m s u) → u ≡ t → n ≡ m
stores_same m n s t u was put same =
    put (ap is_some (sym was)) ∙ ap (insert m s) same ∙ insert_same nat_cmp_total exact_unsigned m s t (sym was)

-- and the world
pub world_same : (w : World) (n : FinMap nat_cmp Store) → n ≡ w.stores → record w { stores = n } ≡ w
world_same w n e = ap (λ (x : FinMap nat_cmp Store). record w { stores = x }) e

-- a store of a numbered world is numbered
pub numbered_at : (w : World) (s : ℕ) (t : Store) → Some t ≡ get w.stores s → IsNumbered w → AreBelow t.nodes t.next
numbered_at w s t is h = let P : Option Store → Type 0 = λ x. IfSome x (λ t. AreBelow t.nodes t.next) in subst P (sym is) (h s)

-- a world with another store that is numbered is numbered
pub numbered_put : (w : World) (n : FinMap nat_cmp Store) (s : ℕ) (t u : Store) → Some t ≡ get w.stores s → (IsSome (get w.stores s) → n ≡ insert w.stores s u) → AreBelow u.nodes u.next → IsNumbered w → IsNumbered (record w { stores = n })
numbered_put w n s t u was put here numbered =
    subst (λ m. (q : ℕ) → IfSome (get m q) (λ t. AreBelow t.nodes t.next)) (sym (put (ap is_some (sym was))))
    (λ q. by_key nat_cmp_total exact_unsigned w.stores s u q (λ o. IfSome o (λ t. AreBelow t.nodes t.next)) (λ _. here) (numbered q))

-- a world that is as it was is numbered
pub numbered_same : (w v : World) → v ≡ w → IsNumbered w → IsNumbered v
numbered_same w v e h = subst IsNumbered (sym e) h

-- ---- a node is made

-- the world, unless the check holds
abbrev pub make_if : Bool → World → Doing World
make_if b new = refuse_if b errno.ENOSPC >> Go new

-- in the store of a node, at that node
abbrev pub make_by : World → NodeId → List ℕ → Node → Doing World
make_by w at name node = make_if (is_full w at.store) (with_store (λ t. made t at.ino name node) w at.store (get w.stores at.store))

of_place : (w : World) (d : Seen) (at : NodeId) (name : List ℕ) (node : Node) → at ≡ base (facts_of w) d → make_at w d name node ≡ make_by w at name node
of_place w d at name node is = sym (ap (λ a. make_by w a name node) is)

-- where the store has a number left
pub made_there : (w : World) (d : Seen) (at : NodeId) (name : List ℕ) (node : Node) (n : FinMap nat_cmp Store) (t u : Store) → at ≡ base (facts_of w) d
    → Some t ≡ get w.stores at.store → (IsSome (get w.stores at.store) → n ≡ insert w.stores at.store u) → (t.next == 4294967295) ≡ false → u ≡ made t at.ino name node
    → make_at w d name node ≡ Go (record w { stores = n })
made_there w d at name node n t u is was put room done =
    let some : is_full w at.store ≡ false = ap is_full_store (sym was) ∙ room in
    let there : with_store (λ x. made x at.ino name node) w at.store (get w.stores at.store) ≡ record w { stores = insert w.stores at.store (made t at.ino name node) } = ap (λ o. with_store (λ x. made x at.ino name node) w at.store o) (sym was) in
    let stores : insert w.stores at.store (made t at.ino name node) ≡ n = sym (put (ap is_some (sym was)) ∙ ap (insert w.stores at.store) done) in
    of_place w d at name node is ∙ ap (λ b. make_if b (with_store (λ x. made x at.ino name node) w at.store (get w.stores at.store))) some ∙ ap (λ x. make_if false x) (there ∙ ap (λ (x : FinMap nat_cmp Store). record w { stores = x }) stores)

-- where it has none, or isn't there
pub made_full : (w : World) (d : Seen) (at : NodeId) (name : List ℕ) (node : Node) → at ≡ base (facts_of w) d → is_full w at.store ≡ true → make_at w d name node ≡ Refuse errno.ENOSPC
made_full w d at name node is full =
    of_place w d at name node is ∙ ap (λ b. make_if b (with_store (λ x. made x at.ino name node) w at.store (get w.stores at.store))) full

-- why none is made
pub not_made : (w : World) (d : Seen) (at : NodeId) (name : List ℕ) (node : Node) (t : Store) (why : Stop) → at ≡ base (facts_of w) d → Some t ≡ get w.stores at.store
    → (why ≡ stop.NoMemory) ⊎ ((why ≡ stop.Refused errno.ENOSPC) × ((t.next == 4294967295) ≡ true)) → Stops (make_at w d name node) why
not_made w d at name node t why is was h = elim h [
  | inl e ↦ subst (λ x. Stops (make_at w d name node) x) (sym e) tt
  | inr e ↦ subst (λ x. Stops (make_at w d name node) x) (sym e.0) (made_full w d at name node is (ap is_full_store (sym was) ∙ e.1))
]
