-- Each edit keeps the nodes' numbers below the store's next one.
use Rattle.std.proofs.Common.{◌≡◌, ℕ, ◌+◌, ◌<◌, Bool, true, false, List, refl, ap, sym, ◌∙◌, subst, arith}
use Rattle.std.specs.Prelude.{Option, Some, None, IsSome, is_some}
use Rattle.std.specs.Ordering.{nat_cmp}
use Rattle.std.specs.Cmp.{nat_cmp_total}
use Rattle.std.specs.FinMap.{FinMap, get, insert, remove}
use Rattle.std.proofs.lemmas.Map.Lookups.{exact_unsigned}
use Rattle.finite_maps.proofs.EntryLaws.{by_key, remove-insert}
use Rattle.vfs_tree.specs.Nodes.{AreBelow}
use Rattle.vfs_tree.specs.Edits.{made, with_node}
use Rattle.vfs_tree.specs.StoreEdits.{with_node_at, set_entry, clear_entry, emptied, drop_entry, renamed_to, moved}
use Rattle.vfs_tree.specs.declared.node.Node.{Node}
use Rattle.vfs_tree.specs.declared.node.NameEntry.{NameEntry}
use Rattle.vfs_tree.specs.declared.node.NameEntry.TheVariants.{Ino, White}
use Rattle.vfs_tree.specs.declared.node.Store.{Store}

-- a store whose nodes have numbers below its next one
abbrev pub IsBelow : Store → Type 0
IsBelow t = AreBelow t.nodes t.next

-- no node has the next number
none_at_next : (nodes : FinMap nat_cmp Node) (next : ℕ) (o : Option Node) → (IsSome o → next < next) → o ≡ None
none_at_next nodes next None below = refl
none_at_next nodes next (Some node) below = absurd (let h = below refl in omega arith)

-- a new node is taken away again
pub taken_back : (m n r : FinMap nat_cmp Node) (k : ℕ) (node : Node) → n ≡ insert m k node → r ≡ remove n k → AreBelow m k → r ≡ m
taken_back m n r k node put gone below =
    gone ∙ ap (λ x. remove x k) put ∙ remove-insert nat_cmp_total exact_unsigned m k node (none_at_next m k (get m k) (below k))

below-insert : (m : FinMap nat_cmp Node) (k n : ℕ) (v : Node) → k < n → AreBelow m n → AreBelow (insert m k v) n
below-insert m k n v less below q some =
    by_key nat_cmp_total exact_unsigned m k v q (λ o. IsSome o → q < n) (λ e _. subst (λ x. x < n) (sym e) less) (below q) some

below-more : (m : FinMap nat_cmp Node) (n : ℕ) → AreBelow m n → AreBelow m (n + 1)
below-more m n below q some = let less = below q some in omega arith

below-with_node : (f : Node → Node) (m : FinMap nat_cmp Node) (i n : ℕ) (o : Option Node) → (IsSome o → i < n) → AreBelow m n → AreBelow (with_node f m i o) n
below-with_node f m i n (Some node) less below = below-insert m i n (f node) (less refl) below
below-with_node f m i n None less below = below

pub below-at : (f : Node → Node) (t : Store) (i : ℕ) → IsBelow t → IsBelow (with_node_at f t i)
below-at f t i below = below-with_node f t.nodes i t.next (get t.nodes i) (below i) below

pub below-made : (t : Store) (dir : ℕ) (name : List ℕ) (node : Node) → IsBelow t → IsBelow (made t dir name node)
below-made t dir name node below =
    let first : AreBelow (insert t.nodes t.next node) (t.next + 1) = below-insert t.nodes t.next (t.next + 1) node (omega arith) (below-more t.nodes t.next below) in
    below-with_node _ (insert t.nodes t.next node) dir (t.next + 1) (get (insert t.nodes t.next node) dir) (first dir) first

below-emptied : (t : Store) (given : Option NameEntry) → IsBelow t → IsBelow (emptied t given)
below-emptied t (Some (Ino i)) below = below-at _ t i below
below-emptied t (Some White) below = below
below-emptied t None below = below

below-drop : (white : Bool) (t : Store) (dir : ℕ) (n : List ℕ) → IsBelow t → IsBelow (drop_entry white t dir n)
below-drop true t dir n below = below-at _ t dir below
below-drop false t dir n below = below-at _ t dir below

below-renamed_to : (t : Store) (dir : ℕ) (n : List ℕ) (hides : Bool) (given : Option NameEntry) → IsBelow t → IsBelow (renamed_to t dir n hides given)
below-renamed_to t dir n hides (Some (Ino i)) below = below-at (moved dir hides) (set_entry t dir n (Ino i)) i (below-at _ t dir below)
below-renamed_to t dir n hides (Some White) below = below
below-renamed_to t dir n hides None below = below

pub below-set : (t : Store) (dir : ℕ) (n : List ℕ) (e : NameEntry) → IsBelow t → IsBelow (set_entry t dir n e)
below-set t dir n e below = below-at _ t dir below

pub below-clear : (t : Store) (dir : ℕ) (n : List ℕ) → IsBelow t → IsBelow (clear_entry t dir n)
below-clear t dir n below = below-at _ t dir below

-- what an edit leaves
pub kept_at : (t u v : Store) → u ≡ v → (IsBelow t → IsBelow v) → IsBelow t → IsBelow u
kept_at t u v e keeps below = subst IsBelow (sym e) (keeps below)

-- a name that is dropped after a directory was emptied
pub kept-removed : (t u v : Store) (white : Bool) (dir : ℕ) (n : List ℕ) (given : Option NameEntry) → u ≡ emptied t given → v ≡ drop_entry white u dir n → IsBelow t → IsBelow v
kept-removed t u v white dir n given was is below =
    subst IsBelow (sym (is ∙ ap (λ x. drop_entry white x dir n) was)) (below-drop white (emptied t given) dir n (below-emptied t given below))

-- and one that gets another name
pub kept-renamed : (t u v : Store) (white : Bool) (from : ℕ) (old : List ℕ) (to : ℕ) (new : List ℕ) (hides : Bool) (given target : Option NameEntry)
    → u ≡ emptied t target → v ≡ renamed_to (drop_entry white u from old) to new hides given → IsBelow t → IsBelow v
kept-renamed t u v white from old to new hides given target was is below =
    subst IsBelow (sym (is ∙ ap (λ x. renamed_to (drop_entry white x from old) to new hides given) was))
    (below-renamed_to (drop_entry white (emptied t target) from old) to new hides given (below-drop white (emptied t target) from old (below-emptied t target below)))

-- a node that was made
pub kept-made : (t u : Store) (nodes : FinMap nat_cmp Node) (dir : ℕ) (n : List ℕ) (node : Node) → nodes ≡ insert t.nodes t.next node → u ≡ set_entry (record t { nodes = nodes }) dir n (Ino t.next) → IsBelow t → AreBelow u.nodes (t.next + 1)
kept-made t u nodes dir n node put is below =
    let same : u.nodes ≡ (made t dir n node).nodes = ap (λ (x : Store). x.nodes) is ∙ ap (λ (m : FinMap nat_cmp Node). (set_entry (record t { nodes = m }) dir n (Ino t.next)).nodes) put in
    subst (λ m. AreBelow m (t.next + 1)) (sym same) (below-made t dir n node below)

-- a node that was made and is taken away again
pub unmade : (t u : Store) (nodes r : FinMap nat_cmp Node) (node : Node) → nodes ≡ insert t.nodes t.next node → u ≡ record t { nodes = nodes } → r ≡ remove u.nodes t.next → IsBelow t → record { nodes = r; next = u.next } ≡ t
unmade t u nodes r node put is gone below =
    let back : r ≡ t.nodes = taken_back t.nodes u.nodes r t.next node (ap (λ (x : Store). x.nodes) is ∙ put) gone below in
    λ i. record { nodes = back i; next = (is i).next }

-- a node that was lent
pub lent_below : (t : Store) (n : FinMap nat_cmp Node) (k : ℕ) (v w : Node) → Some v ≡ get t.nodes k → (IsSome (get t.nodes k) → n ≡ insert t.nodes k w) → IsBelow t → AreBelow n t.next
lent_below t n k v w was put below =
    let there : IsSome (get t.nodes k) = ap is_some (sym was) in
    subst (λ m. AreBelow m t.next) (sym (put there)) (below-insert t.nodes k t.next w (below k there) below)
