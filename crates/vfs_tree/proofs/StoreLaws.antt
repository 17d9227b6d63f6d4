-- Edits of a store, in either order and taken back.
use Rattle.std.proofs.Common.{◌≡◌, ℕ, Bool, true, false, cond, List, refl, ap, sym, ◌∙◌, subst}
use Rattle.std.specs.Prelude.{◌↔◌, IsTrue, Option, Some, None, IsSome, is_some, option_map}
use Rattle.std.specs.Ordering.{nat_cmp, is_eq}
use Rattle.std.specs.Cmp.{nat_cmp_total}
use Rattle.std.specs.FinMap.{FinMap, get, insert, remove}
use Rattle.std.proofs.lemmas.Cmp.{tied_itself}
use Rattle.std.specs.Cmp.Lexicographic.{nat_list_cmp_total}
use Rattle.finite_maps.proofs.EntryLaws.{get_at-insert}
use Rattle.vfs_tree.specs.Nodes.{Names, entry_in}
use Rattle.vfs_tree.specs.Edits.{with_node, with_names}
use Rattle.vfs_tree.specs.StoreEdits.{entry_of, with_node_at, set_entry, clear_entry}
use Rattle.vfs_tree.specs.declared.node.Node.{Node}
use Rattle.vfs_tree.specs.declared.node.NameEntry.{NameEntry}
use Rattle.vfs_tree.specs.declared.node.Node.TheVariants.{Dir, File, Link}
use Rattle.vfs_tree.specs.declared.node.Store.{Store}
use Rattle.vfs_tree.specs.Undo.{restored}
use Rattle.vfs_tree.proofs.NodeLaws.{edited, get-edited, edited-swap, edited-twice, edited-same, put-clear_in, put-cleared_in, clear-put_in, put-put_in}

-- a store with other nodes
abbrev pub with_nodes : Store → FinMap nat_cmp Node → Store
with_nodes t nodes = record t { nodes = nodes }

-- ---- either order

-- a name is taken away after another was put
pub clear_later : (t : Store) (a b : ℕ) (m n : List ℕ) (e : NameEntry) → ((a ≡ b) × (m ≡ n) → ⊥) → clear_entry (set_entry t b n e) a m ≡ set_entry (clear_entry t a m) b n e
clear_later t a b m n e other = ap (with_nodes t) (edited-swap (with_names (λ names. remove names m)) (with_names (λ names. insert names n e)) t.nodes a b
    (λ same x. sym (put-clear_in m n e (λ alike. other (same, alike)) x)))

-- a name is put where it was taken away
pub set_over : (t : Store) (a : ℕ) (n : List ℕ) (e : NameEntry) → set_entry (clear_entry t a n) a n e ≡ set_entry t a n e
set_over t a n e = ap (with_nodes t) (edited-twice (with_names (λ names. insert names n e)) (with_names (λ names. remove names n)) (with_names (λ names. insert names n e)) t.nodes a (put-cleared_in n e))

-- ---- taken back

node_entry : (t : Store) (d : ℕ) (n : List ℕ) (o : Option NameEntry) (x : Node) → entry_of t d n ≡ o → get t.nodes d ≡ Some x → entry_in n (Some x) ≡ o
node_entry t d n o x is at = ap (entry_in n) (sym at) ∙ is

back_to : (t : Store) (d : ℕ) (n : List ℕ) (e : NameEntry) (o : Option NameEntry) → entry_of t d n ≡ o → restored (set_entry t d n e) d n o ≡ t
back_to t d n e None is = ap (with_nodes t) (edited-twice (with_names (λ names. remove names n)) (with_names (λ names. insert names n e)) (λ x. with_names (λ names. remove names n) (with_names (λ names. insert names n e) x)) t.nodes d (λ x. refl)
    ∙ edited-same _ t.nodes d (λ x at. clear-put_in n e x (node_entry t d n None x is at)))
back_to t d n e (Some old) is = ap (with_nodes t) (edited-twice (with_names (λ names. insert names n old)) (with_names (λ names. insert names n e)) (λ x. with_names (λ names. insert names n old) (with_names (λ names. insert names n e) x)) t.nodes d (λ x. refl)
    ∙ edited-same _ t.nodes d (λ x at. put-put_in n e old x (node_entry t d n (Some old) x is at)))

-- what a put replaced is put back
pub restored-set : (t : Store) (d : ℕ) (n : List ℕ) (e : NameEntry) → restored (set_entry t d n e) d n (entry_of t d n) ≡ t
restored-set t d n e = back_to t d n e (entry_of t d n) refl

some-put : (n : List ℕ) (e : NameEntry) (o : Option Node) → IsSome (entry_in n o) → IsSome (entry_in n (option_map (with_names (λ names. insert names n e)) o))
some-put n e (Some (Dir p o names)) there = ap is_some (get_at-insert nat_list_cmp_total names n e)
some-put n e (Some (File b)) there = there
some-put n e (Some (Link b)) there = there
some-put n e None there = there

-- a put at a name where something stands leaves something
pub there-set : (t : Store) (d : ℕ) (n : List ℕ) (e : NameEntry) → IsSome (entry_of t d n) → IsSome (entry_of (set_entry t d n e) d n)
there-set t d n e there = subst (λ o. IsSome (entry_in n o)) (sym (get-edited (with_names (λ names. insert names n e)) t.nodes d d))
    (subst (λ b. IsSome (entry_in n (cond b (option_map (with_names (λ names. insert names n e)) (get t.nodes d)) (get t.nodes d)))) (sym (ap is_eq (tied_itself nat_cmp_total d)))
    (some-put n e (get t.nodes d) there))

-- ---- what was lent

lent : (m n : FinMap nat_cmp Node) (k : ℕ) (v w : Node) → Some v ≡ get m k → (IsSome (get m k) → n ≡ insert m k w) → n ≡ edited (λ _. w) m k
lent m n k v w was put = put (ap is_some (sym was)) ∙ ap (with_node (λ _. w) m k) was

same_some : (v x : Node) (o : Option Node) → Some v ≡ o → o ≡ Some x → v ≡ x
same_some v x o p q = cc

-- a node that was lent and left as it was
pub left_same : (t : Store) (n : FinMap nat_cmp Node) (k : ℕ) (v w : Node) → Some v ≡ get t.nodes k → (IsSome (get t.nodes k) → n ≡ insert t.nodes k w) → w ≡ v → with_nodes t n ≡ t
left_same t n k v w was put same =
    ap (with_nodes t) (lent t.nodes n k v w was put ∙ edited-same (λ _. w) t.nodes k (λ x at. same ∙ same_some v x _ was at))

-- a directory whose names were taken gets them back
pub refilled_back : (t : Store) (n : FinMap nat_cmp Node) (k : ℕ) (v w : Node) (names : Names) → Some v ≡ get t.nodes k → (IsSome (get t.nodes k) → n ≡ insert t.nodes k w) → with_names (λ _. names) w ≡ v
    → with_node_at (with_names (λ _. names)) (with_nodes t n) k ≡ t
refilled_back t n k v w names was put back =
    let f : Node → Node = with_names (λ _. names) in
    ap (with_nodes t) (ap (λ x. edited f x k) (lent t.nodes n k v w was put)
    ∙ edited-twice f (λ _. w) (λ _. f w) t.nodes k (λ x. refl)
    ∙ edited-same (λ _. f w) t.nodes k (λ x at. back ∙ same_some v x _ was at))

-- ---- a name taken away and another put

-- unless they are one
pub shifted : (t : Store) (a b : ℕ) (m n : List ℕ) (e : NameEntry) (same : Bool) → (IsTrue same ↔ ((a ≡ b) × (m ≡ n)))
    → cond same (set_entry t b n e) (clear_entry (set_entry t b n e) a m) ≡ set_entry (clear_entry t a m) b n e
shifted t a b m n e true is =
    let both : (a ≡ b) × (m ≡ n) = is.0 refl in
    sym (set_over t b n e) ∙ (λ i. set_entry (clear_entry t (sym both.0 i) (sym both.1 i)) b n e)
shifted t a b m n e false is = clear_later t a b m n e (λ both. let clash : false ≡ true = is.1 both in cc)

-- ---- a put that is taken back, from what a caller knows

pub put_back : (t u v r : Store) (d : ℕ) (m n : List ℕ) (e : NameEntry) (before : Option NameEntry) → before ≡ entry_of t d n → u ≡ set_entry t d n e → v ≡ u → m ≡ n → r ≡ restored v d m before → r ≡ t
put_back t u v r d m n e before held was same named is =
    let there : v ≡ set_entry t d n e = same ∙ was in
    is ∙ (λ i. restored (there i) d (named i) (held i)) ∙ restored-set t d n e

pub put_there : (t u v : Store) (d : ℕ) (m n : List ℕ) (e : NameEntry) (before : Option NameEntry) → before ≡ entry_of t d n → u ≡ set_entry t d n e → v ≡ u → m ≡ n → IsSome before → IsSome (entry_of v d m)
put_there t u v d m n e before held was same named some =
    let there : v ≡ set_entry t d n e = same ∙ was in
    let spot : entry_of v d m ≡ entry_of (set_entry t d n e) d n = λ i. entry_of (there i) d (named i) in
    subst IsSome (sym spot) (there-set t d n e (subst IsSome held some))
