-- Edits of nodes in maps: one after the other, in either order, and taken back.
use Rattle.std.proofs.Common.{◌≡◌, ℕ, Bool, true, false, cond, List, refl, ap, sym, ◌∙◌}
use Rattle.std.specs.Prelude.{Option, Some, None, option_map}
use Rattle.std.specs.declared.cmp.Ordering.TheVariants.{Less, Equal, Greater}
use Rattle.std.specs.declared.cmp.Ordering.{Ordering}
use Rattle.std.specs.Ordering.{nat_cmp, eq_by_cmp, is_eq}
use Rattle.std.specs.Cmp.{nat_cmp_total}
use Rattle.std.specs.FinMap.{FinMap, get, insert, remove, get-insert, get-remove, same_map}
use Rattle.std.specs.Cmp.Lexicographic.{nat_list_cmp_total}
use Rattle.std.proofs.lemmas.Map.Lookups.{exact_unsigned, exact_bytes}
use Rattle.finite_maps.proofs.EntryLaws.{insert_same, remove-insert, insert-insert}
use Rattle.vfs_tree.specs.Name.{name_cmp}
use Rattle.vfs_tree.specs.Nodes.{Names, entry_in}
use Rattle.vfs_tree.specs.Edits.{with_names, with_node}
use Rattle.vfs_tree.specs.declared.node.Node.{Node}
use Rattle.vfs_tree.specs.declared.node.Node.TheVariants.{Dir, File, Link}
use Rattle.vfs_tree.specs.declared.node.NameEntry.{NameEntry}

tied : (r : Ordering) → is_eq r ≡ true → r ≡ Equal
tied Less e = cc
tied Equal e = refl
tied Greater e = cc

-- two numbers that tie are equal
pub same_number : (q a : ℕ) → eq_by_cmp nat_cmp q a ≡ true → q ≡ a
same_number q a e = exact_unsigned q a (tied _ e)

pub same_name : (m n : List ℕ) → eq_by_cmp name_cmp m n ≡ true → m ≡ n
same_name m n e = exact_bytes m n (tied _ e)

-- ---- an edit of a node, number by number

-- the nodes with the one at a number edited
abbrev pub edited : (Node → Node) → FinMap nat_cmp Node → ℕ → FinMap nat_cmp Node
edited f m a = with_node f m a (get m a)

at_some : (f : Node → Node) (m : FinMap nat_cmp Node) (a q : ℕ) (o : Option Node) → get m a ≡ o → (b : Bool) → eq_by_cmp nat_cmp q a ≡ b → get (with_node f m a o) q ≡ cond b (option_map f (get m q)) (get m q)
at_some f m a q (Some x) is true e =
    let at : get m q ≡ Some x = ap (get m) (same_number q a e) ∙ is in
    get-insert nat_cmp_total m a (f x) q ∙ ap (λ b. cond b (Some (f x)) (get m q)) e ∙ sym (ap (option_map f) at)
at_some f m a q (Some x) is false e = get-insert nat_cmp_total m a (f x) q ∙ ap (λ b. cond b (Some (f x)) (get m q)) e
at_some f m a q None is true e =
    let at : get m q ≡ None = ap (get m) (same_number q a e) ∙ is in
    at ∙ sym (ap (option_map f) at)
at_some f m a q None is false e = refl

pub get-edited : (f : Node → Node) (m : FinMap nat_cmp Node) (a q : ℕ) → get (edited f m a) q ≡ cond (eq_by_cmp nat_cmp q a) (option_map f (get m q)) (get m q)
get-edited f m a q = at_some f m a q (get m a) refl (eq_by_cmp nat_cmp q a) refl

-- ---- two edits in either order

swapped : (f g : Node → Node) (x y : Bool) (o : Option Node) → (x ≡ true → y ≡ true → (n : Node) → f (g n) ≡ g (f n))
    → cond x (option_map f (cond y (option_map g o) o)) (cond y (option_map g o) o) ≡ cond y (option_map g (cond x (option_map f o) o)) (cond x (option_map f o) o)
swapped f g true true None h = refl
swapped f g true true (Some n) h = ap Some (h refl refl n)
swapped f g true false o h = refl
swapped f g false true o h = refl
swapped f g false false o h = refl

-- edits of different nodes, or such that can be swapped
pub edited-swap : (f g : Node → Node) (m : FinMap nat_cmp Node) (a b : ℕ) → (a ≡ b → (n : Node) → f (g n) ≡ g (f n)) → edited f (edited g m b) a ≡ edited g (edited f m a) b
edited-swap f g m a b h = same_map nat_cmp_total exact_unsigned _ _ (λ q.
    get-edited f (edited g m b) a q
    ∙ ap (λ o. cond (eq_by_cmp nat_cmp q a) (option_map f o) o) (get-edited g m b q)
    ∙ swapped f g (eq_by_cmp nat_cmp q a) (eq_by_cmp nat_cmp q b) (get m q) (λ x y. h (sym (same_number q a x) ∙ same_number q b y))
    ∙ sym (get-edited g (edited f m a) b q ∙ ap (λ o. cond (eq_by_cmp nat_cmp q b) (option_map g o) o) (get-edited f m a q)))

-- ---- two edits of one node

fused : (f g h : Node → Node) (b : Bool) (o : Option Node) → ((n : Node) → f (g n) ≡ h n) → cond b (option_map f (cond b (option_map g o) o)) (cond b (option_map g o) o) ≡ cond b (option_map h o) o
fused f g h true None e = refl
fused f g h true (Some n) e = ap Some (e n)
fused f g h false o e = refl

pub edited-twice : (f g h : Node → Node) (m : FinMap nat_cmp Node) (a : ℕ) → ((n : Node) → f (g n) ≡ h n) → edited f (edited g m a) a ≡ edited h m a
edited-twice f g h m a e = same_map nat_cmp_total exact_unsigned _ _ (λ q.
    get-edited f (edited g m a) a q
    ∙ ap (λ o. cond (eq_by_cmp nat_cmp q a) (option_map f o) o) (get-edited g m a q)
    ∙ fused f g h (eq_by_cmp nat_cmp q a) (get m q) e
    ∙ sym (get-edited h m a q))

kept_at : (f : Node → Node) (m : FinMap nat_cmp Node) (a : ℕ) (o : Option Node) → get m a ≡ o → ((n : Node) → o ≡ Some n → f n ≡ n) → with_node f m a o ≡ m
kept_at f m a (Some n) is e = insert_same nat_cmp_total exact_unsigned m a (f n) (is ∙ ap Some (sym (e n refl)))
kept_at f m a None is e = refl

-- an edit that leaves its node
pub edited-same : (f : Node → Node) (m : FinMap nat_cmp Node) (a : ℕ) → ((n : Node) → get m a ≡ Some n → f n ≡ n) → edited f m a ≡ m
edited-same f m a e = kept_at f m a (get m a) refl e

-- ---- edits of names

apart : (b c : Bool) (e : NameEntry) (x : Option NameEntry) → (b ≡ true → c ≡ true → ⊥) → cond b (Some e) (cond c None x) ≡ cond c None (cond b (Some e) x)
apart true true e x h = absurd (h refl refl)
apart true false e x h = refl
apart false true e x h = refl
apart false false e x h = refl

-- an entry put and another taken away
put-clear : (names : Names) (m n : List ℕ) (e : NameEntry) → (m ≡ n → ⊥) → insert (remove names m) n e ≡ remove (insert names n e) m
put-clear names m n e other = same_map nat_list_cmp_total exact_bytes _ _ (λ q.
    get-insert nat_list_cmp_total (remove names m) n e q
    ∙ ap (cond (eq_by_cmp name_cmp q n) (Some e)) (get-remove nat_list_cmp_total names m q)
    ∙ apart (eq_by_cmp name_cmp q n) (eq_by_cmp name_cmp q m) e (get names q) (λ x y. other (sym (same_name q m y) ∙ same_name q n x))
    ∙ sym (get-remove nat_list_cmp_total (insert names n e) m q ∙ ap (cond (eq_by_cmp name_cmp q m) None) (get-insert nat_list_cmp_total names n e q)))

over : (b : Bool) (e : NameEntry) (x : Option NameEntry) → cond b (Some e) (cond b None x) ≡ cond b (Some e) x
over true e x = refl
over false e x = refl

-- an entry put where one was taken away
put-cleared : (names : Names) (n : List ℕ) (e : NameEntry) → insert (remove names n) n e ≡ insert names n e
put-cleared names n e = same_map nat_list_cmp_total exact_bytes _ _ (λ q.
    get-insert nat_list_cmp_total (remove names n) n e q
    ∙ ap (cond (eq_by_cmp name_cmp q n) (Some e)) (get-remove nat_list_cmp_total names n q)
    ∙ over (eq_by_cmp name_cmp q n) e (get names q)
    ∙ sym (get-insert nat_list_cmp_total names n e q))

pub put-clear_in : (m n : List ℕ) (e : NameEntry) → (m ≡ n → ⊥) → (x : Node) → with_names (λ names. insert names n e) (with_names (λ names. remove names m) x) ≡ with_names (λ names. remove names m) (with_names (λ names. insert names n e) x)
put-clear_in m n e other (Dir p o names) = ap (Dir p o) (put-clear names m n e other)
put-clear_in m n e other (File b) = refl
put-clear_in m n e other (Link b) = refl

pub put-cleared_in : (n : List ℕ) (e : NameEntry) (x : Node) → with_names (λ names. insert names n e) (with_names (λ names. remove names n) x) ≡ with_names (λ names. insert names n e) x
put-cleared_in n e (Dir p o names) = ap (Dir p o) (put-cleared names n e)
put-cleared_in n e (File b) = refl
put-cleared_in n e (Link b) = refl

-- what was put is taken away again
pub clear-put_in : (n : List ℕ) (e : NameEntry) (x : Node) → entry_in n (Some x) ≡ None → with_names (λ names. remove names n) (with_names (λ names. insert names n e) x) ≡ x
clear-put_in n e (Dir p o names) none = ap (Dir p o) (remove-insert nat_list_cmp_total exact_bytes names n e none)
clear-put_in n e (File b) none = refl
clear-put_in n e (Link b) none = refl

-- what stood there is put back
pub put-put_in : (n : List ℕ) (e d : NameEntry) (x : Node) → entry_in n (Some x) ≡ Some d → with_names (λ names. insert names n d) (with_names (λ names. insert names n e) x) ≡ x
put-put_in n e d (Dir p o names) is = ap (Dir p o) (insert-insert nat_list_cmp_total exact_bytes names n e d ∙ insert_same nat_list_cmp_total exact_bytes names n d is)
put-put_in n e d (File b) is = refl
put-put_in n e d (Link b) is = refl
