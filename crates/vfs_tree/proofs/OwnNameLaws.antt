-- A directory that one name gives has that name.
use Rattle.std.proofs.Common.{◌≡◌, ℕ, ◌+◌, ◌≤◌, Bool, true, false, ◌==◌, cond, List, [], ◌∷◌, map, refl, ap, sym, ◌∙◌, subst, arith, eq-eqb}
use Rattle.std.specs.Prelude.{Option, Some, None, option_map, option_and_then, T}
use Rattle.std.proofs.Math.Dec.{eqb→eq}
use Rattle.std.specs.List as lists
use Rattle.std.specs.Ordering.{nat_cmp, eq_by_cmp}
use Rattle.std.specs.FinMap.{FinMap, get, find, entries, values, get-entries, empty}
use Rattle.vfs_tree.specs.Counts.{total, optional, weight, names_giving, times}
use Rattle.vfs_tree.specs.Edits.{with_names}
use Rattle.vfs_tree.specs.Name.{name_cmp}
use Rattle.vfs_tree.specs.NameCounts.{known_of, AreCounts}
use Rattle.vfs_tree.specs.Nodes.{Names, entry_in}
use Rattle.vfs_tree.specs.StoreEdits.{entry_of}
use Rattle.vfs_tree.specs.Views.{gives, name_in, name_by, facts_in, dir_in, dir_name}
use Rattle.vfs_tree.specs.declared.name_counts.NameCounts.{NameCounts}
use Rattle.vfs_tree.specs.declared.node.NameEntry.{NameEntry}
use Rattle.vfs_tree.specs.declared.node.NameEntry.TheVariants.{Ino, White}
use Rattle.vfs_tree.specs.declared.node.Node.{Node}
use Rattle.vfs_tree.specs.declared.node.Node.TheVariants.{Dir, File, Link}
use Rattle.vfs_tree.specs.declared.node.Store.{Store}
use Rattle.vfs_tree.proofs.CountLaws.{times_changed, emptied_sum}
use Rattle.vfs_tree.proofs.NodeLaws.{same_name}

no_clash : false ≡ true → ⊥
no_clash e = let clash : false ≡ true = e in cc

gives_itself : (i : ℕ) (e : NameEntry) → e ≡ Ino i → gives i e ≡ true
gives_itself i e same = ap (gives i) same ∙ eq-eqb i i refl

-- ---- entries of a list

-- a name that gives it counts
found_weighs : (i : ℕ) (n : List ℕ) (es : List (List ℕ × NameEntry)) → find name_cmp n es ≡ Some (Ino i) → 1 ≤ total (weight i) (map (λ e. e.1) es)
found_weighs i n [] is = absurd (let clash : None ≡ Some (Ino i) = is in cc)
found_weighs i n (e ∷ es) is = by_test (λ s. found_weighs i n es s) (eq_by_cmp name_cmp n e.0) is
  where
    by_test : (find name_cmp n es ≡ Some (Ino i) → 1 ≤ total (weight i) (map (λ e. e.1) es)) → (b : Bool) → cond b (Some e.1) (find name_cmp n es) ≡ Some (Ino i) → 1 ≤ weight i e.1 + total (weight i) (map (λ e. e.1) es)
    by_test later true s = let same : e.1 ≡ Ino i = cc in let one : weight i e.1 ≡ 1 = ap (λ b. cond b 1 0) (gives_itself i e.1 same) in omega (arith, one)
    by_test later false s = let rest : 1 ≤ total (weight i) (map (λ e. e.1) es) = later s in omega (arith, rest)

-- where it is the only one, it is the first
first_given : (i : ℕ) (n : List ℕ) (es : List (List ℕ × NameEntry)) → find name_cmp n es ≡ Some (Ino i) → total (weight i) (map (λ e. e.1) es) ≤ 1 → option_map (λ e. e.0) (lists.find (λ e. gives i e.1) es) ≡ Some n
first_given i n [] is one = absurd (let clash : None ≡ Some (Ino i) = is in cc)
first_given i n (e ∷ es) is one = by_tests (λ s less. first_given i n es s less) (eq_by_cmp name_cmp n e.0) refl (gives i e.1) refl is
  where
    by_tests : (find name_cmp n es ≡ Some (Ino i) → total (weight i) (map (λ e. e.1) es) ≤ 1 → option_map (λ e. e.0) (lists.find (λ e. gives i e.1) es) ≡ Some n) → (b : Bool) → eq_by_cmp name_cmp n e.0 ≡ b → (g : Bool) → gives i e.1 ≡ g → cond b (Some e.1) (find name_cmp n es) ≡ Some (Ino i)
        → option_map (λ e. e.0) (cond g (Some e) (lists.find (λ e. gives i e.1) es)) ≡ Some n
    by_tests later true t true h s = ap Some (sym (same_name n e.0 t))
    by_tests later true t false h s = absurd (let same : e.1 ≡ Ino i = cc in no_clash (sym h ∙ gives_itself i e.1 same))
    by_tests later false t true h s = absurd (let here : weight i e.1 ≡ 1 = ap (λ b. cond b 1 0) h in let rest = found_weighs i n es s in omega (arith, here, rest, one))
    by_tests later false t false h s = let here : weight i e.1 ≡ 0 = ap (λ b. cond b 1 0) h in later s (omega (arith, here, one))

-- ---- names of a node

node_name : (i : ℕ) (n : List ℕ) (o : Option Node) → entry_in n o ≡ Some (Ino i) → optional (names_giving i) o ≤ 1 → name_by i o ≡ Some n
node_name i n (Some (Dir parent opaque names)) is one = first_given i n (entries names) (sym (get-entries names n) ∙ is) one
node_name i n (Some (File bytes)) is one = absurd (let clash : None ≡ Some (Ino i) = is in cc)
node_name i n (Some (Link target)) is one = absurd (let clash : None ≡ Some (Ino i) = is in cc)
node_name i n None is one = absurd (let clash : None ≡ Some (Ino i) = is in cc)

-- a node's names count among the store's
names_among : (t : Store) (d i : ℕ) → optional (names_giving i) (get t.nodes d) ≤ times t.nodes i
names_among t d i = let sum = times_changed (with_names (λ names. empty)) t.nodes d i in let none = emptied_sum i (get t.nodes d) in omega (arith, sum, none)

-- ---- the name of a directory

known_once : (c : NameCounts) (t : Store) (i : ℕ) (b : Bool) → c.sure ≡ b → AreCounts c t → cond b (get c.known i) None ≡ Some 1 → times t.nodes i ≡ 1
known_once c t i true sure right is = sym ((right sure).counts i 1 is)
known_once c t i false sure right is = absurd (let clash : None ≡ Some 1 = is in cc)

named_once : (t : Store) (i parent : ℕ) (opaque : Bool) (names : Names) (n : List ℕ) → get t.nodes i ≡ Some (Dir parent opaque names) → entry_of t parent n ≡ Some (Ino i) → times t.nodes i ≡ 1 → dir_name t i ≡ Some n
named_once t i parent opaque names n at is once =
    ap (λ o. option_and_then (λ d. name_by i (get t.nodes d.parent)) (option_and_then (facts_in t i) o)) at
    ∙ node_name i n (get t.nodes parent) is (let among = names_among t parent i in omega (arith, among, once))

given_is : (i : ℕ) (e : NameEntry) → gives i e ≡ true → e ≡ Ino i
given_is i (Ino j) is = ap Ino (eqb→eq j i (subst T (sym is) tt))
given_is i White is = absurd (no_clash is)

-- the name that is kept for a directory that is named once, where its parent has it
pub kept_is : (c : NameCounts) (t u : Store) (i parent : ℕ) (opaque : Bool) (names : Names) (n : List ℕ) (e : NameEntry) → t ≡ u → AreCounts c t → known_of c i ≡ Some 1 → get u.nodes i ≡ Some (Dir parent opaque names)
    → entry_of u parent n ≡ Some e → gives i e ≡ true → dir_name u i ≡ Some n
kept_is c t u i parent opaque names n e same right known at is gives_it =
    named_once u i parent opaque names n at (is ∙ ap Some (given_is i e gives_it)) (ap (λ (s : Store). times s.nodes i) (sym same) ∙ known_once c t i c.sure refl right known)
