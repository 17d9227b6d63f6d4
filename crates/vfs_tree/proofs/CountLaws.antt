-- How many names give a node, after edits of the nodes.
use Rattle.std.proofs.Common.{◌≡◌, ℕ, ◌+◌, Bool, true, false, cond, List, refl, ap, arith}
use Rattle.std.specs.Prelude.{Option, Some, None, option_map}
use Rattle.std.specs.Ordering.{nat_cmp}
use Rattle.std.specs.Cmp.{nat_cmp_total}
use Rattle.std.specs.Cmp.Lexicographic.{nat_list_cmp_total}
use Rattle.std.specs.FinMap.{FinMap, get, insert, remove, empty, values, get-empty}
use Rattle.std.proofs.lemmas.Map.Lookups.{exact_unsigned, exact_bytes}
use Rattle.vfs_tree.specs.Name.{name_cmp}
use Rattle.vfs_tree.specs.Nodes.{entry_in, is_given, is_dir_node}
use Rattle.vfs_tree.specs.Edits.{with_names, with_node, with_entry}
use Rattle.vfs_tree.specs.StoreEdits.{moved}
use Rattle.vfs_tree.specs.FileEdits.{with_bytes}
use Rattle.vfs_tree.specs.Views.{gives, gives_in, is_named_in}
use Rattle.vfs_tree.specs.declared.node.Node.{Node}
use Rattle.vfs_tree.specs.declared.node.Node.TheVariants.{Dir, File, Link}
use Rattle.vfs_tree.specs.declared.node.NameEntry.{NameEntry}
use Rattle.vfs_tree.specs.declared.node.NameEntry.TheVariants.{Ino, White}
use Rattle.vfs_tree.specs.declared.node.Store.{Store}
use Rattle.vfs_tree.specs.Counts.{optional, weight, names_giving, times, above_zero}
use Rattle.vfs_tree.proofs.Totals.{any_total, total-insert, total-remove, total-zero}

abbrev Nodes : Type 0
Nodes = FinMap nat_cmp Node

-- ---- whether some name gives it

by_weight : (i : ℕ) (e : NameEntry) → gives i e ≡ above_zero (weight i e)
by_weight i e = by_case (gives i e)
  where
    by_case : (b : Bool) → b ≡ above_zero (cond b 1 0)
    by_case true = refl
    by_case false = refl

by_names : (i : ℕ) (x : Node) → gives_in i x ≡ above_zero (names_giving i x)
by_names i (Dir parent opaque names) = any_total (gives i) (weight i) (by_weight i) (values names)
by_names i (File bytes) = refl
by_names i (Link target) = refl

pub named_times : (t : Store) (i : ℕ) → is_named_in t i ≡ above_zero (times t.nodes i)
named_times t i = any_total (gives_in i) (names_giving i) (by_names i) (values t.nodes)

-- ---- an edit of one node

changed : (h : Node → Node) (m : Nodes) (k i : ℕ) (o : Option Node) → get m k ≡ o
    → times (with_node h m k o) i + optional (names_giving i) o ≡ times m i + optional (names_giving i) (option_map h o)
changed h m k i (Some x) is =
    let sum : times (insert m k (h x)) i + optional (names_giving i) (get m k) ≡ times m i + names_giving i (h x) = total-insert nat_cmp_total (names_giving i) m k (h x) in
    let there : optional (names_giving i) (get m k) ≡ names_giving i x = ap (optional (names_giving i)) is in
    omega (arith, sum, there)
changed h m k i None is = refl

pub times_changed : (h : Node → Node) (m : Nodes) (k i : ℕ) → times (with_node h m k (get m k)) i + optional (names_giving i) (get m k) ≡ times m i + optional (names_giving i) (option_map h (get m k))
times_changed h m k i = changed h m k i (get m k) refl

-- ---- names of one node

put_sum : (i : ℕ) (n : List ℕ) (e : NameEntry) (o : Option Node) → is_dir_node o ≡ true
    → optional (names_giving i) (option_map (with_names (λ names. insert names n e)) o) + optional (weight i) (entry_in n o) ≡ optional (names_giving i) o + weight i e
put_sum i n e (Some (Dir parent opaque names)) dir = total-insert nat_list_cmp_total (weight i) names n e
put_sum i n e (Some (File bytes)) dir = absurd (let clash : false ≡ true = dir in cc)
put_sum i n e (Some (Link target)) dir = absurd (let clash : false ≡ true = dir in cc)
put_sum i n e None dir = absurd (let clash : false ≡ true = dir in cc)

clear_sum : (i : ℕ) (n : List ℕ) (o : Option Node) → optional (names_giving i) (option_map (with_names (λ names. remove names n)) o) + optional (weight i) (entry_in n o) ≡ optional (names_giving i) o
clear_sum i n (Some (Dir parent opaque names)) = total-remove nat_list_cmp_total (weight i) exact_bytes names n
clear_sum i n (Some (File bytes)) = refl
clear_sum i n (Some (Link target)) = refl
clear_sum i n None = refl

weightless : (i : ℕ) (e : Option NameEntry) → is_given e ≡ false → optional (weight i) e ≡ 0
weightless i (Some (Ino j)) h = absurd (let clash : true ≡ false = h in cc)
weightless i (Some White) h = refl
weightless i None h = refl

-- a node without names that give an inode
pub bare_sum : (i : ℕ) (o : Option Node) → ((n : List ℕ) → is_given (entry_in n o) ≡ false) → optional (names_giving i) o ≡ 0
bare_sum i (Some (Dir parent opaque names)) bare = total-zero nat_list_cmp_total (weight i) exact_bytes names (λ n. weightless i (get names n) (bare n))
bare_sum i (Some (File bytes)) bare = refl
bare_sum i (Some (Link target)) bare = refl
bare_sum i None bare = refl

pub emptied_sum : (i : ℕ) (o : Option Node) → optional (names_giving i) (option_map (with_names (λ names. empty)) o) ≡ 0
emptied_sum i (Some (Dir parent opaque names)) = total-zero nat_list_cmp_total (weight i) exact_bytes empty (λ n. ap (optional (weight i)) (none n))
  where
    none : (n : List ℕ) → get (empty {X = NameEntry} {R = name_cmp}) n ≡ None
    none n = get-empty name_cmp n
emptied_sum i (Some (File bytes)) = refl
emptied_sum i (Some (Link target)) = refl
emptied_sum i None = refl

moved_sum : (i to : ℕ) (hides : Bool) (o : Option Node) → optional (names_giving i) (option_map (moved to hides) o) ≡ optional (names_giving i) o
moved_sum i to hides (Some (Dir parent opaque names)) = refl
moved_sum i to hides (Some (File bytes)) = refl
moved_sum i to hides (Some (Link target)) = refl
moved_sum i to hides None = refl

-- ---- names of the nodes

pub times_put : (m : Nodes) (d i : ℕ) (n : List ℕ) (e : NameEntry) → is_dir_node (get m d) ≡ true → times (with_entry m d n e) i + optional (weight i) (entry_in n (get m d)) ≡ times m i + weight i e
times_put m d i n e dir =
    let one = times_changed (with_names (λ names. insert names n e)) m d i in
    let sum = put_sum i n e (get m d) dir in
    omega (arith, one, sum)

pub times_cleared : (m : Nodes) (d i : ℕ) (n : List ℕ) → times (with_node (with_names (λ names. remove names n)) m d (get m d)) i + optional (weight i) (entry_in n (get m d)) ≡ times m i
times_cleared m d i n =
    let one = times_changed (with_names (λ names. remove names n)) m d i in
    let sum = clear_sum i n (get m d) in
    omega (arith, one, sum)

pub times_emptied : (m : Nodes) (k i : ℕ) → ((n : List ℕ) → is_given (entry_in n (get m k)) ≡ false) → times (with_node (with_names (λ names. empty)) m k (get m k)) i ≡ times m i
times_emptied m k i bare =
    let one = times_changed (with_names (λ names. empty)) m k i in
    let before = bare_sum i (get m k) bare in
    let after = emptied_sum i (get m k) in
    omega (arith, one, before, after)

pub times_moved : (m : Nodes) (k i to : ℕ) (hides : Bool) → times (with_node (moved to hides) m k (get m k)) i ≡ times m i
times_moved m k i to hides =
    let one = times_changed (moved to hides) m k i in
    let same = moved_sum i to hides (get m k) in
    omega (arith, one, same)

pub times_new : (m : Nodes) (k i : ℕ) (x : Node) → get m k ≡ None → ((n : List ℕ) → is_given (entry_in n (Some x)) ≡ false) → times (insert m k x) i ≡ times m i
times_new m k i x none bare =
    let sum : times (insert m k x) i + optional (names_giving i) (get m k) ≡ times m i + names_giving i x = total-insert nat_cmp_total (names_giving i) m k x in
    let before : optional (names_giving i) (get m k) ≡ 0 = ap (optional (names_giving i)) none in
    let after : names_giving i x ≡ 0 = bare_sum i (Some x) bare in
    omega (arith, sum, before, after)

pub times_gone : (m : Nodes) (k i : ℕ) → ((n : List ℕ) → is_given (entry_in n (get m k)) ≡ false) → times (remove m k) i ≡ times m i
times_gone m k i bare =
    let sum : times (remove m k) i + optional (names_giving i) (get m k) ≡ times m i = total-remove nat_cmp_total (names_giving i) exact_unsigned m k in
    let before = bare_sum i (get m k) bare in
    omega (arith, sum, before)

bytes_sum : (i : ℕ) (f : List ℕ → List ℕ) (o : Option Node) → optional (names_giving i) (option_map (with_bytes f) o) ≡ optional (names_giving i) o
bytes_sum i f (Some (Dir parent opaque names)) = refl
bytes_sum i f (Some (File bytes)) = refl
bytes_sum i f (Some (Link target)) = refl
bytes_sum i f None = refl

pub times_bytes : (f : List ℕ → List ℕ) (m : Nodes) (k i : ℕ) → times (with_node (with_bytes f) m k (get m k)) i ≡ times m i
times_bytes f m k i =
    let one = times_changed (with_bytes f) m k i in
    let same = bytes_sum i f (get m k) in
    omega (arith, one, same)
