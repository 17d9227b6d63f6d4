-- What a name gives after an edit, and how many names give a file.
use Rattle.std.proofs.Common.{◌≡◌, ℕ, ◌+◌, ◌<◌, ◌≤◌, true, false, List, [], length, take, get_or, zero, suc, refl, ap, sym, ◌∙◌, arith, eq-eqb}
use Rattle.std.proofs.Math.Nat.{le_refl}
use Rattle.std.proofs.lemmas.List.{take_all}
use Rattle.std.proofs.lemmas.List.Elements.{All-more}
use Rattle.std.proofs.lemmas.List.Sums.{count_by_more_yes}
use Rattle.std.specs.Prelude.{Option, Some, None, option_map}
use Rattle.std.specs.List.{All, count_by}
use Rattle.std.specs.FinMap.{get}
use Rattle.vfs_tree.specs.Nodes.{is_dir_node}
use Rattle.vfs_tree.specs.StoreEdits.{entry_of, set_entry}
use Rattle.vfs_tree.specs.Views.{kind_of_node}
use Rattle.vfs_tree.specs.declared.node.Kind.TheVariants as kind
use Rattle.vfs_tree.specs.declared.node.Node.{Node}
use Rattle.vfs_tree.specs.declared.node.Node.TheVariants.{Dir, File, Link}
use Rattle.vfs_tree.specs.declared.node.NameEntry.{NameEntry}
use Rattle.vfs_tree.specs.declared.node.NameEntry.TheVariants.{Ino}
use Rattle.vfs_tree.specs.declared.node.Store.{Store}
use Rattle.call_laws.proofs.DropLaws.{set_at, set_case}
use Rattle.name_bench.specs.Found.{gives}

-- the kind of a directory
dir_kind : (o : Option Node) → is_dir_node o ≡ true → option_map kind_of_node o ≡ Some kind.Dir
dir_kind (Some (Dir parent opaque names)) h = refl
dir_kind (Some (File bytes)) h = absurd (let clash : false ≡ true = h in cc)
dir_kind (Some (Link target)) h = absurd (let clash : false ≡ true = h in cc)
dir_kind None h = absurd (let clash : false ≡ true = h in cc)

-- a name that was set gives the node
pub gives_set : (t u : Store) (d i : ℕ) (n : List ℕ) → is_dir_node (get t.nodes d) ≡ true → u ≡ set_entry t d n (Ino i) → entry_of u d n ≡ Some (Ino i)
gives_set t u d i n dir is = ap (λ (x : Store). entry_of x d n) is ∙ set_at t d n (Ino i) (dir_kind (get t.nodes d) dir)

-- and a name that gave it still does
pub gives_kept : (t u : Store) (d i : ℕ) (n m : List ℕ) → u ≡ set_entry t d n (Ino i) → entry_of t d m ≡ Some (Ino i) → entry_of u d m ≡ Some (Ino i)
gives_kept t u d i n m is gave = ap (λ (x : Store). entry_of x d m) is ∙ set_case t d n (Ino i) d m (λ o. o ≡ Some (Ino i)) (λ _ _. refl) gave

-- names that all gave the node still do, and one more
pub all_more : (t u : Store) (d i : ℕ) (names : List (List ℕ)) (k : ℕ) → k < length names → ((n : List ℕ) → entry_of t d n ≡ Some (Ino i) → entry_of u d n ≡ Some (Ino i)) → All (λ n. entry_of t d n ≡ Some (Ino i)) (take k names) → entry_of u d (get_or names k []) ≡ Some (Ino i) → All (λ n. entry_of u d n ≡ Some (Ino i)) (take (k + 1) names)
all_more t u d i names k lt kept all gave = All-more (λ n. entry_of u d n ≡ Some (Ino i)) names k [] lt (λ j z le. kept _ (all j z le)) gave

gives_same : (i : ℕ) (o : Option NameEntry) → o ≡ Some (Ino i) → gives i o ≡ true
gives_same i o is = ap (gives i) is ∙ eq-eqb i i refl

module _ (t : Store) (d i : ℕ) (names : List (List ℕ))
  where
    counted_to : All (λ n. entry_of t d n ≡ Some (Ino i)) names → (k : ℕ) → k ≤ length names → count_by (λ n. gives i (entry_of t d n)) (take k names) ≡ k
    counted_to all zero le = refl
    counted_to all (suc k) le =
        let lt : k < length names = omega (arith, le) in
        let next : suc k ≡ k + 1 = omega arith in
        let here : gives i (entry_of t d (get_or names k [])) ≡ true = gives_same i (entry_of t d (get_or names k [])) (all k [] lt) in
        let rest : count_by (λ n. gives i (entry_of t d n)) (take k names) ≡ k = counted_to all k (omega (arith, le)) in
        ap (λ j. count_by (λ n. gives i (entry_of t d n)) (take j names)) next ∙ count_by_more_yes (λ n. gives i (entry_of t d n)) names k [] lt here ∙ ap (λ j. j + 1) rest ∙ sym next

    -- where each name gives the file, each is counted
    pub all_counted : All (λ n. entry_of t d n ≡ Some (Ino i)) names → count_by (λ n. gives i (entry_of t d n)) names ≡ length names
    all_counted all = ap (count_by (λ n. gives i (entry_of t d n))) (sym (take_all (length names) names (le_refl (length names)))) ∙ counted_to all (length names) (le_refl (length names))
