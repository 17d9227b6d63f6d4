-- What the checks tell.
use Rattle.std.proofs.Common.{◌≡◌, ℕ, Bool, true, false, cond, List, [], ◌∷◌, map, IsTrue, refl, ap, sym, ◌∙◌}
use Rattle.std.specs.Prelude.{Option, Some, None, not, T}
use Rattle.std.specs.List.{list_any}
use Rattle.std.specs.Ordering.{eq_by_cmp, is_eq}
use Rattle.std.specs.Cmp.Lexicographic.{nat_list_cmp_total}
use Rattle.std.specs.FinMap.{get, find, entries, entries_sorted, is_sorted, get-entries}
use Rattle.std.proofs.lemmas.Cmp.{tied_itself}
use Rattle.vfs_tree.specs.Name.{name_cmp}
use Rattle.vfs_tree.specs.Nodes.{entry_in, is_given}
use Rattle.vfs_tree.specs.Counts.{gives_node, gives_some_at}
use Rattle.vfs_tree.specs.declared.node.Node.{Node}
use Rattle.vfs_tree.specs.declared.node.Node.TheVariants.{Dir, File, Link}
use Rattle.vfs_tree.specs.declared.node.NameEntry.{NameEntry}
use Rattle.vfs_tree.specs.declared.node.NameEntry.TheVariants.{Ino, White}
use Rattle.vfs_tree.specs.declared.node.Store.{Store}
use Rattle.mem_fs.specs.FileSystem.{GivesBare}
use Rattle.mem_fs.proofs.NameLaws.{no_clash}
use Rattle.mem_fs.proofs.NameLooks.{right, behind_first}

-- ---- a node that has no names that give one

abbrev Entries : Type 0
Entries = List (List ℕ × NameEntry)

-- a directory none of whose names gives a node
none_given : (q : List ℕ) (es : Entries) → list_any gives_node (map (λ e. e.1) es) ≡ false → is_given (find name_cmp q es) ≡ false
none_given q [] h = refl
none_given q ((n, Ino i) ∷ es) h = absurd (no_clash (sym h))
none_given q ((n, White) ∷ es) h = by_case (eq_by_cmp name_cmp q n) (none_given q es h)
  where
    by_case : (b : Bool) → is_given (find name_cmp q es) ≡ false → is_given (cond b (Some White) (find name_cmp q es)) ≡ false
    by_case true e = refl
    by_case false e = e

given_none : (es : Entries) → T (is_sorted name_cmp es) → ((q : List ℕ) → is_given (find name_cmp q es) ≡ false) → list_any gives_node (map (λ e. e.1) es) ≡ false
given_none [] sorted h = refl
given_none ((n, Ino i) ∷ es) sorted h = absurd (no_clash (sym (h n) ∙ ap (λ r. is_given (cond (is_eq r) (Some (Ino i)) (find name_cmp n es))) (tied_itself nat_list_cmp_total n)))
given_none ((n, White) ∷ es) sorted h = given_none es (right _ _ sorted) (λ q. by_case q (eq_by_cmp name_cmp q n) refl)
  where
    by_case : (q : List ℕ) (b : Bool) → eq_by_cmp name_cmp q n ≡ b → is_given (find name_cmp q es) ≡ false
    by_case q true e = ap is_given (behind_first q (n, White) es sorted e)
    by_case q false e = sym (ap (λ b. is_given (cond b (Some White) (find name_cmp q es))) e) ∙ h q

bare_of : (o : Option Node) → gives_some_at o ≡ false → (n : List ℕ) → is_given (entry_in n o) ≡ false
bare_of (Some (Dir parent opaque names)) h n = ap is_given (get-entries names n) ∙ none_given n (entries names) h
bare_of (Some (File bytes)) h n = refl
bare_of (Some (Link target)) h n = refl
bare_of None h n = refl

none_of : (o : Option Node) → ((n : List ℕ) → is_given (entry_in n o) ≡ false) → gives_some_at o ≡ false
none_of (Some (Dir parent opaque names)) h = given_none (entries names) (entries_sorted names) (λ q. ap is_given (sym (get-entries names q)) ∙ h q)
none_of (Some (File bytes)) h = refl
none_of (Some (Link target)) h = refl
none_of None h = refl

not_gives : (a b : Bool) → a ≡ not b → a ≡ true → b ≡ false
not_gives a true is told = absurd (no_clash (sym is ∙ told))
not_gives a false is told = refl

pub bare_told : (t : Store) (i : ℕ) (b : Bool) → b ≡ not (gives_some_at (get t.nodes i)) → IsTrue b → GivesBare t (Some (Ino i))
bare_told t i b is told = bare_of (get t.nodes i) (not_gives b (gives_some_at (get t.nodes i)) is told)

pub told_bare : (t : Store) (i : ℕ) (b : Bool) → b ≡ not (gives_some_at (get t.nodes i)) → GivesBare t (Some (Ino i)) → IsTrue b
told_bare t i b is h = is ∙ ap not (none_of (get t.nodes i) h)
