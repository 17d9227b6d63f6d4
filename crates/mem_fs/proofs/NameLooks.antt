-- The name that a directory keeps is the one that its parent has for it.
use Rattle.std.proofs.Common.{◌≡◌, ℕ, Bool, true, false, cond, List, [], ◌∷◌, refl, ap, sym, ◌∙◌, subst, eq-eqb}
use Rattle.std.proofs.Math.Dec.{eqb→eq}
use Rattle.std.specs.Prelude.{Option, Some, None, option_map, option_and_then, ◌&&◌, T}
use Rattle.std.specs.List as lists
use Rattle.std.specs.Ordering.{eq_by_cmp, is_eq, is_lt}
use Rattle.std.specs.declared.cmp.Ordering.{Ordering}
use Rattle.std.specs.declared.cmp.Ordering.TheVariants.{Less, Equal, Greater}
use Rattle.std.specs.Cmp.Lexicographic.{nat_list_cmp_total}
use Rattle.std.specs.FinMap.{get, entries, entries_sorted, is_sorted, find, get-entries}
use Rattle.std.specs.FinMap.Entries.{below_all}
use Rattle.std.proofs.lemmas.Cmp.{tied_itself}
use Rattle.std.proofs.lemmas.Map.Lookups.{exact_bytes}
use Rattle.vfs_tree.specs.Name.{name_cmp}
use Rattle.vfs_tree.specs.Nodes.{entry_in}
use Rattle.vfs_tree.specs.Views.{gives, name_by, facts_in, dir_name}
use Rattle.vfs_tree.specs.declared.node.Node.{Node}
use Rattle.vfs_tree.specs.declared.node.Node.TheVariants.{Dir, File, Link}
use Rattle.vfs_tree.specs.declared.node.NameEntry.{NameEntry}
use Rattle.vfs_tree.specs.declared.node.NameEntry.TheVariants.{Ino, White}
use Rattle.vfs_tree.specs.declared.node.Store.{Store}
use Rattle.vfs_tree.specs.declared.view.DirFacts.{DirFacts}
use Rattle.mem_fs.specs.declared.inode.Content.{Content}
use Rattle.mem_fs.specs.declared.inode.Content.TheVariants as held
use Rattle.mem_fs.specs.declared.inode.Inode.{Inode}
use Rattle.mem_fs.specs.Contents.{shown, name_of}
use Rattle.mem_fs.specs.Inodes.{Inodes, node_of, own_name}
use Rattle.mem_fs.specs.FileSystem.{FileSystem, seen}
use Rattle.mem_fs.specs.Named.{parent_in, AreNamed}
use Rattle.mem_fs.proofs.Looks.{looked}
use Rattle.mem_fs.proofs.NameLaws.{no_clash, no_none, same_some, tied, parent}

abbrev Entries : Type 0
Entries = List (List ℕ × NameEntry)

less_of : (r : Ordering) → T (is_lt r) → r ≡ Less
less_of Less h = refl
less_of Equal h = absurd h
less_of Greater h = absurd h

left : (b c : Bool) → T (b && c) → T b
left true c h = tt
left false c h = h

pub right : (b c : Bool) → T (b && c) → T c
right true c h = h
right false c h = absurd h

behind : (k : List ℕ) (es : Entries) → T (below_all name_cmp k es) → find name_cmp k es ≡ None
behind k [] h = refl
behind k (e ∷ es) h = ap (λ r. cond (is_eq r) (Some e.1) (find name_cmp k es)) (less_of _ (left _ _ h)) ∙ behind k es (right _ _ h)

given_is : (i : ℕ) (e : NameEntry) → gives i e ≡ true → e ≡ Ino i
given_is i (Ino j) h = ap Ino (eqb→eq j i (subst T (sym h) tt))
given_is i White h = absurd (no_clash h)

gives_itself : (i : ℕ) (e : NameEntry) → gives i e ≡ false → e ≡ Ino i → ⊥
gives_itself i e miss is = no_clash (sym miss ∙ ap (gives i) is ∙ eq-eqb i i refl)

-- the first of records in byte order has a name that stands nowhere behind it
pub behind_first : (q : List ℕ) (e : List ℕ × NameEntry) (es : Entries) → T (is_sorted name_cmp (e ∷ es)) → eq_by_cmp name_cmp q e.0 ≡ true → find name_cmp q es ≡ None
behind_first q e es h eq = ap (λ x. find name_cmp x es) (exact_bytes q e.0 (tied _ eq)) ∙ behind e.0 es (left _ _ h)

-- it is the one that alone gives the node
found : (i : ℕ) (want : Option (List ℕ)) (es : Entries) → T (is_sorted name_cmp es) → ((q : List ℕ) → find name_cmp q es ≡ Some (Ino i) → want ≡ Some q) → ((q : List ℕ) → want ≡ Some q → find name_cmp q es ≡ Some (Ino i))
    → option_map (λ e. e.0) (lists.find (λ (e : List ℕ × NameEntry). gives i e.1) es) ≡ want
found i None [] h once stands = refl
found i (Some q) [] h once stands = absurd (no_none (Ino i) (stands q refl))
found i want (e ∷ es) h once stands =
    by_case (gives i e.1) refl (λ miss. found i want es (right _ _ h) (λ q is. later_once q is (eq_by_cmp name_cmp q e.0) refl) (λ q is. later_stands miss q is (eq_by_cmp name_cmp q e.0) refl))
  where
    here : (q : List ℕ) → eq_by_cmp name_cmp q e.0 ≡ true → find name_cmp q es ≡ None
    here q eq = behind_first q e es h eq

    later_once : (q : List ℕ) → find name_cmp q es ≡ Some (Ino i) → (b : Bool) → eq_by_cmp name_cmp q e.0 ≡ b → want ≡ Some q
    later_once q is true eq = absurd (no_none (Ino i) (sym (here q eq) ∙ is))
    later_once q is false eq = once q (ap (λ b. cond b (Some e.1) (find name_cmp q es)) eq ∙ is)

    later_stands : gives i e.1 ≡ false → (q : List ℕ) → want ≡ Some q → (b : Bool) → eq_by_cmp name_cmp q e.0 ≡ b → find name_cmp q es ≡ Some (Ino i)
    later_stands miss q is true eq = absurd (gives_itself i e.1 miss (same_some e.1 (Ino i) (sym (ap (λ b. cond b (Some e.1) (find name_cmp q es)) eq) ∙ stands q is)))
    later_stands miss q is false eq = sym (ap (λ b. cond b (Some e.1) (find name_cmp q es)) eq) ∙ stands q is

    by_case : (b : Bool) → gives i e.1 ≡ b → (gives i e.1 ≡ false → option_map (λ e. e.0) (lists.find (λ (e : List ℕ × NameEntry). gives i e.1) es) ≡ want)
        → option_map (λ e. e.0) (lists.find (λ (e : List ℕ × NameEntry). gives i e.1) (e ∷ es)) ≡ want
    by_case true hit later = ap (λ b. option_map (λ e. e.0) (cond b (Some e) (lists.find (λ (e : List ℕ × NameEntry). gives i e.1) es))) hit
        ∙ sym (once e.0 (ap (λ r. cond (is_eq r) (Some e.1) (find name_cmp e.0 es)) (tied_itself nat_list_cmp_total e.0) ∙ ap Some (given_is i e.1 hit)))
    by_case false miss later = ap (λ b. option_map (λ e. e.0) (cond b (Some e) (lists.find (λ (e : List ℕ × NameEntry). gives i e.1) es))) miss
        ∙ later miss

-- the name that a directory has for another
pub name_found : (i : ℕ) (want : Option (List ℕ)) (o : Option Node) → ((q : List ℕ) → entry_in q o ≡ Some (Ino i) → want ≡ Some q) → ((q : List ℕ) → want ≡ Some q → entry_in q o ≡ Some (Ino i)) → name_by i o ≡ want
name_found i want (Some (Dir parent opaque names)) once stands =
    found i want (entries names) (entries_sorted names) (λ q is. once q (get-entries names q ∙ is)) (λ q is. sym (get-entries names q) ∙ stands q is)
name_found i None (Some (File bytes)) once stands = refl
name_found i (Some q) (Some (File bytes)) once stands = absurd (no_none (Ino i) (stands q refl))
name_found i None (Some (Link target)) once stands = refl
name_found i (Some q) (Some (Link target)) once stands = absurd (no_none (Ino i) (stands q refl))
name_found i None None once stands = refl
name_found i (Some q) None once stands = absurd (no_none (Ino i) (stands q refl))

-- ---- the name of a directory

named_case : (t : Store) (i : ℕ) (o : Option Inode) (want : Option (List ℕ)) → want ≡ own_name o → ((p : ℕ) → parent o ≡ Some p → name_by i (get t.nodes p) ≡ want) → option_and_then (λ d. name_by i (get t.nodes d.parent)) (option_and_then (facts_in t i) (option_map node_of o)) ≡ want
named_case t i (Some x) want is h = in_content x.content is h
  where
    in_content : (c : Content) → want ≡ name_of c → ((p : ℕ) → parent_in (Some (shown c)) ≡ Some p → name_by i (get t.nodes p) ≡ want) → option_and_then (λ d. name_by i (get t.nodes d.parent)) (facts_in t i (shown c)) ≡ want
    in_content (held.Dir parent opaque name names) is h = h parent refl
    in_content (held.File bytes) is h = sym is
    in_content (held.Link target) is h = sym is
named_case t i None want is h = sym is

-- a directory keeps the name that its parent has for it
pub name_kept : (m : Inodes) (next : ℕ) (v : FileSystem) (i : ℕ) → seen m next ≡ v → AreNamed m → own_name (get m i) ≡ dir_name v.store i
name_kept m next v i is named =
    sym (ap (λ o. option_and_then (λ (d : DirFacts). name_by i (get v.store.nodes d.parent)) (option_and_then (facts_in v.store i) o)) (looked m next v i (get m i) is refl)
    ∙ named_case v.store i (get m i) (own_name (get m i)) refl (λ p at.
    ap (name_by i) (looked m next v p (get m p) is refl)
    ∙ name_found i (own_name (get m i)) (option_map node_of (get m p)) (λ q is. (named.once p i p q at is).1) (λ q is. named.stands i p q at is)))
