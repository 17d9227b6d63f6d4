-- What a store shows after an edit of one of its names.
use Rattle.std.proofs.Common.{◌≡◌, ℕ, inl, inr, Bool, true, false, cond, ◌||◌, ◌==◌, List, refl, ap, sym, ◌∙◌, subst, eqb-true, eq-eqb}
use Rattle.std.specs.Prelude.{Option, Some, None, option_map, option_and_then}
use Rattle.std.specs.Cmp.{nat_cmp_total}
use Rattle.std.specs.Cmp.Lexicographic.{nat_list_cmp_total}
use Rattle.std.specs.FinMap.{get, insert, remove, empty}
use Rattle.std.specs.Str.{bytes_eq}
use Rattle.std.proofs.lemmas.Slice.Eq.{bytes_eq-Decides}
use Rattle.finite_maps.proofs.EntryLaws.{get_at-insert}
use Rattle.vfs_tree.specs.Edits.{with_names, with_node}
use Rattle.vfs_tree.specs.Layers.{parent_by, opaque_by}
use Rattle.vfs_tree.specs.Nodes.{Names, entry_in}
use Rattle.vfs_tree.specs.StoreEdits.{entry_of, with_node_at, set_entry, clear_entry, emptied, drop_entry, moved}
use Rattle.vfs_tree.specs.Views.{kind_of_node, target_in, is_linked_in, name_by, dir_in, dir_name}
use Rattle.vfs_tree.specs.declared.node.Kind.TheVariants as kind
use Rattle.vfs_tree.specs.declared.node.NameEntry.{NameEntry}
use Rattle.vfs_tree.specs.declared.node.NameEntry.TheVariants.{Ino, White}
use Rattle.vfs_tree.specs.declared.node.Node.{Node}
use Rattle.vfs_tree.specs.declared.node.Node.TheVariants.{Dir, File, Link}
use Rattle.vfs_tree.specs.declared.node.Store.{Store}
use Rattle.vfs_tree.specs.declared.view.DirFacts.{DirFacts}
use Rattle.call_laws.proofs.DropLaws.{at_node, set_case, clear_case, emptied_case, emptied_at, set_at, alike_names, alike_drop, moved_kinds, moved_entry, white_ino, none_ino}
use Rattle.call_laws.proofs.MadeLaws.{kind_at, inode_of, linked_named}
use Rattle.call_laws.proofs.NamedLaws.{no_way, named_to, name_is}
use Rattle.call_laws.proofs.SoundParts.{first_of, second_of, both_of}
use Rattle.call_laws.proofs.WeightLaws.{get_at-remove}
use Rattle.edit_laws.proofs.StoreViews.{View, view_in, same_parts, hit, put_dir, link_to, unlink_by, put_entry, set_entry_at, bared}
use Rattle.edit_laws.proofs.Touched.{known, dir_known, known_names, relinked, dir_or, Same, NoName, same_dir, same_name, unlinked_both}

-- ---- names of directories

hit_is : (u : ℕ) (n : List ℕ) (d : ℕ) (m : List ℕ) → hit u n d m ≡ true → (d ≡ u) × (m ≡ n)
hit_is u n d m e = (sym (eqb-true u d (first_of (u == d) (bytes_eq n m) e)), sym ((bytes_eq-Decides n m).0 (second_of (u == d) (bytes_eq n m) e)))

pub hit_off : (u : ℕ) (n : List ℕ) (d : ℕ) (m : List ℕ) → hit u n d m ≡ false → d ≡ u → m ≡ n → ⊥
hit_off u n d m e p q = no_way (sym e ∙ both_of (u == d) (bytes_eq n m) (eq-eqb u d (sym p)) ((bytes_eq-Decides n m).1 (sym q)))

hit_self : (u : ℕ) (n : List ℕ) → hit u n u n ≡ true
hit_self u n = both_of (u == u) (bytes_eq n n) (eq-eqb u u refl) ((bytes_eq-Decides n n).1 refl)

-- what stands at each name after an edit
set_exact : (t : Store) (u : ℕ) (n : List ℕ) (e : NameEntry) → kind_at t u ≡ Some kind.Dir → (d : ℕ) (m : List ℕ) → entry_of (set_entry t u n e) d m ≡ cond (hit u n d m) (Some e) (entry_of t d m)
set_exact t u n e dir d m = by (hit u n d m) refl
  where
    by : (b : Bool) → hit u n d m ≡ b → entry_of (set_entry t u n e) d m ≡ cond b (Some e) (entry_of t d m)
    by true is = let p = hit_is u n d m is in ap (λ x. entry_of (set_entry t u n e) x m) p.0 ∙ ap (entry_of (set_entry t u n e) u) p.1 ∙ set_at t u n e dir
    by false is = set_case t u n e d m (λ o. o ≡ entry_of t d m) (λ p q. absurd (hit_off u n d m is p q)) refl

clear_node : (m : List ℕ) (node : Node) → entry_in m (Some (with_names (λ names. remove names m) node)) ≡ None
clear_node m (Dir parent opaque names) = get_at-remove nat_list_cmp_total names m
clear_node m (File bytes) = refl
clear_node m (Link target) = refl

clear_at : (t : Store) (u : ℕ) (n : List ℕ) → entry_of (clear_entry t u n) u n ≡ None
clear_at t u n = by (get t.nodes u) refl
  where
    by : (o : Option Node) → get t.nodes u ≡ o → entry_in n (get (with_node (with_names (λ names. remove names n)) t.nodes u o) u) ≡ None
    by (Some node) at = ap (entry_in n) (get_at-insert nat_cmp_total t.nodes u (with_names (λ names. remove names n) node)) ∙ clear_node n node
    by None at = ap (entry_in n) at

clear_exact : (t : Store) (u : ℕ) (n : List ℕ) (d : ℕ) (m : List ℕ) → entry_of (clear_entry t u n) d m ≡ cond (hit u n d m) None (entry_of t d m)
clear_exact t u n d m = by (hit u n d m) refl
  where
    by : (b : Bool) → hit u n d m ≡ b → entry_of (clear_entry t u n) d m ≡ cond b None (entry_of t d m)
    by true is = let p = hit_is u n d m is in ap (λ x. entry_of (clear_entry t u n) x m) p.0 ∙ ap (entry_of (clear_entry t u n) u) p.1 ∙ clear_at t u n
    by false is = clear_case t u n d m (λ o. o ≡ entry_of t d m) (λ p q. absurd (hit_off u n d m is p q)) refl

-- what a dropped name leaves
abbrev pub left : Bool → Option NameEntry
left true = Some White
left false = None

pub drop_exact : (white : Bool) (t : Store) (u : ℕ) (n : List ℕ) → kind_at t u ≡ Some kind.Dir → (d : ℕ) (m : List ℕ) → entry_of (drop_entry white t u n) d m ≡ cond (hit u n d m) (left white) (entry_of t d m)
drop_exact true t u n dir d m = set_exact t u n White dir d m
drop_exact false t u n dir d m = clear_exact t u n d m

empty_exact : (t : Store) (j d : ℕ) (m : List ℕ) → entry_of (emptied t (Some (Ino j))) d m ≡ cond (j == d) None (entry_of t d m)
empty_exact t j d m = by (j == d) refl
  where
    by : (b : Bool) → (j == d) ≡ b → entry_of (emptied t (Some (Ino j))) d m ≡ cond b None (entry_of t d m)
    by true is = subst (λ x. entry_of (emptied t (Some (Ino j))) x m ≡ None) (eqb-true j d is) (emptied_at t (Some (Ino j)) j m refl)
    by false is = emptied_case t (Some (Ino j)) d m (λ o. o ≡ entry_of t d m) (λ i e same. no_way (sym is ∙ eq-eqb j d (ap inode_of e ∙ sym same))) refl

-- ---- nodes whose names change

pub known_edit : (g : Names → Names) (t : Store) (i d : ℕ) (l : Bool) → known l (get (with_node_at (with_names g) t i).nodes d) ≡ known l (get t.nodes d)
known_edit g t i d l = at_node (with_names g) t i d (λ o. known l o ≡ known l (get t.nodes d)) (λ node same at. known_names l g node ∙ sym (ap (known l) at)) refl

target_names : (g : Names → Names) (node : Node) → target_in (with_names g node) ≡ target_in node
target_names g (Dir parent opaque names) = refl
target_names g (File bytes) = refl
target_names g (Link target) = refl

target_edit : (g : Names → Names) (t : Store) (i d : ℕ) → option_and_then target_in (get (with_node_at (with_names g) t i).nodes d) ≡ option_and_then target_in (get t.nodes d)
target_edit g t i d = at_node (with_names g) t i d (λ o. option_and_then target_in o ≡ option_and_then target_in (get t.nodes d)) (λ node same at. target_names g node ∙ sym (ap (option_and_then target_in) at)) refl

pub known_drop : (white : Bool) (t : Store) (u : ℕ) (n : List ℕ) (d : ℕ) (l : Bool) → known l (get (drop_entry white t u n).nodes d) ≡ known l (get t.nodes d)
known_drop true t u n d l = known_edit (λ names. insert names n White) t u d l
known_drop false t u n d l = known_edit (λ names. remove names n) t u d l

target_drop : (white : Bool) (t : Store) (u : ℕ) (n : List ℕ) (d : ℕ) → option_and_then target_in (get (drop_entry white t u n).nodes d) ≡ option_and_then target_in (get t.nodes d)
target_drop true t u n d = target_edit (λ names. insert names n White) t u d
target_drop false t u n d = target_edit (λ names. remove names n) t u d

-- ---- what isn't touched by an unlink

kept_entry : (e : Option NameEntry) (v : View) (d : ℕ) (m : List ℕ) → (unlink_by e v).entry d m ≡ v.entry d m
kept_entry (Some (Ino j)) v d m = refl
kept_entry (Some White) v d m = refl
kept_entry None v d m = refl

kept_kind : (e : Option NameEntry) (v : View) (i : ℕ) → (unlink_by e v).kind i ≡ v.kind i
kept_kind (Some (Ino j)) v i = refl
kept_kind (Some White) v i = refl
kept_kind None v i = refl

kept_target : (e : Option NameEntry) (v : View) (i : ℕ) → (unlink_by e v).target i ≡ v.target i
kept_target (Some (Ino j)) v i = refl
kept_target (Some White) v i = refl
kept_target None v i = refl

-- a directory that an entry gives has this name alone
abbrev pub IsOnly : Store → ℕ → List ℕ → Type 0
IsOnly s u n = (j : ℕ) → entry_of s u n ≡ Some (Ino j) → kind_at s j ≡ Some kind.Dir → (d : ℕ) (m : List ℕ) → entry_of s d m ≡ Some (Ino j) → (d ≡ u) × (m ≡ n)

pub left_ino : {A : Type 0} (white : Bool) (i : ℕ) → left white ≡ Some (Ino i) → A
left_ino true i e = white_ino e
left_ino false i e = none_ino e

abbrev pub dropped : Bool → ℕ → List ℕ → View → View
dropped white u n v = unlink_by (v.entry u n) (put_entry u n (left white) v)

-- ---- a name is dropped

module _ (s : Store) (white : Bool) (u : ℕ) (n : List ℕ) (dir : kind_at s u ≡ Some kind.Dir) (only : IsOnly s u n) where
  abbrev new : Store
  new = drop_entry white s u n

  -- by whether it is the name
  by_hit : {A : Type 0} (d : ℕ) (m : List ℕ) (r : Option NameEntry) → entry_of new d m ≡ r → (hit u n d m ≡ true → left white ≡ r → A) → (hit u n d m ≡ false → entry_of s d m ≡ r → A) → A
  by_hit {A = A} d m r e hits misses = by (hit u n d m) refl (sym (drop_exact white s u n dir d m) ∙ e)
    where
      by : (b : Bool) → hit u n d m ≡ b → cond b (left white) (entry_of s d m) ≡ r → A
      by true is f = hits is f
      by false is f = misses is f

  gone : (i : ℕ) → entry_of s u n ≡ Some (Ino i) → kind_at s i ≡ Some kind.Dir → NoName new i
  gone i at own d m e = by_hit d m (Some (Ino i)) e (λ is f. left_ino white i f) (λ is f. let p = only i at own d m f in hit_off u n d m is p.0 p.1)

  same : (i : ℕ) → (entry_of s u n ≡ Some (Ino i) → ⊥) → Same s new i
  same i other = record {
    to = λ d m e. drop_exact white s u n dir d m ∙ there d m e (hit u n d m) refl;
    back = λ d m e. by_hit d m (Some (Ino i)) e (λ is f. left_ino white i f) (λ is f. f);
  }
    where
      there : (d : ℕ) (m : List ℕ) → entry_of s d m ≡ Some (Ino i) → (b : Bool) → hit u n d m ≡ b → cond b (left white) (entry_of s d m) ≡ Some (Ino i)
      there d m e true is = let p = hit_is u n d m is in absurd (other (sym (ap (λ x. entry_of s x n) p.0) ∙ sym (ap (entry_of s d) p.1) ∙ e))
      there d m e false is = e

  pub drop_view : view_in new ≡ dropped white u n (view_in s)
  drop_view =
      let e0 = entry_of s u n in
      let v = put_entry u n (left white) (view_in s) in
      let both = λ (i : ℕ). unlinked_both s new v.entry e0 i (known_drop white s u n i) (gone i) (same i) in
      same_parts (view_in new) (unlink_by e0 v)
      (λ d m. drop_exact white s u n dir d m ∙ sym (kept_entry e0 v d m))
      (λ i. (alike_drop white s u n).kinds i ∙ sym (kept_kind e0 v i))
      (λ i. (both i).0) (λ i. (both i).1)
      (λ i. target_drop white s u n i ∙ sym (kept_target e0 v i))

-- ---- a directory loses its whiteouts

abbrev pub bared_by : Option NameEntry → View → View
bared_by (Some (Ino j)) v = bared j v
bared_by (Some White) v = v
bared_by None v = v

pub empty_view : (t : Store) (e : Option NameEntry) → ((j : ℕ) → e ≡ Some (Ino j) → (i : ℕ) (m : List ℕ) → entry_of t j m ≡ Some (Ino i) → ⊥) → view_in (emptied t e) ≡ bared_by e (view_in t)
empty_view t (Some (Ino j)) bare =
    let new : Store = emptied t (Some (Ino j)) in
    same_parts (view_in new) (bared j (view_in t))
    (λ d m. empty_exact t j d m)
    (λ i. (alike_names (λ names. empty) t j).kinds i)
    (λ i. same_dir t new i (known_edit (λ names. empty) t j i) (same i))
    (λ i. same_name t new i (known_edit (λ names. empty) t j i) (same i))
    (λ i. target_edit (λ names. empty) t j i)
  where
    same : (i : ℕ) → Same t (emptied t (Some (Ino j))) i
    same i = record {
      to = λ d m e. empty_exact t j d m ∙ there d m e (j == d) refl;
      back = λ d m e. back d m (j == d) (sym (empty_exact t j d m) ∙ e);
    }
      where
        there : (d : ℕ) (m : List ℕ) → entry_of t d m ≡ Some (Ino i) → (b : Bool) → (j == d) ≡ b → cond b None (entry_of t d m) ≡ Some (Ino i)
        there d m e true is = absurd (bare j refl i m (ap (λ x. entry_of t x m) (eqb-true j d is) ∙ e))
        there d m e false is = e

        back : (d : ℕ) (m : List ℕ) (b : Bool) → cond b None (entry_of t d m) ≡ Some (Ino i) → entry_of t d m ≡ Some (Ino i)
        back d m true e = none_ino e
        back d m false e = e
empty_view t (Some White) bare = refl
empty_view t None bare = refl

-- ---- a name gives a node

relink : (e : Option NameEntry) (v : View) (i : ℕ) → option_map (λ (d : DirFacts). record d { linked = true }) ((unlink_by e v).dir i) ≡ option_map (λ (d : DirFacts). record d { linked = true }) (v.dir i)
relink (Some (Ino j)) v i = by (j == i) (v.dir i)
  where
    by : (b : Bool) (o : Option DirFacts) → option_map (λ (d : DirFacts). record d { linked = true }) (cond b (option_map (λ (d : DirFacts). record d { linked = j == 1 }) o) o) ≡ option_map (λ (d : DirFacts). record d { linked = true }) o
    by true (Some d) = refl
    by true None = refl
    by false o = refl
relink (Some White) v i = refl
relink None v i = refl

module _ (s new : Store) (u : ℕ) (n : List ℕ) (x : ℕ) (exact : (d : ℕ) (m : List ℕ) → entry_of new d m ≡ cond (hit u n d m) (Some (Ino x)) (entry_of s d m))
    (nodes : (i : ℕ) → (i ≡ x → ⊥) → (l : Bool) → known l (get new.nodes i) ≡ known l (get s.nodes i)) (kinds : kind_at new x ≡ kind_at s x)
    (plain : ((l : Bool) → known l (get s.nodes x) ≡ None) → (l : Bool) → known l (get new.nodes x) ≡ None)
    (only : IsOnly s u n) (fresh : kind_at s x ≡ Some kind.Dir → NoName s x) (parent : kind_at s x ≡ Some kind.Dir → parent_by x (dir_in new x) ≡ u) where
  abbrev e0 : Option NameEntry
  e0 = entry_of s u n

  abbrev v : View
  v = put_entry u n (Some (Ino x)) (view_in s)

  abbrev w : View
  w = unlink_by e0 v

  by_put : {A : Type 0} (d : ℕ) (m : List ℕ) (r : Option NameEntry) → entry_of new d m ≡ r → (hit u n d m ≡ true → Some (Ino x) ≡ r → A) → (hit u n d m ≡ false → entry_of s d m ≡ r → A) → A
  by_put {A = A} d m r e hits misses = by (hit u n d m) refl (sym (exact d m) ∙ e)
    where
      by : (b : Bool) → hit u n d m ≡ b → cond b (Some (Ino x)) (entry_of s d m) ≡ r → A
      by true is f = hits is f
      by false is f = misses is f

  put_gone : (i : ℕ) → (i ≡ x → ⊥) → entry_of s u n ≡ Some (Ino i) → kind_at s i ≡ Some kind.Dir → NoName new i
  put_gone i ne at own d m e = by_put d m (Some (Ino i)) e (λ is f. ne (sym (ap inode_of f))) (λ is f. let p = only i at own d m f in hit_off u n d m is p.0 p.1)

  put_same : (i : ℕ) → (i ≡ x → ⊥) → (entry_of s u n ≡ Some (Ino i) → ⊥) → Same s new i
  put_same i ne other = record {
    to = λ d m e. exact d m ∙ there d m e (hit u n d m) refl;
    back = λ d m e. by_put d m (Some (Ino i)) e (λ is f. absurd (ne (sym (ap inode_of f)))) (λ is f. f);
  }
    where
      there : (d : ℕ) (m : List ℕ) → entry_of s d m ≡ Some (Ino i) → (b : Bool) → hit u n d m ≡ b → cond b (Some (Ino x)) (entry_of s d m) ≡ Some (Ino i)
      there d m e true is = let p = hit_is u n d m is in absurd (other (sym (ap (λ y. entry_of s y n) p.0) ∙ sym (ap (entry_of s d) p.1) ∙ e))
      there d m e false is = e

  apart : (i : ℕ) → (x == i) ≡ false → i ≡ x → ⊥
  apart i off is = no_way (sym off ∙ eq-eqb x i (sym is))

  put_entries : (d : ℕ) (m : List ℕ) → entry_of new d m ≡ w.entry d m
  put_entries d m = exact d m ∙ sym (kept_entry e0 v d m)

  others : (i : ℕ) → (x == i) ≡ false → (dir_in new i ≡ w.dir i) × (dir_name new i ≡ w.name_of i)
  others i off = let ne = apart i off in unlinked_both s new v.entry e0 i (nodes i ne) (put_gone i ne) (put_same i ne)

  here : entry_of new u n ≡ Some (Ino x)
  here = exact u n ∙ ap (λ b. cond b (Some (Ino x)) (entry_of s u n)) (hit_self u n)

  own_link : is_linked_in new x ≡ true
  own_link = linked_named new x (named_to new x u n here)

  own_dir : dir_in new x ≡ known true (get new.nodes x)
  own_dir = dir_known new x (get new.nodes x) ∙ ap (λ l. known l (get new.nodes x)) own_link

  -- what the edits have of it, but for its parent
  own_before : option_map (λ (d : DirFacts). record d { linked = true }) (w.dir x) ≡ known true (get s.nodes x)
  own_before = relink e0 v x ∙ ap (option_map (λ (d : DirFacts). record d { linked = true })) (dir_known s x (get s.nodes x)) ∙ sym (relinked true (is_linked_in s x) (get s.nodes x))

  own_name : kind_at s x ≡ Some kind.Dir → dir_name new x ≡ Some n
  own_name dir =
      let p = parent dir in
      name_is new x n (kinds ∙ dir) (ap (λ y. entry_of new y n) p ∙ here) (λ k f.
      by_put u k (Some (Ino x)) (sym (ap (λ y. entry_of new y k) p) ∙ f) (λ is _. (hit_is u n u k is).1) (λ is g. absurd (fresh dir u k g)))

  known_name : (o : Option Node) → option_map kind_of_node o ≡ Some kind.Dir → option_and_then (λ (d : DirFacts). Some n) (known true o) ≡ Some n
  known_name (Some (Dir parent opaque names)) dir = refl
  known_name (Some (File bytes)) dir = absurd cc
  known_name (Some (Link target)) dir = absurd cc
  known_name None dir = absurd cc

  abbrev linked_dir : Option DirFacts
  linked_dir = option_map (λ (d : DirFacts). record d { linked = true }) (w.dir x)

  own_named : dir_name new x ≡ option_and_then (λ (d : DirFacts). Some n) linked_dir
  own_named = elim (dir_or (get s.nodes x)) as (λ _. dir_name new x ≡ option_and_then (λ (d : DirFacts). Some n) linked_dir) [
    | inl dir ↦ own_name dir ∙ sym (ap (option_and_then (λ (d : DirFacts). Some n)) own_before ∙ known_name (get s.nodes x) dir)
    | inr none ↦
        ap (option_and_then (λ (d : DirFacts). name_by x (get new.nodes d.parent))) (own_dir ∙ plain none true)
        ∙ sym (ap (option_and_then (λ (d : DirFacts). Some n)) (own_before ∙ none true))
  ]

  put_names : (i : ℕ) → dir_name new i ≡ (link_to x n w).name_of i
  put_names i = by (x == i) refl
    where
      by : (b : Bool) → (x == i) ≡ b → dir_name new i ≡ cond b (option_and_then (λ (d : DirFacts). Some n) (cond b (option_map (λ (d : DirFacts). record d { linked = true }) (w.dir i)) (w.dir i))) (w.name_of i)
      by true is =
          subst (λ y. dir_name new y ≡ option_and_then (λ (d : DirFacts). Some n) (option_map (λ (d : DirFacts). record d { linked = true }) (w.dir y))) (eqb-true x i is) own_named
      by false is = (others i is).1

  -- what is known of directories, where this is known of the node itself
  put_dirs : (g : DirFacts → DirFacts) → known true (get new.nodes x) ≡ option_map g (known true (get s.nodes x)) → (i : ℕ) → dir_in new i ≡ cond (x == i) (option_map g (option_map (λ (d : DirFacts). record d { linked = true }) (w.dir i))) (w.dir i)
  put_dirs g own i = by (x == i) refl
    where
      by : (b : Bool) → (x == i) ≡ b → dir_in new i ≡ cond b (option_map g (option_map (λ (d : DirFacts). record d { linked = true }) (w.dir i))) (w.dir i)
      by true is = subst (λ y. dir_in new y ≡ option_map g (option_map (λ (d : DirFacts). record d { linked = true }) (w.dir y))) (eqb-true x i is) (own_dir ∙ own ∙ ap (option_map g) (sym own_before))
      by false is = (others i is).0

  put_kinds : ((i : ℕ) → kind_at new i ≡ kind_at s i) → (i : ℕ) → kind_at new i ≡ w.kind i
  put_kinds alike i = alike i ∙ sym (kept_kind e0 v i)

  put_targets : ((i : ℕ) → option_and_then target_in (get new.nodes i) ≡ option_and_then target_in (get s.nodes i)) → (i : ℕ) → option_and_then target_in (get new.nodes i) ≡ w.target i
  put_targets alike i = alike i ∙ sym (kept_target e0 v i)

map_same : (o : Option DirFacts) → option_map (λ (d : DirFacts). d) o ≡ o
map_same (Some d) = refl
map_same None = refl

-- a name gives a node that lies in its directory, or is none
module _ (s : Store) (u : ℕ) (n : List ℕ) (x : ℕ) (dir : kind_at s u ≡ Some kind.Dir) (only : IsOnly s u n) (fresh : kind_at s x ≡ Some kind.Dir → NoName s x) (parent : kind_at s x ≡ Some kind.Dir → parent_by x (dir_in s x) ≡ u) where
  abbrev set : Store
  set = set_entry s u n (Ino x)

  abbrev g : Names → Names
  g names = insert names n (Ino x)

  exactly : (d : ℕ) (m : List ℕ) → entry_of set d m ≡ cond (hit u n d m) (Some (Ino x)) (entry_of s d m)
  exactly = set_exact s u n (Ino x) dir

  alike : (i : ℕ) → (i ≡ x → ⊥) → (l : Bool) → known l (get set.nodes i) ≡ known l (get s.nodes i)
  alike i ne l = known_edit g s u i l

  none_still : ((l : Bool) → known l (get s.nodes x) ≡ None) → (l : Bool) → known l (get set.nodes x) ≡ None
  none_still none l = known_edit g s u x l ∙ none l

  under : kind_at s x ≡ Some kind.Dir → parent_by x (dir_in set x) ≡ u
  under own = (alike_names g s u).parents x ∙ parent own

  pub set_view : view_in set ≡ set_entry_at u n (Some (Ino x)) (view_in s)
  set_view =
      let k = (alike_names g s u).kinds in
      same_parts (view_in set) (set_entry_at u n (Some (Ino x)) (view_in s))
      (put_entries s set u n x exactly alike (k x) none_still only fresh under)
      (put_kinds s set u n x exactly alike (k x) none_still only fresh under k)
      (λ i. put_dirs s set u n x exactly alike (k x) none_still only fresh under (λ d. d) (known_edit g s u x true ∙ sym (map_same (known true (get s.nodes x)))) i
      ∙ ap (λ o. cond (x == i) o ((unlink_by (entry_of s u n) (put_entry u n (Some (Ino x)) (view_in s))).dir i)) (map_same _))
      (put_names s set u n x exactly alike (k x) none_still only fresh under)
      (put_targets s set u n x exactly alike (k x) none_still only fresh under (target_edit g s u))

-- ---- a name gives a node that is moved to its directory

known_moved : (p : ℕ) (hides : Bool) (l : Bool) (node : Node) → known l (Some (moved p hides node)) ≡ option_map (λ (d : DirFacts). record d { parent = p; opaque = opaque_by (known l (Some node)) || hides }) (known l (Some node))
known_moved p hides l (Dir parent opaque names) = refl
known_moved p hides l (File bytes) = refl
known_moved p hides l (Link target) = refl

target_moved : (p : ℕ) (hides : Bool) (node : Node) → target_in (moved p hides node) ≡ target_in node
target_moved p hides (Dir parent opaque names) = refl
target_moved p hides (File bytes) = refl
target_moved p hides (Link target) = refl

moved_targets : (p : ℕ) (hides : Bool) (t : Store) (x i : ℕ) → option_and_then target_in (get (with_node_at (moved p hides) t x).nodes i) ≡ option_and_then target_in (get t.nodes i)
moved_targets p hides t x i =
    at_node (moved p hides) t x i (λ o. option_and_then target_in o ≡ option_and_then target_in (get t.nodes i)) (λ node same at. target_moved p hides node ∙ sym (ap (option_and_then target_in) at)) refl

moved_other : (p : ℕ) (hides : Bool) (t : Store) (x i : ℕ) → (i ≡ x → ⊥) → (l : Bool) → known l (get (with_node_at (moved p hides) t x).nodes i) ≡ known l (get t.nodes i)
moved_other p hides t x i ne l = at_node (moved p hides) t x i (λ o. known l o ≡ known l (get t.nodes i)) (λ node same at. absurd (ne same)) refl

moved_own : (p : ℕ) (hides : Bool) (t : Store) (x : ℕ) (l : Bool)
    → known l (get (with_node_at (moved p hides) t x).nodes x) ≡ option_map (λ (d : DirFacts). record d { parent = p; opaque = opaque_by (known l (get t.nodes x)) || hides }) (known l (get t.nodes x))
moved_own p hides t x l = by (get t.nodes x) refl
  where
    by : (o : Option Node) → get t.nodes x ≡ o → known l (get (with_node (moved p hides) t.nodes x o) x) ≡ option_map (λ (d : DirFacts). record d { parent = p; opaque = opaque_by (known l o) || hides }) (known l o)
    by (Some node) at = ap (known l) (get_at-insert nat_cmp_total t.nodes x (moved p hides node)) ∙ known_moved p hides l node
    by None at = ap (known l) at

known_parent : (p : ℕ) (x : ℕ) (o : Option Node) (b : Bool) → option_map kind_of_node o ≡ Some kind.Dir → parent_by x (option_map (λ (d : DirFacts). record d { parent = p; opaque = b }) (known true o)) ≡ p
known_parent p x (Some (Dir parent opaque names)) b dir = refl
known_parent p x (Some (File bytes)) b dir = absurd cc
known_parent p x (Some (Link target)) b dir = absurd cc
known_parent p x None b dir = absurd cc

module _ (s : Store) (u : ℕ) (n : List ℕ) (x : ℕ) (hides : Bool) (dir : kind_at s u ≡ Some kind.Dir) (only : IsOnly s u n) (fresh : kind_at s x ≡ Some kind.Dir → NoName s x) where
  abbrev mid : Store
  mid = set_entry s u n (Ino x)

  abbrev four : Store
  four = with_node_at (moved u hides) mid x

  abbrev h : Names → Names
  h names = insert names n (Ino x)

  abbrev opaque : Bool
  opaque = opaque_by (known true (get s.nodes x)) || hides

  abbrev go : DirFacts → DirFacts
  go d = record d { parent = u; opaque = opaque }

  exact_four : (d : ℕ) (m : List ℕ) → entry_of four d m ≡ cond (hit u n d m) (Some (Ino x)) (entry_of s d m)
  exact_four d m = moved_entry u hides mid x d m ∙ set_exact s u n (Ino x) dir d m

  alike_four : (i : ℕ) → (i ≡ x → ⊥) → (l : Bool) → known l (get four.nodes i) ≡ known l (get s.nodes i)
  alike_four i ne l = moved_other u hides mid x i ne l ∙ known_edit h s u i l

  own_four : (l : Bool) → known l (get four.nodes x) ≡ option_map (λ (d : DirFacts). record d { parent = u; opaque = opaque_by (known l (get s.nodes x)) || hides }) (known l (get s.nodes x))
  own_four l = moved_own u hides mid x l ∙ ap (λ o. option_map (λ (d : DirFacts). record d { parent = u; opaque = opaque_by o || hides }) o) (known_edit h s u x l)

  none_four : ((l : Bool) → known l (get s.nodes x) ≡ None) → (l : Bool) → known l (get four.nodes x) ≡ None
  none_four none l = own_four l ∙ ap (λ o. option_map (λ (d : DirFacts). record d { parent = u; opaque = opaque_by o || hides }) o) (none l)

  kinds_four : (i : ℕ) → kind_at four i ≡ kind_at s i
  kinds_four i = moved_kinds u hides mid x i ∙ (alike_names h s u).kinds i

  here_four : entry_of four u n ≡ Some (Ino x)
  here_four = exact_four u n ∙ ap (λ b. cond b (Some (Ino x)) (entry_of s u n)) (hit_self u n)

  under_four : kind_at s x ≡ Some kind.Dir → parent_by x (dir_in four x) ≡ u
  under_four own =
      ap (parent_by x) (dir_known four x (get four.nodes x) ∙ ap (λ l. known l (get four.nodes x)) (linked_named four x (named_to four x u n here_four)) ∙ own_four true)
      ∙ known_parent u x (get s.nodes x) opaque own

  abbrev known_then : View
  known_then = put_dir go x (set_entry_at u n (Some (Ino x)) (view_in s))

  twice : (i : ℕ) → cond (x == i) (option_map go (option_map (λ (d : DirFacts). record d { linked = true }) ((unlink_by (entry_of s u n) (put_entry u n (Some (Ino x)) (view_in s))).dir i))) ((unlink_by (entry_of s u n) (put_entry u n (Some (Ino x)) (view_in s))).dir i) ≡ known_then.dir i
  twice i = by (x == i) ((unlink_by (entry_of s u n) (put_entry u n (Some (Ino x)) (view_in s))).dir i)
    where
      by : (b : Bool) (o : Option DirFacts) → cond b (option_map go (option_map (λ (d : DirFacts). record d { linked = true }) o)) o
          ≡ cond b (option_map go (cond b (option_map (λ (d : DirFacts). record d { linked = true }) o) o)) (cond b (option_map (λ (d : DirFacts). record d { linked = true }) o) o)
      by true o = refl
      by false o = refl

  pub moved_view : view_in four ≡ known_then
  moved_view =
      same_parts (view_in four) known_then
      (put_entries s four u n x exact_four alike_four (kinds_four x) none_four only fresh under_four)
      (put_kinds s four u n x exact_four alike_four (kinds_four x) none_four only fresh under_four kinds_four)
      (λ i. put_dirs s four u n x exact_four alike_four (kinds_four x) none_four only fresh under_four go (own_four true) i ∙ twice i)
      (put_names s four u n x exact_four alike_four (kinds_four x) none_four only fresh under_four)
      (put_targets s four u n x exact_four alike_four (kinds_four x) none_four only fresh under_four (λ i. moved_targets u hides mid x i ∙ target_edit h s u i))
