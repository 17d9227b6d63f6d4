-- Names of a store are set, dropped and moved: its names stay sound where no directory is moved.
use Rattle.std.proofs.Common.{◌≡◌, ℕ, zero, suc, ◌≤◌, ◌<◌, ◌⊎◌, inl, inr, Bool, true, false, cond, ◌==◌, ◌||◌, List, refl, ap, sym, ◌∙◌, subst}
use Rattle.std.specs.Prelude.{Option, Some, None, IsSome, IfSome, is_some, option_map, option_and_then}
use Rattle.std.specs.Cmp.{nat_cmp_total}
use Rattle.std.specs.Cmp.Lexicographic.{nat_list_cmp_total}
use Rattle.std.specs.Ordering.{eq_by_cmp}
use Rattle.std.specs.FinMap.{get, insert, remove, empty, get-empty, get-remove}
use Rattle.std.proofs.lemmas.Map.Lookups.{exact_unsigned, exact_bytes}
use Rattle.finite_maps.proofs.EntryLaws.{by_key, get_at-insert}
use Rattle.vfs_tree.specs.Edits.{with_names, with_node}
use Rattle.vfs_tree.specs.Layers.{linked_by, parent_by}
use Rattle.vfs_tree.specs.Name.{name_cmp}
use Rattle.vfs_tree.specs.Nodes.{Names, entry_in, is_white, is_given, AreBelow}
use Rattle.vfs_tree.specs.Sound.{climb, LeadsUp}
use Rattle.vfs_tree.specs.StoreEdits.{entry_of, with_node_at, set_entry, clear_entry, emptied, drop_entry, removed, moved, renamed_to, renamed}
use Rattle.vfs_tree.specs.Views.{kind_of_node, is_linked_in, facts_in, dir_in, dir_name}
use Rattle.vfs_tree.specs.declared.node.Kind.TheVariants as kind
use Rattle.vfs_tree.specs.declared.node.NameEntry.{NameEntry}
use Rattle.vfs_tree.specs.declared.node.NameEntry.TheVariants.{Ino, White}
use Rattle.vfs_tree.specs.declared.node.Node.{Node}
use Rattle.vfs_tree.specs.declared.node.Node.TheVariants.{Dir, File, Link}
use Rattle.vfs_tree.specs.declared.node.Store.{Store}
use Rattle.vfs_tree.specs.declared.view.DirFacts.{DirFacts}
use Rattle.call_laws.proofs.MadeLaws.{kind_at, none_some, same_parent, linked_is, is_linked, linked_dir, no_dir, linked_way, linked_root, linked_named, inode_of, name_or}
use Rattle.call_laws.proofs.NamedLaws.{no_way, named_from, named_to, name_is}
use Rattle.call_laws.proofs.WholeLaws.{IsWell, IsKept}
use Rattle.call_laws.proofs.WeightLaws.{equal}

-- ---- one node is changed

-- what stands at a name after another was taken away, by cases
without_key : (m : Names) (k q : List ℕ) (P : Option NameEntry → Type 0) → (q ≡ k → P None) → P (get m q) → P (get (remove m k) q)
without_key m k q P here there = subst P (sym (get-remove nat_list_cmp_total m k q))
    (elim (eq_by_cmp name_cmp q k) as (λ b. eq_by_cmp name_cmp q k ≡ b → P (cond b None (get m q))) [ true ↦ λ e. here (exact_bytes q k (equal _ e)) | false ↦ λ _. there ] refl)

pub at_node : (f : Node → Node) (t : Store) (i d : ℕ) (P : Option Node → Type 0) → ((node : Node) → d ≡ i → get t.nodes d ≡ Some node → P (Some (f node))) → P (get t.nodes d) → P (get (with_node_at f t i).nodes d)
at_node f t i d P here there = by (get t.nodes i) refl
  where
    by : (o : Option Node) → get t.nodes i ≡ o → P (get (with_node f t.nodes i o) d)
    by (Some node) e = by_key nat_cmp_total exact_unsigned t.nodes i (f node) d P (λ same. here node same (ap (get t.nodes) same ∙ e)) there
    by None e = there

-- kinds, parents and the next number are as before
pub record AreAlike (t new : Store) : Type 0 where
  pub kinds : (d : ℕ) → kind_at new d ≡ kind_at t d
  pub parents : (d : ℕ) → parent_by d (dir_in new d) ≡ parent_by d (dir_in t d)
  pub next : new.next ≡ t.next

pub alike_through : (s t u : Store) → AreAlike s t → AreAlike t u → AreAlike s u
alike_through s t u h k = record { kinds = λ d. k.kinds d ∙ h.kinds d; parents = λ d. k.parents d ∙ h.parents d; next = k.next ∙ h.next }

pub alike_itself : (t : Store) → AreAlike t t
alike_itself t = record { kinds = λ d. refl; parents = λ d. refl; next = refl }

kind_names : (g : Names → Names) (node : Node) → option_map kind_of_node (Some (with_names g node)) ≡ option_map kind_of_node (Some node)
kind_names g (Dir parent opaque names) = refl
kind_names g (File bytes) = refl
kind_names g (Link target) = refl

parent_names : (g : Names → Names) (s t : Store) (d : ℕ) (node : Node) → parent_by d (option_and_then (facts_in s d) (Some (with_names g node))) ≡ parent_by d (option_and_then (facts_in t d) (Some node))
parent_names g s t d (Dir parent opaque names) = refl
parent_names g s t d (File bytes) = refl
parent_names g s t d (Link target) = refl

pub alike_names : (g : Names → Names) (t : Store) (i : ℕ) → AreAlike t (with_node_at (with_names g) t i)
alike_names g t i =
    let new : Store = with_node_at (with_names g) t i in
    record {
      kinds = λ d. at_node (with_names g) t i d (λ o. option_map kind_of_node o ≡ kind_at t d) (λ node same at. kind_names g node ∙ sym (ap (option_map kind_of_node) at)) refl;
      parents = λ d. at_node (with_names g) t i d (λ o. parent_by d (option_and_then (facts_in new d) o) ≡ parent_by d (dir_in t d))
          (λ node same at. parent_names g new t d node ∙ sym (ap (λ o. parent_by d (option_and_then (facts_in t d) o)) at)) (same_parent new t d (get t.nodes d));
      next = refl;
    }

-- ---- what stands at a name after an edit, by cases

names_case : (g : Names → Names) (t : Store) (i d : ℕ) (m : List ℕ) (P : Option NameEntry → Type 0) → (d ≡ i → (names : Names) → ((k : List ℕ) → entry_of t d k ≡ get names k) → P (get (g names) m)) → P (entry_of t d m)
    → P (entry_of (with_node_at (with_names g) t i) d m)
names_case g t i d m P here there = at_node (with_names g) t i d (λ o. P (entry_in m o)) by there
  where
    by : (node : Node) → d ≡ i → get t.nodes d ≡ Some node → P (entry_in m (Some (with_names g node)))
    by (Dir parent opaque names) same at = here same names (λ k. ap (entry_in k) at)
    by (File bytes) same at = subst (λ o. P (entry_in m o)) at there
    by (Link target) same at = subst (λ o. P (entry_in m o)) at there

pub set_case : (t : Store) (u : ℕ) (n : List ℕ) (e : NameEntry) (d : ℕ) (m : List ℕ) (P : Option NameEntry → Type 0) → (d ≡ u → m ≡ n → P (Some e)) → P (entry_of t d m) → P (entry_of (set_entry t u n e) d m)
set_case t u n e d m P here there =
    names_case (λ names. insert names n e) t u d m P (λ same names is.
    by_key nat_list_cmp_total exact_bytes names n e m P (λ at. here same at) (subst P (is m) there)) there

pub clear_case : (t : Store) (u : ℕ) (n : List ℕ) (d : ℕ) (m : List ℕ) (P : Option NameEntry → Type 0) → (d ≡ u → m ≡ n → P None) → P (entry_of t d m) → P (entry_of (clear_entry t u n) d m)
clear_case t u n d m P here there =
    names_case (λ names. remove names n) t u d m P (λ same names is. without_key names n m P (λ at. here same at) (subst P (is m) there)) there

pub drop_case : (white : Bool) (t : Store) (u : ℕ) (n : List ℕ) (d : ℕ) (m : List ℕ) (P : Option NameEntry → Type 0) → (d ≡ u → m ≡ n → P (Some White)) → (d ≡ u → m ≡ n → P None) → P (entry_of t d m) → P (entry_of (drop_entry white t u n) d m)
drop_case true t u n d m P w none there = set_case t u n White d m P w there
drop_case false t u n d m P w none there = clear_case t u n d m P none there

pub emptied_case : (t : Store) (e : Option NameEntry) (d : ℕ) (m : List ℕ) (P : Option NameEntry → Type 0) → ((i : ℕ) → e ≡ Some (Ino i) → d ≡ i → P None) → P (entry_of t d m) → P (entry_of (emptied t e) d m)
emptied_case t (Some (Ino i)) d m P here there =
    names_case (λ names. empty) t i d m P (λ same names is. subst P (sym (get-empty {X = NameEntry} name_cmp m)) (here i refl same)) there
emptied_case t (Some White) d m P here there = there
emptied_case t None d m P here there = there

empty_names : (m : List ℕ) (node : Node) → entry_in m (Some (with_names (λ names. empty) node)) ≡ None
empty_names m (Dir parent opaque names) = get-empty {X = NameEntry} name_cmp m
empty_names m (File bytes) = refl
empty_names m (Link target) = refl

-- a directory that is emptied has nothing at any name
pub emptied_at : (t : Store) (e : Option NameEntry) (i : ℕ) (m : List ℕ) → e ≡ Some (Ino i) → entry_of (emptied t e) i m ≡ None
emptied_at t e i m is = subst (λ x. entry_of (emptied t x) i m ≡ None) (sym is) (by (get t.nodes i) refl)
  where
    by : (o : Option Node) → get t.nodes i ≡ o → entry_in m (get (with_node (with_names (λ names. empty)) t.nodes i o) i) ≡ None
    by (Some node) at = ap (entry_in m) (get_at-insert nat_cmp_total t.nodes i (with_names (λ names. empty) node)) ∙ empty_names m node
    by None at = ap (entry_in m) at

set_node : (m : List ℕ) (e : NameEntry) (node : Node) → option_map kind_of_node (Some node) ≡ Some kind.Dir → entry_in m (Some (with_names (λ names. insert names m e) node)) ≡ Some e
set_node m e (Dir parent opaque names) dir = get_at-insert nat_list_cmp_total names m e
set_node m e (File bytes) dir = absurd cc
set_node m e (Link target) dir = absurd cc

-- and what is set stands there
pub set_at : (t : Store) (u : ℕ) (n : List ℕ) (e : NameEntry) → kind_at t u ≡ Some kind.Dir → entry_of (set_entry t u n e) u n ≡ Some e
set_at t u n e dir = by (get t.nodes u) refl
  where
    by : (o : Option Node) → get t.nodes u ≡ o → entry_in n (get (with_node (with_names (λ names. insert names n e)) t.nodes u o) u) ≡ Some e
    by (Some node) at =
        ap (entry_in n) (get_at-insert nat_cmp_total t.nodes u (with_names (λ names. insert names n e) node)) ∙ set_node n e node (sym (ap (option_map kind_of_node) at) ∙ dir)
    by None at = none_some (ap (option_map kind_of_node) at) dir

pub alike_drop : (white : Bool) (t : Store) (u : ℕ) (n : List ℕ) → AreAlike t (drop_entry white t u n)
alike_drop true t u n = alike_names (λ names. insert names n White) t u
alike_drop false t u n = alike_names (λ names. remove names n) t u

pub alike_emptied : (t : Store) (e : Option NameEntry) → AreAlike t (emptied t e)
alike_emptied t (Some (Ino i)) = alike_names (λ names. empty) t i
alike_emptied t (Some White) = alike_itself t
alike_emptied t None = alike_itself t

-- ---- no directory is moved

abbrev pub NoDir : Store → ℕ → Type 0
NoDir t i = kind_at t i ≡ Some kind.Dir → ⊥

pub kind_some : (o : Option Node) → IsSome o → IsSome (option_map kind_of_node o)
kind_some (Some x) h = refl
kind_some None h = no_way h

pub some_kind : (o : Option Node) → IsSome (option_map kind_of_node o) → IsSome o
some_kind (Some x) h = refl
some_kind None h = no_way h

pub dir_there : (t : Store) (i : ℕ) (o : Option Node) (d : DirFacts) → option_and_then (facts_in t i) o ≡ Some d → IsSome (option_map kind_of_node o)
dir_there t i (Some x) d e = refl
dir_there t i None d e = absurd (let clash : None ≡ Some d = e in cc)

-- numbers stay below the next one
pub alike_below : (t new : Store) → AreAlike t new → AreBelow t.nodes t.next → AreBelow new.nodes new.next
alike_below t new h below i there =
    subst (λ x. i < x) (sym h.next) (below i (some_kind (get t.nodes i) (ap is_some (sym (h.kinds i)) ∙ kind_some (get new.nodes i) there)))

pub parent_there : (t : Store) (i : ℕ) → IfSome (dir_in t i) (λ d. IsSome (kind_at t d.parent)) → IsSome (kind_at t i) → IsSome (kind_at t (parent_by i (dir_in t i)))
parent_there t i h there = by (dir_in t i) h
  where
    by : (o : Option DirFacts) → IfSome o (λ d. IsSome (kind_at t d.parent)) → IsSome (kind_at t (parent_by i o))
    by (Some d) h = h
    by None h = there

parents_of : (t new : Store) → AreAlike t new → ((i : ℕ) → IfSome (dir_in t i) (λ d. IsSome (kind_at t d.parent))) → (i : ℕ) (o : Option DirFacts) → dir_in new i ≡ o → IfSome o (λ d. IsSome (kind_at new d.parent))
parents_of t new h parents i (Some d) e =
    let there : IsSome (kind_at t i) = ap is_some (sym (h.kinds i)) ∙ dir_there new i (get new.nodes i) d e in
    let own : IsSome (kind_at t (parent_by i (dir_in t i))) = parent_there t i (parents i) there in
    ap (λ p. is_some (kind_at new p)) (sym (ap (parent_by i) e) ∙ h.parents i) ∙ ap is_some (h.kinds (parent_by i (dir_in t i))) ∙ own
parents_of t new h parents i None e = tt

climb_alike : (t new : Store) → AreAlike t new → (k i : ℕ) → climb k (dir_in new) i ≡ climb k (dir_in t) i
climb_alike t new h zero i = refl
climb_alike t new h (suc k) i = ap (climb k (dir_in new)) (h.parents i) ∙ climb_alike t new h k (parent_by i (dir_in t i))

module _ (t new : Store) (alike : AreAlike t new) (well : IsWell t) (Gone : ℕ → Type 0)
    (given : (d i : ℕ) (m : List ℕ) → entry_of new d m ≡ Some (Ino i) → (entry_of t d m ≡ Some (Ino i)) ⊎ (NoDir t i × IsSome (kind_at t i)))
    (stays : (d i : ℕ) (m : List ℕ) → entry_of t d m ≡ Some (Ino i) → Gone i ⊎ (entry_of new d m ≡ Some (Ino i)))
    (quiet : (d : ℕ) (m : List ℕ) → linked_by (dir_in t d) ≡ false → entry_of new d m ≡ None)
    (bare : (d : ℕ) (m : List ℕ) → Gone d → entry_of new d m ≡ None) where
  old_link : (i : ℕ) → kind_at t i ≡ Some kind.Dir → is_linked_in new i ≡ true → is_linked_in t i ≡ true
  old_link i dir h = elim (linked_way new i h) as (λ _. is_linked_in t i ≡ true) [
    | inl root ↦ linked_root t i root
    | inr named ↦ let x = named_from new i named in elim (given x.dir i x.name x.entry) as (λ _. is_linked_in t i ≡ true) [
      | inl e ↦ linked_named t i (named_to t i x.dir x.name e)
      | inr file ↦ absurd (file.0 dir)
    ]
  ]

  dir_before : (i : ℕ) → kind_at new i ≡ Some kind.Dir → kind_at t i ≡ Some kind.Dir
  dir_before i dir = sym (alike.kinds i) ∙ dir

  kept_lead : (i : ℕ) → linked_by (dir_in new i) ≡ true → LeadsUp (dir_in new) i
  kept_lead i h =
      let dir = dir_before i (linked_dir new i (get new.nodes i) h) in
      let up = well.names.lead i (is_linked t i (get t.nodes i) dir (old_link i dir (linked_is new i (get new.nodes i) h))) in
      record { steps = up.steps; root = climb_alike t new alike up.steps i ∙ up.root }

  -- a linked directory from which no link went
  lost : (d : ℕ) (m : List ℕ) → is_linked_in t d ≡ true → kind_at t d ≡ Some kind.Dir → linked_by (dir_in new d) ≡ false → entry_of new d m ≡ None
  lost d m h dir off =
      let now : is_linked_in new d ≡ true → entry_of new d m ≡ None = λ x. no_way (sym off ∙ is_linked new d (get new.nodes d) (alike.kinds d ∙ dir) x) in
      elim (linked_way t d h) as (λ _. entry_of new d m ≡ None) [
        | inl root ↦ now (linked_root new d root)
        | inr named ↦ let x = named_from t d named in elim (stays x.dir d x.name x.entry) as (λ _. entry_of new d m ≡ None) [
          | inl gone ↦ bare d m gone
          | inr e ↦ now (linked_named new d (named_to new d x.dir x.name e))
        ]
      ]

  removed_case : (d : ℕ) (m : List ℕ) (b : Bool) → linked_by (dir_in t d) ≡ b → linked_by (dir_in new d) ≡ false → entry_of new d m ≡ None
  removed_case d m false is off = quiet d m is
  removed_case d m true is off = lost d m (linked_is t d (get t.nodes d) is) (linked_dir t d (get t.nodes d) is) off

  kept_given : (d i : ℕ) (m : List ℕ) → entry_of new d m ≡ Some (Ino i) → IsSome (kind_at new i)
  kept_given d i m e = ap is_some (alike.kinds i) ∙ elim (given d i m e) as (λ _. IsSome (kind_at t i)) [ inl old ↦ well.names.given d i m old | inr file ↦ file.1 ]

  -- a name that gives a directory did before
  old_entry : (d i : ℕ) (m : List ℕ) → entry_of new d m ≡ Some (Ino i) → kind_at new i ≡ Some kind.Dir → entry_of t d m ≡ Some (Ino i)
  old_entry d i m e dir = elim (given d i m e) as (λ _. entry_of t d m ≡ Some (Ino i)) [ inl old ↦ old | inr file ↦ absurd (file.0 (dir_before i dir)) ]

  kept_once : (d i : ℕ) (m : List ℕ) → entry_of new d m ≡ Some (Ino i) → kind_at new i ≡ Some kind.Dir → (i == 1) ≡ false → (d ≡ parent_by i (dir_in new i)) × (dir_name new i ≡ Some m)
  kept_once d i m e dir other =
      let was = dir_before i dir in
      let old = well.names.once d i m (old_entry d i m e dir) was other in
      let p : d ≡ parent_by i (dir_in new i) = old.0 ∙ sym (alike.parents i) in (
        p,
        name_is new i m dir (subst (λ x. entry_of new x m ≡ Some (Ino i)) p e) (λ k f.
            ap name_or (sym (well.names.once (parent_by i (dir_in new i)) i k (old_entry (parent_by i (dir_in new i)) i k f dir) was other).1 ∙ old.1)),
      )

  -- the store keeps all that it should
  pub dropped_kept : IsKept t new
  dropped_kept = record {
    well = record {
      names = record { lead = kept_lead; removed = λ d m off. removed_case d m (linked_by (dir_in t d)) refl off; given = kept_given; once = kept_once };
      below = alike_below t new alike well.below;
      most = subst (λ x. x ≤ 4294967295) (sym alike.next) well.most;
      parents = λ i. parents_of t new alike well.parents i (dir_in new i) refl;
    };
    kinds = λ i k e. alike.kinds i ∙ e;
  }

-- ---- unlink and rmdir

pub white_ino : {A : Type 0} {i : ℕ} → Some White ≡ Some (Ino i) → A
white_ino {i = i} e = absurd (let clash : Some White ≡ Some (Ino i) = e in cc)

pub none_ino : {A : Type 0} {i : ℕ} → None ≡ Some (Ino i) → A
none_ino {i = i} e = absurd (let clash : None ≡ Some (Ino i) = e in cc)

-- a name of a linked directory is dropped; what it gave has no names that give anything
module _ (t : Store) (white : Bool) (u : ℕ) (n : List ℕ) (well : IsWell t) (linked : linked_by (dir_in t u) ≡ true)
    (bare : (j : ℕ) → entry_of t u n ≡ Some (Ino j) → (i : ℕ) (m : List ℕ) → entry_of t j m ≡ Some (Ino i) → ⊥) where
  abbrev mid : Store
  mid = emptied t (entry_of t u n)

  abbrev new : Store
  new = removed white t u n

  abbrev Gone : ℕ → Type 0
  Gone x = entry_of t u n ≡ Some (Ino x)

  given : (d i : ℕ) (m : List ℕ) → entry_of new d m ≡ Some (Ino i) → (entry_of t d m ≡ Some (Ino i)) ⊎ (NoDir t i × IsSome (kind_at t i))
  given d i m =
      drop_case white mid u n d m (λ o. o ≡ Some (Ino i) → (entry_of t d m ≡ Some (Ino i)) ⊎ (NoDir t i × IsSome (kind_at t i))) (λ _ _ e. white_ino e) (λ _ _ e. none_ino e)
      (emptied_case t (entry_of t u n) d m (λ o. o ≡ Some (Ino i) → (entry_of t d m ≡ Some (Ino i)) ⊎ (NoDir t i × IsSome (kind_at t i))) (λ _ _ _ e. none_ino e) (λ e. inl e))

  stays : (d i : ℕ) (m : List ℕ) → entry_of t d m ≡ Some (Ino i) → Gone i ⊎ (entry_of new d m ≡ Some (Ino i))
  stays d i m e =
      let hit : (o : Option NameEntry) → d ≡ u → m ≡ n → Gone i ⊎ (o ≡ Some (Ino i)) = λ o p q. inl (sym (ap (λ x. entry_of t x n) p) ∙ sym (ap (entry_of t d) q) ∙ e) in
      drop_case white mid u n d m (λ o. Gone i ⊎ (o ≡ Some (Ino i))) (hit (Some White)) (hit None)
      (emptied_case t (entry_of t u n) d m (λ o. Gone i ⊎ (o ≡ Some (Ino i))) (λ j is same. absurd (bare j is i m (sym (ap (λ x. entry_of t x m) same) ∙ e))) (inr e))

  quiet : (d : ℕ) (m : List ℕ) → linked_by (dir_in t d) ≡ false → entry_of new d m ≡ None
  quiet d m off =
      let hit : d ≡ u → Some White ≡ None = λ p. no_way (sym off ∙ ap (λ x. linked_by (dir_in t x)) p ∙ linked) in
      drop_case white mid u n d m (λ o. o ≡ None) (λ p _. hit p) (λ _ _. refl)
      (emptied_case t (entry_of t u n) d m (λ o. o ≡ None) (λ _ _ _. refl) (well.names.removed d m off))

  gone_bare : (d : ℕ) (m : List ℕ) → Gone d → entry_of new d m ≡ None
  gone_bare d m gone =
      drop_case white mid u n d m (λ o. o ≡ None) (λ p _. absurd (bare d gone d n (ap (λ x. entry_of t x n) p ∙ gone))) (λ _ _. refl) (emptied_at t (entry_of t u n) d m gone)

  pub removed_kept : IsKept t new
  removed_kept = dropped_kept t new (alike_through t mid new (alike_emptied t (entry_of t u n)) (alike_drop white mid u n)) well Gone given stays quiet gone_bare

-- ---- link

-- a name of a linked directory that gave nothing gives a file
module _ (t : Store) (u : ℕ) (n : List ℕ) (x : ℕ) (well : IsWell t) (linked : linked_by (dir_in t u) ≡ true) (free : is_given (entry_of t u n) ≡ false) (file : NoDir t x) (there : IsSome (kind_at t x)) where
  pub linked_kept : IsKept t (set_entry t u n (Ino x))
  linked_kept =
      dropped_kept t (set_entry t u n (Ino x)) (alike_names (λ names. insert names n (Ino x)) t u) well (λ _. ⊥)
      (λ d i m. set_case t u n (Ino x) d m (λ o. o ≡ Some (Ino i) → (entry_of t d m ≡ Some (Ino i)) ⊎ (NoDir t i × IsSome (kind_at t i)))
      (λ _ _ e. inr (subst (λ y. NoDir t y × IsSome (kind_at t y)) (ap inode_of e) (file, there))) (λ e. inl e))
      (λ d i m e. set_case t u n (Ino x) d m (λ o. ⊥ ⊎ (o ≡ Some (Ino i)))
      (λ p q. no_way (sym free ∙ ap is_given (sym (ap (λ y. entry_of t y n) p) ∙ sym (ap (entry_of t d) q) ∙ e))) (inr e))
      (λ d m off. set_case t u n (Ino x) d m (λ o. o ≡ None) (λ p _. no_way (sym off ∙ ap (λ y. linked_by (dir_in t y)) p ∙ linked)) (well.names.removed d m off))
      (λ d m gone. absurd gone)

-- ---- undelete

white_given : (o : Option NameEntry) (i : ℕ) → is_white o ≡ true → o ≡ Some (Ino i) → ⊥
white_given (Some (Ino j)) i h e = no_way h
white_given (Some White) i h e = white_ino e
white_given None i h e = no_way h

-- a whiteout goes
pub undeleted_kept : (t : Store) (u : ℕ) (n : List ℕ) → IsWell t → is_white (entry_of t u n) ≡ true → IsKept t (clear_entry t u n)
undeleted_kept t u n well white =
    dropped_kept t (clear_entry t u n) (alike_names (λ names. remove names n) t u) well (λ _. ⊥)
    (λ d i m. clear_case t u n d m (λ o. o ≡ Some (Ino i) → (entry_of t d m ≡ Some (Ino i)) ⊎ (NoDir t i × IsSome (kind_at t i))) (λ _ _ e. none_ino e) (λ e. inl e))
    (λ d i m e. clear_case t u n d m (λ o. ⊥ ⊎ (o ≡ Some (Ino i))) (λ p q. absurd (white_given (entry_of t u n) i white (sym (ap (λ y. entry_of t y n) p) ∙ sym (ap (entry_of t d) q) ∙ e))) (inr e))
    (λ d m off. clear_case t u n d m (λ o. o ≡ None) (λ _ _. refl) (well.names.removed d m off))
    (λ d m gone. absurd gone)

-- ---- rename of a file

kind_moved : (p : ℕ) (hides : Bool) (node : Node) → option_map kind_of_node (Some (moved p hides node)) ≡ option_map kind_of_node (Some node)
kind_moved p hides (Dir parent opaque names) = refl
kind_moved p hides (File bytes) = refl
kind_moved p hides (Link target) = refl

entry_moved : (p : ℕ) (hides : Bool) (m : List ℕ) (node : Node) → entry_in m (Some (moved p hides node)) ≡ entry_in m (Some node)
entry_moved p hides m (Dir parent opaque names) = refl
entry_moved p hides m (File bytes) = refl
entry_moved p hides m (Link target) = refl

pub moved_kinds : (p : ℕ) (hides : Bool) (t : Store) (x d : ℕ) → kind_at (with_node_at (moved p hides) t x) d ≡ kind_at t d
moved_kinds p hides t x d = at_node (moved p hides) t x d (λ o. option_map kind_of_node o ≡ kind_at t d) (λ node same at. kind_moved p hides node ∙ sym (ap (option_map kind_of_node) at)) refl

pub moved_entry : (p : ℕ) (hides : Bool) (t : Store) (x d : ℕ) (m : List ℕ) → entry_of (with_node_at (moved p hides) t x) d m ≡ entry_of t d m
moved_entry p hides t x d m = at_node (moved p hides) t x d (λ o. entry_in m o ≡ entry_of t d m) (λ node same at. entry_moved p hides m node ∙ sym (ap (entry_in m) at)) refl

parent_moved_file : (p : ℕ) (hides : Bool) (s t : Store) (d : ℕ) (node : Node) → (option_map kind_of_node (Some node) ≡ Some kind.Dir → ⊥)
    → parent_by d (option_and_then (facts_in s d) (Some (moved p hides node))) ≡ parent_by d (option_and_then (facts_in t d) (Some node))
parent_moved_file p hides s t d (Dir parent opaque names) file = absurd (file refl)
parent_moved_file p hides s t d (File bytes) file = refl
parent_moved_file p hides s t d (Link target) file = refl

alike_moved_file : (p : ℕ) (hides : Bool) (t : Store) (x : ℕ) → NoDir t x → AreAlike t (with_node_at (moved p hides) t x)
alike_moved_file p hides t x file =
    let new : Store = with_node_at (moved p hides) t x in
    record {
      kinds = moved_kinds p hides t x;
      parents = λ d. at_node (moved p hides) t x d (λ o. parent_by d (option_and_then (facts_in new d) o) ≡ parent_by d (dir_in t d))
          (λ node same at. parent_moved_file p hides new t d node (λ dir. file (sym (ap (kind_at t) same) ∙ ap (option_map kind_of_node) at ∙ dir)) ∙ sym (ap (λ o. parent_by d (option_and_then (facts_in t d) o)) at))
          (same_parent new t d (get t.nodes d));
      next = refl;
    }

pub alike_set : (t : Store) (u : ℕ) (n : List ℕ) (e : NameEntry) → AreAlike t (set_entry t u n e)
alike_set t u n e = alike_names (λ names. insert names n e) t u

-- a name that is moved, step by step: what it replaces is emptied, the old name is dropped, the new one set, and the node moved
module _ (t : Store) (white hides : Bool) (from : ℕ) (old : List ℕ) (to : ℕ) (n : List ℕ) (x : ℕ) where
  abbrev pub one : Store
  one = emptied t (entry_of t to n)

  abbrev pub two : Store
  two = drop_entry white one from old

  abbrev pub three : Store
  three = set_entry two to n (Ino x)

  abbrev pub four : Store
  four = with_node_at (moved to hides) three x

  pub alike_two : AreAlike t two
  alike_two = alike_through t one two (alike_emptied t (entry_of t to n)) (alike_drop white one from old)

  pub alike_three : AreAlike t three
  alike_three = alike_through t two three alike_two (alike_set two to n (Ino x))

  -- what stands at a name then, by cases
  pub cases : (d : ℕ) (m : List ℕ) (P : Option NameEntry → Type 0) → (d ≡ to → m ≡ n → P (Some (Ino x))) → (d ≡ from → m ≡ old → P (Some White)) → (d ≡ from → m ≡ old → P None)
      → ((j : ℕ) → entry_of t to n ≡ Some (Ino j) → d ≡ j → P None) → P (entry_of t d m) → P (entry_of four d m)
  cases d m P a b c e f = subst P (sym (moved_entry to hides three x d m)) (set_case two to n (Ino x) d m P a (drop_case white one from old d m P b c (emptied_case t (entry_of t to n) d m P e f)))

  module _ (well : IsWell t) (at : entry_of t from old ≡ Some (Ino x)) (file : NoDir t x)
      (linked_from : linked_by (dir_in t from) ≡ true) (linked_to : linked_by (dir_in t to) ≡ true) (target : (j : ℕ) → entry_of t to n ≡ Some (Ino j) → NoDir t j) where
    abbrev Given : ℕ → List ℕ → ℕ → Type 0
    Given d m i = (entry_of t d m ≡ Some (Ino i)) ⊎ (NoDir t i × IsSome (kind_at t i))

    file_given : (d i : ℕ) (m : List ℕ) → entry_of four d m ≡ Some (Ino i) → Given d m i
    file_given d i m =
        cases d m (λ o. o ≡ Some (Ino i) → Given d m i) (λ _ _ e. inr (subst (λ y. NoDir t y × IsSome (kind_at t y)) (ap inode_of e) (file, well.names.given from x old at))) (λ _ _ e. white_ino e) (λ _ _ e. none_ino e)
        (λ _ _ _ e. none_ino e) (λ e. inl e)

    file_stays : (d i : ℕ) (m : List ℕ) → entry_of t d m ≡ Some (Ino i) → NoDir t i ⊎ (entry_of four d m ≡ Some (Ino i))
    file_stays d i m e =
        let moved_on : (o : Option NameEntry) → d ≡ from → m ≡ old → NoDir t i ⊎ (o ≡ Some (Ino i)) = λ o p q.
        inl (subst (NoDir t) (ap inode_of (sym at ∙ sym (ap (λ y. entry_of t y old) p) ∙ sym (ap (entry_of t d) q) ∙ e)) file) in
        cases d m (λ o. NoDir t i ⊎ (o ≡ Some (Ino i))) (λ p q. inl (target i (sym (ap (λ y. entry_of t y n) p) ∙ sym (ap (entry_of t d) q) ∙ e))) (moved_on (Some White)) (moved_on None)
        (λ j is same. none_some (no_dir t d m (get t.nodes d) (subst (NoDir t) (sym same) (target j is))) e) (inr e)

    file_quiet : (d : ℕ) (m : List ℕ) → linked_by (dir_in t d) ≡ false → entry_of four d m ≡ None
    file_quiet d m off =
        cases d m (λ o. o ≡ None) (λ p _. no_way (sym off ∙ ap (λ y. linked_by (dir_in t y)) p ∙ linked_to)) (λ p _. no_way (sym off ∙ ap (λ y. linked_by (dir_in t y)) p ∙ linked_from)) (λ _ _. refl)
        (λ _ _ _. refl) (well.names.removed d m off)

    four_alike : AreAlike t four
    four_alike = alike_through t three four alike_three (alike_moved_file to hides three x (λ dir. file (sym (alike_three.kinds x) ∙ dir)))

    pub file_kept : IsKept t four
    file_kept =
        dropped_kept t four four_alike well (NoDir t) file_given file_stays file_quiet
        (λ d m file. no_dir four d m (get four.nodes d) (λ dir. file (sym (four_alike.kinds d) ∙ dir)))

    -- a file is moved to a name of a linked directory
    pub renamed_file : (opaque : Bool) → hides ≡ (opaque || is_white (entry_of t to n)) → IsKept t (renamed white opaque t from old to n)
    renamed_file opaque is =
        subst (λ o. IsKept t (renamed_to two to n (opaque || is_white (entry_of t to n)) o)) (sym at)
        (subst (λ b. IsKept t (with_node_at (moved to b) three x)) is file_kept)
