-- Names that alone give a directory.
use Rattle.std.proofs.Common.{◌≡◌, ℕ, zero, suc, inl, inr, Bool, true, false, cond, ◌&&◌, ◌==◌, List, refl, ap, sym, ◌∙◌, subst, eqb-true}
use Rattle.std.specs.Prelude.{Option, Some, None}
use Rattle.std.specs.FinMap.{get, empty}
use Rattle.std.specs.Str.{bytes_eq}
use Rattle.vfs_tree.specs.Layers.{linked_by, parent_by}
use Rattle.vfs_tree.specs.Sound.{climb}
use Rattle.vfs_tree.specs.StoreEdits.{entry_of, emptied}
use Rattle.vfs_tree.specs.Views.{dir_in}
use Rattle.vfs_tree.specs.declared.node.Kind.TheVariants as kind
use Rattle.vfs_tree.specs.declared.node.NameEntry.{NameEntry}
use Rattle.vfs_tree.specs.declared.node.NameEntry.TheVariants.{Ino, White}
use Rattle.vfs_tree.specs.declared.node.Store.{Store}
use Rattle.call_laws.proofs.DropLaws.{NoDir, emptied_case, alike_emptied, none_ino}
use Rattle.call_laws.proofs.MadeLaws.{StoreNames, kind_at, none_some, linked_is, linked_dir, no_dir, linked_way, name_or}
use Rattle.call_laws.proofs.NamedLaws.{no_way, named_from}
use Rattle.edit_laws.proofs.NameViews.{IsOnly, known_edit}
use Rattle.edit_laws.proofs.StoreViews.{View, view_in, hit, same_parts, put_entry, unlink_by, link_by, set_entry_at, bared}
use Rattle.edit_laws.proofs.Touched.{known}

-- none of its names gives anything
abbrev pub IsBare : Store → ℕ → Type 0
IsBare t j = (i : ℕ) (m : List ℕ) → entry_of t j m ≡ Some (Ino i) → ⊥

-- where the root gives nothing, no directory whose parents lead to it does
module _ (t : Store) (names : StoreNames t) (bare : IsBare t 1) where
  linked_of : (d i : ℕ) (m : List ℕ) → entry_of t d m ≡ Some (Ino i) → (b : Bool) → linked_by (dir_in t d) ≡ b → b ≡ true
  linked_of d i m e true is = refl
  linked_of d i m e false is = none_some (names.removed d m is) e

  no_climb : (k d i : ℕ) (m : List ℕ) → entry_of t d m ≡ Some (Ino i) → climb k (dir_in t) d ≡ 1 → ⊥
  no_climb zero d i m e up = bare i m (sym (ap (λ x. entry_of t x m) up) ∙ e)
  no_climb (suc k) d i m e up = by (λ n f. no_climb k (parent_by d (dir_in t d)) d n f up) (d == 1) refl
    where
      linked : linked_by (dir_in t d) ≡ true
      linked = let is = linked_of d i m e (linked_by (dir_in t d)) refl in is

      by : ((n : List ℕ) → entry_of t (parent_by d (dir_in t d)) n ≡ Some (Ino d) → ⊥) → (b : Bool) → (d == 1) ≡ b → ⊥
      by more true is = bare i m (sym (ap (λ x. entry_of t x m) (eqb-true d 1 is)) ∙ e)
      by more false is = elim (linked_way t d (linked_is t d (get t.nodes d) linked)) as (λ _. ⊥) [
        | inl root ↦ no_way (sym is ∙ root)
        | inr named ↦
            let x = named_from t d named in
            let dir : kind_at t d ≡ Some kind.Dir = linked_dir t d (get t.nodes d) linked in
            let o = names.once x.dir d x.name x.entry dir is in
            more x.name (sym (ap (λ y. entry_of t y x.name) o.0) ∙ x.entry)
      ]

pub not_root : (t : Store) → StoreNames t → (u j : ℕ) (n : List ℕ) → linked_by (dir_in t u) ≡ true → entry_of t u n ≡ Some (Ino j) → IsBare t j → (j == 1) ≡ false
not_root t names u j n linked at bare = by (j == 1) refl
  where
    by : (b : Bool) → (j == 1) ≡ b → b ≡ false
    by true is = let up = names.lead u linked in absurd (no_climb t names (subst (IsBare t) (eqb-true j 1 is) bare) up.steps u j n at up.root)
    by false is = refl

-- a directory that is given by a name, and isn't the root, is given by no other
pub only_one : (t : Store) → StoreNames t → (u : ℕ) (n : List ℕ) → ((j : ℕ) → entry_of t u n ≡ Some (Ino j) → kind_at t j ≡ Some kind.Dir → (j == 1) ≡ false) → IsOnly t u n
only_one t names u n other j at dir d m e =
    let o = other j at dir in
    let a = names.once d j m e dir o in
    let b = names.once u j n at dir o in
    (a.0 ∙ sym b.0, ap name_or (sym a.1 ∙ b.1))

-- where some directory is emptied, the names that are left were there
pub less_emptied : (t : Store) (e : Option NameEntry) (d i : ℕ) (m : List ℕ) → entry_of (emptied t e) d m ≡ Some (Ino i) → entry_of t d m ≡ Some (Ino i)
less_emptied t e d i m = emptied_case t e d m (λ o. o ≡ Some (Ino i) → entry_of t d m ≡ Some (Ino i)) (λ _ _ _ x. none_ino x) (λ x. x)

pub only_emptied : (t : Store) (e : Option NameEntry) (u : ℕ) (n : List ℕ) → IsOnly t u n → IsOnly (emptied t e) u n
only_emptied t e u n only j at dir d m x = only j (less_emptied t e u j n at) (sym ((alike_emptied t e).kinds j) ∙ dir) d m (less_emptied t e d j m x)

pub known_emptied : (t : Store) (e : Option NameEntry) (i : ℕ) (l : Bool) → known l (get (emptied t e).nodes i) ≡ known l (get t.nodes i)
known_emptied t (Some (Ino j)) i l = known_edit (λ names. empty) t j i l
known_emptied t (Some White) i l = refl
known_emptied t None i l = refl

-- ---- views

-- a file has no names to lose
pub bared_file : (t : Store) (j : ℕ) → NoDir t j → bared j (view_in t) ≡ view_in t
bared_file t j file = same_parts (bared j (view_in t)) (view_in t) (λ d m. by d m (j == d) refl) (λ i. refl) (λ i. refl) (λ i. refl) (λ i. refl)
  where
    by : (d : ℕ) (m : List ℕ) (b : Bool) → (j == d) ≡ b → cond b None (entry_of t d m) ≡ entry_of t d m
    by d m true is = sym (ap (λ x. entry_of t x m) (sym (eqb-true j d is)) ∙ no_dir t j m (get t.nodes j) file)
    by d m false is = refl

unlink_bared : (j : ℕ) (e : Option NameEntry) (v : View) → unlink_by e (bared j v) ≡ bared j (unlink_by e v)
unlink_bared j (Some (Ino i)) v = refl
unlink_bared j (Some White) v = refl
unlink_bared j None v = refl

link_bared : (j : ℕ) (n : List ℕ) (e : Option NameEntry) (v : View) → link_by n e (bared j v) ≡ bared j (link_by n e v)
link_bared j n (Some (Ino i)) v = refl
link_bared j n (Some White) v = refl
link_bared j n None v = refl

put_bared : (j u : ℕ) (n : List ℕ) (e : Option NameEntry) (v : View) → (j == u) ≡ false → put_entry u n e (bared j v) ≡ bared j (put_entry u n e v)
put_bared j u n e v off = same_parts (put_entry u n e (bared j v)) (bared j (put_entry u n e v)) (λ d m. by d m (j == d) refl) (λ i. refl) (λ i. refl) (λ i. refl) (λ i. refl)
  where
    other : (d : ℕ) (m : List ℕ) → (j == d) ≡ true → (b : Bool) → (u == d) ≡ b → (b && bytes_eq n m) ≡ false
    other d m is true at = no_way (sym off ∙ ap (λ x. j == x) (eqb-true u d at) ∙ is)
    other d m is false at = refl

    by : (d : ℕ) (m : List ℕ) (b : Bool) → (j == d) ≡ b → cond (hit u n d m) e (cond b None (v.entry d m)) ≡ cond b None (cond (hit u n d m) e (v.entry d m))
    by d m true is = ap (λ x. cond x e None) (other d m is (u == d) refl)
    by d m false is = refl

-- a name of another directory is set before or after
pub set_bared : (j u : ℕ) (n : List ℕ) (e : Option NameEntry) (v : View) → (j == u) ≡ false → set_entry_at u n e (bared j v) ≡ bared j (set_entry_at u n e v)
set_bared j u n e v off =
    ap (λ x. link_by n e (unlink_by (cond x None (v.entry u n)) (put_entry u n e (bared j v)))) off
    ∙ ap (λ x. link_by n e (unlink_by (v.entry u n) x)) (put_bared j u n e v off)
    ∙ ap (link_by n e) (unlink_bared j (v.entry u n) (put_entry u n e v))
    ∙ link_bared j n e (unlink_by (v.entry u n) (put_entry u n e v))
