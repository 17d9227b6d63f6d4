-- What walks read of one store, and what edits of its names do to that.
use Rattle.std.proofs.Common.{◌≡◌, ℕ, Bool, true, false, cond, ◌&&◌, ◌==◌, List, [], ◌∷◌, refl, ap, sym, ◌∙◌, subst, eqb-true, eq-eqb}
use Rattle.std.specs.Prelude.{Option, Some, None, option_map, option_and_then}
use Rattle.std.specs.Cmp.{nat_cmp_total}
use Rattle.std.specs.FinMap.{get, insert}
use Rattle.std.specs.Str.{bytes_eq}
use Rattle.std.proofs.lemmas.Map.Lookups.{exact_unsigned}
use Rattle.finite_maps.proofs.EntryLaws.{by_key, get_at-insert}
use Rattle.vfs_tree.specs.Facts.{Facts}
use Rattle.vfs_tree.specs.Nodes.{entry_in}
use Rattle.vfs_tree.specs.Views.{kind_of_node, target_in, dir_in, dir_name, facts_of}
use Rattle.vfs_tree.specs.declared.node.Kind.{Kind}
use Rattle.vfs_tree.specs.declared.node.Kind.TheVariants as kind
use Rattle.vfs_tree.specs.declared.node.NameEntry.{NameEntry}
use Rattle.vfs_tree.specs.declared.node.NameEntry.TheVariants.{Ino, White}
use Rattle.vfs_tree.specs.declared.node.Store.{Store}
use Rattle.vfs_tree.specs.declared.view.DirFacts.{DirFacts}
use Rattle.vfs_tree.specs.declared.walk.NodeId.{NodeId}
use Rattle.vfs_tree.specs.declared.world.World.{World}
use Rattle.call_model.specs.NameEdits.{Edit, SetName, ClearName, ClearDir, NewDir, NewFile, NewLink, Moved, AddMount, Detach, DropMount, edited, edited_by, with_dir, with_name_of, unlinked_by, linked_by_entry, with_entry_at}
use Rattle.call_laws.proofs.NamedLaws.{no_way}

-- ---- one store

pub record View : Type 0 where
  pub entry : ℕ → List ℕ → Option NameEntry
  pub kind : ℕ → Option Kind
  pub dir : ℕ → Option DirFacts
  pub name_of : ℕ → Option (List ℕ)
  pub target : ℕ → Option (List ℕ)

-- what a view has of a store
abbrev pub part : Facts → ℕ → View
part f s = record { entry = f.entry s; kind = f.kind s; dir = f.dir s; name_of = f.name_of s; target = f.target s }

-- what walks read of a store, where it is there
abbrev pub view_at : Option Store → View
view_at o = record {
  entry = λ d n. entry_in n (option_and_then (λ (t : Store). get t.nodes d) o);
  kind = λ i. option_map kind_of_node (option_and_then (λ (t : Store). get t.nodes i) o);
  dir = λ i. option_and_then (λ t. dir_in t i) o;
  name_of = λ i. option_and_then (λ t. dir_name t i) o;
  target = λ i. option_and_then target_in (option_and_then (λ (t : Store). get t.nodes i) o);
}

abbrev pub view_in : Store → View
view_in t = view_at (Some t)

pub same_parts : (u v : View) → ((d : ℕ) (n : List ℕ) → u.entry d n ≡ v.entry d n) → ((i : ℕ) → u.kind i ≡ v.kind i) → ((i : ℕ) → u.dir i ≡ v.dir i) → ((i : ℕ) → u.name_of i ≡ v.name_of i) → ((i : ℕ) → u.target i ≡ v.target i) → u ≡ v
same_parts u v entry kind dir name target = λ k. record { entry = λ d n. entry d n k; kind = λ i. kind i k; dir = λ i. dir i k; name_of = λ i. name i k; target = λ i. target i k }

-- ---- edits of one store

abbrev pub put_dir : (DirFacts → DirFacts) → ℕ → View → View
put_dir g a v = record v { dir = λ i. cond (a == i) (option_map g (v.dir i)) (v.dir i) }

abbrev pub put_name : Option (List ℕ) → ℕ → View → View
put_name n a v = record v { name_of = λ i. cond (a == i) (option_and_then (λ d. n) (v.dir i)) (v.name_of i) }

abbrev pub link_to : ℕ → List ℕ → View → View
link_to a n v = put_name (Some n) a (put_dir (λ d. record d { linked = true }) a v)

abbrev pub unlink_at : ℕ → View → View
unlink_at a v = put_name None a (put_dir (λ d. record d { linked = a == 1 }) a v)

abbrev pub unlink_by : Option NameEntry → View → View
unlink_by (Some (Ino i)) v = unlink_at i v
unlink_by (Some White) v = v
unlink_by None v = v

abbrev pub link_by : List ℕ → Option NameEntry → View → View
link_by n (Some (Ino i)) v = link_to i n v
link_by n (Some White) v = v
link_by n None v = v

-- whether it is that name of that directory
abbrev pub hit : ℕ → List ℕ → ℕ → List ℕ → Bool
hit a n d m = (a == d) && bytes_eq n m

abbrev pub put_entry : ℕ → List ℕ → Option NameEntry → View → View
put_entry a n e v = record v { entry = λ d m. cond (hit a n d m) e (v.entry d m) }

abbrev pub set_entry_at : ℕ → List ℕ → Option NameEntry → View → View
set_entry_at a n e v = link_by n e (unlink_by (v.entry a n) (put_entry a n e v))

abbrev pub bared : ℕ → View → View
bared a v = record v { entry = λ d n. cond (a == d) None (v.entry d n) }

abbrev pub put_kind : Kind → ℕ → View → View
put_kind k a v = record v { kind = λ i. cond (a == i) (Some k) (v.kind i) }

abbrev pub put_new_dir : ℕ → ℕ → Bool → View → View
put_new_dir a parent opaque v =
    let new : DirFacts = record { parent = parent; opaque = opaque; linked = a == 1 } in
    record (put_kind kind.Dir a v) { dir = λ i. cond (a == i) (Some new) (v.dir i) }

abbrev pub put_new_link : ℕ → List ℕ → View → View
put_new_link a text v = record (put_kind kind.Link a v) { target = λ i. cond (a == i) (Some text) (v.target i) }

-- what walks read of the store after an edit of it
abbrev pub shown_after : View → Edit → View
shown_after v (SetName s d n e) = set_entry_at d n (Some e) v
shown_after v (ClearName s d n) = set_entry_at d n None v
shown_after v (ClearDir s d) = bared d v
shown_after v (NewDir s i parent opaque) = put_new_dir i parent opaque v
shown_after v (NewFile s i) = put_kind kind.File i v
shown_after v (NewLink s i text) = put_new_link i text v
shown_after v (Moved s i parent opaque) = put_dir (λ d. record d { parent = parent; opaque = opaque }) i v
shown_after v (AddMount t) = v
shown_after v (Detach m) = v
shown_after v (DropMount m) = v

abbrev pub shown_by : View → List Edit → View
shown_by v [] = v
shown_by v (e ∷ es) = shown_by (shown_after v e) es

-- ---- edits of a view that lie in one store

abbrev pub IsIn : ℕ → Edit → Type 0
IsIn x (SetName s d n e) = s ≡ x
IsIn x (ClearName s d n) = s ≡ x
IsIn x (ClearDir s d) = s ≡ x
IsIn x (NewDir s i parent opaque) = s ≡ x
IsIn x (NewFile s i) = s ≡ x
IsIn x (NewLink s i text) = s ≡ x
IsIn x (Moved s i parent opaque) = s ≡ x
IsIn x (AddMount t) = ⊥
IsIn x (Detach m) = ⊥
IsIn x (DropMount m) = ⊥

abbrev pub AreIn : ℕ → List Edit → Type 0
AreIn x [] = Unit {0}
AreIn x (e ∷ es) = IsIn x e × AreIn x es

abbrev id_in : ℕ → ℕ → NodeId
id_in s i = record { store = s; ino = i }

-- in the store itself
module _ (s : ℕ) where
  self : (s == s) ≡ true
  self = eq-eqb s s refl

  dir_here : (g : DirFacts → DirFacts) (a : ℕ) (f : Facts) → part (with_dir g (id_in s a) f) s ≡ put_dir g a (part f s)
  dir_here g a f = ap (λ (b : Bool). let v = part f s in record v { dir = λ i. cond (b && (a == i)) (option_map g (f.dir s i)) (f.dir s i) }) self

  name_here : (n : Option (List ℕ)) (a : ℕ) (f : Facts) → part (with_name_of n (id_in s a) f) s ≡ put_name n a (part f s)
  name_here n a f = ap (λ (b : Bool). let v = part f s in record v { name_of = λ i. cond (b && (a == i)) (option_and_then (λ d. n) (f.dir s i)) (f.name_of s i) }) self

  both_here : (n : Option (List ℕ)) (g : DirFacts → DirFacts) (a : ℕ) (f : Facts) → part (with_name_of n (id_in s a) (with_dir g (id_in s a) f)) s ≡ put_name n a (put_dir g a (part f s))
  both_here n g a f = name_here n a (with_dir g (id_in s a) f) ∙ ap (put_name n a) (dir_here g a f)

  unlink_here : (e : Option NameEntry) (f : Facts) → part (unlinked_by s e f) s ≡ unlink_by e (part f s)
  unlink_here (Some (Ino i)) f = both_here None (λ d. record d { linked = i == 1 }) i f
  unlink_here (Some White) f = refl
  unlink_here None f = refl

  link_here : (n : List ℕ) (e : Option NameEntry) (f : Facts) → part (linked_by_entry s n e f) s ≡ link_by n e (part f s)
  link_here n (Some (Ino i)) f = both_here (Some n) (λ d. record d { linked = true }) i f
  link_here n (Some White) f = refl
  link_here n None f = refl

  entry_here : (a : ℕ) (n : List ℕ) (e : Option NameEntry) (f : Facts) → part (with_entry_at (id_in s a) n e f) s ≡ set_entry_at a n e (part f s)
  entry_here a n e f =
      let g : Facts = record f { entry = λ x d o. cond (((s == x) && (a == d)) && bytes_eq n o) e (f.entry x d o) } in
      let put : part g s ≡ put_entry a n e (part f s) = ap (λ (b : Bool). let v = part f s in record v { entry = λ d o. cond ((b && (a == d)) && bytes_eq n o) e (f.entry s d o) }) self in
      link_here n e (unlinked_by s (f.entry s a n) g)
      ∙ ap (link_by n e) (unlink_here (f.entry s a n) g ∙ ap (unlink_by (f.entry s a n)) put)

  bared_here : (a : ℕ) (f : Facts) → part (edited f (ClearDir s a)) s ≡ bared a (part f s)
  bared_here a f = ap (λ (b : Bool). let v = part f s in record v { entry = λ d n. cond (b && (a == d)) None (f.entry s d n) }) self

  new_dir_here : (a parent : ℕ) (opaque : Bool) (f : Facts) → part (edited f (NewDir s a parent opaque)) s ≡ put_new_dir a parent opaque (part f s)
  new_dir_here a parent opaque f =
      let new : DirFacts = record { parent = parent; opaque = opaque; linked = a == 1 } in
      ap (λ (b : Bool). let v = part f s in record v { kind = λ i. cond (b && (a == i)) (Some kind.Dir) (f.kind s i); dir = λ i. cond (b && (a == i)) (Some new) (f.dir s i) }) self

  new_file_here : (a : ℕ) (f : Facts) → part (edited f (NewFile s a)) s ≡ put_kind kind.File a (part f s)
  new_file_here a f = ap (λ (b : Bool). let v = part f s in record v { kind = λ i. cond (b && (a == i)) (Some kind.File) (f.kind s i) }) self

  new_link_here : (a : ℕ) (text : List ℕ) (f : Facts) → part (edited f (NewLink s a text)) s ≡ put_new_link a text (part f s)
  new_link_here a text f =
      ap (λ (b : Bool). let v = part f s in record v { kind = λ i. cond (b && (a == i)) (Some kind.Link) (f.kind s i); target = λ i. cond (b && (a == i)) (Some text) (f.target s i) }) self

  edit_here : (f : Facts) (e : Edit) → IsIn s e → part (edited f e) s ≡ shown_after (part f s) e
  edit_here f (SetName r d n e) is = subst (λ x. part (edited f (SetName x d n e)) s ≡ set_entry_at d n (Some e) (part f s)) (sym is) (entry_here d n (Some e) f)
  edit_here f (ClearName r d n) is = subst (λ x. part (edited f (ClearName x d n)) s ≡ set_entry_at d n None (part f s)) (sym is) (entry_here d n None f)
  edit_here f (ClearDir r d) is = subst (λ x. part (edited f (ClearDir x d)) s ≡ bared d (part f s)) (sym is) (bared_here d f)
  edit_here f (NewDir r i p o) is = subst (λ x. part (edited f (NewDir x i p o)) s ≡ put_new_dir i p o (part f s)) (sym is) (new_dir_here i p o f)
  edit_here f (NewFile r i) is = subst (λ x. part (edited f (NewFile x i)) s ≡ put_kind kind.File i (part f s)) (sym is) (new_file_here i f)
  edit_here f (NewLink r i text) is = subst (λ x. part (edited f (NewLink x i text)) s ≡ put_new_link i text (part f s)) (sym is) (new_link_here i text f)
  edit_here f (Moved r i p o) is =
      subst (λ x. part (edited f (Moved x i p o)) s ≡ put_dir (λ d. record d { parent = p; opaque = o }) i (part f s)) (sym is) (dir_here (λ d. record d { parent = p; opaque = o }) i f)
  edit_here f (AddMount t) is = absurd is
  edit_here f (Detach m) is = absurd is
  edit_here f (DropMount m) is = absurd is

  edits_here : (f : Facts) (es : List Edit) → AreIn s es → part (edited_by f es) s ≡ shown_by (part f s) es
  edits_here f [] are = refl
  edits_here f (e ∷ es) are = edits_here (edited f e) es are.1 ∙ ap (λ v. shown_by v es) (edit_here f e are.0)

-- in another store
module _ (s x : ℕ) (off : (s == x) ≡ false) where
  dir_there : (g : DirFacts → DirFacts) (a : ℕ) (f : Facts) → part (with_dir g (id_in s a) f) x ≡ part f x
  dir_there g a f = ap (λ (b : Bool). let v = part f x in record v { dir = λ i. cond (b && (a == i)) (option_map g (f.dir x i)) (f.dir x i) }) off

  name_there : (n : Option (List ℕ)) (a : ℕ) (f : Facts) → part (with_name_of n (id_in s a) f) x ≡ part f x
  name_there n a f = ap (λ (b : Bool). let v = part f x in record v { name_of = λ i. cond (b && (a == i)) (option_and_then (λ d. n) (f.dir x i)) (f.name_of x i) }) off

  both_there : (n : Option (List ℕ)) (g : DirFacts → DirFacts) (a : ℕ) (f : Facts) → part (with_name_of n (id_in s a) (with_dir g (id_in s a) f)) x ≡ part f x
  both_there n g a f = name_there n a (with_dir g (id_in s a) f) ∙ dir_there g a f

  unlink_there : (e : Option NameEntry) (f : Facts) → part (unlinked_by s e f) x ≡ part f x
  unlink_there (Some (Ino i)) f = both_there None (λ d. record d { linked = i == 1 }) i f
  unlink_there (Some White) f = refl
  unlink_there None f = refl

  link_there : (n : List ℕ) (e : Option NameEntry) (f : Facts) → part (linked_by_entry s n e f) x ≡ part f x
  link_there n (Some (Ino i)) f = both_there (Some n) (λ d. record d { linked = true }) i f
  link_there n (Some White) f = refl
  link_there n None f = refl

  entry_there : (a : ℕ) (n : List ℕ) (e : Option NameEntry) (f : Facts) → part (with_entry_at (id_in s a) n e f) x ≡ part f x
  entry_there a n e f =
      let g : Facts = record f { entry = λ y d o. cond (((s == y) && (a == d)) && bytes_eq n o) e (f.entry y d o) } in
      let put : part g x ≡ part f x = ap (λ (b : Bool). let v = part f x in record v { entry = λ d o. cond ((b && (a == d)) && bytes_eq n o) e (f.entry x d o) }) off in
      link_there n e (unlinked_by s (f.entry s a n) g) ∙ unlink_there (f.entry s a n) g ∙ put

  bared_there : (a : ℕ) (f : Facts) → part (edited f (ClearDir s a)) x ≡ part f x
  bared_there a f = ap (λ (b : Bool). let v = part f x in record v { entry = λ d n. cond (b && (a == d)) None (f.entry x d n) }) off

  new_dir_there : (a parent : ℕ) (opaque : Bool) (f : Facts) → part (edited f (NewDir s a parent opaque)) x ≡ part f x
  new_dir_there a parent opaque f =
      let new : DirFacts = record { parent = parent; opaque = opaque; linked = a == 1 } in
      ap (λ (b : Bool). let v = part f x in record v { kind = λ i. cond (b && (a == i)) (Some kind.Dir) (f.kind x i); dir = λ i. cond (b && (a == i)) (Some new) (f.dir x i) }) off

  new_file_there : (a : ℕ) (f : Facts) → part (edited f (NewFile s a)) x ≡ part f x
  new_file_there a f = ap (λ (b : Bool). let v = part f x in record v { kind = λ i. cond (b && (a == i)) (Some kind.File) (f.kind x i) }) off

  new_link_there : (a : ℕ) (text : List ℕ) (f : Facts) → part (edited f (NewLink s a text)) x ≡ part f x
  new_link_there a text f =
      ap (λ (b : Bool). let v = part f x in record v { kind = λ i. cond (b && (a == i)) (Some kind.Link) (f.kind x i); target = λ i. cond (b && (a == i)) (Some text) (f.target x i) }) off

  edit_there : (f : Facts) (e : Edit) → IsIn s e → part (edited f e) x ≡ part f x
  edit_there f (SetName r d n e) is = subst (λ y. part (edited f (SetName y d n e)) x ≡ part f x) (sym is) (entry_there d n (Some e) f)
  edit_there f (ClearName r d n) is = subst (λ y. part (edited f (ClearName y d n)) x ≡ part f x) (sym is) (entry_there d n None f)
  edit_there f (ClearDir r d) is = subst (λ y. part (edited f (ClearDir y d)) x ≡ part f x) (sym is) (bared_there d f)
  edit_there f (NewDir r i p o) is = subst (λ y. part (edited f (NewDir y i p o)) x ≡ part f x) (sym is) (new_dir_there i p o f)
  edit_there f (NewFile r i) is = subst (λ y. part (edited f (NewFile y i)) x ≡ part f x) (sym is) (new_file_there i f)
  edit_there f (NewLink r i text) is = subst (λ y. part (edited f (NewLink y i text)) x ≡ part f x) (sym is) (new_link_there i text f)
  edit_there f (Moved r i p o) is = subst (λ y. part (edited f (Moved y i p o)) x ≡ part f x) (sym is) (dir_there (λ d. record d { parent = p; opaque = o }) i f)
  edit_there f (AddMount t) is = absurd is
  edit_there f (Detach m) is = absurd is
  edit_there f (DropMount m) is = absurd is

  edits_there : (f : Facts) (es : List Edit) → AreIn s es → part (edited_by f es) x ≡ part f x
  edits_there f [] are = refl
  edits_there f (e ∷ es) are = edits_there (edited f e) es are.1 ∙ edit_there f e are.0

-- mounts are as before
record Mounted (f g : Facts) : Type 0 where
  pub covering : f.covering ≡ g.covering
  pub mount : f.mount ≡ g.mount

through : (f g h : Facts) → Mounted f g → Mounted g h → Mounted f h
through f g h a b = record { covering = a.covering ∙ b.covering; mount = a.mount ∙ b.mount }

mounted_unlinked : (s : ℕ) (e : Option NameEntry) (f : Facts) → Mounted (unlinked_by s e f) f
mounted_unlinked s (Some (Ino i)) f = record { covering = refl; mount = refl }
mounted_unlinked s (Some White) f = record { covering = refl; mount = refl }
mounted_unlinked s None f = record { covering = refl; mount = refl }

mounted_linked : (s : ℕ) (n : List ℕ) (e : Option NameEntry) (f : Facts) → Mounted (linked_by_entry s n e f) f
mounted_linked s n (Some (Ino i)) f = record { covering = refl; mount = refl }
mounted_linked s n (Some White) f = record { covering = refl; mount = refl }
mounted_linked s n None f = record { covering = refl; mount = refl }

mounted_entry : (s a : ℕ) (n : List ℕ) (e : Option NameEntry) (f : Facts) → Mounted (with_entry_at (id_in s a) n e f) f
mounted_entry s a n e f =
    let g : Facts = record f { entry = λ y d o. cond (((s == y) && (a == d)) && bytes_eq n o) e (f.entry y d o) } in
    let u : Facts = unlinked_by s (f.entry s a n) g in
    through (with_entry_at (id_in s a) n e f) u f (mounted_linked s n e u) (through u g f (mounted_unlinked s (f.entry s a n) g) (record { covering = refl; mount = refl }))

mounted_edit : (s : ℕ) (f : Facts) (e : Edit) → IsIn s e → Mounted (edited f e) f
mounted_edit s f (SetName r d n e) is = mounted_entry r d n (Some e) f
mounted_edit s f (ClearName r d n) is = mounted_entry r d n None f
mounted_edit s f (ClearDir r d) is = record { covering = refl; mount = refl }
mounted_edit s f (NewDir r i p o) is = record { covering = refl; mount = refl }
mounted_edit s f (NewFile r i) is = record { covering = refl; mount = refl }
mounted_edit s f (NewLink r i text) is = record { covering = refl; mount = refl }
mounted_edit s f (Moved r i p o) is = record { covering = refl; mount = refl }
mounted_edit s f (AddMount t) is = absurd is
mounted_edit s f (Detach m) is = absurd is
mounted_edit s f (DropMount m) is = absurd is

mounted_edits : (s : ℕ) (f : Facts) (es : List Edit) → AreIn s es → Mounted (edited_by f es) f
mounted_edits s f [] are = record { covering = refl; mount = refl }
mounted_edits s f (e ∷ es) are = through (edited_by f (e ∷ es)) (edited f e) f (mounted_edits s (edited f e) es are.1) (mounted_edit s f e are.0)

-- ---- a store of a world is edited

same_facts : (f g : Facts) → ((x : ℕ) → part f x ≡ part g x) → Mounted f g → f ≡ g
same_facts f g parts mounted = λ k. record {
  entry = λ s. (parts s k).entry;
  kind = λ s. (parts s k).kind;
  dir = λ s. (parts s k).dir;
  name_of = λ s. (parts s k).name_of;
  target = λ s. (parts s k).target;
  covering = mounted.covering k;
  mount = mounted.mount k;
}

module _ (w : World) (s : ℕ) (t new : Store) (es : List Edit) (at : get w.stores s ≡ Some t) (are : AreIn s es) (shows : view_in new ≡ shown_by (view_in t) es) where
  abbrev v : World
  v = record w { stores = insert w.stores s new }

  each : (x : ℕ) (b : Bool) → (s == x) ≡ b → part (facts_of v) x ≡ part (edited_by (facts_of w) es) x
  each x true is =
      let same : s ≡ x = eqb-true s x is in
      subst (λ y. part (facts_of v) y ≡ part (edited_by (facts_of w) es) y) same
      (ap view_at (get_at-insert nat_cmp_total w.stores s new) ∙ shows ∙ ap (λ o. shown_by (view_at o) es) (sym at) ∙ sym (edits_here s (facts_of w) es are))
  each x false is =
      ap view_at (by_key nat_cmp_total exact_unsigned w.stores s new x (λ o. o ≡ get w.stores x) (λ same. no_way (sym is ∙ eq-eqb s x (sym same))) refl)
      ∙ sym (edits_there s x is (facts_of w) es are)

  -- where the edits tell what the store shows then, they tell what the world shows
  pub edited_store : facts_of v ≡ edited_by (facts_of w) es
  edited_store = same_facts (facts_of v) (edited_by (facts_of w) es) (λ x. each x (s == x) refl) (let m = mounted_edits s (facts_of w) es are in record { covering = sym m.covering; mount = sym m.mount })
