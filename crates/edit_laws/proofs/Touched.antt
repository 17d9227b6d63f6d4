-- What is known of a directory of a store after an edit, told by the names that give it.
use Rattle.std.proofs.Common.{◌≡◌, ℕ, ◌⊎◌, inl, inr, Bool, true, false, cond, ◌==◌, ◌||◌, List, refl, ap, sym, ◌∙◌, eqb-true, eq-eqb}
use Rattle.std.specs.Prelude.{Option, Some, None, option_map, option_and_then}
use Rattle.std.specs.FinMap.{get}
use Rattle.vfs_tree.specs.Edits.{with_names}
use Rattle.vfs_tree.specs.Nodes.{Names}
use Rattle.vfs_tree.specs.StoreEdits.{entry_of}
use Rattle.vfs_tree.specs.Views.{kind_of_node, name_by, is_named_in, is_linked_in, facts_in, dir_in, dir_name}
use Rattle.vfs_tree.specs.declared.node.Kind.TheVariants as kind
use Rattle.vfs_tree.specs.declared.node.NameEntry.{NameEntry}
use Rattle.vfs_tree.specs.declared.node.NameEntry.TheVariants.{Ino, White}
use Rattle.vfs_tree.specs.declared.node.Node.{Node}
use Rattle.vfs_tree.specs.declared.node.Node.TheVariants.{Dir, File, Link}
use Rattle.vfs_tree.specs.declared.node.Store.{Store}
use Rattle.vfs_tree.specs.declared.view.DirFacts.{DirFacts}
use Rattle.call_laws.proofs.MadeLaws.{kind_at, inode_of}
use Rattle.call_laws.proofs.NamedLaws.{no_way, named_from, named_to}
use Rattle.call_laws.proofs.SoundParts.{not_so}
use Rattle.edit_laws.proofs.FirstNames.{same_name_by, no_name_by}
use Rattle.edit_laws.proofs.StoreViews.{View, view_in, unlink_by}

same_truth : (a b : Bool) → (a ≡ true → b ≡ true) → (b ≡ true → a ≡ true) → a ≡ b
same_truth true b f g = sym (f refl)
same_truth false true f g = g refl
same_truth false false f g = refl

-- ---- what is known of a node, where it is linked or not

abbrev pub known : Bool → Option Node → Option DirFacts
known l (Some (Dir parent opaque names)) = Some (record { parent = parent; opaque = opaque; linked = l })
known l (Some (File bytes)) = None
known l (Some (Link target)) = None
known l None = None

pub dir_known : (t : Store) (i : ℕ) (o : Option Node) → option_and_then (facts_in t i) o ≡ known (is_linked_in t i) o
dir_known t i (Some (Dir parent opaque names)) = refl
dir_known t i (Some (File bytes)) = refl
dir_known t i (Some (Link target)) = refl
dir_known t i None = refl

pub known_names : (l : Bool) (g : Names → Names) (node : Node) → known l (Some (with_names g node)) ≡ known l (Some node)
known_names l g (Dir parent opaque names) = refl
known_names l g (File bytes) = refl
known_names l g (Link target) = refl

pub relinked : (a b : Bool) (o : Option Node) → known a o ≡ option_map (λ (d : DirFacts). record d { linked = a }) (known b o)
relinked a b (Some (Dir parent opaque names)) = refl
relinked a b (Some (File bytes)) = refl
relinked a b (Some (Link target)) = refl
relinked a b None = refl

-- a node is a directory, or nothing is known of it
pub dir_or : (o : Option Node) → (option_map kind_of_node o ≡ Some kind.Dir) ⊎ ((l : Bool) → known l o ≡ None)
dir_or (Some (Dir parent opaque names)) = inl refl
dir_or (Some (File bytes)) = inr (λ l. refl)
dir_or (Some (Link target)) = inr (λ l. refl)
dir_or None = inr (λ l. refl)

abbrev pub no_name : DirFacts → Option (List ℕ)
no_name d = None

and_none : (o : Option DirFacts) → option_and_then no_name o ≡ None
and_none (Some d) = refl
and_none None = refl

-- the same names give a node in two stores
pub record Same (t new : Store) (i : ℕ) : Type 0 where
  pub to : (d : ℕ) (m : List ℕ) → entry_of t d m ≡ Some (Ino i) → entry_of new d m ≡ Some (Ino i)
  pub back : (d : ℕ) (m : List ℕ) → entry_of new d m ≡ Some (Ino i) → entry_of t d m ≡ Some (Ino i)

-- no name gives it
abbrev pub NoName : Store → ℕ → Type 0
NoName t i = (d : ℕ) (m : List ℕ) → entry_of t d m ≡ Some (Ino i) → ⊥

pub unnamed : (t : Store) (i : ℕ) → NoName t i → is_linked_in t i ≡ (i == 1)
unnamed t i none = by (i == 1)
  where
    off : is_named_in t i ≡ false
    off = not_so (is_named_in t i) (λ h. let x = named_from t i h in none x.dir x.name x.entry)

    by : (b : Bool) → (b || is_named_in t i) ≡ b
    by true = refl
    by false = off

pub no_dir_name : (t : Store) (i : ℕ) → NoName t i → dir_name t i ≡ None
no_dir_name t i none = by (dir_in t i)
  where
    by : (o : Option DirFacts) → option_and_then (λ (d : DirFacts). name_by i (get t.nodes d.parent)) o ≡ None
    by (Some d) = no_name_by i (get t.nodes d.parent) (λ m e. none d.parent m e)
    by None = refl

module _ (t new : Store) (i : ℕ) (nodes : (l : Bool) → known l (get new.nodes i) ≡ known l (get t.nodes i)) where
  -- what is known of it is what was, but for its link
  dir_now : dir_in new i ≡ known (is_linked_in new i) (get t.nodes i)
  dir_now = dir_known new i (get new.nodes i) ∙ nodes (is_linked_in new i)

  gone_dir : NoName new i → dir_in new i ≡ option_map (λ (d : DirFacts). record d { linked = i == 1 }) (dir_in t i)
  gone_dir none =
      dir_now ∙ ap (λ l. known l (get t.nodes i)) (unnamed new i none) ∙ relinked (i == 1) (is_linked_in t i) (get t.nodes i)
      ∙ ap (option_map (λ (d : DirFacts). record d { linked = i == 1 })) (sym (dir_known t i (get t.nodes i)))

  module _ (same : Same t new i) where
    same_link : is_linked_in new i ≡ is_linked_in t i
    same_link = ap (λ b. (i == 1) || b) (same_truth (is_named_in new i) (is_named_in t i)
        (λ h. let x = named_from new i h in named_to t i x.dir x.name (same.back x.dir x.name x.entry))
        (λ h. let x = named_from t i h in named_to new i x.dir x.name (same.to x.dir x.name x.entry)))

    pub same_dir : dir_in new i ≡ dir_in t i
    same_dir = dir_now ∙ ap (λ l. known l (get t.nodes i)) same_link ∙ sym (dir_known t i (get t.nodes i))

    names_alike : (o : Option DirFacts) → option_and_then (λ (d : DirFacts). name_by i (get new.nodes d.parent)) o ≡ option_and_then (λ (d : DirFacts). name_by i (get t.nodes d.parent)) o
    names_alike (Some d) = same_name_by i (get new.nodes d.parent) (get t.nodes d.parent) (same.back d.parent) (same.to d.parent)
    names_alike None = refl

    pub same_name : dir_name new i ≡ dir_name t i
    same_name = names_alike (dir_in new i) ∙ ap (option_and_then (λ (d : DirFacts). name_by i (get t.nodes d.parent))) same_dir

-- ---- what a name gave is given no more

module _ (t new : Store) (en : ℕ → List ℕ → Option NameEntry) where
  abbrev v : View
  v = record (view_in t) { entry = en }

  unlinked_dir : (e : Option NameEntry) (i : ℕ) → ((l : Bool) → known l (get new.nodes i) ≡ known l (get t.nodes i)) → (e ≡ Some (Ino i) → kind_at t i ≡ Some kind.Dir → NoName new i) → ((e ≡ Some (Ino i) → ⊥) → Same t new i)
      → dir_in new i ≡ (unlink_by e v).dir i
  unlinked_dir (Some (Ino j)) i nodes gone same = by (j == i) refl
    where
      no_dir : ((l : Bool) → known l (get t.nodes i) ≡ None) → dir_in new i ≡ option_map (λ (d : DirFacts). record d { linked = j == 1 }) (dir_in t i)
      no_dir none = dir_now t new i nodes ∙ none (is_linked_in new i) ∙ sym (ap (option_map (λ (d : DirFacts). record d { linked = j == 1 })) (dir_known t i (get t.nodes i) ∙ none (is_linked_in t i)))

      by : (b : Bool) → (j == i) ≡ b → dir_in new i ≡ cond b (option_map (λ (d : DirFacts). record d { linked = j == 1 }) (dir_in t i)) (dir_in t i)
      by true is = elim (dir_or (get t.nodes i)) as (λ _. dir_in new i ≡ option_map (λ (d : DirFacts). record d { linked = j == 1 }) (dir_in t i)) [
        | inl dir ↦ gone_dir t new i nodes (gone (ap (λ x. Some (Ino x)) (eqb-true j i is)) dir) ∙ ap (λ x. option_map (λ (d : DirFacts). record d { linked = x == 1 }) (dir_in t i)) (sym (eqb-true j i is))
        | inr none ↦ no_dir none
      ]
      by false is = same_dir t new i nodes (same (λ e. no_way (sym is ∙ eq-eqb j i (ap inode_of e))))
  unlinked_dir (Some White) i nodes gone same = same_dir t new i nodes (same (λ e. absurd (let clash : Some White ≡ Some (Ino i) = e in cc)))
  unlinked_dir None i nodes gone same = same_dir t new i nodes (same (λ e. absurd (let clash : None ≡ Some (Ino i) = e in cc)))

  unlinked_name : (e : Option NameEntry) (i : ℕ) → ((l : Bool) → known l (get new.nodes i) ≡ known l (get t.nodes i)) → (e ≡ Some (Ino i) → kind_at t i ≡ Some kind.Dir → NoName new i) → ((e ≡ Some (Ino i) → ⊥) → Same t new i)
      → dir_name new i ≡ (unlink_by e v).name_of i
  unlinked_name (Some (Ino j)) i nodes gone same = by (j == i) refl
    where
      by : (b : Bool) → (j == i) ≡ b → dir_name new i ≡ cond b (option_and_then no_name (cond b (option_map (λ (d : DirFacts). record d { linked = j == 1 }) (dir_in t i)) (dir_in t i))) (dir_name t i)
      by true is = elim (dir_or (get t.nodes i)) as (λ _. dir_name new i ≡ option_and_then no_name (option_map (λ (d : DirFacts). record d { linked = j == 1 }) (dir_in t i))) [
        | inl dir ↦ no_dir_name new i (gone (ap (λ x. Some (Ino x)) (eqb-true j i is)) dir) ∙ sym (and_none (option_map (λ (d : DirFacts). record d { linked = j == 1 }) (dir_in t i)))
        | inr none ↦ ap (option_and_then (λ (d : DirFacts). name_by i (get new.nodes d.parent))) (dir_now t new i nodes ∙ none (is_linked_in new i)) ∙ sym (and_none (option_map (λ (d : DirFacts). record d { linked = j == 1 }) (dir_in t i)))
      ]
      by false is = same_name t new i nodes (same (λ e. no_way (sym is ∙ eq-eqb j i (ap inode_of e))))
  unlinked_name (Some White) i nodes gone same = same_name t new i nodes (same (λ e. absurd (let clash : Some White ≡ Some (Ino i) = e in cc)))
  unlinked_name None i nodes gone same = same_name t new i nodes (same (λ e. absurd (let clash : None ≡ Some (Ino i) = e in cc)))

  pub unlinked_both : (e : Option NameEntry) (i : ℕ) → ((l : Bool) → known l (get new.nodes i) ≡ known l (get t.nodes i)) → (e ≡ Some (Ino i) → kind_at t i ≡ Some kind.Dir → NoName new i) → ((e ≡ Some (Ino i) → ⊥) → Same t new i)
      → (dir_in new i ≡ (unlink_by e v).dir i) × (dir_name new i ≡ (unlink_by e v).name_of i)
  unlinked_both e i nodes gone same = (unlinked_dir e i nodes gone same, unlinked_name e i nodes gone same)
