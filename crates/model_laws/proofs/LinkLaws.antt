-- A directory is linked exactly where a name of its parent gives it.
use Rattle.std.proofs.Common.{◌≡◌, ℕ, ◌⊎◌, inl, inr, true, false, ◌==◌, List, refl, ap, sym, ◌∙◌, subst}
use Rattle.std.specs.Prelude.{Option, Some, None, IsSome, option_and_then}
use Rattle.std.specs.FinMap.{get}
use Rattle.vfs_tree.specs.Layers.{linked_by, parent_by, is_linked, parent_ino}
use Rattle.vfs_tree.specs.Nodes.{entry_in}
use Rattle.vfs_tree.specs.Sound.{IsSound}
use Rattle.vfs_tree.specs.StoreEdits.{entry_of}
use Rattle.vfs_tree.specs.Views.{is_linked_in, is_named_in, facts_in, dir_in, dir_name, facts_of}
use Rattle.vfs_tree.specs.declared.node.Kind.TheVariants as kind
use Rattle.vfs_tree.specs.declared.node.NameEntry.TheVariants.{Ino}
use Rattle.vfs_tree.specs.declared.node.Node.{Node}
use Rattle.vfs_tree.specs.declared.node.Node.TheVariants.{Dir, File, Link}
use Rattle.vfs_tree.specs.declared.node.Store.{Store}
use Rattle.vfs_tree.specs.declared.world.World.{World}
use Rattle.call_laws.proofs.MadeLaws.{StoreNames, linked_is, linked_dir, linked_way, linked_root, linked_named, name_or}
use Rattle.call_laws.proofs.NamedLaws.{no_way, named_from, named_to}
use Rattle.call_laws.proofs.SoundMade.{NamesOf}
use Rattle.model_laws.specs.Named.{IsNamedAbove}

-- ---- a store

-- its directory's name
record NamedIn (t : Store) (i : ℕ) : Type 0 where
  pub name : List ℕ
  pub known : dir_name t i ≡ Some name
  pub gives : entry_of t (parent_by i (dir_in t i)) name ≡ Some (Ino i)

named_way : (t : Store) (i : ℕ) → StoreNames t → linked_by (dir_in t i) ≡ true → (i == 1) ≡ false → ((i == 1) ≡ true) ⊎ (is_named_in t i ≡ true) → NamedIn t i
named_way t i sound h other (inl root) = no_way (sym other ∙ root)
named_way t i sound h other (inr named) =
    let x = named_from t i named in
    let o = sound.once x.dir i x.name x.entry (linked_dir t i (get t.nodes i) h) other in
    record { name = x.name; known = o.1; gives = subst (λ d. entry_of t d x.name ≡ Some (Ino i)) o.0 x.entry }

as_dir : (t : Store) (i : ℕ) (o : Option Node) → IsSome (option_and_then (facts_in t i) o) → is_linked_in t i ≡ true → linked_by (option_and_then (facts_in t i) o) ≡ true
as_dir t i (Some (Dir parent opaque names)) there h = h
as_dir t i (Some (File bytes)) there h = no_way there
as_dir t i (Some (Link target)) there h = no_way there
as_dir t i None there h = no_way there

-- ---- a world

module _ (w : World) (s : ℕ) where
  named_by : (i : ℕ) (o : Option Store) → get w.stores s ≡ o → NamesOf o → linked_by (option_and_then (λ (t : Store). dir_in t i) o) ≡ true → (i == 1) ≡ false → IsNamedAbove (facts_of w) s i
  named_by i (Some t) at sound h other =
      let x = named_way t i sound h other (linked_way t i (linked_is t i (get t.nodes i) h)) in
      record {
        name = x.name;
        known = ap (option_and_then (λ (t : Store). dir_name t i)) at ∙ x.known;
        gives = ap (λ (o : Option Store). entry_in x.name (option_and_then (λ (t : Store). get t.nodes (parent_by i (option_and_then (λ (t : Store). dir_in t i) o))) o)) at ∙ x.gives;
      }
  named_by i None at sound h other = no_way h

  given_by : (i d : ℕ) (n : List ℕ) (o : Option Store) → IsSome (option_and_then (λ (t : Store). dir_in t i) o) → entry_in n (option_and_then (λ (t : Store). get t.nodes d) o) ≡ Some (Ino i)
      → linked_by (option_and_then (λ (t : Store). dir_in t i) o) ≡ true
  given_by i d n (Some t) there e = as_dir t i (get t.nodes i) there (linked_named t i (named_to t i d n e))
  given_by i d n None there e = no_way there

  root_by : (o : Option Store) → IsSome (option_and_then (λ (t : Store). dir_in t 1) o) → linked_by (option_and_then (λ (t : Store). dir_in t 1) o) ≡ true
  root_by (Some t) there = as_dir t 1 (get t.nodes 1) there (linked_root t 1 refl)
  root_by None there = no_way there

pub linked_above : (w : World) (s i : ℕ) → IsSound w → is_linked (facts_of w) s i ≡ true → (i == 1) ≡ false → IsNamedAbove (facts_of w) s i
linked_above w s i sound h other = named_by w s i (get w.stores s) refl (sound.view.names s) h other

pub given_linked : (w : World) (s i d : ℕ) (n : List ℕ) → IsSome ((facts_of w).dir s i) → (facts_of w).entry s d n ≡ Some (Ino i) → is_linked (facts_of w) s i ≡ true
given_linked w s i d n there e = given_by w s i d n (get w.stores s) there e

pub above_linked : (w : World) (s i : ℕ) → IsSome ((facts_of w).dir s i) → IsNamedAbove (facts_of w) s i → is_linked (facts_of w) s i ≡ true
above_linked w s i there x = given_linked w s i (parent_ino (facts_of w) s i) x.name there x.gives

pub root_linked : (w : World) (s : ℕ) → IsSome ((facts_of w).dir s 1) → is_linked (facts_of w) s 1 ≡ true
root_linked w s there = root_by w s (get w.stores s) there

pub given_once : (w : World) (s i d e : ℕ) (n m : List ℕ) → IsSound w → (facts_of w).kind s i ≡ Some kind.Dir → (i == 1) ≡ false
    → (facts_of w).entry s d n ≡ Some (Ino i) → (facts_of w).entry s e m ≡ Some (Ino i) → (d ≡ e) × (n ≡ m)
given_once w s i d e n m sound dir other x y =
    let names = sound.view.names s in
    let a = names.once d i n x dir other in
    let b = names.once e i m y dir other in
    (a.0 ∙ sym b.0, ap name_or (sym a.1 ∙ b.1))
