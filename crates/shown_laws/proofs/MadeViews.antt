-- What walks read of a directory that is made at a name.
use Rattle.std.proofs.Common.{◌≡◌, ℕ, Bool, true, false, cond, ◌&&◌, ◌==◌, List, [], ◌∷◌, refl, ap, sym, ◌∙◌, eq-eqb, eqb-true}
use Rattle.std.specs.Prelude.{Option, Some, None, option_map, option_and_then}
use Rattle.std.specs.Str.{bytes_eq}
use Rattle.std.proofs.lemmas.Slice.Eq.{bytes_eq-Decides}
use Rattle.vfs_tree.specs.Facts.{Facts}
use Rattle.vfs_tree.specs.Nodes.{is_given}
use Rattle.vfs_tree.specs.declared.node.Kind.TheVariants as kind
use Rattle.vfs_tree.specs.declared.node.NameEntry.{NameEntry}
use Rattle.vfs_tree.specs.declared.node.NameEntry.TheVariants.{Ino, White}
use Rattle.vfs_tree.specs.declared.view.DirFacts.{DirFacts}
use Rattle.vfs_tree.specs.declared.walk.NodeId.{NodeId}
use Rattle.call_model.specs.NameEdits.{NewDir, SetName, edited_by, is_node, with_new_dir, linked_at, unlinked_by}
use Rattle.call_laws.proofs.NamedLaws.{no_way}
use Rattle.call_laws.proofs.SoundParts.{both_of, not_so, first_of, second_of}

module _ (f : Facts) (s u i : ℕ) (n : List ℕ) (opaque : Bool) where
  abbrev above : NodeId
  above = record { store = s; ino = u }

  abbrev at : NodeId
  at = record { store = s; ino = i }

  abbrev named : Facts
  named = let g = with_new_dir at u opaque f in record g { entry = λ y d o. cond (is_node above y d && bytes_eq n o) (Some (Ino i)) (g.entry y d o) }

  -- the directory is there, and the name gives it
  abbrev pub with_dir_made : Facts
  with_dir_made = linked_at at n named

  -- the edits of a directory that is made give it
  pub made_view : is_given (f.entry s u n) ≡ false → edited_by f (NewDir s i u opaque ∷ SetName s u n (Ino i) ∷ []) ≡ with_dir_made
  made_view free = by (f.entry s u n) free
    where
      by : (e : Option NameEntry) → is_given e ≡ false → linked_at at n (unlinked_by s e named) ≡ with_dir_made
      by (Some (Ino j)) h = no_way (sym h)
      by (Some White) h = refl
      by None h = refl

  itself : is_node at s i ≡ true
  itself = both_of (s == s) (i == i) (eq-eqb s s refl) (eq-eqb i i refl)

  pub made_dir_facts : with_dir_made.dir s i ≡ Some (record { parent = u; opaque = opaque; linked = true })
  made_dir_facts =
      let fresh : DirFacts = record { parent = u; opaque = opaque; linked = i == 1 } in
      ap (λ (b : Bool). cond b (option_map (λ (d : DirFacts). record d { linked = true }) (cond b (Some fresh) (f.dir s i))) (cond b (Some fresh) (f.dir s i))) itself

  pub made_name : with_dir_made.name_of s i ≡ Some n
  made_name =
      ap (λ (b : Bool). cond b (option_and_then (λ (d : DirFacts). Some n) (with_dir_made.dir s i)) (f.name_of s i)) itself
      ∙ ap (option_and_then (λ (d : DirFacts). Some n)) made_dir_facts

  pub made_kind : with_dir_made.kind s i ≡ Some kind.Dir
  made_kind = ap (λ (b : Bool). cond b (Some kind.Dir) (f.kind s i)) itself

  pub made_entry : with_dir_made.entry s u n ≡ Some (Ino i)
  made_entry =
      ap (λ (b : Bool). cond b (Some (Ino i)) (f.entry s u n))
      (both_of (is_node above s u) (bytes_eq n n) (both_of (s == s) (u == u) (eq-eqb s s refl) (eq-eqb u u refl)) ((bytes_eq-Decides n n).1 refl))

  -- it has nothing at any name
  pub made_empty : (u ≡ i → ⊥) → ((k : List ℕ) → f.entry s i k ≡ None) → (k : List ℕ) → with_dir_made.entry s i k ≡ None
  made_empty other none k =
      let off : (is_node above s i && bytes_eq n k) ≡ false = not_so (is_node above s i && bytes_eq n k) (λ e.
      other (eqb-true u i (second_of (s == s) (u == i) (first_of (is_node above s i) (bytes_eq n k) e)))) in
      ap (λ (b : Bool). cond b (Some (Ino i)) (f.entry s i k)) off ∙ none k
