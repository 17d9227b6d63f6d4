-- The edits of a new memory file system tell what it does to names and mounts.
use Rattle.std.proofs.Common.{◌≡◌, ℕ, ◌<◌, Bool, true, false, cond, ◌&&◌, ◌==◌, List, refl, ap, sym, ◌∙◌, nat_cmp, arith, eqb-true, eq-eqb}
use Rattle.std.specs.Prelude.{Option, Some, None, is_some, option_map, option_and_then}
use Rattle.std.specs.List.{find as find_in}
use Rattle.std.specs.Cmp.{nat_cmp_total}
use Rattle.std.specs.FinMap.{FinMap, get, insert, empty, get-empty}
use Rattle.std.proofs.lemmas.Map.Lookups.{exact_unsigned}
use Rattle.finite_maps.proofs.EntryLaws.{by_key, get_at-insert, entries-empty}
use Rattle.vfs_tree.specs.Facts.{Facts}
use Rattle.vfs_tree.specs.Name.{name_cmp}
use Rattle.vfs_tree.specs.Nodes.{entry_in}
use Rattle.vfs_tree.specs.Place.{Seen}
use Rattle.vfs_tree.specs.Sound.{IsSound}
use Rattle.vfs_tree.specs.Start.{empty_dir, empty_store}
use Rattle.vfs_tree.specs.Views.{kind_of_node, target_in, gives, name_by, facts_in, dir_in, dir_name, facts_of}
use Rattle.vfs_tree.specs.declared.mount.MountKind.TheVariants as mount
use Rattle.vfs_tree.specs.declared.node.Kind.TheVariants as kind
use Rattle.vfs_tree.specs.declared.node.NameEntry.{NameEntry}
use Rattle.vfs_tree.specs.declared.node.Store.{Store}
use Rattle.vfs_tree.specs.declared.view.DirFacts.{DirFacts}
use Rattle.vfs_tree.specs.declared.walk.Found.{Found}
use Rattle.vfs_tree.specs.declared.walk.Found.TheVariants as found
use Rattle.vfs_tree.specs.declared.world.World.{World}
use Rattle.call_model.specs.Apply.{Finished, apply}
use Rattle.call_model.specs.Checks.{dir_at}
use Rattle.call_model.specs.MountRows as rows
use Rattle.call_model.specs.NameEdits.{edited_by, mount_mem_edits}
use Rattle.call_model.specs.Rows.{first_found, first_way}
use Rattle.call_model.specs.declared.call.Call.TheVariants as call
use Rattle.call_model.specs.declared.entry.Entry.TheVariants as entry
use Rattle.call_model.specs.declared.reply.Reply.TheVariants as reply
use Rattle.call_laws.specs.Lasting.{IsLasting}
use Rattle.call_laws.proofs.NamedLaws.{no_way}
use Rattle.call_laws.proofs.Parts.{Keeps, found_so, then}
use Rattle.call_laws.proofs.PlaceLaws.{well_at}
use Rattle.call_laws.proofs.SoundLaws.{only}
use Rattle.call_laws.proofs.SoundRows.{LeavesSo, AnyNeed}
use Rattle.call_laws.proofs.WalkLaws.{FoundWell}
use Rattle.call_laws.proofs.Whole.{IsWhole}
use Rattle.model_laws.proofs.AlikeLaws.{same_view}
use Rattle.model_laws.proofs.Leaving.{past, done-so}
use Rattle.edit_laws.specs.Telling.{Tells}
use Rattle.edit_laws.proofs.AddLaws.{added_view, found_dir, bare_end, Adds, added_tells}

root_there : get empty_store.nodes 1 ≡ Some (empty_dir 1)
root_there = get_at-insert nat_cmp_total empty 1 (empty_dir 1)

no_entry : (d : ℕ) (n : List ℕ) → entry_in n (get empty_store.nodes d) ≡ None
no_entry d n = only 1 (empty_dir 1) d (λ o. entry_in n o ≡ None) (λ _. get-empty {X = NameEntry} name_cmp n) refl

no_target : (i : ℕ) → option_and_then target_in (get empty_store.nodes i) ≡ None
no_target i = only 1 (empty_dir 1) i (λ o. option_and_then target_in o ≡ None) (λ _. refl) refl

no_name : (i : ℕ) → dir_name empty_store i ≡ None
no_name i =
    only 1 (empty_dir 1) i (λ o. option_and_then (λ (d : DirFacts). name_by i (get empty_store.nodes d.parent)) (option_and_then (facts_in empty_store i) o) ≡ None)
    (λ _. ap (name_by i) root_there ∙ ap (λ (es : List (List ℕ × NameEntry)). option_map (λ e. e.0) (find_in (λ e. gives i e.1) es)) (entries-empty {X = NameEntry} name_cmp)) refl

module _ (w : World) (h : IsWhole w) where
  abbrev next : ℕ
  next = w.next_mount

  abbrev s : FinMap nat_cmp Store
  s = insert w.stores next empty_store

  none_there : get w.stores next ≡ None
  none_there = by (get w.stores next) refl
    where
      by : (o : Option Store) → get w.stores next ≡ o → o ≡ None
      by (Some t) at = let less : next < next = h.lasts.counted.stores next (ap is_some at) in absurd (omega (arith, less))
      by None at = refl

  plain : {X : Type 0} (x : ℕ) (k : Option Store → X) → k (Some empty_store) ≡ k None → k (get s x) ≡ k (get w.stores x)
  plain x k same = by_key nat_cmp_total exact_unsigned w.stores next empty_store x (λ o. k o ≡ k (get w.stores x)) (λ is. same ∙ sym (ap k (ap (get w.stores) is ∙ none_there))) refl

  noded : {Y : Type 0} (x i : ℕ) (k : Option Store → Option Y) (v : Y) → k None ≡ None → (i ≡ 1 → k (Some empty_store) ≡ Some v) → ((i ≡ 1 → ⊥) → k (Some empty_store) ≡ None)
      → (e b : Bool) → (next == x) ≡ e → (1 == i) ≡ b → k (get s x) ≡ cond (e && b) (Some v) (k (get w.stores x))
  noded x i k v none here there true true p q = ap k (ap (get s) (sym (eqb-true next x p)) ∙ get_at-insert nat_cmp_total w.stores next empty_store) ∙ here (sym (eqb-true 1 i q))
  noded x i k v none here there true false p q =
      ap k (ap (get s) (sym (eqb-true next x p)) ∙ get_at-insert nat_cmp_total w.stores next empty_store)
      ∙ there (λ is. no_way (sym q ∙ eq-eqb 1 i (sym is)))
      ∙ sym (ap k (ap (get w.stores) (sym (eqb-true next x p)) ∙ none_there) ∙ none)
  noded x i k v none here there false b p q =
      ap k (by_key nat_cmp_total exact_unsigned w.stores next empty_store x (λ o. o ≡ get w.stores x) (λ is. no_way (sym p ∙ eq-eqb next x (sym is))) refl)

  module _ (on : Seen) (bare : (facts_of w).covering on ≡ None) (whole : IsWhole (rows.with_mount (record w { stores = s }) mount.Mem on)) where
    abbrev v : World
    v = rows.with_mount (record w { stores = s }) mount.Mem on

    mem_view : facts_of v ≡ edited_by (facts_of w) (mount_mem_edits w (found.At on))
    mem_view =
        let half = added_view w h mount.Mem on bare (record { numbers = whole.lasts.mounts; apart = whole.sound.apart }) in
        same_view (facts_of v) (edited_by (facts_of w) (mount_mem_edits w (found.At on))) (record {
          entry = λ x d n. plain x (λ o. entry_in n (option_and_then (λ (t : Store). get t.nodes d) o)) (no_entry d n);
          kind = λ x i. noded x i (λ o. option_map kind_of_node (option_and_then (λ (t : Store). get t.nodes i) o)) kind.Dir refl
              (λ is. ap (λ j. option_map kind_of_node (get empty_store.nodes j)) is ∙ ap (option_map kind_of_node) root_there)
              (λ ne. only 1 (empty_dir 1) i (λ o. option_map kind_of_node o ≡ None) (λ is. absurd (ne is)) refl) (next == x) (1 == i) refl refl;
          dir = λ x i. noded x i (option_and_then (λ t. dir_in t i)) (record { parent = 1; opaque = false; linked = true }) refl
              (λ is. ap (dir_in empty_store) is ∙ ap (option_and_then (facts_in empty_store 1)) root_there)
              (λ ne. only 1 (empty_dir 1) i (λ o. option_and_then (facts_in empty_store i) o ≡ None) (λ is. absurd (ne is)) refl) (next == x) (1 == i) refl refl;
          name_of = λ x i. plain x (option_and_then (λ t. dir_name t i)) (no_name i);
          target = λ x i. plain x (λ o. option_and_then target_in (option_and_then (λ (t : Store). get t.nodes i) o)) (no_target i);
          covering = λ p. ap (λ (f : Facts). f.covering p) half;
          mount = λ m. ap (λ (f : Facts). f.mount m) half;
        })

mem_adds : (w : World) (a : Found) → IsWhole w → FoundWell (facts_of w) a → Keeps (LeavesSo (Adds w (mount_mem_edits w a))) AnyNeed (rows.mount_mem w a)
mem_adds w a h well =
    then (dir_at w a) (found_dir w a) (λ on to.
    past (rows.check_mounts w) (λ _. found_so (λ whole.
    mem_view w h on (bare_end (facts_of w) a on well to) whole ∙ ap (λ x. edited_by (facts_of w) (mount_mem_edits w x)) (sym to))))

pub mem_tells : (w new : World) (c : ℕ) (text : List ℕ) → IsSound w → IsLasting w → apply w c (call.MountMem text) ≡ Finished new reply.Done → Tells w (entry.Call c (call.MountMem text) reply.Done)
mem_tells w new c text sound lasts is =
    let x = call.MountMem text in
    let a = first_found w c x in
    let h : IsWhole w = record { sound = sound; lasts = lasts } in
    let es = mount_mem_edits w a in
    added_tells w new c x es h is (done-so (Adds w es) w new c x (mem_adds w a h (well_at w sound lasts c (first_way x))) is)
