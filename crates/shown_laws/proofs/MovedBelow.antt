-- A directory that is moved in a union, or over a whiteout, has nothing of the lower layer below it.
use Rattle.std.proofs.Common.{◌≡◌, ℕ, Bool, true, false, cond, ◌&&◌, ◌||◌, ◌==◌, List, [], ◌∷◌, ◌++◌, refl, ap, sym, ◌∙◌, eq-eqb}
use Rattle.std.specs.Prelude.{Option, Some, None, option_map}
use Rattle.std.specs.Str.{bytes_eq}
use Rattle.vfs_tree.specs.Carriers.{is_in_union}
use Rattle.vfs_tree.specs.Child.{low_within, low_by, steps}
use Rattle.vfs_tree.specs.Facts.{Facts}
use Rattle.vfs_tree.specs.Layers.{base, is_dir, is_opaque, kind_in, linked_by, opaque_by}
use Rattle.vfs_tree.specs.Place.{Seen}
use Rattle.vfs_tree.specs.Shown.{shown_child}
use Rattle.vfs_tree.specs.Sound.{IsSound}
use Rattle.vfs_tree.specs.Views.{facts_of}
use Rattle.vfs_tree.specs.declared.mount.Mount.{Mount}
use Rattle.vfs_tree.specs.declared.mount.MountKind.TheVariants as kind
use Rattle.vfs_tree.specs.declared.node.NameEntry.{NameEntry}
use Rattle.vfs_tree.specs.declared.node.NameEntry.TheVariants.{Ino, White}
use Rattle.vfs_tree.specs.declared.view.DirFacts.{DirFacts}
use Rattle.vfs_tree.specs.declared.walk.Child.TheVariants as child
use Rattle.vfs_tree.specs.declared.walk.Found.TheVariants as found
use Rattle.vfs_tree.specs.declared.walk.Leaf.TheVariants as leaf
use Rattle.vfs_tree.specs.declared.walk.NodeId.{NodeId}
use Rattle.vfs_tree.specs.declared.world.World.{World}
use Rattle.call_model.specs.Apply.{Finished, apply}
use Rattle.call_model.specs.Checks.{has_white}
use Rattle.call_model.specs.NameEdits.{Edit, SetName, ClearName, ClearDir, Moved, clear_edits, drop_edit, edited, edited_by, is_node, linked_by_entry, move_edits, node_id, rename_found, set_edit, unlinked_by, with_entry_at}
use Rattle.call_model.specs.NameRows.{is_there}
use Rattle.call_model.specs.Rows.{found_at, way}
use Rattle.call_model.specs.declared.call.Call.TheVariants as call
use Rattle.call_model.specs.declared.reply.Reply.TheVariants as reply
use Rattle.call_laws.specs.Lasting.{IsLasting}
use Rattle.call_laws.proofs.SoundParts.{both_of, or_second}
use Rattle.fuel_laws.specs.ShownUnder.{shown_lower}
use Rattle.fuel_laws.proofs.UpLaws.{part_opaque}
use Rattle.edit_laws.proofs.MoveTells.{rename_tells}
use Rattle.shown_laws.proofs.Undeleted.{left_by}

-- ---- edits of names leave mounts

unlinked_mounts : (s : ℕ) (e : Option NameEntry) (f : Facts) → (unlinked_by s e f).mount ≡ f.mount
unlinked_mounts s (Some (Ino i)) f = refl
unlinked_mounts s (Some White) f = refl
unlinked_mounts s None f = refl

linked_mounts : (s : ℕ) (n : List ℕ) (e : Option NameEntry) (f : Facts) → (linked_by_entry s n e f).mount ≡ f.mount
linked_mounts s n (Some (Ino i)) f = refl
linked_mounts s n (Some White) f = refl
linked_mounts s n None f = refl

entry_mounts : (a : NodeId) (n : List ℕ) (e : Option NameEntry) (f : Facts) → (with_entry_at a n e f).mount ≡ f.mount
entry_mounts a n e f =
    let g : Facts = record f { entry = λ s d o. cond (is_node a s d && bytes_eq n o) e (f.entry s d o) } in
    linked_mounts a.store n e (unlinked_by a.store (f.entry a.store a.ino n) g) ∙ unlinked_mounts a.store (f.entry a.store a.ino n) g

drop_mounts : (b : Bool) (s u : ℕ) (n : List ℕ) (f : Facts) → (edited f (cond b (SetName s u n White) (ClearName s u n))).mount ≡ f.mount
drop_mounts true s u n f = entry_mounts (record { store = s; ino = u }) n (Some White) f
drop_mounts false s u n f = entry_mounts (record { store = s; ino = u }) n None f

-- a directory whose names are cleared
module _ (w : World) (f : Facts) where
  clear_by : (b : Bool) (a : NodeId) → ((edited_by f (cond b (ClearDir a.store a.ino ∷ []) [])).mount ≡ f.mount) × ((edited_by f (cond b (ClearDir a.store a.ino ∷ []) [])).dir ≡ f.dir)
  clear_by true a = (refl, refl)
  clear_by false a = (refl, refl)

  clears : (q : Option Seen) → ((edited_by f (clear_edits w q)).mount ≡ f.mount) × ((edited_by f (clear_edits w q)).dir ≡ f.dir)
  clears (Some p) = clear_by (is_dir (facts_of w) p) (node_id w p)
  clears None = (refl, refl)

-- ---- what is below a directory that is opaque, or none

module _ (g : Facts) (m s i top : ℕ) (lower : Seen) (parent : ℕ) (union : kind_in g m ≡ Some (kind.Union s top lower)) (apart : (i == top) ≡ false) where
  none_below : (o : Option DirFacts) → g.dir s i ≡ option_map (λ (d : DirFacts). record d { parent = parent; opaque = true }) o → shown_lower g m i ≡ child.Absent
  none_below (Some d) is = part_opaque g (shown_child g) m i s top lower union apart (ap opaque_by is)
  none_below None is =
      ap (low_by g (shown_child g) i) union
      ∙ ap (λ (o : Option DirFacts). cond (linked_by o) (low_within steps g (shown_child g) s top lower i) child.Absent) is

-- ---- rename

module _ (w new : World) (c m s i top : ℕ) (lower : Seen) (from to : List ℕ) (d e p : Seen) (old n : List ℕ) (q : Option Seen) (sound : IsSound w) (lasts : IsLasting w)
    (source : found_at w c (way leaf.Parent from) ≡ found.In d old (Some p)) (target : found_at w c (way leaf.Parent to) ≡ found.In e n q)
    (is : apply w c (call.Rename from to) ≡ Finished new reply.Done) (apart : is_there p q ≡ false) (dir : is_dir (facts_of w) p ≡ true)
    (node : base (facts_of w) p ≡ record { store = s; ino = i }) (hides : (is_in_union e || has_white w e n) ≡ true)
    (union : kind_in (facts_of w) m ≡ Some (kind.Union s top lower)) (own : (i == top) ≡ false) where
  abbrev f : Facts
  f = facts_of w

  abbrev g : Facts
  g = facts_of new

  abbrev parent : ℕ
  parent = (node_id w e).ino

  abbrev opaque : Bool
  opaque = is_opaque f (node_id w p).store (node_id w p).ino || (is_in_union e || has_white w e n)

  abbrev set_it : Edit
  set_it = set_edit w e n (Ino (node_id w p).ino)

  -- the names are changed
  abbrev named : Facts
  named = edited (edited f (drop_edit w d old)) set_it

  told : g ≡ edited_by named (move_edits w p e n ++ clear_edits w q)
  told =
      ap facts_of (sym (left_by w new c (call.Rename from to) reply.Done refl is))
      ∙ rename_tells w new c from to sound lasts is
      ∙ ap (λ a. edited_by f (rename_found w a (found_at w c (way leaf.Parent to)))) source
      ∙ ap (λ b. edited_by f (rename_found w (found.In d old (Some p)) b)) target
      ∙ ap (λ b. edited_by f (cond b [] (drop_edit w d old ∷ set_it ∷ (move_edits w p e n ++ clear_edits w q)))) apart

  moves : g ≡ edited_by (edited named (Moved s i parent true)) (clear_edits w q)
  moves =
      told
      ∙ ap (λ b. edited_by named (cond b (Moved (node_id w p).store (node_id w p).ino parent opaque ∷ []) [] ++ clear_edits w q)) dir
      ∙ ap (λ b. edited_by (edited named (Moved (node_id w p).store (node_id w p).ino parent b)) (clear_edits w q))
      (or_second (is_opaque f (node_id w p).store (node_id w p).ino) (is_in_union e || has_white w e n) hides)
      ∙ ap (λ (a : NodeId). edited_by (edited named (Moved a.store a.ino parent true)) (clear_edits w q)) node

  moved_dir : g.dir s i ≡ option_map (λ (d : DirFacts). record d { parent = parent; opaque = true }) (named.dir s i)
  moved_dir =
      let there : NodeId = record { store = s; ino = i } in
      ap (λ (f : Facts). f.dir s i) moves
      ∙ ap (λ (dirs : ℕ → ℕ → Option DirFacts). dirs s i) (clears w (edited named (Moved s i parent true)) q).1
      ∙ ap (λ b. cond b (option_map (λ (d : DirFacts). record d { parent = parent; opaque = true }) (named.dir s i)) (named.dir s i))
      (let self : is_node there s i ≡ true = both_of (s == s) (i == i) (eq-eqb s s refl) (eq-eqb i i refl) in self)

  same_mounts : g.mount ≡ f.mount
  same_mounts =
      let a = node_id w d in
      let b = node_id w e in
      ap (λ (f : Facts). f.mount) moves ∙ (clears w (edited named (Moved s i parent true)) q).0
      ∙ entry_mounts (record { store = b.store; ino = b.ino }) n (Some (Ino (node_id w p).ino)) (edited f (drop_edit w d old))
      ∙ drop_mounts (is_in_union d) a.store a.ino old f

  pub moved_below : shown_lower g m i ≡ child.Absent
  moved_below =
      none_below g m s i top lower parent (ap (λ (ms : ℕ → Option Mount). option_map (λ (t : Mount). t.kind) (ms m)) same_mounts ∙ union) own (named.dir s i) moved_dir
