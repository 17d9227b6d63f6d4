-- What a name shows once its entry has been dropped.
use Rattle.std.proofs.Common.{◌≡◌, ℕ, zero, suc, Bool, true, false, cond, ◌==◌, List, ◌∷◌, refl, ap, sym, ◌∙◌, subst, eq-eqb}
use Rattle.std.specs.Prelude.{Option, Some, None, option_map, option_and_then}
use Rattle.std.specs.Cmp.{nat_cmp_total}
use Rattle.std.specs.FinMap.{get, insert}
use Rattle.std.specs.Str.{bytes_eq}
use Rattle.std.proofs.lemmas.Slice.Eq.{bytes_eq-Decides}
use Rattle.finite_maps.proofs.EntryLaws.{get_at-insert}
use Rattle.vfs_tree.specs.Carriers.{is_in_union}
use Rattle.vfs_tree.specs.Child.{child_mem, child_null, child_below, low_by, upper_entry}
use Rattle.vfs_tree.specs.Edits.{with_store}
use Rattle.vfs_tree.specs.Facts.{Facts}
use Rattle.vfs_tree.specs.Layers.{base, kind_in, store_by, is_dir, linked_by}
use Rattle.vfs_tree.specs.Mounts.{Mounts}
use Rattle.vfs_tree.specs.Nodes.{entry_in}
use Rattle.vfs_tree.specs.Place.{Seen, Mem, Null, UnionUp, UnionLow, mount_of}
use Rattle.vfs_tree.specs.Shown.{shown_union, shown_within, shown_child, shown_along, shown_at, shown}
use Rattle.vfs_tree.specs.Sound.{IsSound, is_null, is_union, names_mounts}
use Rattle.vfs_tree.specs.StoreEdits.{entry_of, emptied, removed, clear_entry}
use Rattle.vfs_tree.specs.Views.{dir_in, facts_of}
use Rattle.vfs_tree.specs.declared.errno.Errno.TheVariants as errno
use Rattle.vfs_tree.specs.declared.mount.Mount.{Mount}
use Rattle.vfs_tree.specs.declared.mount.MountKind.{MountKind}
use Rattle.vfs_tree.specs.declared.mount.MountKind.TheVariants as kind
use Rattle.vfs_tree.specs.declared.node.NameEntry.{NameEntry}
use Rattle.vfs_tree.specs.declared.node.NameEntry.TheVariants.{White}
use Rattle.vfs_tree.specs.declared.node.Store.{Store}
use Rattle.vfs_tree.specs.declared.walk.Child.{Child}
use Rattle.vfs_tree.specs.declared.walk.Child.TheVariants as child
use Rattle.vfs_tree.specs.declared.walk.Found.{Found}
use Rattle.vfs_tree.specs.declared.walk.Found.TheVariants as found
use Rattle.vfs_tree.specs.declared.walk.Leaf.TheVariants as leaf
use Rattle.vfs_tree.specs.declared.walk.NodeId.{NodeId}
use Rattle.vfs_tree.specs.declared.world.World.{World}
use Rattle.call_model.specs.Apply.{Finished, apply}
use Rattle.call_model.specs.Checks.{target_at, there, edit_at, drop_at}
use Rattle.call_model.specs.NameRows as rows
use Rattle.call_model.specs.Rows.{found_at, way}
use Rattle.call_model.specs.declared.call.Call.TheVariants as call
use Rattle.call_model.specs.declared.reply.Reply.TheVariants as reply
use Rattle.call_laws.specs.Lasting.{IsLasting}
use Rattle.call_laws.proofs.DropLaws.{alike_emptied}
use Rattle.call_laws.proofs.MadeLaws.{linked_dir}
use Rattle.call_laws.proofs.NameLaws.{linked_in}
use Rattle.call_laws.proofs.NamedLaws.{no_way}
use Rattle.call_laws.proofs.Parts.{Keeps, found_so, then, unless}
use Rattle.call_laws.proofs.PlaceLaws.{well_at}
use Rattle.call_laws.proofs.SoundParts.{second_of, both_of}
use Rattle.call_laws.proofs.SoundRows.{LeavesSo, AnyNeed}
use Rattle.call_laws.proofs.WalkLaws.{IsTarget, FoundWell}
use Rattle.model_laws.proofs.Leaving.{past, done-so}
use Rattle.layer_laws.proofs.AvoidLaws.{none_along}
use Rattle.edit_laws.proofs.Answering.{found_in}
use Rattle.edit_laws.proofs.NameViews.{left, drop_exact}
use Rattle.edit_laws.proofs.StoreViews.{hit}

-- ---- an entry that hides what is below it

module _ (f g : Facts) (same : (m : ℕ) → kind_in g m ≡ kind_in f m) where
  hidden_union : (m u : ℕ) (n : List ℕ) (below : Option MountKind → List ℕ → Child) (o : Option MountKind) → kind_in g m ≡ o → is_union o ≡ true → g.entry (store_by o) u n ≡ Some White
      → shown_union g m u n (upper_entry g (kind_in g m) u n) (below (kind_in g m)) ≡ child.Absent
  hidden_union m u n below (Some (kind.Union s top lower)) is y h =
      ap (λ (o : Option MountKind). shown_union g m u n (upper_entry g o u n) (below (kind_in g m))) is
      ∙ ap (λ (e : Option NameEntry). shown_union g m u n e (below (kind_in g m))) h
  hidden_union m u n below (Some kind.Mem) is y h = no_way y
  hidden_union m u n below (Some (kind.Null layer)) is y h = no_way y
  hidden_union m u n below None is y h = no_way y

  -- a name shows nothing where its entry is one that a drop leaves
  hidden : (k : ℕ) (d : Seen) (n : List ℕ) → names_mounts f d ≡ true → (let b = base f d in g.entry b.store b.ino n) ≡ left (is_in_union d) → shown_within k g d n ≡ child.Absent
  hidden zero d n names h = refl
  hidden (suc k) (Mem m i) n names h = ap (child_mem m) h
  hidden (suc k) (Null m p) n names h = ap (child_null m) (hidden k p n (second_of (is_null (kind_in f m)) (names_mounts f p) names) h)
  hidden (suc k) (UnionUp m u) n names h = hidden_union m u n (λ o. child_below (shown_within k g) (low_by g (shown_within k g) u o)) (kind_in f m) (same m) names h
  hidden (suc k) (UnionLow m u a p) n names h = refl

-- ---- what a call leaves at a name

-- the entry at a name of a directory, and mounts that are as before
pub record Leaves (w : World) (d : Seen) (n : List ℕ) (e : Option NameEntry) (v : World) : Type 0 where
  pub entry : (let b = base (facts_of w) d in (facts_of v).entry b.store b.ino n) ≡ e
  pub mounts : v.mounts ≡ w.mounts

pub kinds_same : (w v : World) → v.mounts ≡ w.mounts → (m : ℕ) → kind_in (facts_of v) m ≡ kind_in (facts_of w) m
kinds_same w v is m = ap (λ (ms : Mounts). option_map (λ (t : Mount). t.kind) (get ms m)) is

-- what stands nowhere shows nothing
pub shows_none : (v : World) (d : Seen) (n : List ℕ) (ns : List (List ℕ)) → shown_child (facts_of v) d n ≡ child.Absent → shown v d (n ∷ ns) ≡ None
shows_none v d n ns is = ap (λ (c : Child). shown_at v (shown_along (facts_of v) c ns)) is ∙ ap (shown_at v) (none_along (facts_of v) ns)

pub hides : (w v : World) (d : Seen) (n : List ℕ) (ns : List (List ℕ)) → names_mounts (facts_of w) d ≡ true → Leaves w d n (left (is_in_union d)) v → shown v d (n ∷ ns) ≡ None
hides w v d n ns names l = shows_none v d n ns (hidden (facts_of w) (facts_of v) (kinds_same w v l.mounts) (suc (mount_of d)) d n names l.entry)

-- ---- names are dropped

hit_same : (u : ℕ) (n : List ℕ) → hit u n u n ≡ true
hit_same u n = both_of (u == u) (bytes_eq n n) (eq-eqb u u refl) ((bytes_eq-Decides n n).1 refl)

module _ (w : World) (d : Seen) (n : List ℕ) (o : Option Seen) (x : IsTarget (facts_of w) d n o) where
  abbrev b : NodeId
  b = base (facts_of w) d

  entry_by : Option Store → Option NameEntry
  entry_by s = entry_in n (option_and_then (λ (t : Store). get t.nodes b.ino) s)

  put_in : (t new : Store) (e : Option NameEntry) → entry_of new b.ino n ≡ e → Leaves w d n e (record w { stores = insert w.stores b.store new })
  put_in t new e is = record {
    entry = ap (λ (s : Option Store). entry_in n (option_and_then (λ (t : Store). get t.nodes b.ino) s)) (get_at-insert nat_cmp_total w.stores b.store new) ∙ is;
    mounts = refl;
  }

  dropped_entry : (white : Bool) (t : Store) → get w.stores b.store ≡ Some t → entry_of (removed white t b.ino n) b.ino n ≡ left white
  dropped_entry white t at =
      let under : Store = emptied t (entry_of t b.ino n) in
      drop_exact white under b.ino n ((alike_emptied t (entry_of t b.ino n)).kinds b.ino ∙ linked_dir t b.ino (get t.nodes b.ino) (linked_in w d n o t x at)) b.ino n
      ∙ ap (λ y. cond y (left white) (entry_of under b.ino n)) (hit_same b.ino n)

  cleared_entry : (t : Store) → get w.stores b.store ≡ Some t → entry_of (clear_entry t b.ino n) b.ino n ≡ None
  cleared_entry t at =
      drop_exact false t b.ino n (linked_dir t b.ino (get t.nodes b.ino) (linked_in w d n o t x at)) b.ino n
      ∙ ap (λ y. cond y None (entry_of t b.ino n)) (hit_same b.ino n)

  no_store : {P : Type 0} → get w.stores b.store ≡ None → P
  no_store at = no_way (sym (ap (λ (s : Option Store). linked_by (option_and_then (λ (t : Store). dir_in t b.ino) s)) at) ∙ x.linked)

  drop_by : (s : Option Store) → get w.stores b.store ≡ s → Leaves w d n (left (is_in_union d)) (with_store (λ t. removed (is_in_union d) t b.ino n) w b.store s)
  drop_by (Some t) at = put_in t (removed (is_in_union d) t b.ino n) (left (is_in_union d)) (dropped_entry (is_in_union d) t at)
  drop_by None at = no_store at

  pub drop_leaves : Leaves w d n (left (is_in_union d)) (drop_at w d n)
  drop_leaves = drop_by (get w.stores b.store) refl

  clear_by : (s : Option Store) → get w.stores b.store ≡ s → Leaves w d n None (with_store (λ t. clear_entry t b.ino n) w b.store s)
  clear_by (Some t) at = put_in t (clear_entry t b.ino n) None (cleared_entry t at)
  clear_by None at = no_store at

  pub clear_leaves : Leaves w d n None (edit_at w d (λ s dir. clear_entry s dir n))
  clear_leaves = clear_by (get w.stores b.store) refl

-- ---- unlink and rmdir

-- what a call leaves at the name that its path found
abbrev pub LeavesAt : World → (Seen → Option NameEntry) → Found → World → Type 0
LeavesAt w e (found.In d n o) v = Leaves w d n (e d) v
LeavesAt w e _ v = Unit {0}

abbrev pub DropsAt : World → Found → World → Type 0
DropsAt w = LeavesAt w (λ d. left (is_in_union d))

pub target_in : (w : World) (a : Found) (d : Seen) (n : List ℕ) (o : Option Seen) → FoundWell (facts_of w) a → a ≡ found.In d n o → IsTarget (facts_of w) d n o
target_in w a d n o well is = subst (FoundWell (facts_of w)) is well

unlink_drops : (w : World) (a : Found) → FoundWell (facts_of w) a → Keeps (LeavesSo (DropsAt w a)) AnyNeed (rows.unlink w a)
unlink_drops w a well =
    then (target_at w errno.EPERM a) (found_in w errno.EPERM a) (λ t is.
    past (there t.child) (λ p.
    unless (is_dir (facts_of w) p) _ (λ file.
    found_so (subst (λ a. DropsAt w a (drop_at w t.dir t.name)) (sym is) (drop_leaves w t.dir t.name t.child (target_in w a t.dir t.name t.child well is))))))

rmdir_drops : (w : World) (a : Found) → FoundWell (facts_of w) a → Keeps (LeavesSo (DropsAt w a)) AnyNeed (rows.rmdir w a)
rmdir_drops w a well =
    then (target_at w errno.EINVAL a) (found_in w errno.EINVAL a) (λ t is.
    past (rows.check_removed w t.child) (λ _.
    found_so (subst (λ a. DropsAt w a (drop_at w t.dir t.name)) (sym is) (drop_leaves w t.dir t.name t.child (target_in w a t.dir t.name t.child well is)))))

module _ (w new : World) (c : ℕ) (text : List ℕ) (d : Seen) (n : List ℕ) (o : Option Seen) (ns : List (List ℕ)) (sound : IsSound w) (lasts : IsLasting w)
    (at : found_at w c (way leaf.Parent text) ≡ found.In d n o) where
  pub target : IsTarget (facts_of w) d n o
  target = target_in w (found_at w c (way leaf.Parent text)) d n o (well_at w sound lasts c (way leaf.Parent text)) at

  pub unlink_hides : apply w c (call.Unlink text) ≡ Finished new reply.Done → shown new d (n ∷ ns) ≡ None
  unlink_hides is =
      let a = found_at w c (way leaf.Parent text) in
      let l : DropsAt w a new = done-so (DropsAt w a) w new c (call.Unlink text) (unlink_drops w a (well_at w sound lasts c (way leaf.Parent text))) is in
      hides w new d n ns target.good.sound.mounts (subst (λ a. DropsAt w a new) at l)

  pub rmdir_hides : apply w c (call.Rmdir text) ≡ Finished new reply.Done → shown new d (n ∷ ns) ≡ None
  rmdir_hides is =
      let a = found_at w c (way leaf.Parent text) in
      let l : DropsAt w a new = done-so (DropsAt w a) w new c (call.Rmdir text) (rmdir_drops w a (well_at w sound lasts c (way leaf.Parent text))) is in
      hides w new d n ns target.good.sound.mounts (subst (λ a. DropsAt w a new) at l)
