-- Entries keep the nodes that are there, but for the file to which they write.
use Rattle.std.proofs.Common.{◌≡◌, ℕ, ◌<◌, ◌+◌, Bool, true, false, cond, not, ◌&&◌, ◌||◌, ◌==◌, List, [], ◌∷◌, length, refl, ap, sym, ◌∙◌, subst, arith, eq-eqb}
use Rattle.std.specs.Prelude.{Option, Some, None, IfSome, is_some, option_map, option_and_then, ◌+ℤ◌, pos, nat_lt}
use Rattle.std.specs.List.{list_any}
use Rattle.std.specs.Cmp.{nat_cmp_total}
use Rattle.std.specs.FinMap.{get, insert, remove, empty, len, get-remove}
use Rattle.std.specs.Ordering.{eq_by_cmp, nat_cmp}
use Rattle.std.proofs.lemmas.Map.Lookups.{exact_unsigned}
use Rattle.finite_maps.proofs.EntryLaws.{by_key}
use Rattle.vfs_tree.specs.Bytes.{resize_bytes, write_bytes}
use Rattle.vfs_tree.specs.Carriers.{is_in_union}
use Rattle.vfs_tree.specs.Child.{child_of, child_below, low}
use Rattle.vfs_tree.specs.Edits.{made, with_made, with_names, with_store, new_dir}
use Rattle.vfs_tree.specs.FileEdits.{with_bytes}
use Rattle.vfs_tree.specs.Layers.{kind_in, base, same_node, is_dir, is_file, target_of, same_place, depth, stores}
use Rattle.vfs_tree.specs.Mounts.{has_references, is_covered, cut_with}
use Rattle.vfs_tree.specs.Nodes.{Names, node_at, is_dir_node, is_white, AreBelow}
use Rattle.vfs_tree.specs.Place.{Seen, mount_of}
use Rattle.vfs_tree.specs.Start.{empty_store}
use Rattle.vfs_tree.specs.StoreEdits.{entry_of, with_node_at, set_entry, clear_entry, emptied, drop_entry, removed, moved, renamed_to, renamed}
use Rattle.vfs_tree.specs.Views.{facts_of}
use Rattle.vfs_tree.specs.Visible.{visible}
use Rattle.vfs_tree.specs.declared.errno.Errno.TheVariants as errno
use Rattle.vfs_tree.specs.declared.mount.Mount.{Mount}
use Rattle.vfs_tree.specs.declared.mount.MountKind.{MountKind}
use Rattle.vfs_tree.specs.declared.mount.MountKind.TheVariants as kind
use Rattle.vfs_tree.specs.declared.node.NameEntry.{NameEntry}
use Rattle.vfs_tree.specs.declared.node.NameEntry.TheVariants.{Ino, White}
use Rattle.vfs_tree.specs.declared.node.Node.{Node}
use Rattle.vfs_tree.specs.declared.node.Node.TheVariants.{Dir, File, Link}
use Rattle.vfs_tree.specs.declared.node.Store.{Store}
use Rattle.vfs_tree.specs.declared.open.Open.{Open}
use Rattle.vfs_tree.specs.declared.walk.Child.{Child}
use Rattle.vfs_tree.specs.declared.walk.Child.TheVariants as child
use Rattle.vfs_tree.specs.declared.walk.Found.{Found}
use Rattle.vfs_tree.specs.declared.walk.Found.TheVariants as found
use Rattle.vfs_tree.specs.declared.walk.NodeId.{NodeId}
use Rattle.vfs_tree.specs.declared.world.World.{World}
use Rattle.call_model.specs.Checks.{Outcome, is_full, upper_store, lifted, copied, place_at, mount_at, target_at, there, dir_at, free_target, node_of, edit_at, has_white, make_at}
use Rattle.call_model.specs.DataRows as rows
use Rattle.call_model.specs.Effects.{copy_of, copied_child, doomed_place, effect, made_above}
use Rattle.call_model.specs.Legal.{after}
use Rattle.call_model.specs.MountRows as mounts
use Rattle.call_model.specs.NameRows as names
use Rattle.call_model.specs.Refs.{first_in, first_open, place_of}
use Rattle.call_model.specs.Rows.{first_found, second_found, decided}
use Rattle.call_model.specs.declared.call.Call.{Call}
use Rattle.call_model.specs.declared.call.Call.TheVariants as call
use Rattle.call_model.specs.declared.call.Flags.{Flags}
use Rattle.call_model.specs.declared.entry.Entry.TheVariants as entry
use Rattle.call_model.specs.declared.entry.Inner.{Inner}
use Rattle.call_model.specs.declared.entry.Inner.TheVariants.{Shadow, CopyUp, Detach, Doom}
use Rattle.call_model.specs.declared.entry.Ref.{Ref}
use Rattle.call_model.specs.declared.reply.Reply.{Reply}
use Rattle.call_model.specs.declared.target.Target.{Target}
use Rattle.call_laws.specs.Lasting.{IsLasting}
use Rattle.call_laws.proofs.DataParts.{keeps-descriptor}
use Rattle.call_laws.proofs.DropLaws.{at_node}
use Rattle.call_laws.proofs.FlagLaws.{get_each}
use Rattle.call_laws.proofs.NameLaws.{mounts_stay}
use Rattle.call_laws.proofs.NameParts.{alone-edit}
use Rattle.call_laws.proofs.NamedLaws.{no_way}
use Rattle.call_laws.proofs.Parts.{Keeps, found_so, refused, needed, weaker, then, unless}
use Rattle.call_laws.proofs.SoundParts.{both_of}
use Rattle.call_laws.proofs.SoundRows.{LeavesSo, AnyNeed}
use Rattle.model_laws.proofs.Leaving.{past, left-so}
use Rattle.edit_laws.proofs.Answering.{found_place}
use Rattle.open_laws.specs.Contents.{place_found, place_opened, written_place, DropsFiles}

-- ---- nodes

-- a file or a link stays what it is, and a directory stays one
abbrev pub StaysNode : Node → Option Node → Type 0
StaysNode (File bytes) o = o ≡ Some (File bytes)
StaysNode (Link target) o = o ≡ Some (Link target)
StaysNode (Dir parent opaque names) o = is_dir_node o ≡ true

stays_itself : (x : Node) → StaysNode x (Some x)
stays_itself (File bytes) = refl
stays_itself (Link target) = refl
stays_itself (Dir parent opaque names) = refl

stays_names : (g : Names → Names) (x : Node) → StaysNode x (Some (with_names g x))
stays_names g (File bytes) = refl
stays_names g (Link target) = refl
stays_names g (Dir parent opaque names) = refl

stays_moved : (p : ℕ) (hides : Bool) (x : Node) → StaysNode x (Some (moved p hides x))
stays_moved p hides (File bytes) = refl
stays_moved p hides (Link target) = refl
stays_moved p hides (Dir parent opaque names) = refl

-- ---- stores

abbrev StoreKeeps : Store → Store → Type 0
StoreKeeps t u = (i : ℕ) (x : Node) → get t.nodes i ≡ Some x → StaysNode x (get u.nodes i)

itself : (t : Store) → StoreKeeps t t
itself t i x e = subst (StaysNode x) (sym e) (stays_itself x)

still_dir : (t u : Store) → StoreKeeps t u → (i : ℕ) (o : Option Node) → get t.nodes i ≡ o → is_dir_node o ≡ true → is_dir_node (get u.nodes i) ≡ true
still_dir t u k i (Some (Dir parent opaque names)) at h = k i (Dir parent opaque names) at
still_dir t u k i (Some (File bytes)) at h = no_way h
still_dir t u k i (Some (Link target)) at h = no_way h
still_dir t u k i None at h = no_way h

through : (t u v : Store) → StoreKeeps t u → StoreKeeps u v → StoreKeeps t v
through t u v g h i (File bytes) e = h i (File bytes) (g i (File bytes) e)
through t u v g h i (Link target) e = h i (Link target) (g i (Link target) e)
through t u v g h i (Dir parent opaque names) e = still_dir u v h i (get u.nodes i) refl (g i (Dir parent opaque names) e)

abbrev node_or : Node → Option Node → Node
node_or d (Some y) = y
node_or d None = d

edit_keeps : (f : Node → Node) → ((x : Node) → StaysNode x (Some (f x))) → (t : Store) (u : ℕ) → StoreKeeps t (with_node_at f t u)
edit_keeps f stays t u i x e =
    at_node f t u i (StaysNode x) (λ node same at. let is : Some x ≡ Some node = sym e ∙ at in subst (λ y. StaysNode x (Some (f y))) (ap (node_or x) is) (stays x)) (itself t i x e)

set_keeps : (t : Store) (u : ℕ) (n : List ℕ) (e : NameEntry) → StoreKeeps t (set_entry t u n e)
set_keeps t u n e = edit_keeps (with_names (λ names. insert names n e)) (stays_names (λ names. insert names n e)) t u

clear_keeps : (t : Store) (u : ℕ) (n : List ℕ) → StoreKeeps t (clear_entry t u n)
clear_keeps t u n = edit_keeps (with_names (λ names. remove names n)) (stays_names (λ names. remove names n)) t u

drop_keeps : (white : Bool) (t : Store) (u : ℕ) (n : List ℕ) → StoreKeeps t (drop_entry white t u n)
drop_keeps true t u n = set_keeps t u n White
drop_keeps false t u n = clear_keeps t u n

emptied_keeps : (t : Store) (e : Option NameEntry) → StoreKeeps t (emptied t e)
emptied_keeps t (Some (Ino i)) = edit_keeps (with_names (λ names. empty)) (stays_names (λ names. empty)) t i
emptied_keeps t (Some White) = itself t
emptied_keeps t None = itself t

removed_keeps : (white : Bool) (t : Store) (u : ℕ) (n : List ℕ) → StoreKeeps t (removed white t u n)
removed_keeps white t u n =
    let one = emptied t (entry_of t u n) in
    through t one (drop_entry white one u n) (emptied_keeps t (entry_of t u n)) (drop_keeps white one u n)

renamed_to_keeps : (t : Store) (u : ℕ) (n : List ℕ) (hides : Bool) (e : Option NameEntry) → StoreKeeps t (renamed_to t u n hides e)
renamed_to_keeps t u n hides (Some (Ino i)) =
    let three = set_entry t u n (Ino i) in
    through t three (with_node_at (moved u hides) three i) (set_keeps t u n (Ino i)) (edit_keeps (moved u hides) (stays_moved u hides) three i)
renamed_to_keeps t u n hides (Some White) = itself t
renamed_to_keeps t u n hides None = itself t

renamed_keeps : (white opaque : Bool) (t : Store) (from : ℕ) (old : List ℕ) (to : ℕ) (n : List ℕ) → StoreKeeps t (renamed white opaque t from old to n)
renamed_keeps white opaque t from old to n =
    let one = emptied t (entry_of t to n) in
    let two = drop_entry white one from old in
    let hides = opaque || is_white (entry_of t to n) in
    through t one (renamed_to two to n hides (entry_of t from old)) (emptied_keeps t (entry_of t to n))
    (through one two (renamed_to two to n hides (entry_of t from old)) (drop_keeps white one from old) (renamed_to_keeps two to n hides (entry_of t from old)))

made_keeps : (t : Store) (u : ℕ) (n : List ℕ) (node : Node) → AreBelow t.nodes t.next → StoreKeeps t (made t u n node)
made_keeps t u n node below =
    let grown : Store = record { nodes = insert t.nodes t.next node; next = t.next + 1 } in
    through t grown (set_entry grown u n (Ino t.next))
    (λ i x e. by_key nat_cmp_total exact_unsigned t.nodes t.next node i (StaysNode x)
    (λ same. let less : i < t.next = below i (ap is_some e) in absurd (omega (arith, less, same))) (itself t i x e))
    (set_keeps grown u n (Ino t.next))

-- ---- worlds

-- each node that is there stays what it is
abbrev pub KeepsNodes : World → World → Type 0
KeepsNodes w v = ((s i : ℕ) (x : Node) → node_at w s i ≡ Some x → StaysNode x (node_at v s i)) × ((m : ℕ) (k : MountKind) → kind_in (facts_of w) m ≡ Some k → kind_in (facts_of v) m ≡ Some k)

same_world : (w : World) → KeepsNodes w w
same_world w = (λ s i x e. subst (StaysNode x) (sym e) (stays_itself x), λ m k e. e)

module _ (w : World) (s : ℕ) (edit : Store → Store) (keeps : (t : Store) → get w.stores s ≡ Some t → StoreKeeps t (edit t)) where
  store_case : (o : Option Store) → get w.stores s ≡ o → (r i : ℕ) (x : Node) → node_at w r i ≡ Some x → StaysNode x (node_at (with_store edit w s o) r i)
  store_case (Some t) at r i x e =
      by_key nat_cmp_total exact_unsigned w.stores s (edit t) r (λ o. StaysNode x (option_and_then (λ (t : Store). get t.nodes i) o))
      (λ same. keeps t at i x (sym (ap (λ o. option_and_then (λ (t : Store). get t.nodes i) o) (ap (get w.stores) same ∙ at)) ∙ e)) (subst (StaysNode x) (sym e) (stays_itself x))
  store_case None at r i x e = subst (StaysNode x) (sym e) (stays_itself x)

  store_keeps : KeepsNodes w (with_store edit w s (get w.stores s))
  store_keeps = (store_case (get w.stores s) refl, λ m k e. mounts_stay edit w s m (get w.stores s) ∙ e)

at_keeps : (w : World) (p : Seen) (edit : Store → ℕ → Store) → ((t : Store) (i : ℕ) → StoreKeeps t (edit t i)) → KeepsNodes w (edit_at w p edit)
at_keeps w p edit keeps = let b = base (facts_of w) p in store_keeps w b.store (λ t. edit t b.ino) (λ t at. keeps t b.ino)

-- whether a call may write to a file
abbrev pub writes : Call → Bool
writes (call.Write d bytes) = true
writes (call.Pwrite d o bytes) = true
writes (call.Truncate p n) = true
writes (call.Ftruncate d n) = true
writes (call.Open p f) = f.cut
writes _ = false

-- a call that takes a mount away
abbrev pub IsUnmount : Call → Type 0
IsUnmount (call.Umount p) = Unit {0}
IsUnmount (call.UmountForce p) = Unit {0}
IsUnmount _ = ⊥

module _ (w : World) (lasts : IsLasting w) where
  below_in : (s : ℕ) (t : Store) → get w.stores s ≡ Some t → AreBelow t.nodes t.next
  below_in s t at = subst (λ o. IfSome o (λ t. AreBelow t.nodes t.next)) at (lasts.numbered s)

  with_made_keeps : (s u : ℕ) (n : List ℕ) (node : Node) → KeepsNodes w (with_made w s u n node)
  with_made_keeps s u n node = store_keeps w s (λ t. made t u n node) (λ t at. made_keeps t u n node (below_in s t at))

  make_keeps : (d : Seen) (n : List ℕ) (node : Node) → Keeps (KeepsNodes w) AnyNeed (make_at w d n node)
  make_keeps d n node = let b = base (facts_of w) d in unless (is_full w b.store) _ (λ _. found_so (with_made_keeps b.store b.ino n node))

  -- ---- names

  mkdir_keeps : (a : Found) → Keeps (LeavesSo (KeepsNodes w)) AnyNeed (names.mkdir w a)
  mkdir_keeps a =
      past (free_target w a) (λ t.
      then (make_at w t.dir t.name (new_dir (base (facts_of w) t.dir).ino (has_white w t.dir t.name))) (make_keeps t.dir t.name (new_dir (base (facts_of w) t.dir).ino (has_white w t.dir t.name))) (λ new v. found_so v))

  symlink_keeps : (text : List ℕ) (a : Found) → Keeps (LeavesSo (KeepsNodes w)) AnyNeed (names.symlink w text a)
  symlink_keeps text a =
      past (names.check_text text) (λ _.
      past (free_target w a) (λ t.
      then (make_at w t.dir t.name (Link text)) (make_keeps t.dir t.name (Link text)) (λ new v. found_so v)))

  rmdir_keeps : (a : Found) → Keeps (LeavesSo (KeepsNodes w)) AnyNeed (names.rmdir w a)
  rmdir_keeps a =
      past (target_at w errno.EINVAL a) (λ t.
      past (names.check_removed w t.child) (λ _.
      found_so (at_keeps w t.dir (λ s dir. removed (is_in_union t.dir) s dir t.name) (λ s dir. removed_keeps (is_in_union t.dir) s dir t.name))))

  unlink_keeps : (a : Found) → Keeps (LeavesSo (KeepsNodes w)) AnyNeed (names.unlink w a)
  unlink_keeps a =
      past (target_at w errno.EPERM a) (λ t.
      past (there t.child) (λ p.
      unless (is_dir (facts_of w) p) _ (λ _.
      found_so (at_keeps w t.dir (λ s dir. removed (is_in_union t.dir) s dir t.name) (λ s dir. removed_keeps (is_in_union t.dir) s dir t.name)))))

  undelete_keeps : (a : Found) → Keeps (LeavesSo (KeepsNodes w)) AnyNeed (names.undelete w a)
  undelete_keeps a =
      past (target_at w errno.EEXIST a) (λ t.
      unless (not (has_white w t.dir t.name)) _ (λ _.
      found_so (at_keeps w t.dir (λ s dir. clear_entry s dir t.name) (λ s dir. clear_keeps s dir t.name))))

  link_keeps : (a b : Found) → Keeps (LeavesSo (KeepsNodes w)) AnyNeed (names.link w a b)
  link_keeps a b =
      past (place_at w a) (λ p.
      unless (is_dir (facts_of w) p) _ (λ _.
      past (free_target w b) (λ t.
      unless (not (mount_of p == mount_of t.dir)) _ (λ _.
      past (copied w p) (λ _.
      found_so (at_keeps w t.dir (λ s dir. set_entry s dir t.name (Ino (base (facts_of w) p).ino)) (λ s dir. set_keeps s dir t.name (Ino (base (facts_of w) p).ino))))))))

  rename_case_keeps : (c : Bool) (source d : Seen) (n : List ℕ) (new : Target) → Keeps (LeavesSo (KeepsNodes w)) AnyNeed (names.rename_case c w source d n new)
  rename_case_keeps true source d n new = found_so (same_world w)
  rename_case_keeps false source d n new =
      past (names.check_source (is_dir (facts_of w) source) w source new.dir) (λ _.
      past (names.check_replaced w (is_dir (facts_of w) source) new.child) (λ _.
      past (copied w source) (λ _.
      found_so (at_keeps w d (λ t from. renamed (is_in_union d) (is_in_union new.dir) t from n (base (facts_of w) new.dir).ino new.name)
      (λ t from. renamed_keeps (is_in_union d) (is_in_union new.dir) t from n (base (facts_of w) new.dir).ino new.name)))))

  rename_keeps : (a b : Found) → Keeps (LeavesSo (KeepsNodes w)) AnyNeed (names.rename w a b)
  rename_keeps a b =
      past (target_at w errno.EINVAL a) (λ old.
      past (there old.child) (λ source.
      past (target_at w errno.EINVAL b) (λ new.
      unless (not (mount_of old.dir == mount_of new.dir)) _ (λ _. rename_case_keeps (names.is_there source new.child) source old.dir old.name new))))

  chdir_keeps : (c : ℕ) (a : Found) → Keeps (LeavesSo (KeepsNodes w)) AnyNeed (names.chdir w c a)
  chdir_keeps c a = past (dir_at w a) (λ d. found_so (same_world w))

  -- ---- open

  cut_keeps : (b : Bool) (p : Seen) → b ≡ false → KeepsNodes w (rows.cut_to b w p)
  cut_keeps true p off = no_way (sym off)
  cut_keeps false p off = same_world w

  open_keeps : (c fd : ℕ) (f : Flags) (a : Found) → f.cut ≡ false → Keeps (LeavesSo (KeepsNodes w)) AnyNeed (rows.open_found w c fd f a)
  open_keeps c fd f (found.At p) off =
      unless (is_dir (facts_of w) p && rows.writes f.access) _ (λ _.
      unless (not (is_dir (facts_of w) p) && f.dir) _ (λ _.
      past (rows.copied_for (rows.writes f.access) w p) (λ _. found_so (cut_keeps f.cut p off))))
  open_keeps c fd f (found.In d n None) off = then (make_at w d n (File [])) (make_keeps d n (File [])) (λ new v. found_so v)
  open_keeps c fd f (found.In d n (Some p)) off = refused
  open_keeps c fd f (found.Dot d) off = refused
  open_keeps c fd f (found.Mount m) off = refused
  open_keeps c fd f (found.Refused e) off = refused
  open_keeps c fd f (found.Need x) off = unless (is_full w (upper_store w x.mount)) _ (λ _. needed tt)

  open_file_keeps : (c : ℕ) (f : Flags) (a : Found) → f.cut ≡ false → Keeps (LeavesSo (KeepsNodes w)) AnyNeed (rows.open_file w c f a)
  open_file_keeps c f a off =
      unless (not (rows.are_flags f)) _ (λ _.
      past (rows.free_descriptor w c) (λ fd.
      unless (not (nat_lt (len w.opens) w.limits.files)) _ (λ _. open_keeps c fd f a off)))

  -- ---- calls that read

  next_keeps : (o : Option Ref) → Keeps (LeavesSo (KeepsNodes w)) AnyNeed (mounts.revoke_next w o)
  next_keeps (Some at) = needed tt
  next_keeps None = found_so (same_world w)

  -- ---- mounts

  new_mount : (k : MountKind) (on : Seen) (m : ℕ) (j : MountKind) → kind_in (facts_of w) m ≡ Some j → kind_in (facts_of (mounts.with_mount w k on)) m ≡ Some j
  new_mount k on m j e =
      by_key nat_cmp_total exact_unsigned w.mounts w.next_mount (record { number = w.next_mount; kind = k; on = Some on; cut = false }) m (λ o. option_map (λ (t : Mount). t.kind) o ≡ Some j)
      (λ same. let less : m < w.next_mount = lasts.counted.mounts m (there_in (get w.mounts m) e) in absurd (omega (arith, less, same))) e
    where
      there_in : (o : Option Mount) → option_map (λ (t : Mount). t.kind) o ≡ Some j → is_some o ≡ true
      there_in (Some t) e = refl
      there_in None e = absurd (let clash : None ≡ Some j = e in cc)

  mount_keeps : (k : MountKind) (on : Seen) → KeepsNodes w (mounts.with_mount w k on)
  mount_keeps k on = ((same_world w).0, new_mount k on)

  mem_nodes : (on : Seen) (s i : ℕ) (x : Node) → node_at w s i ≡ Some x → StaysNode x (node_at (mounts.with_mount (record w { stores = insert w.stores w.next_mount empty_store }) kind.Mem on) s i)
  mem_nodes on s i x e =
      by_key nat_cmp_total exact_unsigned w.stores w.next_mount empty_store s (λ o. StaysNode x (option_and_then (λ (t : Store). get t.nodes i) o))
      (λ same. let less : s < w.next_mount = lasts.counted.stores s (there_in (get w.stores s) e) in absurd (omega (arith, less, same))) (subst (StaysNode x) (sym e) (stays_itself x))
    where
      there_in : (o : Option Store) → option_and_then (λ (t : Store). get t.nodes i) o ≡ Some x → is_some o ≡ true
      there_in (Some t) e = refl
      there_in None e = absurd (let clash : None ≡ Some x = e in cc)

  mem_keeps : (a : Found) → Keeps (LeavesSo (KeepsNodes w)) AnyNeed (mounts.mount_mem w a)
  mem_keeps a = past (dir_at w a) (λ on. past (mounts.check_mounts w) (λ _. found_so (mem_nodes on, new_mount kind.Mem on)))

  null_keeps : (a b : Found) → Keeps (LeavesSo (KeepsNodes w)) AnyNeed (mounts.mount_null w a b)
  null_keeps a b =
      past (dir_at w a) (λ layer.
      past (dir_at w b) (λ on.
      unless (same_place layer on) _ (λ _. unless (depth (facts_of w) layer == mounts.most_depth) _ (λ _. past (mounts.check_mounts w) (λ _. found_so (mount_keeps (kind.Null layer) on))))))

  union_keeps : (a b : Found) → Keeps (LeavesSo (KeepsNodes w)) AnyNeed (mounts.mount_union w a b)
  union_keeps a b =
      past (dir_at w a) (λ up.
      past (dir_at w b) (λ on.
      past (mounts.upper_of up) (λ upper.
      unless (list_any (λ s. s == upper.store) (stores (facts_of w) on)) _ (λ _.
      unless (depth (facts_of w) on == mounts.most_depth) _ (λ _. past (mounts.check_mounts w) (λ _. found_so (mount_keeps (kind.Union upper.store upper.ino on) on)))))))

  -- ---- all calls but unmounts

  decided_keeps : (c : ℕ) (x : Call) (a b : Found) → writes x ≡ false → (IsUnmount x → ⊥) → Keeps (LeavesSo (KeepsNodes w)) AnyNeed (decided w c x a b)
  decided_keeps c (call.Mkdir p) a b off stays = mkdir_keeps a
  decided_keeps c (call.Rmdir p) a b off stays = rmdir_keeps a
  decided_keeps c (call.Open p f) a b off stays = open_file_keeps c f a off
  decided_keeps c (call.Close d) a b off stays = past (rows.descriptor w c d) (λ o. found_so (same_world w))
  decided_keeps c (call.Read d n) a b off stays = past (rows.descriptor w c d) (λ o. past (rows.check_read w o n) (λ _. found_so (same_world w)))
  decided_keeps c (call.Pread d n at) a b off stays = past (rows.descriptor w c d) (λ o. past (rows.check_read w o n) (λ _. found_so (same_world w)))
  decided_keeps c (call.Write d bytes) a b off stays = no_way (sym off)
  decided_keeps c (call.Pwrite d at bytes) a b off stays = no_way (sym off)
  decided_keeps c (call.Lseek d h i) a b off stays =
      past (rows.descriptor w c d) (λ o. unless o.dead _ (λ _. past (rows.offset_of (pos (rows.seek_from w o h) +ℤ i)) (λ at. found_so (same_world w))))
  decided_keeps c (call.Truncate p n) a b off stays = no_way (sym off)
  decided_keeps c (call.Ftruncate d n) a b off stays = no_way (sym off)
  decided_keeps c (call.Stat p) a b off stays = past (place_at w a) (λ p. past (names.stat_of (node_of w p)) (λ known. found_so (same_world w)))
  decided_keeps c (call.Lstat p) a b off stays = past (place_at w a) (λ p. past (names.stat_of (node_of w p)) (λ known. found_so (same_world w)))
  decided_keeps c (call.Fstat d) a b off stays = past (rows.descriptor w c d) (λ o. unless o.dead _ (λ _. past (names.stat_of (node_of w o.place)) (λ known. found_so (same_world w))))
  decided_keeps c (call.Readdir d) a b off stays =
      past (rows.descriptor w c d) (λ o. unless o.dead _ (λ _. unless (not (is_dir (facts_of w) o.place)) _ (λ _. past (lifted w (visible w o.place)) (λ ns. found_so (same_world w)))))
  decided_keeps c (call.Unlink p) a b off stays = unlink_keeps a
  decided_keeps c (call.Rename p q) a b off stays = rename_keeps a b
  decided_keeps c (call.Link p q) a b off stays = link_keeps a b
  decided_keeps c (call.Symlink t p) a b off stays = symlink_keeps t a
  decided_keeps c (call.Readlink p) a b off stays = past (place_at w a) (λ p. past (names.link_text (target_of (facts_of w) p)) (λ text. found_so (same_world w)))
  decided_keeps c (call.Undelete p) a b off stays = undelete_keeps a
  decided_keeps c (call.Chdir p) a b off stays = chdir_keeps c a
  decided_keeps c (call.Fchdir d) a b off stays = past (rows.open_dir w c d) (λ p. found_so (same_world w))
  decided_keeps c (call.Statfs p) a b off stays = past (place_at w a) (λ p. found_so (same_world w))
  decided_keeps c (call.MountMem p) a b off stays = mem_keeps a
  decided_keeps c (call.MountNull t p) a b off stays = null_keeps a b
  decided_keeps c (call.MountUnion u p) a b off stays = union_keeps a b
  decided_keeps c (call.Umount p) a b off stays = absurd (stays tt)
  decided_keeps c (call.UmountForce p) a b off stays = absurd (stays tt)
  decided_keeps c (call.Revoke p) a b off stays = past (place_at w a) (λ p. unless (not (is_file (facts_of w) p)) _ (λ _. next_keeps (first_open w p)))

  pub call_keeps : (c : ℕ) (x : Call) (r : Reply) → writes x ≡ false → (IsUnmount x → ⊥) → KeepsNodes w (after w (entry.Call c x r))
  call_keeps c x r off stays = left-so (KeepsNodes w) w c x r (same_world w) (decided_keeps c x (first_found w c x) (second_found w c x) off stays)

  -- ---- inner entries

  above_keeps : (m u : ℕ) (n : List ℕ) (node : Node) → KeepsNodes w (made_above w m u n node)
  above_keeps m u n node = with_made_keeps (upper_store w m) u n node

  child_keeps : (m u : ℕ) (n : List ℕ) (c : Child) → KeepsNodes w (copied_child w m u n c)
  child_keeps m u n (child.At q) = above_keeps m u n (copy_of (node_of w q))
  child_keeps m u n child.Absent = above_keeps m u n (File [])
  child_keeps m u n (child.Need x) = above_keeps m u n (File [])

  cut_kind : (m : ℕ) (k : MountKind) (o : Option Mount) → option_map (λ (t : Mount). t.kind) o ≡ Some k → option_map (λ (t : Mount). t.kind) (option_map (cut_with w.mounts m) o) ≡ Some k
  cut_kind m k (Some t) e = e
  cut_kind m k None e = e

  doom_keeps : (o : Option Seen) → KeepsNodes w (doomed_place w o)
  doom_keeps (Some p) = same_world w
  doom_keeps None = same_world w

  pub inner_keeps : (c : ℕ) (x : Inner) → KeepsNodes w (effect w c x)
  inner_keeps c (Shadow m u n) = above_keeps m u n (new_dir u false)
  inner_keeps c (CopyUp m u n) = child_keeps m u n (child_below (child_of (facts_of w)) (low (facts_of w) m u) n)
  inner_keeps c (Detach m) =
      ((same_world w).0, λ n k e. ap (option_map (λ (t : Mount). t.kind)) (get_each nat_cmp_total (cut_with w.mounts m) w.mounts n) ∙ cut_kind m k (get w.mounts n) e)
  inner_keeps c (Doom at) = doom_keeps (place_of w at)

-- ---- calls that write

-- a node stays what it is, and so does each mount
abbrev pub KeepsNode : NodeId → World → World → Type 0
KeepsNode b w v = ((x : Node) → node_at w b.store b.ino ≡ Some x → StaysNode x (node_at v b.store b.ino)) × ((m : ℕ) (k : MountKind) → kind_in (facts_of w) m ≡ Some k → kind_in (facts_of v) m ≡ Some k)

pub one_of : (b : NodeId) (w v : World) → KeepsNodes w v → KeepsNode b w v
one_of b w v keeps = (keeps.0 b.store b.ino, keeps.1)

module _ (w : World) (b : NodeId) where
  -- a place that rests on another node
  abbrev Away : Seen → Type 0
  Away p = same_node (base (facts_of w) p) b ≡ false

  abbrev Kept : Outcome → Type 0
  Kept o = Keeps (LeavesSo (KeepsNode b w)) AnyNeed o

  same_kept : KeepsNode b w w
  same_kept = one_of b w w (same_world w)

  other_node : (s i : ℕ) → same_node (record { store = s; ino = i }) b ≡ false → (f : Node → Node) (o : Option Store) → get w.stores s ≡ o
      → node_at (with_store (λ t. with_node_at f t i) w s o) b.store b.ino ≡ node_at w b.store b.ino
  other_node s i away f (Some t) at =
      by_key nat_cmp_total exact_unsigned w.stores s (with_node_at f t i) b.store (λ o. option_and_then (λ (t : Store). get t.nodes b.ino) o ≡ node_at w b.store b.ino)
      (λ same. at_node f t i b.ino (λ o. o ≡ node_at w b.store b.ino)
      (λ node one _. no_way (sym away ∙ both_of (s == b.store) (i == b.ino) (eq-eqb s b.store (sym same)) (eq-eqb i b.ino (sym one))))
      (sym (ap (option_and_then (λ (t : Store). get t.nodes b.ino)) (ap (get w.stores) same ∙ at)))) refl
  other_node s i away f None at = refl

  edit_kept : (p : Seen) → Away p → (f : Node → Node) → KeepsNode b w (edit_at w p (λ t i. with_node_at f t i))
  edit_kept p away f =
      let a : NodeId = base (facts_of w) p in (
        λ x e. subst (StaysNode x) (sym (other_node a.store a.ino away f (get w.stores a.store) refl ∙ e)) (stays_itself x),
        λ m k e. mounts_stay (λ t. with_node_at f t a.ino) w a.store m (get w.stores a.store) ∙ e,
      )

  bytes_kept : (p : Seen) → Away p → (f : List ℕ → List ℕ) → KeepsNode b w (edit_at w p (λ t i. with_node_at (with_bytes f) t i))
  bytes_kept p away f = edit_kept p away (with_bytes f)

  length_kept : (p : Seen) → Away p → (n : ℕ) → KeepsNode b w (rows.resize_at w p n)
  length_kept p away n = bytes_kept p away (λ old. resize_bytes old n)

  -- what a descriptor stands for
  of_opened : (c d : ℕ) (o : Open) → IfSome (place_opened w c d) Away → get w.opens (c, d) ≡ Some o → Away o.place
  of_opened c d o away is = subst (λ x. IfSome (option_map (λ (o : Open). o.place) x) Away) is away

  at_descriptor : (c d : ℕ) → Keeps (λ o. get w.opens (c, d) ≡ Some o) AnyNeed (rows.descriptor w c d)
  at_descriptor c d = weaker (rows.descriptor w c d) (λ _ h. h) (λ _ _. tt) (keeps-descriptor w c d)

  write_at_kept : (o : Open) (at : ℕ) (bytes : List ℕ) → Away o.place → Keeps (λ (x : World × ℕ). KeepsNode b w x.0) AnyNeed (rows.write_at w o at bytes)
  write_at_kept o at bytes away = unless (nat_lt rows.most_bytes (at + length bytes)) _ (λ _. found_so (bytes_kept o.place away (λ old. write_bytes old at bytes)))

  write_some_kept : (c d : ℕ) (o : Open) (bytes : List ℕ) → Away o.place → Kept (rows.write_some w c d o bytes)
  write_some_kept c d o [] away = found_so same_kept
  write_some_kept c d o (x ∷ xs) away =
      then (rows.write_at w o (rows.write_to w o o.offset) (x ∷ xs)) (write_at_kept o (rows.write_to w o o.offset) (x ∷ xs) away) (λ new k. found_so k)

  pwrite_some_kept : (o : Open) (at : ℕ) (bytes : List ℕ) → Away o.place → Kept (rows.pwrite_some w o at bytes)
  pwrite_some_kept o at [] away = found_so same_kept
  pwrite_some_kept o at (x ∷ xs) away =
      then (rows.write_at w o (rows.write_to w o at) (x ∷ xs)) (write_at_kept o (rows.write_to w o at) (x ∷ xs) away) (λ new k. found_so k)

  write_kept : (c d : ℕ) (bytes : List ℕ) → IfSome (place_opened w c d) Away → Kept (rows.write w c d bytes)
  write_kept c d bytes away =
      then (rows.descriptor w c d) (at_descriptor c d) (λ o is. past (rows.check_write o bytes) (λ _. write_some_kept c d o bytes (of_opened c d o away is)))

  pwrite_kept : (c d at : ℕ) (bytes : List ℕ) → IfSome (place_opened w c d) Away → Kept (rows.pwrite w c d at bytes)
  pwrite_kept c d at bytes away =
      then (rows.descriptor w c d) (at_descriptor c d) (λ o is. past (rows.check_write o bytes) (λ _. pwrite_some_kept o at bytes (of_opened c d o away is)))

  ftruncate_kept : (c d n : ℕ) → IfSome (place_opened w c d) Away → Kept (rows.ftruncate w c d n)
  ftruncate_kept c d n away =
      then {Q = Away} (rows.open_length w c d n)
      (then (rows.descriptor w c d) (at_descriptor c d) (λ o is.
      unless o.dead _ (λ _. unless (not o.mode.write) _ (λ _. unless (nat_lt rows.most_bytes n) _ (λ _. found_so (of_opened c d o away is))))))
      (λ p off. found_so (length_kept p off n))

  truncate_kept : (a : Found) (n : ℕ) → IfSome (place_found a) Away → Kept (rows.truncate w a n)
  truncate_kept a n away =
      then (place_at w a) (found_place w a) (λ p is. past (rows.check_length w p n) (λ _. found_so (length_kept p (subst (λ x. IfSome (place_found x) Away) is away) n)))

  -- an open cuts what is there
  cut_kept : (c fd : ℕ) (f : Flags) (p : Seen) (cut : Bool) → Away p → KeepsNode b w (rows.open_place (rows.cut_to cut w p) c fd f p)
  cut_kept c fd f p true away = length_kept p away 0
  cut_kept c fd f p false away = same_kept

  module _ (lasts : IsLasting w) where
    found_kept : (c fd : ℕ) (f : Flags) (a : Found) → IfSome (place_found a) Away → Kept (rows.open_found w c fd f a)
    found_kept c fd f (found.At p) away =
        unless (is_dir (facts_of w) p && rows.writes f.access) _ (λ _.
        unless (not (is_dir (facts_of w) p) && f.dir) _ (λ _.
        past (rows.copied_for (rows.writes f.access) w p) (λ _. found_so (cut_kept c fd f p f.cut away))))
    found_kept c fd f (found.In d n None) away = then (make_at w d n (File [])) (make_keeps w lasts d n (File [])) (λ new v. found_so (one_of b w new v))
    found_kept c fd f (found.In d n (Some p)) away = refused
    found_kept c fd f (found.Dot d) away = refused
    found_kept c fd f (found.Mount m) away = refused
    found_kept c fd f (found.Refused e) away = refused
    found_kept c fd f (found.Need x) away = unless (is_full w (upper_store w x.mount)) _ (λ _. needed tt)

    open_kept : (c : ℕ) (f : Flags) (a : Found) → IfSome (place_found a) Away → Kept (rows.open_file w c f a)
    open_kept c f a away =
        unless (not (rows.are_flags f)) _ (λ _.
        past (rows.free_descriptor w c) (λ fd.
        unless (not (nat_lt (len w.opens) w.limits.files)) _ (λ _. found_kept c fd f a away)))

    -- ---- what such a call leaves

    left_by : (c : ℕ) (x : Call) (r : Reply) → Kept (decided w c x (first_found w c x) (second_found w c x)) → KeepsNode b w (after w (entry.Call c x r))
    left_by c x r kept = left-so (KeepsNode b w) w c x r same_kept kept

    open_case : (c : ℕ) (p : List ℕ) (f : Flags) (r : Reply) (cut : Bool) → f.cut ≡ cut → IfSome (cond cut (place_found (first_found w c (call.Open p f))) None) Away → KeepsNode b w (after w (entry.Call c (call.Open p f) r))
    open_case c p f r true is away = let x = call.Open p f in left_by c x r (open_kept c f (first_found w c x) away)
    open_case c p f r false is away = let x = call.Open p f in one_of b w (after w (entry.Call c x r)) (call_keeps w lasts c x r is (λ y. y))

    pub call_kept : (c : ℕ) (x : Call) (r : Reply) → (IsUnmount x → ⊥) → IfSome (written_place w c x) Away → KeepsNode b w (after w (entry.Call c x r))
    call_kept c (call.Write d bytes) r stays away = left_by c (call.Write d bytes) r (write_kept c d bytes away)
    call_kept c (call.Pwrite d at bytes) r stays away = left_by c (call.Pwrite d at bytes) r (pwrite_kept c d at bytes away)
    call_kept c (call.Truncate p n) r stays away = let x = call.Truncate p n in left_by c x r (truncate_kept (first_found w c x) n away)
    call_kept c (call.Ftruncate d n) r stays away = left_by c (call.Ftruncate d n) r (ftruncate_kept c d n away)
    call_kept c (call.Open p f) r stays away = open_case c p f r f.cut refl away
    call_kept c x r stays away = one_of b w (after w (entry.Call c x r)) (call_keeps w lasts c x r refl stays)

-- ---- unmounts

-- the stores are as before, and no mount is new
abbrev pub HasFewer : World → World → Type 0
HasFewer w v = (v.stores ≡ w.stores) × ((m : ℕ) (k : MountKind) → kind_in (facts_of v) m ≡ Some k → kind_in (facts_of w) m ≡ Some k)

gone_kind : (k : MountKind) (b : Bool) (o : Option Mount) → option_map (λ (t : Mount). t.kind) (cond b None o) ≡ Some k → option_map (λ (t : Mount). t.kind) o ≡ Some k
gone_kind k true o e = absurd (let clash : None ≡ Some k = e in cc)
gone_kind k false o e = e

without_kind : (w : World) (m n : ℕ) (k : MountKind) → option_map (λ (t : Mount). t.kind) (get (remove w.mounts m) n) ≡ Some k → kind_in (facts_of w) n ≡ Some k
without_kind w m n k e = gone_kind k (eq_by_cmp nat_cmp n m) (get w.mounts n) (sym (ap (option_map (λ (t : Mount). t.kind)) (get-remove nat_cmp_total w.mounts m n)) ∙ e)

umount_fewer : (w : World) (a : Found) → Keeps (LeavesSo (HasFewer w)) AnyNeed (mounts.umount w a)
umount_fewer w a = past (mount_at w a) (λ m. unless (m == 0) _ (λ _. unless (has_references w m) _ (λ _. found_so (refl, without_kind w m))))

force_next : (w : World) (c m : ℕ) (o : Option Ref) → Keeps (LeavesSo (HasFewer w)) AnyNeed (mounts.doom_next w c m o)
force_next w c m (Some at) = needed tt
force_next w c m None = found_so (refl, without_kind w m)

force_fewer : (w : World) (c : ℕ) (a : Found) (o : Option ℕ) → Keeps (LeavesSo (HasFewer w)) AnyNeed (mounts.umount_by w c a o)
force_fewer w c a (Some m) = force_next w c m (first_in w m)
force_fewer w c a None = past (mount_at w a) (λ m. unless (m == 0) _ (λ _. unless (is_covered w m) _ (λ _. needed tt)))

same_mounts : (w : World) → HasFewer w w
same_mounts w = (refl, λ m k e. e)

pub after_umount : (w : World) (c : ℕ) (text : List ℕ) (r : Reply) → HasFewer w (after w (entry.Call c (call.Umount text) r))
after_umount w c text r = let x = call.Umount text in left-so (HasFewer w) w c x r (same_mounts w) (umount_fewer w (first_found w c x))

pub after_force : (w : World) (c : ℕ) (text : List ℕ) (r : Reply) → HasFewer w (after w (entry.Call c (call.UmountForce text) r))
after_force w c text r = let x = call.UmountForce text in left-so (HasFewer w) w c x r (same_mounts w) (force_fewer w c (first_found w c x) (get w.leaving c))

-- ---- calls that drop names leave what is open

abbrev SameOpens : World → World → Type 0
SameOpens w v = v.opens ≡ w.opens

unlink_opens : (w : World) (a : Found) → Keeps (LeavesSo (SameOpens w)) AnyNeed (names.unlink w a)
unlink_opens w a =
    past (target_at w errno.EPERM a) (λ t.
    past (there t.child) (λ p.
    unless (is_dir (facts_of w) p) _ (λ _. found_so (alone-edit w t.dir (λ s dir. removed (is_in_union t.dir) s dir t.name)).0)))

case_opens : (w : World) (c : Bool) (source d : Seen) (n : List ℕ) (new : Target) → Keeps (LeavesSo (SameOpens w)) AnyNeed (names.rename_case c w source d n new)
case_opens w true source d n new = found_so refl
case_opens w false source d n new =
    past (names.check_source (is_dir (facts_of w) source) w source new.dir) (λ _.
    past (names.check_replaced w (is_dir (facts_of w) source) new.child) (λ _.
    past (copied w source) (λ _. found_so (alone-edit w d (λ t from. renamed (is_in_union d) (is_in_union new.dir) t from n (base (facts_of w) new.dir).ino new.name)).0)))

rename_opens : (w : World) (a b : Found) → Keeps (LeavesSo (SameOpens w)) AnyNeed (names.rename w a b)
rename_opens w a b =
    past (target_at w errno.EINVAL a) (λ old.
    past (there old.child) (λ source.
    past (target_at w errno.EINVAL b) (λ new.
    unless (not (mount_of old.dir == mount_of new.dir)) _ (λ _. case_opens w (names.is_there source new.child) source old.dir old.name new))))

pub after_drop : (w : World) (c : ℕ) (x : Call) (r : Reply) → DropsFiles x → (after w (entry.Call c x r)).opens ≡ w.opens
after_drop w c (call.Unlink p) r drops = let x = call.Unlink p in left-so (SameOpens w) w c x r refl (unlink_opens w (first_found w c x))
after_drop w c (call.Rename p q) r drops = let x = call.Rename p q in left-so (SameOpens w) w c x r refl (rename_opens w (first_found w c x) (second_found w c x))
after_drop w c _ r drops = absurd drops
