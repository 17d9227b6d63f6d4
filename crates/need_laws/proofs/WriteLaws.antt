-- What is open for writing is no file of a lower layer alone, and calls change stores above alone.
use Rattle.std.proofs.Common.{◌≡◌, ℕ, suc, ◌+◌, ◌<◌, ◌⊎◌, inl, inr, Bool, true, false, cond, not, ◌&&◌, ◌==◌, List, [], ◌∷◌, length, refl, ap, sym, ◌∙◌, subst, arith, eq-eqb}
use Rattle.std.specs.Prelude.{Option, Some, None, IsSome, IfSome, is_some, option_map, option_and_then, nat_lt, ℤ, pos, ◌+ℤ◌}
use Rattle.std.specs.List.{list_any}
use Rattle.std.specs.Cmp.{nat_cmp_total}
use Rattle.std.specs.Ordering.{eq_by_cmp}
use Rattle.std.specs.FinMap.{get, insert, remove, len, get-remove}
use Rattle.std.proofs.lemmas.Map.Lookups.{exact_unsigned}
use Rattle.finite_maps.specs.Keys.{pair_cmp}
use Rattle.finite_maps.proofs.EntryLaws.{pair_total, pair_exact, by_key}
use Rattle.vfs_tree.specs.Carriers.{is_in_union}
use Rattle.vfs_tree.specs.Edits.{made, with_store}
use Rattle.vfs_tree.specs.Facts.{Facts}
use Rattle.vfs_tree.specs.FileEdits.{written, resized}
use Rattle.vfs_tree.specs.Layers.{kind_in, store_by, base, is_dir, is_file, target_of, same_place, depth, stores_within, stores}
use Rattle.vfs_tree.specs.Mounts.{has_references, is_covered}
use Rattle.vfs_tree.specs.Nodes.{next_of, node_at}
use Rattle.vfs_tree.specs.Place.{Seen, Mem, Null, UnionUp, UnionLow, mount_of, bare}
use Rattle.vfs_tree.specs.Sound.{is_null, is_union, names_mounts, AreFiles, IsSound}
use Rattle.vfs_tree.specs.Start.{empty_store}
use Rattle.vfs_tree.specs.Steps.{◌>>◌, refuse_if}
use Rattle.vfs_tree.specs.StoreEdits.{removed, set_entry, clear_entry, renamed}
use Rattle.vfs_tree.specs.Views.{facts_of}
use Rattle.vfs_tree.specs.Visible.{visible}
use Rattle.vfs_tree.specs.declared.errno.Errno.{Errno}
use Rattle.vfs_tree.specs.declared.errno.Errno.TheVariants as errno
use Rattle.vfs_tree.specs.declared.mount.MountKind.{MountKind}
use Rattle.vfs_tree.specs.declared.mount.MountKind.TheVariants as kind
use Rattle.vfs_tree.specs.declared.node.NameEntry.TheVariants.{Ino}
use Rattle.vfs_tree.specs.declared.node.Node.{Node}
use Rattle.vfs_tree.specs.declared.node.Node.TheVariants.{File}
use Rattle.vfs_tree.specs.declared.node.Store.{Store}
use Rattle.vfs_tree.specs.declared.open.Open.{Open}
use Rattle.vfs_tree.specs.declared.walk.Found.{Found}
use Rattle.vfs_tree.specs.declared.walk.Found.TheVariants as found
use Rattle.vfs_tree.specs.declared.walk.NodeId.{NodeId}
use Rattle.vfs_tree.specs.declared.walk.Step.TheVariants.{Go, Refuse, Wants}
use Rattle.vfs_tree.specs.declared.world.World.{World}
use Rattle.call_model.specs.Apply.{settle, apply}
use Rattle.call_model.specs.Checks.{Outcome, is_full, upper_store, lifted, copied, place_at, mount_at, target_at, there, dir_at, free_target, node_of, has_white, edit_at, make_at}
use Rattle.call_model.specs.DataRows as data_rows
use Rattle.call_model.specs.Legal.{after, is_no_memory, world_after}
use Rattle.call_model.specs.MountRows as mounts
use Rattle.call_model.specs.NameRows as names
use Rattle.call_model.specs.Refs.{first_in, first_open}
use Rattle.call_model.specs.Rows.{check_way, first_way, second_way, first_found, second_found, decided, row}
use Rattle.call_model.specs.declared.call.Call.{Call}
use Rattle.call_model.specs.declared.call.Call.TheVariants as call
use Rattle.call_model.specs.declared.call.Flags.{Flags}
use Rattle.call_model.specs.declared.call.Whence.{Whence}
use Rattle.call_model.specs.declared.entry.Entry.TheVariants as entry
use Rattle.call_model.specs.declared.entry.Inner.{Inner}
use Rattle.call_model.specs.declared.entry.Ref.{Ref}
use Rattle.call_model.specs.declared.reply.Reply.{Reply}
use Rattle.call_model.specs.declared.target.Target.{Target}
use Rattle.call_laws.specs.Lasting.{lower_mount, IsOver, IsLasting}
use Rattle.call_laws.proofs.DataParts.{keeps-descriptor}
use Rattle.call_laws.proofs.NamedLaws.{no_way}
use Rattle.call_laws.proofs.Parts.{Keeps, found_so, refused, needed, weaker, then, unless}
use Rattle.call_laws.proofs.PlaceLaws.{well_at}
use Rattle.call_laws.proofs.SoundParts.{first_of, second_of, is_so, or_none, number_or}
use Rattle.call_laws.proofs.SoundRows.{AnyNeed}
use Rattle.call_laws.proofs.WalkLaws.{IsTarget, FoundWell}
use Rattle.call_laws.proofs.Whole.{IsWhole}
use Rattle.model_laws.proofs.FuelLaws.{stores_mem, stores_null, stores_union}
use Rattle.model_laws.proofs.Leaving.{any}
use Rattle.layer_laws.specs.Apart.{IsApart}
use Rattle.layer_laws.proofs.AvoidLaws.{mem_kind, same_base}
use Rattle.need_laws.specs.Above.{is_lower_file, AreWrittenAbove}
use Rattle.need_laws.specs.Changed.{place_found, place_opened, changed_place, IsChangedAbove, ChangesAbove, IsInLayer}

-- ---- places

-- a directory is never of the lower layer alone
dir_above : (f : Facts) (p : Seen) → AreFiles f p → is_dir f p ≡ true → is_lower_file p ≡ false
dir_above f (Mem m i) files dir = refl
dir_above f (Null m p) files dir = dir_above f p files dir
dir_above f (UnionUp m i) files dir = refl
dir_above f (UnionLow m u n p) files dir = no_way (sym files.0 ∙ dir)

-- nor is what is made in a directory that isn't
made_in : (d : Seen) (i : ℕ) → is_lower_file (data_rows.place_in d i) ≡ is_lower_file d
made_in (Mem m u) i = refl
made_in (Null m p) i = made_in p i
made_in (UnionUp m u) i = refl
made_in (UnionLow m u n p) i = refl

bare_file : (p : Seen) → is_lower_file (bare p) ≡ is_lower_file p
bare_file (Mem m i) = refl
bare_file (Null m p) = bare_file p
bare_file (UnionUp m i) = refl
bare_file (UnionLow m u n p) = refl

pub bare_base : (f : Facts) (p : Seen) → base f (bare p) ≡ base f p
bare_base f (Mem m i) = refl
bare_base f (Null m p) = bare_base f p
bare_base f (UnionUp m i) = refl
bare_base f (UnionLow m u n p) = refl

-- ---- parts of calls

-- a check at the end
last : {P : Type 0} (b : Bool) (e : Errno) → P → Keeps (λ (u : Unit {0}). P) AnyNeed (refuse_if b e)
last true e h = refused
last false e h = found_so h

-- what needs no copy is no file of a lower layer alone
copied_above : (w : World) (p : Seen) → Keeps (λ _. is_lower_file p ≡ false) AnyNeed (copied w p)
copied_above w (Mem m i) = found_so refl
copied_above w (Null m p) = copied_above w p
copied_above w (UnionUp m i) = found_so refl
copied_above w (UnionLow m u n p) = unless (is_full w (upper_store w m)) _ (λ _. needed tt)

copied_if : (b : Bool) (w : World) (p : Seen) → Keeps (λ _. b ≡ true → is_lower_file p ≡ false) AnyNeed (data_rows.copied_for b w p)
copied_if true w p = weaker (copied w p) (λ _ h _. h) (λ _ n. n) (copied_above w p)
copied_if false w p = found_so (λ e. no_way e)

-- what is found
shadow : {A : Type 0} {P : A → Type 0} (w : World) (m : ℕ) (x : Inner) → Keeps P AnyNeed (refuse_if (is_full w (upper_store w m)) errno.ENOSPC >> Wants x)
shadow w m x = unless (is_full w (upper_store w m)) _ (λ _. needed tt)

at_place : (w : World) (a : Found) → Keeps (λ p. a ≡ found.At p) AnyNeed (place_at w a)
at_place w (found.At p) = found_so refl
at_place w (found.Need x) = shadow w x.mount _
at_place w (found.In d n c) = refused
at_place w (found.Dot d) = refused
at_place w (found.Mount m) = refused
at_place w (found.Refused e) = refused

in_target : (w : World) (dot : Errno) (a : Found) → Keeps (λ t. a ≡ found.In t.dir t.name t.child) AnyNeed (target_at w dot a)
in_target w dot (found.In d n c) = found_so refl
in_target w dot (found.Need x) = shadow w x.mount _
in_target w dot (found.At p) = refused
in_target w dot (found.Dot d) = refused
in_target w dot (found.Mount m) = refused
in_target w dot (found.Refused e) = refused

in_free : (w : World) (a : Found) → Keeps (λ t. a ≡ found.In t.dir t.name t.child) AnyNeed (free_target w a)
in_free w a = then (target_at w errno.EEXIST a) (in_target w errno.EEXIST a) (λ t is. unless (is_some t.child) _ (λ _. found_so is))

at_descriptor : (w : World) (c d : ℕ) → Keeps (λ o. get w.opens (c, d) ≡ Some o) AnyNeed (data_rows.descriptor w c d)
at_descriptor w c d = weaker (data_rows.descriptor w c d) (λ _ h. h) (λ _ _. tt) (keeps-descriptor w c d)

-- what is written is open for writing
can_write : (o : Open) (bytes : List ℕ) → Keeps (λ _. o.mode.write ≡ true) AnyNeed (data_rows.check_write o bytes)
can_write o bytes = unless o.dead _ (λ _. unless (not o.mode.write) _ (λ e. last (nat_lt data_rows.most_moved (length bytes)) _ (is_so o.mode.write e)))

-- a file is cut where it is opened for writing
cut_writes : (cut writes rest : Bool) → not (not (cut && not writes) && rest) ≡ false → cut ≡ true → writes ≡ true
cut_writes cut true rest e is = refl
cut_writes true false rest e is = no_way (sym e)
cut_writes false false rest e is = no_way is

no_store : (o : Option Store) → (IsSome o → ⊥) → o ≡ None
no_store None h = refl
no_store (Some t) h = absurd (h refl)

-- ---- what a call leaves

-- what is open for writing is so; the mounts are as before where the call changes a place; so are all stores but one
pub record Left (w v : World) (o : Option Seen) : Type 0 where
  pub opens : AreWrittenAbove v
  pub mounts : IsSome o → v.mounts ≡ w.mounts
  pub stores : (s : ℕ) → ChangesAbove w v o s

-- what stands at a store's number then
abbrev Changes : World → Option Seen → ℕ → Option Store → Type 0
Changes w p s o = (o ≡ get w.stores s) ⊎ (IsChangedAbove w p s ⊎ ((p ≡ None) × (get w.stores s ≡ None)))

module _ (w : World) (h : IsWhole w) (above : AreWrittenAbove w) where
  abbrev Fit : Option Seen → Outcome → Type 0
  Fit o m = Keeps (λ (x : World × Reply). Left w x.0 o) AnyNeed m

  left-itself : (o : Option Seen) → Left w w o
  left-itself o = record { opens = above; mounts = λ _. refl; stores = λ s. inl refl }

  left-store : (p : Seen) → is_lower_file p ≡ false → (edit : Store → Store) (r : ℕ) → (base (facts_of w) p).store ≡ r → (o : Option Store) → Left w (with_store edit w r o) (Some p)
  left-store p high edit r is (Some t) = record {
    opens = above;
    mounts = λ _. refl;
    stores = λ s. by_key nat_cmp_total exact_unsigned w.stores r (edit t) s (Changes w (Some p) s)
        (λ same. inr (inl (record { place = p; is = refl; above = high; store = is ∙ sym same }))) (inl refl);
  }
  left-store p high edit r is None = left-itself (Some p)

  left-edit : (p : Seen) → is_lower_file p ≡ false → (edit : Store → ℕ → Store) → Left w (edit_at w p edit) (Some p)
  left-edit p high edit = let b = base (facts_of w) p in left-store p high (λ t. edit t b.ino) b.store refl (get w.stores b.store)

  -- a descriptor is set
  left-open : (v : World) (o : Option Seen) → Left w v o → (k : ℕ × ℕ) (x : Open) → (x.mode.write ≡ true → is_lower_file x.place ≡ false) → Left w (record v { opens = insert v.opens k x }) o
  left-open v o l k x high = record {
    opens = λ j. by_key pair_total pair_exact v.opens k x j (λ y. IfSome y (λ o. o.mode.write ≡ true → is_lower_file o.place ≡ false)) (λ _. high) (l.opens j);
    mounts = l.mounts;
    stores = l.stores;
  }

  -- it stands for what it stood for
  left-moved : (v : World) (o : Option Seen) → Left w v o → (k : ℕ × ℕ) (x : Open) → get w.opens k ≡ Some x → (at : ℕ) → Left w (record v { opens = insert v.opens k (record x { offset = at }) }) o
  left-moved v o l k x is at = left-open v o l k (record x { offset = at }) (subst (λ y. IfSome y (λ o. o.mode.write ≡ true → is_lower_file o.place ≡ false)) is (above k))

  left-closed : (k : ℕ × ℕ) → Left w (record w { opens = remove w.opens k }) None
  left-closed k = record {
    opens = λ j. subst (λ y. IfSome y (λ o. o.mode.write ≡ true → is_lower_file o.place ≡ false)) (sym (get-remove pair_total w.opens k j)) (gone (eq_by_cmp pair_cmp j k) j);
    mounts = λ _. refl;
    stores = λ s. inl refl;
  }
    where
      gone : (b : Bool) (j : ℕ × ℕ) → IfSome (cond b None (get w.opens j)) (λ o. o.mode.write ≡ true → is_lower_file o.place ≡ false)
      gone true j = tt
      gone false j = above j

  -- the place is what the path found
  of_found : (v : World) (a : Found) (o : Option Seen) → place_found a ≡ o → Left w v o → Left w v (place_found a)
  of_found v a o is l = subst (Left w v) (sym is) l

  dir_of : (a : Found) → FoundWell (facts_of w) a → (d : Seen) (n : List ℕ) (o : Option Seen) → a ≡ found.In d n o → is_lower_file d ≡ false
  dir_of a well d n o is = let t : IsTarget (facts_of w) d n o = subst (FoundWell (facts_of w)) is well in dir_above (facts_of w) d t.good.sound.files t.dir

  left-in : (a : Found) → FoundWell (facts_of w) a → (d : Seen) (n : List ℕ) (o : Option Seen) → a ≡ found.In d n o → (edit : Store → ℕ → Store) → Left w (edit_at w d edit) (place_found a)
  left-in a well d n o is edit = of_found (edit_at w d edit) a (Some d) (ap place_found is) (left-edit d (dir_of a well d n o is) edit)

  left-make : (a : Found) → FoundWell (facts_of w) a → (d : Seen) (n : List ℕ) (o : Option Seen) → a ≡ found.In d n o → (m : List ℕ) (node : Node) → Keeps (λ v. Left w v (place_found a)) AnyNeed (make_at w d m node)
  left-make a well d n o is m node = unless (is_full w (base (facts_of w) d).store) _ (λ _. found_so (left-in a well d n o is (λ t dir. made t dir m node)))

  -- ---- names

  fit-mkdir : (a : Found) → FoundWell (facts_of w) a → Fit (place_found a) (names.mkdir w a)
  fit-mkdir a well =
      then (free_target w a) (in_free w a) (λ t is. then (names.made_dir w t) (left-make a well t.dir t.name t.child is t.name _) (λ new l. found_so l))

  fit-rmdir : (a : Found) → FoundWell (facts_of w) a → Fit (place_found a) (names.rmdir w a)
  fit-rmdir a well =
      then (target_at w errno.EINVAL a) (in_target w errno.EINVAL a) (λ t is.
      then (names.check_removed w t.child) (any (names.check_removed w t.child)) (λ _ _.
      found_so (left-in a well t.dir t.name t.child is (λ s dir. removed (is_in_union t.dir) s dir t.name))))

  fit-unlink : (a : Found) → FoundWell (facts_of w) a → Fit (place_found a) (names.unlink w a)
  fit-unlink a well =
      then (target_at w errno.EPERM a) (in_target w errno.EPERM a) (λ t is.
      then (there t.child) (any (there t.child)) (λ p _.
      unless (is_dir (facts_of w) p) _ (λ _. found_so (left-in a well t.dir t.name t.child is (λ s dir. removed (is_in_union t.dir) s dir t.name)))))

  fit-link : (a b : Found) → FoundWell (facts_of w) b → Fit (place_found b) (names.link w a b)
  fit-link a b well =
      then (place_at w a) (any (place_at w a)) (λ p _.
      unless (is_dir (facts_of w) p) _ (λ _.
      then (free_target w b) (in_free w b) (λ t is.
      unless (not (mount_of p == mount_of t.dir)) _ (λ _.
      then (copied w p) (any (copied w p)) (λ _ _.
      found_so (left-in b well t.dir t.name t.child is (λ s dir. set_entry s dir t.name (Ino (base (facts_of w) p).ino))))))))

  fit-symlink : (text : List ℕ) (a : Found) → FoundWell (facts_of w) a → Fit (place_found a) (names.symlink w text a)
  fit-symlink text a well =
      then (names.check_text text) (any (names.check_text text)) (λ _ _.
      then (free_target w a) (in_free w a) (λ t is. then (names.made_link w text t) (left-make a well t.dir t.name t.child is t.name _) (λ new l. found_so l)))

  fit-undelete : (a : Found) → FoundWell (facts_of w) a → Fit (place_found a) (names.undelete w a)
  fit-undelete a well =
      then (target_at w errno.EEXIST a) (in_target w errno.EEXIST a) (λ t is.
      unless (not (has_white w t.dir t.name)) _ (λ _. found_so (left-in a well t.dir t.name t.child is (λ s dir. clear_entry s dir t.name))))

  fit-rename_apart : (a : Found) → FoundWell (facts_of w) a → (source d : Seen) (n : List ℕ) (o : Option Seen) → a ≡ found.In d n o → (new : Target) → Fit (place_found a) (names.rename_apart w source d n new)
  fit-rename_apart a well source d n o is new =
      then (names.check_source (is_dir (facts_of w) source) w source new.dir) (any _) (λ _ _.
      then (names.check_replaced w (is_dir (facts_of w) source) new.child) (any _) (λ _ _.
      then (copied w source) (any (copied w source)) (λ _ _.
      found_so (left-in a well d n o is (λ t from. renamed (is_in_union d) (is_in_union new.dir) t from n (base (facts_of w) new.dir).ino new.name)))))

  fit-rename_case : (b : Bool) (a : Found) → FoundWell (facts_of w) a → (source d : Seen) (n : List ℕ) (o : Option Seen) → a ≡ found.In d n o → (new : Target) → Fit (place_found a) (names.rename_case b w source d n new)
  fit-rename_case true a well source d n o is new = found_so (left-itself (place_found a))
  fit-rename_case false a well source d n o is new = fit-rename_apart a well source d n o is new

  fit-rename : (a b : Found) → FoundWell (facts_of w) a → Fit (place_found a) (names.rename w a b)
  fit-rename a b well =
      then (target_at w errno.EINVAL a) (in_target w errno.EINVAL a) (λ old is.
      then (there old.child) (any (there old.child)) (λ source _.
      then (target_at w errno.EINVAL b) (any (target_at w errno.EINVAL b)) (λ new _.
      unless (not (mount_of old.dir == mount_of new.dir)) _ (λ _. fit-rename_case (names.is_there source new.child) a well source old.dir old.name old.child is new))))

  fit-chdir : (c : ℕ) (a : Found) → Fit None (names.chdir w c a)
  fit-chdir c a = then (dir_at w a) (any (dir_at w a)) (λ d _. found_so (record { opens = above; mounts = λ _. refl; stores = λ s. inl refl }))

  fit-stat : (a : Found) → Fit None (names.stat w a)
  fit-stat a = then (place_at w a) (any (place_at w a)) (λ p _. then (names.stat_of (node_of w p)) (any (names.stat_of (node_of w p))) (λ known _. found_so (left-itself None)))

  fit-readlink : (a : Found) → Fit None (names.readlink w a)
  fit-readlink a =
      then (place_at w a) (any (place_at w a)) (λ p _.
      then (names.link_text (target_of (facts_of w) p)) (any (names.link_text (target_of (facts_of w) p))) (λ text _. found_so (left-itself None)))

  fit-statfs : (a : Found) → Fit None (names.statfs w a)
  fit-statfs a = then (place_at w a) (any (place_at w a)) (λ p _. found_so (left-itself None))

  -- ---- open(2)

  left-cut : (b : Bool) (p : Seen) → (b ≡ true → is_lower_file p ≡ false) → Left w (data_rows.cut_to b w p) (Some p)
  left-cut true p high = left-edit p (high refl) (λ t i. resized t i 0)
  left-cut false p high = left-itself (Some p)

  fit-open_there : (c fd : ℕ) (f : Flags) (p : Seen) → (f.cut ≡ true → data_rows.writes f.access ≡ true) → Fit (Some p) (data_rows.open_there w c fd f p)
  fit-open_there c fd f p cuts =
      unless (is_dir (facts_of w) p && data_rows.writes f.access) _ (λ _.
      unless (not (is_dir (facts_of w) p) && f.dir) _ (λ _.
      then (data_rows.copied_for (data_rows.writes f.access) w p) (copied_if (data_rows.writes f.access) w p) (λ _ high.
      found_so (left-open (data_rows.cut_to f.cut w p) (Some p) (left-cut f.cut p (λ e. high (cuts e))) (c, fd) (record { place = p; offset = 0; mode = data_rows.mode_of f; dead = false }) high))))

  fit-open_made : (c fd : ℕ) (f : Flags) (d : Seen) (n : List ℕ) → FoundWell (facts_of w) (found.In d n None) → Fit (Some d) (data_rows.open_made w c fd f d n)
  fit-open_made c fd f d n well =
      let p : Seen = data_rows.place_in d (next_of (get w.stores (base (facts_of w) d).store)) in
      let high : is_lower_file d ≡ false = dir_of (found.In d n None) well d n None refl in
      then (make_at w d n (File [])) (left-make (found.In d n None) well d n None refl n (File [])) (λ new l.
      found_so (left-open new (Some d) l (c, fd) (record { place = p; offset = 0; mode = data_rows.mode_of f; dead = false }) (λ _. made_in d (next_of (get w.stores (base (facts_of w) d).store)) ∙ high)))

  fit-open_found : (c fd : ℕ) (f : Flags) → (f.cut ≡ true → data_rows.writes f.access ≡ true) → (a : Found) → FoundWell (facts_of w) a → Fit (place_found a) (data_rows.open_found w c fd f a)
  fit-open_found c fd f cuts (found.At p) well = fit-open_there c fd f p cuts
  fit-open_found c fd f cuts (found.In d n None) well = fit-open_made c fd f d n well
  fit-open_found c fd f cuts (found.In d n (Some p)) well = refused
  fit-open_found c fd f cuts (found.Dot d) well = refused
  fit-open_found c fd f cuts (found.Mount m) well = refused
  fit-open_found c fd f cuts (found.Refused e) well = refused
  fit-open_found c fd f cuts (found.Need x) well = shadow w x.mount _

  fit-open_file : (c : ℕ) (f : Flags) (a : Found) → FoundWell (facts_of w) a → Fit (place_found a) (data_rows.open_file w c f a)
  fit-open_file c f a well =
      unless (not (data_rows.are_flags f)) _ (λ flags.
      then (data_rows.free_descriptor w c) (any (data_rows.free_descriptor w c)) (λ fd _.
      unless (not (nat_lt (len w.opens) w.limits.files)) _ (λ _. fit-open_found c fd f (cut_writes f.cut (data_rows.writes f.access) (not (f.make && f.dir)) flags) a well)))

  -- ---- descriptors

  fit-close : (c d : ℕ) → Fit None (data_rows.close w c d)
  fit-close c d = then (data_rows.descriptor w c d) (at_descriptor w c d) (λ o _. found_so (left-closed (c, d)))

  fit-read : (c d n : ℕ) → Fit None (data_rows.read w c d n)
  fit-read c d n =
      then (data_rows.descriptor w c d) (at_descriptor w c d) (λ o is.
      then (data_rows.check_read w o n) (any (data_rows.check_read w o n)) (λ _ _. found_so (left-moved w None (left-itself None) (c, d) o is _)))

  fit-pread : (c d n at : ℕ) → Fit None (data_rows.pread w c d n at)
  fit-pread c d n at =
      then (data_rows.descriptor w c d) (at_descriptor w c d) (λ o is.
      then (data_rows.check_read w o n) (any (data_rows.check_read w o n)) (λ _ _. found_so (left-itself None)))

  fit-lseek : (c d : ℕ) (x : Whence) (i : ℤ) → Fit None (data_rows.lseek w c d x i)
  fit-lseek c d x i =
      then (data_rows.descriptor w c d) (at_descriptor w c d) (λ o is.
      unless o.dead _ (λ _.
      then (data_rows.offset_of (pos (data_rows.seek_from w o x) +ℤ i)) (any (data_rows.offset_of (pos (data_rows.seek_from w o x) +ℤ i))) (λ at _. found_so (left-moved w None (left-itself None) (c, d) o is at))))

  fit-fstat : (c d : ℕ) → Fit None (data_rows.fstat w c d)
  fit-fstat c d =
      then (data_rows.descriptor w c d) (at_descriptor w c d) (λ o _.
      unless o.dead _ (λ _. then (names.stat_of (node_of w o.place)) (any (names.stat_of (node_of w o.place))) (λ known _. found_so (left-itself None))))

  fit-readdir : (c d : ℕ) → Fit None (data_rows.readdir w c d)
  fit-readdir c d =
      then (data_rows.descriptor w c d) (at_descriptor w c d) (λ o _.
      unless o.dead _ (λ _.
      unless (not (is_dir (facts_of w) o.place)) _ (λ _. then (lifted w (visible w o.place)) (any (lifted w (visible w o.place))) (λ _ _. found_so (left-itself None)))))

  fit-fchdir : (c d : ℕ) → Fit None (data_rows.fchdir w c d)
  fit-fchdir c d =
      then (data_rows.open_dir w c d) (any (data_rows.open_dir w c d)) (λ p _. found_so (record { opens = above; mounts = λ _. refl; stores = λ s. inl refl }))

  -- ---- contents

  -- what an open file is written through
  high_open : (c d : ℕ) (o : Open) → get w.opens (c, d) ≡ Some o → o.mode.write ≡ true → is_lower_file o.place ≡ false
  high_open c d o is = subst (λ y. IfSome y (λ o. o.mode.write ≡ true → is_lower_file o.place ≡ false)) is (above (c, d))

  of_opened : (v : World) (c d : ℕ) (o : Open) → get w.opens (c, d) ≡ Some o → Left w v (Some o.place) → Left w v (place_opened w c d)
  of_opened v c d o is l = subst (Left w v) (sym (ap (option_map (λ (o : Open). o.place)) is)) l

  fit-write_some : (c d : ℕ) (o : Open) → get w.opens (c, d) ≡ Some o → is_lower_file o.place ≡ false → (bytes : List ℕ) → Fit (Some o.place) (data_rows.write_some w c d o bytes)
  fit-write_some c d o is high [] = found_so (left-itself (Some o.place))
  fit-write_some c d o is high (b ∷ bs) =
      let at : ℕ = data_rows.write_to w o o.offset in
      then {Q = λ x. Left w x.0 (Some o.place)} (data_rows.write_at w o at (b ∷ bs))
      (unless (nat_lt data_rows.most_bytes (at + length (b ∷ bs))) _ (λ _. found_so (left-edit o.place high (λ t i. written t i at (b ∷ bs)))))
      (λ new l. found_so (left-moved new.0 (Some o.place) l (c, d) o is new.1))

  fit-write : (c d : ℕ) (bytes : List ℕ) → Fit (place_opened w c d) (data_rows.write w c d bytes)
  fit-write c d bytes =
      then (data_rows.descriptor w c d) (at_descriptor w c d) (λ o is.
      then (data_rows.check_write o bytes) (can_write o bytes) (λ _ writes.
      weaker (data_rows.write_some w c d o bytes) (λ x l. of_opened x.0 c d o is l) (λ _ n. n) (fit-write_some c d o is (high_open c d o is writes) bytes)))

  fit-pwrite_some : (o : Open) (at : ℕ) → is_lower_file o.place ≡ false → (bytes : List ℕ) → Fit (Some o.place) (data_rows.pwrite_some w o at bytes)
  fit-pwrite_some o at high [] = found_so (left-itself (Some o.place))
  fit-pwrite_some o at high (b ∷ bs) =
      let to : ℕ = data_rows.write_to w o at in
      then {Q = λ x. Left w x.0 (Some o.place)} (data_rows.write_at w o to (b ∷ bs))
      (unless (nat_lt data_rows.most_bytes (to + length (b ∷ bs))) _ (λ _. found_so (left-edit o.place high (λ t i. written t i to (b ∷ bs)))))
      (λ new l. found_so l)

  fit-pwrite : (c d at : ℕ) (bytes : List ℕ) → Fit (place_opened w c d) (data_rows.pwrite w c d at bytes)
  fit-pwrite c d at bytes =
      then (data_rows.descriptor w c d) (at_descriptor w c d) (λ o is.
      then (data_rows.check_write o bytes) (can_write o bytes) (λ _ writes.
      weaker (data_rows.pwrite_some w o at bytes) (λ x l. of_opened x.0 c d o is l) (λ _ n. n) (fit-pwrite_some o at (high_open c d o is writes) bytes)))

  fit-truncate : (a : Found) (n : ℕ) → Fit (place_found a) (data_rows.truncate w a n)
  fit-truncate a n =
      then (place_at w a) (at_place w a) (λ p is.
      then {Q = λ _. is_lower_file p ≡ false} (data_rows.check_length w p n)
      (unless (is_dir (facts_of w) p) _ (λ _. unless (nat_lt data_rows.most_bytes n) _ (λ _. copied_above w p)))
      (λ _ high. found_so (of_found (data_rows.resize_at w p n) a (Some p) (ap place_found is) (left-edit p high (λ t i. resized t i n)))))

  fit-ftruncate : (c d n : ℕ) → Fit (place_opened w c d) (data_rows.ftruncate w c d n)
  fit-ftruncate c d n =
      then {Q = λ p. (place_opened w c d ≡ Some p) × (is_lower_file p ≡ false)} (data_rows.open_length w c d n)
      (then (data_rows.descriptor w c d) (at_descriptor w c d) (λ o is.
      unless o.dead _ (λ _.
      unless (not o.mode.write) _ (λ e.
      unless (nat_lt data_rows.most_bytes n) _ (λ _. found_so (ap (option_map (λ (o : Open). o.place)) is, high_open c d o is (is_so o.mode.write e)))))))
      (λ p x. found_so (subst (Left w (data_rows.resize_at w p n)) (sym x.0) (left-edit p x.1 (λ t i. resized t i n))))

  -- ---- mounts

  left-mount : (k : MountKind) (on : Seen) → Left w (mounts.with_mount w k on) None
  left-mount k on = record { opens = above; mounts = λ e. no_way e; stores = λ s. inl refl }

  left-mem : (on : Seen) → Left w (mounts.with_mount (record w { stores = insert w.stores w.next_mount empty_store }) kind.Mem on) None
  left-mem on = record {
    opens = above;
    mounts = λ e. no_way e;
    stores = λ s. by_key nat_cmp_total exact_unsigned w.stores w.next_mount empty_store s (Changes w None s)
        (λ same. inr (inr (refl, no_store (get w.stores s) (λ there. let less : s < w.next_mount = h.lasts.counted.stores s there in omega (arith, less, same))))) (inl refl);
  }

  fit-mount_mem : (a : Found) → Fit None (mounts.mount_mem w a)
  fit-mount_mem a =
      then (dir_at w a) (any (dir_at w a)) (λ on _. then (mounts.check_mounts w) (any (mounts.check_mounts w)) (λ _ _. found_so (left-mem on)))

  fit-mount_null : (a b : Found) → Fit None (mounts.mount_null w a b)
  fit-mount_null a b =
      then (dir_at w a) (any (dir_at w a)) (λ layer _.
      then (dir_at w b) (any (dir_at w b)) (λ on _.
      unless (same_place layer on) _ (λ _.
      unless (depth (facts_of w) layer == mounts.most_depth) _ (λ _.
      then (mounts.check_mounts w) (any (mounts.check_mounts w)) (λ _ _. found_so (left-mount (kind.Null layer) on))))))

  fit-mount_union : (a b : Found) → Fit None (mounts.mount_union w a b)
  fit-mount_union a b =
      then (dir_at w a) (any (dir_at w a)) (λ up _.
      then (dir_at w b) (any (dir_at w b)) (λ on _.
      then (mounts.upper_of up) (any (mounts.upper_of up)) (λ upper _.
      unless (list_any (λ s. s == upper.store) (stores (facts_of w) on)) _ (λ _.
      unless (depth (facts_of w) on == mounts.most_depth) _ (λ _.
      then (mounts.check_mounts w) (any (mounts.check_mounts w)) (λ _ _. found_so (left-mount (kind.Union upper.store upper.ino on) on)))))))

  left-gone : (v : World) → v.opens ≡ w.opens → v.stores ≡ w.stores → Left w v None
  left-gone v opens stores = record {
    opens = λ k. subst (λ m. IfSome (get m k) (λ o. o.mode.write ≡ true → is_lower_file o.place ≡ false)) (sym opens) (above k);
    mounts = λ e. no_way e;
    stores = λ s. inl (ap (λ m. get m s) stores);
  }

  fit-umount : (a : Found) → Fit None (mounts.umount w a)
  fit-umount a =
      then (mount_at w a) (any (mount_at w a)) (λ m _.
      unless (m == 0) _ (λ _. unless (has_references w m) _ (λ _. found_so (left-gone (mounts.without_mount w m) refl refl))))

  fit-doom_next : (c m : ℕ) (o : Option Ref) → Fit None (mounts.doom_next w c m o)
  fit-doom_next c m (Some at) = needed tt
  fit-doom_next c m None = found_so (left-gone (mounts.left w c m) refl refl)

  fit-umount_by : (c : ℕ) (a : Found) (o : Option ℕ) → Fit None (mounts.umount_by w c a o)
  fit-umount_by c a (Some m) = fit-doom_next c m (first_in w m)
  fit-umount_by c a None =
      then (mount_at w a) (any (mount_at w a)) (λ m _. unless (m == 0) _ (λ _. unless (is_covered w m) _ (λ _. needed tt)))

  fit-revoke_next : (o : Option Ref) → Fit None (mounts.revoke_next w o)
  fit-revoke_next (Some at) = needed tt
  fit-revoke_next None = found_so (left-itself None)

  fit-revoke : (a : Found) → Fit None (mounts.revoke w a)
  fit-revoke a = then (place_at w a) (any (place_at w a)) (λ p _. unless (not (is_file (facts_of w) p)) _ (λ _. fit-revoke_next (first_open w p)))

  -- ---- all of them

  well_first : (c : ℕ) (x : Call) → FoundWell (facts_of w) (first_found w c x)
  well_first c x = well_at w h.sound h.lasts c (first_way x)

  well_second : (c : ℕ) (x : Call) → FoundWell (facts_of w) (second_found w c x)
  well_second c x = well_at w h.sound h.lasts c (second_way x)

  fit-decided : (c : ℕ) (x : Call) → Fit (changed_place w c x) (decided w c x (first_found w c x) (second_found w c x))
  fit-decided c (call.Mkdir p) = let x = call.Mkdir p in fit-mkdir (first_found w c x) (well_first c x)
  fit-decided c (call.Rmdir p) = let x = call.Rmdir p in fit-rmdir (first_found w c x) (well_first c x)
  fit-decided c (call.Open p f) = let x = call.Open p f in fit-open_file c f (first_found w c x) (well_first c x)
  fit-decided c (call.Close d) = fit-close c d
  fit-decided c (call.Read d n) = fit-read c d n
  fit-decided c (call.Pread d n o) = fit-pread c d n o
  fit-decided c (call.Write d bytes) = fit-write c d bytes
  fit-decided c (call.Pwrite d o bytes) = fit-pwrite c d o bytes
  fit-decided c (call.Lseek d x i) = fit-lseek c d x i
  fit-decided c (call.Truncate p n) = fit-truncate (first_found w c (call.Truncate p n)) n
  fit-decided c (call.Ftruncate d n) = fit-ftruncate c d n
  fit-decided c (call.Stat p) = fit-stat (first_found w c (call.Stat p))
  fit-decided c (call.Lstat p) = fit-stat (first_found w c (call.Lstat p))
  fit-decided c (call.Fstat d) = fit-fstat c d
  fit-decided c (call.Readdir d) = fit-readdir c d
  fit-decided c (call.Unlink p) = let x = call.Unlink p in fit-unlink (first_found w c x) (well_first c x)
  fit-decided c (call.Rename p q) = let x = call.Rename p q in fit-rename (first_found w c x) (second_found w c x) (well_first c x)
  fit-decided c (call.Link p q) = let x = call.Link p q in fit-link (first_found w c x) (second_found w c x) (well_second c x)
  fit-decided c (call.Symlink t p) = let x = call.Symlink t p in fit-symlink t (first_found w c x) (well_first c x)
  fit-decided c (call.Readlink p) = fit-readlink (first_found w c (call.Readlink p))
  fit-decided c (call.Undelete p) = let x = call.Undelete p in fit-undelete (first_found w c x) (well_first c x)
  fit-decided c (call.Chdir p) = fit-chdir c (first_found w c (call.Chdir p))
  fit-decided c (call.Fchdir d) = fit-fchdir c d
  fit-decided c (call.Statfs p) = fit-statfs (first_found w c (call.Statfs p))
  fit-decided c (call.MountMem p) = fit-mount_mem (first_found w c (call.MountMem p))
  fit-decided c (call.MountNull t p) = let x = call.MountNull t p in fit-mount_null (first_found w c x) (second_found w c x)
  fit-decided c (call.MountUnion u p) = let x = call.MountUnion u p in fit-mount_union (first_found w c x) (second_found w c x)
  fit-decided c (call.Umount p) = fit-umount (first_found w c (call.Umount p))
  fit-decided c (call.UmountForce p) = fit-umount_by c (first_found w c (call.UmountForce p)) (get w.leaving c)
  fit-decided c (call.Revoke p) = fit-revoke (first_found w c (call.Revoke p))

  settled : (o : Option Seen) (m : Outcome) → Fit o m → Left w (world_after w (settle w m)) o
  settled o (Go x) k = k.holds
  settled o (Refuse e) k = left-itself o
  settled o (Wants x) k = left-itself o

  either : (o : Option Seen) (b : Bool) (v : World) → Left w v o → Left w (cond b w v) o
  either o true v l = left-itself o
  either o false v l = l

  -- what a call leaves
  pub left-call : (c : ℕ) (x : Call) (r : Reply) → Left w (after w (entry.Call c x r)) (changed_place w c x)
  left-call c x r =
      let o = changed_place w c x in
      either o (is_no_memory r) (world_after w (apply w c x))
      (settled o (row w c x) (then (check_way (first_way x) >> check_way (second_way x)) (any (check_way (first_way x) >> check_way (second_way x))) (λ _ _. fit-decided c x)))

-- ---- stores that are changed

-- the node of a place lies in one of the stores on which its mount rests, be that cut or not
module _ (w : World) (sound : IsSound w) (s : ℕ) where
  abbrev f : Facts
  f = facts_of w

  abbrev Rests : Seen → Type 0
  Rests p = list_any (λ t. t == s) (stores f p) ≡ false

  null_rests : (m : ℕ) (p : Seen) (o : Option MountKind) → kind_in f m ≡ o → is_null o ≡ true → lower_mount o ≡ Some (mount_of p) → Rests (Null m p) → Rests p
  null_rests m p (Some (kind.Null layer)) is null over none =
      subst (λ (x : ℕ). list_any (λ t. t == s) (stores_within (suc x) f x) ≡ false) (ap number_or over)
      (subst (λ (ss : List ℕ). list_any (λ t. t == s) ss ≡ false) (stores_null w (Null m p) layer sound is) none)
  null_rests m p (Some kind.Mem) is null over none = no_way null
  null_rests m p (Some (kind.Union t u lower)) is null over none = no_way null
  null_rests m p None is null over none = no_way null

  -- a union rests on the store of its upper layer, and on those of the lower one
  union_rests : (p : Seen) (t top : ℕ) (lower : Seen) → kind_in f (mount_of p) ≡ Some (kind.Union t top lower) → Rests p → ((t == s) ≡ false) × Rests lower
  union_rests p t top lower is none =
      or_none (t == s) (list_any (λ t. t == s) (stores f lower)) (subst (λ (ss : List ℕ). list_any (λ t. t == s) ss ≡ false) (stores_union w p lower t top sound is) none)

  low_rests : (m u : ℕ) (n : List ℕ) (p : Seen) (o : Option MountKind) → kind_in f m ≡ o → is_union o ≡ true → lower_mount o ≡ Some (mount_of p) → Rests (UnionLow m u n p) → Rests p
  low_rests m u n p (Some (kind.Union t top lower)) is union over none =
      subst (λ (x : ℕ). list_any (λ t. t == s) (stores_within (suc x) f x) ≡ false) (ap number_or over) (union_rests (UnionLow m u n p) t top lower is none).1
  low_rests m u n p (Some kind.Mem) is union over none = no_way union
  low_rests m u n p (Some (kind.Null layer)) is union over none = no_way union
  low_rests m u n p None is union over none = no_way union

  upper_rests : (m i : ℕ) (o : Option MountKind) → kind_in f m ≡ o → is_union o ≡ true → Rests (UnionUp m i) → (store_by o == s) ≡ false
  upper_rests m i (Some (kind.Union t top lower)) is union none = (union_rests (UnionUp m i) t top lower is none).0
  upper_rests m i (Some kind.Mem) is union none = no_way union
  upper_rests m i (Some (kind.Null layer)) is union none = no_way union
  upper_rests m i None is union none = no_way union

  pub other_store : (p : Seen) → names_mounts f p ≡ true → IsOver f p → Rests p → ((base f p).store == s) ≡ false
  other_store (Mem m i) names over none =
      (or_none (m == s) false (subst (λ (ss : List ℕ). list_any (λ t. t == s) ss ≡ false) (stores_mem w (Mem m i) (mem_kind (kind_in f m) names)) none)).0
  other_store (Null m p) names over none =
      other_store p (second_of (is_null (kind_in f m)) (names_mounts f p) names) over.1
      (null_rests m p (kind_in f m) refl (first_of (is_null (kind_in f m)) (names_mounts f p) names) over.0 none)
  other_store (UnionUp m i) names over none = upper_rests m i (kind_in f m) refl names none
  other_store (UnionLow m u n p) names over none =
      other_store p (second_of (is_union (kind_in f m)) (names_mounts f p) names) over.1
      (low_rests m u n p (kind_in f m) refl (first_of (is_union (kind_in f m)) (names_mounts f p) names) over.0 none)

pub changes_above : (w : World) (c : ℕ) (x : Call) (r : Reply) (s : ℕ) → IsSound w → IsLasting w → AreWrittenAbove w → ChangesAbove w (after w (entry.Call c x r)) (changed_place w c x) s
changes_above w c x r s sound lasts above = (left-call w (record { sound = sound; lasts = lasts }) above c x r).stores s

abbrev place_or : Option Seen → Seen → Seen
place_or (Some p) q = p
place_or None q = q

pub changes_low : (w : World) (c : ℕ) (x : Call) (r : Reply) (p : Seen) (s : ℕ) → IsSound w → IsLasting w → AreWrittenAbove w → changed_place w c x ≡ Some p → is_lower_file p ≡ true
    → get (after w (entry.Call c x r)).stores s ≡ get w.stores s
changes_low w c x r p s sound lasts above is low =
    elim (changes_above w c x r s sound lasts above) as (λ _. get (after w (entry.Call c x r)).stores s ≡ get w.stores s) [
      | inl same ↦ same
      | inr more ↦ elim more as (λ _. get (after w (entry.Call c x r)).stores s ≡ get w.stores s) [
        | inl new ↦ let one : p ≡ new.place = ap (λ o. place_or o p) (sym is ∙ new.is) in no_way (sym (ap is_lower_file one ∙ new.above) ∙ low)
        | inr new ↦ absurd (let clash : None ≡ Some p = sym new.0 ∙ is in cc)
      ]
    ]

pub changes_lower : (w : World) (c : ℕ) (x : Call) (r : Reply) (m s top i : ℕ) (lower p q : Seen) → IsSound w → IsLasting w → IsApart w → AreWrittenAbove w → kind_in (facts_of w) m ≡ Some (kind.Union s top lower)
    → changed_place w c x ≡ Some p → bare p ≡ UnionUp m i → IsInLayer (facts_of w) lower q → node_of (after w (entry.Call c x r)) q ≡ node_of w q
changes_lower w c x r m s top i lower p q sound lasts apart above union is up seen =
    let h : IsWhole w = record { sound = sound; lasts = lasts } in
    let v : World = after w (entry.Call c x r) in
    let l = left-call w h above c x r in
    let mounts : v.mounts ≡ w.mounts = l.mounts (ap is_some is) in
    let b : NodeId = base (facts_of w) q in
    let none : list_any (λ t. t == s) (stores (facts_of w) q) ≡ false =
    ap (λ n. list_any (λ t. t == s) (stores_within (suc n) (facts_of w) n)) seen.mount ∙ apart m s top lower union in
    let other : (b.store == s) ≡ false = other_store w sound s q seen.names seen.over none in
    let its : (base (facts_of w) p).store ≡ s =
    ap (λ (n : NodeId). n.store) (sym (bare_base (facts_of w) p)) ∙ ap (λ d. (base (facts_of w) d).store) up ∙ ap store_by union in
    ap (λ (n : NodeId). node_at v n.store n.ino) (same_base (facts_of w) (facts_of v) (λ n. ap (λ t. get t n) mounts) q)
    ∙ ap (option_and_then (λ (t : Store). get t.nodes b.ino)) (elim (l.stores b.store) as (λ _. get v.stores b.store ≡ get w.stores b.store) [
      | inl same ↦ same
      | inr more ↦ elim more as (λ _. get v.stores b.store ≡ get w.stores b.store) [
        | inl new ↦
            let one : p ≡ new.place = ap (λ o. place_or o p) (sym is ∙ new.is) in
            let at : b.store ≡ s = sym new.store ∙ ap (λ d. (base (facts_of w) d).store) (sym one) ∙ its in
            no_way (sym other ∙ eq-eqb b.store s at)
        | inr new ↦ absurd (let clash : None ≡ Some p = sym new.0 ∙ is in cc)
      ]
    ])
