-- The lower layer of a union stays apart from the memory mount of its upper one.
use Rattle.std.proofs.Common.{◌≡◌, ℕ, zero, suc, ◌+◌, ◌<◌, ◌⊎◌, inl, inr, Bool, true, false, cond, not, ◌&&◌, ◌||◌, ◌==◌, List, [], refl, ap, sym, ◌∙◌, subst, arith, nat_cmp}
use Rattle.std.specs.Prelude.{Option, Some, None, IfSome, is_some, option_map, nat_lt}
use Rattle.std.specs.List.{list_any}
use Rattle.std.specs.Cmp.{nat_cmp_total}
use Rattle.std.specs.Ordering.{eq_by_cmp}
use Rattle.std.specs.FinMap.{FinMap, get, insert, remove, len, get-remove}
use Rattle.std.proofs.lemmas.Map.Lookups.{exact_unsigned}
use Rattle.finite_maps.proofs.EntryLaws.{by_key}
use Rattle.vfs_tree.specs.Carriers.{is_in_union}
use Rattle.vfs_tree.specs.Child.{child_of, child_below, low}
use Rattle.vfs_tree.specs.Edits.{made, with_store, new_dir}
use Rattle.vfs_tree.specs.Facts.{Facts}
use Rattle.vfs_tree.specs.FileEdits.{with_bytes, resized}
use Rattle.vfs_tree.specs.Layers.{kind_in, base, is_dir, stores_by, stores_within, stores, same_place, depth}
use Rattle.vfs_tree.specs.Mounts.{is_covered, has_references, cut_with}
use Rattle.vfs_tree.specs.Place.{Seen, mount_of}
use Rattle.vfs_tree.specs.Sound.{EachPlace, IsBelow, IsSound}
use Rattle.vfs_tree.specs.Start.{start_world, empty_store, root_mount}
use Rattle.vfs_tree.specs.StoreEdits.{with_node_at, removed, set_entry, clear_entry, renamed}
use Rattle.vfs_tree.specs.Views.{facts_of}
use Rattle.vfs_tree.specs.declared.errno.Errno.TheVariants as errno
use Rattle.vfs_tree.specs.declared.limits.Limits.{Limits}
use Rattle.vfs_tree.specs.declared.mount.Mount.{Mount}
use Rattle.vfs_tree.specs.declared.mount.MountKind.{MountKind}
use Rattle.vfs_tree.specs.declared.mount.MountKind.TheVariants as kind
use Rattle.vfs_tree.specs.declared.node.NameEntry.TheVariants.{Ino}
use Rattle.vfs_tree.specs.declared.node.Node.{Node}
use Rattle.vfs_tree.specs.declared.node.Node.TheVariants.{File}
use Rattle.vfs_tree.specs.declared.node.Store.{Store}
use Rattle.vfs_tree.specs.declared.walk.Child.{Child}
use Rattle.vfs_tree.specs.declared.walk.Child.TheVariants as child
use Rattle.vfs_tree.specs.declared.walk.Found.{Found}
use Rattle.vfs_tree.specs.declared.walk.Found.TheVariants as found
use Rattle.vfs_tree.specs.declared.walk.Step.TheVariants.{Wants}
use Rattle.vfs_tree.specs.declared.world.World.{World}
use Rattle.call_model.specs.Checks.{Outcome, is_full, upper_store, copied, place_at, mount_at, target_at, there, dir_at, free_target, node_of, has_white, edit_at, make_at, drop_at}
use Rattle.call_model.specs.DataRows as data_rows
use Rattle.call_model.specs.Effects.{copy_of, copied_child, detached, doomed_place, effect, made_above}
use Rattle.call_model.specs.Legal.{Pending, IsLegal, after, replay}
use Rattle.call_model.specs.MountRows as mounts
use Rattle.call_model.specs.NameRows as names
use Rattle.call_model.specs.Refs.{first_in, place_of}
use Rattle.call_model.specs.Rows.{first_found, second_found, decided, row}
use Rattle.call_model.specs.declared.call.Call.{Call}
use Rattle.call_model.specs.declared.call.Call.TheVariants as call
use Rattle.call_model.specs.declared.call.Flags.{Flags}
use Rattle.call_model.specs.declared.entry.Entry.{Entry}
use Rattle.call_model.specs.declared.entry.Entry.TheVariants as entry
use Rattle.call_model.specs.declared.entry.Inner.{Inner}
use Rattle.call_model.specs.declared.entry.Inner.TheVariants.{Shadow, CopyUp, Detach, Doom}
use Rattle.call_model.specs.declared.entry.Ref.{Ref}
use Rattle.call_model.specs.declared.reply.Reply.{Reply}
use Rattle.call_model.specs.declared.target.Target.{Target}
use Rattle.call_laws.specs.Lasting.{lower_mount, IsLasting}
use Rattle.call_laws.specs.Quiet.{IsQuiet}
use Rattle.call_laws.proofs.DetachLaws.{lower_less}
use Rattle.call_laws.proofs.FlagLaws.{get_each}
use Rattle.call_laws.proofs.NeededLaws.{whole-needed}
use Rattle.call_laws.proofs.Parts.{Keeps, found_so, refused, needed, then, unless}
use Rattle.call_laws.proofs.PlaceLaws.{lasting-start}
use Rattle.call_laws.proofs.SoundLaws.{only, sound-start}
use Rattle.call_laws.proofs.SoundParts.{or_none, kind_or, mount_there}
use Rattle.call_laws.proofs.SoundRows.{AnyNeed, LeavesSo, IsSteady, so-decide, so-quiet}
use Rattle.call_laws.proofs.Whole.{IsWhole}
use Rattle.call_laws.proofs.WorldLaws.{whole-call, kept-history}
use Rattle.model_laws.proofs.Leaving.{any}
use Rattle.layer_laws.specs.Apart.{IsApart}

-- ---- what a place rests on in a world with other mounts

neither : (a b : Bool) → a ≡ false → b ≡ false → (a || b) ≡ false
neither a b p q = ap (λ x. x || b) p ∙ q

module _ (f g : Facts) (b : ℕ) (smaller : (m : ℕ) → IfSome (g.mount m) (EachPlace (IsBelow m))) (fewer : (m : ℕ) (k : MountKind) → m < b → kind_in g m ≡ Some k → kind_in f m ≡ Some k)
    (test : ℕ → Bool) where
  abbrev None_of : Facts → ℕ → ℕ → Type 0
  None_of h k m = list_any test (stores_within k h m) ≡ false

  layer_below : (m : ℕ) (layer : Seen) (k : MountKind) → m < b → kind_in g m ≡ Some k → lower_mount (Some k) ≡ Some (mount_of layer) → mount_of layer < b
  layer_below m layer k less is e =
      let under : mount_of layer < m = lower_less m (g.mount m) (mount_of layer) (smaller m) (ap lower_mount is ∙ e) in
      omega (arith, under, less)

  rests_case : (k : ℕ) → ((m : ℕ) → m < b → None_of f k m → None_of g k m) → (m : ℕ) → m < b → None_of f (suc k) m → (o : Option MountKind) → kind_in g m ≡ o
      → list_any test (stores_by (stores_within k g) m o) ≡ false
  rests_case k below m less h None is = refl
  rests_case k below m less h (Some kind.Mem) is = subst (λ o. list_any test (stores_by (stores_within k f) m o) ≡ false) (fewer m kind.Mem less is) h
  rests_case k below m less h (Some (kind.Null layer)) is =
      below (mount_of layer) (layer_below m layer (kind.Null layer) less is refl)
      (subst (λ o. list_any test (stores_by (stores_within k f) m o) ≡ false) (fewer m (kind.Null layer) less is) h)
  rests_case k below m less h (Some (kind.Union s u lower)) is =
      let x = or_none (test s) (list_any test (stores_within k f (mount_of lower))) (subst (λ o. list_any test (stores_by (stores_within k f) m o) ≡ false) (fewer m (kind.Union s u lower) less is) h) in
      neither (test s) (list_any test (stores_within k g (mount_of lower))) x.0 (below (mount_of lower) (layer_below m lower (kind.Union s u lower) less is refl) x.1)

  rests_fewer : (k m : ℕ) → m < b → None_of f k m → None_of g k m
  rests_fewer zero m less h = refl
  rests_fewer (suc k) m less h = rests_case k (rests_fewer k) m less h (kind_in g m) refl

-- ---- mounts that are added

-- a new union's lower layer doesn't rest on the memory mount of the upper one
abbrev ApartIn : Facts → MountKind → Type 0
ApartIn f kind.Mem = Unit {0}
ApartIn f (kind.Null layer) = Unit {0}
ApartIn f (kind.Union s u lower) = list_any (λ t. t == s) (stores f lower) ≡ false

-- a mount as it is before it is cut
abbrev pub uncut : Mount → Mount
uncut t = record t { cut = false }

-- the mount was there, or is the next one and so, and isn't cut
abbrev pub WasOrNext : World → ℕ → Mount → Type 0
WasOrNext w m t = (option_map uncut (get w.mounts m) ≡ Some (uncut t)) ⊎ ((m ≡ w.next_mount) × ApartIn (facts_of w) t.kind × (t.cut ≡ false))

-- each mount of the new world is one of the old one, but for whether it is cut, or the next one
abbrev pub Adds : World → World → Type 0
Adds w v = (m : ℕ) → IfSome (get v.mounts m) (WasOrNext w m)

kind_uncut : (o : Option Mount) → option_map (λ (t : Mount). t.kind) (option_map uncut o) ≡ option_map (λ (t : Mount). t.kind) o
kind_uncut (Some t) = refl
kind_uncut None = refl

-- its kind was there, or is that of the next one
pub adds_kind : (w v : World) → Adds w v → (m : ℕ) (k : MountKind) → kind_in (facts_of v) m ≡ Some k → (kind_in (facts_of w) m ≡ Some k) ⊎ ((m ≡ w.next_mount) × ApartIn (facts_of w) k)
adds_kind w v adds m k = by (get v.mounts m) (adds m)
  where
    by : (o : Option Mount) → IfSome o (WasOrNext w m) → option_map (λ (t : Mount). t.kind) o ≡ Some k → (kind_in (facts_of w) m ≡ Some k) ⊎ ((m ≡ w.next_mount) × ApartIn (facts_of w) k)
    by (Some t) x is = elim x [
      | inl old ↦ inl (sym (kind_uncut (get w.mounts m)) ∙ ap (option_map (λ (t : Mount). t.kind)) old ∙ is)
      | inr new ↦ inr (new.0, subst (ApartIn (facts_of w)) (ap kind_or is) new.1)
    ]
    by None x is = absurd (let clash : None ≡ Some k = is in cc)

-- the kinds of mounts whose numbers were given are those of before
pub fewer_kinds : (w v : World) → Adds w v → (n : ℕ) (k : MountKind) → n < w.next_mount → kind_in (facts_of v) n ≡ Some k → kind_in (facts_of w) n ≡ Some k
fewer_kinds w v adds n k less e = elim (adds_kind w v adds n k e) [ inl old ↦ old | inr new ↦ absurd (omega (arith, new.0, less)) ]

apart_by : (w v : World) → IsWhole w → IsWhole v → Adds w v → IsApart w → IsApart v
apart_by w v hw hv adds h m s u lower is =
    let under : mount_of lower < m = lower_less m (get v.mounts m) (mount_of lower) (hv.sound.view.smaller m) (ap lower_mount is) in
    let down : m < w.next_mount + 1 → list_any (λ t. t == s) (stores (facts_of w) lower) ≡ false → list_any (λ t. t == s) (stores (facts_of v) lower) ≡ false =
    λ most apart. rests_fewer (facts_of w) (facts_of v) w.next_mount hv.sound.view.smaller (fewer_kinds w v adds) (λ t. t == s) (suc (mount_of lower)) (mount_of lower) (omega (arith, under, most)) apart in
    elim (adds_kind w v adds m (kind.Union s u lower) is) [
      | inl old ↦ let there : m < w.next_mount = hw.lasts.counted.mounts m (mount_there (get w.mounts m) (ap is_some old)) in down (omega (arith, there)) (h m s u lower old)
      | inr new ↦ down (omega (arith, new.0)) new.1
    ]

adds-itself : (w : World) → Adds w w
adds-itself w m = by (get w.mounts m) refl
  where
    by : (o : Option Mount) → get w.mounts m ≡ o → IfSome o (WasOrNext w m)
    by (Some t) is = inl (ap (option_map uncut) is)
    by None is = tt

adds-store : (f : Store → Store) (w v : World) (s : ℕ) (o : Option Store) → Adds w v → Adds w (with_store f v s o)
adds-store f w v s (Some t) h = h
adds-store f w v s None h = h

adds-edit : (w : World) (p : Seen) (edit : Store → ℕ → Store) → Adds w (edit_at w p edit)
adds-edit w p edit = let b = base (facts_of w) p in adds-store (λ t. edit t b.ino) w w b.store (get w.stores b.store) (adds-itself w)

adds-remove : (w v : World) (m : ℕ) → v.mounts ≡ remove w.mounts m → Adds w v
adds-remove w v m same n =
    subst (λ o. IfSome o (WasOrNext w n)) (sym (ap (λ (x : FinMap nat_cmp Mount). get x n) same ∙ get-remove nat_cmp_total w.mounts m n)) (by (eq_by_cmp nat_cmp n m))
  where
    by : (b : Bool) → IfSome (cond b None (get w.mounts n)) (WasOrNext w n)
    by true = tt
    by false = adds-itself w n

adds-mount : (w : World) (s : FinMap nat_cmp Store) (k : MountKind) (on : Seen) → ApartIn (facts_of w) k → Adds w (mounts.with_mount (record w { stores = s }) k on)
adds-mount w s k on apart m =
    let t : Mount = record { number = w.next_mount; kind = k; on = Some on; cut = false } in
    by_key nat_cmp_total exact_unsigned w.mounts w.next_mount t m (λ o. IfSome o (WasOrNext w m)) (λ same. inr (same, apart, refl)) (adds-itself w m)

-- ---- calls

module _ (w : World) where
  abbrev Fit : Outcome → Type 0
  Fit o = Keeps (LeavesSo (Adds w)) AnyNeed o

  steady-adds : IsSteady (Adds w)
  steady-adds = record {
    moved = λ v k o at h is. h;
    closed = λ v k h. h;
    entered = λ v c k o h is alive dir. h;
    written = λ v s i g h. adds-store (λ t. with_node_at (with_bytes g) t i) w v s (get v.stores s) h;
  }

  adds-make : (d : Seen) (n : List ℕ) (node : Node) → Keeps (Adds w) AnyNeed (make_at w d n node)
  adds-make d n node = unless (is_full w (base (facts_of w) d).store) _ (λ _. found_so (adds-edit w d (λ t dir. made t dir n node)))

  adds-drop : (d : Seen) (n : List ℕ) → Adds w (drop_at w d n)
  adds-drop d n = adds-edit w d (λ t dir. removed (is_in_union d) t dir n)

  fit-mkdir : (a : Found) → Fit (names.mkdir w a)
  fit-mkdir a = then (free_target w a) (any (free_target w a)) (λ t _. then (names.made_dir w t) (adds-make t.dir t.name _) (λ new h. found_so h))

  fit-rmdir : (a : Found) → Fit (names.rmdir w a)
  fit-rmdir a =
      then (target_at w errno.EINVAL a) (any (target_at w errno.EINVAL a)) (λ t _.
      then (names.check_removed w t.child) (any (names.check_removed w t.child)) (λ _ _. found_so (adds-drop t.dir t.name)))

  fit-unlink : (a : Found) → Fit (names.unlink w a)
  fit-unlink a =
      then (target_at w errno.EPERM a) (any (target_at w errno.EPERM a)) (λ t _.
      then (there t.child) (any (there t.child)) (λ p _.
      unless (is_dir (facts_of w) p) _ (λ _. found_so (adds-drop t.dir t.name))))

  fit-link : (a b : Found) → Fit (names.link w a b)
  fit-link a b =
      then (place_at w a) (any (place_at w a)) (λ p _.
      unless (is_dir (facts_of w) p) _ (λ _.
      then (free_target w b) (any (free_target w b)) (λ t _.
      unless (not (mount_of p == mount_of t.dir)) _ (λ _.
      then (copied w p) (any (copied w p)) (λ _ _.
      found_so (adds-edit w t.dir (λ s dir. set_entry s dir t.name (Ino (base (facts_of w) p).ino))))))))

  fit-symlink : (text : List ℕ) (a : Found) → Fit (names.symlink w text a)
  fit-symlink text a =
      then (names.check_text text) (any (names.check_text text)) (λ _ _.
      then (free_target w a) (any (free_target w a)) (λ t _.
      then (names.made_link w text t) (adds-make t.dir t.name _) (λ new h. found_so h)))

  fit-undelete : (a : Found) → Fit (names.undelete w a)
  fit-undelete a =
      then (target_at w errno.EEXIST a) (any (target_at w errno.EEXIST a)) (λ t _.
      unless (not (has_white w t.dir t.name)) _ (λ _. found_so (adds-edit w t.dir (λ s dir. clear_entry s dir t.name))))

  fit-rename_apart : (source d : Seen) (n : List ℕ) (new : Target) → Fit (names.rename_apart w source d n new)
  fit-rename_apart source d n new =
      then (names.check_source (is_dir (facts_of w) source) w source new.dir) (any _) (λ _ _.
      then (names.check_replaced w (is_dir (facts_of w) source) new.child) (any _) (λ _ _.
      then (copied w source) (any (copied w source)) (λ _ _.
      found_so (adds-edit w d (λ t from. renamed (is_in_union d) (is_in_union new.dir) t from n (base (facts_of w) new.dir).ino new.name)))))

  fit-rename_case : (b : Bool) (source d : Seen) (n : List ℕ) (new : Target) → Fit (names.rename_case b w source d n new)
  fit-rename_case true source d n new = found_so (adds-itself w)
  fit-rename_case false source d n new = fit-rename_apart source d n new

  fit-rename : (a b : Found) → Fit (names.rename w a b)
  fit-rename a b =
      then (target_at w errno.EINVAL a) (any (target_at w errno.EINVAL a)) (λ old _.
      then (there old.child) (any (there old.child)) (λ source _.
      then (target_at w errno.EINVAL b) (any (target_at w errno.EINVAL b)) (λ new _.
      unless (not (mount_of old.dir == mount_of new.dir)) _ (λ _. fit-rename_case (names.is_there source new.child) source old.dir old.name new))))

  fit-chdir : (c : ℕ) (a : Found) → Fit (names.chdir w c a)
  fit-chdir c a = then (dir_at w a) (any (dir_at w a)) (λ d _. found_so (adds-itself w))

  adds-cut : (b : Bool) (p : Seen) → Adds w (data_rows.cut_to b w p)
  adds-cut true p = adds-edit w p (λ t i. resized t i 0)
  adds-cut false p = adds-itself w

  fit-open_there : (c fd : ℕ) (f : Flags) (p : Seen) → Fit (data_rows.open_there w c fd f p)
  fit-open_there c fd f p =
      unless (is_dir (facts_of w) p && data_rows.writes f.access) _ (λ _.
      unless (not (is_dir (facts_of w) p) && f.dir) _ (λ _.
      then (data_rows.copied_for (data_rows.writes f.access) w p) (any _) (λ _ _. found_so (adds-cut f.cut p))))

  fit-open_found : (c fd : ℕ) (f : Flags) (a : Found) → Fit (data_rows.open_found w c fd f a)
  fit-open_found c fd f (found.At p) = fit-open_there c fd f p
  fit-open_found c fd f (found.In d n None) = then (make_at w d n (File [])) (adds-make d n (File [])) (λ new h. found_so h)
  fit-open_found c fd f (found.In d n (Some p)) = refused
  fit-open_found c fd f (found.Dot d) = refused
  fit-open_found c fd f (found.Mount m) = refused
  fit-open_found c fd f (found.Refused e) = refused
  fit-open_found c fd f (found.Need x) = unless (is_full w (upper_store w x.mount)) _ (λ _. needed tt)

  fit-open_file : (c : ℕ) (f : Flags) (a : Found) → Fit (data_rows.open_file w c f a)
  fit-open_file c f a =
      unless (not (data_rows.are_flags f)) _ (λ _.
      then (data_rows.free_descriptor w c) (any (data_rows.free_descriptor w c)) (λ fd _.
      unless (not (nat_lt (len w.opens) w.limits.files)) _ (λ _. fit-open_found c fd f a)))

  -- ---- mounts

  fit-mount_mem : (a : Found) → Fit (mounts.mount_mem w a)
  fit-mount_mem a =
      then (dir_at w a) (any (dir_at w a)) (λ on _.
      then (mounts.check_mounts w) (any (mounts.check_mounts w)) (λ _ _. found_so (adds-mount w (insert w.stores w.next_mount empty_store) kind.Mem on tt)))

  fit-mount_null : (a b : Found) → Fit (mounts.mount_null w a b)
  fit-mount_null a b =
      then (dir_at w a) (any (dir_at w a)) (λ layer _.
      then (dir_at w b) (any (dir_at w b)) (λ on _.
      unless (same_place layer on) _ (λ _.
      unless (depth (facts_of w) layer == mounts.most_depth) _ (λ _.
      then (mounts.check_mounts w) (any (mounts.check_mounts w)) (λ _ _. found_so (adds-mount w w.stores (kind.Null layer) on tt))))))

  fit-mount_union : (a b : Found) → Fit (mounts.mount_union w a b)
  fit-mount_union a b =
      then (dir_at w a) (any (dir_at w a)) (λ up _.
      then (dir_at w b) (any (dir_at w b)) (λ on _.
      then (mounts.upper_of up) (any (mounts.upper_of up)) (λ upper _.
      unless (list_any (λ s. s == upper.store) (stores (facts_of w) on)) _ (λ apart.
      unless (depth (facts_of w) on == mounts.most_depth) _ (λ _.
      then (mounts.check_mounts w) (any (mounts.check_mounts w)) (λ _ _. found_so (adds-mount w w.stores (kind.Union upper.store upper.ino on) on apart)))))))

  fit-umount : (a : Found) → Fit (mounts.umount w a)
  fit-umount a =
      then (mount_at w a) (any (mount_at w a)) (λ m _.
      unless (m == 0) _ (λ _. unless (has_references w m) _ (λ _. found_so (adds-remove w (mounts.without_mount w m) m refl))))

  fit-doom_next : (c m : ℕ) (o : Option Ref) → Fit (mounts.doom_next w c m o)
  fit-doom_next c m (Some at) = needed tt
  fit-doom_next c m None = found_so (adds-remove w (mounts.left w c m) m refl)

  fit-umount_by : (c : ℕ) (a : Found) (o : Option ℕ) → Fit (mounts.umount_by w c a o)
  fit-umount_by c a (Some m) = fit-doom_next c m (first_in w m)
  fit-umount_by c a None =
      then (mount_at w a) (any (mount_at w a)) (λ m _. unless (m == 0) _ (λ _. unless (is_covered w m) _ (λ _. needed tt)))

  -- ---- all of them

  fit_call : (c : ℕ) (x : Call) (r : Reply) → Fit (decided w c x (first_found w c x) (second_found w c x)) → Adds w (after w (entry.Call c x r))
  fit_call c x r k = so-decide (Adds w) steady-adds w c x r (adds-itself w) k

  adds-quiet : (c : ℕ) (x : Call) (r : Reply) → IsQuiet x → Adds w (after w (entry.Call c x r))
  adds-quiet c x r quiet = so-quiet (Adds w) steady-adds w c x r quiet (adds-itself w)

  adds-call : (c : ℕ) (x : Call) (r : Reply) → Adds w (after w (entry.Call c x r))
  adds-call c (call.Mkdir p) r = let x = call.Mkdir p in fit_call c x r (fit-mkdir (first_found w c x))
  adds-call c (call.Rmdir p) r = let x = call.Rmdir p in fit_call c x r (fit-rmdir (first_found w c x))
  adds-call c (call.Open p f) r = let x = call.Open p f in fit_call c x r (fit-open_file c f (first_found w c x))
  adds-call c (call.Close d) r = adds-quiet c (call.Close d) r tt
  adds-call c (call.Read d n) r = adds-quiet c (call.Read d n) r tt
  adds-call c (call.Pread d n o) r = adds-quiet c (call.Pread d n o) r tt
  adds-call c (call.Write d bytes) r = adds-quiet c (call.Write d bytes) r tt
  adds-call c (call.Pwrite d o bytes) r = adds-quiet c (call.Pwrite d o bytes) r tt
  adds-call c (call.Lseek d x i) r = adds-quiet c (call.Lseek d x i) r tt
  adds-call c (call.Truncate p n) r = adds-quiet c (call.Truncate p n) r tt
  adds-call c (call.Ftruncate d n) r = adds-quiet c (call.Ftruncate d n) r tt
  adds-call c (call.Stat p) r = adds-quiet c (call.Stat p) r tt
  adds-call c (call.Lstat p) r = adds-quiet c (call.Lstat p) r tt
  adds-call c (call.Fstat d) r = adds-quiet c (call.Fstat d) r tt
  adds-call c (call.Readdir d) r = adds-quiet c (call.Readdir d) r tt
  adds-call c (call.Unlink p) r = let x = call.Unlink p in fit_call c x r (fit-unlink (first_found w c x))
  adds-call c (call.Rename p q) r = let x = call.Rename p q in fit_call c x r (fit-rename (first_found w c x) (second_found w c x))
  adds-call c (call.Link p q) r = let x = call.Link p q in fit_call c x r (fit-link (first_found w c x) (second_found w c x))
  adds-call c (call.Symlink t p) r = let x = call.Symlink t p in fit_call c x r (fit-symlink t (first_found w c x))
  adds-call c (call.Readlink p) r = adds-quiet c (call.Readlink p) r tt
  adds-call c (call.Undelete p) r = let x = call.Undelete p in fit_call c x r (fit-undelete (first_found w c x))
  adds-call c (call.Chdir p) r = let x = call.Chdir p in fit_call c x r (fit-chdir c (first_found w c x))
  adds-call c (call.Fchdir d) r = adds-quiet c (call.Fchdir d) r tt
  adds-call c (call.Statfs p) r = adds-quiet c (call.Statfs p) r tt
  adds-call c (call.MountMem p) r = let x = call.MountMem p in fit_call c x r (fit-mount_mem (first_found w c x))
  adds-call c (call.MountNull t p) r = let x = call.MountNull t p in fit_call c x r (fit-mount_null (first_found w c x) (second_found w c x))
  adds-call c (call.MountUnion u p) r = let x = call.MountUnion u p in fit_call c x r (fit-mount_union (first_found w c x) (second_found w c x))
  adds-call c (call.Umount p) r = let x = call.Umount p in fit_call c x r (fit-umount (first_found w c x))
  adds-call c (call.UmountForce p) r = let x = call.UmountForce p in fit_call c x r (fit-umount_by c (first_found w c x) (get w.leaving c))
  adds-call c (call.Revoke p) r = adds-quiet c (call.Revoke p) r tt

  -- ---- inner entries

  adds-made : (m u : ℕ) (n : List ℕ) (node : Node) → Adds w (made_above w m u n node)
  adds-made m u n node = adds-store (λ t. made t u n node) w w (upper_store w m) (get w.stores (upper_store w m)) (adds-itself w)

  adds-copied : (m u : ℕ) (n : List ℕ) (c : Child) → Adds w (copied_child w m u n c)
  adds-copied m u n (child.At q) = adds-made m u n (copy_of (node_of w q))
  adds-copied m u n child.Absent = adds-made m u n (File [])
  adds-copied m u n (child.Need x) = adds-made m u n (File [])

  adds-detached : (c m : ℕ) → Adds w (detached w c m)
  adds-detached c m n = subst (λ o. IfSome o (WasOrNext w n)) (sym (get_each nat_cmp_total (cut_with w.mounts m) w.mounts n)) (by (get w.mounts n) refl)
    where
      by : (o : Option Mount) → get w.mounts n ≡ o → IfSome (option_map (cut_with w.mounts m) o) (WasOrNext w n)
      by (Some t) is = inl (ap (option_map uncut) is)
      by None is = tt

  adds-doomed : (o : Option Seen) → Adds w (doomed_place w o)
  adds-doomed (Some p) = adds-itself w
  adds-doomed None = adds-itself w

  adds-inner : (c : ℕ) (x : Inner) → Adds w (effect w c x)
  adds-inner c (Shadow m u n) = adds-made m u n (new_dir u false)
  adds-inner c (CopyUp m u n) = adds-copied m u n (child_below (child_of (facts_of w)) (low (facts_of w) m u) n)
  adds-inner c (Detach m) = adds-detached c m
  adds-inner c (Doom at) = adds-doomed (place_of w at)

-- ---- worlds

pub apart_start : (limits : Limits) → IsApart (start_world limits)
apart_start limits m s u lower =
    only 0 root_mount m (λ o. option_map (λ (t : Mount). t.kind) o ≡ Some (kind.Union s u lower) → list_any (λ t. t == s) (stores (facts_of (start_world limits)) lower) ≡ false)
    (λ same is. absurd (let clash : Some kind.Mem ≡ Some (kind.Union s u lower) = is in cc)) (λ is. absurd (let clash : None ≡ Some (kind.Union s u lower) = is in cc))

-- what is kept where mounts are added so is kept by calls, by what they need, and by histories
module _ (A : World → Type 0) (grow : (w v : World) → IsWhole w → IsWhole v → Adds w v → A w → A v) where
  pub kept_call : (w : World) (c : ℕ) (x : Call) (r : Reply) → IsWhole w → A w → A (after w (entry.Call c x r))
  kept_call w c x r h = grow w (after w (entry.Call c x r)) h (whole-call w c r h x) (adds-call w c x r)

  pub kept_needed : (w : World) (c : ℕ) (x : Call) (i : Inner) → row w c x ≡ Wants i → IsWhole w → A w → A (effect w c i)
  kept_needed w c x i needs h = grow w (effect w c i) h (whole-needed w c x i needs h) (adds-inner w c i)

  pub kept_history : (p : Pending) (w : World) (es : List Entry) → IsLegal p w es → IsWhole w → A w → A (replay w es)
  kept_history p = kept-history A (λ w h a c r x. kept_call w c x r h a) (λ w h a c x i needs. kept_needed w c x i needs h a) p []

pub whole : (w : World) → IsSound w → IsLasting w → IsWhole w
whole w s l = record { sound = s; lasts = l }

pub apart_call : (w : World) (c : ℕ) (call : Call) (r : Reply) → IsSound w → IsLasting w → IsApart w → IsApart (after w (entry.Call c call r))
apart_call w c call r s l = kept_call IsApart apart_by w c call r (whole w s l)

pub apart_needed : (w : World) (c : ℕ) (call : Call) (x : Inner) → row w c call ≡ Wants x → IsSound w → IsLasting w → IsApart w → IsApart (effect w c x)
apart_needed w c call x needs s l = kept_needed IsApart apart_by w c call x needs (whole w s l)

pub apart_history : (p : Pending) (w : World) (es : List Entry) → IsLegal p w es → IsSound w → IsLasting w → IsApart w → IsApart (replay w es)
apart_history p w es legal s l = kept_history IsApart apart_by p w es legal (whole w s l)

pub apart_from_start : (limits : Limits) (p : Pending) (es : List Entry) → IsLegal p (start_world limits) es → IsApart (replay (start_world limits) es)
apart_from_start limits p es legal = apart_history p (start_world limits) es legal (sound-start limits) (lasting-start limits) (apart_start limits)
