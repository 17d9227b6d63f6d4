-- What a call leaves of the open files, its caller's and those of others, of others' current directories, and of the mounts.
use Rattle.std.proofs.Common.{◌≡◌, ℕ, ℤ, ◌⊎◌, inl, inr, Bool, true, false, cond, not, ◌+◌, ◌==◌, List, [], ◌∷◌, length, refl, ap, sym, ◌∙◌, subst, eq-eqb, nat_cmp}
use Rattle.std.specs.Prelude.{Option, Some, None, ◌&&◌, ◌+ℤ◌, pos, nat_lt, option_map}
use Rattle.std.specs.Cmp.{nat_cmp_total}
use Rattle.std.specs.FinMap.{FinMap, get, insert, remove, len, get-remove}
use Rattle.std.specs.List.{list_any}
use Rattle.std.specs.Ordering.{eq_by_cmp}
use Rattle.std.proofs.lemmas.Map.Lookups.{exact_unsigned}
use Rattle.finite_maps.specs.Keys.{pair_cmp}
use Rattle.finite_maps.proofs.EntryLaws.{pair_total, pair_exact, by_key}
use Rattle.vfs_tree.specs.Carriers.{is_in_union}
use Rattle.vfs_tree.specs.Edits.{made, with_store}
use Rattle.vfs_tree.specs.Facts.{Facts}
use Rattle.vfs_tree.specs.FileEdits.{written, resized}
use Rattle.vfs_tree.specs.Layers.{base, is_dir, is_file, target_of, same_place, kind_in, cut_by, depth, stores}
use Rattle.vfs_tree.specs.Mounts.{Mounts, has_references, is_covered}
use Rattle.vfs_tree.specs.Place.{Seen, mount_of}
use Rattle.vfs_tree.specs.StoreEdits.{removed, set_entry, clear_entry, renamed}
use Rattle.vfs_tree.specs.Views.{facts_of}
use Rattle.vfs_tree.specs.Visible.{visible}
use Rattle.vfs_tree.specs.declared.errno.Errno.TheVariants as errno
use Rattle.vfs_tree.specs.declared.mount.Mount.{Mount}
use Rattle.vfs_tree.specs.declared.mount.MountKind.{MountKind}
use Rattle.vfs_tree.specs.declared.mount.MountKind.TheVariants as kind
use Rattle.vfs_tree.specs.declared.node.NameEntry.TheVariants.{Ino}
use Rattle.vfs_tree.specs.declared.node.Node.{Node}
use Rattle.vfs_tree.specs.declared.node.Node.TheVariants.{File}
use Rattle.vfs_tree.specs.declared.node.Store.{Store}
use Rattle.vfs_tree.specs.declared.open.Open.{Open}
use Rattle.vfs_tree.specs.declared.walk.Found.{Found}
use Rattle.vfs_tree.specs.declared.walk.Found.TheVariants as found
use Rattle.vfs_tree.specs.declared.world.World.{World}
use Rattle.call_model.specs.Checks.{Outcome, is_full, upper_store, lifted, copied, place_at, mount_at, target_at, there, dir_at, free_target, node_of, edit_at, has_white, make_at, drop_at}
use Rattle.call_model.specs.DataRows as rows
use Rattle.call_model.specs.Legal.{after}
use Rattle.call_model.specs.MountRows as mounts
use Rattle.call_model.specs.NameRows as names
use Rattle.call_model.specs.Refs.{first_in, first_open}
use Rattle.call_model.specs.Rows.{first_found, second_found, decided}
use Rattle.call_model.specs.declared.call.Call.{Call}
use Rattle.call_model.specs.declared.call.Call.TheVariants as call
use Rattle.call_model.specs.declared.call.Flags.{Flags}
use Rattle.call_model.specs.declared.call.Whence.{Whence}
use Rattle.call_model.specs.declared.entry.Entry.TheVariants as entry
use Rattle.call_model.specs.declared.entry.Ref.{Ref}
use Rattle.call_model.specs.declared.reply.Reply.{Reply}
use Rattle.call_model.specs.declared.target.Target.{Target}
use Rattle.call_laws.proofs.DataParts.{keeps-descriptor}
use Rattle.call_laws.proofs.NamedLaws.{no_way}
use Rattle.call_laws.proofs.Parts.{Keeps, found_so, refused, needed, weaker, then, unless}
use Rattle.call_laws.proofs.SoundRows.{LeavesSo, AnyNeed}
use Rattle.call_laws.proofs.WeightLaws.{equal}
use Rattle.model_laws.proofs.Leaving.{past, left-so}
use Rattle.fuel_laws.specs.Staying.{StaysButOffset}
use Rattle.fuel_laws.proofs.OpenLaws.{first_free}

-- ---- mounts

abbrev pub kind_by : Option Mount → Option MountKind
kind_by o = option_map (λ (t : Mount). t.kind) o

-- a lower layer is less deep than a place may be
abbrev pub HasRoom : Facts → Option MountKind → Type 0
HasRoom f (Some kind.Mem) = Unit {0}
HasRoom f (Some (kind.Null layer)) = (depth f layer == mounts.most_depth) ≡ false
HasRoom f (Some (kind.Union s u lower)) = (depth f lower == mounts.most_depth) ≡ false
HasRoom f None = Unit {0}

-- a mount that is new
pub record IsAdded (w : World) (m : ℕ) (o : Option Mount) : Type 0 where
  pub at : m ≡ w.next_mount
  pub uncut : cut_by o ≡ false
  pub room : HasRoom (facts_of w) (kind_by o)

-- a mount is there no more, is of the kind that it was, or is new
abbrev pub Grown : World → ℕ → Option Mount → Type 0
Grown w m o = ((kind_by o ≡ None) ⊎ (kind_by o ≡ kind_in (facts_of w) m)) ⊎ IsAdded w m o

-- the open files and current directories of others are as they were, what stays open is as it was but for its offset, and
-- mounts have grown so
pub record Apart (c : ℕ) (w v : World) : Type 0 where
  pub opens : (k : ℕ × ℕ) → (k.0 == c) ≡ false → get v.opens k ≡ get w.opens k
  pub stays : (k : ℕ × ℕ) → StaysButOffset (get w.opens k) (get v.opens k)
  pub mounts : (m : ℕ) → Grown w m (get v.mounts m)
  pub cwds : (d : ℕ) → (d == c) ≡ false → get v.cwds d ≡ get w.cwds d

-- ---- what changes none of them

-- the open files, the mounts and the current directories are those of the world
abbrev pub Same : World → World → Type 0
Same w v = (v.opens ≡ w.opens) × (v.mounts ≡ w.mounts) × (v.cwds ≡ w.cwds)

pub same-store : (g : Store → Store) (w : World) (s : ℕ) (o : Option Store) → Same w (with_store g w s o)
same-store g w s (Some t) = (refl, refl, refl)
same-store g w s None = (refl, refl, refl)

edit : (w : World) (p : Seen) (change : Store → ℕ → Store) → Same w (edit_at w p change)
edit w p change = let b = base (facts_of w) p in same-store (λ t. change t b.ino) w b.store _

-- what a row leaves
abbrev Leaves : World → Outcome → Type 0
Leaves w o = Keeps (LeavesSo (Same w)) AnyNeed o

make : (w : World) (d : Seen) (n : List ℕ) (node : Node) → Keeps (Same w) AnyNeed (make_at w d n node)
make w d n node = unless (is_full w (base (facts_of w) d).store) _ (λ _. found_so (edit w d (λ t dir. made t dir n node)))

drop : (w : World) (d : Seen) (n : List ℕ) → Same w (drop_at w d n)
drop w d n = edit w d (λ t dir. removed (is_in_union d) t dir n)

-- names

mkdir : (w : World) (a : Found) → Leaves w (names.mkdir w a)
mkdir w a = past (free_target w a) (λ t. then (names.made_dir w t) (make w t.dir t.name _) (λ new h. found_so h))

rmdir : (w : World) (a : Found) → Leaves w (names.rmdir w a)
rmdir w a = past (target_at w errno.EINVAL a) (λ t. past (names.check_removed w t.child) (λ _. found_so (drop w t.dir t.name)))

unlink : (w : World) (a : Found) → Leaves w (names.unlink w a)
unlink w a = past (target_at w errno.EPERM a) (λ t. past (there t.child) (λ p. unless (is_dir (facts_of w) p) _ (λ _. found_so (drop w t.dir t.name))))

link : (w : World) (a b : Found) → Leaves w (names.link w a b)
link w a b =
    past (place_at w a) (λ p.
    unless (is_dir (facts_of w) p) _ (λ _.
    past (free_target w b) (λ t.
    unless (not (mount_of p == mount_of t.dir)) _ (λ _.
    past (copied w p) (λ _.
    found_so (edit w t.dir (λ s dir. set_entry s dir t.name (Ino (base (facts_of w) p).ino))))))))

symlink : (w : World) (text : List ℕ) (a : Found) → Leaves w (names.symlink w text a)
symlink w text a = past (names.check_text text) (λ _. past (free_target w a) (λ t. then (names.made_link w text t) (make w t.dir t.name _) (λ new h. found_so h)))

readlink : (w : World) (a : Found) → Leaves w (names.readlink w a)
readlink w a = past (place_at w a) (λ p. past (names.link_text (target_of (facts_of w) p)) (λ text. found_so (refl, refl, refl)))

undelete : (w : World) (a : Found) → Leaves w (names.undelete w a)
undelete w a =
    past (target_at w errno.EEXIST a) (λ t. unless (not (has_white w t.dir t.name)) _ (λ _. found_so (edit w t.dir (λ s dir. clear_entry s dir t.name))))

rename_case : (b : Bool) (w : World) (source d : Seen) (n : List ℕ) (new : Target) → Leaves w (names.rename_case b w source d n new)
rename_case true w source d n new = found_so (refl, refl, refl)
rename_case false w source d n new =
    past (names.check_source (is_dir (facts_of w) source) w source new.dir) (λ _.
    past (names.check_replaced w (is_dir (facts_of w) source) new.child) (λ _.
    past (copied w source) (λ _.
    found_so (edit w d (λ t from. renamed (is_in_union d) (is_in_union new.dir) t from n (base (facts_of w) new.dir).ino new.name)))))

rename : (w : World) (a b : Found) → Leaves w (names.rename w a b)
rename w a b =
    past (target_at w errno.EINVAL a) (λ old.
    past (there old.child) (λ source.
    past (target_at w errno.EINVAL b) (λ new.
    unless (not (mount_of old.dir == mount_of new.dir)) _ (λ _. rename_case (names.is_there source new.child) w source old.dir old.name new))))

stat : (w : World) (a : Found) → Leaves w (names.stat w a)
stat w a = past (place_at w a) (λ p. past (names.stat_of (node_of w p)) (λ known. found_so (refl, refl, refl)))

statfs : (w : World) (a : Found) → Leaves w (names.statfs w a)
statfs w a = past (place_at w a) (λ p. found_so (refl, refl, refl))

-- what is open

resize : (w : World) (p : Seen) (n : ℕ) → Same w (rows.resize_at w p n)
resize w p n = edit w p (λ t i. resized t i n)

cut_to : (b : Bool) (w : World) (p : Seen) → Same w (rows.cut_to b w p)
cut_to true w p = resize w p 0
cut_to false w p = (refl, refl, refl)

write_at : (w : World) (o : Open) (at : ℕ) (bytes : List ℕ) → Keeps (λ (x : World × ℕ). Same w x.0) AnyNeed (rows.write_at w o at bytes)
write_at w o at bytes = unless (nat_lt rows.most_bytes (at + length bytes)) _ (λ _. found_so (edit w o.place (λ t i. written t i at bytes)))

pread : (w : World) (c d n at : ℕ) → Leaves w (rows.pread w c d n at)
pread w c d n at = past (rows.descriptor w c d) (λ o. past (rows.check_read w o n) (λ _. found_so (refl, refl, refl)))

fstat : (w : World) (c d : ℕ) → Leaves w (rows.fstat w c d)
fstat w c d = past (rows.descriptor w c d) (λ o. unless o.dead _ (λ _. past (names.stat_of (node_of w o.place)) (λ known. found_so (refl, refl, refl))))

readdir : (w : World) (c d : ℕ) → Leaves w (rows.readdir w c d)
readdir w c d =
    past (rows.descriptor w c d) (λ o. unless o.dead _ (λ _. unless (not (is_dir (facts_of w) o.place)) _ (λ _. past (lifted w (visible w o.place)) (λ _. found_so (refl, refl, refl)))))

pwrite_some : (w : World) (o : Open) (at : ℕ) (bytes : List ℕ) → Leaves w (rows.pwrite_some w o at bytes)
pwrite_some w o at [] = found_so (refl, refl, refl)
pwrite_some w o at (b ∷ bs) = then (rows.write_at w o (rows.write_to w o at) (b ∷ bs)) (write_at w o (rows.write_to w o at) (b ∷ bs)) (λ new h. found_so h)

pwrite : (w : World) (c d at : ℕ) (bytes : List ℕ) → Leaves w (rows.pwrite w c d at bytes)
pwrite w c d at bytes = past (rows.descriptor w c d) (λ o. past (rows.check_write o bytes) (λ _. pwrite_some w o at bytes))

truncate : (w : World) (a : Found) (n : ℕ) → Leaves w (rows.truncate w a n)
truncate w a n = past (place_at w a) (λ p. past (rows.check_length w p n) (λ _. found_so (resize w p n)))

ftruncate : (w : World) (c d n : ℕ) → Leaves w (rows.ftruncate w c d n)
ftruncate w c d n = past (rows.open_length w c d n) (λ p. found_so (resize w p n))

revoke_next : (w : World) (o : Option Ref) → Leaves w (mounts.revoke_next w o)
revoke_next w (Some at) = needed tt
revoke_next w None = found_so (refl, refl, refl)

revoke : (w : World) (a : Found) → Leaves w (mounts.revoke w a)
revoke w a = past (place_at w a) (λ p. unless (not (is_file (facts_of w) p)) _ (λ _. revoke_next w (first_open w p)))

-- ---- what changes one of them

same_open : (o : Option Open) → StaysButOffset o o
same_open (Some x) = (refl, refl, refl)
same_open None = tt

same_opens : (w v : World) → Same w v → (k : ℕ × ℕ) → StaysButOffset (get w.opens k) (get v.opens k)
same_opens w v h k = subst (λ m. StaysButOffset (get w.opens k) (get m k)) (sym h.0) (same_open (get w.opens k))

pub apart : (c : ℕ) (w v : World) → Same w v → Apart c w v
apart c w v h = record { opens = λ k _. ap (λ m. get m k) h.0; stays = same_opens w v h; mounts = λ m. inl (inr (ap (λ (x : Mounts). kind_by (get x m)) h.1)); cwds = λ d _. ap (λ x. get x d) h.2 }

-- a descriptor is set
set : (c d : ℕ) (w v : World) (o : Open) → StaysButOffset (get w.opens (c, d)) (Some o) → Same w v → Apart c w (rows.with_open v c d o)
set c d w v o its h = record {
  opens = λ k other. by_key pair_total pair_exact v.opens (c, d) o k (λ x. x ≡ get w.opens k) (λ is. no_way (sym other ∙ eq-eqb k.0 c (ap (λ (x : ℕ × ℕ). x.0) is))) (ap (λ m. get m k) h.0);
  stays = λ k. by_key pair_total pair_exact v.opens (c, d) o k (StaysButOffset (get w.opens k)) (λ is. subst (λ q. StaysButOffset (get w.opens q) (Some o)) (sym is) its) (same_opens w v h k);
  mounts = λ m. inl (inr (ap (λ (x : Mounts). kind_by (get x m)) h.1));
  cwds = λ d _. ap (λ x. get x d) h.2;
}

-- a free one is set, or the offset of one that is open
opened : (c d : ℕ) (w v : World) (o : Open) → get w.opens (c, d) ≡ None → Same w v → Apart c w (rows.with_open v c d o)
opened c d w v o free h = set c d w v o (subst (λ x. StaysButOffset x (Some o)) (sym free) tt) h

moved : (c d : ℕ) (w v : World) (o : Open) (n : ℕ) → get w.opens (c, d) ≡ Some o → Same w v → Apart c w (rows.with_offset v c d o n)
moved c d w v o n at h = set c d w v (record o { offset = n }) (subst (λ x. StaysButOffset x (Some (record o { offset = n }))) (sym at) (refl, refl, refl)) h

-- what a descriptor is open at
at_descriptor : (w : World) (c d : ℕ) → Keeps (λ o. get w.opens (c, d) ≡ Some o) AnyNeed (rows.descriptor w c d)
at_descriptor w c d = weaker (rows.descriptor w c d) (λ _ h. h) (λ _ _. tt) (keeps-descriptor w c d)

gone_open : (b : Bool) (o : Option Open) → StaysButOffset o (cond b None o)
gone_open true (Some x) = tt
gone_open true None = tt
gone_open false o = same_open o

closed : (w : World) (c d : ℕ) (k : ℕ × ℕ) → StaysButOffset (get w.opens k) (get (remove w.opens (c, d)) k)
closed w c d k = subst (StaysButOffset (get w.opens k)) (sym (get-remove pair_total w.opens (c, d) k)) (gone_open (eq_by_cmp pair_cmp k (c, d)) (get w.opens k))

still_open : (x : FinMap pair_cmp Open) (c d : ℕ) (k : ℕ × ℕ) → (k.0 == c) ≡ false → get (remove x (c, d)) k ≡ get x k
still_open x c d k other =
    get-remove pair_total x (c, d) k ∙ elim (eq_by_cmp pair_cmp k (c, d)) as (λ b. eq_by_cmp pair_cmp k (c, d) ≡ b → cond b None (get x k) ≡ get x k) [
      | true ↦ λ is. no_way (sym other ∙ eq-eqb k.0 c (ap (λ (x : ℕ × ℕ). x.0) (pair_exact k (c, d) (equal (pair_cmp k (c, d)) is))))
      | false ↦ λ _. refl
    ] refl

-- a mount goes
gone : (w : World) (m n : ℕ) → Grown w n (get (remove w.mounts m) n)
gone w m n =
    elim (eq_by_cmp nat_cmp n m) as (λ b. get (remove w.mounts m) n ≡ cond b None (get w.mounts n) → Grown w n (get (remove w.mounts m) n)) [
      | true ↦ λ is. inl (inl (ap kind_by is))
      | false ↦ λ is. inl (inr (ap kind_by is))
    ] (get-remove nat_cmp_total w.mounts m n)

-- a mount comes
added : (w : World) (k : MountKind) (on : Seen) (n : ℕ) → HasRoom (facts_of w) (Some k)
    → Grown w n (get (insert w.mounts w.next_mount (record { number = w.next_mount; kind = k; on = Some on; cut = false })) n)
added w k on n room =
    by_key nat_cmp_total exact_unsigned w.mounts w.next_mount (record { number = w.next_mount; kind = k; on = Some on; cut = false }) n (Grown w n) (λ is. inr (record { at = is; uncut = refl; room = room })) (inl (inr refl))

module _ (c : ℕ) where
  abbrev Parts : World → Outcome → Type 0
  Parts w o = Keeps (LeavesSo (Apart c w)) AnyNeed o

  all : (w : World) (o : Outcome) → Leaves w o → Parts w o
  all w o h = weaker o (λ x s. apart c w x.0 s) (λ _ n. n) h

  -- current directories

  entered : (w : World) (p : Seen) → Apart c w (names.with_cwd w c p)
  entered w p = record {
    opens = λ k _. refl;
    stays = λ k. same_open (get w.opens k);
    mounts = λ m. inl (inr refl);
    cwds = λ d other. by_key nat_cmp_total exact_unsigned w.cwds c (record { place = p; dead = false }) d (λ o. o ≡ get w.cwds d) (λ is. no_way (sym other ∙ eq-eqb d c is)) refl;
  }

  chdir : (w : World) (a : Found) → Parts w (names.chdir w c a)
  chdir w a = past (dir_at w a) (λ d. found_so (entered w d))

  fchdir : (w : World) (d : ℕ) → Parts w (rows.fchdir w c d)
  fchdir w d = past (rows.open_dir w c d) (λ p. found_so (entered w p))

  -- mounts

  mount_mem : (w : World) (a : Found) → Parts w (mounts.mount_mem w a)
  mount_mem w a = past (dir_at w a) (λ on. past (mounts.check_mounts w) (λ _. found_so (record { opens = λ k _. refl; stays = λ k. same_open (get w.opens k); mounts = λ n. added w kind.Mem on n tt; cwds = λ d _. refl })))

  mount_null : (w : World) (a b : Found) → Parts w (mounts.mount_null w a b)
  mount_null w a b =
      past (dir_at w a) (λ layer.
      past (dir_at w b) (λ on.
      unless (same_place layer on) _ (λ _.
      unless (depth (facts_of w) layer == mounts.most_depth) _ (λ shallow.
      past (mounts.check_mounts w) (λ _. found_so (record { opens = λ k _. refl; stays = λ k. same_open (get w.opens k); mounts = λ n. added w (kind.Null layer) on n shallow; cwds = λ d _. refl }))))))

  mount_union : (w : World) (a b : Found) → Parts w (mounts.mount_union w a b)
  mount_union w a b =
      past (dir_at w a) (λ up.
      past (dir_at w b) (λ on.
      past (mounts.upper_of up) (λ upper.
      unless (list_any (λ s. s == upper.store) (stores (facts_of w) on)) _ (λ _.
      unless (depth (facts_of w) on == mounts.most_depth) _ (λ shallow.
      past (mounts.check_mounts w) (λ _. found_so (record { opens = λ k _. refl; stays = λ k. same_open (get w.opens k); mounts = λ n. added w (kind.Union upper.store upper.ino on) on n shallow; cwds = λ d _. refl })))))))

  umount : (w : World) (a : Found) → Parts w (mounts.umount w a)
  umount w a = past (mount_at w a) (λ m. unless (m == 0) _ (λ _. unless (has_references w m) _ (λ _. found_so (record { opens = λ k _. refl; stays = λ k. same_open (get w.opens k); mounts = gone w m; cwds = λ d _. refl }))))

  doom_next : (w : World) (m : ℕ) (o : Option Ref) → Parts w (mounts.doom_next w c m o)
  doom_next w m (Some at) = needed tt
  doom_next w m None = found_so (record { opens = λ k _. refl; stays = λ k. same_open (get w.opens k); mounts = gone w m; cwds = λ d _. refl })

  umount_by : (w : World) (a : Found) (o : Option ℕ) → Parts w (mounts.umount_by w c a o)
  umount_by w a (Some m) = doom_next w m (first_in w m)
  umount_by w a None = past (mount_at w a) (λ m. unless (m == 0) _ (λ _. unless (is_covered w m) _ (λ _. needed tt)))

  -- descriptors

  close : (w : World) (d : ℕ) → Parts w (rows.close w c d)
  close w d = past (rows.descriptor w c d) (λ o. found_so (record { opens = λ k other. still_open w.opens c d k other; stays = closed w c d; mounts = λ m. inl (inr refl); cwds = λ d _. refl }))

  read : (w : World) (d n : ℕ) → Parts w (rows.read w c d n)
  read w d n = then (rows.descriptor w c d) (at_descriptor w c d) (λ o at. past (rows.check_read w o n) (λ _. found_so (moved c d w w o _ at (refl, refl, refl))))

  lseek : (w : World) (d : ℕ) (x : Whence) (i : ℤ) → Parts w (rows.lseek w c d x i)
  lseek w d x i =
      then (rows.descriptor w c d) (at_descriptor w c d) (λ o is. unless o.dead _ (λ _. past (rows.offset_of (pos (rows.seek_from w o x) +ℤ i)) (λ at. found_so (moved c d w w o _ is (refl, refl, refl)))))

  write_some : (w : World) (d : ℕ) (o : Open) (bytes : List ℕ) → get w.opens (c, d) ≡ Some o → Parts w (rows.write_some w c d o bytes)
  write_some w d o [] at = found_so (apart c w w (refl, refl, refl))
  write_some w d o (b ∷ bs) at =
      then (rows.write_at w o (rows.write_to w o o.offset) (b ∷ bs)) (write_at w o (rows.write_to w o o.offset) (b ∷ bs)) (λ new h. found_so (moved c d w new.0 o _ at h))

  write : (w : World) (d : ℕ) (bytes : List ℕ) → Parts w (rows.write w c d bytes)
  write w d bytes = then (rows.descriptor w c d) (at_descriptor w c d) (λ o at. past (rows.check_write o bytes) (λ _. write_some w d o bytes at))

  open_there : (w : World) (fd : ℕ) (f : Flags) (p : Seen) → get w.opens (c, fd) ≡ None → Parts w (rows.open_there w c fd f p)
  open_there w fd f p free =
      unless (is_dir (facts_of w) p && rows.writes f.access) _ (λ _.
      unless (not (is_dir (facts_of w) p) && f.dir) _ (λ _.
      past (rows.copied_for (rows.writes f.access) w p) (λ _. found_so (opened c fd w (rows.cut_to f.cut w p) _ free (cut_to f.cut w p)))))

  open_found : (w : World) (fd : ℕ) (f : Flags) (a : Found) → get w.opens (c, fd) ≡ None → Parts w (rows.open_found w c fd f a)
  open_found w fd f (found.At p) free = open_there w fd f p free
  open_found w fd f (found.In d n None) free = then (make_at w d n (File [])) (make w d n (File [])) (λ new h. found_so (opened c fd w new _ free h))
  open_found w fd f (found.In d n (Some p)) free = refused
  open_found w fd f (found.Dot d) free = refused
  open_found w fd f (found.Mount m) free = refused
  open_found w fd f (found.Refused e) free = refused
  open_found w fd f (found.Need x) free = unless (is_full w (upper_store w x.mount)) _ (λ _. needed tt)

  open_file : (w : World) (f : Flags) (a : Found) → Parts w (rows.open_file w c f a)
  open_file w f a =
      unless (not (rows.are_flags f)) _ (λ _.
      then (rows.free_descriptor w c) (first_free w c 32 0) (λ fd first.
      unless (not (nat_lt (len w.opens) w.limits.files)) _ (λ _. open_found w fd f a first.free)))

  -- ---- all calls

  by_call : (w : World) (call : Call) (a b : Found) → Parts w (decided w c call a b)
  by_call w (call.Mkdir p) a b = all w _ (mkdir w a)
  by_call w (call.Rmdir p) a b = all w _ (rmdir w a)
  by_call w (call.Open p f) a b = open_file w f a
  by_call w (call.Close d) a b = close w d
  by_call w (call.Read d n) a b = read w d n
  by_call w (call.Pread d n o) a b = all w _ (pread w c d n o)
  by_call w (call.Write d bytes) a b = write w d bytes
  by_call w (call.Pwrite d o bytes) a b = all w _ (pwrite w c d o bytes)
  by_call w (call.Lseek d h i) a b = lseek w d h i
  by_call w (call.Truncate p n) a b = all w _ (truncate w a n)
  by_call w (call.Ftruncate d n) a b = all w _ (ftruncate w c d n)
  by_call w (call.Stat p) a b = all w _ (stat w a)
  by_call w (call.Lstat p) a b = all w _ (stat w a)
  by_call w (call.Fstat d) a b = all w _ (fstat w c d)
  by_call w (call.Readdir d) a b = all w _ (readdir w c d)
  by_call w (call.Unlink p) a b = all w _ (unlink w a)
  by_call w (call.Rename p q) a b = all w _ (rename w a b)
  by_call w (call.Link p q) a b = all w _ (link w a b)
  by_call w (call.Symlink t p) a b = all w _ (symlink w t a)
  by_call w (call.Readlink p) a b = all w _ (readlink w a)
  by_call w (call.Undelete p) a b = all w _ (undelete w a)
  by_call w (call.Chdir p) a b = chdir w a
  by_call w (call.Fchdir d) a b = fchdir w d
  by_call w (call.Statfs p) a b = all w _ (statfs w a)
  by_call w (call.MountMem p) a b = mount_mem w a
  by_call w (call.MountNull t p) a b = mount_null w a b
  by_call w (call.MountUnion u p) a b = mount_union w a b
  by_call w (call.Umount p) a b = umount w a
  by_call w (call.UmountForce p) a b = umount_by w a (get w.leaving c)
  by_call w (call.Revoke p) a b = all w _ (revoke w a)

  -- what a call leaves
  pub apart_call : (w : World) (call : Call) (r : Reply) → Apart c w (after w (entry.Call c call r))
  apart_call w call r = left-so (Apart c w) w c call r (apart c w w (refl, refl, refl)) (by_call w call (first_found w c call) (second_found w c call))
