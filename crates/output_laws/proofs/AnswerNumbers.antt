-- What calls answer has numbers of at most 64 bits, and so have callers and descriptors in the worlds that they leave.
use Rattle.std.proofs.Common.{◌≡◌, ℕ, zero, suc, ℤ, Bool, true, false, not, ◌+◌, ◌≤◌, ◌==◌, List, [], ◌∷◌, length, refl, ap, subst, arith, lit≤}
use Rattle.std.specs.Prelude.{Option, Some, None, is_some, MatchBool, ◌&&◌, ◌+ℤ◌, pos, negsuc, nat_lt}
use Rattle.std.specs.FinMap.{get, len}
use Rattle.std.specs.List.{list_any}
use Rattle.std.proofs.lemmas.Bool.{ltb-false}
use Rattle.vfs_tree.specs.Carriers.{is_in_union}
use Rattle.vfs_tree.specs.FileEdits.{written, resized}
use Rattle.vfs_tree.specs.Layers.{base, is_dir, is_file, target_of, same_place, depth, stores}
use Rattle.vfs_tree.specs.Mounts.{has_references, is_covered}
use Rattle.vfs_tree.specs.Place.{Seen, mount_of}
use Rattle.vfs_tree.specs.StoreEdits.{removed, set_entry, clear_entry, renamed}
use Rattle.vfs_tree.specs.Steps.{refuse_if}
use Rattle.vfs_tree.specs.Views.{facts_of}
use Rattle.vfs_tree.specs.Visible.{visible}
use Rattle.vfs_tree.specs.declared.errno.Errno.{Errno}
use Rattle.vfs_tree.specs.declared.errno.Errno.TheVariants as errno
use Rattle.vfs_tree.specs.declared.node.NameEntry.TheVariants.{Ino}
use Rattle.vfs_tree.specs.declared.node.Node.{Node}
use Rattle.vfs_tree.specs.declared.node.Node.TheVariants.{Dir, File, Link}
use Rattle.vfs_tree.specs.declared.open.Open.{Open}
use Rattle.vfs_tree.specs.declared.walk.Found.{Found}
use Rattle.vfs_tree.specs.declared.walk.Found.TheVariants as found
use Rattle.vfs_tree.specs.declared.walk.Step.TheVariants.{Go, Refuse, Wants}
use Rattle.vfs_tree.specs.declared.world.World.{World}
use Rattle.call_model.specs.Apply.{Applied, Finished, Needs, settle, apply}
use Rattle.call_model.specs.Checks.{Doing, Outcome, is_full, upper_store, lifted, copied, place_at, mount_at, target_at, there, dir_at, free_target, node_of, has_white, make_at, drop_at}
use Rattle.call_model.specs.DataRows as rows
use Rattle.call_model.specs.Legal.{MayLackMemory, after, is_no_memory, world_after}
use Rattle.call_model.specs.MountRows as mounts
use Rattle.call_model.specs.NameRows as names
use Rattle.call_model.specs.Refs.{first_in, first_open}
use Rattle.call_model.specs.Rows.{first_way, first_found, second_found, decided, row}
use Rattle.call_model.specs.declared.call.Call.{Call}
use Rattle.call_model.specs.declared.call.Call.TheVariants as call
use Rattle.call_model.specs.declared.call.Flags.{Flags}
use Rattle.call_model.specs.declared.call.Whence.{Whence}
use Rattle.call_model.specs.declared.entry.Entry.TheVariants as entry
use Rattle.call_model.specs.declared.entry.Ref.{Ref}
use Rattle.call_model.specs.declared.reply.Reply.{Reply}
use Rattle.call_model.specs.declared.reply.Reply.TheVariants as reply
use Rattle.call_model.specs.declared.target.Target.{Target}
use Rattle.trace_text.specs.Bounded.{IsBounded, IsBoundedReply}
use Rattle.call_laws.proofs.NameParts.{Alone, alone-itself, alone-edit, keeps-make}
use Rattle.call_laws.proofs.NamedLaws.{no_way}
use Rattle.call_laws.proofs.Parts.{Keeps, found_so, refused, needed, weaker, then, unless}
use Rattle.call_laws.proofs.PlaceLaws.{well_at}
use Rattle.call_laws.proofs.SoundRows.{AnyNeed}
use Rattle.call_laws.proofs.WalkLaws.{FoundWell, head_there}
use Rattle.call_laws.proofs.Whole.{IsWhole}
use Rattle.model_laws.proofs.Leaving.{past, in-row, left-so}
use Rattle.output_laws.proofs.KeyLaws.{AreKeyed, few, mount_few, keyed-alike, keyed-alone, keyed-set, keyed-closed, keyed-cwd}

-- a check alone
check_so : (b : Bool) (e : Errno) → Keeps (λ (u : Unit {0}). b ≡ false) AnyNeed (refuse_if b e)
check_so true e = refused
check_so false e = found_so refl

-- ---- numbers that calls find

not_above : (most n : ℕ) → most ≤ 4294967295 → nat_lt most n ≡ false → IsBounded n
not_above most n small e = let least : n ≤ most = ltb-false most n e in few n (omega (arith, least, small))

stat_so : (o : Option Node) → Keeps IsBoundedReply AnyNeed (names.stat_of o)
stat_so (Some (Dir parent opaque es)) = found_so (few 0 (lit≤ tt))
stat_so (Some (File bytes)) = found_so (few (names.size_of bytes) (omega arith))
stat_so (Some (Link target)) = found_so (few (names.size_of target) (omega arith))
stat_so None = refused

offset_so : (i : ℤ) → Keeps IsBounded AnyNeed (rows.offset_of i)
offset_so (pos n) = unless (nat_lt 4294967295 n) _ (λ e. found_so (not_above 4294967295 n (lit≤ tt) e))
offset_so (negsuc n) = refused

check_write_so : (o : Open) (bytes : List ℕ) → Keeps (λ (u : Unit {0}). IsBounded (length bytes)) AnyNeed (rows.check_write o bytes)
check_write_so o bytes =
    unless o.dead _ (λ _.
    unless (not o.mode.write) _ (λ _.
    weaker _ (λ _ e. not_above rows.most_moved (length bytes) (lit≤ tt) e) (λ _ n. n) (check_so (nat_lt rows.most_moved (length bytes)) _)))

free_case_so : (next : Doing ℕ) (d : ℕ) (taken : Bool) → Keeps IsBounded AnyNeed next → IsBounded d → Keeps IsBounded AnyNeed (rows.free_case next d taken)
free_case_so next d true more at = more
free_case_so next d false more at = found_so at

free_so : (w : World) (c k d : ℕ) → d + k ≤ 32 → Keeps IsBounded AnyNeed (rows.free_from k w c d)
free_so w c zero d most = refused
free_so w c (suc k) d most =
    free_case_so (rows.free_from k w c (d + 1)) d (is_some (get w.opens (c, d))) (free_so w c k (d + 1) (omega (arith, most))) (few d (omega (arith, most)))

-- ---- what is answered

abbrev reply_or : Applied → Reply
reply_or (Finished v r) = r
reply_or (Needs x) = reply.Done

abbrev is_finished : Applied → Bool
is_finished (Finished v r) = true
is_finished (Needs x) = false

module _ (w : World) (h : IsWhole w) (c : ℕ) (caller : IsBounded c) (keys : AreKeyed w) where
  -- the world that is left has such keys, and the reply such a number
  abbrev So : World × Reply → Type 0
  So x = AreKeyed x.0 × IsBoundedReply x.1

  abbrev Fit : Outcome → Type 0
  Fit o = Keeps So AnyNeed o

  same : (v : World) → Alone w v → AreKeyed v
  same v e = keyed-alone w v keys e

  set : (v : World) → Alone w v → (d : ℕ) → IsBounded d → (o : Open) → AreKeyed (rows.with_open v c d o)
  set v e d at o = keyed-set v c d o (same v e) caller at

  make : (d : Seen) (n : List ℕ) (node : Node) → Keeps (Alone w) AnyNeed (make_at w d n node)
  make d n node = weaker (make_at w d n node) (λ _ e. e) (λ _ _. tt) (keeps-make w d n node)

  dropped : (d : Seen) (n : List ℕ) → AreKeyed (drop_at w d n)
  dropped d n = same (drop_at w d n) (alone-edit w d (λ t dir. removed (is_in_union d) t dir n))

  -- ---- names

  mkdir : (a : Found) → Fit (names.mkdir w a)
  mkdir a = past (free_target w a) (λ t. then (names.made_dir w t) (make t.dir t.name _) (λ new e. found_so (same new e, tt)))

  rmdir : (a : Found) → Fit (names.rmdir w a)
  rmdir a = past (target_at w errno.EINVAL a) (λ t. past (names.check_removed w t.child) (λ _. found_so (dropped t.dir t.name, tt)))

  unlink : (a : Found) → Fit (names.unlink w a)
  unlink a = past (target_at w errno.EPERM a) (λ t. past (there t.child) (λ p. unless (is_dir (facts_of w) p) _ (λ _. found_so (dropped t.dir t.name, tt))))

  link : (a b : Found) → Fit (names.link w a b)
  link a b =
      past (place_at w a) (λ p.
      unless (is_dir (facts_of w) p) _ (λ _.
      past (free_target w b) (λ t.
      unless (not (mount_of p == mount_of t.dir)) _ (λ _.
      past (copied w p) (λ _.
      found_so (same _ (alone-edit w t.dir (λ s dir. set_entry s dir t.name (Ino (base (facts_of w) p).ino))), tt))))))

  symlink : (text : List ℕ) (a : Found) → Fit (names.symlink w text a)
  symlink text a =
      past (names.check_text text) (λ _. past (free_target w a) (λ t. then (names.made_link w text t) (make t.dir t.name _) (λ new e. found_so (same new e, tt))))

  readlink : (a : Found) → Fit (names.readlink w a)
  readlink a = past (place_at w a) (λ p. past (names.link_text (target_of (facts_of w) p)) (λ text. found_so (keys, tt)))

  undelete : (a : Found) → Fit (names.undelete w a)
  undelete a =
      past (target_at w errno.EEXIST a) (λ t.
      unless (not (has_white w t.dir t.name)) _ (λ _. found_so (same _ (alone-edit w t.dir (λ s dir. clear_entry s dir t.name)), tt)))

  rename_case : (b : Bool) (source d : Seen) (n : List ℕ) (new : Target) → Fit (names.rename_case b w source d n new)
  rename_case true source d n new = found_so (keys, tt)
  rename_case false source d n new =
      past (names.check_source (is_dir (facts_of w) source) w source new.dir) (λ _.
      past (names.check_replaced w (is_dir (facts_of w) source) new.child) (λ _.
      past (copied w source) (λ _.
      found_so (same _ (alone-edit w d (λ t from. renamed (is_in_union d) (is_in_union new.dir) t from n (base (facts_of w) new.dir).ino new.name)), tt))))

  rename : (a b : Found) → Fit (names.rename w a b)
  rename a b =
      past (target_at w errno.EINVAL a) (λ old.
      past (there old.child) (λ source.
      past (target_at w errno.EINVAL b) (λ new.
      unless (not (mount_of old.dir == mount_of new.dir)) _ (λ _. rename_case (names.is_there source new.child) source old.dir old.name new))))

  stat : (a : Found) → Fit (names.stat w a)
  stat a = past (place_at w a) (λ p. then (names.stat_of (node_of w p)) (stat_so (node_of w p)) (λ known small. found_so (keys, small)))

  chdir : (a : Found) → Fit (names.chdir w c a)
  chdir a = past (dir_at w a) (λ d. found_so (keyed-cwd w c d keys caller, tt))

  -- the mount of a place that is found
  place_so : (a : Found) → FoundWell (facts_of w) a → Keeps (λ p. IsBounded (mount_of p)) AnyNeed (place_at w a)
  place_so (found.At p) well = found_so (mount_few w h (mount_of p) (head_there (facts_of w) p well.good.sound.mounts))
  place_so (found.Need x) well = unless (is_full w (upper_store w x.mount)) _ (λ _. needed tt)
  place_so _ well = refused

  statfs : (a : Found) → FoundWell (facts_of w) a → Fit (names.statfs w a)
  statfs a well = then (place_at w a) (place_so a well) (λ p small. found_so (keys, small))

  -- ---- mounts

  mount_mem : (a : Found) → Fit (mounts.mount_mem w a)
  mount_mem a = past (dir_at w a) (λ on. past (mounts.check_mounts w) (λ _. found_so (keyed-alike w _ keys refl refl, tt)))

  mount_null : (a b : Found) → Fit (mounts.mount_null w a b)
  mount_null a b =
      past (dir_at w a) (λ layer.
      past (dir_at w b) (λ on.
      unless (same_place layer on) _ (λ _.
      unless (depth (facts_of w) layer == mounts.most_depth) _ (λ _.
      past (mounts.check_mounts w) (λ _. found_so (keyed-alike w _ keys refl refl, tt))))))

  mount_union : (a b : Found) → Fit (mounts.mount_union w a b)
  mount_union a b =
      past (dir_at w a) (λ up.
      past (dir_at w b) (λ on.
      past (mounts.upper_of up) (λ upper.
      unless (list_any (λ s. s == upper.store) (stores (facts_of w) on)) _ (λ _.
      unless (depth (facts_of w) on == mounts.most_depth) _ (λ _.
      past (mounts.check_mounts w) (λ _. found_so (keyed-alike w _ keys refl refl, tt)))))))

  umount : (a : Found) → Fit (mounts.umount w a)
  umount a = past (mount_at w a) (λ m. unless (m == 0) _ (λ _. unless (has_references w m) _ (λ _. found_so (keyed-alike w _ keys refl refl, tt))))

  doom_next : (m : ℕ) (o : Option Ref) → Fit (mounts.doom_next w c m o)
  doom_next m (Some at) = needed tt
  doom_next m None = found_so (keyed-alike w _ keys refl refl, tt)

  umount_by : (a : Found) (o : Option ℕ) → Fit (mounts.umount_by w c a o)
  umount_by a (Some m) = doom_next m (first_in w m)
  umount_by a None = past (mount_at w a) (λ m. unless (m == 0) _ (λ _. unless (is_covered w m) _ (λ _. needed tt)))

  revoke_next : (o : Option Ref) → Fit (mounts.revoke_next w o)
  revoke_next (Some at) = needed tt
  revoke_next None = found_so (keys, tt)

  revoke : (a : Found) → Fit (mounts.revoke w a)
  revoke a = past (place_at w a) (λ p. unless (not (is_file (facts_of w) p)) _ (λ _. revoke_next (first_open w p)))

  -- ---- contents and descriptors

  opened_so : (d : ℕ) (o : Option Open) → get w.opens (c, d) ≡ o → Keeps (λ x. IsBounded d) AnyNeed (rows.opened o)
  opened_so d (Some o) is = found_so (keys.opens (c, d) (ap is_some is)).1
  opened_so d None is = refused

  -- a descriptor that is open
  at_so : (d : ℕ) → Keeps (λ o. IsBounded d) AnyNeed (rows.descriptor w c d)
  at_so d = opened_so d (get w.opens (c, d)) refl

  resize : (p : Seen) (n : ℕ) → AreKeyed (rows.resize_at w p n)
  resize p n = same _ (alone-edit w p (λ t i. resized t i n))

  close : (d : ℕ) → Fit (rows.close w c d)
  close d = past (rows.descriptor w c d) (λ o. found_so (keyed-closed w (c, d) keys, tt))

  read : (d n : ℕ) → Fit (rows.read w c d n)
  read d n = then (rows.descriptor w c d) (at_so d) (λ o at. past (rows.check_read w o n) (λ _. found_so (set w (alone-itself w) d at _, tt)))

  pread : (d n from : ℕ) → Fit (rows.pread w c d n from)
  pread d n from = past (rows.descriptor w c d) (λ o. past (rows.check_read w o n) (λ _. found_so (keys, tt)))

  lseek : (d : ℕ) (x : Whence) (i : ℤ) → Fit (rows.lseek w c d x i)
  lseek d x i =
      then (rows.descriptor w c d) (at_so d) (λ o at.
      unless o.dead _ (λ _.
      then (rows.offset_of (pos (rows.seek_from w o x) +ℤ i)) (offset_so (pos (rows.seek_from w o x) +ℤ i)) (λ n small. found_so (set w (alone-itself w) d at _, small))))

  fstat : (d : ℕ) → Fit (rows.fstat w c d)
  fstat d =
      past (rows.descriptor w c d) (λ o. unless o.dead _ (λ _. then (names.stat_of (node_of w o.place)) (stat_so (node_of w o.place)) (λ known small. found_so (keys, small))))

  readdir : (d : ℕ) → Fit (rows.readdir w c d)
  readdir d =
      past (rows.descriptor w c d) (λ o. unless o.dead _ (λ _. unless (not (is_dir (facts_of w) o.place)) _ (λ _. past (lifted w (visible w o.place)) (λ _. found_so (keys, tt)))))

  fchdir : (d : ℕ) → Fit (rows.fchdir w c d)
  fchdir d = past (rows.open_dir w c d) (λ p. found_so (keyed-cwd w c p keys caller, tt))

  write_at : (o : Open) (at : ℕ) (bytes : List ℕ) → Keeps (λ (x : World × ℕ). Alone w x.0) AnyNeed (rows.write_at w o at bytes)
  write_at o at bytes = unless (nat_lt rows.most_bytes (at + length bytes)) _ (λ _. found_so (alone-edit w o.place (λ t i. written t i at bytes)))

  write_some : (d : ℕ) → IsBounded d → (o : Open) (bytes : List ℕ) → IsBounded (length bytes) → Fit (rows.write_some w c d o bytes)
  write_some d at o [] small = found_so (keys, small)
  write_some d at o (b ∷ bs) small =
      then (rows.write_at w o (rows.write_to w o o.offset) (b ∷ bs)) (write_at o (rows.write_to w o o.offset) (b ∷ bs)) (λ new e. found_so (set new.0 e d at _, small))

  write : (d : ℕ) (bytes : List ℕ) → Fit (rows.write w c d bytes)
  write d bytes = then (rows.descriptor w c d) (at_so d) (λ o at. then (rows.check_write o bytes) (check_write_so o bytes) (λ _ small. write_some d at o bytes small))

  pwrite_some : (o : Open) (at : ℕ) (bytes : List ℕ) → IsBounded (length bytes) → Fit (rows.pwrite_some w o at bytes)
  pwrite_some o at [] small = found_so (keys, small)
  pwrite_some o at (b ∷ bs) small = then (rows.write_at w o (rows.write_to w o at) (b ∷ bs)) (write_at o (rows.write_to w o at) (b ∷ bs)) (λ new e. found_so (same new.0 e, small))

  pwrite : (d at : ℕ) (bytes : List ℕ) → Fit (rows.pwrite w c d at bytes)
  pwrite d at bytes = past (rows.descriptor w c d) (λ o. then (rows.check_write o bytes) (check_write_so o bytes) (λ _ small. pwrite_some o at bytes small))

  truncate : (a : Found) (n : ℕ) → Fit (rows.truncate w a n)
  truncate a n = past (place_at w a) (λ p. past (rows.check_length w p n) (λ _. found_so (resize p n, tt)))

  ftruncate : (d n : ℕ) → Fit (rows.ftruncate w c d n)
  ftruncate d n = past (rows.open_length w c d n) (λ p. found_so (resize p n, tt))

  -- ---- open(2)

  cut_to : (b : Bool) (p : Seen) → Alone w (rows.cut_to b w p)
  cut_to true p = alone-edit w p (λ t i. resized t i 0)
  cut_to false p = alone-itself w

  open_there : (fd : ℕ) → IsBounded fd → (f : Flags) (p : Seen) → Fit (rows.open_there w c fd f p)
  open_there fd small f p =
      unless (is_dir (facts_of w) p && rows.writes f.access) _ (λ _.
      unless (not (is_dir (facts_of w) p) && f.dir) _ (λ _.
      past (rows.copied_for (rows.writes f.access) w p) (λ _. found_so (set (rows.cut_to f.cut w p) (cut_to f.cut p) fd small _, small))))

  open_found : (fd : ℕ) → IsBounded fd → (f : Flags) (a : Found) → Fit (rows.open_found w c fd f a)
  open_found fd small f (found.At p) = open_there fd small f p
  open_found fd small f (found.In d n None) = then (make_at w d n (File [])) (make d n (File [])) (λ new e. found_so (set new e fd small _, small))
  open_found fd small f (found.In d n (Some p)) = refused
  open_found fd small f (found.Dot d) = refused
  open_found fd small f (found.Mount m) = refused
  open_found fd small f (found.Refused e) = refused
  open_found fd small f (found.Need x) = unless (is_full w (upper_store w x.mount)) _ (λ _. needed tt)

  open_file : (f : Flags) (a : Found) → Fit (rows.open_file w c f a)
  open_file f a =
      unless (not (rows.are_flags f)) _ (λ _.
      then (rows.free_descriptor w c) (free_so w c 32 0 (lit≤ tt)) (λ fd small.
      unless (not (nat_lt (len w.opens) w.limits.files)) _ (λ _. open_found fd small f a)))

  -- ---- all calls

  by_call : (x : Call) (a b : Found) → FoundWell (facts_of w) a → Fit (decided w c x a b)
  by_call (call.Mkdir p) a b well = mkdir a
  by_call (call.Rmdir p) a b well = rmdir a
  by_call (call.Open p f) a b well = open_file f a
  by_call (call.Close d) a b well = close d
  by_call (call.Read d n) a b well = read d n
  by_call (call.Pread d n o) a b well = pread d n o
  by_call (call.Write d bytes) a b well = write d bytes
  by_call (call.Pwrite d o bytes) a b well = pwrite d o bytes
  by_call (call.Lseek d x i) a b well = lseek d x i
  by_call (call.Truncate p n) a b well = truncate a n
  by_call (call.Ftruncate d n) a b well = ftruncate d n
  by_call (call.Stat p) a b well = stat a
  by_call (call.Lstat p) a b well = stat a
  by_call (call.Fstat d) a b well = fstat d
  by_call (call.Readdir d) a b well = readdir d
  by_call (call.Unlink p) a b well = unlink a
  by_call (call.Rename p q) a b well = rename a b
  by_call (call.Link p q) a b well = link a b
  by_call (call.Symlink t p) a b well = symlink t a
  by_call (call.Readlink p) a b well = readlink a
  by_call (call.Undelete p) a b well = undelete a
  by_call (call.Chdir p) a b well = chdir a
  by_call (call.Fchdir d) a b well = fchdir d
  by_call (call.Statfs p) a b well = statfs a well
  by_call (call.MountMem p) a b well = mount_mem a
  by_call (call.MountNull t p) a b well = mount_null a b
  by_call (call.MountUnion u p) a b well = mount_union a b
  by_call (call.Umount p) a b well = umount a
  by_call (call.UmountForce p) a b well = umount_by a (get w.leaving c)
  by_call (call.Revoke p) a b well = revoke a

  by_paths : (x : Call) → Fit (decided w c x (first_found w c x) (second_found w c x))
  by_paths x = by_call x (first_found w c x) (second_found w c x) (well_at w h.sound h.lasts c (first_way x))

  -- ---- what is answered

  answered : (o : Outcome) (new : World) (r : Reply) → Fit o → settle w o ≡ Finished new r → IsBoundedReply r
  answered (Go x) new r fit is = subst IsBoundedReply (ap reply_or is) fit.holds.1
  answered (Refuse e) new r fit is = subst IsBoundedReply (ap reply_or is) tt
  answered (Wants x) new r fit is = no_way (ap is_finished is)

  applied : (x : Call) (new : World) (r : Reply) → apply w c x ≡ Finished new r → IsBoundedReply r
  applied x new r is = answered (row w c x) new r (in-row So w c x (by_paths x)) is

  -- the reply of a right entry has such a number
  pub reply_few : (x : Call) (doomers : List ℕ) (r : Reply) → MatchBool (is_no_memory r) (MayLackMemory w doomers c) (apply w c x ≡ Finished (world_after w (apply w c x)) r) → IsBoundedReply r
  reply_few x doomers (reply.Fail e) right = tt
  reply_few x doomers r right = applied x (world_after w (apply w c x)) r right

  -- the world after an entry has such keys
  pub keyed-call : (x : Call) (r : Reply) → AreKeyed (after w (entry.Call c x r))
  keyed-call x r = left-so AreKeyed w c x r keys (weaker _ (λ _ s. s.0) (λ _ n. n) (by_paths x))
