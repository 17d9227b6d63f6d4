-- Calls that change no name, node or mount keep a world sound, and lasting.
use Rattle.std.proofs.Common.{◌≡◌, ℕ, ℤ, Bool, true, false, cond, not, subst, ◌+◌, List, [], ◌∷◌, length, refl, ap, ◌∙◌}
use Rattle.std.specs.Prelude.{Option, Some, None, IfSome, ◌+ℤ◌, pos, nat_lt}
use Rattle.std.specs.FinMap.{get, insert, remove}
use Rattle.vfs_tree.specs.Bytes.{resize_bytes, write_bytes}
use Rattle.vfs_tree.specs.Edits.{with_store}
use Rattle.vfs_tree.specs.FileEdits.{with_bytes, written}
use Rattle.vfs_tree.specs.Layers.{base, is_dir, is_file, target_of}
use Rattle.vfs_tree.specs.Place.{Seen}
use Rattle.vfs_tree.specs.Sound.{IsSoundPlace, IsSound}
use Rattle.vfs_tree.specs.Steps.{◌>>◌}
use Rattle.vfs_tree.specs.StoreEdits.{with_node_at}
use Rattle.vfs_tree.specs.Views.{facts_of}
use Rattle.vfs_tree.specs.Visible.{visible}
use Rattle.vfs_tree.specs.declared.open.Open.{Open}
use Rattle.vfs_tree.specs.declared.walk.Found.{Found}
use Rattle.vfs_tree.specs.declared.walk.Step.TheVariants.{Go, Refuse, Wants}
use Rattle.vfs_tree.specs.declared.world.World.{World}
use Rattle.call_model.specs.Apply.{settle, apply}
use Rattle.call_model.specs.Checks.{Outcome, lifted, place_at, node_of}
use Rattle.call_model.specs.DataRows as rows
use Rattle.call_model.specs.Legal.{after, is_no_memory, world_after}
use Rattle.call_model.specs.MountRows as mounts
use Rattle.call_model.specs.NameRows as names
use Rattle.call_model.specs.Refs.{first_open}
use Rattle.call_model.specs.Rows.{check_way, first_way, second_way, first_found, second_found, decided, row}
use Rattle.call_model.specs.declared.call.Call.{Call}
use Rattle.call_model.specs.declared.call.Call.TheVariants as call
use Rattle.call_model.specs.declared.call.Whence.{Whence}
use Rattle.call_model.specs.declared.entry.Entry.TheVariants as entry
use Rattle.call_model.specs.declared.entry.Inner.{Inner}
use Rattle.call_model.specs.declared.entry.Ref.{Ref}
use Rattle.call_model.specs.declared.reply.Reply.{Reply}
use Rattle.call_laws.specs.Lasting.{IsOver, IsLasting}
use Rattle.call_laws.specs.Quiet.{IsQuiet}
use Rattle.call_laws.proofs.BytesLaws.{sound-bytes}
use Rattle.call_laws.proofs.DataParts.{keeps-descriptor, keeps-check_read, keeps-check_write, keeps-check_length, keeps-open_length, keeps-offset_of}
use Rattle.call_laws.proofs.NeedLaws.{FreeFound, free-found, free-visible}
use Rattle.call_laws.proofs.NameParts.{alone-edit, keeps-stat_of, keeps-link_text}
use Rattle.call_laws.proofs.PlaceLaws.{well_at}
use Rattle.call_laws.proofs.Whole.{IsWhole}
use Rattle.call_laws.proofs.Parts.{Well, ready_at, Keeps, Any, MakesNode, found_so, needed, weaker, then, unless, keeps-lifted, keeps-place_at, keeps-found_at, keeps-check_way}
use Rattle.call_laws.proofs.SoundLaws.{sound-open, sound-closed, sound-cwd}
use Rattle.call_laws.proofs.WholeLaws.{whole-bytes, whole-open, whole-closed, whole-cwd}
use Rattle.call_laws.proofs.SoundParts.{is_so}

-- whatever is needed
abbrev pub AnyNeed : Inner → Type 0
AnyNeed x = Unit {0}

-- the world that is left has a property
abbrev pub LeavesSo : (World → Type 0) → World × Reply → Type 0
LeavesSo P x = P x.0

-- the world that is left is sound
abbrev pub Leaves : World × Reply → Type 0
Leaves x = IsSound x.0

-- a property of worlds that descriptors and contents leave
pub record IsSteady (P : World → Type 0) : Type 0 where
  -- the offset of an open file moves
  pub moved : (w : World) (k : ℕ × ℕ) (o : Open) (at : ℕ) → P w → get w.opens k ≡ Some o → P (record w { opens = insert w.opens k (record o { offset = at }) })
  -- a descriptor is closed
  pub closed : (w : World) (k : ℕ × ℕ) → P w → P (record w { opens = remove w.opens k })
  -- an open directory becomes a current one
  pub entered : (w : World) (c : ℕ) (k : ℕ × ℕ) (o : Open) → P w → get w.opens k ≡ Some o → o.dead ≡ false → is_dir (facts_of w) o.place ≡ true → P (record w { cwds = insert w.cwds c (record { place = o.place; dead = false }) })
  -- the contents of a file change
  pub written : (w : World) (s i : ℕ) (g : List ℕ → List ℕ) → P w → P (with_store (λ t. with_node_at (with_bytes g) t i) w s (get w.stores s))

-- the place of an open file that isn't dead
open_place : (w : World) (k : ℕ × ℕ) (o : Open) → IsSound w → get w.opens k ≡ Some o → o.dead ≡ false → IsSoundPlace (facts_of w) o.place
open_place w k o h is = subst (λ x. IfSome x (λ o. o.dead ≡ false → IsSoundPlace (facts_of w) o.place)) is (h.opens k)

ways : (call : Call) → Keeps Any AnyNeed (check_way (first_way call) >> check_way (second_way call))
ways call =
    then (check_way (first_way call)) (keeps-check_way AnyNeed (first_way call)) (λ _ _.
    weaker (check_way (second_way call)) (λ _ _. tt) (λ _ _. tt) (keeps-check_way AnyNeed (second_way call)))

module _ (P : World → Type 0) (steady : IsSteady P) where
  free : {N : Inner → Type 0} (m : Outcome) → Keeps (LeavesSo P) N m → Keeps (LeavesSo P) AnyNeed m
  free m h = weaker m (λ _ s. s) (λ _ _. tt) h

  sound-close : (w : World) (c d : ℕ) → P w → Keeps (LeavesSo P) (MakesNode w) (rows.close w c d)
  sound-close w c d h = then (rows.descriptor w c d) (keeps-descriptor w c d) (λ o _. found_so (steady.closed w (c, d) h))

  sound-read : (w : World) (c d n : ℕ) → P w → Keeps (LeavesSo P) (MakesNode w) (rows.read w c d n)
  sound-read w c d n h =
      then (rows.descriptor w c d) (keeps-descriptor w c d) (λ o is.
      then (rows.check_read w o n) (keeps-check_read w o n) (λ _ _.
      found_so (steady.moved w (c, d) o _ h is)))

  sound-pread : (w : World) (c d n at : ℕ) → P w → Keeps (LeavesSo P) (MakesNode w) (rows.pread w c d n at)
  sound-pread w c d n at h =
      then (rows.descriptor w c d) (keeps-descriptor w c d) (λ o _.
      then (rows.check_read w o n) (keeps-check_read w o n) (λ _ _. found_so h))

  sound-lseek : (w : World) (c d : ℕ) (x : Whence) (i : ℤ) → P w → Keeps (LeavesSo P) (MakesNode w) (rows.lseek w c d x i)
  sound-lseek w c d x i h =
      then (rows.descriptor w c d) (keeps-descriptor w c d) (λ o is.
      unless o.dead _ (λ _.
      then (rows.offset_of (pos (rows.seek_from w o x) +ℤ i)) (keeps-offset_of w (pos (rows.seek_from w o x) +ℤ i)) (λ at _. found_so (steady.moved w (c, d) o at h is))))

  sound-fstat : (w : World) (c d : ℕ) → P w → Keeps (LeavesSo P) (MakesNode w) (rows.fstat w c d)
  sound-fstat w c d h =
      then (rows.descriptor w c d) (keeps-descriptor w c d) (λ o _.
      unless o.dead _ (λ _.
      then (names.stat_of (node_of w o.place)) (keeps-stat_of (MakesNode w) (node_of w o.place)) (λ known _. found_so h)))

  sound-readdir : (w : World) (c d : ℕ) → P w → Keeps (LeavesSo P) (MakesNode w) (rows.readdir w c d)
  sound-readdir w c d h =
      then (rows.descriptor w c d) (keeps-descriptor w c d) (λ o _.
      unless o.dead _ (λ _.
      unless (not (is_dir (facts_of w) o.place)) _ (λ _.
      then (lifted w (visible w o.place)) (keeps-lifted w (visible w o.place) (free-visible w o.place)) (λ _ _. found_so h))))

  -- an open directory that isn't dead
  record OpenDir (w : World) (c d : ℕ) (p : Seen) : Type 0 where
    pub file : Open
    pub at : get w.opens (c, d) ≡ Some file
    pub alive : file.dead ≡ false
    pub dir : is_dir (facts_of w) file.place ≡ true
    pub place : file.place ≡ p

  sound-open_dir : (w : World) (c d : ℕ) → Keeps (OpenDir w c d) (MakesNode w) (rows.open_dir w c d)
  sound-open_dir w c d =
      then (rows.descriptor w c d) (keeps-descriptor w c d) (λ o is.
      unless o.dead _ (λ alive. unless (not (is_dir (facts_of w) o.place)) _ (λ dir. found_so (record { file = o; at = is; alive = alive; dir = is_so (is_dir (facts_of w) o.place) dir; place = refl }))))

  sound-fchdir : (w : World) (c d : ℕ) → P w → Keeps (LeavesSo P) (MakesNode w) (rows.fchdir w c d)
  sound-fchdir w c d h =
      then (rows.open_dir w c d) (sound-open_dir w c d) (λ p x.
      found_so (subst (λ q. P (record w { cwds = insert w.cwds c (record { place = q; dead = false }) })) x.place (steady.entered w c (c, d) x.file h x.at x.alive x.dir)))

  sound-stat : (w : World) (a : Found) → FreeFound (facts_of w) a → P w → Keeps (LeavesSo P) (MakesNode w) (names.stat w a)
  sound-stat w a fa h =
      then (place_at w a) (keeps-place_at w a fa) (λ p _.
      then (names.stat_of (node_of w p)) (keeps-stat_of (MakesNode w) (node_of w p)) (λ known _. found_so h))

  sound-readlink : (w : World) (a : Found) → FreeFound (facts_of w) a → P w → Keeps (LeavesSo P) (MakesNode w) (names.readlink w a)
  sound-readlink w a fa h =
      then (place_at w a) (keeps-place_at w a fa) (λ p _.
      then (names.link_text (target_of (facts_of w) p)) (keeps-link_text w (target_of (facts_of w) p)) (λ text _. found_so h))

  sound-statfs : (w : World) (a : Found) → FreeFound (facts_of w) a → P w → Keeps (LeavesSo P) (MakesNode w) (names.statfs w a)
  sound-statfs w a fa h = then (place_at w a) (keeps-place_at w a fa) (λ p _. found_so h)

  -- ---- contents

  sound-resize : (w : World) (p : Seen) (n : ℕ) → P w → P (rows.resize_at w p n)
  sound-resize w p n h = let b = base (facts_of w) p in steady.written w b.store b.ino (λ old. resize_bytes old n) h

  sound-truncate : (w : World) (a : Found) (n : ℕ) → FreeFound (facts_of w) a → Well w a → P w → Keeps (LeavesSo P) (MakesNode w) (rows.truncate w a n)
  sound-truncate w a n fa wa h =
      then (place_at w a) (keeps-found_at w a fa) (λ p is.
      then (rows.check_length w p n) (keeps-check_length w p n (ready_at w a p wa is)) (λ _ _. found_so (sound-resize w p n h)))

  sound-ftruncate : (w : World) (c d n : ℕ) → P w → Keeps (LeavesSo P) (MakesNode w) (rows.ftruncate w c d n)
  sound-ftruncate w c d n h = then (rows.open_length w c d n) (keeps-open_length w c d n) (λ p _. found_so (sound-resize w p n h))

  -- a sound world with the same descriptors
  abbrev Written : World → World × ℕ → Type 0
  Written w x = P x.0 × (x.0.opens ≡ w.opens)

  sound-write_at : (w : World) (o : Open) (at : ℕ) (bytes : List ℕ) → P w → Keeps (Written w) (MakesNode w) (rows.write_at w o at bytes)
  sound-write_at w o at bytes h =
      let b = base (facts_of w) o.place in
      unless (nat_lt rows.most_bytes (at + length bytes)) _ (λ _.
      found_so (steady.written w b.store b.ino (λ old. write_bytes old at bytes) h, (alone-edit w o.place (λ t i. written t i at bytes)).0))

  sound-write_some : (w : World) (c d : ℕ) (o : Open) → P w → get w.opens (c, d) ≡ Some o → (bytes : List ℕ) → Keeps (LeavesSo P) (MakesNode w) (rows.write_some w c d o bytes)
  sound-write_some w c d o h is [] = found_so h
  sound-write_some w c d o h is (b ∷ bs) =
      then (rows.write_at w o (rows.write_to w o o.offset) (b ∷ bs)) (sound-write_at w o (rows.write_to w o o.offset) (b ∷ bs) h) (λ new k.
      found_so (steady.moved new.0 (c, d) o new.1 k.0 (ap (λ m. get m (c, d)) k.1 ∙ is)))

  sound-write : (w : World) (c d : ℕ) (bytes : List ℕ) → P w → Keeps (LeavesSo P) (MakesNode w) (rows.write w c d bytes)
  sound-write w c d bytes h =
      then (rows.descriptor w c d) (keeps-descriptor w c d) (λ o is.
      then (rows.check_write o bytes) (keeps-check_write w o bytes) (λ _ _. sound-write_some w c d o h is bytes))

  sound-pwrite_some : (w : World) (o : Open) (at : ℕ) → P w → (bytes : List ℕ) → Keeps (LeavesSo P) (MakesNode w) (rows.pwrite_some w o at bytes)
  sound-pwrite_some w o at h [] = found_so h
  sound-pwrite_some w o at h (b ∷ bs) =
      then (rows.write_at w o (rows.write_to w o at) (b ∷ bs)) (sound-write_at w o (rows.write_to w o at) (b ∷ bs) h) (λ new k. found_so k.0)

  sound-pwrite : (w : World) (c d at : ℕ) (bytes : List ℕ) → P w → Keeps (LeavesSo P) (MakesNode w) (rows.pwrite w c d at bytes)
  sound-pwrite w c d at bytes h =
      then (rows.descriptor w c d) (keeps-descriptor w c d) (λ o _.
      then (rows.check_write o bytes) (keeps-check_write w o bytes) (λ _ _. sound-pwrite_some w o at h bytes))

  sound-revoke_next : (w : World) (o : Option Ref) → P w → Keeps (LeavesSo P) AnyNeed (mounts.revoke_next w o)
  sound-revoke_next w (Some at) h = needed tt
  sound-revoke_next w None h = found_so h

  sound-revoke : (w : World) (a : Found) → FreeFound (facts_of w) a → P w → Keeps (LeavesSo P) AnyNeed (mounts.revoke w a)
  sound-revoke w a fa h =
      then (place_at w a) (weaker (place_at w a) (λ _ s. s) (λ _ _. tt) (keeps-place_at w a fa)) (λ p _.
      unless (not (is_file (facts_of w) p)) _ (λ _. sound-revoke_next w (first_open w p) h))

  sound-decided : (w : World) (c : ℕ) (call : Call) → IsQuiet call → P w → (a b : Found) → FreeFound (facts_of w) a → Well w a → Keeps (LeavesSo P) AnyNeed (decided w c call a b)
  sound-decided w c (call.Close d) quiet h a b fa wa = free _ (sound-close w c d h)
  sound-decided w c (call.Read d n) quiet h a b fa wa = free _ (sound-read w c d n h)
  sound-decided w c (call.Pread d n o) quiet h a b fa wa = free _ (sound-pread w c d n o h)
  sound-decided w c (call.Lseek d x i) quiet h a b fa wa = free _ (sound-lseek w c d x i h)
  sound-decided w c (call.Write d bytes) quiet h a b fa wa = free _ (sound-write w c d bytes h)
  sound-decided w c (call.Pwrite d o bytes) quiet h a b fa wa = free _ (sound-pwrite w c d o bytes h)
  sound-decided w c (call.Truncate p n) quiet h a b fa wa = free _ (sound-truncate w a n fa wa h)
  sound-decided w c (call.Ftruncate d n) quiet h a b fa wa = free _ (sound-ftruncate w c d n h)
  sound-decided w c (call.Stat p) quiet h a b fa wa = free _ (sound-stat w a fa h)
  sound-decided w c (call.Lstat p) quiet h a b fa wa = free _ (sound-stat w a fa h)
  sound-decided w c (call.Fstat d) quiet h a b fa wa = free _ (sound-fstat w c d h)
  sound-decided w c (call.Readdir d) quiet h a b fa wa = free _ (sound-readdir w c d h)
  sound-decided w c (call.Readlink p) quiet h a b fa wa = free _ (sound-readlink w a fa h)
  sound-decided w c (call.Fchdir d) quiet h a b fa wa = free _ (sound-fchdir w c d h)
  sound-decided w c (call.Statfs p) quiet h a b fa wa = free _ (sound-statfs w a fa h)
  sound-decided w c (call.Revoke p) quiet h a b fa wa = sound-revoke w a fa h
  sound-decided w c _ quiet h a b fa wa = absurd quiet

  settled : (w : World) (o : Outcome) → P w → Keeps (LeavesSo P) AnyNeed o → P (world_after w (settle w o))
  settled w (Go x) h k = k.holds
  settled w (Refuse e) h k = h
  settled w (Wants x) h k = h

  either : (b : Bool) (w new : World) → P w → P new → P (cond b w new)
  either true w new p q = p
  either false w new p q = q

  -- a call whose row leaves a sound world
  pub so-decide : (w : World) (c : ℕ) (call : Call) (r : Reply) → P w → Keeps (LeavesSo P) AnyNeed (decided w c call (first_found w c call) (second_found w c call)) → P (after w (entry.Call c call r))
  so-decide w c call r h k =
      either (is_no_memory r) w (world_after w (apply w c call)) h
      (settled w (row w c call) h (then (check_way (first_way call) >> check_way (second_way call)) (ways call) (λ _ _. k)))

  pub so-by : (w : World) (c : ℕ) (call : Call) (r : Reply) → P w → Keeps (LeavesSo P) (MakesNode w) (decided w c call (first_found w c call) (second_found w c call)) → P (after w (entry.Call c call r))
  so-by w c call r h k = so-decide w c call r h (free (decided w c call (first_found w c call) (second_found w c call)) k)

  -- the entry of such a call leaves such a world
  pub so-quiet : (w : World) (c : ℕ) (call : Call) (r : Reply) → IsQuiet call → P w → P (after w (entry.Call c call r))
  so-quiet w c call r quiet h =
      so-decide w c call r h (sound-decided w c call quiet h (first_found w c call) (second_found w c call) (free-found w c (first_way call)) (λ x. well_at w x.sound x.lasts c (first_way call)))

-- ---- sound worlds

steady-sound : IsSteady IsSound
steady-sound = record {
  moved = λ w k o at h is. sound-open w k (record o { offset = at }) h (open_place w k o h is);
  closed = sound-closed;
  entered = λ w c k o h is alive dir. sound-cwd w c (record { place = o.place; dead = false }) h (open_place w k o h is alive);
  written = sound-bytes;
}

pub sound-by : (w : World) (c : ℕ) (call : Call) (r : Reply) → IsSound w → Keeps Leaves (MakesNode w) (decided w c call (first_found w c call) (second_found w c call)) → IsSound (after w (entry.Call c call r))
sound-by = so-by IsSound steady-sound

-- the entry of a call that changes no name, node or mount leaves a sound world
pub sound-quiet : (w : World) (c : ℕ) (call : Call) (r : Reply) → IsQuiet call → IsSound w → IsSound (after w (entry.Call c call r))
sound-quiet = so-quiet IsSound steady-sound

-- ---- sound worlds that last

open_over : (w : World) (k : ℕ × ℕ) (o : Open) → IsLasting w → get w.opens k ≡ Some o → o.dead ≡ false → IsOver (facts_of w) o.place
open_over w k o h is = subst (λ x. IfSome x (λ o. o.dead ≡ false → IsOver (facts_of w) o.place)) is (h.opens k)

pub steady-whole : IsSteady IsWhole
steady-whole = record {
  moved = λ w k o at h is. whole-open w k (record o { offset = at }) h (open_place w k o h.sound is) (open_over w k o h.lasts is);
  closed = whole-closed;
  entered = λ w c k o h is alive dir. whole-cwd w c (record { place = o.place; dead = false }) h (open_place w k o h.sound is alive) (open_over w k o h.lasts is alive) dir;
  written = whole-bytes;
}

pub whole-by : (w : World) (c : ℕ) (call : Call) (r : Reply) → IsWhole w → Keeps (LeavesSo IsWhole) (MakesNode w) (decided w c call (first_found w c call) (second_found w c call)) → IsWhole (after w (entry.Call c call r))
whole-by = so-by IsWhole steady-whole

pub whole-quiet : (w : World) (c : ℕ) (call : Call) (r : Reply) → IsQuiet call → IsWhole w → IsWhole (after w (entry.Call c call r))
whole-quiet = so-quiet IsWhole steady-whole
