-- What a call needs, by what its paths find and its listings want.
use Rattle.std.proofs.Common.{◌≡◌, ℕ, zero, suc, ◌+◌, ℤ, pos, negsuc, Bool, true, false, not, ◌&&◌, ◌==◌, List, [], ◌∷◌, length, refl, sym}
use Rattle.std.specs.Prelude.{Option, Some, None, IfSome, is_some, nat_lt, ◌+ℤ◌}
use Rattle.std.specs.FinMap.{get, len}
use Rattle.std.specs.List.{list_any}
use Rattle.vfs_tree.specs.Carriers.{is_busy, is_below}
use Rattle.vfs_tree.specs.Child.{low}
use Rattle.vfs_tree.specs.Layers.{base, is_dir, is_file, depth, same_place, stores, target_of}
use Rattle.vfs_tree.specs.Mounts.{has_references, is_covered}
use Rattle.vfs_tree.specs.Paths.{has_zero, is_empty}
use Rattle.vfs_tree.specs.Place.{Seen, Mem, Null, UnionUp, UnionLow, bare, mount_of}
use Rattle.vfs_tree.specs.Steps.{◌>>◌}
use Rattle.vfs_tree.specs.Views.{facts_of}
use Rattle.vfs_tree.specs.Visible.{visible, has_visible}
use Rattle.vfs_tree.specs.declared.errno.Errno.{Errno}
use Rattle.vfs_tree.specs.declared.errno.Errno.TheVariants as errno
use Rattle.vfs_tree.specs.declared.node.Node.{Node}
use Rattle.vfs_tree.specs.declared.node.Node.TheVariants.{File}
use Rattle.vfs_tree.specs.declared.open.Open.{Open}
use Rattle.vfs_tree.specs.declared.walk.Child.{Child}
use Rattle.vfs_tree.specs.declared.walk.Child.TheVariants as child
use Rattle.vfs_tree.specs.declared.walk.Found.{Found}
use Rattle.vfs_tree.specs.declared.walk.Found.TheVariants as found
use Rattle.vfs_tree.specs.declared.walk.Need.{Need}
use Rattle.vfs_tree.specs.declared.walk.Step.{Step}
use Rattle.vfs_tree.specs.declared.walk.Step.TheVariants.{Go, Refuse, Wants}
use Rattle.vfs_tree.specs.declared.world.World.{World}
use Rattle.call_model.specs.Checks.{Doing, is_full, upper_store, need_shadow, lifted, copied_place, copied, place_at, mount_at, target_at, there, dir_at, free_target, node_of, has_white, make_at}
use Rattle.call_model.specs.DataRows as data_rows
use Rattle.call_model.specs.MountRows as mount_rows
use Rattle.call_model.specs.NameRows as name_rows
use Rattle.call_model.specs.Refs.{first_in, first_open}
use Rattle.call_model.specs.Rows.{check_way, first_way, second_way, first_found, second_found, decided, row}
use Rattle.call_model.specs.declared.call.Call.{Call}
use Rattle.call_model.specs.declared.call.Call.TheVariants as call
use Rattle.call_model.specs.declared.call.Flags.{Flags}
use Rattle.call_model.specs.declared.entry.Inner.{Inner}
use Rattle.call_model.specs.declared.entry.Inner.TheVariants.{Shadow, CopyUp, Detach, Doom}
use Rattle.call_model.specs.declared.entry.Ref.{Ref}
use Rattle.call_model.specs.declared.target.Target.{Target}
use Rattle.call_laws.proofs.ChildInduction.{Anything, Comes, ChildComes}
use Rattle.call_laws.proofs.NameParts.{keeps-stat_of}
use Rattle.call_laws.proofs.NamedLaws.{no_way}
use Rattle.call_laws.proofs.Parts.{Keeps, Any, found_so, refused, needed, weaker, then, unless, check, keeps-there, keeps-check_way}
use Rattle.call_laws.proofs.WalkInduction.{FoundSo}

not_not : (b : Bool) → not b ≡ false → b ≡ true
not_not true e = refl
not_not false e = no_way (sym e)

-- what a walk of a call finds: places with the one property, at names too, and needs with the other
abbrev pub FoundAsks : (Need → Type 0) → (Seen → Type 0) → Found → Type 0
FoundAsks W G a = FoundSo W G (λ d n c. IfSome c G) Anything a

-- the needs of the lower part of a union's directory
abbrev pub LowAsks : World → (Need → Type 0) → Seen → Type 0
LowAsks w W (UnionUp m i) = ChildComes W Anything (low (facts_of w) m i)
LowAsks w W (Mem m i) = Unit {0}
LowAsks w W (Null m p) = Unit {0}
LowAsks w W (UnionLow m u n p) = Unit {0}

-- what a listing of an open directory needs
abbrev pub ReadsSo : World → (Inner → Type 0) → ℕ → Call → Type 0
ReadsSo w N c (call.Readdir d) = Keeps Any N (data_rows.readdir w c d)
ReadsSo w N c _ = Unit {0}

-- copies of what is of a lower layer alone, where all copies are as they may be
pub any_copy : (w : World) (N : Inner → Type 0) → ((m u : ℕ) (n : List ℕ) → N (CopyUp m u n)) → (p : Seen) → Keeps Any N (copied w p)
any_copy w N copies p = by (bare p)
  where
    by : (p : Seen) → Keeps Any N (copied_place w p)
    by (Mem m i) = found_so tt
    by (Null m p) = found_so tt
    by (UnionUp m i) = found_so tt
    by (UnionLow m u n p) = unless (is_full w (upper_store w m)) _ (λ _. needed (copies m u n))

-- N holds of what calls need, where it holds of the shadow directories that their walks and listings want (W), and of the
-- copies of places with the property G; that is to hold of the places that walks find, and there listings and lower parts
-- are looked for
module _ (w : World) (N : Inner → Type 0) (W : Need → Type 0) (G : Seen → Type 0) (shadows : (x : Need) → W x → is_full w (upper_store w x.mount) ≡ false → N (Shadow x.mount x.dir x.name))
    (copies : (p : Seen) → G p → Keeps Any N (copied w p)) (detaches : (m : ℕ) → N (Detach m)) (dooms : (at : Ref) → N (Doom at)) where
  -- whatever a part finds, its needs are as they may be
  abbrev Asks : {A : Type 0} → Doing A → Type 0
  Asks m = Keeps Any N m

  want_shadow : {A : Type 0} {P : A → Type 0} (x : Need) → W x → Keeps P N (need_shadow w x)
  want_shadow x h = unless (is_full w (upper_store w x.mount)) _ (λ e. needed (shadows x h e))

  want_lifted : {A : Type 0} (x : Step A Need) → Comes W Anything x → Asks (lifted w x)
  want_lifted (Go a) h = found_so tt
  want_lifted (Refuse e) h = refused
  want_lifted (Wants x) h = want_shadow x h

  -- ---- what a walk found

  want_place_at : (a : Found) → FoundAsks W G a → Keeps G N (place_at w a)
  want_place_at (found.At p) h = found_so h
  want_place_at (found.Need x) h = want_shadow x h
  want_place_at _ h = refused

  want_mount_at : (a : Found) → FoundAsks W G a → Asks (mount_at w a)
  want_mount_at (found.Mount m) h = found_so tt
  want_mount_at (found.Need x) h = want_shadow x h
  want_mount_at _ h = refused

  want_target_at : (dot : Errno) (a : Found) → FoundAsks W G a → Keeps (λ t. IfSome t.child G) N (target_at w dot a)
  want_target_at dot (found.In d n c) h = found_so h
  want_target_at dot (found.Need x) h = want_shadow x h
  want_target_at dot _ h = refused

  want_there : (o : Option Seen) → IfSome o G → Keeps G N (there o)
  want_there (Some p) h = found_so h
  want_there None h = refused

  want_dir_at : (a : Found) → FoundAsks W G a → Asks (dir_at w a)
  want_dir_at a h = then (place_at w a) (want_place_at a h) (λ p _. unless (not (is_dir (facts_of w) p)) _ (λ _. found_so tt))

  want_free_target : (a : Found) → FoundAsks W G a → Asks (free_target w a)
  want_free_target a h = then (target_at w errno.EEXIST a) (want_target_at errno.EEXIST a h) (λ t _. unless (is_some t.child) _ (λ _. found_so tt))

  want_make_at : (d : Seen) (n : List ℕ) (node : Node) → Asks (make_at w d n node)
  want_make_at d n node = unless (is_full w (base (facts_of w) d).store) _ (λ _. found_so tt)

  -- the listing of an open directory
  want_open : (o : Option Open) → Keeps (λ x. o ≡ Some x) N (data_rows.opened o)
  want_open (Some o) = found_so refl
  want_open None = refused

  pub want_readdir : (c d : ℕ) → ((o : Open) → get w.opens (c, d) ≡ Some o → o.dead ≡ false → is_dir (facts_of w) o.place ≡ true → Comes W Anything (visible w o.place)) → Asks (data_rows.readdir w c d)
  want_readdir c d known =
      then (data_rows.descriptor w c d) (want_open (get w.opens (c, d))) (λ o is.
      unless o.dead _ (λ alive.
      unless (not (is_dir (facts_of w) o.place)) _ (λ dir.
      then (lifted w (visible w o.place)) (want_lifted (visible w o.place) (known o is alive (not_not (is_dir (facts_of w) o.place) dir))) (λ _ _. found_so tt))))

  module _ (lists : (d : Seen) → G d → Comes W Anything (has_visible w d)) (lows : (d : Seen) → G d → LowAsks w W (bare d)) where
    -- ---- calls on names

    want_mkdir : (a : Found) → FoundAsks W G a → Asks (name_rows.mkdir w a)
    want_mkdir a h = then (free_target w a) (want_free_target a h) (λ t _. then (name_rows.made_dir w t) (want_make_at t.dir t.name _) (λ _ _. found_so tt))

    want_check_empty : (d : Seen) → G d → Asks (name_rows.check_empty w d)
    want_check_empty d g = then (lifted w (has_visible w d)) (want_lifted (has_visible w d) (lists d g)) (λ shows _. check shows _)

    want_check_removed : (o : Option Seen) → IfSome o G → Asks (name_rows.check_removed w o)
    want_check_removed o h = then (there o) (want_there o h) (λ d g. unless (not (is_dir (facts_of w) d)) _ (λ _. unless (is_busy w d) _ (λ _. want_check_empty d g)))

    want_rmdir : (a : Found) → FoundAsks W G a → Asks (name_rows.rmdir w a)
    want_rmdir a h = then (target_at w errno.EINVAL a) (want_target_at errno.EINVAL a h) (λ t g. then (name_rows.check_removed w t.child) (want_check_removed t.child g) (λ _ _. found_so tt))

    want_unlink : (a : Found) → FoundAsks W G a → Asks (name_rows.unlink w a)
    want_unlink a h =
        then (target_at w errno.EPERM a) (want_target_at errno.EPERM a h) (λ t _. then (there t.child) (keeps-there t.child) (λ p _. unless (is_dir (facts_of w) p) _ (λ _. found_so tt)))

    want_link : (a b : Found) → FoundAsks W G a → FoundAsks W G b → Asks (name_rows.link w a b)
    want_link a b ha hb =
        then (place_at w a) (want_place_at a ha) (λ p g.
        unless (is_dir (facts_of w) p) _ (λ _.
        then (free_target w b) (want_free_target b hb) (λ t _.
        unless (not (mount_of p == mount_of t.dir)) _ (λ _. then (copied w p) (copies p g) (λ _ _. found_so tt)))))

    want_check_text : (text : List ℕ) → Asks (name_rows.check_text text)
    want_check_text text = unless (is_empty text) _ (λ _. unless (has_zero text) _ (λ _. check (nat_lt 1023 (length text)) _))

    want_symlink : (text : List ℕ) (a : Found) → FoundAsks W G a → Asks (name_rows.symlink w text a)
    want_symlink text a h =
        then (name_rows.check_text text) (want_check_text text) (λ _ _.
        then (free_target w a) (want_free_target a h) (λ t _. then (name_rows.made_link w text t) (want_make_at t.dir t.name _) (λ _ _. found_so tt)))

    want_link_text : (o : Option (List ℕ)) → Asks (name_rows.link_text o)
    want_link_text (Some text) = found_so tt
    want_link_text None = refused

    want_readlink : (a : Found) → FoundAsks W G a → Asks (name_rows.readlink w a)
    want_readlink a h =
        then (place_at w a) (want_place_at a h) (λ p _. then (name_rows.link_text (target_of (facts_of w) p)) (want_link_text (target_of (facts_of w) p)) (λ _ _. found_so tt))

    want_undelete : (a : Found) → FoundAsks W G a → Asks (name_rows.undelete w a)
    want_undelete a h = then (target_at w errno.EEXIST a) (want_target_at errno.EEXIST a h) (λ t _. unless (not (has_white w t.dir t.name)) _ (λ _. found_so tt))

    -- ---- rename(2)

    want_is_lower : (c : Child) → ChildComes W Anything c → Asks (name_rows.is_lower w c)
    want_is_lower (child.At d) h = found_so tt
    want_is_lower child.Absent h = found_so tt
    want_is_lower (child.Need x) h = want_shadow x h

    want_has_lower_place : (p : Seen) → LowAsks w W p → Asks (name_rows.has_lower_place w p)
    want_has_lower_place (UnionUp m i) h = want_is_lower (low (facts_of w) m i) h
    want_has_lower_place (Mem m i) h = found_so tt
    want_has_lower_place (Null m p) h = found_so tt
    want_has_lower_place (UnionLow m u n p) h = found_so tt

    want_check_lower : (d : Seen) → G d → Asks (name_rows.check_lower w d)
    want_check_lower d g = then (name_rows.has_lower_place w (bare d)) (want_has_lower_place (bare d) (lows d g)) (λ lower _. check lower _)

    want_check_source : (b : Bool) (source to : Seen) → G source → Asks (name_rows.check_source b w source to)
    want_check_source true source to g = unless (is_busy w source) _ (λ _. unless (is_below (facts_of w) to source) _ (λ _. want_check_lower source g))
    want_check_source false source to g = found_so tt

    want_check_replaced_dir : (d : Seen) → G d → Asks (name_rows.check_replaced_dir w d)
    want_check_replaced_dir d g = unless (is_busy w d) _ (λ _. then (name_rows.check_empty w d) (want_check_empty d g) (λ _ _. want_check_lower d g))

    want_check_kinds : (a b : Bool) (p : Seen) → G p → Asks (name_rows.check_kinds a b w p)
    want_check_kinds true false p g = refused
    want_check_kinds false true p g = refused
    want_check_kinds true true p g = want_check_replaced_dir p g
    want_check_kinds false false p g = found_so tt

    want_check_replaced : (moves_dir : Bool) (o : Option Seen) → IfSome o G → Asks (name_rows.check_replaced w moves_dir o)
    want_check_replaced moves_dir (Some p) g = want_check_kinds moves_dir (is_dir (facts_of w) p) p g
    want_check_replaced moves_dir None g = found_so tt

    want_rename_case : (b : Bool) (source d : Seen) (n : List ℕ) (new : Target) → G source → IfSome new.child G → Asks (name_rows.rename_case b w source d n new)
    want_rename_case true source d n new g h = found_so tt
    want_rename_case false source d n new g h =
        then (name_rows.check_source (is_dir (facts_of w) source) w source new.dir) (want_check_source (is_dir (facts_of w) source) source new.dir g) (λ _ _.
        then (name_rows.check_replaced w (is_dir (facts_of w) source) new.child) (want_check_replaced (is_dir (facts_of w) source) new.child h) (λ _ _.
        then (copied w source) (copies source g) (λ _ _. found_so tt)))

    want_rename : (a b : Found) → FoundAsks W G a → FoundAsks W G b → Asks (name_rows.rename w a b)
    want_rename a b ha hb =
        then (target_at w errno.EINVAL a) (want_target_at errno.EINVAL a ha) (λ old x.
        then (there old.child) (want_there old.child x) (λ source g.
        then (target_at w errno.EINVAL b) (want_target_at errno.EINVAL b hb) (λ new h.
        unless (not (mount_of old.dir == mount_of new.dir)) _ (λ _. want_rename_case (name_rows.is_there source new.child) source old.dir old.name new g h))))

    -- ---- what is known of a file

    want_stat_of : (o : Option Node) → Asks (name_rows.stat_of o)
    want_stat_of o = weaker (name_rows.stat_of o) (λ r h. tt) (λ x h. h) (keeps-stat_of N o)

    want_stat : (a : Found) → FoundAsks W G a → Asks (name_rows.stat w a)
    want_stat a h = then (place_at w a) (want_place_at a h) (λ p _. then (name_rows.stat_of (node_of w p)) (want_stat_of (node_of w p)) (λ _ _. found_so tt))

    want_chdir : (c : ℕ) (a : Found) → FoundAsks W G a → Asks (name_rows.chdir w c a)
    want_chdir c a h = then (dir_at w a) (want_dir_at a h) (λ d _. found_so tt)

    want_statfs : (a : Found) → FoundAsks W G a → Asks (name_rows.statfs w a)
    want_statfs a h = then (place_at w a) (want_place_at a h) (λ p _. found_so tt)

    -- ---- calls on descriptors and contents

    want_opened : (x : Option Open) → Asks (data_rows.opened x)
    want_opened (Some o) = found_so tt
    want_opened None = refused

    want_descriptor : (c d : ℕ) → Asks (data_rows.descriptor w c d)
    want_descriptor c d = want_opened (get w.opens (c, d))

    want_free_case : (next : Doing ℕ) (d : ℕ) (b : Bool) → Asks next → Asks (data_rows.free_case next d b)
    want_free_case next d true h = h
    want_free_case next d false h = found_so tt

    want_free_from : (k c d : ℕ) → Asks (data_rows.free_from k w c d)
    want_free_from zero c d = refused
    want_free_from (suc k) c d = want_free_case (data_rows.free_from k w c (d + 1)) d (is_some (get w.opens (c, d))) (want_free_from k c (d + 1))

    want_copied_for : (b : Bool) (p : Seen) → G p → Asks (data_rows.copied_for b w p)
    want_copied_for true p g = copies p g
    want_copied_for false p g = found_so tt

    want_open_there : (c fd : ℕ) (f : Flags) (p : Seen) → G p → Asks (data_rows.open_there w c fd f p)
    want_open_there c fd f p g =
        unless (is_dir (facts_of w) p && data_rows.writes f.access) _ (λ _.
        unless (not (is_dir (facts_of w) p) && f.dir) _ (λ _.
        then (data_rows.copied_for (data_rows.writes f.access) w p) (want_copied_for (data_rows.writes f.access) p g) (λ _ _. found_so tt)))

    want_open_found : (c fd : ℕ) (f : Flags) (a : Found) → FoundAsks W G a → Asks (data_rows.open_found w c fd f a)
    want_open_found c fd f (found.At p) h = want_open_there c fd f p h
    want_open_found c fd f (found.In d n None) h = then (make_at w d n (File [])) (want_make_at d n (File [])) (λ _ _. found_so tt)
    want_open_found c fd f (found.In d n (Some p)) h = refused
    want_open_found c fd f (found.Dot d) h = refused
    want_open_found c fd f (found.Mount m) h = refused
    want_open_found c fd f (found.Refused e) h = refused
    want_open_found c fd f (found.Need x) h = want_shadow x h

    want_open_file : (c : ℕ) (f : Flags) (a : Found) → FoundAsks W G a → Asks (data_rows.open_file w c f a)
    want_open_file c f a h =
        unless (not (data_rows.are_flags f)) _ (λ _.
        then (data_rows.free_descriptor w c) (want_free_from 32 c 0) (λ fd _.
        unless (not (nat_lt (len w.opens) w.limits.files)) _ (λ _. want_open_found c fd f a h)))

    want_check_read : (o : Open) (n : ℕ) → Asks (data_rows.check_read w o n)
    want_check_read o n =
        unless o.dead _ (λ _. unless (not o.mode.read) _ (λ _. unless (is_dir (facts_of w) o.place) _ (λ _. check (nat_lt data_rows.most_moved n) _)))

    want_read : (c d n : ℕ) → Asks (data_rows.read w c d n)
    want_read c d n = then (data_rows.descriptor w c d) (want_descriptor c d) (λ o _. then (data_rows.check_read w o n) (want_check_read o n) (λ _ _. found_so tt))

    want_pread : (c d n at : ℕ) → Asks (data_rows.pread w c d n at)
    want_pread c d n at = then (data_rows.descriptor w c d) (want_descriptor c d) (λ o _. then (data_rows.check_read w o n) (want_check_read o n) (λ _ _. found_so tt))

    want_check_write : (o : Open) (bytes : List ℕ) → Asks (data_rows.check_write o bytes)
    want_check_write o bytes = unless o.dead _ (λ _. unless (not o.mode.write) _ (λ _. check (nat_lt data_rows.most_moved (length bytes)) _))

    want_write_at : (o : Open) (at : ℕ) (bytes : List ℕ) → Asks (data_rows.write_at w o at bytes)
    want_write_at o at bytes = unless (nat_lt data_rows.most_bytes (at + length bytes)) _ (λ _. found_so tt)

    want_write_some : (c d : ℕ) (o : Open) (bytes : List ℕ) → Asks (data_rows.write_some w c d o bytes)
    want_write_some c d o [] = found_so tt
    want_write_some c d o (b ∷ bs) = then (data_rows.write_at w o (data_rows.write_to w o o.offset) (b ∷ bs)) (want_write_at o (data_rows.write_to w o o.offset) (b ∷ bs)) (λ _ _. found_so tt)

    want_write : (c d : ℕ) (bytes : List ℕ) → Asks (data_rows.write w c d bytes)
    want_write c d bytes =
        then (data_rows.descriptor w c d) (want_descriptor c d) (λ o _. then (data_rows.check_write o bytes) (want_check_write o bytes) (λ _ _. want_write_some c d o bytes))

    want_pwrite_some : (o : Open) (at : ℕ) (bytes : List ℕ) → Asks (data_rows.pwrite_some w o at bytes)
    want_pwrite_some o at [] = found_so tt
    want_pwrite_some o at (b ∷ bs) = then (data_rows.write_at w o (data_rows.write_to w o at) (b ∷ bs)) (want_write_at o (data_rows.write_to w o at) (b ∷ bs)) (λ _ _. found_so tt)

    want_pwrite : (c d at : ℕ) (bytes : List ℕ) → Asks (data_rows.pwrite w c d at bytes)
    want_pwrite c d at bytes =
        then (data_rows.descriptor w c d) (want_descriptor c d) (λ o _. then (data_rows.check_write o bytes) (want_check_write o bytes) (λ _ _. want_pwrite_some o at bytes))

    want_offset_of : (i : ℤ) → Asks (data_rows.offset_of i)
    want_offset_of (pos n) = unless (nat_lt 4294967295 n) _ (λ _. found_so tt)
    want_offset_of (negsuc n) = refused

    want_check_length : (p : Seen) (n : ℕ) → G p → Asks (data_rows.check_length w p n)
    want_check_length p n g = unless (is_dir (facts_of w) p) _ (λ _. unless (nat_lt data_rows.most_bytes n) _ (λ _. copies p g))

    want_truncate : (a : Found) (n : ℕ) → FoundAsks W G a → Asks (data_rows.truncate w a n)
    want_truncate a n h = then (place_at w a) (want_place_at a h) (λ p g. then (data_rows.check_length w p n) (want_check_length p n g) (λ _ _. found_so tt))

    want_open_length : (c d n : ℕ) → Asks (data_rows.open_length w c d n)
    want_open_length c d n =
        then (data_rows.descriptor w c d) (want_descriptor c d) (λ o _.
        unless o.dead _ (λ _. unless (not o.mode.write) _ (λ _. unless (nat_lt data_rows.most_bytes n) _ (λ _. found_so tt))))

    want_fstat : (c d : ℕ) → Asks (data_rows.fstat w c d)
    want_fstat c d =
        then (data_rows.descriptor w c d) (want_descriptor c d) (λ o _.
        unless o.dead _ (λ _. then (name_rows.stat_of (node_of w o.place)) (want_stat_of (node_of w o.place)) (λ _ _. found_so tt)))

    want_open_dir : (c d : ℕ) → Asks (data_rows.open_dir w c d)
    want_open_dir c d =
        then (data_rows.descriptor w c d) (want_descriptor c d) (λ o _. unless o.dead _ (λ _. unless (not (is_dir (facts_of w) o.place)) _ (λ _. found_so tt)))

    -- ---- calls on mounts

    want_check_mounts : Asks (mount_rows.check_mounts w)
    want_check_mounts = unless (not (nat_lt (len w.mounts) w.limits.mounts)) _ (λ _. check (w.next_mount == 4294967295) _)

    want_mount_mem : (a : Found) → FoundAsks W G a → Asks (mount_rows.mount_mem w a)
    want_mount_mem a h = then (dir_at w a) (want_dir_at a h) (λ on _. then (mount_rows.check_mounts w) want_check_mounts (λ _ _. found_so tt))

    want_mount_null : (a b : Found) → FoundAsks W G a → FoundAsks W G b → Asks (mount_rows.mount_null w a b)
    want_mount_null a b ha hb =
        then (dir_at w a) (want_dir_at a ha) (λ layer _.
        then (dir_at w b) (want_dir_at b hb) (λ on _.
        unless (same_place layer on) _ (λ _.
        unless (depth (facts_of w) layer == mount_rows.most_depth) _ (λ _. then (mount_rows.check_mounts w) want_check_mounts (λ _ _. found_so tt)))))

    want_upper_of : (p : Seen) → Asks (mount_rows.upper_of p)
    want_upper_of (Mem m i) = found_so tt
    want_upper_of (Null m p) = refused
    want_upper_of (UnionUp m i) = refused
    want_upper_of (UnionLow m u n p) = refused

    want_mount_union : (a b : Found) → FoundAsks W G a → FoundAsks W G b → Asks (mount_rows.mount_union w a b)
    want_mount_union a b ha hb =
        then (dir_at w a) (want_dir_at a ha) (λ up _.
        then (dir_at w b) (want_dir_at b hb) (λ on _.
        then (mount_rows.upper_of up) (want_upper_of up) (λ upper _.
        unless (list_any (λ s. s == upper.store) (stores (facts_of w) on)) _ (λ _.
        unless (depth (facts_of w) on == mount_rows.most_depth) _ (λ _. then (mount_rows.check_mounts w) want_check_mounts (λ _ _. found_so tt))))))

    want_umount : (a : Found) → FoundAsks W G a → Asks (mount_rows.umount w a)
    want_umount a h = then (mount_at w a) (want_mount_at a h) (λ m _. unless (m == 0) _ (λ _. unless (has_references w m) _ (λ _. found_so tt)))

    want_doom_next : (c m : ℕ) (o : Option Ref) → Asks (mount_rows.doom_next w c m o)
    want_doom_next c m (Some at) = needed (dooms at)
    want_doom_next c m None = found_so tt

    want_umount_by : (c : ℕ) (a : Found) → FoundAsks W G a → (o : Option ℕ) → Asks (mount_rows.umount_by w c a o)
    want_umount_by c a h (Some m) = want_doom_next c m (first_in w m)
    want_umount_by c a h None = then (mount_at w a) (want_mount_at a h) (λ m _. unless (m == 0) _ (λ _. unless (is_covered w m) _ (λ _. needed (detaches m))))

    want_revoke_next : (o : Option Ref) → Asks (mount_rows.revoke_next w o)
    want_revoke_next (Some at) = needed (dooms at)
    want_revoke_next None = found_so tt

    want_revoke : (a : Found) → FoundAsks W G a → Asks (mount_rows.revoke w a)
    want_revoke a h = then (place_at w a) (want_place_at a h) (λ p _. unless (not (is_file (facts_of w) p)) _ (λ _. want_revoke_next (first_open w p)))

    -- ---- rows

    want_decided : (c : ℕ) (call : Call) (a b : Found) → FoundAsks W G a → FoundAsks W G b → ReadsSo w N c call → Asks (decided w c call a b)
    want_decided c (call.Mkdir p) a b ha hb reads = want_mkdir a ha
    want_decided c (call.Rmdir p) a b ha hb reads = want_rmdir a ha
    want_decided c (call.Open p f) a b ha hb reads = want_open_file c f a ha
    want_decided c (call.Close d) a b ha hb reads = then (data_rows.descriptor w c d) (want_descriptor c d) (λ o _. found_so tt)
    want_decided c (call.Read d n) a b ha hb reads = want_read c d n
    want_decided c (call.Pread d n o) a b ha hb reads = want_pread c d n o
    want_decided c (call.Write d bytes) a b ha hb reads = want_write c d bytes
    want_decided c (call.Pwrite d o bytes) a b ha hb reads = want_pwrite c d o bytes
    want_decided c (call.Lseek d h i) a b ha hb reads =
        then (data_rows.descriptor w c d) (want_descriptor c d) (λ o _.
        unless o.dead _ (λ _. then (data_rows.offset_of (pos (data_rows.seek_from w o h) +ℤ i)) (want_offset_of (pos (data_rows.seek_from w o h) +ℤ i)) (λ _ _. found_so tt)))
    want_decided c (call.Truncate p n) a b ha hb reads = want_truncate a n ha
    want_decided c (call.Ftruncate d n) a b ha hb reads = then (data_rows.open_length w c d n) (want_open_length c d n) (λ p _. found_so tt)
    want_decided c (call.Stat p) a b ha hb reads = want_stat a ha
    want_decided c (call.Lstat p) a b ha hb reads = want_stat a ha
    want_decided c (call.Fstat d) a b ha hb reads = want_fstat c d
    want_decided c (call.Readdir d) a b ha hb reads = reads
    want_decided c (call.Unlink p) a b ha hb reads = want_unlink a ha
    want_decided c (call.Rename p q) a b ha hb reads = want_rename a b ha hb
    want_decided c (call.Link p q) a b ha hb reads = want_link a b ha hb
    want_decided c (call.Symlink t p) a b ha hb reads = want_symlink t a ha
    want_decided c (call.Readlink p) a b ha hb reads = want_readlink a ha
    want_decided c (call.Undelete p) a b ha hb reads = want_undelete a ha
    want_decided c (call.Chdir p) a b ha hb reads = want_chdir c a ha
    want_decided c (call.Fchdir d) a b ha hb reads = then (data_rows.open_dir w c d) (want_open_dir c d) (λ p _. found_so tt)
    want_decided c (call.Statfs p) a b ha hb reads = want_statfs a ha
    want_decided c (call.MountMem p) a b ha hb reads = want_mount_mem a ha
    want_decided c (call.MountNull t p) a b ha hb reads = want_mount_null a b ha hb
    want_decided c (call.MountUnion u p) a b ha hb reads = want_mount_union a b ha hb
    want_decided c (call.Umount p) a b ha hb reads = want_umount a ha
    want_decided c (call.UmountForce p) a b ha hb reads = want_umount_by c a ha (get w.leaving c)
    want_decided c (call.Revoke p) a b ha hb reads = want_revoke a ha

    want_ways : (call : Call) → Asks (check_way (first_way call) >> check_way (second_way call))
    want_ways call =
        then (check_way (first_way call)) (keeps-check_way N (first_way call)) (λ _ _.
        weaker (check_way (second_way call)) (λ _ _. tt) (λ x h. h) (keeps-check_way N (second_way call)))

    pub want_row : (c : ℕ) (call : Call) → FoundAsks W G (first_found w c call) → FoundAsks W G (second_found w c call) → ReadsSo w N c call → Asks (row w c call)
    want_row c call ha hb reads =
        then (check_way (first_way call) >> check_way (second_way call)) (want_ways call)
        (λ _ _. want_decided c call (first_found w c call) (second_found w c call) ha hb reads)
