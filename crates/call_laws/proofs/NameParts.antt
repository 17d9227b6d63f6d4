-- What the calls on names leave and need.
use Rattle.std.proofs.Common.{◌≡◌, ℕ, ◌+◌, ◌≤◌, Bool, true, false, not, ◌==◌, List, length, refl, ap, sym, ◌∙◌, arith}
use Rattle.std.specs.Prelude.{Option, Some, None, nat_lt}
use Rattle.vfs_tree.specs.Carriers.{is_in_union, is_busy, is_below}
use Rattle.vfs_tree.specs.Child.{low}
use Rattle.vfs_tree.specs.Edits.{made, with_store}
use Rattle.vfs_tree.specs.Layers.{base, is_dir, target_of}
use Rattle.vfs_tree.specs.Paths.{has_zero, is_empty}
use Rattle.vfs_tree.specs.Place.{Seen, Mem, Null, UnionUp, UnionLow, bare, mount_of}
use Rattle.vfs_tree.specs.StoreEdits.{removed, set_entry, clear_entry, renamed}
use Rattle.vfs_tree.specs.Views.{facts_of}
use Rattle.vfs_tree.specs.Visible.{has_visible}
use Rattle.vfs_tree.specs.declared.errno.Errno.TheVariants as errno
use Rattle.vfs_tree.specs.declared.node.NameEntry.TheVariants.{Ino}
use Rattle.vfs_tree.specs.declared.node.Node.{Node}
use Rattle.vfs_tree.specs.declared.node.Node.TheVariants.{Dir, File, Link}
use Rattle.vfs_tree.specs.declared.node.Store.{Store}
use Rattle.vfs_tree.specs.declared.walk.Child.{Child}
use Rattle.vfs_tree.specs.declared.walk.Child.TheVariants as child
use Rattle.vfs_tree.specs.declared.walk.Found.{Found}
use Rattle.vfs_tree.specs.declared.walk.Found.TheVariants as found
use Rattle.vfs_tree.specs.declared.world.World.{World}
use Rattle.call_model.specs.Checks.{lifted, copied, place_at, target_at, there, dir_at, free_target, node_of, edit_at, has_white, make_at, drop_at, is_full}
use Rattle.call_model.specs.NameRows as rows
use Rattle.call_model.specs.declared.entry.Inner.{Inner}
use Rattle.call_model.specs.declared.reply.Reply.{Reply}
use Rattle.call_model.specs.declared.target.Target.{Target}
use Rattle.call_laws.specs.Flags.{SetsNoFlag}
use Rattle.call_laws.specs.Live.{live}
use Rattle.call_model.specs.NameEdits.{is_fail}
use Rattle.call_laws.proofs.FlagLaws.{no_flag, no_flag-cwd}
use Rattle.call_laws.proofs.NeedLaws.{FreeChild, FreeFound, free-low, free-has_visible}
use Rattle.call_laws.proofs.LiveCount.{live_opens, live_cwds, live-parts, cwds-insert}
use Rattle.call_laws.proofs.Parts.{Keeps, Any, MakesNode, found_so, refused, then, unless, check, keeps-shadow, keeps-lifted, keeps-copied, keeps-place_at, keeps-target_at, keeps-there, keeps-dir_at, keeps-free_target, Ready, Well, ready_at, ready_in, keeps-found_at, keeps-found_in, keeps-there_at}

-- ---- worlds

-- open files, current directories, and the callers that are leaving a mount are as before
abbrev pub Alone : World → World → Type 0
Alone w v = (v.opens ≡ w.opens) × (v.cwds ≡ w.cwds) × (v.leaving ≡ w.leaving)

-- at most one reference more is live, the callers that are leaving a mount are as before, and no more is dead
pub record Plain (w v : World) : Type 0 where
  pub most : live v ≤ live w + 1
  pub leaving : v.leaving ≡ w.leaving
  pub flags : SetsNoFlag w v

-- a world and a reply that a call may leave that is leaving no mount
abbrev pub Ends : World → World × Reply → Type 0
Ends w x = Plain w x.0 × (is_fail x.1 ≡ false)

pub alone-itself : (w : World) → Alone w w
alone-itself w = (refl, refl, refl)

pub alone-store : (f : Store → Store) (w : World) (s : ℕ) (o : Option Store) → Alone w (with_store f w s o)
alone-store f w s (Some t) = (refl, refl, refl)
alone-store f w s None = (refl, refl, refl)

pub alone-edit : (w : World) (p : Seen) (edit : Store → ℕ → Store) → Alone w (edit_at w p edit)
alone-edit w p edit = let b = base (facts_of w) p in alone-store (λ t. edit t b.ino) w b.store _

-- what isn't changed is as live as before
pub alone-live : (w v : World) → Alone w v → live v ≡ live w
alone-live w v h =
    live-parts v ∙ ap (λ m. live_opens m + live_cwds v.cwds) h.0 ∙ ap (λ m. live_opens w.opens + live_cwds m) h.1 ∙ sym (live-parts w)

pub plain : (w v : World) → Alone w v → Plain w v
plain w v h = let same = alone-live w v h in record { most = omega arith; leaving = h.2; flags = no_flag w v h.0 h.1 }

pub keeps-make : (w : World) (d : Seen) (n : List ℕ) (node : Node) → Keeps (Alone w) (MakesNode w) (make_at w d n node)
keeps-make w d n node = unless (is_full w (base (facts_of w) d).store) _ (λ _. found_so (alone-edit w d (λ t dir. made t dir n node)))

pub plain-drop : (w : World) (d : Seen) (n : List ℕ) → Plain w (drop_at w d n)
plain-drop w d n = plain w (drop_at w d n) (alone-edit w d (λ t dir. removed (is_in_union d) t dir n))

-- ---- directories

pub keeps-mkdir : (w : World) (a : Found) → FreeFound (facts_of w) a → Keeps (Ends w) (MakesNode w) (rows.mkdir w a)
keeps-mkdir w a fa = then (free_target w a) (keeps-free_target w a fa) (λ t _. then (rows.made_dir w t) (keeps-make w t.dir t.name _) (λ new h. found_so (plain w new h, refl)))

keeps-check_empty : (w : World) (d : Seen) → Keeps Any (MakesNode w) (rows.check_empty w d)
keeps-check_empty w d = then (lifted w (has_visible w d)) (keeps-lifted w (has_visible w d) (free-has_visible w d)) (λ shows _. check shows _)

keeps-check_removed : (w : World) (o : Option Seen) → Keeps Any (MakesNode w) (rows.check_removed w o)
keeps-check_removed w o =
    then (there o) (keeps-there o) (λ d _. unless (not (is_dir (facts_of w) d)) _ (λ _. unless (is_busy w d) _ (λ _. keeps-check_empty w d)))

pub keeps-rmdir : (w : World) (a : Found) → FreeFound (facts_of w) a → Keeps (Ends w) (MakesNode w) (rows.rmdir w a)
keeps-rmdir w a fa =
    then (target_at w errno.EINVAL a) (keeps-target_at w errno.EINVAL a fa) (λ t _.
    then (rows.check_removed w t.child) (keeps-check_removed w t.child) (λ _ _. found_so (plain-drop w t.dir t.name, refl)))

-- ---- names of files and links

pub keeps-unlink : (w : World) (a : Found) → FreeFound (facts_of w) a → Keeps (Ends w) (MakesNode w) (rows.unlink w a)
keeps-unlink w a fa =
    then (target_at w errno.EPERM a) (keeps-target_at w errno.EPERM a fa) (λ t _.
    then (there t.child) (keeps-there t.child) (λ p _.
    unless (is_dir (facts_of w) p) _ (λ _. found_so (plain-drop w t.dir t.name, refl))))

pub keeps-link : (w : World) (a b : Found) → FreeFound (facts_of w) a → FreeFound (facts_of w) b → Well w a → Keeps (Ends w) (MakesNode w) (rows.link w a b)
keeps-link w a b fa fb wa =
    then (place_at w a) (keeps-found_at w a fa) (λ p is.
    unless (is_dir (facts_of w) p) _ (λ _.
    then (free_target w b) (keeps-free_target w b fb) (λ t _.
    unless (not (mount_of p == mount_of t.dir)) _ (λ _.
    then (copied w p) (keeps-copied w p (ready_at w a p wa is)) (λ _ _.
    found_so (plain w _ (alone-edit w t.dir (λ s dir. set_entry s dir t.name (Ino (base (facts_of w) p).ino))), refl))))))

pub keeps-check_text : (w : World) (text : List ℕ) → Keeps Any (MakesNode w) (rows.check_text text)
keeps-check_text w text = unless (is_empty text) _ (λ _. unless (has_zero text) _ (λ _. check (nat_lt 1023 (length text)) _))

pub keeps-symlink : (w : World) (text : List ℕ) (a : Found) → FreeFound (facts_of w) a → Keeps (Ends w) (MakesNode w) (rows.symlink w text a)
keeps-symlink w text a fa =
    then (rows.check_text text) (keeps-check_text w text) (λ _ _.
    then (free_target w a) (keeps-free_target w a fa) (λ t _.
    then (rows.made_link w text t) (keeps-make w t.dir t.name _) (λ new h. found_so (plain w new h, refl))))

pub keeps-link_text : (w : World) (o : Option (List ℕ)) → Keeps Any (MakesNode w) (rows.link_text o)
keeps-link_text w (Some text) = found_so tt
keeps-link_text w None = refused

pub keeps-readlink : (w : World) (a : Found) → FreeFound (facts_of w) a → Keeps (Ends w) (MakesNode w) (rows.readlink w a)
keeps-readlink w a fa =
    then (place_at w a) (keeps-place_at w a fa) (λ p _.
    then (rows.link_text (target_of (facts_of w) p)) (keeps-link_text w (target_of (facts_of w) p)) (λ text _. found_so (plain w w (alone-itself w), refl)))

pub keeps-undelete : (w : World) (a : Found) → FreeFound (facts_of w) a → Keeps (Ends w) (MakesNode w) (rows.undelete w a)
keeps-undelete w a fa =
    then (target_at w errno.EEXIST a) (keeps-target_at w errno.EEXIST a fa) (λ t _.
    unless (not (has_white w t.dir t.name)) _ (λ _. found_so (plain w _ (alone-edit w t.dir (λ s dir. clear_entry s dir t.name)), refl)))

-- ---- rename(2)

keeps-is_lower : (w : World) (o : Child) → FreeChild (facts_of w) o → Keeps Any (MakesNode w) (rows.is_lower w o)
keeps-is_lower w (child.At d) free = found_so tt
keeps-is_lower w child.Absent free = found_so tt
keeps-is_lower w (child.Need x) free = keeps-shadow w x free

keeps-has_lower_place : (w : World) (p : Seen) → Keeps Any (MakesNode w) (rows.has_lower_place w p)
keeps-has_lower_place w (UnionUp m i) = keeps-is_lower w (low (facts_of w) m i) (free-low (facts_of w) m i)
keeps-has_lower_place w (Mem m i) = found_so tt
keeps-has_lower_place w (Null m p) = found_so tt
keeps-has_lower_place w (UnionLow m u n p) = found_so tt

pub keeps-check_lower : (w : World) (d : Seen) → Keeps Any (MakesNode w) (rows.check_lower w d)
keeps-check_lower w d = then (rows.has_lower_place w (bare d)) (keeps-has_lower_place w (bare d)) (λ lower _. check lower _)

keeps-check_source : (b : Bool) (w : World) (source to : Seen) → Keeps Any (MakesNode w) (rows.check_source b w source to)
keeps-check_source true w source to = unless (is_busy w source) _ (λ _. unless (is_below (facts_of w) to source) _ (λ _. keeps-check_lower w source))
keeps-check_source false w source to = found_so tt

keeps-check_replaced_dir : (w : World) (d : Seen) → Keeps Any (MakesNode w) (rows.check_replaced_dir w d)
keeps-check_replaced_dir w d = unless (is_busy w d) _ (λ _. then (rows.check_empty w d) (keeps-check_empty w d) (λ _ _. keeps-check_lower w d))

keeps-check_kinds : (a b : Bool) (w : World) (p : Seen) → Keeps Any (MakesNode w) (rows.check_kinds a b w p)
keeps-check_kinds true false w p = refused
keeps-check_kinds false true w p = refused
keeps-check_kinds true true w p = keeps-check_replaced_dir w p
keeps-check_kinds false false w p = found_so tt

keeps-check_replaced : (w : World) (moves_dir : Bool) (o : Option Seen) → Keeps Any (MakesNode w) (rows.check_replaced w moves_dir o)
keeps-check_replaced w moves_dir (Some p) = keeps-check_kinds moves_dir (is_dir (facts_of w) p) w p
keeps-check_replaced w moves_dir None = found_so tt

keeps-rename_apart : (w : World) (source d : Seen) (n : List ℕ) (new : Target) → Ready w source → Keeps (Ends w) (MakesNode w) (rows.rename_apart w source d n new)
keeps-rename_apart w source d n new ready =
    then (rows.check_source (is_dir (facts_of w) source) w source new.dir) (keeps-check_source (is_dir (facts_of w) source) w source new.dir) (λ _ _.
    then (rows.check_replaced w (is_dir (facts_of w) source) new.child) (keeps-check_replaced w (is_dir (facts_of w) source) new.child) (λ _ _.
    then (copied w source) (keeps-copied w source ready) (λ _ _.
    found_so (plain w (rows.renamed_at w d n new) (alone-edit w d (λ t from. renamed (is_in_union d) (is_in_union new.dir) t from n (base (facts_of w) new.dir).ino new.name)), refl))))

keeps-rename_case : (b : Bool) (w : World) (source d : Seen) (n : List ℕ) (new : Target) → Ready w source → Keeps (Ends w) (MakesNode w) (rows.rename_case b w source d n new)
keeps-rename_case true w source d n new ready = found_so (plain w w (alone-itself w), refl)
keeps-rename_case false w source d n new ready = keeps-rename_apart w source d n new ready

pub keeps-rename : (w : World) (a b : Found) → FreeFound (facts_of w) a → FreeFound (facts_of w) b → Well w a → Keeps (Ends w) (MakesNode w) (rows.rename w a b)
keeps-rename w a b fa fb wa =
    then (target_at w errno.EINVAL a) (keeps-found_in w errno.EINVAL a fa) (λ old is.
    then (there old.child) (keeps-there_at old.child) (λ source has.
    then (target_at w errno.EINVAL b) (keeps-target_at w errno.EINVAL b fb) (λ new _.
    unless (not (mount_of old.dir == mount_of new.dir)) _ (λ _. keeps-rename_case (rows.is_there source new.child) w source old.dir old.name new (ready_in w a old.dir source old.name wa (is ∙ ap (found.In old.dir old.name) has))))))

-- ---- what is known of a file

pub keeps-stat_of : (N : Inner → Type 0) (o : Option Node) → Keeps (λ r. is_fail r ≡ false) N (rows.stat_of o)
keeps-stat_of N (Some (Dir parent opaque names)) = found_so refl
keeps-stat_of N (Some (File bytes)) = found_so refl
keeps-stat_of N (Some (Link target)) = found_so refl
keeps-stat_of N None = refused

pub keeps-stat : (w : World) (a : Found) → FreeFound (facts_of w) a → Keeps (Ends w) (MakesNode w) (rows.stat w a)
keeps-stat w a fa =
    then (place_at w a) (keeps-place_at w a fa) (λ p _.
    then (rows.stat_of (node_of w p)) (keeps-stat_of (MakesNode w) (node_of w p)) (λ known e. found_so (plain w w (alone-itself w), e)))

-- ---- current directories

pub plain-cwd : (w : World) (c : ℕ) (d : Seen) → Plain w (rows.with_cwd w c d)
plain-cwd w c d =
    let new : World = rows.with_cwd w c d in
    let more = cwds-insert w.cwds c (record { place = d; dead = false }) in
    let before = live-parts w in
    let after : live new ≡ live_opens w.opens + live_cwds new.cwds = live-parts new in
    record { most = omega arith; leaving = refl; flags = record { opens = λ k e. e; cwds = λ k e. no_flag-cwd w.cwds c (record { place = d; dead = false }) refl k e } }

pub keeps-chdir : (w : World) (c : ℕ) (a : Found) → FreeFound (facts_of w) a → Keeps (Ends w) (MakesNode w) (rows.chdir w c a)
keeps-chdir w c a fa = then (dir_at w a) (keeps-dir_at w a fa) (λ d _. found_so (plain-cwd w c d, refl))

-- ---- file systems

pub keeps-statfs : (w : World) (a : Found) → FreeFound (facts_of w) a → Keeps (Ends w) (MakesNode w) (rows.statfs w a)
keeps-statfs w a fa = then (place_at w a) (keeps-place_at w a fa) (λ p _. found_so (plain w w (alone-itself w), refl))
