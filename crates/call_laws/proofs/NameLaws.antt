-- Calls that make, link and remove names keep sound worlds lasting.
use Rattle.std.proofs.Common.{◌≡◌, ℕ, ◌≤◌, ◌<◌, ◌⊎◌, inl, inr, Bool, true, false, not, ◌&&◌, ◌==◌, List, [], refl, ap, sym, ◌∙◌, subst, eq-eqb, eqb-true, eq-or-lt_of_le}
use Rattle.std.specs.Prelude.{Option, Some, None, IsSome, IfSome, is_some, option_map, option_and_then, nat_lt}
use Rattle.std.specs.Cmp.{nat_cmp_total}
use Rattle.std.specs.FinMap.{get, insert, len}
use Rattle.finite_maps.proofs.EntryLaws.{get_at-insert}
use Rattle.vfs_tree.specs.Bytes.{resize_bytes}
use Rattle.vfs_tree.specs.Carriers.{is_in_union, is_busy}
use Rattle.vfs_tree.specs.Edits.{with_store, made, new_dir}
use Rattle.vfs_tree.specs.FileEdits.{resized}
use Rattle.vfs_tree.specs.Layers.{kind_in, base, kind_of, is_dir_kind, is_dir, linked_by, is_linked}
use Rattle.vfs_tree.specs.Nodes.{entry_in, is_white, is_given, next_of}
use Rattle.vfs_tree.specs.Place.{Seen, Mem, Null, UnionUp, UnionLow, bare, mount_of}
use Rattle.vfs_tree.specs.Steps.{refuse_if}
use Rattle.vfs_tree.specs.StoreEdits.{entry_of, removed, set_entry, clear_entry}
use Rattle.vfs_tree.specs.Views.{kind_of_node, dir_in, facts_of}
use Rattle.vfs_tree.specs.Visible.{has_visible}
use Rattle.vfs_tree.specs.declared.errno.Errno.{Errno}
use Rattle.vfs_tree.specs.declared.errno.Errno.TheVariants as errno
use Rattle.vfs_tree.specs.declared.node.Kind.{Kind}
use Rattle.vfs_tree.specs.declared.node.Kind.TheVariants as kind
use Rattle.vfs_tree.specs.declared.node.NameEntry.TheVariants.{Ino}
use Rattle.vfs_tree.specs.declared.node.Node.{Node}
use Rattle.vfs_tree.specs.declared.node.Node.TheVariants.{File, Link}
use Rattle.vfs_tree.specs.declared.node.Store.{Store}
use Rattle.vfs_tree.specs.declared.open.Open.{Open}
use Rattle.vfs_tree.specs.declared.walk.Found.{Found}
use Rattle.vfs_tree.specs.declared.walk.Found.TheVariants as found
use Rattle.vfs_tree.specs.declared.walk.Need.{Need}
use Rattle.vfs_tree.specs.declared.walk.NodeId.{NodeId}
use Rattle.vfs_tree.specs.declared.walk.Step.{Step}
use Rattle.vfs_tree.specs.declared.walk.Step.TheVariants.{Go, Refuse, Wants}
use Rattle.vfs_tree.specs.declared.world.World.{World}
use Rattle.call_model.specs.Checks.{is_full_store, is_full, upper_store, lifted, copied_place, copied, place_at, target_at, there, dir_at, free_target, edit_at, has_white, make_at, drop_at}
use Rattle.call_model.specs.DataRows as data_rows
use Rattle.call_model.specs.NameRows as rows
use Rattle.call_model.specs.declared.call.Flags.{Flags}
use Rattle.call_model.specs.declared.entry.Inner.{Inner}
use Rattle.call_model.specs.declared.target.Target.{Target}
use Rattle.call_laws.proofs.ChdirLaws.{well-dir_at}
use Rattle.call_laws.proofs.DataParts.{keeps-copied_for, keeps-free_from}
use Rattle.call_laws.proofs.DropLaws.{NoDir, removed_kept, linked_kept, undeleted_kept}
use Rattle.call_laws.proofs.FoundLaws.{IsGood, IsGoodView}
use Rattle.call_laws.proofs.GivenLaws.{is_low, dir_upper, GivenAt, given_target, same_store, in_over, in_sound, shows_none}
use Rattle.call_laws.proofs.MadeLaws.{IsFresh, kind_at, node_new, inode_of, none_some, no_dir}
use Rattle.call_laws.proofs.NameParts.{keeps-check_text}
use Rattle.call_laws.proofs.NamedLaws.{no_way}
use Rattle.call_laws.proofs.NeedLaws.{Free, FreeFound, free-has_visible}
use Rattle.call_laws.proofs.Parts.{Keeps, MakesNode, Well, Ready, ready_at, found_so, refused, needed, weaker, then, unless, ready_bare, keeps-shadow, keeps-found_at, keeps-found_in, keeps-there_at}
use Rattle.call_laws.proofs.PlaceLaws.{good_view, good_child_at}
use Rattle.call_laws.proofs.SoundMade.{dir_at as the_dir}
use Rattle.call_laws.proofs.SoundRows.{LeavesSo}
use Rattle.call_laws.proofs.WalkLaws.{stands_at, IsTarget, IsEnd, FoundWell}
use Rattle.call_laws.proofs.Whole.{IsWhole}
use Rattle.call_laws.proofs.WholeLaws.{HasRoom, well_store, whole-store, whole-made, whole-bytes, whole-open, whole-cwd}
use Rattle.call_laws.proofs.SoundParts.{is_so}

-- ---- what stores have, told by what walks read

pub entry_is : (w : World) (s d : ℕ) (n : List ℕ) (t : Store) → get w.stores s ≡ Some t → (facts_of w).entry s d n ≡ entry_of t d n
entry_is w s d n t e = ap (λ o. entry_in n (option_and_then (λ (t : Store). get t.nodes d) o)) e

pub kind_is : (w : World) (s i : ℕ) (t : Store) → get w.stores s ≡ Some t → (facts_of w).kind s i ≡ kind_at t i
kind_is w s i t e = ap (λ o. option_map kind_of_node (option_and_then (λ (t : Store). get t.nodes i) o)) e

pub link_is : (w : World) (s i : ℕ) (t : Store) → get w.stores s ≡ Some t → is_linked (facts_of w) s i ≡ linked_by (dir_in t i)
link_is w s i t e = ap (λ o. linked_by (option_and_then (λ (t : Store). dir_in t i) o)) e

-- ---- parts of rows

none_so : (o : Option Seen) → is_some o ≡ false → o ≡ None
none_so (Some p) e = no_way (sym e)
none_so None e = refl

pub target_in : (w : World) (a : Found) (t : Target) → Well w a → IsWhole w → a ≡ found.In t.dir t.name t.child → IsTarget (facts_of w) t.dir t.name t.child
target_in w a t well h is = subst (FoundWell (facts_of w)) is (well h)

pub end_at : (w : World) (a : Found) (p : Seen) → Well w a → IsWhole w → a ≡ found.At p → IsEnd (facts_of w) p
end_at w a p well h is = subst (FoundWell (facts_of w)) is (well h)

pub whole-target_at : (w : World) (dot : Errno) (a : Found) → FreeFound (facts_of w) a → Well w a → IsWhole w → Keeps (λ t. IsTarget (facts_of w) t.dir t.name t.child) (MakesNode w) (target_at w dot a)
whole-target_at w dot a fa wa h = weaker (target_at w dot a) (λ t is. target_in w a t wa h is) (λ x m. m) (keeps-found_in w dot a fa)

pub whole-free_target : (w : World) (a : Found) → FreeFound (facts_of w) a → Well w a → IsWhole w → Keeps (λ t. IsTarget (facts_of w) t.dir t.name None) (MakesNode w) (free_target w a)
whole-free_target w a fa wa h =
    then (target_at w errno.EEXIST a) (whole-target_at w errno.EEXIST a fa wa h) (λ t x.
    unless (is_some t.child) _ (λ none. found_so (subst (IsTarget (facts_of w) t.dir t.name) (none_so t.child none) x)))

-- what was copied, or needs no copy, is no place of the lower layer alone
abbrev is_bare_low : Seen → Bool
is_bare_low (Mem m i) = false
is_bare_low (Null m p) = false
is_bare_low (UnionUp m i) = false
is_bare_low (UnionLow m u n p) = true

low_bare : (p : Seen) → is_low p ≡ is_bare_low (bare p)
low_bare (Mem m i) = refl
low_bare (Null m p) = low_bare p
low_bare (UnionUp m i) = refl
low_bare (UnionLow m u n p) = refl

upper_place : (w : World) (p : Seen) → Ready w p → Keeps (λ _. is_bare_low p ≡ false) (MakesNode w) (copied_place w p)
upper_place w (Mem m i) ready = found_so refl
upper_place w (Null m p) ready = found_so refl
upper_place w (UnionUp m i) ready = found_so refl
upper_place w (UnionLow m u n p) ready = unless (is_full w (upper_store w m)) _ (λ e. needed (e, ready))

pub whole-copied : (w : World) (p : Seen) → Ready w p → Keeps (λ _. is_low p ≡ false) (MakesNode w) (copied w p)
whole-copied w p ready = weaker (copied w p) (λ _ e. low_bare p ∙ e) (λ x m. m) (upper_place w (bare p) (λ h. ready_bare (facts_of w) p (ready h)))

room_in : (o : Option Store) → IfSome o (λ t. t.next ≤ 4294967295) → is_full_store o ≡ false → IfSome o (λ t. t.next < 4294967295)
room_in (Some t) most free = elim (eq-or-lt_of_le most) as (λ _. t.next < 4294967295) [ inl e ↦ no_way (sym free ∙ eq-eqb t.next 4294967295 e) | inr less ↦ less ]
room_in None most free = tt

-- a number is left in a store that isn't full
pub has_room : (w : World) (s : ℕ) → IsWhole w → is_full w s ≡ false → HasRoom w s
has_room w s h free = room_in (get w.stores s) (h.lasts.counted.inodes s) free

-- ---- edits at a place of a world

abbrev At : World → Seen → NodeId
At w d = base (facts_of w) d

abbrev pub view_of : (w : World) → IsWhole w → IsGoodView (facts_of w)
view_of w h = good_view w h.sound h.lasts

target_linked : (w : World) (d : Seen) (n : List ℕ) (o : Option Seen) → IsTarget (facts_of w) d n o → is_linked (facts_of w) (At w d).store (At w d).ino ≡ true
target_linked w d n o t = t.linked

pub linked_in : (w : World) (d : Seen) (n : List ℕ) (o : Option Seen) (t : Store) → IsTarget (facts_of w) d n o → get w.stores (At w d).store ≡ Some t → linked_by (dir_in t (At w d).ino) ≡ true
linked_in w d n o t x e = sym (link_is w (At w d).store (At w d).ino t e) ∙ x.linked

-- the child of a directory is a good place
pub good_in : (w : World) → IsWhole w → (d p : Seen) (n : List ℕ) → IsTarget (facts_of w) d n (Some p) → IsGood (facts_of w) p
good_in w h d p n t = good_child_at w h.sound h.lasts d p n t

-- a node is made at a name at which nothing stands
whole-make : (w : World) → IsWhole w → (d : Seen) (n : List ℕ) (node : Node) → IsTarget (facts_of w) d n None → IsFresh (At w d).ino node → is_full w (At w d).store ≡ false → IsWhole (edit_at w d (λ t dir. made t dir n node))
whole-make w h d n node t fresh free =
    whole-made w (At w d).store (At w d).ino n node h (has_room w (At w d).store h free) t.linked (given_target (facts_of w) (view_of w h) d n None t) fresh

pub whole-make_at : (w : World) → IsWhole w → (d : Seen) (n : List ℕ) (node : Node) → IsTarget (facts_of w) d n None → IsFresh (At w d).ino node → Keeps (λ v. IsWhole v) (MakesNode w) (make_at w d n node)
whole-make_at w h d n node t fresh = unless (is_full w (At w d).store) _ (λ free. found_so (whole-make w h d n node t fresh free))

-- ---- mkdir and symlink

pub whole-mkdir : (w : World) (a : Found) → FreeFound (facts_of w) a → Well w a → IsWhole w → Keeps (LeavesSo IsWhole) (MakesNode w) (rows.mkdir w a)
whole-mkdir w a fa wa h =
    then (free_target w a) (whole-free_target w a fa wa h) (λ t x.
    then (rows.made_dir w t) (whole-make_at w h t.dir t.name (new_dir (At w t.dir).ino (has_white w t.dir t.name)) x (refl, refl)) (λ new v. found_so v))

pub whole-symlink : (w : World) (text : List ℕ) (a : Found) → FreeFound (facts_of w) a → Well w a → IsWhole w → Keeps (LeavesSo IsWhole) (MakesNode w) (rows.symlink w text a)
whole-symlink w text a fa wa h =
    then (rows.check_text text) (keeps-check_text w text) (λ _ _.
    then (free_target w a) (whole-free_target w a fa wa h) (λ t x.
    then (rows.made_link w text t) (whole-make_at w h t.dir t.name (Link text) x tt) (λ new v. found_so v)))

-- ---- link

dir_kind : (o : Option Kind) → is_dir_kind o ≡ false → o ≡ Some kind.Dir → ⊥
dir_kind (Some kind.Dir) p q = no_way (sym p)
dir_kind (Some kind.File) p q = absurd cc
dir_kind (Some kind.Link) p q = absurd cc
dir_kind None p q = absurd cc

pub kind_dir : (o : Option Kind) → is_dir_kind o ≡ true → o ≡ Some kind.Dir
kind_dir (Some kind.Dir) p = refl
kind_dir (Some kind.File) p = no_way p
kind_dir (Some kind.Link) p = no_way p
kind_dir None p = no_way p

-- what a place is, told in the store on which it rests
pub kind_in_store : (w : World) (p : Seen) (s : ℕ) (t : Store) → get w.stores s ≡ Some t → (At w p).store ≡ s → kind_of (facts_of w) p ≡ kind_at t (At w p).ino
kind_in_store w p s t e same = ap (λ x. (facts_of w).kind x (At w p).ino) same ∙ kind_is w s (At w p).ino t e

pub file_in_store : (w : World) (p : Seen) (s : ℕ) (t : Store) → get w.stores s ≡ Some t → (At w p).store ≡ s → is_dir (facts_of w) p ≡ false → NoDir t (At w p).ino
file_in_store w p s t e same file dir = dir_kind (kind_of (facts_of w) p) file (kind_in_store w p s t e same ∙ dir)

whole-set : (w : World) → IsWhole w → (p d : Seen) (n : List ℕ) → IsGood (facts_of w) p → is_dir (facts_of w) p ≡ false → is_low p ≡ false → IsTarget (facts_of w) d n None → mount_of p ≡ mount_of d
    → IsWhole (edit_at w d (λ s dir. set_entry s dir n (Ino (At w p).ino)))
whole-set w h p d n good file upper t same =
    let b = At w d in
    let rests : (At w p).store ≡ b.store = same_store (facts_of w) (view_of w h) p d good t.good upper (dir_upper (facts_of w) d t.good.sound.files t.dir) same in
    whole-store w h b.store (λ s. set_entry s b.ino n (Ino (At w p).ino)) (λ s e well.
    linked_kept s b.ino n (At w p).ino well (linked_in w d n None s t e)
    (ap is_given (sym (entry_is w b.store b.ino n s e)) ∙ given_target (facts_of w) (view_of w h) d n None t)
    (file_in_store w p b.store s e rests file)
    (ap is_some (sym (kind_in_store w p b.store s e rests)) ∙ good.sound.base))

pub eq_so : (a b : ℕ) → not (a == b) ≡ false → a ≡ b
eq_so a b e = eqb-true a b (is_so (a == b) e)

pub whole-link : (w : World) (a b : Found) → FreeFound (facts_of w) a → FreeFound (facts_of w) b → Well w a → Well w b → IsWhole w → Keeps (LeavesSo IsWhole) (MakesNode w) (rows.link w a b)
whole-link w a b fa fb wa wb h =
    then (place_at w a) (keeps-found_at w a fa) (λ p is.
    unless (is_dir (facts_of w) p) _ (λ file.
    then (free_target w b) (whole-free_target w b fb wb h) (λ t x.
    unless (not (mount_of p == mount_of t.dir)) _ (λ same.
    then (copied w p) (whole-copied w p (ready_at w a p wa is)) (λ _ upper.
    found_so (whole-set w h p t.dir t.name (end_at w a p wa h is).good file upper x (eq_so (mount_of p) (mount_of t.dir) same)))))))

-- ---- unlink, rmdir and undelete

-- what a name of the store gives is what is seen at it
pub seen_at : (w : World) → IsWhole w → (d : Seen) (n : List ℕ) (o : Option Seen) → IsTarget (facts_of w) d n o → (t : Store) → get w.stores (At w d).store ≡ Some t → (j : ℕ) → entry_of t (At w d).ino n ≡ Some (Ino j)
    → (P : Type 0) → ((q : Seen) → o ≡ Some q → is_low q ≡ false → (At w q).ino ≡ j → (At w q).store ≡ (At w d).store → P) → P
seen_at w h d n o x t e j at P k = by o refl (given_target (facts_of w) (view_of w h) d n o x)
  where
    here : (facts_of w).entry (At w d).store (At w d).ino n ≡ Some (Ino j)
    here = entry_is w (At w d).store (At w d).ino n t e ∙ at

    low_case : (q : Seen) → o ≡ Some q → (b : Bool) → is_low q ≡ b → GivenAt (facts_of w) (At w d) n (stands_at (Some q)) → P
    low_case q is true low g = no_way (sym (g.1 low) ∙ ap is_given here)
    low_case q is false low g = k q is low (ap inode_of (sym (g.0 low).at ∙ here)) (g.0 low).store

    by : (r : Option Seen) → o ≡ r → GivenAt (facts_of w) (At w d) n (stands_at r) → P
    by (Some q) is g = low_case q is (is_low q) refl g
    by None is g = no_way (sym g ∙ ap is_given here)

no_entries : (t : Store) (j i : ℕ) (m : List ℕ) → NoDir t j → entry_of t j m ≡ Some (Ino i) → ⊥
no_entries t j i m file e = none_some (no_dir t j m (get t.nodes j) file) e

whole-drop : (w : World) → IsWhole w → (d : Seen) (n : List ℕ) (o : Option Seen) → IsTarget (facts_of w) d n o
    → ((q : Seen) → o ≡ Some q → (is_dir (facts_of w) q ≡ false) ⊎ ((is_dir (facts_of w) q ≡ true) × (has_visible w q ≡ Go false))) → IsWhole (drop_at w d n)
whole-drop w h d n o x fits =
    let b = At w d in
    whole-store w h b.store (λ t. removed (is_in_union d) t b.ino n) (λ t e well.
    removed_kept t (is_in_union d) b.ino n well (linked_in w d n o t x e) (λ j at i m f.
    seen_at w h d n o x t e j at ⊥ (λ q is upper ino store.
    elim (fits q is) as (λ _. ⊥) [
      | inl file ↦ no_entries t j i m (subst (NoDir t) ino (file_in_store w q b.store t e store file)) f
      | inr dir ↦ shows_none w (view_of w h) q (good_in w h d q n (subst (IsTarget (facts_of w) d n) is x)) dir.0 dir.1 m i
          (ap (λ s. (facts_of w).entry s (At w q).ino m) store ∙ entry_is w b.store (At w q).ino m t e ∙ ap (λ y. entry_of t y m) ino ∙ f)
    ])))

same_some : {A : Type 0} {x y : A} (o : Option A) → o ≡ Some x → o ≡ Some y → Some x ≡ Some y
same_some o p q = sym p ∙ q

abbrev place_or : Option Seen → Seen
place_or (Some p) = p
place_or None = Mem 0 0

pub whole-unlink : (w : World) (a : Found) → FreeFound (facts_of w) a → Well w a → IsWhole w → Keeps (LeavesSo IsWhole) (MakesNode w) (rows.unlink w a)
whole-unlink w a fa wa h =
    then (target_at w errno.EPERM a) (whole-target_at w errno.EPERM a fa wa h) (λ t x.
    then (there t.child) (keeps-there_at t.child) (λ p has.
    unless (is_dir (facts_of w) p) _ (λ file.
    found_so (whole-drop w h t.dir t.name t.child x (λ q is. inl (ap (λ o. is_dir (facts_of w) (place_or o)) (same_some t.child is has) ∙ file))))))

-- what a part finds, as an equation
pub shows_lifted : (w : World) (l : Step Bool Need) → Free (facts_of w) l → Keeps (λ b. l ≡ Go b) (MakesNode w) (lifted w l)
shows_lifted w (Go b) free = found_so refl
shows_lifted w (Refuse e) free = refused
shows_lifted w (Wants x) free = keeps-shadow w x free

pub check_so : {N : Inner → Type 0} {P : Type 0} (b : Bool) (e : Errno) → (b ≡ false → P) → Keeps (λ _. P) N (refuse_if b e)
check_so true e h = refused
check_so false e h = found_so (h refl)

pub whole-check_empty : (w : World) (d : Seen) → Keeps (λ _. has_visible w d ≡ Go false) (MakesNode w) (rows.check_empty w d)
whole-check_empty w d =
    then (lifted w (has_visible w d)) (shows_lifted w (has_visible w d) (free-has_visible w d)) (λ shows is.
    check_so shows errno.ENOTEMPTY (λ e. is ∙ ap Go e))

record IsEmptyDir (w : World) (o : Option Seen) : Type 0 where
  pub place : Seen
  pub at : o ≡ Some place
  pub dir : is_dir (facts_of w) place ≡ true
  pub empty : has_visible w place ≡ Go false

whole-check_removed : (w : World) (o : Option Seen) → Keeps (λ _. IsEmptyDir w o) (MakesNode w) (rows.check_removed w o)
whole-check_removed w o =
    then (there o) (keeps-there_at o) (λ d has.
    unless (not (is_dir (facts_of w) d)) _ (λ dir.
    unless (is_busy w d) _ (λ _.
    weaker (rows.check_empty w d) (λ _ e. record { place = d; at = has; dir = is_so (is_dir (facts_of w) d) dir; empty = e }) (λ x m. m) (whole-check_empty w d))))

empty_at : (w : World) (o : Option Seen) → IsEmptyDir w o → (q : Seen) → o ≡ Some q → (is_dir (facts_of w) q ≡ true) × (has_visible w q ≡ Go false)
empty_at w o x q is = subst (λ p. (is_dir (facts_of w) p ≡ true) × (has_visible w p ≡ Go false)) (ap place_or (same_some o x.at is)) (x.dir, x.empty)

pub whole-rmdir : (w : World) (a : Found) → FreeFound (facts_of w) a → Well w a → IsWhole w → Keeps (LeavesSo IsWhole) (MakesNode w) (rows.rmdir w a)
whole-rmdir w a fa wa h =
    then (target_at w errno.EINVAL a) (whole-target_at w errno.EINVAL a fa wa h) (λ t x.
    then (rows.check_removed w t.child) (whole-check_removed w t.child) (λ _ empty.
    found_so (whole-drop w h t.dir t.name t.child x (λ q is. inr (empty_at w t.child empty q is)))))

pub whole-undelete : (w : World) (a : Found) → FreeFound (facts_of w) a → Well w a → IsWhole w → Keeps (LeavesSo IsWhole) (MakesNode w) (rows.undelete w a)
whole-undelete w a fa wa h =
    then (target_at w errno.EEXIST a) (whole-target_at w errno.EEXIST a fa wa h) (λ t x.
    unless (not (has_white w t.dir t.name)) _ (λ white.
    let b = At w t.dir in
    found_so (whole-store w h b.store (λ s. clear_entry s b.ino t.name) (λ s e well.
    undeleted_kept s b.ino t.name well (ap is_white (sym (entry_is w b.store b.ino t.name s e)) ∙ is_so (has_white w t.dir t.name) white)))))

-- ---- open

-- a file's edit and a descriptor's are one whatever comes first
edit_open : (edit : Store → Store) (w : World) (s : ℕ) (k : ℕ × ℕ) (o : Open) (x : Option Store)
    → with_store edit (record w { opens = insert w.opens k o }) s x ≡ (let v = with_store edit w s x in record v { opens = insert v.opens k o })
edit_open edit w s k o (Some t) = refl
edit_open edit w s k o None = refl

whole-cut : (b : Bool) (w : World) (p : Seen) (k : ℕ × ℕ) (o : Open) → IsWhole (record w { opens = insert w.opens k o }) → IsWhole (let v = data_rows.cut_to b w p in record v { opens = insert v.opens k o })
whole-cut true w p k o h =
    let x = At w p in
    subst IsWhole (edit_open (λ t. resized t x.ino 0) w x.store k o (get w.stores x.store)) (whole-bytes (record w { opens = insert w.opens k o }) x.store x.ino (λ old. resize_bytes old 0) h)
whole-cut false w p k o h = h

opened_at : (w : World) → IsWhole w → (c fd : ℕ) (f : Flags) (p : Seen) → IsGood (facts_of w) p → IsWhole (data_rows.open_place w c fd f p)
opened_at w h c fd f p good = whole-open w (c, fd) (record { place = p; offset = 0; mode = data_rows.mode_of f; dead = false }) h (λ _. good.sound) (λ _. good.over)

whole-open_there : (w : World) → IsWhole w → (c fd : ℕ) (f : Flags) (p : Seen) → IsGood (facts_of w) p → Keeps (LeavesSo IsWhole) (MakesNode w) (data_rows.open_there w c fd f p)
whole-open_there w h c fd f p good =
    unless (is_dir (facts_of w) p && data_rows.writes f.access) _ (λ _.
    unless (not (is_dir (facts_of w) p) && f.dir) _ (λ _.
    then (data_rows.copied_for (data_rows.writes f.access) w p) (keeps-copied_for (data_rows.writes f.access) w p (λ _. good.ready)) (λ _ _.
    found_so (whole-cut f.cut w p (c, fd) (record { place = p; offset = 0; mode = data_rows.mode_of f; dead = false }) (opened_at w h c fd f p good)))))

-- what is made is there, and is what it was made
pub new_kind : (w : World) (s u : ℕ) (n : List ℕ) (node : Node) → IsWhole w → is_linked (facts_of w) s u ≡ true → is_given ((facts_of w).entry s u n) ≡ false → IsFresh u node → (o : Option Store) → get w.stores s ≡ o
    → (facts_of (with_store (λ t. made t u n node) w s o)).kind s (next_of o) ≡ Some (kind_of_node node)
new_kind w s u n node h linked free fresh (Some t) e =
    let link : linked_by (dir_in t u) ≡ true = sym (link_is w s u t e) ∙ linked in
    let d = the_dir t u (get t.nodes u) link in
    let unused : is_given (get d.names n) ≡ false = sym (ap (λ o. is_given (entry_in n o)) d.at) ∙ ap is_given (sym (entry_is w s u n t e)) ∙ free in
    let well = well_store w h s t e in
    let made_node : get (made t u n node).nodes t.next ≡ Some node = node_new t u n node d.parent d.opaque d.names well.below d.at in
    ap (λ o. option_map kind_of_node (option_and_then (λ (x : Store). get x.nodes t.next) o)) (get_at-insert nat_cmp_total w.stores s (made t u n node)) ∙ ap (option_map kind_of_node) made_node
new_kind w s u n node h linked free fresh None e = no_way (sym (ap (λ o. linked_by (option_and_then (λ (t : Store). dir_in t u) o)) e) ∙ linked)

pub mounts_stay : (edit : Store → Store) (w : World) (s m : ℕ) (o : Option Store) → kind_in (facts_of (with_store edit w s o)) m ≡ kind_in (facts_of w) m
mounts_stay edit w s m (Some t) = refl
mounts_stay edit w s m None = refl

whole-open_made : (w : World) → IsWhole w → (c fd : ℕ) (f : Flags) (d : Seen) (n : List ℕ) → IsTarget (facts_of w) d n None → Keeps (LeavesSo IsWhole) (MakesNode w) (data_rows.open_made w c fd f d n)
whole-open_made w h c fd f d n t =
    let b = At w d in
    let i : ℕ = next_of (get w.stores b.store) in
    let new : World = edit_at w d (λ t dir. made t dir n (File [])) in
    let upper : is_low d ≡ false = dir_upper (facts_of w) d t.good.sound.files t.dir in
    let same : (m : ℕ) → kind_in (facts_of new) m ≡ kind_in (facts_of w) m = λ m. mounts_stay (λ t. made t b.ino n (File [])) w b.store m (get w.stores b.store) in
    let there : IsSome ((facts_of new).kind b.store i) = ap is_some (new_kind w b.store b.ino n (File []) h t.linked (given_target (facts_of w) (view_of w h) d n None t) tt (get w.stores b.store) refl) in
    then {Q = λ v. IsWhole (data_rows.open_place v c fd f (data_rows.place_in d i))} (make_at w d n (File []))
    (unless (is_full w b.store) _ (λ free.
    found_so (whole-open new (c, fd) (record { place = data_rows.place_in d i; offset = 0; mode = data_rows.mode_of f; dead = false }) (whole-make w h d n (File []) t tt free)
    (λ _. in_sound (facts_of w) (facts_of new) same i d upper t.good.sound.mounts there) (λ _. in_over (facts_of w) (facts_of new) same i d upper t.good.over))))
    (λ v x. found_so x)

whole-open_found : (w : World) → IsWhole w → (c fd : ℕ) (f : Flags) (a : Found) → FreeFound (facts_of w) a → FoundWell (facts_of w) a → Keeps (LeavesSo IsWhole) (MakesNode w) (data_rows.open_found w c fd f a)
whole-open_found w h c fd f (found.At p) fa wa = whole-open_there w h c fd f p wa.good
whole-open_found w h c fd f (found.In d n None) fa wa = whole-open_made w h c fd f d n wa
whole-open_found w h c fd f (found.In d n (Some p)) fa wa = refused
whole-open_found w h c fd f (found.Dot d) fa wa = refused
whole-open_found w h c fd f (found.Mount m) fa wa = refused
whole-open_found w h c fd f (found.Refused e) fa wa = refused
whole-open_found w h c fd f (found.Need x) fa wa = keeps-shadow w x fa

pub whole-open_file : (w : World) (c : ℕ) (f : Flags) (a : Found) → FreeFound (facts_of w) a → Well w a → IsWhole w → Keeps (LeavesSo IsWhole) (MakesNode w) (data_rows.open_file w c f a)
whole-open_file w c f a fa wa h =
    unless (not (data_rows.are_flags f)) _ (λ _.
    then (data_rows.free_descriptor w c) (keeps-free_from (MakesNode w) 32 w c 0) (λ fd _.
    unless (not (nat_lt (len w.opens) w.limits.files)) _ (λ _. whole-open_found w h c fd f a fa (wa h))))

-- ---- chdir

pub whole-chdir : (w : World) (c : ℕ) (a : Found) → FreeFound (facts_of w) a → Well w a → IsWhole w → Keeps (LeavesSo IsWhole) (MakesNode w) (rows.chdir w c a)
whole-chdir w c a fa wa h =
    then (dir_at w a) (well-dir_at w a fa (wa h)) (λ d x.
    found_so (whole-cwd w c (record { place = d; dead = false }) h x.end.good.sound x.end.good.over x.dir))
