-- What paths find: files of a lower layer alone where their union has them, and needs of shadow directories.
use Rattle.std.proofs.Common.{◌≡◌, ℕ, zero, suc, ◌<◌, Bool, true, false, cond, not, ◌&&◌, ◌==◌, List, refl, sym, ◌∙◌, subst, arith}
use Rattle.std.specs.Prelude.{Option, Some, None, IsSome, IfSome, option_map, option_and_then}
use Rattle.std.specs.FinMap.{get}
use Rattle.vfs_tree.specs.Child.{child_mem, child_null, child_below, child_low, child_union, low_by, upper_entry, child_within, child_of, steps}
use Rattle.vfs_tree.specs.Facts.{Facts}
use Rattle.vfs_tree.specs.Layers.{kind_in, store_by, is_cut, cut_by, is_dir, is_root, parent_ino, parent_in, parent_unless, root_by, root_of, on_of}
use Rattle.vfs_tree.specs.Place.{Seen, Mem, Null, UnionUp, UnionLow, mount_of}
use Rattle.vfs_tree.specs.Sound.{AreFiles, IsSoundPlace, IsSoundDir, EachLayer, EachPlace}
use Rattle.vfs_tree.specs.Views.{facts_of}
use Rattle.vfs_tree.specs.Walk.{leave_case, leave_within, leave, above}
use Rattle.vfs_tree.specs.declared.mount.Mount.{Mount as Mounted}
use Rattle.vfs_tree.specs.declared.mount.MountKind.{MountKind}
use Rattle.vfs_tree.specs.declared.mount.MountKind.TheVariants as kind
use Rattle.vfs_tree.specs.declared.node.NameEntry.{NameEntry}
use Rattle.vfs_tree.specs.declared.node.NameEntry.TheVariants.{Ino, White}
use Rattle.vfs_tree.specs.declared.open.Cwd.{Cwd}
use Rattle.vfs_tree.specs.declared.walk.Child.{Child}
use Rattle.vfs_tree.specs.declared.walk.Child.TheVariants as child
use Rattle.vfs_tree.specs.declared.walk.Found.{Found}
use Rattle.vfs_tree.specs.declared.world.World.{World}
use Rattle.call_model.specs.Rows.{Way, found_at}
use Rattle.call_laws.specs.Lasting.{IsOver}
use Rattle.call_laws.proofs.ChildInduction.{Anything, ChildComes, so-child}
use Rattle.call_laws.proofs.FoundLaws.{IsGood, IsGoodView, GoodChild, head_uncut, good_root, good-child, good_above}
use Rattle.call_laws.proofs.NamedLaws.{no_way}
use Rattle.call_laws.proofs.PlaceLaws.{good_view, good_dir}
use Rattle.call_laws.proofs.WalkInduction.{entered_at, NameSo, WalkKeeps, FoundSo, found_so}
use Rattle.call_laws.proofs.WalkLaws.{good_walks}
use Rattle.call_laws.proofs.Whole.{IsWhole}
use Rattle.layer_laws.proofs.NestLaws.{Nests, over_nests, child_from}
use Rattle.need_laws.proofs.ShadowLaws.{ShadowNeed, need_keeps}

-- ---- files of a lower layer alone

-- such a file is what its union has at the name
abbrev pub LowThere : Facts → Seen → Type 0
LowThere f (Mem m i) = Unit {0}
LowThere f (Null m p) = LowThere f p
LowThere f (UnionUp m i) = Unit {0}
LowThere f (UnionLow m u n q) = child_of f (UnionUp m u) n ≡ child.At (UnionLow m u n q)

abbrev LowChild : Facts → Child → Type 0
LowChild f (child.At p) = LowThere f p
LowChild f child.Absent = Unit {0}
LowChild f (child.Need x) = Unit {0}

-- a directory is none
low_dir : (f : Facts) (p : Seen) → AreFiles f p → is_dir f p ≡ true → LowThere f p
low_dir f (Mem m i) files dir = tt
low_dir f (Null m p) files dir = low_dir f p files dir
low_dir f (UnionUp m i) files dir = tt
low_dir f (UnionLow m u n p) files dir = no_way (sym files.0 ∙ dir)

low-mem : (f : Facts) (m : ℕ) (e : Option NameEntry) → LowChild f (child_mem m e)
low-mem f m (Some (Ino i)) = tt
low-mem f m (Some White) = tt
low-mem f m None = tt

low-null : (f : Facts) (m : ℕ) (c : Child) → LowChild f c → LowChild f (child_null m c)
low-null f m (child.At p) h = h
low-null f m child.Absent h = tt
low-null f m (child.Need x) h = tt

low-lower : (f : Facts) (m u : ℕ) (n : List ℕ) (a : Child) → child_of f (UnionUp m u) n ≡ child_low f m u n a → LowChild f (child_low f m u n a)
low-lower f m u n (child.At q) e = by (is_dir f q) e
  where
    by : (b : Bool) → child_of f (UnionUp m u) n ≡ cond b (child.Need (record { mount = m; dir = u; name = n })) (child.At (UnionLow m u n q))
        → LowChild f (cond b (child.Need (record { mount = m; dir = u; name = n })) (child.At (UnionLow m u n q)))
    by true e = tt
    by false e = e
low-lower f m u n child.Absent e = tt
low-lower f m u n (child.Need x) e = tt

low-union : (f : Facts) (m u : ℕ) (n : List ℕ) (e : Option NameEntry) (below : List ℕ → Child) → child_of f (UnionUp m u) n ≡ child_union f m u n e below → LowChild f (child_union f m u n e below)
low-union f m u n (Some (Ino i)) below is = tt
low-union f m u n (Some White) below is = tt
low-union f m u n None below is = low-lower f m u n (below n) is

module _ (f : Facts) (view : IsGoodView f) where
  low-within : (k : ℕ) (d : Seen) (n : List ℕ) → Nests f d → mount_of d < k → LowChild f (child_within k f d n)
  low-within zero d n h less = tt
  low-within (suc k) (Mem m i) n h less = low-mem f m (f.entry m i n)
  low-within (suc k) (Null m p) n h less = let under : mount_of p < m = h.0 in low-null f m (child_within k f p n) (low-within k p n h.1 (omega (arith, under, less)))
  low-within (suc k) (UnionUp m u) n h less =
      low-union f m u n (upper_entry f (kind_in f m) u n) (child_below (child_within k f) (low_by f (child_within k f) u (kind_in f m))) (sym (child_from f view (suc k) (UnionUp m u) n h less))
  low-within (suc k) (UnionLow m u a p) n h less = tt

  -- a place that is good, and there where it is of a lower layer alone
  abbrev pub Here : Seen → Type 0
  Here p = IsGood f p × LowThere f p

  abbrev HereChild : Child → Type 0
  HereChild c = ChildComes (ShadowNeed f) Here c

  here_child : (l : ℕ) (c : Child) → GoodChild f view l c → LowChild f c → ChildComes (ShadowNeed f) Anything c → HereChild c
  here_child l (child.At p) good low need = (good.0, low)
  here_child l child.Absent good low need = tt
  here_child l (child.Need x) good low need = need

  -- what stands at a name of a good directory
  pub here-child : (d : Seen) (n : List ℕ) → IsGood f d → HereChild (child_of f d n)
  here-child d n h =
      here_child (mount_of d) (child_of f d n) (good-child f view d n h) (low-within (suc (mount_of d)) d n (over_nests f view d h.uncut h.over) (omega arith))
      (so-child f (ShadowNeed f) Anything (need_keeps f view) d n tt)

  pub here_at : (d p : Seen) (n : List ℕ) → IsGood f d → child_of f d n ≡ child.At p → Here p
  here_at d p n h is = subst HereChild is (here-child d n h)

-- ---- mounts

on_so : (P : Seen → Type 0) (o : Option Mounted) → IfSome o (λ t. t.cut ≡ false → EachPlace P t) → cut_by o ≡ false → (p : Seen) → option_and_then (λ (t : Mounted). t.on) o ≡ Some p → P p
on_so P (Some t) h cut p is = subst (λ x. IfSome x P) is (h cut).0
on_so P None h cut p is = absurd (let clash : None ≡ Some p = is in cc)

low_kind : (f : Facts) (m : ℕ) (k : MountKind) → EachLayer (IsSoundDir f) k → LowThere f (root_by m (Some k))
low_kind f m kind.Mem h = tt
low_kind f m (kind.Null layer) h = low_dir f layer h.place.files h.dir
low_kind f m (kind.Union s u lower) h = tt

low_mount : (f : Facts) (m : ℕ) (o : Option Mounted) → IfSome o (λ t. t.cut ≡ false → EachPlace (IsSoundDir f) t) → cut_by o ≡ false → LowThere f (root_by m (option_map (λ (t : Mounted). t.kind) o))
low_mount f m (Some t) h cut = low_kind f m t.kind (h cut).1
low_mount f m None h cut = tt

low_unless : (f : Facts) (b : Bool) (d up : Seen) → LowThere f d → LowThere f up → LowThere f (parent_unless b d up)
low_unless f true d up p q = p
low_unless f false d up p q = q

low_parent : (f : Facts) (d : Seen) → LowThere f d → LowThere f (parent_in f d)
low_parent f (Mem m i) h = low_unless f (is_root f (Mem m i)) (Mem m i) (Mem m (parent_ino f m i)) tt tt
low_parent f (Null m p) h = low_unless f (is_root f (Null m p)) (Null m p) (Null m (parent_in f p)) h (low_parent f p h)
low_parent f (UnionUp m i) h = low_unless f (is_root f (UnionUp m i)) (UnionUp m i) (UnionUp m (parent_ino f (store_by (kind_in f m)) i)) tt tt
low_parent f (UnionLow m u n p) h = h

module _ (w : World) (h : IsWhole w) where
  abbrev f : Facts
  f = facts_of w

  view : IsGoodView (facts_of w)
  view = good_view w h.sound h.lasts

  abbrev pub At : Seen → Type 0
  At p = IsGood (facts_of w) p × LowThere (facts_of w) p

  at_root : (m : ℕ) → IsSome (f.mount m) → is_cut f m ≡ false → At (root_of f m)
  at_root m there cut = (good_root f view m there cut, low_mount f m (get w.mounts m) (h.sound.view.places m) cut)

  -- ---- up

  low_leave_case : (on : Seen → Seen) → ((p : Seen) → At p → LowThere f (on p)) → (d : Seen) → At d → (b : Bool) (o : Option Seen) → on_of f (mount_of d) ≡ o → LowThere f (leave_case on d b o)
  low_leave_case on g d at true (Some p) is =
      let cut : is_cut f (mount_of d) ≡ false = head_uncut f d at.0.uncut in
      let dir : IsSoundDir f p = on_so (IsSoundDir f) (get w.mounts (mount_of d)) (h.sound.view.places (mount_of d)) cut p is in
      g p (on_so (IsGood f) (get w.mounts (mount_of d)) (view.places (mount_of d)) cut p is, low_dir f p dir.place.files dir.dir)
  low_leave_case on g d at true None is = at.1
  low_leave_case on g d at false p is = at.1

  low_leave : (k : ℕ) (d : Seen) → At d → LowThere f (leave_within k f d)
  low_leave zero d at = at.1
  low_leave (suc k) d at = low_leave_case (leave_within k f) (low_leave k) d at (not (mount_of d == 0) && is_root f d) (on_of f (mount_of d)) refl

  at_above : (d : Seen) → At d → At (above f d)
  at_above d at = (good_above f view d at.0, low_parent f (leave f d) (low_leave steps d at))

  -- ---- what paths find

  names_here : (c : Child) → HereChild f view c → NameSo (ShadowNeed f) At Anything c
  names_here (child.At p) here = (here, tt)
  names_here child.Absent here = tt
  names_here (child.Need x) here = here

  covers_here : (p : Seen) (m : ℕ) → f.covering p ≡ Some m → is_cut f m ≡ false → At (root_of f m)
  covers_here p m is cut = at_root m (view.covers p m is) cut

  here_walks : WalkKeeps f (ShadowNeed f) At At (λ d n. Anything) Anything
  here_walks = record {
    root = ((good_walks f view).root, tt);
    above = at_above;
    child = λ d n at dir linked. names_here (child_of f d n) (here-child f view d n at.0);
    covers = covers_here;
    ends = λ p at. entered_at f (ShadowNeed f) At covers_here steps p at;
    mount = λ p at. tt;
    into = λ p m is. tt;
  }

  at_cwd : (o : Option Cwd) → IfSome o (λ d. d.dead ≡ false → IsSoundPlace f d.place) → IfSome o (λ d. d.dead ≡ false → IsOver f d.place × (is_dir f d.place ≡ true))
      → IfSome o (λ d. d.dead ≡ false → is_cut f (mount_of d.place) ≡ false → At d.place)
  at_cwd (Some d) sound over = λ alive cut. (good_dir w h.sound h.lasts d.place (sound alive) (over alive).0 (over alive).1 cut, low_dir f d.place (sound alive).files (over alive).1)
  at_cwd None sound over = tt

  -- what is found is there, and what is needed is so
  abbrev pub FoundHere : Found → Type 0
  FoundHere x = FoundSo (ShadowNeed (facts_of w)) At (λ d n. Anything) Anything x

  -- what a path of a call finds
  pub here-found : (c : ℕ) (o : Option Way) → FoundHere (found_at w c o)
  here-found c o = found_so w (ShadowNeed f) At At (λ d n. Anything) Anything here_walks c (at_cwd (get w.cwds c) (h.sound.cwds c) (h.lasts.cwds c)) o
