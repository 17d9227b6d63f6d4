-- Places that walks come by are sound.
use Rattle.std.proofs.Common.{◌≡◌, ℕ, zero, suc, ◌<◌, Bool, true, false, cond, not, ◌&&◌, ◌==◌, List, refl, ap, sym, ◌∙◌, subst}
use Rattle.std.specs.Prelude.{Option, Some, None, IsSome, IfSome, is_some, option_map, option_and_then}
use Rattle.vfs_tree.specs.Child.{Lookup, child_mem, child_null, child_below, child_low, child_union, low_within, low_by, upper_entry, child_within, child_of, steps}
use Rattle.vfs_tree.specs.Facts.{Facts}
use Rattle.vfs_tree.specs.Layers.{kind_in, store_by, is_dir, is_linked, is_root, is_cut, parent_ino, parent_by, parent_in, parent_unless, root_by, root_of, on_of, cut_by}
use Rattle.vfs_tree.specs.Place.{Seen, Mem, Null, UnionUp, UnionLow, mount_of}
use Rattle.vfs_tree.specs.Sound.{is_mem, is_null, is_union, names_mounts, AreFiles, IsSoundPlace, EachLayer, EachPlace, IsSoundView}
use Rattle.vfs_tree.specs.Walk.{leave_case, leave_within, leave, above}
use Rattle.vfs_tree.specs.declared.mount.Mount.{Mount}
use Rattle.vfs_tree.specs.declared.mount.MountKind.{MountKind}
use Rattle.vfs_tree.specs.declared.mount.MountKind.TheVariants as kind
use Rattle.vfs_tree.specs.declared.node.NameEntry.{NameEntry}
use Rattle.vfs_tree.specs.declared.node.NameEntry.TheVariants.{Ino, White}
use Rattle.vfs_tree.specs.declared.view.DirFacts.{DirFacts}
use Rattle.vfs_tree.specs.declared.walk.Child.{Child}
use Rattle.vfs_tree.specs.declared.walk.Child.TheVariants as child
use Rattle.vfs_tree.specs.declared.walk.Need.{Need}
use Rattle.call_laws.specs.Lasting.{lower_mount, IsOver, IsUncut}
use Rattle.call_laws.specs.Needing.{IsFree}
use Rattle.call_laws.proofs.ChildInduction.{ChildComes, Lies, ChildKeeps, has_free, in-child}
use Rattle.call_laws.proofs.NamedLaws.{no_way}
use Rattle.call_laws.proofs.SoundParts.{first_of, second_of, both_of, kind_or}

-- ---- what the lower layer alone has

-- the upper layer has nothing at the name of what a union has in its lower layer alone
abbrev pub IsReady : Facts → Seen → Type 0
IsReady f (Mem m i) = Unit {0}
IsReady f (Null m p) = IsReady f p
IsReady f (UnionUp m i) = Unit {0}
IsReady f (UnionLow m u n p) = IsFree f m u n

-- a directory is never of the lower layer alone
pub dir_ready : (f : Facts) (p : Seen) → AreFiles f p → is_dir f p ≡ true → IsReady f p
dir_ready f (Mem m i) files dir = tt
dir_ready f (Null m p) files dir = dir_ready f p files dir
dir_ready f (UnionUp m i) files dir = tt
dir_ready f (UnionLow m u n p) files dir = no_way (sym files.0 ∙ dir)

abbrev pub ReadyChild : Facts → Child → Type 0
ReadyChild f (child.At p) = IsReady f p
ReadyChild f child.Absent = Unit {0}
ReadyChild f (child.Need x) = Unit {0}

ready-null : (f : Facts) (m : ℕ) (a : Child) → ReadyChild f a → ReadyChild f (child_null m a)
ready-null f m (child.At p) h = h
ready-null f m child.Absent h = tt
ready-null f m (child.Need x) h = tt

ready-if : (f : Facts) (b : Bool) (x y : Child) → ReadyChild f x → ReadyChild f y → ReadyChild f (cond b x y)
ready-if f true x y p q = p
ready-if f false x y p q = q

ready-lower : (f : Facts) (m u : ℕ) (n : List ℕ) (a : Child) → IsFree f m u n → ReadyChild f (child_low f m u n a)
ready-lower f m u n (child.At q) free = ready-if f (is_dir f q) (child.Need (record { mount = m; dir = u; name = n })) (child.At (UnionLow m u n q)) tt free
ready-lower f m u n child.Absent free = tt
ready-lower f m u n (child.Need x) free = tt

-- by the upper entry, and by whether the directory is linked
ready-entry : (f : Facts) (look : Lookup) (m u : ℕ) (n : List ℕ) (s upper : ℕ) (lower : Seen) → kind_in f m ≡ Some (kind.Union s upper lower)
    → (e : Option NameEntry) → f.entry s u n ≡ e → (b : Bool) → is_linked f s u ≡ b
    → ReadyChild f (child_union f m u n e (child_below look (cond b (low_within steps f look s upper lower u) child.Absent)))
ready-entry f look m u n s upper lower is (Some (Ino i)) at b link = tt
ready-entry f look m u n s upper lower is (Some White) at b link = tt
ready-entry f look m u n s upper lower is None at true link =
    ready-lower f m u n (child_below look (low_within steps f look s upper lower u) n)
    (record { linked = ap (λ k. is_linked f (store_by k) u) is ∙ link; free = ap (λ k. f.entry (store_by k) u n) is ∙ at })
ready-entry f look m u n s upper lower is None at false link = tt

ready-union : (f : Facts) (look : Lookup) (m u : ℕ) (n : List ℕ) (k : Option MountKind) → kind_in f m ≡ k → ReadyChild f (child_union f m u n (upper_entry f k u n) (child_below look (low_by f look u k)))
ready-union f look m u n (Some (kind.Union s upper lower)) is = ready-entry f look m u n s upper lower is (f.entry s u n) refl (is_linked f s u) refl
ready-union f look m u n (Some kind.Mem) is = tt
ready-union f look m u n (Some (kind.Null layer)) is = tt
ready-union f look m u n None is = tt

ready-mem : (f : Facts) (m : ℕ) (e : Option NameEntry) → ReadyChild f (child_mem m e)
ready-mem f m (Some (Ino i)) = tt
ready-mem f m (Some White) = tt
ready-mem f m None = tt

pub ready-within : (k : ℕ) (f : Facts) (d : Seen) (n : List ℕ) → ReadyChild f (child_within k f d n)
ready-within zero f d n = tt
ready-within (suc k) f (Mem m i) n = ready-mem f m (f.entry m i n)
ready-within (suc k) f (Null m p) n = ready-null f m (child_within k f p n) (ready-within k f p n)
ready-within (suc k) f (UnionUp m u) n = ready-union f (child_within k f) m u n (kind_in f m) refl
ready-within (suc k) f (UnionLow m u a p) n = tt

-- ---- places

-- a sound place in mounts that aren't cut, seen over the mounts of their lower layers
pub record IsGood (f : Facts) (p : Seen) : Type 0 where
  pub sound : IsSoundPlace f p
  pub uncut : IsUncut f p
  pub over : IsOver f p
  pub ready : IsReady f p

good_mem : (f : Facts) (m i : ℕ) → is_mem (kind_in f m) ≡ true → is_cut f m ≡ false → IsSome (f.kind m i) → IsGood f (Mem m i)
good_mem f m i is cut there = record { sound = record { mounts = is; base = there; files = tt }; uncut = cut; over = tt; ready = tt }

good_up : (f : Facts) (m i : ℕ) → is_union (kind_in f m) ≡ true → is_cut f m ≡ false → IsSome (f.kind (store_by (kind_in f m)) i) → IsGood f (UnionUp m i)
good_up f m i is cut there = record { sound = record { mounts = is; base = there; files = tt }; uncut = cut; over = tt; ready = tt }

good_null : (f : Facts) (m : ℕ) (p : Seen) → is_null (kind_in f m) ≡ true → is_cut f m ≡ false → lower_mount (kind_in f m) ≡ Some (mount_of p) → IsGood f p → IsGood f (Null m p)
good_null f m p is cut over h = record {
  sound = record { mounts = both_of (is_null (kind_in f m)) (names_mounts f p) is h.sound.mounts; base = h.sound.base; files = h.sound.files };
  uncut = (cut, h.uncut);
  over = (over, h.over);
  ready = h.ready;
}

good_low : (f : Facts) (m u : ℕ) (n : List ℕ) (p : Seen) → is_union (kind_in f m) ≡ true → is_cut f m ≡ false → lower_mount (kind_in f m) ≡ Some (mount_of p) → is_dir f p ≡ false → IsFree f m u n
    → IsGood f p → IsGood f (UnionLow m u n p)
good_low f m u n p is cut over plain free h = record {
  sound = record { mounts = both_of (is_union (kind_in f m)) (names_mounts f p) is h.sound.mounts; base = h.sound.base; files = (plain, h.sound.files) };
  uncut = (cut, h.uncut);
  over = (over, h.over);
  ready = free;
}

-- what stands under a null mount
pub under_null : (f : Facts) (m : ℕ) (p : Seen) → IsGood f (Null m p) → IsGood f p
under_null f m p h = record {
  sound = record { mounts = second_of (is_null (kind_in f m)) (names_mounts f p) h.sound.mounts; base = h.sound.base; files = h.sound.files };
  uncut = h.uncut.1;
  over = h.over.1;
  ready = h.ready;
}

pub head_uncut : (f : Facts) (p : Seen) → IsUncut f p → is_cut f (mount_of p) ≡ false
head_uncut f (Mem m i) h = h
head_uncut f (Null m p) h = h.0
head_uncut f (UnionUp m i) h = h
head_uncut f (UnionLow m u n p) h = h.0

-- a shadow directory in a union that isn't cut
abbrev pub UncutNeed : Facts → Need → Type 0
UncutNeed f x = is_cut f x.mount ≡ false

-- what is to be known of a view
pub record IsGoodView (f : Facts) : Type 0 where
  pub sound : IsSoundView f
  pub places : (m : ℕ) → IfSome (f.mount m) (λ t. t.cut ≡ false → EachPlace (IsGood f) t)
  pub roots : (m : ℕ) → kind_in f m ≡ Some kind.Mem → IsSome (f.kind m 1)
  pub parents : (s i : ℕ) → IfSome (f.dir s i) (λ d. IsSome (f.kind s d.parent))
  pub first : is_cut f 0 ≡ false
  -- what covers a place is there, and has a greater number
  pub covers : (p : Seen) (m : ℕ) → f.covering p ≡ Some m → IsSome (f.mount m)
  pub rises : (p : Seen) (m : ℕ) → f.covering p ≡ Some m → mount_of p < m
  pub few : (m : ℕ) → IsSome (f.mount m) → m < 4294967295

layers_of : (f : Facts) (o : Option Mount) → IfSome o (λ t. t.cut ≡ false → EachPlace (IsGood f) t) → cut_by o ≡ false
    → (k : MountKind) → option_map (λ (t : Mount). t.kind) o ≡ Some k → EachLayer (IsGood f) k
layers_of f (Some t) h cut k is = subst (EachLayer (IsGood f)) (ap kind_or is) (h cut).1
layers_of f None h cut k is = absurd (let clash : None ≡ Some k = is in cc)

covered_by : (f : Facts) (o : Option Mount) → IfSome o (λ t. t.cut ≡ false → EachPlace (IsGood f) t) → cut_by o ≡ false
    → (p : Seen) → option_and_then (λ (t : Mount). t.on) o ≡ Some p → IsGood f p
covered_by f (Some t) h cut p is = subst (λ x. IfSome x (IsGood f)) is (h cut).0
covered_by f None h cut p is = absurd (let clash : None ≡ Some p = is in cc)

pub there_kind : (o : Option Mount) → IsSome o → IsSome (option_map (λ (t : Mount). t.kind) o)
there_kind (Some t) h = refl
there_kind None h = no_way h

unless_mount : (b : Bool) (d up : Seen) → mount_of up ≡ mount_of d → mount_of (parent_unless b d up) ≡ mount_of d
unless_mount true d up e = refl
unless_mount false d up e = e

parent_mount : (f : Facts) (d : Seen) → mount_of (parent_in f d) ≡ mount_of d
parent_mount f (Mem m i) = unless_mount (is_root f (Mem m i)) (Mem m i) (Mem m (parent_ino f m i)) refl
parent_mount f (Null m p) = unless_mount (is_root f (Null m p)) (Null m p) (Null m (parent_in f p)) refl
parent_mount f (UnionUp m i) = unless_mount (is_root f (UnionUp m i)) (UnionUp m i) (UnionUp m (parent_ino f (store_by (kind_in f m)) i)) refl
parent_mount f (UnionLow m u n p) = refl

module _ (f : Facts) (view : IsGoodView f) where
  -- ---- mounts

  pub good_layers : (m : ℕ) (k : MountKind) → kind_in f m ≡ Some k → is_cut f m ≡ false → EachLayer (IsGood f) k
  good_layers m k is cut = layers_of f (f.mount m) (view.places m) cut k is

  good_on : (m : ℕ) (p : Seen) → on_of f m ≡ Some p → is_cut f m ≡ false → IsGood f p
  good_on m p is cut = covered_by f (f.mount m) (view.places m) cut p is

  root_case : (m : ℕ) (k : Option MountKind) → kind_in f m ≡ k → IsSome k → is_cut f m ≡ false → IsGood f (root_by m k)
  root_case m (Some kind.Mem) is there cut = good_mem f m 1 (ap is_mem is) cut (view.roots m is)
  root_case m (Some (kind.Null layer)) is there cut = good_null f m layer (ap is_null is) cut (ap lower_mount is) (good_layers m (kind.Null layer) is cut)
  root_case m (Some (kind.Union s u lower)) is there cut =
      good_up f m u (ap is_union is) cut (ap (λ k. is_some (f.kind (store_by k) u)) is ∙ (good_layers m (kind.Union s u lower) is cut).0.sound.base)
  root_case m None is there cut = no_way there

  pub good_root : (m : ℕ) → IsSome (f.mount m) → is_cut f m ≡ false → IsGood f (root_of f m)
  good_root m there cut = root_case m (kind_in f m) refl (there_kind (f.mount m) there) cut

  -- ---- children, which lie in the mount of their directory

  pub good_keeps : ChildKeeps f (UncutNeed f) (IsGood f)
  good_keeps = record {
    mem = λ m i j n h at. good_mem f m j h.sound.mounts h.uncut ((view.sound.names m).given i j n at);
    under = λ m p h. under_null f m p h;
    over = λ m p q h same g. good_null f m q (first_of (is_null (kind_in f m)) (names_mounts f p) h.sound.mounts) h.uncut.0 (h.over.0 ∙ ap Some (sym same)) g;
    lower = λ m u s top lower h is. (good_layers m (kind.Union s top lower) is h.uncut).1;
    upper = λ m u i s top lower n h is at. good_up f m i (ap is_union is) h.uncut (ap (λ k. is_some (f.kind (store_by k) i)) is ∙ (view.sound.names s).given u i n at);
    alone = λ k m u n q h has g plain. good_low f m u n q h.sound.mounts h.uncut (ap lower_mount has.union ∙ ap Some (sym has.inside)) plain (has_free has) g;
    need = λ k m u n q h has g dir. h.uncut;
  }

  abbrev pub GoodChild : ℕ → Child → Type 0
  GoodChild l c = ChildComes (UncutNeed f) (Lies (IsGood f) l) c

  pub good-child : (d : Seen) (n : List ℕ) → IsGood f d → GoodChild (mount_of d) (child_of f d n)
  good-child d n h = in-child f (UncutNeed f) (IsGood f) good_keeps d n h

  -- ---- up

  parent_there : (s i : ℕ) (o : Option DirFacts) → IfSome o (λ d. IsSome (f.kind s d.parent)) → IsSome (f.kind s i) → IsSome (f.kind s (parent_by i o))
  parent_there s i (Some d) h there = h
  parent_there s i None h there = there

  good_unless : (b : Bool) (d up : Seen) → IsGood f d → IsGood f up → IsGood f (parent_unless b d up)
  good_unless true d up p q = p
  good_unless false d up p q = q

  good_parent : (d : Seen) → IsGood f d → IsGood f (parent_in f d)
  good_parent (Mem m i) h =
      good_unless (is_root f (Mem m i)) (Mem m i) (Mem m (parent_ino f m i)) h
      (good_mem f m (parent_ino f m i) h.sound.mounts h.uncut (parent_there m i (f.dir m i) (view.parents m i) h.sound.base))
  good_parent (Null m p) h =
      good_unless (is_root f (Null m p)) (Null m p) (Null m (parent_in f p)) h
      (good_null f m (parent_in f p) (first_of (is_null (kind_in f m)) (names_mounts f p) h.sound.mounts) h.uncut.0 (h.over.0 ∙ ap Some (sym (parent_mount f p))) (good_parent p (under_null f m p h)))
  good_parent (UnionUp m i) h =
      let s = store_by (kind_in f m) in
      good_unless (is_root f (UnionUp m i)) (UnionUp m i) (UnionUp m (parent_ino f s i)) h
      (good_up f m (parent_ino f s i) h.sound.mounts h.uncut (parent_there s i (f.dir s i) (view.parents s i) h.sound.base))
  good_parent (UnionLow m u n p) h = h

  leave_good : (on : Seen → Seen) → ((p : Seen) → IsGood f p → IsGood f (on p)) → (d : Seen) → IsGood f d → (b : Bool) (o : Option Seen) → on_of f (mount_of d) ≡ o → IsGood f (leave_case on d b o)
  leave_good on g d h true (Some p) is = g p (good_on (mount_of d) p is (head_uncut f d h.uncut))
  leave_good on g d h true None is = h
  leave_good on g d h false p is = h

  good_leave : (k : ℕ) (d : Seen) → IsGood f d → IsGood f (leave_within k f d)
  good_leave zero d h = h
  good_leave (suc k) d h = leave_good (leave_within k f) (good_leave k) d h (not (mount_of d == 0) && is_root f d) (on_of f (mount_of d)) refl

  pub good_above : (d : Seen) → IsGood f d → IsGood f (above f d)
  good_above d h = good_parent (leave f d) (good_leave steps d h)
