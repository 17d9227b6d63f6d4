-- The steps by which walks pass mounts, and layers are counted, are enough.
use Rattle.std.proofs.Common.{◌≡◌, ℕ, zero, suc, ◌+◌, ◌≤◌, ◌<◌, Bool, true, false, not, ◌&&◌, ◌==◌, List, [], ◌∷◌, refl, ap, sym, ◌∙◌, subst, arith}
use Rattle.std.specs.Prelude.{Option, Some, None, IsSome, IfSome, option_and_then}
use Rattle.vfs_tree.specs.Child.{steps}
use Rattle.vfs_tree.specs.Facts.{Facts}
use Rattle.vfs_tree.specs.Layers.{kind_in, root_by, root_of, is_root, on_of, is_cut, depth_by, depth_within, depth, stores_by, stores_within, stores}
use Rattle.vfs_tree.specs.Place.{Seen, mount_of}
use Rattle.vfs_tree.specs.Sound.{EachPlace, IsBelow, IsSound}
use Rattle.vfs_tree.specs.Steps.{◌>>◌, refuse_if}
use Rattle.vfs_tree.specs.Views.{facts_of}
use Rattle.vfs_tree.specs.Walk.{Walked, enter_case, enter_within, enter_as, leave_case, leave_within, leave}
use Rattle.vfs_tree.specs.declared.errno.Errno.TheVariants as errno
use Rattle.vfs_tree.specs.declared.mount.Mount.{Mount}
use Rattle.vfs_tree.specs.declared.mount.MountKind.{MountKind}
use Rattle.vfs_tree.specs.declared.mount.MountKind.TheVariants as kind
use Rattle.vfs_tree.specs.declared.world.World.{World}
use Rattle.call_laws.specs.Lasting.{lower_mount, IsLasting}
use Rattle.call_laws.proofs.DetachLaws.{lower_less}
use Rattle.call_laws.proofs.FoundLaws.{IsGoodView}
use Rattle.call_laws.proofs.NamedLaws.{no_way}
use Rattle.call_laws.proofs.PlaceLaws.{below_head, good_view}

root_in : (m : ℕ) (k : Option MountKind) → mount_of (root_by m k) ≡ m
root_in m (Some kind.Mem) = refl
root_in m (Some (kind.Null layer)) = refl
root_in m (Some (kind.Union s u lower)) = refl
root_in m None = refl

many : (n : ℕ) → 4294967295 ≤ steps + n
unfolding steps
many n = omega arith

-- ---- into mounts: each that is entered has a greater number

module _ (f : Facts) (view : IsGoodView f) (b : Bool) where
  -- where that many steps are passed, nothing covers
  all_passed : (p : Seen) → 4294967295 ≤ mount_of p → (m : ℕ) → f.covering p ≡ Some m → ⊥
  all_passed p far m is =
      let rises : mount_of p < m = view.rises p m is in
      let few : m < 4294967295 = view.few m (view.covers p m is) in
      absurd (omega (arith, far, rises, few))

  abbrev Same : ℕ → ℕ → Seen → Type 0
  Same k j p = enter_within k f b p ≡ enter_within j f b p

  no_more : (on : Seen → Walked Seen) (p : Seen) → 4294967295 ≤ mount_of p → (o : Option ℕ) → f.covering p ≡ o → enter_within zero f b p ≡ enter_case on f b p o
  no_more on p far None is = refl
  no_more on p far (Some m) is = absurd (all_passed p far m is)

  one_more : (k j : ℕ) → ((p : Seen) → 4294967295 ≤ k + mount_of p → 4294967295 ≤ j + mount_of p → Same k j p) → (p : Seen) → 4294967295 ≤ suc k + mount_of p → 4294967295 ≤ suc j + mount_of p
      → (o : Option ℕ) → f.covering p ≡ o → enter_case (enter_within k f b) f b p o ≡ enter_case (enter_within j f b) f b p o
  one_more k j h p x y None is = refl
  one_more k j h p x y (Some m) is =
      let rises : mount_of p < m = view.rises p m is in
      let at : mount_of (root_of f m) ≡ m = root_in m (kind_in f m) in
      ap (λ (s : Walked Seen). refuse_if (not b && is_cut f m) errno.EIO >> s)
      (h (root_of f m) (subst (λ n. 4294967295 ≤ k + n) (sym at) (omega (arith, rises, x))) (subst (λ n. 4294967295 ≤ j + n) (sym at) (omega (arith, rises, y))))

  entered_same : (k j : ℕ) (p : Seen) → 4294967295 ≤ k + mount_of p → 4294967295 ≤ j + mount_of p → Same k j p
  entered_same zero zero p x y = refl
  entered_same zero (suc j) p x y = no_more (enter_within j f b) p (omega (arith, x)) (f.covering p) refl
  entered_same (suc k) zero p x y = sym (no_more (enter_within k f b) p (omega (arith, y)) (f.covering p) refl)
  entered_same (suc k) (suc j) p x y = one_more k j (entered_same k j) p x y (f.covering p) refl

  enough_in : (p : Seen) → Same steps (suc steps) p
  enough_in p = let far = many (mount_of p) in entered_same steps (suc steps) p far (omega (arith, far))

pub whole_enter : (w : World) → IsSound w → IsLasting w → (b : Bool) (p : Seen) → enter_as (facts_of w) b p ≡ enter_case (enter_as (facts_of w) b) (facts_of w) b p ((facts_of w).covering p)
whole_enter w sound lasts b p = enough_in (facts_of w) (good_view w sound lasts) b p

-- ---- out of mounts: each that is covered has a smaller number

on_less : (m : ℕ) (o : Option Mount) → IfSome o (EachPlace (IsBelow m)) → (p : Seen) → option_and_then (λ (t : Mount). t.on) o ≡ Some p → mount_of p < m
on_less m (Some t) h p is = below_head m p (subst (λ x. IfSome x (IsBelow m)) is h.0)
on_less m None h p is = absurd (let clash : None ≡ Some p = is in cc)

there_on : (o : Option Mount) (p : Seen) → option_and_then (λ (t : Mount). t.on) o ≡ Some p → IsSome o
there_on (Some t) p is = refl
there_on None p is = absurd (let clash : None ≡ Some p = is in cc)

module _ (f : Facts) (view : IsGoodView f) where
  abbrev leaves : Seen → Bool
  leaves d = not (mount_of d == 0) && is_root f d

  none_below : (d : Seen) → mount_of d ≡ 0 → leaves d ≡ false
  none_below d is = ap (λ n. not (n == 0) && is_root f d) is

  one_out : (k j : ℕ) (d : Seen) → ((p : Seen) → mount_of p ≤ k → mount_of p ≤ j → leave_within k f p ≡ leave_within j f p) → mount_of d ≤ suc k → mount_of d ≤ suc j
      → (b : Bool) (o : Option Seen) → on_of f (mount_of d) ≡ o → leave_case (leave_within k f) d b o ≡ leave_case (leave_within j f) d b o
  one_out k j d h x y true (Some p) is =
      let less : mount_of p < mount_of d = on_less (mount_of d) (f.mount (mount_of d)) (view.sound.smaller (mount_of d)) p is in
      h p (omega (arith, less, x)) (omega (arith, less, y))
  one_out k j d h x y true None is = refl
  one_out k j d h x y false (Some p) is = refl
  one_out k j d h x y false None is = refl

  stays_out : (on : Seen → Seen) (d : Seen) (b : Bool) (o : Option Seen) → b ≡ false → leave_case on d b o ≡ d
  stays_out on d true o e = no_way (sym e)
  stays_out on d false (Some p) e = refl
  stays_out on d false None e = refl

  left_same : (k j : ℕ) (d : Seen) → mount_of d ≤ k → mount_of d ≤ j → leave_within k f d ≡ leave_within j f d
  left_same zero zero d x y = refl
  left_same zero (suc j) d x y = sym (stays_out (leave_within j f) d (leaves d) (on_of f (mount_of d)) (none_below d (omega (arith, x))))
  left_same (suc k) zero d x y = stays_out (leave_within k f) d (leaves d) (on_of f (mount_of d)) (none_below d (omega (arith, y)))
  left_same (suc k) (suc j) d x y = one_out k j d (left_same k j) x y (leaves d) (on_of f (mount_of d)) refl

  -- the first step of many
  first_out : (k : ℕ) (d : Seen) → 4294967295 ≤ k → leave_within k f d ≡ leave_case (leave_within k f) d (leaves d) (on_of f (mount_of d))
  first_out zero d far = absurd (omega (arith, far))
  first_out (suc k) d far = by (leaves d) (on_of f (mount_of d)) refl
    where
      by : (b : Bool) (o : Option Seen) → on_of f (mount_of d) ≡ o → leave_case (leave_within k f) d b o ≡ leave_case (leave_within (suc k) f) d b o
      by true (Some p) is =
          let less : mount_of p < mount_of d = on_less (mount_of d) (f.mount (mount_of d)) (view.sound.smaller (mount_of d)) p is in
          let few : mount_of d < 4294967295 = view.few (mount_of d) (there_on (f.mount (mount_of d)) p is) in
          left_same k (suc k) p (omega (arith, less, few, far)) (omega (arith, less, few, far))
      by true None is = refl
      by false (Some p) is = refl
      by false None is = refl

pub whole_leave : (w : World) → IsSound w → IsLasting w → (d : Seen)
    → leave (facts_of w) d ≡ leave_case (leave (facts_of w)) d (not (mount_of d == 0) && is_root (facts_of w) d) (on_of (facts_of w) (mount_of d))
whole_leave w sound lasts d = first_out (facts_of w) (good_view w sound lasts) steps d (let far = many 0 in omega (arith, far))

-- ---- layers: each lies in a mount with a smaller number

module _ (f : Facts) (smaller : (m : ℕ) → IfSome (f.mount m) (EachPlace (IsBelow m))) where
  less : (m l : ℕ) (k : Option MountKind) → kind_in f m ≡ k → lower_mount k ≡ Some l → l < m
  less m l k is e = lower_less m (f.mount m) l (smaller m) (ap lower_mount is ∙ e)

  -- the layer of a mount, through more mounts or fewer
  module _ {A : Type 0} (count : ℕ → Facts → ℕ → A) (by : (ℕ → A) → ℕ → Option MountKind → A) (first : (k m : ℕ) → count (suc k) f m ≡ by (count k f) m (kind_in f m))
      (alike : (g h : ℕ → A) (m : ℕ) (k : Option MountKind) → ((l : ℕ) → lower_mount k ≡ Some l → g l ≡ h l) → by g m k ≡ by h m k) where
    counted_same : (k j m : ℕ) → m < k → m < j → count k f m ≡ count j f m
    counted_same zero j m x y = absurd (omega (arith, x))
    counted_same (suc k) zero m x y = absurd (omega (arith, y))
    counted_same (suc k) (suc j) m x y =
        first k m
        ∙ alike (count k f) (count j f) m (kind_in f m) (λ l e. let below : l < m = less m l (kind_in f m) refl e in counted_same k j l (omega (arith, below, x)) (omega (arith, below, y)))
        ∙ sym (first j m)

  depth_alike : (g h : ℕ → ℕ) (m : ℕ) (k : Option MountKind) → ((l : ℕ) → lower_mount k ≡ Some l → g l ≡ h l) → depth_by g k ≡ depth_by h k
  depth_alike g h m (Some kind.Mem) e = refl
  depth_alike g h m (Some (kind.Null layer)) e = ap (λ n. 1 + n) (e (mount_of layer) refl)
  depth_alike g h m (Some (kind.Union s u lower)) e = ap (λ n. 1 + n) (e (mount_of lower) refl)
  depth_alike g h m None e = refl

  depth_same : (k j m : ℕ) → m < k → m < j → depth_within k f m ≡ depth_within j f m
  depth_same = counted_same depth_within (λ g m k. depth_by g k) (λ k m. refl) depth_alike

  stores_alike : (g h : ℕ → List ℕ) (m : ℕ) (k : Option MountKind) → ((l : ℕ) → lower_mount k ≡ Some l → g l ≡ h l) → stores_by g m k ≡ stores_by h m k
  stores_alike g h m (Some kind.Mem) e = refl
  stores_alike g h m (Some (kind.Null layer)) e = e (mount_of layer) refl
  stores_alike g h m (Some (kind.Union s u lower)) e = ap (λ (t : List ℕ). s ∷ t) (e (mount_of lower) refl)
  stores_alike g h m None e = refl

  stores_same : (k j m : ℕ) → m < k → m < j → stores_within k f m ≡ stores_within j f m
  stores_same = counted_same stores_within stores_by (λ k m. refl) stores_alike

pub depth_mem : (w : World) (p : Seen) → kind_in (facts_of w) (mount_of p) ≡ Some kind.Mem → depth (facts_of w) p ≡ 0
depth_mem w p is = ap (depth_by (depth_within (mount_of p) (facts_of w))) is

pub stores_mem : (w : World) (p : Seen) → kind_in (facts_of w) (mount_of p) ≡ Some kind.Mem → stores (facts_of w) p ≡ mount_of p ∷ []
stores_mem w p is = ap (stores_by (stores_within (mount_of p) (facts_of w)) (mount_of p)) is

module _ (w : World) (p lower : Seen) (sound : IsSound w) where
  abbrev f : Facts
  f = facts_of w

  below : (k : Option MountKind) → kind_in f (mount_of p) ≡ k → lower_mount k ≡ Some (mount_of lower) → mount_of lower < mount_of p
  below k is e = less f sound.view.smaller (mount_of p) (mount_of lower) k is e

  lower_depth : mount_of lower < mount_of p → depth_within (mount_of p) f (mount_of lower) ≡ depth f lower
  lower_depth x = depth_same f sound.view.smaller (mount_of p) (suc (mount_of lower)) (mount_of lower) x (omega arith)

  lower_stores : mount_of lower < mount_of p → stores_within (mount_of p) f (mount_of lower) ≡ stores f lower
  lower_stores x = stores_same f sound.view.smaller (mount_of p) (suc (mount_of lower)) (mount_of lower) x (omega arith)

pub depth_null : (w : World) (p layer : Seen) → IsSound w → kind_in (facts_of w) (mount_of p) ≡ Some (kind.Null layer) → depth (facts_of w) p ≡ 1 + depth (facts_of w) layer
depth_null w p layer sound is =
    ap (depth_by (depth_within (mount_of p) (facts_of w))) is ∙ ap (λ n. 1 + n) (lower_depth w p layer sound (below w p layer sound (Some (kind.Null layer)) is refl))

pub stores_null : (w : World) (p layer : Seen) → IsSound w → kind_in (facts_of w) (mount_of p) ≡ Some (kind.Null layer) → stores (facts_of w) p ≡ stores (facts_of w) layer
stores_null w p layer sound is =
    ap (stores_by (stores_within (mount_of p) (facts_of w)) (mount_of p)) is ∙ lower_stores w p layer sound (below w p layer sound (Some (kind.Null layer)) is refl)

pub depth_union : (w : World) (p lower : Seen) (s u : ℕ) → IsSound w → kind_in (facts_of w) (mount_of p) ≡ Some (kind.Union s u lower) → depth (facts_of w) p ≡ 1 + depth (facts_of w) lower
depth_union w p lower s u sound is =
    ap (depth_by (depth_within (mount_of p) (facts_of w))) is ∙ ap (λ n. 1 + n) (lower_depth w p lower sound (below w p lower sound (Some (kind.Union s u lower)) is refl))

pub stores_union : (w : World) (p lower : Seen) (s u : ℕ) → IsSound w → kind_in (facts_of w) (mount_of p) ≡ Some (kind.Union s u lower) → stores (facts_of w) p ≡ s ∷ stores (facts_of w) lower
stores_union w p lower s u sound is =
    ap (stores_by (stores_within (mount_of p) (facts_of w)) (mount_of p)) is ∙ ap (λ (t : List ℕ). s ∷ t) (lower_stores w p lower sound (below w p lower sound (Some (kind.Union s u lower)) is refl))
