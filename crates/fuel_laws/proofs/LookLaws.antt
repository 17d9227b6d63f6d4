-- What a directory has at a name is found through all layers: the steps that are taken are enough.
use Rattle.std.proofs.Common.{◌≡◌, ℕ, zero, suc, ◌≤◌, ◌<◌, Bool, true, false, cond, ◌||◌, ◌==◌, List, refl, ap, sym, ◌∙◌, subst, arith}
use Rattle.std.specs.Prelude.{Option, Some, None, IfSome}
use Rattle.vfs_tree.specs.Child.{Lookup, child_mem, child_null, child_below, child_low, child_union, only_dir, below_named, low_case, low_within, low_by, upper_entry, child_within, child_of, low, steps}
use Rattle.vfs_tree.specs.Facts.{Facts}
use Rattle.vfs_tree.specs.Layers.{kind_in, is_dir, is_linked, is_opaque, parent_ino}
use Rattle.vfs_tree.specs.Place.{Seen, Mem, Null, UnionUp, UnionLow, mount_of}
use Rattle.vfs_tree.specs.Shown.{shown_low, shown_union, shown_within, shown_child}
use Rattle.vfs_tree.specs.Sound.{EachLayer, EachPlace, IsBelow, IsSound}
use Rattle.vfs_tree.specs.Views.{facts_of}
use Rattle.vfs_tree.specs.declared.mount.MountKind.{MountKind}
use Rattle.vfs_tree.specs.declared.mount.MountKind.TheVariants as kind
use Rattle.vfs_tree.specs.declared.node.NameEntry.{NameEntry}
use Rattle.vfs_tree.specs.declared.node.NameEntry.TheVariants.{Ino, White}
use Rattle.vfs_tree.specs.declared.walk.Child.{Child}
use Rattle.vfs_tree.specs.declared.walk.Child.TheVariants as child
use Rattle.vfs_tree.specs.declared.world.World.{World}
use Rattle.call_laws.specs.Lasting.{lower_mount, IsOver}
use Rattle.call_laws.proofs.DetachLaws.{lower_less}
use Rattle.fuel_laws.specs.Layered.{IsFalling, IsLayered}
use Rattle.fuel_laws.specs.ShownUnder.{shown_lower}

-- ---- what is found is falling

-- a falling place in a mount whose number is less
abbrev pub FallsIn : ℕ → Child → Type 0
FallsIn k (child.At p) = IsFalling p × (mount_of p < k)
FallsIn k child.Absent = Unit {0}
FallsIn k (child.Need x) = Unit {0}

-- what is found lies in no mount with a greater number than the directory's
abbrev pub FallsSo : Lookup → Type 0
FallsSo look = (d : Seen) (n : List ℕ) → IsFalling d → FallsIn (suc (mount_of d)) (look d n)

pub falls_more : (j k : ℕ) (a : Child) → j ≤ k → FallsIn j a → FallsIn k a
falls_more j k (child.At p) most h = let less : mount_of p < j = h.1 in (h.0, omega (arith, most, less))
falls_more j k child.Absent most h = tt
falls_more j k (child.Need x) most h = tt

falls_if : (k : ℕ) (b : Bool) (x y : Child) → FallsIn k x → FallsIn k y → FallsIn k (cond b x y)
falls_if k true x y p q = p
falls_if k false x y p q = q

falls_mem : (m : ℕ) (e : Option NameEntry) → FallsIn (suc m) (child_mem m e)
falls_mem m (Some (Ino i)) = (tt, omega arith)
falls_mem m (Some White) = tt
falls_mem m None = tt

falls_null : (m : ℕ) (a : Child) → FallsIn m a → FallsIn (suc m) (child_null m a)
falls_null m (child.At p) h = ((h.1, h.0), omega arith)
falls_null m child.Absent h = tt
falls_null m (child.Need x) h = tt

falls_below : (look : Lookup) → FallsSo look → (k : ℕ) (a : Child) → FallsIn k a → (n : List ℕ) → FallsIn k (child_below look a n)
falls_below look g k (child.At d) h n = let less : mount_of d < k = h.1 in falls_more (suc (mount_of d)) k (look d n) (omega (arith, less)) (g d n h.0)
falls_below look g k child.Absent h n = tt
falls_below look g k (child.Need x) h n = tt

falls_only_dir : (f : Facts) (k : ℕ) (a : Child) → FallsIn k a → FallsIn k (only_dir f a)
falls_only_dir f k (child.At q) h = falls_if k (is_dir f q) (child.At q) child.Absent h tt
falls_only_dir f k child.Absent h = tt
falls_only_dir f k (child.Need x) h = tt

falls_named : (look : Lookup) → FallsSo look → (k : ℕ) (a : Child) → FallsIn k a → (o : Option (List ℕ)) → FallsIn k (below_named look a o)
falls_named look g k a h (Some n) = falls_below look g k a h n
falls_named look g k a h None = tt

module _ (f : Facts) (look : Lookup) (g : FallsSo look) (s : ℕ) (lower : Seen) (k : ℕ) (l : IsFalling lower) (less : mount_of lower < k) where
  falls_low_case : (up : ℕ → Child) → ((u : ℕ) → FallsIn k (up u)) → (u : ℕ) (top ends : Bool) → FallsIn k (low_case f look s lower up u top ends)
  falls_low_case up h u true ends = (l, less)
  falls_low_case up h u false true = tt
  falls_low_case up h u false false =
      let p = parent_ino f s u in falls_only_dir f k (below_named look (up p) (f.name_of s u)) (falls_named look g k (up p) (h p) (f.name_of s u))

  falls_low_within : (i upper u : ℕ) → FallsIn k (low_within i f look s upper lower u)
  falls_low_within zero upper u = tt
  falls_low_within (suc i) upper u = falls_low_case (low_within i f look s upper lower) (falls_low_within i upper) u (u == upper) (is_opaque f s u || (u == 1))

-- ---- two ways to look that find the same

-- they do in falling directories of mounts with smaller numbers
abbrev pub AgreeIn : ℕ → Lookup → Lookup → Type 0
AgreeIn k look show = (d : Seen) (n : List ℕ) → IsFalling d → mount_of d < k → look d n ≡ show d n

same_below : (look show : Lookup) (k : ℕ) → AgreeIn k look show → (a : Child) → FallsIn k a → (n : List ℕ) → child_below look a n ≡ child_below show a n
same_below look show k agree (child.At d) h n = agree d n h.0 h.1
same_below look show k agree child.Absent h n = refl
same_below look show k agree (child.Need x) h n = refl

same_named : (look show : Lookup) (k : ℕ) → AgreeIn k look show → (a : Child) → FallsIn k a → (o : Option (List ℕ)) → below_named look a o ≡ below_named show a o
same_named look show k agree a h (Some n) = same_below look show k agree a h n
same_named look show k agree a h None = refl

module _ (f : Facts) (look show : Lookup) (g : FallsSo look) (s : ℕ) (lower : Seen) (k : ℕ) (agree : AgreeIn k look show) (l : IsFalling lower) (less : mount_of lower < k) where
  same_low_case : (up over : ℕ → Child) → ((u : ℕ) → FallsIn k (up u)) → ((u : ℕ) → up u ≡ over u) → (u : ℕ) (top ends : Bool)
      → low_case f look s lower up u top ends ≡ low_case f show s lower over u top ends
  same_low_case up over h e u true ends = refl
  same_low_case up over h e u false true = refl
  same_low_case up over h e u false false =
      let p = parent_ino f s u in
      ap (only_dir f) (same_named look show k agree (up p) (h p) (f.name_of s u) ∙ ap (λ a. below_named show a (f.name_of s u)) (e p))

  same_low_within : (i upper u : ℕ) → low_within i f look s upper lower u ≡ low_within i f show s upper lower u
  same_low_within zero upper u = refl
  same_low_within (suc i) upper u =
      same_low_case (low_within i f look s upper lower) (low_within i f show s upper lower) (falls_low_within f look g s lower k l less i upper) (same_low_within i upper)
      u (u == upper) (is_opaque f s u || (u == 1))

-- ---- in a layered view

module _ (f : Facts) (smaller : (m : ℕ) → IfSome (f.mount m) (EachPlace (IsBelow m))) (falling : (m : ℕ) → IfSome (kind_in f m) (EachLayer IsFalling)) where
  pub lower_falls : (m s upper : ℕ) (lower : Seen) → kind_in f m ≡ Some (kind.Union s upper lower) → IsFalling lower
  lower_falls m s upper lower is = let layers : EachLayer IsFalling (kind.Union s upper lower) = subst (λ o. IfSome o (EachLayer IsFalling)) is (falling m) in layers.1

  pub lower_smaller : (m s upper : ℕ) (lower : Seen) → kind_in f m ≡ Some (kind.Union s upper lower) → mount_of lower < m
  lower_smaller m s upper lower is = lower_less m (f.mount m) (mount_of lower) (smaller m) (ap lower_mount is)

  falls_low_by : (look : Lookup) → FallsSo look → (m u : ℕ) (k : Option MountKind) → kind_in f m ≡ k → FallsIn m (low_by f look u k)
  falls_low_by look g m u (Some (kind.Union s upper lower)) is =
      falls_if m (is_linked f s u) (low_within steps f look s upper lower u) child.Absent
      (falls_low_within f look g s lower m (lower_falls m s upper lower is) (lower_smaller m s upper lower is) steps upper u) tt
  falls_low_by look g m u (Some kind.Mem) is = tt
  falls_low_by look g m u (Some (kind.Null layer)) is = tt
  falls_low_by look g m u None is = tt

  same_low_by : (look show : Lookup) → FallsSo look → (m u : ℕ) → AgreeIn m look show → (k : Option MountKind) → kind_in f m ≡ k → low_by f look u k ≡ low_by f show u k
  same_low_by look show g m u agree (Some (kind.Union s upper lower)) is =
      ap (λ a. cond (is_linked f s u) a child.Absent)
      (same_low_within f look show g s lower m agree (lower_falls m s upper lower is) (lower_smaller m s upper lower is) steps upper u)
  same_low_by look show g m u agree (Some kind.Mem) is = refl
  same_low_by look show g m u agree (Some (kind.Null layer)) is = refl
  same_low_by look show g m u agree None is = refl

  -- a union's directory by its upper entry and what its lower part has
  abbrev Join : Type 0
  Join = ℕ → ℕ → List ℕ → Option NameEntry → (List ℕ → Child) → Child

  -- a look through one mount more
  abbrev pub step : Join → Lookup → Lookup
  step join look (Mem m i) n = child_mem m (f.entry m i n)
  step join look (Null m p) n = child_null m (look p n)
  step join look (UnionUp m u) n = join m u n (upper_entry f (kind_in f m) u n) (child_below look (low_by f look u (kind_in f m)))
  step join look (UnionLow m u a p) n = child.Absent

  module _ (join : Join) (joined : (m u : ℕ) (n : List ℕ) (e : Option NameEntry) (a : List ℕ → Child) → FallsIn m (a n) → FallsIn (suc m) (join m u n e a))
      (alike : (m u : ℕ) (n : List ℕ) (e : Option NameEntry) (a b : List ℕ → Child) → a n ≡ b n → join m u n e a ≡ join m u n e b)
      (within : ℕ → Lookup) (none : (d : Seen) (n : List ℕ) → within zero d n ≡ child.Absent) (first : (k : ℕ) (d : Seen) (n : List ℕ) → within (suc k) d n ≡ step join (within k) d n) where
    falls_step : (look : Lookup) → FallsSo look → FallsSo (step join look)
    falls_step look g (Mem m i) n h = falls_mem m (f.entry m i n)
    falls_step look g (Null m p) n h = let less : mount_of p < m = h.0 in falls_null m (look p n) (falls_more (suc (mount_of p)) m (look p n) (omega (arith, less)) (g p n h.1))
    falls_step look g (UnionUp m u) n h =
        let low = low_by f look u (kind_in f m) in
        joined m u n (upper_entry f (kind_in f m) u n) (child_below look low) (falls_below look g m low (falls_low_by look g m u (kind_in f m) refl) n)
    falls_step look g (UnionLow m u a p) n h = tt

    pub falls_within : (k : ℕ) → FallsSo (within k)
    falls_within zero d n h = subst (FallsIn (suc (mount_of d))) (sym (none d n)) tt
    falls_within (suc k) d n h = subst (FallsIn (suc (mount_of d))) (sym (first k d n)) (falls_step (within k) (falls_within k) d n h)

    same_step : (look show : Lookup) → FallsSo look → (d : Seen) (n : List ℕ) → AgreeIn (mount_of d) look show → IsFalling d → step join look d n ≡ step join show d n
    same_step look show g (Mem m i) n agree h = refl
    same_step look show g (Null m p) n agree h = ap (child_null m) (agree p n h.1 h.0)
    same_step look show g (UnionUp m u) n agree h =
        let k = kind_in f m in
        let a = low_by f look u k in
        let b = low_by f show u k in
        alike m u n (upper_entry f k u n) (child_below look a) (child_below show b)
        (same_below look show m agree a (falls_low_by look g m u k refl) n ∙ ap (λ x. child_below show x n) (same_low_by look show g m u agree k refl))
    same_step look show g (UnionLow m u a p) n agree h = refl

    -- as much is found through more mounts as through enough
    pub same_within : (k j : ℕ) (d : Seen) (n : List ℕ) → IsFalling d → mount_of d < k → mount_of d < j → within k d n ≡ within j d n
    same_within zero j d n h x y = absurd (omega (arith, x))
    same_within (suc k) zero d n h x y = absurd (omega (arith, y))
    same_within (suc k) (suc j) d n h x y =
        first k d n
        ∙ same_step (within k) (within j) (falls_within k) d n (λ q a falls less. same_within k j q a falls (omega (arith, less, x)) (omega (arith, less, y))) h
        ∙ sym (first j d n)

    abbrev pub whole : Lookup
    whole d n = within (suc (mount_of d)) d n

    agree_whole : (k : ℕ) → AgreeIn k (within k) whole
    agree_whole k d n h less = same_within k (suc (mount_of d)) d n h less (omega arith)

    pub whole_at : (d : Seen) (n : List ℕ) → IsFalling d → whole d n ≡ step join whole d n
    whole_at d n h = first (mount_of d) d n ∙ same_step (within (mount_of d)) whole (falls_within (mount_of d)) d n (agree_whole (mount_of d)) h

    pub whole_low : (m u : ℕ) → low_by f (within m) u (kind_in f m) ≡ low_by f whole u (kind_in f m)
    whole_low m u = same_low_by (within m) whole (falls_within m) m u (agree_whole m) (kind_in f m) refl

    pub falls_whole : FallsSo whole
    falls_whole d n h = falls_within (suc (mount_of d)) d n h

-- ---- what a directory has

joined_child : (f : Facts) (m u : ℕ) (n : List ℕ) (e : Option NameEntry) (a : List ℕ → Child) → FallsIn m (a n) → FallsIn (suc m) (child_union f m u n e a)
joined_child f m u n (Some (Ino i)) a h = (tt, omega arith)
joined_child f m u n (Some White) a h = tt
joined_child f m u n None a h = by (a n) h
  where
    by : (x : Child) → FallsIn m x → FallsIn (suc m) (child_low f m u n x)
    by (child.At q) h = falls_if (suc m) (is_dir f q) (child.Need (record { mount = m; dir = u; name = n })) (child.At (UnionLow m u n q)) tt ((h.1, h.0), omega arith)
    by child.Absent h = tt
    by (child.Need x) h = tt

alike_child : (f : Facts) (m u : ℕ) (n : List ℕ) (e : Option NameEntry) (a b : List ℕ → Child) → a n ≡ b n → child_union f m u n e a ≡ child_union f m u n e b
alike_child f m u n (Some (Ino i)) a b e = refl
alike_child f m u n (Some White) a b e = refl
alike_child f m u n None a b e = ap (child_low f m u n) e

joined_shown : (f : Facts) (m u : ℕ) (n : List ℕ) (e : Option NameEntry) (a : List ℕ → Child) → FallsIn m (a n) → FallsIn (suc m) (shown_union f m u n e a)
joined_shown f m u n (Some (Ino i)) a h = (tt, omega arith)
joined_shown f m u n (Some White) a h = tt
joined_shown f m u n None a h = by (a n) h
  where
    by : (x : Child) → FallsIn m x → FallsIn (suc m) (shown_low f m u n x)
    by (child.At q) h = falls_if (suc m) (is_dir f q) (child.At q) (child.At (UnionLow m u n q)) (falls_more m (suc m) (child.At q) (omega arith) h) ((h.1, h.0), omega arith)
    by child.Absent h = tt
    by (child.Need x) h = tt

alike_shown : (f : Facts) (m u : ℕ) (n : List ℕ) (e : Option NameEntry) (a b : List ℕ → Child) → a n ≡ b n → shown_union f m u n e a ≡ shown_union f m u n e b
alike_shown f m u n (Some (Ino i)) a b e = refl
alike_shown f m u n (Some White) a b e = refl
alike_shown f m u n None a b e = ap (shown_low f m u n) e

module _ (w : World) (sound : IsSound w) (layered : IsLayered w) where
  abbrev f : Facts
  f = facts_of w

  first_child : (k : ℕ) (d : Seen) (n : List ℕ) → child_within (suc k) f d n ≡ step f sound.view.smaller layered.falling (child_union f) (child_within k f) d n
  first_child k (Mem m i) n = refl
  first_child k (Null m p) n = refl
  first_child k (UnionUp m u) n = refl
  first_child k (UnionLow m u a p) n = refl

  first_shown : (k : ℕ) (d : Seen) (n : List ℕ) → shown_within (suc k) f d n ≡ step f sound.view.smaller layered.falling (shown_union f) (shown_within k f) d n
  first_shown k (Mem m i) n = refl
  first_shown k (Null m p) n = refl
  first_shown k (UnionUp m u) n = refl
  first_shown k (UnionLow m u a p) n = refl

  child_step : (d : Seen) (n : List ℕ) → IsFalling d → child_of f d n ≡ step f sound.view.smaller layered.falling (child_union f) (child_of f) d n
  child_step d n h = whole_at f sound.view.smaller layered.falling (child_union f) (joined_child f) (alike_child f) (λ k. child_within k f) (λ d n. refl) first_child d n h

  shown_step : (d : Seen) (n : List ℕ) → IsFalling d → shown_child f d n ≡ step f sound.view.smaller layered.falling (shown_union f) (shown_child f) d n
  shown_step d n h = whole_at f sound.view.smaller layered.falling (shown_union f) (joined_shown f) (alike_shown f) (λ k. shown_within k f) (λ d n. refl) first_shown d n h

  pub low_whole : (m u : ℕ) → low f m u ≡ low_by f (child_of f) u (kind_in f m)
  low_whole m u = whole_low f sound.view.smaller layered.falling (child_union f) (joined_child f) (alike_child f) (λ k. child_within k f) (λ d n. refl) first_child m u

  pub child_falls : FallsSo (child_of f)
  child_falls = falls_whole f sound.view.smaller layered.falling (child_union f) (joined_child f) (alike_child f) (λ k. child_within k f) (λ d n. refl) first_child

  pub shown_falls : FallsSo (shown_child f)
  shown_falls = falls_whole f sound.view.smaller layered.falling (shown_union f) (joined_shown f) (alike_shown f) (λ k. shown_within k f) (λ d n. refl) first_shown

  pub low_falls : (m u : ℕ) → FallsIn m (low f m u)
  low_falls m u =
      falls_low_by f sound.view.smaller layered.falling (child_within m f)
      (falls_within f sound.view.smaller layered.falling (child_union f) (joined_child f) (alike_child f) (λ k. child_within k f) (λ d n. refl) first_child m) m u (kind_in f m) refl

  pub child_more : (k : ℕ) (d : Seen) (n : List ℕ) → IsFalling d → mount_of d < k → child_within k f d n ≡ child_of f d n
  child_more k d n h less =
      same_within f sound.view.smaller layered.falling (child_union f) (joined_child f) (alike_child f) (λ k. child_within k f) (λ d n. refl) first_child k (suc (mount_of d)) d n h less (omega arith)

  pub shown_more : (k : ℕ) (d : Seen) (n : List ℕ) → IsFalling d → mount_of d < k → shown_within k f d n ≡ shown_child f d n
  shown_more k d n h less =
      same_within f sound.view.smaller layered.falling (shown_union f) (joined_shown f) (alike_shown f) (λ k. shown_within k f) (λ d n. refl) first_shown k (suc (mount_of d)) d n h less (omega arith)

-- ---- the laws

pub child_null_whole : (w : World) → IsSound w → IsLayered w → (m : ℕ) (p : Seen) (n : List ℕ) → IsFalling (Null m p) → child_of (facts_of w) (Null m p) n ≡ child_null m (child_of (facts_of w) p n)
child_null_whole w sound layered m p n h = child_step w sound layered (Null m p) n h

pub child_union_whole : (w : World) → IsSound w → IsLayered w → (m u : ℕ) (n : List ℕ)
    → child_of (facts_of w) (UnionUp m u) n
    ≡ child_union (facts_of w) m u n (upper_entry (facts_of w) (kind_in (facts_of w) m) u n) (child_below (child_of (facts_of w)) (low (facts_of w) m u))
child_union_whole w sound layered m u n =
    child_step w sound layered (UnionUp m u) n tt
    ∙ ap (λ a. child_union (facts_of w) m u n (upper_entry (facts_of w) (kind_in (facts_of w) m) u n) (child_below (child_of (facts_of w)) a)) (sym (low_whole w sound layered m u))

pub shown_null_whole : (w : World) → IsSound w → IsLayered w → (m : ℕ) (p : Seen) (n : List ℕ) → IsFalling (Null m p) → shown_child (facts_of w) (Null m p) n ≡ child_null m (shown_child (facts_of w) p n)
shown_null_whole w sound layered m p n h = shown_step w sound layered (Null m p) n h

pub shown_union_whole : (w : World) → IsSound w → IsLayered w → (m u : ℕ) (n : List ℕ)
    → shown_child (facts_of w) (UnionUp m u) n
    ≡ shown_union (facts_of w) m u n (upper_entry (facts_of w) (kind_in (facts_of w) m) u n) (child_below (shown_child (facts_of w)) (shown_lower (facts_of w) m u))
shown_union_whole w sound layered m u n = shown_step w sound layered (UnionUp m u) n tt

falls_at : (k : ℕ) (a : Child) (p : Seen) → FallsIn k a → a ≡ child.At p → IsFalling p
falls_at k a p h is = let x : FallsIn k (child.At p) = subst (FallsIn k) is h in x.0

pub child_falling : (w : World) → IsSound w → IsLayered w → (d p : Seen) (n : List ℕ) → IsFalling d → child_of (facts_of w) d n ≡ child.At p → IsFalling p
child_falling w sound layered d p n h is = falls_at (suc (mount_of d)) (child_of (facts_of w) d n) p (child_falls w sound layered d n h) is

pub shown_falling : (w : World) → IsSound w → IsLayered w → (d p : Seen) (n : List ℕ) → IsFalling d → shown_child (facts_of w) d n ≡ child.At p → IsFalling p
shown_falling w sound layered d p n h is = falls_at (suc (mount_of d)) (shown_child (facts_of w) d n) p (shown_falls w sound layered d n h) is

-- what is seen over the mounts of lower layers falls
pub over_falls : (f : Facts) → ((m : ℕ) → IfSome (f.mount m) (EachPlace (IsBelow m))) → (p : Seen) → IsOver f p → IsFalling p
over_falls f smaller (Mem m i) h = tt
over_falls f smaller (Null m p) h = (lower_less m (f.mount m) (mount_of p) (smaller m) h.0, over_falls f smaller p h.1)
over_falls f smaller (UnionUp m i) h = tt
over_falls f smaller (UnionLow m u n p) h = (lower_less m (f.mount m) (mount_of p) (smaller m) h.0, over_falls f smaller p h.1)
