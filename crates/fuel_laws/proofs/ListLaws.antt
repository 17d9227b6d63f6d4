-- Names are listed, and mounts are stood on, through all layers.
use Rattle.std.proofs.Common.{◌≡◌, ℕ, zero, suc, ◌<◌, Bool, ◌||◌, ◌==◌, List, [], ◌∷◌, refl, ap, ◌∙◌, arith}
use Rattle.std.specs.Prelude.{Option, Some, None, IfSome}
use Rattle.std.specs.List.{AllByRecursion, list_any}
use Rattle.std.specs.FinMap.{get}
use Rattle.vfs_tree.specs.Child.{low}
use Rattle.vfs_tree.specs.Layers.{kind_in, store_by}
use Rattle.vfs_tree.specs.Mounts.{layers, layers_at, stands_within, stands_on}
use Rattle.vfs_tree.specs.Place.{Seen, Mem, Null, UnionUp, UnionLow, mount_of}
use Rattle.vfs_tree.specs.Sound.{EachLayer, EachPlace, IsBelow, IsSound}
use Rattle.vfs_tree.specs.Steps.{◌>>=◌}
use Rattle.vfs_tree.specs.Views.{facts_of}
use Rattle.vfs_tree.specs.Visible.{Listed, merged, names_at, listed_below, visible_within, visible}
use Rattle.vfs_tree.specs.declared.mount.Mount.{Mount}
use Rattle.vfs_tree.specs.declared.mount.MountKind.{MountKind}
use Rattle.vfs_tree.specs.declared.mount.MountKind.TheVariants as kind
use Rattle.vfs_tree.specs.declared.walk.Child.{Child}
use Rattle.vfs_tree.specs.declared.walk.Child.TheVariants as child
use Rattle.vfs_tree.specs.declared.walk.Step.TheVariants.{Go, Refuse, Wants}
use Rattle.vfs_tree.specs.declared.world.World.{World}
use Rattle.call_laws.proofs.PlaceLaws.{below_head}
use Rattle.fuel_laws.specs.Layered.{IsFalling, IsLayered}
use Rattle.fuel_laws.specs.Listing.{with_lower_part}
use Rattle.fuel_laws.proofs.LookLaws.{FallsIn, low_falls}

-- ---- names

module _ (w : World) (sound : IsSound w) (layered : IsLayered w) where
  same_below : (a b : Seen → Listed) (k : ℕ) → ((d : Seen) → IsFalling d → mount_of d < k → a d ≡ b d) → (x : Child) → FallsIn k x → listed_below a x ≡ listed_below b x
  same_below a b k agree (child.At d) h = agree d h.0 h.1
  same_below a b k agree child.Absent h = refl
  same_below a b k agree (child.Need x) h = refl

  -- the names of the upper directory too
  abbrev over : ℕ → ℕ → Listed → Listed
  over m u x = x >>= (λ lower. Go (merged (names_at w (store_by (kind_in (facts_of w) m)) u) lower))

  over_is : (m u : ℕ) (x : Listed) → over m u x ≡ with_lower_part w m u x
  over_is m u (Go lower) = refl
  over_is m u (Refuse e) = refl
  over_is m u (Wants x) = refl

  -- as many are listed through more mounts as through enough
  same_listed : (k j : ℕ) (d : Seen) → IsFalling d → mount_of d < k → mount_of d < j → visible_within k w d ≡ visible_within j w d
  same_listed zero j d h x y = absurd (omega (arith, x))
  same_listed (suc k) zero d h x y = absurd (omega (arith, y))
  same_listed (suc k) (suc j) (Mem m i) h x y = refl
  same_listed (suc k) (suc j) (Null m p) h x y = let less : mount_of p < m = h.0 in same_listed k j p h.1 (omega (arith, less, x)) (omega (arith, less, y))
  same_listed (suc k) (suc j) (UnionUp m u) h x y =
      ap (over m u)
      (same_below (visible_within k w) (visible_within j w) m (λ d falls less. same_listed k j d falls (omega (arith, less, x)) (omega (arith, less, y))) (low (facts_of w) m u) (low_falls w sound layered m u))
  same_listed (suc k) (suc j) (UnionLow m u n p) h x y = refl

  pub visible_more : (k : ℕ) (d : Seen) → IsFalling d → mount_of d < k → visible_within k w d ≡ visible w d
  visible_more k d h less = same_listed k (suc (mount_of d)) d h less (omega arith)

pub visible_null : (w : World) → IsSound w → IsLayered w → (m : ℕ) (p : Seen) → IsFalling (Null m p) → visible w (Null m p) ≡ visible w p
visible_null w sound layered m p h = visible_more w sound layered m p h.1 h.0

pub visible_union : (w : World) → IsSound w → IsLayered w → (m u : ℕ) → visible w (UnionUp m u) ≡ with_lower_part w m u (listed_below (visible w) (low (facts_of w) m u))
visible_union w sound layered m u =
    ap (over w sound layered m u) (same_below w sound layered (visible_within m w) (visible w) m (visible_more w sound layered m) (low (facts_of w) m u) (low_falls w sound layered m u))
    ∙ over_is w sound layered m u (listed_below (visible w) (low (facts_of w) m u))

-- ---- standing on

any_alike : (k : ℕ) (p q : ℕ → Bool) → ((l : ℕ) → l < k → p l ≡ q l) → (xs : List ℕ) → AllByRecursion (λ l. l < k) xs → list_any p xs ≡ list_any q xs
any_alike k p q h [] all = refl
any_alike k p q h (x ∷ xs) all = ap (λ b. b || list_any p xs) (h x all.0) ∙ ap (λ b. q x || b) (any_alike k p q h xs all.1)

layers_less : (m : ℕ) (o : Option Mount) → IfSome o (EachPlace (IsBelow m)) → AllByRecursion (λ l. l < m) (layers_at o)
layers_less m (Some t) h = by t.kind h.1
  where
    by : (k : MountKind) → EachLayer (IsBelow m) k → AllByRecursion (λ l. l < m) (layers k)
    by kind.Mem h = tt
    by (kind.Null layer) h = (below_head m layer h, tt)
    by (kind.Union s u lower) h = (h.0, (below_head m lower h.1, tt))
layers_less m None h = tt

module _ (w : World) (sound : IsSound w) (b : ℕ) where
  less_at : (a : ℕ) → AllByRecursion (λ l. l < a) (layers_at (get w.mounts a))
  less_at a = layers_less a (get w.mounts a) (sound.view.smaller a)

  same_standing : (k j a : ℕ) → a < k → a < j → stands_within k w.mounts a b ≡ stands_within j w.mounts a b
  same_standing zero j a x y = absurd (omega (arith, x))
  same_standing (suc k) zero a x y = absurd (omega (arith, y))
  same_standing (suc k) (suc j) a x y =
      any_alike a (λ l. (l == b) || stands_within k w.mounts l b) (λ l. (l == b) || stands_within j w.mounts l b)
      (λ l less. ap (λ c. (l == b) || c) (same_standing k j l (omega (arith, less, x)) (omega (arith, less, y)))) (layers_at (get w.mounts a)) (less_at a)

pub stands_whole : (w : World) → IsSound w → (a b : ℕ) → stands_on w.mounts a b ≡ list_any (λ l. (l == b) || stands_on w.mounts l b) (layers_at (get w.mounts a))
stands_whole w sound a b =
    any_alike a (λ l. (l == b) || stands_within a w.mounts l b) (λ l. (l == b) || stands_on w.mounts l b)
    (λ l less. ap (λ c. (l == b) || c) (same_standing w sound b a (suc l) l less (omega arith))) (layers_at (get w.mounts a)) (less_at w sound b a)

pub stands_more : (w : World) → IsSound w → (k a b : ℕ) → a < k → stands_within k w.mounts a b ≡ stands_on w.mounts a b
stands_more w sound k a b less = same_standing w sound b k (suc a) a less (omega arith)
