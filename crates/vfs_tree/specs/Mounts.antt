-- Mounts: which covers a place, which stands on which, and what refers to one.
use Rattle.std.specs.Prelude.{ℕ, zero, suc, Bool, true, false, not, ◌&&◌, ◌||◌, ◌==◌, List, [], ◌∷◌, Option, Some, None, option_map}
use Rattle.std.specs.List.{list_any, find}
use Rattle.std.specs.Ordering.{nat_cmp}
use Rattle.std.specs.FinMap.{FinMap, get, values}
use Rattle.vfs_tree.specs.Place.{Seen, mount_of}
use Rattle.vfs_tree.specs.Layers.{same_place}
use Rattle.vfs_tree.specs.declared.mount.Mount.{Mount}
use Rattle.vfs_tree.specs.declared.mount.MountKind.{MountKind}
use Rattle.vfs_tree.specs.declared.mount.MountKind.TheVariants as kind
use Rattle.vfs_tree.specs.declared.world.World.{World}

-- the mounts by number
abbrev pub Mounts : Type 0
Mounts = FinMap nat_cmp Mount

-- by caller, the mount that the caller is leaving
abbrev pub Leaving : Type 0
Leaving = FinMap nat_cmp ℕ

-- ---- covering

-- whether a forced unmount is leaving a mount
abbrev pub is_left : Leaving → ℕ → Bool
is_left leaving m = list_any (λ n. n == m) (values leaving)

abbrev pub is_on : Option Seen → Seen → Bool
is_on (Some q) p = same_place q p
is_on None p = false

-- whether a mount covers a place: it is on it, and nobody is leaving it
abbrev pub covers : Leaving → Seen → Mount → Bool
covers leaving p t = is_on t.on p && not (is_left leaving t.number)

-- the number of the mount that covers a place
abbrev pub covering : Mounts → Leaving → Seen → Option ℕ
covering mounts leaving p = option_map (λ t. t.number) (find (covers leaving p) (values mounts))

-- ---- standing on

-- the mounts in which the layers of a mount lie
abbrev pub layers : MountKind → List ℕ
layers kind.Mem = []
layers (kind.Null layer) = mount_of layer ∷ []
layers (kind.Union s u lower) = s ∷ mount_of lower ∷ []

abbrev pub layers_at : Option Mount → List ℕ
layers_at (Some t) = layers t.kind
layers_at None = []

abbrev pub stands_within : ℕ → Mounts → ℕ → ℕ → Bool
stands_within zero mounts a b = false
stands_within (suc k) mounts a b = list_any (λ l. (l == b) || stands_within k mounts l b) (layers_at (get mounts a))

-- Whether a mount stands on another: one of its layers lies in it, or in a mount that stands on it. Layers lie in mounts
-- with smaller numbers, so no more are passed than the mount's number.
abbrev pub stands_on : Mounts → ℕ → ℕ → Bool
stands_on mounts a b = stands_within (suc a) mounts a b

-- the mount itself, or one that stands on it
abbrev pub is_of : Mounts → ℕ → ℕ → Bool
is_of mounts m a = (a == m) || stands_on mounts a m

-- the mount is cut, and each that stands on it
abbrev pub cut_with : Mounts → ℕ → Mount → Mount
cut_with mounts m t = record t { cut = t.cut || is_of mounts m t.number }

-- ---- references

abbrev pub is_on_in : (ℕ → Bool) → Option Seen → Bool
is_on_in among (Some p) = among (mount_of p)
is_on_in among None = false

-- whether a mount covers a place of one of these mounts
abbrev pub covers_in : Leaving → (ℕ → Bool) → Mount → Bool
covers_in leaving among t = is_on_in among t.on && not (is_left leaving t.number)

-- whether some mount covers a place of a mount or of one that stands on it
abbrev pub is_covered : World → ℕ → Bool
is_covered w m = list_any (covers_in w.leaving (is_of w.mounts m)) (values w.mounts)

-- whether a live open file has a place of the mount
abbrev pub is_open_in : World → ℕ → Bool
is_open_in w m = list_any (λ o. not o.dead && (mount_of o.place == m)) (values w.opens)

-- whether a live current directory has
abbrev pub is_cwd_in : World → ℕ → Bool
is_cwd_in w m = list_any (λ c. not c.dead && (mount_of c.place == m)) (values w.cwds)

-- whether a mount covers a place of it, or has a layer in it
abbrev pub is_mounted_in : World → ℕ → Bool
is_mounted_in w m =
    list_any (λ t. covers_in w.leaving (λ n. n == m) t || list_any (λ l. l == m) (layers t.kind)) (values w.mounts)

-- whether anything refers to a mount: a live open file or current directory, a mount that covers a place of it, or one
-- that has a layer in it
abbrev pub has_references : World → ℕ → Bool
has_references w m = is_open_in w m || (is_cwd_in w m || is_mounted_in w m)
