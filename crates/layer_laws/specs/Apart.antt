-- Unions whose lower layer doesn't rest on the memory mount of the upper one.
use Rattle.std.specs.Prelude.{ℕ, ◌≡◌, false, ◌==◌, Some}
use Rattle.std.specs.List.{list_any}
use Rattle.vfs_tree.specs.Layers.{kind_in, stores}
use Rattle.vfs_tree.specs.Place.{Seen}
use Rattle.vfs_tree.specs.Views.{facts_of}
use Rattle.vfs_tree.specs.declared.mount.MountKind.TheVariants as kind
use Rattle.vfs_tree.specs.declared.world.World.{World}

-- the memory mount in which a union has its upper layer is none of those on which its lower layer rests
abbrev pub IsApart : World → Type 0
IsApart w = (m s u : ℕ) (lower : Seen) → kind_in (facts_of w) m ≡ Some (kind.Union s u lower) → list_any (λ t. t == s) (stores (facts_of w) lower) ≡ false
