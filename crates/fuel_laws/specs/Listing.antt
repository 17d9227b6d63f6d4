-- The names that a union's directory shows, by those of its lower part.
use Rattle.std.specs.Prelude.{ℕ}
use Rattle.vfs_tree.specs.Layers.{kind_in, store_by}
use Rattle.vfs_tree.specs.Views.{facts_of}
use Rattle.vfs_tree.specs.Visible.{Listed, merged, names_at}
use Rattle.vfs_tree.specs.declared.walk.Step.TheVariants.{Go, Refuse, Wants}
use Rattle.vfs_tree.specs.declared.world.World.{World}

-- the names of the upper directory and those of the lower part
abbrev pub with_lower_part : World → ℕ → ℕ → Listed → Listed
with_lower_part w m u (Go lower) = Go (merged (names_at w (store_by (kind_in (facts_of w) m)) u) lower)
with_lower_part w m u (Refuse e) = Refuse e
with_lower_part w m u (Wants x) = Wants x
