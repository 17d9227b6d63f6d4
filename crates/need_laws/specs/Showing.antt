-- What a mount shows in two worlds.
use Rattle.std.specs.Prelude.{ℕ, ◌≡◌, List}
use Rattle.vfs_tree.specs.Layers.{root_of}
use Rattle.vfs_tree.specs.Shown.{shown}
use Rattle.vfs_tree.specs.Views.{facts_of}
use Rattle.vfs_tree.specs.declared.world.World.{World}

-- at the root of a mount stand, along any names, the kinds, bytes and targets that stood there
abbrev pub ShowsAsBefore : World → World → ℕ → Type 0
ShowsAsBefore old new m = (ns : List (List ℕ)) → shown new (root_of (facts_of old) m) ns ≡ shown old (root_of (facts_of old) m) ns
