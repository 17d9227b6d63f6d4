-- Going along components.
use Rattle.std.specs.Prelude.{◌≡◌, List, [], ◌∷◌, Option, Some, None}
use Rattle.vfs_tree.specs.declared.walk.Component.{Component}

-- the next of what was left was taken
abbrev pub Popped : Option Component → List Component → List Component → Type 0
Popped (Some c) after before = before ≡ c ∷ after
Popped None after before = (before ≡ []) × (after ≡ [])
