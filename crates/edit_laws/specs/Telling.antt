-- Edits that tell what entries do to names and mounts.
use Rattle.std.specs.Prelude.{◌≡◌, List, [], ◌∷◌}
use Rattle.vfs_tree.specs.Views.{facts_of}
use Rattle.vfs_tree.specs.declared.world.World.{World}
use Rattle.call_model.specs.Legal.{after}
use Rattle.call_model.specs.NameEdits.{edited_by, edits_of}
use Rattle.call_model.specs.declared.entry.Entry.{Entry}

-- the edits of an entry, applied to what walks read before it, give what they read after it
abbrev pub Tells : World → Entry → Type 0
Tells w e = facts_of (after w e) ≡ edited_by (facts_of w) (edits_of w e)

-- so do those of each entry of a history, in the world before it
abbrev pub AllTell : World → List Entry → Type 0
AllTell w [] = Unit {0}
AllTell w (e ∷ es) = Tells w e × AllTell (after w e) es
