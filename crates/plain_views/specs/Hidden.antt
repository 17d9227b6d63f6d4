-- Names of a lower part that the directories above it hide.
use Rattle.std.specs.Prelude.{ℕ, Bool, ◌||◌, not, List, is_some}
use Rattle.std.specs.List.{list_any}
use Rattle.vfs_tree.specs.Nodes.{entry_at}
use Rattle.vfs_tree.specs.Steps.{◌>>=◌}
use Rattle.vfs_tree.specs.Visible.{Listed}
use Rattle.vfs_tree.specs.declared.walk.Need.{Need}
use Rattle.vfs_tree.specs.declared.walk.NodeId.{NodeId}
use Rattle.vfs_tree.specs.declared.walk.Step.{Step}
use Rattle.vfs_tree.specs.declared.walk.Step.TheVariants.{Go}
use Rattle.vfs_tree.specs.declared.world.World.{World}

-- one of the directories above has an entry for the name, be it a whiteout
abbrev pub is_hidden : World → List NodeId → List ℕ → Bool
is_hidden w above n = list_any (λ dir. is_some (entry_at w dir.store dir.ino n)) above

-- one of the names is hidden by none of the directories above
abbrev pub any_unhidden : World → List NodeId → List (List ℕ) → Bool
any_unhidden w above names = list_any (λ n. not (is_hidden w above n)) names

-- whether a name was found before or one of a listing is hidden by none of the directories above, or what the listing
-- needs first
abbrev pub any_listed_under : World → List NodeId → Bool → Listed → Step Bool Need
any_listed_under w above found listed = listed >>= (λ names. Go (found || any_unhidden w above names))
