-- Listings of open directories in mounts that are cut.
use Rattle.std.specs.Prelude.{ℕ, ◌≡◌, true, Some, option_map}
use Rattle.std.specs.FinMap.{get}
use Rattle.vfs_tree.specs.Layers.{is_cut}
use Rattle.vfs_tree.specs.Place.{mount_of}
use Rattle.vfs_tree.specs.Views.{facts_of}
use Rattle.vfs_tree.specs.declared.world.World.{World}
use Rattle.call_model.specs.declared.call.Call.{Call}
use Rattle.call_model.specs.declared.call.Call.TheVariants as call

-- the call lists an open directory whose mount is cut
abbrev pub IsCutListing : World → ℕ → Call → Type 0
IsCutListing w c (call.Readdir d) = option_map (λ o. is_cut (facts_of w) (mount_of o.place)) (get w.opens (c, d)) ≡ Some true
IsCutListing w c _ = ⊥
