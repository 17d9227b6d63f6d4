-- What a search for the first live reference keeps of the best so far.
use Rattle.std.specs.Prelude.{Bool, true, false, not, ◌&&◌, ◌||◌, ◌==◌, nat_lt, List, Option, Some, None}
use Rattle.std.specs.List.{fold}
use Rattle.vfs_tree.specs.Place.{Seen, mount_of}
use Rattle.vfs_tree.specs.Layers.{depth, base, same_node}
use Rattle.vfs_tree.specs.Mounts.{is_of}
use Rattle.vfs_tree.specs.Views.{facts_of}
use Rattle.vfs_tree.specs.declared.world.World.{World}
use Rattle.call_model.specs.Refs.{Reference, comes_before}
use Rattle.call_model.specs.declared.entry.Ref.{Ref}
use Rattle.plain_mounts.specs.declared.first.Ranked.{Ranked}
use Rattle.plain_mounts.specs.declared.first.Sought.{Sought}
use Rattle.plain_mounts.specs.declared.first.Sought.TheVariants.{InMount, OnNode}

-- whether a place is among those that are looked for
abbrev pub is_sought : World → Sought → Seen → Bool
is_sought w (InMount m) p = is_of w.mounts m (mount_of p)
is_sought w (OnNode node) p = same_node (base (facts_of w) p) node

-- a reference with the depth of its place
abbrev pub ranked : World → Reference → Ranked
ranked w r = record { at = r.at; depth = depth (facts_of w) r.place }

-- whether a reference comes first of two
abbrev pub leads : Ranked → Ranked → Bool
leads a b = nat_lt b.depth a.depth || ((a.depth == b.depth) && comes_before a.at b.at)

abbrev pub better_case : Ranked → Ranked → Bool → Option Ranked
better_case best r true = Some r
better_case best r false = Some best

-- the one that comes first
abbrev pub better : Option Ranked → Ranked → Option Ranked
better None r = Some r
better (Some best) r = better_case best r (leads r best)

abbrev pub offered_if : Bool → Option Ranked → Ranked → Option Ranked
offered_if true best r = better best r
offered_if false best r = best

-- a reference counts where it is live and looked for
abbrev pub offered : World → Sought → Option Ranked → Reference → Option Ranked
offered w sought best r = offered_if (not r.dead && is_sought w sought r.place) best (ranked w r)

-- the first of the best so far and of these references
abbrev pub best_of : World → Sought → Option Ranked → List Reference → Option Ranked
best_of w sought best rs = fold (offered w sought) best rs

-- which reference it is
abbrev pub at_of : Option Ranked → Option Ref
at_of (Some r) = Some r.at
at_of None = None
