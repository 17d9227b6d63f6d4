-- Walks that may follow so many links.
use Rattle.std.specs.Prelude.{ℕ, List}
use Rattle.vfs_tree.specs.Facts.{Facts}
use Rattle.vfs_tree.specs.Paths.{Path, parse}
use Rattle.vfs_tree.specs.Place.{Seen}
use Rattle.vfs_tree.specs.Steps.{◌>>=◌}
use Rattle.vfs_tree.specs.Walk.{Walked, along, jump_within, begin, but_last, last_name, parent_found, mount_found, found_of}
use Rattle.vfs_tree.specs.declared.walk.Component.{Component}
use Rattle.vfs_tree.specs.declared.walk.Found.{Found}
use Rattle.vfs_tree.specs.declared.walk.Leaf.{Leaf}
use Rattle.vfs_tree.specs.declared.walk.Leaf.TheVariants.{Follow, NoFollow, Parent, Create, Mount}

-- along components
abbrev pub walk_links : ℕ → Facts → Leaf → List Component → Seen → Walked Found
walk_links k f leaf = along f leaf (jump_within k f leaf)

-- along a path
abbrev pub path_links : ℕ → Facts → Leaf → Walked Seen → Path → Walked Found
path_links k f leaf from path = begin f leaf path from >>= walk_links k f leaf path.parts

-- in one of the five forms
abbrev pub form_links : ℕ → Facts → Leaf → Walked Seen → Path → Walked Found
form_links k f Follow from path = path_links k f Follow from path
form_links k f NoFollow from path = path_links k f NoFollow from path
form_links k f Create from path = path_links k f Create from path
form_links k f Mount from path = path_links k f Mount from path >>= mount_found f
form_links k f Parent from path =
    path_links k f Follow from (record { absolute = path.absolute; parts = but_last path.parts }) >>= parent_found f (last_name path.parts)

-- along a path as it is written
abbrev pub find_links : ℕ → Facts → Leaf → Walked Seen → List ℕ → Found
find_links k f leaf from text = found_of (parse text >>= form_links k f leaf from)
