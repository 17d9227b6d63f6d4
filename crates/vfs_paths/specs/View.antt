-- What a path names in a view, from a place.
use Rattle.std.specs.Prelude.{Bool, true, false, if◌then◌else◌, None}
use Rattle.vfs_tree.specs.Place.{Seen}
use Rattle.vfs_tree.specs.Facts.{Facts}
use Rattle.vfs_tree.specs.Paths.{Path}
use Rattle.vfs_tree.specs.Walk.{walk, found_of, in_place}
use Rattle.vfs_tree.specs.declared.errno.Errno.{Errno}
use Rattle.vfs_tree.specs.declared.errno.Errno.TheVariants as errno
use Rattle.vfs_tree.specs.declared.walk.Found.{Found}
use Rattle.vfs_tree.specs.declared.walk.Found.TheVariants as found
use Rattle.vfs_tree.specs.declared.walk.Leaf.{Leaf}
use Rattle.vfs_tree.specs.declared.walk.Leaf.TheVariants as leaf
use Rattle.vfs_paths.specs.declared.named.Walked.{Walked}
use Rattle.vfs_paths.specs.declared.named.Walked.TheVariants as walked

-- what a walk of a form finds from a place
abbrev pub found_from : Facts → Leaf → Seen → Path → Found
found_from f l start path = found_of (walk f l (in_place f start) path)

-- a link at the end is followed, or is the answer
abbrev pub finding : Bool → Leaf
finding true = leaf.Follow
finding false = leaf.NoFollow

-- the form that finds the name where the other finds nothing: both follow the same links
abbrev pub naming : Bool → Leaf
naming true = leaf.Create
naming false = leaf.Parent

-- whether a refusal says that there is no such file
abbrev pub is_absence : Errno → Bool
is_absence errno.ENOENT = true
is_absence _ = false

-- the directory and the last name, where nothing stands there, and else ENOENT
abbrev pub absent_at : Found → Walked
absent_at (found.In d n None) = walked.Absent d n
absent_at _ = walked.Refused errno.ENOENT

-- What was found; where that is ENOENT, the name that is absent, if the walk that names it finds one.
abbrev pub told : Found → Found → Walked
told (found.At p) name = walked.Found p
told (found.Refused e) name = if is_absence e then absent_at name else walked.Refused e
told (found.Need x) name = walked.Need x.mount x.dir x.name
told (found.In d n p) name = walked.Refused errno.ENOENT
told (found.Dot d) name = walked.Refused errno.ENOENT
told (found.Mount m) name = walked.Refused errno.ENOENT

-- what a path names, from a place
abbrev pub walk_in : Facts → Seen → Path → Bool → Walked
walk_in f start path follow = told (found_from f (finding follow) start path) (found_from f (naming follow) start path)
