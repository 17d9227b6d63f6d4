-- Walks along paths.
use Rattle.std.specs.Prelude.{ℕ, zero, suc, Bool, true, false, not, ◌&&◌, ◌||◌, ◌==◌, if◌then◌else◌, List, [], ◌∷◌, ◌++◌, Option, Some, None}
use Rattle.vfs_tree.specs.Place.{Seen, Mem, mount_of}
use Rattle.vfs_tree.specs.Facts.{Facts}
use Rattle.vfs_tree.specs.Layers.{root_of, is_root, on_of, is_cut, is_dir, is_linked, base, target_of, parent_in}
use Rattle.vfs_tree.specs.Child.{child_of, steps}
use Rattle.vfs_tree.specs.Paths.{Path, parse}
use Rattle.vfs_tree.specs.Steps.{Step, Go, Refuse, Wants, ◌>>=◌, ◌>>◌, refuse_if}
use Rattle.vfs_tree.specs.declared.errno.Errno.TheVariants as errno
use Rattle.vfs_tree.specs.declared.open.Cwd.{Cwd}
use Rattle.vfs_tree.specs.declared.walk.Child.{Child}
use Rattle.vfs_tree.specs.declared.walk.Child.TheVariants as child
use Rattle.vfs_tree.specs.declared.walk.Component.{Component}
use Rattle.vfs_tree.specs.declared.walk.Component.TheVariants.{Dot, DotDot, Name}
use Rattle.vfs_tree.specs.declared.walk.Found.{Found}
use Rattle.vfs_tree.specs.declared.walk.Found.TheVariants as found
use Rattle.vfs_tree.specs.declared.walk.Leaf.{Leaf}
use Rattle.vfs_tree.specs.declared.walk.Leaf.TheVariants.{Follow, NoFollow, Parent, Create, Mount}
use Rattle.vfs_tree.specs.declared.walk.Need.{Need}

-- what a part of a walk comes to
abbrev pub Walked : Type 0 → Type 0
Walked A = Step A Need

-- ---- into the mounts that cover a place

abbrev pub enter_case : (Seen → Walked Seen) → Facts → Bool → Seen → Option ℕ → Walked Seen
enter_case on f into_cut p None = Go p
enter_case on f into_cut p (Some m) = refuse_if (not into_cut && is_cut f m) errno.EIO >> on (root_of f m)

abbrev pub enter_within : ℕ → Facts → Bool → Seen → Walked Seen
enter_within zero f into_cut p = Go p
enter_within (suc k) f into_cut p = enter_case (enter_within k f into_cut) f into_cut p (f.covering p)

-- at the root of the mount that covers the place, and so on; EIO where one of them is cut, unless it may be entered
abbrev pub enter_as : Facts → Bool → Seen → Walked Seen
enter_as = enter_within steps

abbrev pub enter : Facts → Seen → Walked Seen
enter f p = enter_as f false p

-- ---- up

abbrev pub leave_case : (Seen → Seen) → Seen → Bool → Option Seen → Seen
leave_case on d true (Some p) = on p
leave_case on d true None = d
leave_case on d false p = d

abbrev pub leave_within : ℕ → Facts → Seen → Seen
leave_within zero f d = d
leave_within (suc k) f d = leave_case (leave_within k f) d (not (mount_of d == 0) && is_root f d) (on_of f (mount_of d))

-- the directory that is covered, where the directory is the root of a mount other than the first, and so on
abbrev pub leave : Facts → Seen → Seen
leave = leave_within steps

-- the directory above, not yet entered
abbrev pub above : Facts → Seen → Seen
above f d = parent_in f (leave f d)

-- ---- one component

-- a component is looked up in a directory that was not removed
abbrev pub check_dir : Facts → Seen → Walked (Unit {0})
check_dir f d = do
  refuse_if (not (is_dir f d)) errno.ENOTDIR
  refuse_if (not (let b = base f d in is_linked f b.store b.ino)) errno.ENOENT

abbrev pub is_mount : Leaf → Bool
is_mount Mount = true
is_mount Follow = false
is_mount NoFollow = false
is_mount Parent = false
is_mount Create = false

abbrev pub is_last : List Component → Bool
is_last [] = true
is_last (c ∷ rest) = false

-- what was found is entered; the last one of a walk to a mount goes into a cut mount too
abbrev pub entered : Facts → Leaf → List Component → Seen → Walked Seen
entered f leaf rest p = enter_as f (is_mount leaf && is_last rest) p

-- where the last name is absent: an answer of `Create`, and else ENOENT
abbrev pub absent : Leaf → List Component → Seen → List ℕ → Walked Found
absent Create [] d n = Go (found.In d n None)
absent Create (c ∷ rest) d n = Refuse errno.ENOENT
absent Follow rest d n = Refuse errno.ENOENT
absent NoFollow rest d n = Refuse errno.ENOENT
absent Parent rest d n = Refuse errno.ENOENT
absent Mount rest d n = Refuse errno.ENOENT

-- the path of a link that is to be followed: each but the last one of `NoFollow`
abbrev pub followed : Facts → Leaf → List Component → Seen → Option (List ℕ)
followed f NoFollow [] p = None
followed f NoFollow (c ∷ rest) p = target_of f p
followed f Follow rest p = target_of f p
followed f Parent rest p = target_of f p
followed f Create rest p = target_of f p
followed f Mount rest p = target_of f p

-- what stands at a name is entered, or its link followed; `jump` takes the link's path, `on` goes on with the rest
abbrev pub pass : Facts → Leaf → (List ℕ → Walked Found) → List Component → (Seen → Walked Found) → Seen → Option (List ℕ) → Walked Found
pass f leaf jump rest on p None = entered f leaf rest p >>= on
pass f leaf jump rest on p (Some text) = jump text

abbrev pub pass_child : Facts → Leaf → (List ℕ → Walked Found) → List Component → (Seen → Walked Found) → Seen → List ℕ → Child → Walked Found
pass_child f leaf jump rest on d n (child.At p) = pass f leaf jump rest on p (followed f leaf rest p)
pass_child f leaf jump rest on d n child.Absent = absent leaf rest d n
pass_child f leaf jump rest on d n (child.Need x) = Wants x

-- ---- along components. `jump` goes on at a link: with its path, the components after it, and its directory.

abbrev pub Jump : Type 0
Jump = List ℕ → List Component → Seen → Walked Found

abbrev pub along : Facts → Leaf → Jump → List Component → Seen → Walked Found
along f leaf jump [] d = Go (found.At d)
along f leaf jump (Dot ∷ rest) d = check_dir f d >> entered f leaf rest d >>= along f leaf jump rest
along f leaf jump (DotDot ∷ rest) d = check_dir f d >> entered f leaf rest (above f d) >>= along f leaf jump rest
along f leaf jump (Name n ∷ rest) d = do
  check_dir f d
  pass_child f leaf (λ text. jump text rest d) rest (along f leaf jump rest) d n (child_of f d n)

-- ---- links

-- where a walk begins: an absolute path at the root directory, which is entered, a relative one in a directory
abbrev pub begin : Facts → Leaf → Path → Walked Seen → Walked Seen
begin f leaf path d = if path.absolute then entered f leaf path.parts (Mem 0 1) else d

-- a link's path, whose components stand before the rest
abbrev pub spliced : Path → List Component → Path
spliced path rest = record { absolute = path.absolute; parts = path.parts ++ rest }

abbrev pub jump_along : Facts → Leaf → Jump → Path → Seen → Walked Found
jump_along f leaf jump path d = begin f leaf path (Go d) >>= along f leaf jump path.parts

-- one link more; ELOOP where that are too many, whatever its path is
abbrev pub jump_within : ℕ → Facts → Leaf → Jump
jump_within zero f leaf text rest d = Refuse errno.ELOOP
jump_within (suc k) f leaf text rest d = do
  path ← parse text
  jump_along f leaf (jump_within k f leaf) (spliced path rest) d

-- a walk follows at most 32 links
abbrev pub walk_from : Facts → Leaf → List Component → Seen → Walked Found
walk_from f leaf = along f leaf (jump_within 32 f leaf)

-- ---- the directory in which a relative path begins

-- EIO where its mount is cut
abbrev pub in_place : Facts → Seen → Walked Seen
in_place f p = refuse_if (is_cut f (mount_of p)) errno.EIO >> Go p

-- ENOTDIR where it is dead
abbrev pub in_cwd : Facts → Option Cwd → Walked Seen
in_cwd f (Some c) = refuse_if c.dead errno.ENOTDIR >> in_place f c.place
in_cwd f None = Refuse errno.ENOTDIR

-- ---- the five forms

abbrev pub walk_path : Facts → Leaf → Walked Seen → Path → Walked Found
walk_path f leaf from path = begin f leaf path from >>= walk_from f leaf path.parts

-- all components but the last
abbrev pub but_last : List Component → List Component
but_last [] = []
but_last (c ∷ []) = []
but_last (c ∷ d ∷ rest) = c ∷ but_last (d ∷ rest)

-- the last component, where it is a name
abbrev pub last_name : List Component → Option (List ℕ)
last_name [] = None
last_name (Name n ∷ []) = Some n
last_name (Dot ∷ []) = None
last_name (DotDot ∷ []) = None
last_name (c ∷ d ∷ rest) = last_name (d ∷ rest)

-- a name in a directory and what stands there, which is neither entered nor followed
abbrev pub named : Seen → List ℕ → Child → Walked Found
named d n (child.At p) = Go (found.In d n (Some p))
named d n child.Absent = Go (found.In d n None)
named d n (child.Need x) = Wants x

-- the directory itself where there is no last name
abbrev pub parent_at : Facts → Option (List ℕ) → Seen → Walked Found
parent_at f None d = Go (found.Dot d)
parent_at f (Some n) d = named d n (child_of f d n)

abbrev pub parent_found : Facts → Option (List ℕ) → Found → Walked Found
parent_found f last (found.At d) = check_dir f d >> parent_at f last d
parent_found f last x = Go x

-- the mount whose root was found, and else EINVAL
abbrev pub mount_found : Facts → Found → Walked Found
mount_found f (found.At p) = refuse_if (not (is_root f p)) errno.EINVAL >> Go (found.Mount (mount_of p))
mount_found f x = Go x

-- the walk of a form: a relative path begins at `from`
abbrev pub walk : Facts → Leaf → Walked Seen → Path → Walked Found
walk f Follow from path = walk_path f Follow from path
walk f NoFollow from path = walk_path f NoFollow from path
walk f Create from path = walk_path f Create from path
walk f Mount from path = walk_path f Mount from path >>= mount_found f
walk f Parent from path =
    walk_path f Follow from (record { absolute = path.absolute; parts = but_last path.parts }) >>= parent_found f (last_name path.parts)

-- what a walk finds, as a value
abbrev pub found_of : Walked Found → Found
found_of (Go x) = x
found_of (Refuse e) = found.Refused e
found_of (Wants x) = found.Need x

-- what is found at a path as it is written
abbrev pub find : Facts → Leaf → Walked Seen → List ℕ → Found
find f leaf from text = found_of (parse text >>= walk f leaf from)
