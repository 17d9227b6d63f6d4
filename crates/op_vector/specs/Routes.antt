-- Where each operation goes on, by the kind of the vector and the vnode's data.
use Rattle.std.specs.Prelude.{Some, None}
use Rattle.vfs_tree.specs.declared.errno.Errno.{Errno}
use Rattle.vfs_tree.specs.declared.errno.Errno.TheVariants.{ENXIO, EIO, EBADF, ENOTDIR}
use Rattle.op_vector.specs.declared.data.VKind.{VKind}
use Rattle.op_vector.specs.declared.data.VKind.TheVariants as kind
use Rattle.op_vector.specs.declared.data.VData.{VData}
use Rattle.op_vector.specs.declared.data.VData.TheVariants.{Mem, Null, Union}
use Rattle.op_vector.specs.declared.data.Route.{Route}
use Rattle.op_vector.specs.declared.data.Route.TheVariants.{Here, Down, Pair, Refuse}
use Rattle.op_vector.specs.declared.data.Op.{Op}
use Rattle.op_vector.specs.declared.data.Op.TheVariants.{Lookup, Open, Read, Write, Getattr, Readdir, Readlink, Create, Remove, Rename, Link, Truncate, Inactive, Reclaim}

-- a memory file system answers every operation itself
abbrev pub mem_route : VData → Op → Route
mem_route (Mem mount ino) op = Here ino
mem_route other op = Refuse EBADF

-- a null layer passes every operation down
abbrev pub null_route : VData → Op → Route
null_route (Null mount lower) op = Down lower
null_route other op = Refuse EBADF

-- the upper part of a union, or its lower part where it has no upper one
abbrev pub upper_route : VData → Route
upper_route (Union mount ino (Some upper) lower at) = Down upper
upper_route (Union mount ino None (Some lower) at) = Down lower
upper_route other = Refuse EBADF

-- both parts of a union, or the one that it has
abbrev pub pair_route : VData → Route
pair_route (Union mount ino (Some upper) (Some lower) at) = Pair upper lower
pair_route (Union mount ino (Some upper) None at) = Down upper
pair_route (Union mount ino None (Some lower) at) = Down lower
pair_route other = Refuse EBADF

-- a union looks names up in both parts and lists both; all else is for the upper one
abbrev pub union_route : VData → Op → Route
union_route vd Lookup = pair_route vd
union_route vd Readdir = pair_route vd
union_route vd op = upper_route vd

-- the dead file system's error, whatever the vnode was
abbrev pub dead_errno : Op → Errno
dead_errno Lookup = ENOTDIR
dead_errno Open = ENXIO
dead_errno Read = EIO
dead_errno Write = EIO
dead_errno Getattr = EBADF
dead_errno Readdir = EBADF
dead_errno Readlink = EBADF
dead_errno Create = ENOTDIR
dead_errno Remove = ENOTDIR
dead_errno Rename = ENOTDIR
dead_errno Link = ENOTDIR
dead_errno Truncate = EBADF
dead_errno Inactive = EBADF
dead_errno Reclaim = EBADF

-- the dead file system refuses every operation
abbrev pub dead_route : VData → Op → Route
dead_route other op = Refuse (dead_errno op)

-- the routes of each kind of file system
abbrev pub routes_of : VKind → VData → Op → Route
routes_of kind.Mem = mem_route
routes_of kind.Null = null_route
routes_of kind.Union = union_route
routes_of kind.Dead = dead_route
