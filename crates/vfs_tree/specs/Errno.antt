-- The numbers and names of errors, as errno(2) has them.
use Rattle.std.specs.Prelude.{ℕ, List, codes}
use Rattle.vfs_tree.specs.declared.errno.Errno.{Errno}
use Rattle.vfs_tree.specs.declared.errno.Errno.TheVariants.{EPERM, ENOENT, EIO, ENXIO, EBADF, EDEADLK, ENOMEM, EBUSY, EEXIST, EXDEV, ENOTDIR, EISDIR, EINVAL, ENFILE, EMFILE, EFBIG, ENOSPC, EROFS, EAGAIN, ELOOP, ENAMETOOLONG, ENOTEMPTY}

-- the number of an error
abbrev pub number_of : Errno → ℕ
number_of EPERM = 1
number_of ENOENT = 2
number_of EIO = 5
number_of ENXIO = 6
number_of EBADF = 9
number_of EDEADLK = 11
number_of ENOMEM = 12
number_of EBUSY = 16
number_of EEXIST = 17
number_of EXDEV = 18
number_of ENOTDIR = 20
number_of EISDIR = 21
number_of EINVAL = 22
number_of ENFILE = 23
number_of EMFILE = 24
number_of EFBIG = 27
number_of ENOSPC = 28
number_of EROFS = 30
number_of EAGAIN = 35
number_of ELOOP = 62
number_of ENAMETOOLONG = 63
number_of ENOTEMPTY = 66

-- the name of an error
abbrev pub text_of : Errno → List ℕ
text_of EPERM = codes "EPERM"
text_of ENOENT = codes "ENOENT"
text_of EIO = codes "EIO"
text_of ENXIO = codes "ENXIO"
text_of EBADF = codes "EBADF"
text_of EDEADLK = codes "EDEADLK"
text_of ENOMEM = codes "ENOMEM"
text_of EBUSY = codes "EBUSY"
text_of EEXIST = codes "EEXIST"
text_of EXDEV = codes "EXDEV"
text_of ENOTDIR = codes "ENOTDIR"
text_of EISDIR = codes "EISDIR"
text_of EINVAL = codes "EINVAL"
text_of ENFILE = codes "ENFILE"
text_of EMFILE = codes "EMFILE"
text_of EFBIG = codes "EFBIG"
text_of ENOSPC = codes "ENOSPC"
text_of EROFS = codes "EROFS"
text_of EAGAIN = codes "EAGAIN"
text_of ELOOP = codes "ELOOP"
text_of ENAMETOOLONG = codes "ENAMETOOLONG"
text_of ENOTEMPTY = codes "ENOTEMPTY"
