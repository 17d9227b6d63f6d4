-- The first words of calls.
use Rattle.std.specs.Prelude.{ℕ, if◌then◌else◌, List, [], ◌∷◌, Option, Some, None, codes}
use Rattle.std.specs.Str.{bytes_eq}
use Rattle.call_model.specs.declared.call.Call.{Call}
use Rattle.call_model.specs.declared.call.Call.TheVariants as call
use Rattle.script_text.specs.declared.keyword.PathKeyword.{PathKeyword}
use Rattle.script_text.specs.declared.keyword.PathKeyword.TheVariants as path
use Rattle.script_text.specs.declared.keyword.DescriptorKeyword.{DescriptorKeyword}
use Rattle.script_text.specs.declared.keyword.DescriptorKeyword.TheVariants as descriptor
use Rattle.script_text.specs.declared.keyword.PathsKeyword.{PathsKeyword}
use Rattle.script_text.specs.declared.keyword.PathsKeyword.TheVariants as paths
use Rattle.script_text.specs.declared.keyword.Keyword.{Keyword}
use Rattle.script_text.specs.declared.keyword.Keyword.TheVariants as key
use Rattle.script_text.specs.declared.keyword.TheConstants.{KEYWORDS}

-- the word of a call that takes one path
abbrev pub path_keyword_text : PathKeyword → List ℕ
path_keyword_text path.Mkdir = codes "mkdir"
path_keyword_text path.Rmdir = codes "rmdir"
path_keyword_text path.Stat = codes "stat"
path_keyword_text path.Lstat = codes "lstat"
path_keyword_text path.Unlink = codes "unlink"
path_keyword_text path.Readlink = codes "readlink"
path_keyword_text path.Undelete = codes "undelete"
path_keyword_text path.Chdir = codes "chdir"
path_keyword_text path.Statfs = codes "statfs"
path_keyword_text path.MountMem = codes "mountmem"
path_keyword_text path.Umount = codes "umount"
path_keyword_text path.UmountForce = codes "umountforce"
path_keyword_text path.Revoke = codes "revoke"

-- the word of a call that takes a descriptor alone
abbrev pub descriptor_keyword_text : DescriptorKeyword → List ℕ
descriptor_keyword_text descriptor.Close = codes "close"
descriptor_keyword_text descriptor.Fstat = codes "fstat"
descriptor_keyword_text descriptor.Readdir = codes "readdir"
descriptor_keyword_text descriptor.Fchdir = codes "fchdir"

-- the word of a call that takes two paths, or a target and a path
abbrev pub paths_keyword_text : PathsKeyword → List ℕ
paths_keyword_text paths.Rename = codes "rename"
paths_keyword_text paths.Link = codes "link"
paths_keyword_text paths.Symlink = codes "symlink"
paths_keyword_text paths.MountNull = codes "mountnull"
paths_keyword_text paths.MountUnion = codes "mountunion"

-- the word itself
abbrev pub keyword_text : Keyword → List ℕ
keyword_text (key.Path k) = path_keyword_text k
keyword_text (key.Descriptor k) = descriptor_keyword_text k
keyword_text (key.Paths k) = paths_keyword_text k
keyword_text key.Open = codes "open"
keyword_text key.Read = codes "read"
keyword_text key.Pread = codes "pread"
keyword_text key.Write = codes "write"
keyword_text key.Pwrite = codes "pwrite"
keyword_text key.Lseek = codes "lseek"
keyword_text key.Truncate = codes "truncate"
keyword_text key.Ftruncate = codes "ftruncate"

-- the first word of a call
abbrev pub keyword : Call → Keyword
keyword (call.Mkdir p) = key.Path path.Mkdir
keyword (call.Rmdir p) = key.Path path.Rmdir
keyword (call.Open p f) = key.Open
keyword (call.Close d) = key.Descriptor descriptor.Close
keyword (call.Read d n) = key.Read
keyword (call.Pread d n o) = key.Pread
keyword (call.Write d w) = key.Write
keyword (call.Pwrite d o w) = key.Pwrite
keyword (call.Lseek d h i) = key.Lseek
keyword (call.Truncate p n) = key.Truncate
keyword (call.Ftruncate d n) = key.Ftruncate
keyword (call.Stat p) = key.Path path.Stat
keyword (call.Lstat p) = key.Path path.Lstat
keyword (call.Fstat d) = key.Descriptor descriptor.Fstat
keyword (call.Readdir d) = key.Descriptor descriptor.Readdir
keyword (call.Unlink p) = key.Path path.Unlink
keyword (call.Rename a b) = key.Paths paths.Rename
keyword (call.Link a b) = key.Paths paths.Link
keyword (call.Symlink t p) = key.Paths paths.Symlink
keyword (call.Readlink p) = key.Path path.Readlink
keyword (call.Undelete p) = key.Path path.Undelete
keyword (call.Chdir p) = key.Path path.Chdir
keyword (call.Fchdir d) = key.Descriptor descriptor.Fchdir
keyword (call.Statfs p) = key.Path path.Statfs
keyword (call.MountMem p) = key.Path path.MountMem
keyword (call.MountNull t p) = key.Paths paths.MountNull
keyword (call.MountUnion u p) = key.Paths paths.MountUnion
keyword (call.Umount p) = key.Path path.Umount
keyword (call.UmountForce p) = key.Path path.UmountForce
keyword (call.Revoke p) = key.Path path.Revoke

-- the first of these keywords that is this word
abbrev pub find_keyword : List ℕ → List Keyword → Option Keyword
find_keyword word [] = None
find_keyword word (k ∷ ks) = if bytes_eq (keyword_text k) word then Some k else find_keyword word ks

-- the keyword that is this word
unfoldable pub keyword_at : List ℕ → Option Keyword
keyword_at word = find_keyword word KEYWORDS
