-- The text of a reply.
use Rattle.std.specs.Prelude.{ℕ, List, [], ◌∷◌, ◌++◌, flat_map, codes, decimal}
use Rattle.vfs_tree.specs.Errno.{text_of}
use Rattle.vfs_tree.specs.declared.node.Kind.{Kind}
use Rattle.vfs_tree.specs.declared.node.Kind.TheVariants as kind
use Rattle.call_model.specs.declared.reply.MountWord.{MountWord}
use Rattle.call_model.specs.declared.reply.MountWord.TheVariants as mount
use Rattle.call_model.specs.declared.reply.Reply.{Reply}
use Rattle.call_model.specs.declared.reply.Reply.TheVariants as reply
use Rattle.script_text.specs.Word.{word_text}

-- the word of a kind of file
abbrev pub kind_text : Kind → List ℕ
kind_text kind.Dir = codes "dir"
kind_text kind.File = codes "file"
kind_text kind.Link = codes "link"

-- the word of a kind of mount
abbrev pub mount_word_text : MountWord → List ℕ
mount_word_text mount.Mem = codes "mem"
mount_word_text mount.Null = codes "null"
mount_word_text mount.Union = codes "union"

-- the names, each a byte word behind a space
abbrev pub names_text : List (List ℕ) → List ℕ
names_text names = flat_map (λ name. 32 ∷ word_text name) names

-- the text of a reply
abbrev pub reply_text : Reply → List ℕ
reply_text reply.Done = codes "ok"
reply_text (reply.Fd fd) = codes "fd " ++ decimal fd
reply_text (reply.Count n) = codes "count " ++ decimal n
reply_text (reply.Offset at) = codes "offset " ++ decimal at
reply_text (reply.Bytes bytes) = codes "data " ++ word_text bytes
reply_text (reply.Stat kind size) = codes "stat " ++ kind_text kind ++ 32 ∷ [] ++ decimal size
reply_text (reply.Names names) = codes "names" ++ names_text names
reply_text (reply.Target bytes) = codes "target " ++ word_text bytes
reply_text (reply.Fs mount kind) = codes "fs " ++ decimal mount ++ 32 ∷ [] ++ mount_word_text kind
reply_text (reply.Fail errno) = codes "error " ++ text_of errno
