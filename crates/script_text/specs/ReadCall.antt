-- Reading lines: a line is read in good faith, and is the line that was read exactly where that prints it.
use Rattle.std.specs.Prelude.{ℕ, Bool, ◌&&◌, nat_lt, nat_le, ◌==◌, if◌then◌else◌, List, [], ◌∷◌, Option, Some, None}
use Rattle.std.specs.List.{slice_split}
use Rattle.std.specs.Str.{bytes_eq}
use Rattle.call_model.specs.declared.call.Call.{Call}
use Rattle.call_model.specs.declared.call.Call.TheVariants as call
use Rattle.call_model.specs.declared.call.Line.{Line}
use Rattle.script_text.specs.declared.keyword.PathKeyword.{PathKeyword}
use Rattle.script_text.specs.declared.keyword.PathKeyword.TheVariants as path
use Rattle.script_text.specs.declared.keyword.DescriptorKeyword.{DescriptorKeyword}
use Rattle.script_text.specs.declared.keyword.DescriptorKeyword.TheVariants as descriptor
use Rattle.script_text.specs.declared.keyword.PathsKeyword.{PathsKeyword}
use Rattle.script_text.specs.declared.keyword.PathsKeyword.TheVariants as paths
use Rattle.script_text.specs.declared.keyword.Keyword.{Keyword}
use Rattle.script_text.specs.declared.keyword.Keyword.TheVariants as key
use Rattle.script_text.specs.Keyword.{keyword_at}
use Rattle.script_text.specs.Line.{line_text}
use Rattle.script_text.specs.Reading.{◌>>=◌}
use Rattle.script_text.specs.ReadWord.{bytes_at, number_at, offset_at, flags_at, whence_at}

-- a call of one word
abbrev pub one : {A : Type 0} → (List ℕ → Option A) → (A → Call) → List (List ℕ) → Option Call
one read make (word ∷ []) = read word >>= λ x. Some (make x)
one read make words = None

-- a call of two words
abbrev pub two : {A B : Type 0} → (List ℕ → Option A) → (List ℕ → Option B) → (A → B → Call) → List (List ℕ) → Option Call
two read then_read make (word ∷ next ∷ []) = read word >>= λ x. then_read next >>= λ y. Some (make x y)
two read then_read make words = None

-- a call of three words
abbrev pub three : {A B C : Type 0} → (List ℕ → Option A) → (List ℕ → Option B) → (List ℕ → Option C) → (A → B → C → Call) → List (List ℕ) → Option Call
three read then_read last_read make (word ∷ next ∷ last ∷ []) = read word >>= λ x. then_read next >>= λ y. last_read last >>= λ z. Some (make x y z)
three read then_read last_read make words = None

-- the call of one path
abbrev pub path_call : PathKeyword → List ℕ → Call
path_call path.Mkdir p = call.Mkdir p
path_call path.Rmdir p = call.Rmdir p
path_call path.Stat p = call.Stat p
path_call path.Lstat p = call.Lstat p
path_call path.Unlink p = call.Unlink p
path_call path.Readlink p = call.Readlink p
path_call path.Undelete p = call.Undelete p
path_call path.Chdir p = call.Chdir p
path_call path.Statfs p = call.Statfs p
path_call path.MountMem p = call.MountMem p
path_call path.Umount p = call.Umount p
path_call path.UmountForce p = call.UmountForce p
path_call path.Revoke p = call.Revoke p

-- the call of one descriptor
abbrev pub descriptor_call : DescriptorKeyword → ℕ → Call
descriptor_call descriptor.Close d = call.Close d
descriptor_call descriptor.Fstat d = call.Fstat d
descriptor_call descriptor.Readdir d = call.Readdir d
descriptor_call descriptor.Fchdir d = call.Fchdir d

-- the call of two paths, or of a target and a path
abbrev pub paths_call : PathsKeyword → List ℕ → List ℕ → Call
paths_call paths.Rename a b = call.Rename a b
paths_call paths.Link a b = call.Link a b
paths_call paths.Symlink t p = call.Symlink t p
paths_call paths.MountNull t p = call.MountNull t p
paths_call paths.MountUnion u p = call.MountUnion u p

-- the call of this first word that takes these words
abbrev pub call_at : Keyword → List (List ℕ) → Option Call
call_at (key.Path k) words = one bytes_at (path_call k) words
call_at (key.Descriptor k) words = one number_at (descriptor_call k) words
call_at (key.Paths k) words = two bytes_at bytes_at (paths_call k) words
call_at key.Open words = two bytes_at flags_at (λ p f. call.Open p f) words
call_at key.Read words = two number_at number_at (λ d n. call.Read d n) words
call_at key.Pread words = three number_at number_at number_at (λ d n o. call.Pread d n o) words
call_at key.Write words = two number_at bytes_at (λ d w. call.Write d w) words
call_at key.Pwrite words = three number_at number_at bytes_at (λ d o w. call.Pwrite d o w) words
call_at key.Lseek words = three number_at whence_at offset_at (λ d h i. call.Lseek d h i) words
call_at key.Truncate words = two bytes_at number_at (λ p n. call.Truncate p n) words
call_at key.Ftruncate words = two number_at number_at (λ d n. call.Ftruncate d n) words

-- the line of this caller's word, this first word of a call and the words that the call takes
abbrev pub line_from : List ℕ → List ℕ → List (List ℕ) → Option Line
line_from caller word words = do
  n ← number_at caller
  k ← keyword_at word
  c ← call_at k words
  Some (record { caller = n; call = c })

-- the line of these words
unfoldable pub words_at : List (List ℕ) → Option Line
words_at (caller ∷ word ∷ words) = line_from caller word words
words_at words = None

-- a caller's number, from 1 to the number of callers
abbrev pub is_caller : ℕ → ℕ → Bool
is_caller callers n = nat_lt 0 n && nat_le n callers

-- the line of this text, of a script of so many callers
unfoldable pub line_at : ℕ → List ℕ → Option Line
line_at callers text = words_at (slice_split (λ b. b == 32) text) >>= λ line. if bytes_eq (line_text line) text && is_caller callers line.caller then Some line else None
