-- The text of a line: a caller and its call.
use Rattle.std.specs.Prelude.{ℕ, List, [], ◌∷◌, ◌++◌, decimal}
use Rattle.std.specs.Fmt.{signed_decimal}
use Rattle.std.specs.List.{join_with_byte, flat_map}
use Rattle.call_model.specs.declared.call.Call.{Call}
use Rattle.call_model.specs.declared.call.Call.TheVariants as call
use Rattle.call_model.specs.declared.call.Line.{Line}
use Rattle.script_text.specs.Word.{word_text}
use Rattle.script_text.specs.Flags.{flags_text, whence_text}
use Rattle.script_text.specs.Keyword.{keyword, keyword_text}

-- the words after the first of a call, in the order of its fields
abbrev pub call_words : Call → List (List ℕ)
call_words (call.Mkdir p) = word_text p ∷ []
call_words (call.Rmdir p) = word_text p ∷ []
call_words (call.Open p f) = word_text p ∷ flags_text f ∷ []
call_words (call.Close d) = decimal d ∷ []
call_words (call.Read d n) = decimal d ∷ decimal n ∷ []
call_words (call.Pread d n o) = decimal d ∷ decimal n ∷ decimal o ∷ []
call_words (call.Write d w) = decimal d ∷ word_text w ∷ []
call_words (call.Pwrite d o w) = decimal d ∷ decimal o ∷ word_text w ∷ []
call_words (call.Lseek d h i) = decimal d ∷ whence_text h ∷ signed_decimal i ∷ []
call_words (call.Truncate p n) = word_text p ∷ decimal n ∷ []
call_words (call.Ftruncate d n) = decimal d ∷ decimal n ∷ []
call_words (call.Stat p) = word_text p ∷ []
call_words (call.Lstat p) = word_text p ∷ []
call_words (call.Fstat d) = decimal d ∷ []
call_words (call.Readdir d) = decimal d ∷ []
call_words (call.Unlink p) = word_text p ∷ []
call_words (call.Rename a b) = word_text a ∷ word_text b ∷ []
call_words (call.Link a b) = word_text a ∷ word_text b ∷ []
call_words (call.Symlink t p) = word_text t ∷ word_text p ∷ []
call_words (call.Readlink p) = word_text p ∷ []
call_words (call.Undelete p) = word_text p ∷ []
call_words (call.Chdir p) = word_text p ∷ []
call_words (call.Fchdir d) = decimal d ∷ []
call_words (call.Statfs p) = word_text p ∷ []
call_words (call.MountMem p) = word_text p ∷ []
call_words (call.MountNull t p) = word_text t ∷ word_text p ∷ []
call_words (call.MountUnion u p) = word_text u ∷ word_text p ∷ []
call_words (call.Umount p) = word_text p ∷ []
call_words (call.UmountForce p) = word_text p ∷ []
call_words (call.Revoke p) = word_text p ∷ []

-- the words with a space before each
abbrev pub spaced : List (List ℕ) → List ℕ
spaced words = flat_map (λ word. 32 ∷ word) words

-- the words of a line: the caller, the call's first word, and what the call takes
abbrev pub line_words : Line → List (List ℕ)
line_words line = decimal line.caller ∷ keyword_text (keyword line.call) ∷ call_words line.call

-- the text of a line, without its line end: its words with a space between each two
unfoldable pub line_text : Line → List ℕ
line_text line = join_with_byte 32 (line_words line)

-- the text of a line with its line end
abbrev pub ended_line : Line → List ℕ
ended_line line = line_text line ++ 10 ∷ []

-- the text of a caller's call, that of their line
abbrev pub call_text : ℕ → Call → List ℕ
call_text caller call = line_text (record { caller = caller; call = call })
