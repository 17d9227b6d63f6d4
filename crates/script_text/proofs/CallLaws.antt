-- A call that is read fits, and a call that fits is read again from its words, which have no space and no line end.
use Rattle.std.proofs.Common.{◌≡◌, ℕ, ◌<◌, true, List, [], ◌∷◌, Option, Some, refl, subst, decimal}
use Rattle.std.proofs.lemmas.Option.{same_Some}
use Rattle.std.specs.Fmt.{signed_decimal}
use Rattle.call_model.specs.declared.call.Call.{Call}
use Rattle.call_model.specs.declared.call.Call.TheVariants as call
use Rattle.script_text.specs.declared.keyword.PathKeyword.{PathKeyword}
use Rattle.script_text.specs.declared.keyword.PathKeyword.TheVariants as path
use Rattle.script_text.specs.declared.keyword.DescriptorKeyword.{DescriptorKeyword}
use Rattle.script_text.specs.declared.keyword.DescriptorKeyword.TheVariants as descriptor
use Rattle.script_text.specs.declared.keyword.PathsKeyword.{PathsKeyword}
use Rattle.script_text.specs.declared.keyword.PathsKeyword.TheVariants as paths
use Rattle.script_text.specs.declared.keyword.Keyword.{Keyword}
use Rattle.script_text.specs.declared.keyword.Keyword.TheVariants as key
use Rattle.script_text.specs.Word.{IsBytes, word_text}
use Rattle.script_text.specs.Flags.{flags_text, whence_text}
use Rattle.script_text.specs.Keyword.{keyword}
use Rattle.script_text.specs.Line.{call_words}
use Rattle.script_text.specs.Fits.{IsNumber, FitsCall}
use Rattle.script_text.specs.Reading.{◌>>=◌}
use Rattle.script_text.specs.ReadWord.{bytes_at, number_at, offset_at, flags_at, whence_at}
use Rattle.script_text.specs.ReadCall.{one, two, three, path_call, descriptor_call, paths_call, call_at}
use Rattle.script_text.proofs.Joined.{lacks, EachLacks, above_lacks}
use Rattle.script_text.proofs.Escapes.{word_again, word_above, bytes_found}
use Rattle.script_text.proofs.Values.{bind_some, number_found, number_again, decimal_above, offset_again, offset_found, offset_above, flags_again, flags_above, whence_again, whence_above}

-- ---- calls of one, two and three words

one_found : {A : Type 0} (read : List ℕ → Option A) (make : A → Call) → ((word : List ℕ) (x : A) → read word ≡ Some x → FitsCall (make x)) → (words : List (List ℕ)) (c : Call) → one read make words ≡ Some c → FitsCall c
one_found read make fits [] c e = absurd cc
one_found read make fits (word ∷ []) c e =
    let b = bind_some (read word) (λ x. Some (make x)) c e in
    subst FitsCall (same_Some (make b.0) c b.2) (fits word b.0 b.1)
one_found read make fits (word ∷ next ∷ words) c e = absurd cc

two_found : {A B : Type 0} (read : List ℕ → Option A) (then_read : List ℕ → Option B) (make : A → B → Call) → ((word next : List ℕ) (x : A) (y : B) → read word ≡ Some x → then_read next ≡ Some y → FitsCall (make x y)) → (words : List (List ℕ)) (c : Call) → two read then_read make words ≡ Some c → FitsCall c
two_found read then_read make fits [] c e = absurd cc
two_found read then_read make fits (word ∷ []) c e = absurd cc
two_found read then_read make fits (word ∷ next ∷ []) c e =
    let b = bind_some (read word) (λ x. then_read next >>= λ y. Some (make x y)) c e in
    let d = bind_some (then_read next) (λ y. Some (make b.0 y)) c b.2 in
    subst FitsCall (same_Some (make b.0 d.0) c d.2) (fits word next b.0 d.0 b.1 d.1)
two_found read then_read make fits (word ∷ next ∷ last ∷ words) c e = absurd cc

three_found : {A B C : Type 0} (read : List ℕ → Option A) (then_read : List ℕ → Option B) (last_read : List ℕ → Option C) (make : A → B → C → Call) → ((word next last : List ℕ) (x : A) (y : B) (z : C) → read word ≡ Some x → then_read next ≡ Some y → last_read last ≡ Some z → FitsCall (make x y z)) → (words : List (List ℕ)) (c : Call) → three read then_read last_read make words ≡ Some c → FitsCall c
three_found read then_read last_read make fits [] c e = absurd cc
three_found read then_read last_read make fits (word ∷ []) c e = absurd cc
three_found read then_read last_read make fits (word ∷ next ∷ []) c e = absurd cc
three_found read then_read last_read make fits (word ∷ next ∷ last ∷ []) c e =
    let b = bind_some (read word) (λ x. then_read next >>= λ y. last_read last >>= λ z. Some (make x y z)) c e in
    let d = bind_some (then_read next) (λ y. last_read last >>= λ z. Some (make b.0 y z)) c b.2 in
    let f = bind_some (last_read last) (λ z. Some (make b.0 d.0 z)) c d.2 in
    subst FitsCall (same_Some (make b.0 d.0 f.0) c f.2) (fits word next last b.0 d.0 f.0 b.1 d.1 f.1)
three_found read then_read last_read make fits (word ∷ next ∷ last ∷ more ∷ words) c e = absurd cc

one_again : {A : Type 0} (read : List ℕ → Option A) (make : A → Call) (word : List ℕ) (x : A) → read word ≡ Some x → one read make (word ∷ []) ≡ Some (make x)
one_again read make word x p = rw p refl

two_again : {A B : Type 0} (read : List ℕ → Option A) (then_read : List ℕ → Option B) (make : A → B → Call) (word next : List ℕ) (x : A) (y : B) → read word ≡ Some x → then_read next ≡ Some y → two read then_read make (word ∷ next ∷ []) ≡ Some (make x y)
two_again read then_read make word next x y p q = rw (p, q) refl

three_again : {A B C : Type 0} (read : List ℕ → Option A) (then_read : List ℕ → Option B) (last_read : List ℕ → Option C) (make : A → B → C → Call) (word next last : List ℕ) (x : A) (y : B) (z : C) → read word ≡ Some x → then_read next ≡ Some y → last_read last ≡ Some z → three read then_read last_read make (word ∷ next ∷ last ∷ []) ≡ Some (make x y z)
three_again read then_read last_read make word next last x y z p q r = rw (p, q, r) refl

-- ---- what is read fits

path_fits : (k : PathKeyword) (p : List ℕ) → IsBytes p → FitsCall (path_call k p)
path_fits path.Mkdir p h = h
path_fits path.Rmdir p h = h
path_fits path.Stat p h = h
path_fits path.Lstat p h = h
path_fits path.Unlink p h = h
path_fits path.Readlink p h = h
path_fits path.Undelete p h = h
path_fits path.Chdir p h = h
path_fits path.Statfs p h = h
path_fits path.MountMem p h = h
path_fits path.Umount p h = h
path_fits path.UmountForce p h = h
path_fits path.Revoke p h = h

descriptor_fits : (k : DescriptorKeyword) (d : ℕ) → IsNumber d → FitsCall (descriptor_call k d)
descriptor_fits descriptor.Close d h = h
descriptor_fits descriptor.Fstat d h = h
descriptor_fits descriptor.Readdir d h = h
descriptor_fits descriptor.Fchdir d h = h

paths_fits : (k : PathsKeyword) (a b : List ℕ) → IsBytes a → IsBytes b → FitsCall (paths_call k a b)
paths_fits paths.Rename a b g h = (g, h)
paths_fits paths.Link a b g h = (g, h)
paths_fits paths.Symlink a b g h = (g, h)
paths_fits paths.MountNull a b g h = (g, h)
paths_fits paths.MountUnion a b g h = (g, h)

is_number : (word : List ℕ) (n : ℕ) → number_at word ≡ Some n → IsNumber n
is_number word n e = (number_found word n e).1

pub call_found : (k : Keyword) (words : List (List ℕ)) (c : Call) → call_at k words ≡ Some c → FitsCall c
call_found (key.Path k) words c e = one_found bytes_at (path_call k) (λ v x p. path_fits k x (bytes_found v x p)) words c e
call_found (key.Descriptor k) words c e = one_found number_at (descriptor_call k) (λ v x p. descriptor_fits k x (is_number v x p)) words c e
call_found (key.Paths k) words c e = two_found bytes_at bytes_at (paths_call k) (λ v w x y p q. paths_fits k x y (bytes_found v x p) (bytes_found w y q)) words c e
call_found key.Open words c e = two_found bytes_at flags_at (λ p f. call.Open p f) (λ v w x y p q. bytes_found v x p) words c e
call_found key.Read words c e = two_found number_at number_at (λ d n. call.Read d n) (λ v w x y p q. (is_number v x p, is_number w y q)) words c e
call_found key.Pread words c e = three_found number_at number_at number_at (λ d n o. call.Pread d n o) (λ u v w x y z p q r. (is_number u x p, is_number v y q, is_number w z r)) words c e
call_found key.Write words c e = two_found number_at bytes_at (λ d w. call.Write d w) (λ v w x y p q. (is_number v x p, bytes_found w y q)) words c e
call_found key.Pwrite words c e = three_found number_at number_at bytes_at (λ d o w. call.Pwrite d o w) (λ u v w x y z p q r. (is_number u x p, is_number v y q, bytes_found w z r)) words c e
call_found key.Lseek words c e = three_found number_at whence_at offset_at (λ d h i. call.Lseek d h i) (λ u v w x y z p q r. (is_number u x p, offset_found w z r)) words c e
call_found key.Truncate words c e = two_found bytes_at number_at (λ p n. call.Truncate p n) (λ v w x y p q. (bytes_found v x p, is_number w y q)) words c e
call_found key.Ftruncate words c e = two_found number_at number_at (λ d n. call.Ftruncate d n) (λ v w x y p q. (is_number v x p, is_number w y q)) words c e

-- ---- what fits is read again

path_again : (k : PathKeyword) (p : List ℕ) → IsBytes p → call_at (key.Path k) (word_text p ∷ []) ≡ Some (path_call k p)
path_again k p h = one_again bytes_at (path_call k) (word_text p) p (word_again p h)

descriptor_again : (k : DescriptorKeyword) (d : ℕ) → IsNumber d → call_at (key.Descriptor k) (decimal d ∷ []) ≡ Some (descriptor_call k d)
descriptor_again k d h = one_again number_at (descriptor_call k) (decimal d) d (number_again d h)

paths_again : (k : PathsKeyword) (a b : List ℕ) → IsBytes a → IsBytes b → call_at (key.Paths k) (word_text a ∷ word_text b ∷ []) ≡ Some (paths_call k a b)
paths_again k a b g h = two_again bytes_at bytes_at (paths_call k) (word_text a) (word_text b) a b (word_again a g) (word_again b h)

pub call_again : (c : Call) → FitsCall c → call_at (keyword c) (call_words c) ≡ Some c
call_again (call.Mkdir p) h = path_again path.Mkdir p h
call_again (call.Rmdir p) h = path_again path.Rmdir p h
call_again (call.Open p f) h = two_again bytes_at flags_at (λ p f. call.Open p f) (word_text p) (flags_text f) p f (word_again p h) (flags_again f)
call_again (call.Close d) h = descriptor_again descriptor.Close d h
call_again (call.Read d n) h = two_again number_at number_at (λ d n. call.Read d n) (decimal d) (decimal n) d n (number_again d h.0) (number_again n h.1)
call_again (call.Pread d n o) h = three_again number_at number_at number_at (λ d n o. call.Pread d n o) (decimal d) (decimal n) (decimal o) d n o (number_again d h.0) (number_again n h.1) (number_again o h.2)
call_again (call.Write d w) h = two_again number_at bytes_at (λ d w. call.Write d w) (decimal d) (word_text w) d w (number_again d h.0) (word_again w h.1)
call_again (call.Pwrite d o w) h = three_again number_at number_at bytes_at (λ d o w. call.Pwrite d o w) (decimal d) (decimal o) (word_text w) d o w (number_again d h.0) (number_again o h.1) (word_again w h.2)
call_again (call.Lseek d h i) f = three_again number_at whence_at offset_at (λ d h i. call.Lseek d h i) (decimal d) (whence_text h) (signed_decimal i) d h i (number_again d f.0) (whence_again h) (offset_again i f.1)
call_again (call.Truncate p n) h = two_again bytes_at number_at (λ p n. call.Truncate p n) (word_text p) (decimal n) p n (word_again p h.0) (number_again n h.1)
call_again (call.Ftruncate d n) h = two_again number_at number_at (λ d n. call.Ftruncate d n) (decimal d) (decimal n) d n (number_again d h.0) (number_again n h.1)
call_again (call.Stat p) h = path_again path.Stat p h
call_again (call.Lstat p) h = path_again path.Lstat p h
call_again (call.Fstat d) h = descriptor_again descriptor.Fstat d h
call_again (call.Readdir d) h = descriptor_again descriptor.Readdir d h
call_again (call.Unlink p) h = path_again path.Unlink p h
call_again (call.Rename a b) h = paths_again paths.Rename a b h.0 h.1
call_again (call.Link a b) h = paths_again paths.Link a b h.0 h.1
call_again (call.Symlink t p) h = paths_again paths.Symlink t p h.0 h.1
call_again (call.Readlink p) h = path_again path.Readlink p h
call_again (call.Undelete p) h = path_again path.Undelete p h
call_again (call.Chdir p) h = path_again path.Chdir p h
call_again (call.Fchdir d) h = descriptor_again descriptor.Fchdir d h
call_again (call.Statfs p) h = path_again path.Statfs p h
call_again (call.MountMem p) h = path_again path.MountMem p h
call_again (call.MountNull t p) h = paths_again paths.MountNull t p h.0 h.1
call_again (call.MountUnion u p) h = paths_again paths.MountUnion u p h.0 h.1
call_again (call.Umount p) h = path_again path.Umount p h
call_again (call.UmountForce p) h = path_again path.UmountForce p h
call_again (call.Revoke p) h = path_again path.Revoke p h

-- ---- its words have no space and no line end

text_lacks : (b : ℕ) (p : List ℕ) → b < 33 → IsBytes p → lacks b (word_text p) ≡ true
text_lacks b p low h = above_lacks b (word_text p) low (word_above p h)

pub number_lacks : (b n : ℕ) → b < 33 → IsNumber n → lacks b (decimal n) ≡ true
number_lacks b n low h = above_lacks b (decimal n) low (decimal_above n h)

pub call_lacks : (b : ℕ) (c : Call) → b < 33 → FitsCall c → EachLacks b (call_words c)
call_lacks b (call.Mkdir p) low h = (text_lacks b p low h, tt)
call_lacks b (call.Rmdir p) low h = (text_lacks b p low h, tt)
call_lacks b (call.Open p f) low h = (text_lacks b p low h, (above_lacks b (flags_text f) low (flags_above f), tt))
call_lacks b (call.Close d) low h = (number_lacks b d low h, tt)
call_lacks b (call.Read d n) low h = (number_lacks b d low h.0, (number_lacks b n low h.1, tt))
call_lacks b (call.Pread d n o) low h = (number_lacks b d low h.0, (number_lacks b n low h.1, (number_lacks b o low h.2, tt)))
call_lacks b (call.Write d w) low h = (number_lacks b d low h.0, (text_lacks b w low h.1, tt))
call_lacks b (call.Pwrite d o w) low h = (number_lacks b d low h.0, (number_lacks b o low h.1, (text_lacks b w low h.2, tt)))
call_lacks b (call.Lseek d h i) low f = (number_lacks b d low f.0, (above_lacks b (whence_text h) low (whence_above h), (above_lacks b (signed_decimal i) low (offset_above i f.1), tt)))
call_lacks b (call.Truncate p n) low h = (text_lacks b p low h.0, (number_lacks b n low h.1, tt))
call_lacks b (call.Ftruncate d n) low h = (number_lacks b d low h.0, (number_lacks b n low h.1, tt))
call_lacks b (call.Stat p) low h = (text_lacks b p low h, tt)
call_lacks b (call.Lstat p) low h = (text_lacks b p low h, tt)
call_lacks b (call.Fstat d) low h = (number_lacks b d low h, tt)
call_lacks b (call.Readdir d) low h = (number_lacks b d low h, tt)
call_lacks b (call.Unlink p) low h = (text_lacks b p low h, tt)
call_lacks b (call.Rename p q) low h = (text_lacks b p low h.0, (text_lacks b q low h.1, tt))
call_lacks b (call.Link p q) low h = (text_lacks b p low h.0, (text_lacks b q low h.1, tt))
call_lacks b (call.Symlink t p) low h = (text_lacks b t low h.0, (text_lacks b p low h.1, tt))
call_lacks b (call.Readlink p) low h = (text_lacks b p low h, tt)
call_lacks b (call.Undelete p) low h = (text_lacks b p low h, tt)
call_lacks b (call.Chdir p) low h = (text_lacks b p low h, tt)
call_lacks b (call.Fchdir d) low h = (number_lacks b d low h, tt)
call_lacks b (call.Statfs p) low h = (text_lacks b p low h, tt)
call_lacks b (call.MountMem p) low h = (text_lacks b p low h, tt)
call_lacks b (call.MountNull t p) low h = (text_lacks b t low h.0, (text_lacks b p low h.1, tt))
call_lacks b (call.MountUnion u p) low h = (text_lacks b u low h.0, (text_lacks b p low h.1, tt))
call_lacks b (call.Umount p) low h = (text_lacks b p low h, tt)
call_lacks b (call.UmountForce p) low h = (text_lacks b p low h, tt)
call_lacks b (call.Revoke p) low h = (text_lacks b p low h, tt)
