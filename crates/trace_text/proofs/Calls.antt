-- A call by its words: which one it is, what it has, and how many words it takes.
use Rattle.std.proofs.Common.{◌≡◌, ℕ, Bool, true, false, ◌==◌, ◌||◌, List, [], ◌∷◌, ◌++◌, length, codes, Some, None, refl, sym, ap, ◌∙◌, arith, pos, negsuc, suc, ℤ}
use Rattle.std.specs.Fmt.{signed_decimal}
use Rattle.std.specs.List.{list_any}
use Rattle.std.proofs.lemmas.Bool.{and_from, eq-eqb}
use Rattle.std.proofs.lemmas.Fmt.{decimal_injective, signed_decimal_injective}
use Rattle.std.proofs.lemmas.List.Folds.{list_all-append}
use Rattle.call_model.specs.declared.call.Access.{Access}
use Rattle.call_model.specs.declared.call.Access.TheVariants as access
use Rattle.call_model.specs.declared.call.Flags.{Flags}
use Rattle.call_model.specs.declared.call.Whence.{Whence}
use Rattle.call_model.specs.declared.call.Whence.TheVariants as whence
use Rattle.call_model.specs.declared.call.Call.{Call}
use Rattle.call_model.specs.declared.call.Call.TheVariants as call
use Rattle.script_text.specs.declared.keyword.Keyword.{Keyword}
use Rattle.script_text.specs.declared.keyword.Keyword.TheVariants as key
use Rattle.script_text.specs.Flags.{access_letter, letter_if, flag_letters, flags_text, whence_text}
use Rattle.script_text.specs.Keyword.{keyword, keyword_text, keyword_at}
use Rattle.script_text.specs.Line.{call_words}
use Rattle.trace_text.specs.Bounded.{IsBoundedCall}
use Rattle.trace_text.proofs.Words.{is_above, EachAbove, word_above, word_same, decimal_above, differ, first_is, rest_is}

-- ---- no word has a space

whence_above : (h : Whence) → is_above (whence_text h) ≡ true
whence_above whence.Set = refl
whence_above _ = refl

signed_above : (i : ℤ) → is_above (signed_decimal i) ≡ true
signed_above (pos n) = decimal_above n
signed_above (negsuc n) = decimal_above (suc n)

joined_above : (xs ys : List ℕ) → is_above xs ≡ true → is_above ys ≡ true → is_above (xs ++ ys) ≡ true
joined_above xs ys h k = list_all-append _ xs ys ∙ and_from (is_above xs) (is_above ys) h k

letter_above : (set : Bool) (letter : ℕ) → is_above (letter ∷ []) ≡ true → is_above (letter_if set letter) ≡ true
letter_above true letter h = h
letter_above false letter h = refl

access_above : (a : Access) → is_above (access_letter a ∷ []) ≡ true
access_above access.Read = refl
access_above _ = refl

flags_above : (f : Flags) → is_above (flags_text f) ≡ true
unfolding flags_text
flags_above f =
    joined_above (access_letter f.access ∷ []) (flag_letters f) (access_above f.access)
    (joined_above (letter_if f.make 99) _ (letter_above f.make 99 refl)
    (joined_above (letter_if f.fresh 120) _ (letter_above f.fresh 120 refl)
    (joined_above (letter_if f.cut 116) _ (letter_above f.cut 116 refl)
    (joined_above (letter_if f.append 97) (letter_if f.dir 100) (letter_above f.append 97 refl) (letter_above f.dir 100 refl)))))

pub call_above : (c : Call) → EachAbove (call_words c)
call_above (call.Mkdir p) = (word_above p, tt)
call_above (call.Rmdir p) = (word_above p, tt)
call_above (call.Open p0 f1) = (word_above p0, (flags_above f1, tt))
call_above (call.Close n) = (decimal_above n, tt)
call_above (call.Read n0 n1) = (decimal_above n0, (decimal_above n1, tt))
call_above (call.Pread n0 n1 n2) = (decimal_above n0, (decimal_above n1, (decimal_above n2, tt)))
call_above (call.Write n0 p1) = (decimal_above n0, (word_above p1, tt))
call_above (call.Pwrite n0 n1 p2) = (decimal_above n0, (decimal_above n1, (word_above p2, tt)))
call_above (call.Lseek n0 h1 i2) = (decimal_above n0, (whence_above h1, (signed_above i2, tt)))
call_above (call.Truncate p0 n1) = (word_above p0, (decimal_above n1, tt))
call_above (call.Ftruncate n0 n1) = (decimal_above n0, (decimal_above n1, tt))
call_above (call.Stat p) = (word_above p, tt)
call_above (call.Lstat p) = (word_above p, tt)
call_above (call.Fstat n) = (decimal_above n, tt)
call_above (call.Readdir n) = (decimal_above n, tt)
call_above (call.Unlink p) = (word_above p, tt)
call_above (call.Rename p0 p1) = (word_above p0, (word_above p1, tt))
call_above (call.Link p0 p1) = (word_above p0, (word_above p1, tt))
call_above (call.Symlink p0 p1) = (word_above p0, (word_above p1, tt))
call_above (call.Readlink p) = (word_above p, tt)
call_above (call.Undelete p) = (word_above p, tt)
call_above (call.Chdir p) = (word_above p, tt)
call_above (call.Fchdir n) = (decimal_above n, tt)
call_above (call.Statfs p) = (word_above p, tt)
call_above (call.MountMem p) = (word_above p, tt)
call_above (call.MountNull p0 p1) = (word_above p0, (word_above p1, tt))
call_above (call.MountUnion p0 p1) = (word_above p0, (word_above p1, tt))
call_above (call.Umount p) = (word_above p, tt)
call_above (call.UmountForce p) = (word_above p, tt)
call_above (call.Revoke p) = (word_above p, tt)

pub keyword_above : (c : Call) → is_above (keyword_text (keyword c)) ≡ true
keyword_above (call.Mkdir p) = refl
keyword_above _ = refl

-- ---- the first word tells how many words follow

keyword_again : (c : Call) → keyword_at (keyword_text (keyword c)) ≡ Some (keyword c)
unfolding keyword_at
keyword_again (call.Mkdir p) = refl
keyword_again _ = refl

keyword_same : (c d : Call) → keyword_text (keyword c) ≡ keyword_text (keyword d) → keyword c ≡ keyword d
keyword_same c d e =
    let found : Some (keyword c) ≡ Some (keyword d) = sym (keyword_again c) ∙ ap keyword_at e ∙ keyword_again d in
    cc

plus_is_none : keyword_at (codes "+") ≡ None
unfolding keyword_at
plus_is_none = refl

-- `+` is the first word of no call
pub plus_is_no_call : (c : Call) → keyword_text (keyword c) ≡ codes "+" → ⊥
plus_is_no_call c e =
    let found : Some (keyword c) ≡ None = sym (keyword_again c) ∙ ap keyword_at e ∙ plus_is_none in
    absurd cc

count_after : Keyword → ℕ
count_after (key.Path k) = 1
count_after (key.Descriptor k) = 1
count_after (key.Paths k) = 2
count_after key.Open = 2
count_after key.Read = 2
count_after key.Pread = 3
count_after key.Write = 2
count_after key.Pwrite = 3
count_after key.Lseek = 3
count_after key.Truncate = 2
count_after key.Ftruncate = 2

words_counted : (c : Call) → length (call_words c) ≡ count_after (keyword c)
unfolding count_after
words_counted (call.Mkdir p) = refl
words_counted _ = refl

pub same_count : (c d : Call) → keyword_text (keyword c) ≡ keyword_text (keyword d) → length (call_words c) ≡ length (call_words d)
same_count c d e = words_counted c ∙ ap count_after (keyword_same c d e) ∙ sym (words_counted d)

-- ---- flags, one letter after the other

has : ℕ → List ℕ → Bool
has letter word = list_any (λ b. b == letter) word

lacks_last : (set : Bool) (other letter : ℕ) → (other == letter) ≡ false → has letter (letter_if set other) ≡ false
unfolding has
lacks_last true other letter apart = rw apart refl
lacks_last false other letter apart = refl

lacks_more : (set : Bool) (other letter : ℕ) (rest : List ℕ) → (other == letter) ≡ false → has letter rest ≡ false → has letter (letter_if set other ++ rest) ≡ false
unfolding has
lacks_more true other letter rest apart h = rw apart h
lacks_more false other letter rest apart h = h

is_there : (letter : ℕ) (rest : List ℕ) → has letter (letter ∷ rest) ≡ true
unfolding has
is_there letter rest = ap (λ b. b || has letter rest) (eq-eqb letter letter refl)

peel : (a b : Bool) (letter : ℕ) (xs ys : List ℕ) → has letter xs ≡ false → has letter ys ≡ false → letter_if a letter ++ xs ≡ letter_if b letter ++ ys → (a ≡ b) × (xs ≡ ys)
peel true true letter xs ys h k e = (refl, cc)
peel false false letter xs ys h k e = (refl, e)
peel true false letter xs ys h k e =
    let clash : false ≡ true = sym k ∙ sym (ap (has letter) e) ∙ is_there letter xs in
    absurd cc
peel false true letter xs ys h k e =
    let clash : false ≡ true = sym h ∙ ap (has letter) e ∙ is_there letter ys in
    absurd cc

peel_last : (a b : Bool) (letter : ℕ) → letter_if a letter ≡ letter_if b letter → a ≡ b
peel_last true true letter e = refl
peel_last false false letter e = refl
peel_last true false letter e = absurd cc
peel_last false true letter e = absurd cc

-- the letters from `a`, from `t` and from `x` on
abbrev from_append : Flags → List ℕ
from_append f = letter_if f.append 97 ++ letter_if f.dir 100

abbrev from_cut : Flags → List ℕ
from_cut f = letter_if f.cut 116 ++ from_append f

abbrev from_fresh : Flags → List ℕ
from_fresh f = letter_if f.fresh 120 ++ from_cut f

lacks_cut : (letter : ℕ) (f : Flags) → (100 == letter) ≡ false → (97 == letter) ≡ false → has letter (from_append f) ≡ false
lacks_cut letter f d a = lacks_more f.append 97 letter (letter_if f.dir 100) a (lacks_last f.dir 100 letter d)

lacks_fresh : (f : Flags) → has 120 (from_cut f) ≡ false
lacks_fresh f = lacks_more f.cut 116 120 (from_append f) refl (lacks_cut 120 f refl refl)

lacks_make : (f : Flags) → has 99 (from_fresh f) ≡ false
lacks_make f = lacks_more f.fresh 120 99 (from_cut f) refl (lacks_more f.cut 116 99 (from_append f) refl (lacks_cut 99 f refl refl))

access_same : (a b : Access) → access_letter a ≡ access_letter b → a ≡ b
access_same access.Read access.Read e = refl
access_same access.Write access.Write e = refl
access_same access.Both access.Both e = refl
access_same a b e = absurd (omega (arith, e))

flags_same : (f g : Flags) → flags_text f ≡ flags_text g → f ≡ g
unfolding flags_text
flags_same f g e =
    let access = access_same f.access g.access (first_is (access_letter f.access) (access_letter g.access) (flag_letters f) (flag_letters g) e) in
    let make = peel f.make g.make 99 (from_fresh f) (from_fresh g) (lacks_make f) (lacks_make g) (rest_is (access_letter f.access) (access_letter g.access) (flag_letters f) (flag_letters g) e) in
    let fresh = peel f.fresh g.fresh 120 (from_cut f) (from_cut g) (lacks_fresh f) (lacks_fresh g) make.1 in
    let cut = peel f.cut g.cut 116 (from_append f) (from_append g) (lacks_cut 116 f refl refl) (lacks_cut 116 g refl refl) fresh.1 in
    let append = peel f.append g.append 97 (letter_if f.dir 100) (letter_if g.dir 100) (lacks_last f.dir 100 97 refl) (lacks_last g.dir 100 97 refl) cut.1 in
    let dir = peel_last f.dir g.dir 100 append.1 in
    λ i. record { access = access i; make = make.0 i; fresh = fresh.0 i; cut = cut.0 i; append = append.0 i; dir = dir i }

-- ---- the same words, the same call

whence_same : (h k : Whence) → whence_text h ≡ whence_text k → h ≡ k
whence_same whence.Set whence.Set e = refl
whence_same whence.Cur whence.Cur e = refl
whence_same whence.End whence.End e = refl
whence_same h k e = absurd (differ (whence_text h) (whence_text k) refl e)

word_1 : {k l a b : List ℕ} {xs ys : List (List ℕ)} → k ∷ a ∷ xs ≡ l ∷ b ∷ ys → a ≡ b
word_1 e = cc

word_2 : {k l m n a b : List ℕ} {xs ys : List (List ℕ)} → k ∷ m ∷ a ∷ xs ≡ l ∷ n ∷ b ∷ ys → a ≡ b
word_2 e = cc

word_3 : {k l m n o p a b : List ℕ} {xs ys : List (List ℕ)} → k ∷ m ∷ o ∷ a ∷ xs ≡ l ∷ n ∷ p ∷ b ∷ ys → a ≡ b
word_3 e = cc

pub call_same : (c d : Call) → IsBoundedCall c → IsBoundedCall d → keyword_text (keyword c) ∷ call_words c ≡ keyword_text (keyword d) ∷ call_words d → c ≡ d
call_same (call.Mkdir a) (call.Mkdir b) f g e = ap (λ (x : List ℕ). call.Mkdir x) (word_same a b (word_1 e))
call_same (call.Rmdir a) (call.Rmdir b) f g e = ap (λ (x : List ℕ). call.Rmdir x) (word_same a b (word_1 e))
call_same (call.Open a0 a1) (call.Open b0 b1) f g e =
    let e1 : a0 ≡ b0 = word_same a0 b0 (word_1 e) in
    let e2 : a1 ≡ b1 = flags_same a1 b1 (word_2 e) in
    λ i. call.Open (e1 i) (e2 i)
call_same (call.Close a) (call.Close b) f g e = ap (λ (x : ℕ). call.Close x) (decimal_injective a b f g (word_1 e))
call_same (call.Read a0 a1) (call.Read b0 b1) f g e =
    let e1 : a0 ≡ b0 = decimal_injective a0 b0 f.0 g.0 (word_1 e) in
    let e2 : a1 ≡ b1 = decimal_injective a1 b1 f.1 g.1 (word_2 e) in
    λ i. call.Read (e1 i) (e2 i)
call_same (call.Pread a0 a1 a2) (call.Pread b0 b1 b2) f g e =
    let e1 : a0 ≡ b0 = decimal_injective a0 b0 f.0 g.0 (word_1 e) in
    let e2 : a1 ≡ b1 = decimal_injective a1 b1 f.1 g.1 (word_2 e) in
    let e3 : a2 ≡ b2 = decimal_injective a2 b2 f.2 g.2 (word_3 e) in
    λ i. call.Pread (e1 i) (e2 i) (e3 i)
call_same (call.Write a0 a1) (call.Write b0 b1) f g e =
    let e1 : a0 ≡ b0 = decimal_injective a0 b0 f g (word_1 e) in
    let e2 : a1 ≡ b1 = word_same a1 b1 (word_2 e) in
    λ i. call.Write (e1 i) (e2 i)
call_same (call.Pwrite a0 a1 a2) (call.Pwrite b0 b1 b2) f g e =
    let e1 : a0 ≡ b0 = decimal_injective a0 b0 f.0 g.0 (word_1 e) in
    let e2 : a1 ≡ b1 = decimal_injective a1 b1 f.1 g.1 (word_2 e) in
    let e3 : a2 ≡ b2 = word_same a2 b2 (word_3 e) in
    λ i. call.Pwrite (e1 i) (e2 i) (e3 i)
call_same (call.Lseek a0 a1 a2) (call.Lseek b0 b1 b2) f g e =
    let e1 : a0 ≡ b0 = decimal_injective a0 b0 f.0 g.0 (word_1 e) in
    let e2 : a1 ≡ b1 = whence_same a1 b1 (word_2 e) in
    let e3 : a2 ≡ b2 = signed_decimal_injective a2 b2 f.1 g.1 (word_3 e) in
    λ i. call.Lseek (e1 i) (e2 i) (e3 i)
call_same (call.Truncate a0 a1) (call.Truncate b0 b1) f g e =
    let e1 : a0 ≡ b0 = word_same a0 b0 (word_1 e) in
    let e2 : a1 ≡ b1 = decimal_injective a1 b1 f g (word_2 e) in
    λ i. call.Truncate (e1 i) (e2 i)
call_same (call.Ftruncate a0 a1) (call.Ftruncate b0 b1) f g e =
    let e1 : a0 ≡ b0 = decimal_injective a0 b0 f.0 g.0 (word_1 e) in
    let e2 : a1 ≡ b1 = decimal_injective a1 b1 f.1 g.1 (word_2 e) in
    λ i. call.Ftruncate (e1 i) (e2 i)
call_same (call.Stat a) (call.Stat b) f g e = ap (λ (x : List ℕ). call.Stat x) (word_same a b (word_1 e))
call_same (call.Lstat a) (call.Lstat b) f g e = ap (λ (x : List ℕ). call.Lstat x) (word_same a b (word_1 e))
call_same (call.Fstat a) (call.Fstat b) f g e = ap (λ (x : ℕ). call.Fstat x) (decimal_injective a b f g (word_1 e))
call_same (call.Readdir a) (call.Readdir b) f g e = ap (λ (x : ℕ). call.Readdir x) (decimal_injective a b f g (word_1 e))
call_same (call.Unlink a) (call.Unlink b) f g e = ap (λ (x : List ℕ). call.Unlink x) (word_same a b (word_1 e))
call_same (call.Rename a0 a1) (call.Rename b0 b1) f g e =
    let e1 : a0 ≡ b0 = word_same a0 b0 (word_1 e) in
    let e2 : a1 ≡ b1 = word_same a1 b1 (word_2 e) in
    λ i. call.Rename (e1 i) (e2 i)
call_same (call.Link a0 a1) (call.Link b0 b1) f g e =
    let e1 : a0 ≡ b0 = word_same a0 b0 (word_1 e) in
    let e2 : a1 ≡ b1 = word_same a1 b1 (word_2 e) in
    λ i. call.Link (e1 i) (e2 i)
call_same (call.Symlink a0 a1) (call.Symlink b0 b1) f g e =
    let e1 : a0 ≡ b0 = word_same a0 b0 (word_1 e) in
    let e2 : a1 ≡ b1 = word_same a1 b1 (word_2 e) in
    λ i. call.Symlink (e1 i) (e2 i)
call_same (call.Readlink a) (call.Readlink b) f g e = ap (λ (x : List ℕ). call.Readlink x) (word_same a b (word_1 e))
call_same (call.Undelete a) (call.Undelete b) f g e = ap (λ (x : List ℕ). call.Undelete x) (word_same a b (word_1 e))
call_same (call.Chdir a) (call.Chdir b) f g e = ap (λ (x : List ℕ). call.Chdir x) (word_same a b (word_1 e))
call_same (call.Fchdir a) (call.Fchdir b) f g e = ap (λ (x : ℕ). call.Fchdir x) (decimal_injective a b f g (word_1 e))
call_same (call.Statfs a) (call.Statfs b) f g e = ap (λ (x : List ℕ). call.Statfs x) (word_same a b (word_1 e))
call_same (call.MountMem a) (call.MountMem b) f g e = ap (λ (x : List ℕ). call.MountMem x) (word_same a b (word_1 e))
call_same (call.MountNull a0 a1) (call.MountNull b0 b1) f g e =
    let e1 : a0 ≡ b0 = word_same a0 b0 (word_1 e) in
    let e2 : a1 ≡ b1 = word_same a1 b1 (word_2 e) in
    λ i. call.MountNull (e1 i) (e2 i)
call_same (call.MountUnion a0 a1) (call.MountUnion b0 b1) f g e =
    let e1 : a0 ≡ b0 = word_same a0 b0 (word_1 e) in
    let e2 : a1 ≡ b1 = word_same a1 b1 (word_2 e) in
    λ i. call.MountUnion (e1 i) (e2 i)
call_same (call.Umount a) (call.Umount b) f g e = ap (λ (x : List ℕ). call.Umount x) (word_same a b (word_1 e))
call_same (call.UmountForce a) (call.UmountForce b) f g e = ap (λ (x : List ℕ). call.UmountForce x) (word_same a b (word_1 e))
call_same (call.Revoke a) (call.Revoke b) f g e = ap (λ (x : List ℕ). call.Revoke x) (word_same a b (word_1 e))
call_same c d f g e = absurd (differ (keyword_text (keyword c)) (keyword_text (keyword d)) refl (first_is (keyword_text (keyword c)) (keyword_text (keyword d)) (call_words c) (call_words d) e))
