-- A number, an offset, flags or a keyword that is read is the word that is written, and what is written is read again.
use Rattle.std.proofs.Common.{◌≡◌, ℕ, ◌<◌, ◌^◌, Bool, true, false, ◌&&◌, nat_lt, ◌==◌, cond, ◌++◌, zero, suc, ℤ, pos, negsuc, neg_ℤ, List, [], ◌∷◌, Option, Some, None, IfSome, IfNone, refl, sym, ap, subst, ◌∙◌, arith, decimal}
use Rattle.std.specs.Str.{bytes_eq}
use Rattle.std.specs.Fmt.{signed_decimal}
use Rattle.std.specs.Str.Parse.{digits_value, AllDigits}
use Rattle.std.proofs.lemmas.Slice.Eq.{bytes_eq-Decides}
use Rattle.std.proofs.lemmas.Option.{cond_some, same_Some}
use Rattle.std.proofs.lemmas.Bool.{and_parts, and_from, ltb-true, lt-ltb, eqb-true}
use Rattle.std.proofs.lemmas.Fmt.{decimal_is_IsNumeral}
use Rattle.std.proofs.lemmas.Str.Parse.{digit_from_value}
use Rattle.script_text.specs.declared.keyword.PathKeyword.TheVariants as path
use Rattle.script_text.specs.declared.keyword.DescriptorKeyword.TheVariants as descriptor
use Rattle.script_text.specs.declared.keyword.PathsKeyword.TheVariants as paths
use Rattle.script_text.specs.declared.keyword.Keyword.{Keyword}
use Rattle.script_text.specs.declared.keyword.Keyword.TheVariants as key
use Rattle.script_text.specs.Keyword.{keyword_text, keyword_at}
use Rattle.call_model.specs.declared.call.Access.{Access}
use Rattle.call_model.specs.declared.call.Access.TheVariants.{Read, Write, Both}
use Rattle.call_model.specs.declared.call.Flags.{Flags}
use Rattle.call_model.specs.declared.call.Whence.{Whence}
use Rattle.call_model.specs.declared.call.Whence.TheVariants.{Set, Cur, End}
use Rattle.script_text.specs.Flags.{access_letter, letter_if, flag_letters, flags_text, whence_text}
use Rattle.script_text.specs.Fits.{IsNumber, IsOffset}
use Rattle.script_text.specs.Reading.{◌>>=◌}
use Rattle.script_text.specs.ReadWord.{number_at, offset_at, access_of, has_letter, flags_at, whence_at}
use Rattle.script_text.proofs.Joined.{is_above}

pub same_bytes : (xs : List ℕ) → bytes_eq xs xs ≡ true
same_bytes xs = (bytes_eq-Decides xs xs).1 refl

pub bytes_are : (xs ys : List ℕ) → bytes_eq xs ys ≡ true → xs ≡ ys
bytes_are xs ys h = (bytes_eq-Decides xs ys).0 h

-- ---- numbers

pub number_found : (word : List ℕ) (n : ℕ) → number_at word ≡ Some n → (decimal n ≡ word) × (n < 2 ^ 32)
unfolding number_at
number_found word n e =
    let v = digits_value 10 word in
    let c = cond_some (bytes_eq (decimal v) word && nat_lt v (2 ^ 32)) v n e in
    let p = and_parts (bytes_eq (decimal v) word) (nat_lt v (2 ^ 32)) c.0 in
    subst (λ (k : ℕ). (decimal k ≡ word) × (k < 2 ^ 32)) c.1 (bytes_are (decimal v) word p.0, ltb-true v (2 ^ 32) p.1)

pub number_again : (n : ℕ) → n < 2 ^ 32 → number_at (decimal n) ≡ Some n
unfolding number_at
number_again n lt =
    let v : digits_value 10 (decimal n) ≡ n = (decimal_is_IsNumeral n (omega arith)).1 in
    let same : bytes_eq (decimal n) (decimal n) ≡ true = same_bytes (decimal n) in
    let small : nat_lt n (2 ^ 32) ≡ true = lt-ltb n (2 ^ 32) lt in
    rw (v, same, small) refl

-- a function that finds the number, and answers nothing only where there is none, is `number_at`
pub number_is : (word : List ℕ) (r : Option ℕ) → IfSome r (λ n. n < 2 ^ 32) → IfSome r (λ n. decimal n ≡ word) → IfNone r ((n : ℕ) → n < 2 ^ 32 → decimal n ≡ word → ⊥) → r ≡ number_at word
number_is word (Some n) small found none = sym (ap number_at (sym found) ∙ number_again n small)
number_is word None small found none =
    elim (number_at word) as (λ o. number_at word ≡ o → None ≡ o) [
      | None ↦ λ e. refl
      | Some n ↦ λ e. let f = number_found word n e in absurd (none n f.1 f.0)
    ] refl

digits_above : (ds : List ℕ) → AllDigits 10 ds → is_above ds ≡ true
digits_above [] h = refl
digits_above (c ∷ cs) h =
    let range = digit_from_value c h.0 in
    and_from (nat_lt 32 c) (is_above cs) (lt-ltb 32 c (omega (arith, range))) (digits_above cs h.1)

pub decimal_above : (n : ℕ) → n < 2 ^ 32 → is_above (decimal n) ≡ true
decimal_above n lt = digits_above (decimal n) (decimal_is_IsNumeral n (omega arith)).0.1

-- ---- steps

-- the value of a step that found something
pub bind_some : {A B : Type 0} (o : Option A) (f : A → Option B) (y : B) → (o >>= f) ≡ Some y → (x : A) × (o ≡ Some x) × (f x ≡ Some y)
bind_some (Some x) f y e = (x, refl, e)
bind_some None f y e = absurd cc

-- ---- offsets

minus_is_no_number : (n : ℕ) (ds : List ℕ) → number_at (45 ∷ ds) ≡ Some n → ⊥
minus_is_no_number n ds e =
    let f = number_found (45 ∷ ds) n e in
    let digits : AllDigits 10 (45 ∷ ds) = subst (AllDigits 10) f.0 (decimal_is_IsNumeral n (omega (arith, f.1))).0.1 in
    let range = digit_from_value 45 digits.0 in
    absurd (omega (arith, range))

number_begins : (n : ℕ) → n < 2 ^ 32 → offset_at (decimal n) ≡ Some (pos n)
unfolding offset_at
number_begins n lt =
    let read : number_at (decimal n) ≡ Some n = number_again n lt in
    elim (decimal n) as (λ (w : List ℕ). number_at w ≡ Some n → offset_at w ≡ Some (pos n)) [
      | [] ↦ λ e. rw e refl
      | c ∷ cs ↦ λ e.
          elim (c == 45) as (λ b. (c == 45) ≡ b → cond b (number_at cs >>= λ m. Some (neg_ℤ (pos m))) (number_at (c ∷ cs) >>= λ m. Some (pos m)) ≡ Some (pos n)) [
            | true ↦ λ minus. absurd (minus_is_no_number n cs (subst (λ (k : ℕ). number_at (k ∷ cs) ≡ Some n) (eqb-true c 45 minus) e))
            | false ↦ λ other. rw e refl
          ] refl
    ] read

pub offset_again : (i : ℤ) → IsOffset i → offset_at (signed_decimal i) ≡ Some i
unfolding offset_at
offset_again (pos n) fits = number_begins n fits
offset_again (negsuc n) fits = rw (number_again (suc n) fits) refl

-- a number is no further from 0 below it
below_zero : (n : ℕ) → IsNumber n → IsOffset (neg_ℤ (pos n))
below_zero zero lt = lt
below_zero (suc n) lt = lt

pub offset_found : (word : List ℕ) (i : ℤ) → offset_at word ≡ Some i → IsOffset i
unfolding offset_at
offset_found [] i e =
    let b = bind_some (number_at []) (λ n. Some (pos n)) i e in
    subst IsOffset (same_Some (pos b.0) i b.2) (number_found [] b.0 b.1).1
offset_found (c ∷ cs) i e =
    elim (c == 45) as (λ b. cond b (number_at cs >>= λ n. Some (neg_ℤ (pos n))) (number_at (c ∷ cs) >>= λ n. Some (pos n)) ≡ Some i → IsOffset i) [
      | true ↦ λ e.
          let b = bind_some (number_at cs) (λ n. Some (neg_ℤ (pos n))) i e in
          subst IsOffset (same_Some (neg_ℤ (pos b.0)) i b.2) (below_zero b.0 (number_found cs b.0 b.1).1)
      | false ↦ λ e.
          let b = bind_some (number_at (c ∷ cs)) (λ n. Some (pos n)) i e in
          subst IsOffset (same_Some (pos b.0) i b.2) (number_found (c ∷ cs) b.0 b.1).1
    ] e

pub offset_above : (i : ℤ) → IsOffset i → is_above (signed_decimal i) ≡ true
offset_above (pos n) fits = decimal_above n fits
offset_above (negsuc n) fits = decimal_above (suc n) fits

-- ---- flags

access_again : (a : Access) → access_of (access_letter a) ≡ a
access_again Read = refl
access_again Write = refl
access_again Both = refl

-- another letter doesn't count
other_letter : (c letter : ℕ) (set : Bool) (letters : List ℕ) → (letter == c) ≡ false → has_letter c (letter_if set letter ++ letters) ≡ has_letter c letters
other_letter c letter true letters other = rw other refl
other_letter c letter false letters other = refl

last_letter : (c letter : ℕ) (set : Bool) → (letter == c) ≡ false → has_letter c (letter_if set letter) ≡ false
last_letter c letter true other = rw other refl
last_letter c letter false other = refl

-- the letter itself stands where it is set
this_letter : (c : ℕ) (set : Bool) (letters : List ℕ) → (c == c) ≡ true → has_letter c letters ≡ false → has_letter c (letter_if set c ++ letters) ≡ set
this_letter c true letters same none = rw same refl
this_letter c false letters same none = none

make_again : (m x t a d : Bool) → has_letter 99 (letter_if m 99 ++ (letter_if x 120 ++ (letter_if t 116 ++ (letter_if a 97 ++ letter_if d 100)))) ≡ m
make_again m x t a d = this_letter 99 m _ refl (other_letter 99 120 x _ refl ∙ other_letter 99 116 t _ refl ∙ other_letter 99 97 a _ refl ∙ last_letter 99 100 d refl)

fresh_again : (m x t a d : Bool) → has_letter 120 (letter_if m 99 ++ (letter_if x 120 ++ (letter_if t 116 ++ (letter_if a 97 ++ letter_if d 100)))) ≡ x
fresh_again m x t a d = other_letter 120 99 m _ refl ∙ this_letter 120 x _ refl (other_letter 120 116 t _ refl ∙ other_letter 120 97 a _ refl ∙ last_letter 120 100 d refl)

cut_again : (m x t a d : Bool) → has_letter 116 (letter_if m 99 ++ (letter_if x 120 ++ (letter_if t 116 ++ (letter_if a 97 ++ letter_if d 100)))) ≡ t
cut_again m x t a d = other_letter 116 99 m _ refl ∙ other_letter 116 120 x _ refl ∙ this_letter 116 t _ refl (other_letter 116 97 a _ refl ∙ last_letter 116 100 d refl)

append_again : (m x t a d : Bool) → has_letter 97 (letter_if m 99 ++ (letter_if x 120 ++ (letter_if t 116 ++ (letter_if a 97 ++ letter_if d 100)))) ≡ a
append_again m x t a d = other_letter 97 99 m _ refl ∙ other_letter 97 120 x _ refl ∙ other_letter 97 116 t _ refl ∙ this_letter 97 a _ refl (last_letter 97 100 d refl)

dir_again : (m x t a d : Bool) → has_letter 100 (letter_if m 99 ++ (letter_if x 120 ++ (letter_if t 116 ++ (letter_if a 97 ++ letter_if d 100)))) ≡ d
dir_again m x t a true = other_letter 100 99 m _ refl ∙ other_letter 100 120 x _ refl ∙ other_letter 100 116 t _ refl ∙ other_letter 100 97 a _ refl
dir_again m x t a false = other_letter 100 99 m _ refl ∙ other_letter 100 120 x _ refl ∙ other_letter 100 116 t _ refl ∙ other_letter 100 97 a _ refl

pub flags_again : (f : Flags) → flags_at (flags_text f) ≡ Some f
unfolding flags_at flags_text
flags_again f =
    rw (access_again f.access, make_again f.make f.fresh f.cut f.append f.dir, fresh_again f.make f.fresh f.cut f.append f.dir, cut_again f.make f.fresh f.cut f.append f.dir, append_again f.make f.fresh f.cut f.append f.dir, dir_again f.make f.fresh f.cut f.append f.dir) refl

letter_above : (set : Bool) (letter : ℕ) (letters : List ℕ) → nat_lt 32 letter ≡ true → is_above letters ≡ true → is_above (letter_if set letter ++ letters) ≡ true
letter_above true letter letters high more = and_from (nat_lt 32 letter) (is_above letters) high more
letter_above false letter letters high more = more

last_above : (set : Bool) → is_above (letter_if set 100) ≡ true
last_above true = refl
last_above false = refl

access_above : (a : Access) → nat_lt 32 (access_letter a) ≡ true
access_above Read = refl
access_above Write = refl
access_above Both = refl

pub flags_above : (f : Flags) → is_above (flags_text f) ≡ true
unfolding flags_text
flags_above f =
    and_from (nat_lt 32 (access_letter f.access)) (is_above (flag_letters f)) (access_above f.access)
    (letter_above f.make 99 _ refl (letter_above f.fresh 120 _ refl (letter_above f.cut 116 _ refl (letter_above f.append 97 _ refl (last_above f.dir)))))

pub whence_again : (h : Whence) → whence_at (whence_text h) ≡ Some h
whence_again Set = refl
whence_again Cur = refl
whence_again End = refl

pub whence_above : (h : Whence) → is_above (whence_text h) ≡ true
whence_above Set = refl
whence_above Cur = refl
whence_above End = refl

-- ---- keywords

pub keyword_again : (k : Keyword) → keyword_at (keyword_text k) ≡ Some k
unfolding keyword_at
keyword_again (key.Path path.Mkdir) = refl
keyword_again (key.Path path.Rmdir) = refl
keyword_again key.Open = refl
keyword_again (key.Descriptor descriptor.Close) = refl
keyword_again key.Read = refl
keyword_again key.Pread = refl
keyword_again key.Write = refl
keyword_again key.Pwrite = refl
keyword_again key.Lseek = refl
keyword_again key.Truncate = refl
keyword_again key.Ftruncate = refl
keyword_again (key.Path path.Stat) = refl
keyword_again (key.Path path.Lstat) = refl
keyword_again (key.Descriptor descriptor.Fstat) = refl
keyword_again (key.Descriptor descriptor.Readdir) = refl
keyword_again (key.Path path.Unlink) = refl
keyword_again (key.Paths paths.Rename) = refl
keyword_again (key.Paths paths.Link) = refl
keyword_again (key.Paths paths.Symlink) = refl
keyword_again (key.Path path.Readlink) = refl
keyword_again (key.Path path.Undelete) = refl
keyword_again (key.Path path.Chdir) = refl
keyword_again (key.Descriptor descriptor.Fchdir) = refl
keyword_again (key.Path path.Statfs) = refl
keyword_again (key.Path path.MountMem) = refl
keyword_again (key.Paths paths.MountNull) = refl
keyword_again (key.Paths paths.MountUnion) = refl
keyword_again (key.Path path.Umount) = refl
keyword_again (key.Path path.UmountForce) = refl
keyword_again (key.Path path.Revoke) = refl

pub keyword_above : (k : Keyword) → is_above (keyword_text k) ≡ true
keyword_above (key.Path path.Mkdir) = refl
keyword_above (key.Path path.Rmdir) = refl
keyword_above key.Open = refl
keyword_above (key.Descriptor descriptor.Close) = refl
keyword_above key.Read = refl
keyword_above key.Pread = refl
keyword_above key.Write = refl
keyword_above key.Pwrite = refl
keyword_above key.Lseek = refl
keyword_above key.Truncate = refl
keyword_above key.Ftruncate = refl
keyword_above (key.Path path.Stat) = refl
keyword_above (key.Path path.Lstat) = refl
keyword_above (key.Descriptor descriptor.Fstat) = refl
keyword_above (key.Descriptor descriptor.Readdir) = refl
keyword_above (key.Path path.Unlink) = refl
keyword_above (key.Paths paths.Rename) = refl
keyword_above (key.Paths paths.Link) = refl
keyword_above (key.Paths paths.Symlink) = refl
keyword_above (key.Path path.Readlink) = refl
keyword_above (key.Path path.Undelete) = refl
keyword_above (key.Path path.Chdir) = refl
keyword_above (key.Descriptor descriptor.Fchdir) = refl
keyword_above (key.Path path.Statfs) = refl
keyword_above (key.Path path.MountMem) = refl
keyword_above (key.Paths paths.MountNull) = refl
keyword_above (key.Paths paths.MountUnion) = refl
keyword_above (key.Path path.Umount) = refl
keyword_above (key.Path path.UmountForce) = refl
keyword_above (key.Path path.Revoke) = refl
