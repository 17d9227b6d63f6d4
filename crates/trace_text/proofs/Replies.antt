-- A reply by its words: which one it is, and what it has.
use Rattle.std.proofs.Common.{◌≡◌, ℕ, true, List, [], ◌∷◌, ◌++◌, map, codes, decimal, refl, sym, ap, ◌∙◌, append_assoc}
use Rattle.std.specs.List.{join_with_byte}
use Rattle.std.proofs.lemmas.List.{append-nil}
use Rattle.std.proofs.lemmas.Fmt.{decimal_injective}
use Rattle.vfs_tree.specs.declared.errno.Errno.{Errno}
use Rattle.vfs_tree.specs.declared.errno.Errno.TheVariants.{EPERM, ENOENT, EIO, ENXIO, EBADF, EDEADLK, ENOMEM, EBUSY, EEXIST, EXDEV, ENOTDIR, EISDIR, EINVAL, ENFILE, EMFILE, EFBIG, ENOSPC, EROFS, EAGAIN, ELOOP, ENAMETOOLONG, ENOTEMPTY}
use Rattle.vfs_tree.specs.Errno.{text_of}
use Rattle.vfs_tree.specs.declared.node.Kind.{Kind}
use Rattle.vfs_tree.specs.declared.node.Kind.TheVariants as kind
use Rattle.call_model.specs.declared.reply.MountWord.{MountWord}
use Rattle.call_model.specs.declared.reply.MountWord.TheVariants as mount
use Rattle.call_model.specs.declared.reply.Reply.{Reply}
use Rattle.call_model.specs.declared.reply.Reply.TheVariants as reply
use Rattle.script_text.specs.Word.{word_text}
use Rattle.trace_text.specs.Reply.{kind_text, mount_word_text, names_text, reply_text}
use Rattle.trace_text.specs.Bounded.{IsBoundedReply}
use Rattle.trace_text.proofs.Words.{is_above, EachAbove, word_above, word_same, decimal_above, line_same, differ, first_is, rest_is}

-- the first word
abbrev pub reply_head : Reply → List ℕ
reply_head reply.Done = codes "ok"
reply_head (reply.Fd fd) = codes "fd"
reply_head (reply.Count n) = codes "count"
reply_head (reply.Offset at) = codes "offset"
reply_head (reply.Bytes bytes) = codes "data"
reply_head (reply.Stat kind size) = codes "stat"
reply_head (reply.Names names) = codes "names"
reply_head (reply.Target bytes) = codes "target"
reply_head (reply.Fs mount kind) = codes "fs"
reply_head (reply.Fail errno) = codes "error"

-- the words after the first
abbrev pub reply_rest : Reply → List (List ℕ)
reply_rest reply.Done = []
reply_rest (reply.Fd fd) = decimal fd ∷ []
reply_rest (reply.Count n) = decimal n ∷ []
reply_rest (reply.Offset at) = decimal at ∷ []
reply_rest (reply.Bytes bytes) = word_text bytes ∷ []
reply_rest (reply.Stat kind size) = kind_text kind ∷ decimal size ∷ []
reply_rest (reply.Names names) = map word_text names
reply_rest (reply.Target bytes) = word_text bytes ∷ []
reply_rest (reply.Fs mount kind) = decimal mount ∷ mount_word_text kind ∷ []
reply_rest (reply.Fail errno) = text_of errno ∷ []

abbrev pub reply_words : Reply → List (List ℕ)
reply_words r = reply_head r ∷ reply_rest r

names_joined : (word : List ℕ) (names : List (List ℕ)) → word ++ names_text names ≡ join_with_byte 32 (word ∷ map word_text names)
names_joined word [] = append-nil word
names_joined word (name ∷ names) = ap (λ (t : List ℕ). word ++ 32 ∷ t) (names_joined (word_text name) names)

pub reply_joined : (r : Reply) → reply_text r ≡ join_with_byte 32 (reply_words r)
reply_joined reply.Done = refl
reply_joined (reply.Fd fd) = refl
reply_joined (reply.Count n) = refl
reply_joined (reply.Offset at) = refl
reply_joined (reply.Bytes bytes) = refl
reply_joined (reply.Stat kind size) = simp append_assoc
reply_joined (reply.Names names) = names_joined (codes "names") names
reply_joined (reply.Target bytes) = refl
reply_joined (reply.Fs mount kind) = simp append_assoc
reply_joined (reply.Fail errno) = refl

-- ---- no word has a space

kind_above : (k : Kind) → is_above (kind_text k) ≡ true
kind_above kind.Dir = refl
kind_above kind.File = refl
kind_above kind.Link = refl

mount_above : (m : MountWord) → is_above (mount_word_text m) ≡ true
mount_above mount.Mem = refl
mount_above mount.Null = refl
mount_above mount.Union = refl

errno_above : (e : Errno) → is_above (text_of e) ≡ true
errno_above EPERM = refl
errno_above _ = refl

names_above : (names : List (List ℕ)) → EachAbove (map word_text names)
names_above [] = tt
names_above (name ∷ names) = (word_above name, names_above names)

pub reply_above : (r : Reply) → EachAbove (reply_words r)
reply_above reply.Done = (refl, tt)
reply_above (reply.Fd fd) = (refl, (decimal_above fd, tt))
reply_above (reply.Count n) = (refl, (decimal_above n, tt))
reply_above (reply.Offset at) = (refl, (decimal_above at, tt))
reply_above (reply.Bytes bytes) = (refl, (word_above bytes, tt))
reply_above (reply.Stat kind size) = (refl, (kind_above kind, (decimal_above size, tt)))
reply_above (reply.Names names) = (refl, names_above names)
reply_above (reply.Target bytes) = (refl, (word_above bytes, tt))
reply_above (reply.Fs mount kind) = (refl, (decimal_above mount, (mount_above kind, tt)))
reply_above (reply.Fail errno) = (refl, (errno_above errno, tt))

-- ---- the same words, the same reply

kind_same : (k l : Kind) → kind_text k ≡ kind_text l → k ≡ l
kind_same kind.Dir kind.Dir e = refl
kind_same kind.File kind.File e = refl
kind_same kind.Link kind.Link e = refl
kind_same k l e = absurd (differ (kind_text k) (kind_text l) refl e)

mount_same : (m n : MountWord) → mount_word_text m ≡ mount_word_text n → m ≡ n
mount_same mount.Mem mount.Mem e = refl
mount_same mount.Null mount.Null e = refl
mount_same mount.Union mount.Union e = refl
mount_same m n e = absurd (differ (mount_word_text m) (mount_word_text n) refl e)

names_same : (xs ys : List (List ℕ)) → map word_text xs ≡ map word_text ys → xs ≡ ys
names_same [] [] e = refl
names_same [] (y ∷ ys) e = absurd cc
names_same (x ∷ xs) [] e = absurd cc
names_same (x ∷ xs) (y ∷ ys) e =
    let one : x ≡ y = word_same x y (first_is (word_text x) (word_text y) (map word_text xs) (map word_text ys) e) in
    let more : xs ≡ ys = names_same xs ys (rest_is (word_text x) (word_text y) (map word_text xs) (map word_text ys) e) in
    cc

errno_same : (a b : Errno) → text_of a ≡ text_of b → a ≡ b
errno_same EPERM EPERM e = refl
errno_same ENOENT ENOENT e = refl
errno_same EIO EIO e = refl
errno_same ENXIO ENXIO e = refl
errno_same EBADF EBADF e = refl
errno_same EDEADLK EDEADLK e = refl
errno_same ENOMEM ENOMEM e = refl
errno_same EBUSY EBUSY e = refl
errno_same EEXIST EEXIST e = refl
errno_same EXDEV EXDEV e = refl
errno_same ENOTDIR ENOTDIR e = refl
errno_same EISDIR EISDIR e = refl
errno_same EINVAL EINVAL e = refl
errno_same ENFILE ENFILE e = refl
errno_same EMFILE EMFILE e = refl
errno_same EFBIG EFBIG e = refl
errno_same ENOSPC ENOSPC e = refl
errno_same EROFS EROFS e = refl
errno_same EAGAIN EAGAIN e = refl
errno_same ELOOP ELOOP e = refl
errno_same ENAMETOOLONG ENAMETOOLONG e = refl
errno_same ENOTEMPTY ENOTEMPTY e = refl
errno_same a b e = absurd (differ (text_of a) (text_of b) refl e)

pub reply_same : (r s : Reply) → IsBoundedReply r → IsBoundedReply s → reply_words r ≡ reply_words s → r ≡ s
reply_same reply.Done reply.Done h k e = refl
reply_same (reply.Fd a) (reply.Fd b) h k e = ap (λ (x : ℕ). reply.Fd x) (decimal_injective a b h k cc)
reply_same (reply.Count a) (reply.Count b) h k e = ap (λ (x : ℕ). reply.Count x) (decimal_injective a b h k cc)
reply_same (reply.Offset a) (reply.Offset b) h k e = ap (λ (x : ℕ). reply.Offset x) (decimal_injective a b h k cc)
reply_same (reply.Bytes a) (reply.Bytes b) h k e = ap (λ (x : List ℕ). reply.Bytes x) (word_same a b cc)
reply_same (reply.Stat a m) (reply.Stat b n) h k e =
    let one : a ≡ b = kind_same a b cc in
    let two : m ≡ n = decimal_injective m n h k cc in
    cc
reply_same (reply.Names a) (reply.Names b) h k e = ap (λ (x : List (List ℕ)). reply.Names x) (names_same a b cc)
reply_same (reply.Target a) (reply.Target b) h k e = ap (λ (x : List ℕ). reply.Target x) (word_same a b cc)
reply_same (reply.Fs m a) (reply.Fs n b) h k e =
    let one : m ≡ n = decimal_injective m n h k cc in
    let two : a ≡ b = mount_same a b cc in
    cc
reply_same (reply.Fail a) (reply.Fail b) h k e = ap (λ (x : Errno). reply.Fail x) (errno_same a b cc)
reply_same r s h k e = absurd (differ (reply_head r) (reply_head s) refl (first_is (reply_head r) (reply_head s) (reply_rest r) (reply_rest s) e))

-- replies of the same text are the same
pub same_reply : (r s : Reply) → IsBoundedReply r → IsBoundedReply s → reply_text r ≡ reply_text s → r ≡ s
same_reply r s h k e =
    let lines : join_with_byte 32 (reply_words r) ++ 10 ∷ [] ≡ join_with_byte 32 (reply_words s) ++ 10 ∷ [] = ap (λ (t : List ℕ). t ++ 10 ∷ []) (sym (reply_joined r) ∙ e ∙ reply_joined s) in
    reply_same r s h k (line_same (reply_head r) (reply_rest r) (reply_head s) (reply_rest s) [] [] (reply_above r) (reply_above s) lines).0
