-- An inner entry by its words: what happened, and where.
use Rattle.std.proofs.Common.{◌≡◌, ℕ, List, [], ◌∷◌, ◌++◌, codes, decimal, refl, sym, ap, ◌∙◌, append_assoc}
use Rattle.std.specs.List.{join_with_byte}
use Rattle.std.proofs.lemmas.Fmt.{decimal_injective}
use Rattle.call_model.specs.declared.entry.Ref.{Ref}
use Rattle.call_model.specs.declared.entry.Ref.TheVariants as ref
use Rattle.call_model.specs.declared.entry.Inner.{Inner}
use Rattle.call_model.specs.declared.entry.Inner.TheVariants as inner
use Rattle.script_text.specs.Word.{word_text}
use Rattle.trace_text.specs.Inner.{inner_text}
use Rattle.trace_text.specs.Bounded.{IsBoundedRef, IsBoundedInner}
use Rattle.trace_text.proofs.Words.{EachAbove, word_above, word_same, decimal_above, line_same, differ, first_is}

-- the first word
abbrev pub inner_head : Inner → List ℕ
inner_head (inner.Shadow mount dir name) = codes "shadow"
inner_head (inner.CopyUp mount dir name) = codes "copyup"
inner_head (inner.Detach mount) = codes "detach"
inner_head (inner.Doom at) = codes "doom"

abbrev pub ref_words : Ref → List (List ℕ)
ref_words (ref.Fd caller fd) = decimal caller ∷ codes "fd" ∷ decimal fd ∷ []
ref_words (ref.Cwd caller) = decimal caller ∷ codes "cwd" ∷ []

-- the words after the first
abbrev pub inner_rest : Inner → List (List ℕ)
inner_rest (inner.Shadow mount dir name) = decimal mount ∷ decimal dir ∷ word_text name ∷ []
inner_rest (inner.CopyUp mount dir name) = decimal mount ∷ decimal dir ∷ word_text name ∷ []
inner_rest (inner.Detach mount) = decimal mount ∷ []
inner_rest (inner.Doom at) = ref_words at

abbrev pub inner_words : Inner → List (List ℕ)
inner_words x = inner_head x ∷ inner_rest x

pub inner_joined : (x : Inner) → inner_text x ≡ join_with_byte 32 (inner_words x)
inner_joined (inner.Shadow mount dir name) = simp append_assoc
inner_joined (inner.CopyUp mount dir name) = simp append_assoc
inner_joined (inner.Detach mount) = refl
inner_joined (inner.Doom (ref.Fd caller fd)) = simp append_assoc
inner_joined (inner.Doom (ref.Cwd caller)) = refl

ref_above : (at : Ref) → EachAbove (ref_words at)
ref_above (ref.Fd caller fd) = (decimal_above caller, (refl, (decimal_above fd, tt)))
ref_above (ref.Cwd caller) = (decimal_above caller, (refl, tt))

pub inner_above : (x : Inner) → EachAbove (inner_words x)
inner_above (inner.Shadow mount dir name) = (refl, (decimal_above mount, (decimal_above dir, (word_above name, tt))))
inner_above (inner.CopyUp mount dir name) = (refl, (decimal_above mount, (decimal_above dir, (word_above name, tt))))
inner_above (inner.Detach mount) = (refl, (decimal_above mount, tt))
inner_above (inner.Doom at) = (refl, ref_above at)

ref_same : (a b : Ref) → IsBoundedRef a → IsBoundedRef b → ref_words a ≡ ref_words b → a ≡ b
ref_same (ref.Fd c d) (ref.Fd k l) f g e =
    let one : c ≡ k = decimal_injective c k f.0 g.0 cc in
    let two : d ≡ l = decimal_injective d l f.1 g.1 cc in
    cc
ref_same (ref.Cwd c) (ref.Cwd k) f g e = ap (λ (x : ℕ). ref.Cwd x) (decimal_injective c k f g cc)
ref_same (ref.Fd c d) (ref.Cwd k) f g e = absurd (differ (codes "fd") (codes "cwd") refl cc)
ref_same (ref.Cwd c) (ref.Fd k l) f g e = absurd (differ (codes "cwd") (codes "fd") refl cc)

pub inner_same : (x y : Inner) → IsBoundedInner x → IsBoundedInner y → inner_words x ≡ inner_words y → x ≡ y
inner_same (inner.Shadow m d n) (inner.Shadow k l o) f g e =
    let one : m ≡ k = decimal_injective m k f.0 g.0 cc in
    let two : d ≡ l = decimal_injective d l f.1 g.1 cc in
    let name : n ≡ o = word_same n o cc in
    cc
inner_same (inner.CopyUp m d n) (inner.CopyUp k l o) f g e =
    let one : m ≡ k = decimal_injective m k f.0 g.0 cc in
    let two : d ≡ l = decimal_injective d l f.1 g.1 cc in
    let name : n ≡ o = word_same n o cc in
    cc
inner_same (inner.Detach m) (inner.Detach k) f g e = ap (λ (x : ℕ). inner.Detach x) (decimal_injective m k f g cc)
inner_same (inner.Doom a) (inner.Doom b) f g e = ap (λ (x : Ref). inner.Doom x) (ref_same a b f g cc)
inner_same x y f g e = absurd (differ (inner_head x) (inner_head y) refl (first_is (inner_head x) (inner_head y) (inner_rest x) (inner_rest y) e))

-- inner entries of the same text are the same
pub same_inner : (x y : Inner) → IsBoundedInner x → IsBoundedInner y → inner_text x ≡ inner_text y → x ≡ y
same_inner x y f g e =
    let lines : join_with_byte 32 (inner_words x) ++ 10 ∷ [] ≡ join_with_byte 32 (inner_words y) ++ 10 ∷ [] = ap (λ (t : List ℕ). t ++ 10 ∷ []) (sym (inner_joined x) ∙ e ∙ inner_joined y) in
    inner_same x y f g (line_same (inner_head x) (inner_rest x) (inner_head y) (inner_rest y) [] [] (inner_above x) (inner_above y) lines).0
