-- A script that is read has the text, what has the text is read, and where nothing is read, the bad line is told.
use Rattle.std.proofs.Common.{◌≡◌, ℕ, ◌≤◌, true, false, not, ◌&&◌, ◌==◌, cond, ◌⊎◌, inl, inr, List, [], ◌∷◌, codes, Option, Some, None, Result, Ok, Err, refl, sym, ap, subst, ◌∙◌, lit≤}
use Rattle.std.specs.List.{slice_split, join_with_byte, AllByRecursion}
use Rattle.std.specs.Str.{bytes_eq}
use Rattle.std.proofs.lemmas.Bool.{and_parts, eqb-true}
use Rattle.std.proofs.lemmas.List.Splits.{join_with_byte-slice_split}
use Rattle.vfs_tree.specs.declared.limits.Limits.{Limits}
use Rattle.vfs_tree.specs.Limits.{IsLawful}
use Rattle.call_model.specs.declared.call.Line.{Line}
use Rattle.script_text.specs.declared.script.Script.{Script}
use Rattle.script_text.specs.Line.{line_text}
use Rattle.script_text.specs.Fits.{FitsLine}
use Rattle.script_text.specs.Script.{default_limits, is_default, limits_text, call_lines, short_text, whole_text, script_text, IsTextOf, HasText}
use Rattle.script_text.specs.BadLine.{Place, First, Second, Later, Past, IsLater, IsLawfulAt, IsBadFrom}
use Rattle.script_text.specs.ReadScript.{is_nil, limits_at, lines_at, with_limits, second_at, after_second, body_by, script_at}
use Rattle.script_text.proofs.Joined.{cut_joined}
use Rattle.script_text.proofs.Values.{same_bytes, bytes_are}
use Rattle.script_text.proofs.LimitsLaws.{limits_found, limits_again, limits_lack, line_is_no_limits, end_is_no_limits}
use Rattle.script_text.proofs.LinesLaws.{cond_is, lines_found, lines_again, lines_bad, lines_lack}

-- the script of these limits and lines
abbrev pub made : Limits → List Line → Script
made limits lines = record { limits = limits; lines = lines }

pub default_is_lawful : IsLawful default_limits
default_is_lawful = record { some_caller = lit≤ tt; few_callers = lit≤ tt; some_file = lit≤ tt; few_files = lit≤ tt; some_mount = lit≤ tt; few_mounts = lit≤ tt; enough_vnodes = lit≤ tt; few_vnodes = lit≤ tt }

limits_of : ℕ → ℕ → ℕ → ℕ → Limits
limits_of callers files mounts vnodes = record { callers = callers; files = files; mounts = mounts; vnodes = vnodes }

same_limits : (p f m n : ℕ) → p ≡ 16 → f ≡ 256 → m ≡ 16 → n ≡ 4096 → limits_of p f m n ≡ limits_of 16 256 16 4096
same_limits p f m n a b c d = cc

-- limits that are the default ones by the test are the default ones
default_found : (limits : Limits) → is_default limits ≡ true → limits ≡ default_limits
unfolding limits_of
default_found limits e =
    let a = and_parts (limits.callers == 16) ((limits.files == 256) && ((limits.mounts == 16) && (limits.vnodes == 4096))) e in
    let b = and_parts (limits.files == 256) ((limits.mounts == 16) && (limits.vnodes == 4096)) a.1 in
    let c = and_parts (limits.mounts == 16) (limits.vnodes == 4096) b.1 in
    let callers = eqb-true limits.callers 16 a.0 in
    let files = eqb-true limits.files 256 b.0 in
    let mounts = eqb-true limits.mounts 16 c.0 in
    let vnodes = eqb-true limits.vnodes 4096 c.1 in
    same_limits limits.callers limits.files limits.mounts limits.vnodes callers files mounts vnodes

-- ---- what is read

with_limits_ok : (limits : Limits) (r : Result (List Line) ℕ) (s : Script) → with_limits limits r ≡ Ok s → (lines : List Line) × (r ≡ Ok lines) × (made limits lines ≡ s)
with_limits_ok limits (Ok lines) s e = (lines, refl, cc)
with_limits_ok limits (Err n) s e = absurd cc

with_limits_err : (limits : Limits) (r : Result (List Line) ℕ) (n : ℕ) → with_limits limits r ≡ Err n → r ≡ Err n
with_limits_err limits (Ok lines) n e = absurd cc
with_limits_err limits (Err m) n e = cc

-- the lines after the first are those of the script, with its limits or, where these are the default ones, without
abbrev SpellsBody : List (List ℕ) → Script → Type 0
SpellsBody rest s = ((rest ≡ call_lines s.lines) × (s.limits ≡ default_limits)) ⊎ (rest ≡ limits_text s.limits ∷ call_lines s.lines)

plain_found : (rest : List (List ℕ)) (s : Script) → with_limits default_limits (lines_at 16 4096 2 rest) ≡ Ok s → HasText s × SpellsBody rest s
plain_found rest s e =
    let r = with_limits_ok default_limits (lines_at 16 4096 2 rest) s e in
    let f = lines_found 16 4096 2 rest r.0 r.1 in
    subst (λ (x : Script). HasText x × SpellsBody rest x) r.2 (record { limits = default_is_lawful; count = f.2; each = f.1 }, inl (sym f.0, refl))

second_some : (rest : List (List ℕ)) (limits : Limits) → second_at rest ≡ Some limits → (text : List ℕ) × (rest ≡ text ∷ after_second rest) × (limits_at text ≡ Some limits)
unfolding second_at
second_some [] limits e = absurd cc
second_some (text ∷ []) limits e = absurd cc
second_some (text ∷ next ∷ rest) limits e = (text, refl, e)

body_found : (rest : List (List ℕ)) (s : Script) (o : Option Limits) → second_at rest ≡ o → body_by o rest ≡ Ok s → HasText s × SpellsBody rest s
body_found rest s None second e = plain_found rest s e
body_found rest s (Some limits) second e =
    let t = second_some rest limits second in
    let l = limits_found t.0 limits t.2 in
    let r = with_limits_ok limits (lines_at limits.callers 4096 3 (after_second rest)) s e in
    let f = lines_found limits.callers 4096 3 (after_second rest) r.0 r.1 in
    let spelled : rest ≡ limits_text limits ∷ call_lines r.0 = rw f.0 (t.1 ∙ ap (λ (x : List ℕ). x ∷ after_second rest) l.0) in
    subst (λ (x : Script). HasText x × SpellsBody rest x) r.2 (record { limits = l.1; count = f.2; each = f.1 }, inr spelled)

short_is : (s : Script) → s.limits ≡ default_limits → script_text s ≡ short_text s
unfolding script_text
short_is s e = rw e refl

text_of : (bytes : List ℕ) (rest : List (List ℕ)) (s : Script) → join_with_byte 10 (codes "vfs 1" ∷ rest) ≡ bytes → SpellsBody rest s → IsTextOf s bytes
unfolding short_text whole_text
text_of bytes rest s joined (inl p) = inl (sym joined ∙ ap (λ (t : List (List ℕ)). join_with_byte 10 (codes "vfs 1" ∷ t)) p.0 ∙ sym (short_is s p.1))
text_of bytes rest s joined (inr p) = inr (sym joined ∙ ap (λ (t : List (List ℕ)). join_with_byte 10 (codes "vfs 1" ∷ t)) p)

parts_found : (bytes : List ℕ) (parts : List (List ℕ)) (s : Script) → join_with_byte 10 parts ≡ bytes → script_at parts ≡ Ok s → HasText s × IsTextOf s bytes
unfolding script_at
parts_found bytes [] s joined e = absurd cc
parts_found bytes (first ∷ rest) s joined e =
    elim (cond_is (bytes_eq first (codes "vfs 1") && not (is_nil rest)) (body_by (second_at rest) rest) (Err 1) (Ok s) e) [
      | inl p ↦
          let t = and_parts (bytes_eq first (codes "vfs 1")) (not (is_nil rest)) p.0 in
          let f = body_found rest s (second_at rest) refl p.1 in
          let same : join_with_byte 10 (codes "vfs 1" ∷ rest) ≡ bytes = ap (λ (t : List ℕ). join_with_byte 10 (t ∷ rest)) (sym (bytes_are first (codes "vfs 1") t.0)) ∙ joined in
          (f.0, text_of bytes rest s same f.1)
      | inr p ↦ absurd (cc p.1)
    ]

pub script_found : (bytes : List ℕ) (s : Script) → script_at (slice_split (λ b. b == 10) bytes) ≡ Ok s → HasText s × IsTextOf s bytes
script_found bytes s e = parts_found bytes (slice_split (λ b. b == 10) bytes) s (join_with_byte-slice_split 10 bytes) e

-- ---- what has a text is read

few_callers : (s : Script) → HasText s → s.limits.callers ≤ 16
few_callers s has = has.limits.few_callers

lines_cons : (lines : List Line) → (text next : List ℕ) × (rest : List (List ℕ)) × (call_lines lines ≡ text ∷ next ∷ rest)
lines_cons [] = (codes "end", [], [], refl)
lines_cons (line ∷ []) = (line_text line, codes "end", [] ∷ [], refl)
lines_cons (line ∷ next ∷ lines) = (line_text line, line_text next, call_lines lines, refl)

second_none : (callers : ℕ) (lines : List Line) → callers ≤ 16 → AllByRecursion (FitsLine callers) lines → second_at (call_lines lines) ≡ None
unfolding second_at
second_none callers [] few fits = end_is_no_limits
second_none callers (line ∷ []) few fits = line_is_no_limits callers line few fits.0
second_none callers (line ∷ next ∷ lines) few fits = line_is_no_limits callers line few fits.0

short_cut : (s : Script) → HasText s → slice_split (λ b. b == 10) (short_text s) ≡ codes "vfs 1" ∷ call_lines s.lines
unfolding short_text
short_cut s has = cut_joined 10 (codes "vfs 1") (call_lines s.lines) (refl, lines_lack s.limits.callers s.lines (few_callers s has) has.each)

whole_cut : (s : Script) → HasText s → slice_split (λ b. b == 10) (whole_text s) ≡ codes "vfs 1" ∷ limits_text s.limits ∷ call_lines s.lines
unfolding whole_text
whole_cut s has = cut_joined 10 (codes "vfs 1") (limits_text s.limits ∷ call_lines s.lines) (refl, (limits_lack s.limits has.limits, lines_lack s.limits.callers s.lines (few_callers s has) has.each))

not_nil : (lines : List Line) → is_nil (call_lines lines) ≡ false
not_nil [] = refl
not_nil (line ∷ lines) = refl

short_again : (s : Script) → HasText s → s.limits ≡ default_limits → script_at (codes "vfs 1" ∷ call_lines s.lines) ≡ Ok s
unfolding script_at
short_again s has is =
    let callers : s.limits.callers ≡ 16 = ap (λ (l : Limits). l.callers) is in
    let each : AllByRecursion (FitsLine 16) s.lines = subst (λ (n : ℕ). AllByRecursion (FitsLine n) s.lines) callers has.each in
    let goes_on : is_nil (call_lines s.lines) ≡ false = not_nil s.lines in
    let second : second_at (call_lines s.lines) ≡ None = second_none 16 s.lines (lit≤ tt) each in
    let read : lines_at 16 4096 2 (call_lines s.lines) ≡ Ok s.lines = lines_again 16 4096 2 s.lines (lit≤ tt) each has.count in
    rw (goes_on, second, read) (ap (λ (l : Limits). Ok (made l s.lines)) (sym is))

second_whole : (s : Script) → IsLawful s.limits → second_at (limits_text s.limits ∷ call_lines s.lines) ≡ Some s.limits
unfolding second_at
second_whole s h =
    let c = lines_cons s.lines in
    rw c.3 (limits_again s.limits h)

whole_again : (s : Script) → HasText s → script_at (codes "vfs 1" ∷ limits_text s.limits ∷ call_lines s.lines) ≡ Ok s
unfolding script_at
whole_again s has =
    let second : second_at (limits_text s.limits ∷ call_lines s.lines) ≡ Some s.limits = second_whole s has.limits in
    let read : lines_at s.limits.callers 4096 3 (call_lines s.lines) ≡ Ok s.lines = lines_again s.limits.callers 4096 3 s.lines (few_callers s has) has.each has.count in
    rw (second, read) refl

plain_again : (s : Script) → HasText s → script_at (slice_split (λ b. b == 10) (script_text s)) ≡ Ok s
unfolding script_text
plain_again s has =
    elim (is_default s.limits) as (λ b. is_default s.limits ≡ b → script_at (slice_split (λ c. c == 10) (cond b (short_text s) (whole_text s))) ≡ Ok s) [
      | true ↦ λ e. ap script_at (short_cut s has) ∙ short_again s has (default_found s.limits e)
      | false ↦ λ e. ap script_at (whole_cut s has) ∙ whole_again s has
    ] refl

pub script_again : (s : Script) (bytes : List ℕ) → HasText s → IsTextOf s bytes → script_at (slice_split (λ b. b == 10) bytes) ≡ Ok s
script_again s bytes has (inl e) = rw e (plain_again s has)
script_again s bytes has (inr e) = rw e (ap script_at (whole_cut s has) ∙ whole_again s has)

-- two scripts with one text are one
pub one_script : (a b : Script) (bytes : List ℕ) → HasText a → HasText b → IsTextOf a bytes → IsTextOf b bytes → a ≡ b
one_script a b bytes has other p q =
    let first = script_again a bytes has p in
    let second = script_again b bytes other q in
    cc

-- ---- where nothing is read

no_limits_line : (text : List ℕ) → limits_at text ≡ None → ((after : Place) → IsLater 16 4096 text after → ⊥) → (after : Place) → IsLawfulAt Second text after → ⊥
no_limits_line text none later after (inl l) =
    let read : limits_at text ≡ Some l.0 = ap limits_at l.2 ∙ limits_again l.0 l.1 in
    cc
no_limits_line text none later after (inr p) = later after p

-- what is bad among call lines is bad in the second line too, where that is no limits line
bad_second : (text next : List ℕ) (parts : List (List ℕ)) (n : ℕ) → limits_at text ≡ None → IsBadFrom (Later 16 4096) 2 (text ∷ next ∷ parts) n → IsBadFrom Second 2 (text ∷ next ∷ parts) n
bad_second text next parts n none (inl p) = inl (p.0, no_limits_line text none p.1)
bad_second text next parts n none (inr p) = inr (p.0, inr p.1, p.2)

body_bad : (text next : List ℕ) (parts : List (List ℕ)) (n : ℕ) (o : Option Limits) → limits_at text ≡ o → body_by o (text ∷ next ∷ parts) ≡ Err n → IsBadFrom Second 2 (text ∷ next ∷ parts) n
body_bad text next parts n None none e =
    bad_second text next parts n none (lines_bad 16 4096 2 (text ∷ next ∷ parts) n (lit≤ tt) (with_limits_err default_limits (lines_at 16 4096 2 (text ∷ next ∷ parts)) n e))
body_bad text next parts n (Some limits) some e =
    let l = limits_found text limits some in
    inr (Later limits.callers 4096, inl (limits, l.1, l.0, refl), lines_bad limits.callers 4096 3 (next ∷ parts) n l.1.few_callers (with_limits_err limits (lines_at limits.callers 4096 3 (next ∷ parts)) n e))

rest_bad : (rest : List (List ℕ)) (n : ℕ) → body_by (second_at rest) rest ≡ Err n → IsBadFrom Second 2 rest n
unfolding second_at
rest_bad [] n e = lines_bad 16 4096 2 [] n (lit≤ tt) (with_limits_err default_limits (lines_at 16 4096 2 []) n e)
rest_bad (last ∷ []) n e =
    let bad : IsBadFrom (Later 16 4096) 2 (last ∷ []) n = lines_bad 16 4096 2 (last ∷ []) n (lit≤ tt) (with_limits_err default_limits (lines_at 16 4096 2 (last ∷ [])) n e) in
    (bad.0, λ (p : (Second ≡ Past) × (last ≡ [])). cc p.0)
rest_bad (text ∷ next ∷ parts) n e = body_bad text next parts n (limits_at text) refl e

no_first : (text : List ℕ) → bytes_eq text (codes "vfs 1") && true ≡ false → text ≡ codes "vfs 1" → ⊥
no_first text other e =
    let same : bytes_eq text (codes "vfs 1") ≡ true = rw e (same_bytes (codes "vfs 1")) in
    let both : bytes_eq text (codes "vfs 1") && true ≡ true = rw same refl in
    cc

pub script_bad : (parts : List (List ℕ)) (n : ℕ) → script_at parts ≡ Err n → IsBadFrom First 1 parts n
unfolding script_at
script_bad [] n e = cc
script_bad (last ∷ []) n e =
    elim (cond_is (bytes_eq last (codes "vfs 1") && false) (body_by (second_at []) []) (Err 1) (Err n) e) [
      | inl p ↦ let t = and_parts (bytes_eq last (codes "vfs 1")) false p.0 in absurd (cc t.1)
      | inr p ↦ (cc p.1, λ (q : (First ≡ Past) × (last ≡ [])). cc q.0)
    ]
script_bad (text ∷ next ∷ parts) n e =
    elim (cond_is (bytes_eq text (codes "vfs 1") && true) (body_by (second_at (next ∷ parts)) (next ∷ parts)) (Err 1) (Err n) e) [
      | inl p ↦
          let t = and_parts (bytes_eq text (codes "vfs 1")) true p.0 in
          inr (Second, (bytes_are text (codes "vfs 1") t.0, refl), rest_bad (next ∷ parts) n p.1)
      | inr p ↦ inl (cc p.1, λ after h. no_first text p.0 h.0)
    ]
