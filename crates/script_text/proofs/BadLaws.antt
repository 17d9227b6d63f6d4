-- Bytes have one bad line at most.
use Rattle.std.proofs.Common.{◌≡◌, ℕ, ◌+◌, ◌≤◌, true, false, inl, inr, List, [], ◌∷◌, codes, Some, None, sym, ap, subst, ◌∙◌, lit≤}
use Rattle.std.specs.Str.{bytes_eq}
use Rattle.vfs_tree.specs.declared.limits.Limits.{Limits}
use Rattle.script_text.specs.Line.{line_text}
use Rattle.script_text.specs.BadLine.{Place, First, Second, Later, Past, IsCallLine, IsLater, IsLimitsLine, IsLawfulAt, IsBadFrom, IsBadLine}
use Rattle.script_text.specs.ReadScript.{limits_at}
use Rattle.script_text.proofs.LineLaws.{line_is_no_end}
use Rattle.script_text.proofs.LimitsLaws.{limits_again, line_is_no_limits, end_is_no_limits}
use Rattle.script_text.proofs.Values.{same_bytes}

-- a place in a script of at most 16 callers
abbrev FitsPlace : Place → Type 0
FitsPlace First = Unit {0}
FitsPlace Second = Unit {0}
FitsPlace (Later callers left) = callers ≤ 16
FitsPlace Past = Unit {0}

later_fits : (callers left : ℕ) (text : List ℕ) (after : Place) → callers ≤ 16 → IsLater callers left text after → FitsPlace after
later_fits callers left text after few (inl end) = subst FitsPlace (sym end.1) tt
later_fits callers left text after few (inr call) = subst FitsPlace (sym call.2) few

next_fits : (place : Place) (text : List ℕ) (after : Place) → FitsPlace place → IsLawfulAt place text after → FitsPlace after
next_fits First text after fits h = subst FitsPlace (sym h.1) tt
next_fits Second text after fits (inl l) = subst FitsPlace (sym l.3) l.1.few_callers
next_fits Second text after fits (inr p) = later_fits 16 4096 text after (lit≤ tt) p
next_fits (Later callers left) text after fits h = later_fits callers left text after fits h
next_fits Past text after fits h = absurd h

call_is_no_end : (callers : ℕ) (text : List ℕ) → callers ≤ 16 → text ≡ codes "end" → IsCallLine callers text → ⊥
call_is_no_end callers text few end call =
    let other : bytes_eq (line_text call.0) (codes "end") ≡ false = line_is_no_end callers call.0 few call.1 in
    let same : bytes_eq (line_text call.0) (codes "end") ≡ true = rw (← call.2, end) (same_bytes (codes "end")) in
    cc

later_once : (callers left : ℕ) (text : List ℕ) (a b : Place) → callers ≤ 16 → IsLater callers left text a → IsLater callers left text b → a ≡ b
later_once callers left text a b few (inl p) (inl q) = p.1 ∙ sym q.1
later_once callers left text a b few (inl p) (inr q) = absurd (call_is_no_end callers text few p.0 q.1)
later_once callers left text a b few (inr p) (inl q) = absurd (call_is_no_end callers text few q.0 p.1)
later_once callers left text a b few (inr p) (inr q) = p.2 ∙ sym q.2

limits_is_no_later : (text : List ℕ) (a b : Place) → IsLimitsLine text a → IsLater 16 4096 text b → ⊥
limits_is_no_later text a b l (inl end) =
    let read : limits_at text ≡ Some l.0 = ap limits_at l.2 ∙ limits_again l.0 l.1 in
    let none : limits_at text ≡ None = ap limits_at end.0 ∙ end_is_no_limits in
    cc
limits_is_no_later text a b l (inr call) =
    let read : limits_at text ≡ Some l.0 = ap limits_at l.2 ∙ limits_again l.0 l.1 in
    let none : limits_at text ≡ None = ap limits_at call.1.2 ∙ line_is_no_limits 16 call.1.0 (lit≤ tt) call.1.1 in
    cc

limits_once : (text : List ℕ) (a b : Place) → IsLimitsLine text a → IsLimitsLine text b → a ≡ b
limits_once text a b l m =
    let first : limits_at text ≡ Some l.0 = ap limits_at l.2 ∙ limits_again l.0 l.1 in
    let second : limits_at text ≡ Some m.0 = ap limits_at m.2 ∙ limits_again m.0 m.1 in
    let same : l.0 ≡ m.0 = cc in
    l.3 ∙ ap (λ (x : Limits). Later x.callers 4096) same ∙ sym m.3

after_once : (place : Place) (text : List ℕ) (a b : Place) → FitsPlace place → IsLawfulAt place text a → IsLawfulAt place text b → a ≡ b
after_once First text a b fits p q = p.1 ∙ sym q.1
after_once Second text a b fits (inl p) (inl q) = limits_once text a b p q
after_once Second text a b fits (inl p) (inr q) = absurd (limits_is_no_later text a b p q)
after_once Second text a b fits (inr p) (inl q) = absurd (limits_is_no_later text b a q p)
after_once Second text a b fits (inr p) (inr q) = later_once 16 4096 text a b (lit≤ tt) p q
after_once (Later callers left) text a b fits p q = later_once callers left text a b fits p q
after_once Past text a b fits p q = absurd p

bad_once : (parts : List (List ℕ)) (place : Place) (number m n : ℕ) → FitsPlace place → IsBadFrom place number parts m → IsBadFrom place number parts n → m ≡ n
bad_once [] place number m n fits p q = p ∙ sym q
bad_once (last ∷ []) place number m n fits p q = p.0 ∙ sym q.0
bad_once (text ∷ next ∷ parts) place number m n fits (inl p) (inl q) = p.0 ∙ sym q.0
bad_once (text ∷ next ∷ parts) place number m n fits (inl p) (inr q) = absurd (p.1 q.0 q.1)
bad_once (text ∷ next ∷ parts) place number m n fits (inr p) (inl q) = absurd (q.1 p.0 p.1)
bad_once (text ∷ next ∷ parts) place number m n fits (inr p) (inr q) =
    let same : p.0 ≡ q.0 = after_once place text p.0 q.0 fits p.1 q.1 in
    let later : IsBadFrom q.0 (number + 1) (next ∷ parts) m = subst (λ (x : Place). IsBadFrom x (number + 1) (next ∷ parts) m) same p.2 in
    bad_once (next ∷ parts) q.0 (number + 1) m n (next_fits place text q.0 fits q.1) later q.2

pub one_bad_line : (bytes : List ℕ) (m n : ℕ) → IsBadLine bytes m → IsBadLine bytes n → m ≡ n
one_bad_line bytes m n p q = bad_once _ First 1 m n tt p.first q.first
