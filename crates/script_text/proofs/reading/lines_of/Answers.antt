use Rattle.std.proofs.Common.{◌≡◌, ℕ, ◌+◌, ◌-◌, ◌<◌, ◌≤◌, ◌∷◌, [], List, map, drop, get_or, length, arith, refl, add-one, drop-cons, Bor}
use Rattle.std.proofs.lemmas.List.{take_rest, drop_all}
use Rattle.std.proofs.lemmas.Result.{err_from_is_err_and}
use Rattle.script_text.proofs.LinesLaws.{step_some, some_left}
use Rattle.script_text.proofs.Loop.{goes_on, ends_badly, ends_well, never_ends}
use Rattle.script_text.proofs.reading.lines_of.Goals as goal

at_line : (lines : List (Bor (List ℕ))) (i : ℕ) → i < length lines → map (λ w. w.now) (drop i lines) ≡ (get_or lines i (record { ref_ptr = (0, 0); now = [] })).now ∷ map (λ w. w.now) (drop (i + 1) lines)
at_line lines i lt = rw (add-one, drop-cons lines i (record { ref_ptr = (0, 0); now = [] })) refl

-- the number of the next line
next_number : (first left : ℕ) → 0 < left → left ≤ 4096 → first + (4096 - left) + 1 ≡ first + (4096 - (left - 1))
next_number first left some few = omega arith

pub returns-in_err-next : goal.returns-in_err-next
returns-in_err-next c =
    let here = rw (at_line c.args.texts.now c.loop-i.i c.loop-i-test.true) at c.loop-i.invariant.0 in
    let p = err_from_is_err_and c.from_residual.result c.from_residual.ensures.1 in
    rw (p.1, p.2) (ends_badly c.in_err-next.field-0.0 _ _ _ c.loop-i.lines.items _ _ _ (rw take_rest at c.in_err-next.ensures) here)

pub returns-in_default : goal.returns-in_default
returns-in_default c =
    let here = rw (at_line c.args.texts.now c.loop-i.i c.loop-i-test.true) at c.loop-i.invariant.0 in
    let step = rw (take_rest, c.in_default.is) at c.in_ok-next.ensures in
    ends_well _ _ _ c.loop-i.lines.items _ _ _ step here

pub overflow_sub-left : goal.overflow_sub-left
overflow_sub-left c =
    let step = rw c.in-Some.is at c.in_ok-next.ensures in
    some_left c.loop-i.left (step_some _ _ _ _ _ c.in-Some.line step).0

pub loop-i-preserved : goal.loop-i-preserved
loop-i-preserved c =
    let here = rw (at_line c.args.texts.now c.loop-i.i c.loop-i-test.true) at c.loop-i.invariant.0 in
    let step = rw (take_rest, c.in-Some.is) at c.in_ok-next.ensures in
    let some : 0 < c.loop-i.left = some_left c.loop-i.left (step_some _ _ _ _ _ c.in-Some.line step).0 in
    let on = goes_on _ _ _ c.loop-i.lines.items _ _ c.in-Some.line _ step here in
    let number = next_number c.args.first c.loop-i.left some c.loop-i.invariant.1 in
    (rw (c.in_ok-push.ensures.items, ← number) on, omega arith)

pub returns : goal.returns
returns c =
    let past : drop c.loop-i.i c.args.texts.now ≡ [] = drop_all c.loop-i.i c.args.texts.now c.loop-i-test.false in
    never_ends c.args.callers c.loop-i.left _ c.loop-i.lines.items _ (rw past at c.loop-i.invariant.0)
