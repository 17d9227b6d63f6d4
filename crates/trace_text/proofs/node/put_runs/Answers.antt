use Rattle.std.proofs.Common.{◌≡◌, ◌++◌, List, ℕ, OnOk, length, arith, sym, ap, subst, ◌∙◌}
use Rattle.trace_text.proofs.Runs.{rest_text-start, rest_text-other, rest_text-zero, rest_text-end, writes_part}
use Rattle.trace_text.proofs.node.put_runs.Goals as goal
use Rattle.trace_text.proofs.node.put_runs.Goals.{then-b-eq0+in_ok-put_run, else-b-eq0}

pub loop-i-init : goal.loop-i-init
loop-i-init c = (omega arith, ap (λ (t : List ℕ). c.args.out.now.items ++ t) (rest_text-start c.args.bytes.now))

pub loop-i-preserved : goal.loop-i-preserved
loop-i-preserved c =
    let bytes = c.args.bytes.now in
    let start = c.loop-i.start in
    let i = c.loop-i.i in
    let so_far = c.loop-i.invariant in
    elim c.if-b-eq0.branch [
      | then-b-eq0+in_ok-put_run w ↦
          let text = rest_text-zero bytes start i so_far.0 c.loop-i-test.true w.if-b-eq0.true in
          rw (w.start-is, w.out-is) (omega arith, writes_part _ _ _ _ _ _ so_far.1 text w.in_ok-put_run.ensures)
      | else-b-eq0 w ↦
          let text = rest_text-other bytes start i so_far.0 c.loop-i-test.true w.if-b-eq0.false in
          rw (w.start-is, w.out-is) (omega arith, ap (λ (t : List ℕ). c.loop-i.out.items ++ t) (sym text) ∙ so_far.1)
    ]

pub returns : goal.returns
returns c =
    let bytes = c.args.bytes.now in
    let at_end : c.loop-i.i ≡ length bytes = omega arith in
    let text = rest_text-end bytes c.loop-i.start c.loop-i.i at_end in
    subst (λ (t : List ℕ). OnOk c.put_run-2.result (c.put_run-2.new.out.items ≡ t)) (ap (λ (t : List ℕ). c.loop-i.out.items ++ t) (sym text) ∙ c.loop-i.invariant.1) c.put_run-2.ensures
