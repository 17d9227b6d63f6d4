use Rattle.std.proofs.Common.{◌≡◌, ◌≤◌, ◌+◌, ◌-◌, ◌++◌, ◌∷◌, [], List, ℕ, ap, sym, subst, ◌∙◌, cond, arith, length, get_or}
use Rattle.std.specs.Prelude.{unwrap_or}
use Rattle.std.specs.List.{AllByRecursion}
use Rattle.std.specs.FinMap.{get}
use Rattle.vfs_tree.specs.Limits.{IsCaller}
use Rattle.vfs_core.specs.Work.{Work}
use Rattle.vfs_core.proofs.TurnLaws.{sought-start, sought-step, sought-low, sought-fits, none_from}
use Rattle.vfs_core.proofs.job.Job.callers_left.Goals as goal
use Rattle.vfs_core.proofs.job.Job.callers_left.Goals.{then-is_owed_more+in_ok-push, else-is_owed_more}

pub loop-at-init : goal.loop-at-init
loop-at-init c =
    let all : c.len-at.result ≡ length c.args.self.now.order = c.len-at.ensures ∙ c.self.inside.order.ok.0 ∙ ap (λ (j : Work). length j.order) c.self.view_is in
    sought-start _ _ _ _ c.new-callers.ensures.items c.new-later.ensures (none_from _ _ all)

pub overflow_add-count : goal.overflow_add-count
overflow_add-count c =
    let count : c.unwrap_or-count.result ≡ unwrap_or (get c.loop-at.later c.index-caller.result.now) 0 = c.unwrap_or-count.ensures ∙ ap (λ o. unwrap_or o 0) (c.copied.ensures ∙ c.get.ensures) in
    let all : c.self.inside.order.len ≡ length c.args.self.now.order = c.self.inside.order.ok.0 ∙ ap (λ (j : Work). length j.order) c.self.view_is in
    let low : c.unwrap_or-count.result ≤ length c.args.self.now.order = sought-low _ _ _ _ c.args.self.now.order c.index-caller.result.now _ c.loop-at.invariant count in
    let cap = c.self.inside.order.ok.1 in
    let small = c.self.inside.order.small in
    record { fits = omega arith }

pub loop-at-preserved : goal.loop-at-preserved
loop-at-preserved c =
    let count : c.unwrap_or-count.result ≡ unwrap_or (get c.loop-at.later c.index-caller.result.now) 0 = c.unwrap_or-count.ensures ∙ ap (λ o. unwrap_or o 0) (c.copied.ensures ∙ c.get.ensures) in
    let all : c.len-at.result ≡ length c.args.self.now.order = c.len-at.ensures ∙ c.self.inside.order.ok.0 ∙ ap (λ (j : Work). length j.order) c.self.view_is in
    let some : 1 ≤ c.loop-at.at = omega arith in
    let low : c.loop-at.at ≤ length c.args.self.now.order = omega arith in
    let caller : get_or c.args.self.now.order (c.loop-at.at - 1) c.index-caller.result.now ≡ c.index-caller.result.now =
    sym (c.index-caller.ensures ∙ ap (λ (j : Work). get_or j.order (c.loop-at.at - 1) c.index-caller.result.now) c.self.view_is)
    in
    let was : List ℕ = c.loop-at.callers.items in
    let more : List ℕ = was ++ c.index-caller.result.now ∷ [] in
    let pushed : c.if-is_owed_more.callers.items ≡ cond c.is_owed_more.result more was = elim c.if-is_owed_more.branch [
      | then-is_owed_more+in_ok-push w ↦ rw w.callers-is (w.in_ok-push.ensures.items ∙ sym (ap (λ b. cond b more was) w.if-is_owed_more.true))
      | else-is_owed_more w ↦ rw w.callers-is (sym (ap (λ b. cond b more was) w.if-is_owed_more.false))
    ]
    in
    sought-step _ _ _ _ _ c.loop-at.at c.args.self.now.order c.index-caller.result.now c.unwrap_or-count.result c.is_owed_more.result c.loop-at.invariant some low caller count c.is_owed_more.ensures pushed c.in_ok-insert.ensures.ok

pub returns-clause-fits : goal.returns-clause-fits
returns-clause-fits c =
    let end : c.loop-at.at ≡ 0 = omega arith in
    let each = subst (λ (j : Work). AllByRecursion (IsCaller j.kern.limits) j.order) c.self.view_is c.self.invariant.lines in
    sought-fits c.args.self.now.kern.limits _ _ _ _ _ c.args.self.now.order c.loop-at.invariant end c.reverse.ensures.items each
