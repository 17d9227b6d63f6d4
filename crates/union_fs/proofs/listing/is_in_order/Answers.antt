use Rattle.std.proofs.Common.{refl, sym, ◌≡◌, ◌≤◌, ◌<◌, ◌∙◌, length, arith}
use Rattle.std.specs.declared.cmp.Ordering.TheVariants.{Less}
use Rattle.union_fs.proofs.Names.{below_next, in_order_from}
use Rattle.union_fs.proofs.listing.is_in_order.Goals as goal

pub returns-then-ne : goal.returns-then-ne
returns-then-ne c = (
  λ h. absurd (cc),
  λ s. (
      let first : 1 ≤ c.loop-at.at = omega arith in
      let within : c.loop-at.at < length c.args.names.now = omega arith in
      let less : c.cmp.result ≡ Less = c.cmp.ensures ∙ below_next c.args.names.now c.loop-at.at c.index-names-at.result c.index-names-at-in-loop-at.result s first within c.index-names-at.is c.index-names-at-in-loop-at.is in
      let differs = c.if-ne.ensures in
      sym (rw less at differs)
      ),
)

pub returns : goal.returns
returns c = (λ _. in_order_from c.args.names.now (λ k h. c.loop-at.invariant k (omega arith)), λ _. refl)
