use Rattle.std.proofs.Common.{ap, ◌∙◌}
use Rattle.name_cache.specs.Answers.{answer}
use Rattle.name_cache.specs.Entries.{says}
use Rattle.name_cache.proofs.Same.{Cache, promote_is, lookup_is, promoted_same}
use Rattle.name_cache.proofs.cache.NameCache.look.Goals as goal

pub returns-clause-told : goal.returns-clause-told
returns-clause-told c = rw (c.answer_from.ensures, c.copied.ensures, c.get.ensures.value) (ap answer (lookup_is _ _ _ c.new-key.ensures _ _ c.self.view_is))

pub returns-clause-order : goal.returns-clause-order
returns-clause-order c = ap (λ (s : Cache). s.entries) c.get.follows.holds-at-none ∙ promote_is _ _ _ c.new-key.ensures _ _ c.self.view_is

pub returns-clause-same : goal.returns-clause-same
returns-clause-same c = λ d n. ap (λ es. says es d n) (returns-clause-order c) ∙ promoted_same c.args.dir c.args.name.now c.args.self.now d n
