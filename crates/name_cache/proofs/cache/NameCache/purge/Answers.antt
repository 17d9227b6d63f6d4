use Rattle.std.proofs.Common.{ap, ◌∙◌, subst}
use Rattle.std.specs.List.{IsDistinct}
use Rattle.std.specs.Map.{keys_of}
use Rattle.name_cache.specs.contracts.key.KeyPartialEq.TheImpl.{eq-value}
use Rattle.name_cache.specs.Entries.{says}
use Rattle.name_cache.proofs.Same.{Cache, remove_is, removed_silent, removed_others}
use Rattle.name_cache.proofs.cache.NameCache.purge.Goals as goal

pub returns-clause-dropped : goal.returns-clause-dropped
returns-clause-dropped c = ap (λ (s : Cache). s.entries) c.pop-old.ensures.entries ∙ remove_is _ _ _ c.new-key.ensures _ _ c.self.view_is

pub returns-clause-silent : goal.returns-clause-silent
returns-clause-silent c = ap (λ es. says es c.args.dir c.args.name.now) (returns-clause-dropped c)
    ∙ removed_silent c.args.dir c.args.name.now c.args.self.now (subst (λ es. IsDistinct eq-value.it (keys_of es)) c.self.view_is c.len-count.ensures.valid.0)

pub returns-clause-others : goal.returns-clause-others
returns-clause-others c = λ d n h. ap (λ es. says es d n) (returns-clause-dropped c) ∙ removed_others c.args.dir c.args.name.now c.args.self.now d n h
