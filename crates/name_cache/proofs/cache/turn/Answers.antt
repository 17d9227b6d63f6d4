use Rattle.std.proofs.Common.{ap, sym, ◌∙◌}
use Rattle.name_cache.specs.contracts.key.KeyPartialEq.TheImpl.{eq-value}
use Rattle.name_cache.specs.contracts.key.KeyEq.TheImpl.Laws.{laws-law}
use Rattle.name_cache.proofs.Same.{Cache}
use Rattle.name_cache.proofs.Turns.{turned_kept, turned_dropped}
use Rattle.name_cache.proofs.cache.turn.Goals as goal

pub returns-in-Some-clause-entries : goal.returns-in-Some-clause-entries
returns-in-Some-clause-entries c = ap (λ (s : Cache). s.entries) c.promote.ensures.entries
    ∙ turned_kept eq-value.it laws-law c.args.vid _ c.in-Some.key c.len-count.ensures.valid.0 (sym c.in-Some.is ∙ c.last_spared.ensures)

pub returns-in-None-clause-entries : goal.returns-in-None-clause-entries
returns-in-None-clause-entries c = ap (λ (s : Cache). s.entries) c.pop_lru.ensures.entries ∙ turned_dropped c.args.vid _ (sym c.in-None.is ∙ c.last_spared.ensures)
