use Rattle.std.proofs.Common.{◌≡◌, false, not, ap, sym, subst, filter, ◌∙◌}
use Rattle.std.specs.List.{IsDistinct, list_any}
use Rattle.std.specs.Map.{keys_of}
use Rattle.name_cache.specs.contracts.key.KeyPartialEq.TheImpl.{eq-value}
use Rattle.name_cache.specs.Entries.{says, spares}
use Rattle.name_cache.proofs.Same.{kept_left}
use Rattle.name_cache.proofs.Turns.{filter_all}
use Rattle.name_cache.proofs.cache.NameCache.purge_vnode.Goals as goal

pub returns-then-any_names-clause-left : goal.returns-then-any_names-clause-left
returns-then-any_names-clause-left c = λ d n. ap (λ es. says es d n) (c.turn_all.ensures.entries ∙ ap (filter (spares c.args.vid)) c.self.view_is)
    ∙ kept_left c.args.vid c.args.self.now (subst (λ es. IsDistinct eq-value.it (keys_of es)) c.self.view_is c.len-count.ensures.valid.0) d n

pub returns-else-any_names-clause-dropped : goal.returns-else-any_names-clause-dropped
returns-else-any_names-clause-dropped c =
    let none = sym c.if-any_names.false ∙ c.any_names.ensures in
    sym (filter_all (spares c.args.vid) c.args.self.now (subst (λ es. false ≡ list_any (λ e. not (spares c.args.vid e)) es) c.self.view_is none))

pub returns-else-any_names-clause-left : goal.returns-else-any_names-clause-left
returns-else-any_names-clause-left c = λ d n. ap (λ es. says es d n) (returns-else-any_names-clause-dropped c)
    ∙ kept_left c.args.vid c.args.self.now (subst (λ es. IsDistinct eq-value.it (keys_of es)) c.self.view_is c.len-count.ensures.valid.0) d n
