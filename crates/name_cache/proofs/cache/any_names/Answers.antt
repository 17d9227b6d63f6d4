use Rattle.std.proofs.Common.{rules, tests, not}
use Rattle.std.specs.Map.Iter.{deref_pair}
use Rattle.std.proofs.lemmas.Iterator.Search.{any_from_yields_List}
use Rattle.std.proofs.lemmas.Iterator.Consumers.{YieldsList-from_rest}
use Rattle.name_cache.specs.Entries.{spares, Entry}
use Rattle.name_cache.proofs.cache.any_names.Goals as goal

pub returns : goal.returns
returns c = any_from_yields_List (λ (e : Entry). not (spares c.args.vid e)) _ _ c.any.result c.any.ensures.ran (YieldsList-from_rest {shows = deref_pair} _ c.iter.ensures.rest) (λ x b q k. search (rules, tests))
