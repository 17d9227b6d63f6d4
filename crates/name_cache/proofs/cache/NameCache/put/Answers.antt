use Rattle.std.proofs.Common.{ap, ◌∙◌, sym, subst}
use Rattle.name_cache.specs.Entries.{says, AddsAtMost}
use Rattle.name_cache.proofs.Same.{put_is, entered_said, entered_adds, said_some}
use Rattle.name_cache.proofs.cache.NameCache.put.Goals as goal

pub returns-clause-ok : goal.returns-clause-ok
returns-clause-ok c = put_is _ _ _ c.new-key.ensures _ _ _ _ c.self.invariant c.self.view_is c.in_ok-put.ensures.entries

pub returns-clause-said : goal.returns-clause-said
returns-clause-said c = ap (λ es. says es c.args.dir c.args.name.now) (returns-clause-ok c) ∙ entered_said c.args.dir c.args.name.now c.args.what c.args.self.now

pub returns-clause-adds : goal.returns-clause-adds
returns-clause-adds c = subst (λ es. AddsAtMost c.args.dir c.args.name.now c.args.what c.args.self.now es) (sym (returns-clause-ok c)) (entered_adds c.args.dir c.args.name.now c.args.what c.args.self.now)

pub returns-in_err-put-clause-present : goal.returns-in_err-put-clause-present
returns-in_err-put-clause-present c = λ h. (
    let found = said_some c.args.dir c.args.name.now _ _ c.args.self.now c.new-key.ensures c.self.view_is h in
    let ok = c.in_err-put.ensures.succeeds found in
    cc
    )
