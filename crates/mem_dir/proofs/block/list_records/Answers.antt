use Rattle.std.proofs.Common.{◌≡◌, ◌∷◌, ◌++◌, [], Some, None, ap, ◌∙◌, cond}
use Rattle.mem_dir.specs.Directory.{listed}
use Rattle.mem_dir.proofs.Listing.{list_more, list_same}
use Rattle.mem_dir.proofs.block.list_records.Goals.{then-is_listed+in_ok-duplicate+in_ok-push, else-is_listed}
use Rattle.mem_dir.proofs.block.list_records.Goals as goal

pub loop-name-preserved : goal.loop-name-preserved
loop-name-preserved c =
    let f = listed c.args.white in
    let rs = c.args.records.now in
    let i = c.loop-name.name-index in
    let r = c.loop-name-item.result in
    let start = c.args.names.now.items in
    let old = c.loop-name.names.items in
    let now = c.if-is_listed.names.items in
    let so_far = c.loop-name.invariant in
    elim c.if-is_listed.branch [
      | then-is_listed+in_ok-duplicate+in_ok-push w ↦
          let is : f r ≡ Some r.0 = c.is_listed.ensures r.0 ∙ ap (λ b. cond b (Some r.0) None) w.if-is_listed.true in
          let more : now ≡ old ++ r.0 ∷ [] = cc (w.names-is, w.in_ok-push.ensures.items, w.in_ok-duplicate.ensures) in
          list_more f rs i r r.0 start old now c.loop-name-item.is c.loop-name-test.true so_far is more
      | else-is_listed w ↦
          let is : f r ≡ None = c.is_listed.ensures r.0 ∙ ap (λ b. cond b (Some r.0) None) w.if-is_listed.false in
          let same : now ≡ old = cc (w.names-is) in
          list_same f rs i r start old now c.loop-name-item.is c.loop-name-test.true so_far is same
    ]
