use Rattle.std.proofs.Common.{arith}
use Rattle.vfs_paths.proofs.Ends.{popped_by}
use Rattle.vfs_paths.proofs.rest.Rest.pop.Goals as goal

pub returns : goal.returns
returns c =
    let left = c.pop.new.self in
    popped_by _ _ _ _ c.pop.ensures.items (λ none. let empty = (rw none at c.pop.ensures.cases).1 in omega (arith, left.ok.0, empty)) c.self.view_is
