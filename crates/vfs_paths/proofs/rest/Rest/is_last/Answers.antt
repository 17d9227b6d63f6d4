use Rattle.std.proofs.Common.{vec_len, arith}
use Rattle.vfs_paths.proofs.Ends.{last_in_reverse}
use Rattle.vfs_paths.proofs.rest.Rest.is_last.Goals as goal

pub returns : goal.returns
returns c =
    let v = c.self.inside.components in
    last_in_reverse v.items _ (vec_len v) _ c.is_empty.ensures (omega (arith, v.ok.0)) c.self.view_is
