use Rattle.std.proofs.Common.{sym}
use Rattle.vfs_paths.proofs.Steps.{steps_is}
use Rattle.vfs_paths.proofs.crossing.most_steps.Goals as goal

pub returns : goal.returns
returns c = sym steps_is
