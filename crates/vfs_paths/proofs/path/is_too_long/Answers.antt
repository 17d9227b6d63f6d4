use Rattle.std.proofs.Common.{◌==◌, arith}
use Rattle.std.specs.List.{slice_split}
use Rattle.std.proofs.lemmas.Bool.Decides.{nat_tests}
use Rattle.vfs_paths.proofs.Parts.{any_long}
use Rattle.vfs_paths.proofs.path.is_too_long.Goals as goal

pub returns-else-bytes-gt-PATH_MAX : goal.returns-else-bytes-gt-PATH_MAX
returns-else-bytes-gt-PATH_MAX c =
    let e = any_long (slice_split (λ b. b == 47) c.args.bytes.now) in
    grind (arith, nat_tests, e)
