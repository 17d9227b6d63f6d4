use Rattle.std.proofs.Common.{refl}
use Rattle.vfs_paths.proofs.Parts.{lawful_parts}
use Rattle.vfs_paths.proofs.path.read_parts.Goals as goal

pub loop-at-init : goal.loop-at-init
loop-at-init c =
    (rw (c.new-parts.ensures.items, c.in_ok-cut.ensures) refl, rw c.in_ok-cut.ensures (lawful_parts c.args.bytes.now c.requires.no_zero c.requires.short))
