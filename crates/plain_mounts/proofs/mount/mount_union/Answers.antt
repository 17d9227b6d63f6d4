use Rattle.std.proofs.Common.{rules}
use Rattle.plain_mounts.proofs.UnionLaws.{union_made}
use Rattle.plain_mounts.proofs.mount.mount_union.Goals as goal

pub returns-clause-answered : goal.returns-clause-answered
returns-clause-answered c =
    union_made c.args.world.now c.add_mount.new.world c.args.upper c.args.lower c.in_ok-up.up c.in_ok-on.on c.in_ok-store.field-0 c.done.result c.in_ok-up.ensures c.in_ok-on.ensures c.in_ok-store.ensures
    (search rules) (search rules) (search rules) (search rules) c.done.ensures
