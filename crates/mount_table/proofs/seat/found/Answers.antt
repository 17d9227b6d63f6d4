use Rattle.std.proofs.Common.{◌≡◌}
use Rattle.std.specs.Prelude.{Option, Some, None, IsSome}
use Rattle.mount_table.proofs.Tables.{get_none}
use Rattle.mount_table.proofs.seat.found.Goals as goal

no_some : {X : Type 0} (o : Option X) → o ≡ None → IsSome o → ⊥
no_some None e h = cc
no_some (Some x) e h = cc

pub unreachable-requires : goal.unreachable-requires
unreachable-requires c = no_some _ (get_none (λ seat. seat.mount) c.args.seats.now c.args.number c.in-None.ensures) c.requires
