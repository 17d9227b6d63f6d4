use Rattle.std.proofs.Common.{is_some, IsSome, sym, ap, subst}
use Rattle.std.specs.FinMap.{get}
use Rattle.finite_maps.proofs.EntryLaws.{pair_total, get_at-insert}
use Rattle.open_files.proofs.tests.exchanged.Goals as goal

pub set-requires : goal.set-requires
set-requires c = subst (λ m. IsSome (get m (1, c.in-Ok.fd))) (sym c.in-Ok.ensures.opens) (ap is_some (get_at-insert pair_total _ _ _))
