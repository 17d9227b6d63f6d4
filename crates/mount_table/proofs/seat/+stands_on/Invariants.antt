use Rattle.mount_table.proofs.seat.+stands_on.Given as goal

abbrev pub decreases-stands_on : goal.decreases-stands_on
decreases-stands_on l = l.a
