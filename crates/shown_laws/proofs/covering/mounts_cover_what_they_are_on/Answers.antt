use Rattle.shown_laws.proofs.CoveredViews.{what_covers, what_is_on, covered_view}
use Rattle.shown_laws.proofs.covering.mounts_cover_what_they_are_on.Goals as goal

pub returns-clause-on : goal.returns-clause-on
returns-clause-on c = what_covers

pub returns-clause-covers : goal.returns-clause-covers
returns-clause-covers c = what_is_on

pub returns-clause-world : goal.returns-clause-world
returns-clause-world c = covered_view
