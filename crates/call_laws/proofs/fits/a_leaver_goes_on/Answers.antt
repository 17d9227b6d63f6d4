use Rattle.call_laws.proofs.RowLaws.{leaver_row}
use Rattle.call_laws.proofs.fits.a_leaver_goes_on.Goals as goal

pub returns : goal.returns
returns c = leaver_row
