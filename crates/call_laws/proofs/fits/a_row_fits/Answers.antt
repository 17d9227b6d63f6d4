use Rattle.call_laws.proofs.RowLaws.{row_fits}
use Rattle.call_laws.proofs.fits.a_row_fits.Goals as goal

pub returns : goal.returns
returns c = row_fits
