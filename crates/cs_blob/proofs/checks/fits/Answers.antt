use Rattle.pg_bytes.proofs.PageSizeFacts.{some_page}
use Rattle.cs_blob.proofs.checks.fits.Goals as goal

pub fits_pages-requires : goal.fits_pages-requires
fits_pages-requires c = some_page c.in-Some.page (c.requires.page c.in-Some.page c.in-Some.is)
