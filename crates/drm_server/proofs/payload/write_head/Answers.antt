use Rattle.std.proofs.Common.{sym, subst}
use Rattle.drm_bits.specs.Description.{IsDescription, FitsWidths}
use Rattle.drm_server.proofs.StreamLemmas.{is_description, fits_widths}
use Rattle.drm_server.proofs.payload.write_head.Goals as goal

pub head-requires-clause-description : goal.head-requires-clause-description
head-requires-clause-description c = subst IsDescription (sym c.description.ensures) (is_description c.args.config.now c.requires.fits)

pub head-requires-clause-widths : goal.head-requires-clause-widths
head-requires-clause-widths c = subst FitsWidths (sym c.description.ensures) (fits_widths c.args.config.now c.requires.fits)
