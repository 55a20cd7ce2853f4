-- `loader::admit_request` meets its contract. Assumes nothing.
use mathlib.Core.Path.{sym, ◌∙◌}
use Rattle.refusal.proofs.First.{first-here, first_on, first-none}
use Rattle.loader.proofs.admit_request.Goals as goal

pub returns : goal.returns
returns c = sym (first_on _ _ _ (rw (sym c.fits.ensures ∙ c.if-not-fits.false)) ∙ first-none)

pub returns-then-not-fits : goal.returns-then-not-fits
returns-then-not-fits c = sym (first-here _ _ _ (rw (sym c.fits.ensures ∙ c.if-not-fits.true)))
