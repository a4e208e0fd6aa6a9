-- The test as it stands. Assumes nothing.
use mathlib.Core.Path.{refl}
use mathlib.Core.Bool.{xor}
use Rattle.characters.specs.Inside.Fits.{fits}
use Rattle.characters.proofs.fits.Goals as goal

pub returns : goal.returns
unfolding fits xor
returns c = refl
