-- Test by test, as the rule has them. Assumes nothing.
use borrow.Author.Tests.{le-leb, lt-leb}
use Rattle.characters.specs.Inside.Fits.{last_start}
use Rattle.characters.proofs.last_start.Goals as goal

pub returns-then-text-at-ge-OF_TWO : goal.returns-then-text-at-ge-OF_TWO
unfolding last_start
returns-then-text-at-ge-OF_TWO c = rw (le-leb _ _ c.if-text-at-ge-OF_TWO.true)

pub returns-then-text-at-ge-OF_THREE : goal.returns-then-text-at-ge-OF_THREE
unfolding last_start
returns-then-text-at-ge-OF_THREE c = rw (lt-leb _ _ c.if-text-at-ge-OF_TWO.false, le-leb _ _ c.if-text-at-ge-OF_THREE.true)

pub returns-then-text-at-ge-OF_FOUR : goal.returns-then-text-at-ge-OF_FOUR
unfolding last_start
returns-then-text-at-ge-OF_FOUR c = rw (lt-leb _ _ c.if-text-at-ge-OF_TWO.false, lt-leb _ _ c.if-text-at-ge-OF_THREE.false, le-leb _ _ c.if-text-at-ge-OF_FOUR.true)

pub returns : goal.returns
unfolding last_start
returns c = rw (lt-leb _ _ c.if-text-at-ge-OF_TWO.false, lt-leb _ _ c.if-text-at-ge-OF_THREE.false, lt-leb _ _ c.if-text-at-ge-OF_FOUR.false)
