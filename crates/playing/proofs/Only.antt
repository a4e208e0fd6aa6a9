-- No second result fits a public call's promise: its value's view has a way back. Rests on `tables`' law of any answer.
-- Assumes nothing.
use mathlib.Core.Path.{◌≡◌, refl}
use Rattle.std.specs.Prelude.{Result}
use Rattle.tables.specs.declared.Refusal as refusalᵈ
use Rattle.tables.specs.Refusal.{Answer}
use Rattle.tables.proofs.Refusals.{answer_only}
use Rattle.playing.specs.declared.Pair as pairᵈ
use Rattle.playing.specs.declared.Playing as playingᵈ
use Rattle.playing.specs.Playing.{Pair, pair, Playing, playing}
use Rattle.playing.specs.Answers.{pair_of, on_of, playing_of, played_of}

-- `clip_at`
pair_from : Pair → pairᵈ.Pair
pair_from (pair turn clip) = record { turn = turn; clip = clip }

pair_back : (p : pairᵈ.Pair) → pair_from (pair_of p) ≡ p
unfolding pair_from
pair_back p = refl

pub on_only : (x : Answer Pair) (a b : Result pairᵈ.Pair refusalᵈ.Refusal) → on_of a ≡ x → on_of b ≡ x → a ≡ b
on_only = answer_only pair_of pair_from pair_back

-- `playing_at`
playing_from : Playing → playingᵈ.Playing
playing_from (playing turn clip since left) = record { turn = turn; clip = clip; since = since; left = left }

playing_back : (p : playingᵈ.Playing) → playing_from (playing_of p) ≡ p
unfolding playing_from
playing_back p = refl

pub played_only : (x : Answer Playing) (a b : Result playingᵈ.Playing refusalᵈ.Refusal) → played_of a ≡ x → played_of b ≡ x → a ≡ b
played_only = answer_only playing_of playing_from playing_back
