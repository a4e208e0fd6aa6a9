-- What each answer of the code says, in the words of the rules. Assumes nothing.
use Rattle.std.specs.Prelude.{Result}
use Rattle.tables.specs.declared.Refusal as refusalᵈ
use Rattle.tables.specs.Refusal.{Answer}
use Rattle.tables.specs.Answers.{answer}
use Rattle.playing.specs.declared.Pair as pairᵈ
use Rattle.playing.specs.declared.Playing as playingᵈ
use Rattle.playing.specs.Playing.{Pair, pair, Playing, playing}

abbrev pub pair_of : pairᵈ.Pair → Pair
pair_of p = pair p.turn p.clip

abbrev pub on_of : Result pairᵈ.Pair refusalᵈ.Refusal → Answer Pair
on_of = answer pair_of

abbrev pub playing_of : playingᵈ.Playing → Playing
playing_of p = playing p.turn p.clip p.since p.left

abbrev pub played_of : Result playingᵈ.Playing refusalᵈ.Refusal → Answer Playing
played_of = answer playing_of
