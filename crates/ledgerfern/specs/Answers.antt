-- What the code's answer says, in the words of the rules. Assumes nothing.
use Rattle.std.specs.Prelude.{Option as Perhaps}
use Rattle.std.proofs.Math.Option.{Option}
use Rattle.text.specs.Answers.{perhaps}
use Rattle.assembly.specs.declared.head.Head as headᵈ
use Rattle.assembly.specs.Assembly.{Head}
use Rattle.assembly.specs.Answers.{head_seen}

abbrev pub head_res : Perhaps headᵈ.Head → Option Head
head_res = perhaps head_seen
