-- What an output holds: the bytes that wait, the writer behind them, and why a write failed. Assumes nothing.
use Rattle.std.specs.Prelude.{Option, List, ℕ, take}
use Rattle.std.specs.Io.KnownBytes.{append_known}
use Rattle.std.specs.declared.io.Error.{Error}
use Rattle.output.specs.declared.Output.{Output}

module _ {W : Type 0} (o : Output W) where
  -- the bytes that wait
  abbrev pub waits : List ℕ
  waits = take o.count o.buffer

  -- the writer
  abbrev pub behind : W
  behind = o.to.to

  -- why a write failed, where one did
  abbrev pub why : Option Error
  why = o.to.error

-- what the writer holds, where that is known, and behind it what waits
abbrev pub held : {W : Type 0} → (W → Option (List ℕ)) → Output W → Option (List ℕ)
held contents o = append_known (contents (behind o)) (waits o)
