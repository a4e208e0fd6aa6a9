-- `start_keeps`: each way out decides one test of 22. Assumes nothing.
use native.Mathlib.Omega.{arith}
use mathlib.Core.Path.{◌≡◌, sym, ap, ◌∙◌}
use Prim.Native.Nat.{ℕ}
use lib.Dec.{ltb}
use Rattle.tables.specs.Layout.{second}
use Rattle.cue_file.specs.Format.{version1}
use Rattle.cue_file.specs.Read.{follows}
use Rattle.cue_reader.proofs.Laws.{follows_by, keeps_falls, keeps_late, keeps_in_time}
use Rattle.cue_reader.proofs.start_keeps.Goals as goal
use Rattle.cue_reader.proofs.start_keeps.Goals.{After-follows}

-- what the code weighed is the rule's first test
weighed : (c : After-follows) → follows version1 c.args.file.now c.args.clip ≡ c.follows.result
weighed c = sym (follows_by version1 _ _ _ _ c.requires.1 c.requires.2) ∙ sym c.follows.ensures

pub returns-then-not-follows : goal.returns-then-not-follows
returns-then-not-follows c =
    sym (keeps_falls version1 _ _ (weighed (goal.at.returns-then-not-follows c).After-follows ∙ c.if-not-follows.true))

pub returns-then-after-gt-LARGEST_START : goal.returns-then-after-gt-LARGEST_START
returns-then-after-gt-LARGEST_START c =
    sym (keeps_late version1 _ _ (weighed (goal.at.returns-then-after-gt-LARGEST_START c).After-follows ∙ c.if-not-follows.false) (omega (arith, c.if-after-gt-LARGEST_START.true, c.requires.1)))

pub returns : goal.returns
returns c =
    let n = ap (λ (x : ℕ). ltb x second) c.nanoseconds.ensures.0 in
    n ∙ sym (keeps_in_time version1 _ _ (weighed (goal.at.returns c).After-follows ∙ c.if-not-follows.false) (omega (arith, c.if-after-gt-LARGEST_START.false, c.requires.1)))
