-- `admit`: each test against the rule's, in the rule's order. Assumes nothing.
use mathlib.Core.Path.{◌≡◌, sym, ◌∙◌}
use borrow.Author.Tests.{le-leb, lt-leb, eq-eqb, ne_eqb}
use Rattle.verdict.specs.Calls.{header, admitted}
use Rattle.text.specs.Nom.{tagged}
use Rattle.tables.specs.Refusal.{given, or_refuse, no_header}
use Rattle.verdict.proofs.admit.Goals as goal
use Rattle.verdict.proofs.admit.Goals.{Else-end-text}

pub returns-then-text-gt-TEXT_LIMIT : goal.returns-then-text-gt-TEXT_LIMIT
unfolding admitted
returns-then-text-gt-TEXT_LIMIT c = rw (c.from.ensures, lt-leb _ _ c.if-text-gt-TEXT_LIMIT.true)

pub returns-then-end-text : goal.returns-then-end-text
unfolding admitted
returns-then-end-text c = rw (le-leb _ _ c.if-text-gt-TEXT_LIMIT.false, ← c.utf8_end-end.ensures, ne_eqb _ _ c.if-end-text.true)

-- the text is short enough, and UTF-8
asks-header : (c : Else-end-text) → let text = c.args.text.now in admitted text ≡ or_refuse (tagged header text 0) no_header 0 (given tt)
unfolding admitted
asks-header c = rw (le-leb _ _ c.if-text-gt-TEXT_LIMIT.false, ← c.utf8_end-end.ensures, eq-eqb _ _ c.if-end-text.false)

pub returns : goal.returns
returns c = rw (asks-header (goal.at.returns c).Else-end-text, sym c.starts_with.ensures ∙ c.if-not-starts_with.false)

pub returns-then-not-starts_with : goal.returns-then-not-starts_with
returns-then-not-starts_with c = rw (c.from-then-not-starts_with.ensures, asks-header (goal.at.returns-then-not-starts_with c).Else-end-text, sym c.starts_with.ensures ∙ c.if-not-starts_with.true)
