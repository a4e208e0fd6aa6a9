-- `scan::starts_with`: where the tag would go past the text's end, whether it has bytes decides; else `same_bytes`. Assumes nothing.
use native.Mathlib.Omega.{arith}
use mathlib.Core.Path.{sym, ◌∙◌}
use borrow.Author.Tests.{ne_eqb}
use lib.ListN.{length}
use Rattle.text.proofs.Laws.{tagged_past}
use Rattle.scan.proofs.starts_with.Goals as goal

pub returns-then-text-tag : goal.returns-then-text-tag
returns-then-text-tag c =
    let a = c.args in
    sym (tagged_past a.tag.now a.text.now a.at (omega arith) ∙ ne_eqb (length a.tag.now) 0 (λ e. omega arith))

pub returns-then-text-tag-2 : goal.returns-then-text-tag-2
returns-then-text-tag-2 c = sym (tagged_past _ _ _ (omega arith))

pub returns : goal.returns
returns c = c.same_bytes.ensures
