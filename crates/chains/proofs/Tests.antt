-- A chain that goes on, names that make no pair, and the pair behind blanks. Assumes nothing.
use Prim.Native.Nat.{ℕ, ◌+◌}
use mathlib.Core.Path.{◌≡◌, refl, ◌∙◌}
use mathlib.Core.Bool.{true, ◌&&◌, false≢true}
use mathlib.Core.List.{List}
use mathlib.Core.Option.{Option, none, some}
use native.Mathlib.Omega.{arith}
use lib.Dec.{ltb, leb}
use borrow.Author.Tests.{leb-true}
use Rattle.text.specs.Nom.{ok, Span, span}
use Rattle.attributes.specs.Pairs.{QuotedOrUnquoted, pair, next_pair}
use Rattle.chains.specs.Inside.Kept.{Chain, chain, present, Forward}
use Rattle.text.specs.Nom.{fail, bytes, is_none_of, run_end, is_space}
use Rattle.text.proofs.Laws.{and_left, and_right}
use Rattle.attributes.specs.Pairs.{Pair, key_value_pair}
use Rattle.chains.specs.Inside.Kept.{begins_name, Fails, Silent}
use Rattle.chains.proofs.Leads.{chain_step}
use Rattle.chains.proofs.Pairs.{next_pair_lem, fails_inside}

-- a chain that is kept, one pair on
pub chain_on : (text : List ℕ) (c : Chain) (n : Span) (v : QuotedOrUnquoted) (k : ℕ) → present c.value ≡ true → next_pair text c.next ≡ ok (pair n v) k
    → Forward text c (chain n (some v) k c.end)
chain_on text c n v k h r = go c.value refl h
  where
    go : (x : Option QuotedOrUnquoted) → c.value ≡ x → present x ≡ true → Forward text c (chain n (some v) k c.end)
    go none e h' = absurd (false≢true h')
    go (some u) e h' = chain_step text c u n v k e r

-- a name that makes no pair, and all that begin within it
pub noted_true : (text : List ℕ) (at e : ℕ) → Fails text at → begins_name text at ≡ true → e ≡ run_end (is_none_of (bytes "=")) text at → Silent text (span (at + 1) e)
noted_true text at e f b q i s =
    let both = and_right (ltb 0 (at + 1)) (leb (at + 1) (i + 1) && leb i e) s in
    let lo = leb-true (at + 1) (i + 1) (and_left (leb (at + 1) (i + 1)) (leb i e) both) in
    let hi = leb-true i e (and_right (leb (at + 1) (i + 1)) (leb i e) both) in
    fails_inside text at i f b (omega arith) (rw (← q) hi)

-- ---- the pair that is there behind blanks
pub pair_behind : (text : List ℕ) (from at n : ℕ) (p : Pair) → at ≡ run_end is_space text from → key_value_pair text at ≡ ok p n → next_pair text from ≡ ok p n
pair_behind text from at n p q e = next_pair_lem text from ∙ rw (← q) e

pub none_behind : (text : List ℕ) (from at : ℕ) (q : at ≡ run_end is_space text from) (f : Fails text at) → next_pair text from ≡ fail f.why
none_behind text from at q f = next_pair_lem text from ∙ rw (← q) f.fails
