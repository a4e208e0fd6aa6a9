-- What a buffer that holds bytes says of its place, and the number of eight bytes. Assumes nothing.
use Rattle.std.proofs.Common.{◌≡◌, ℕ, zero, suc, ◌+◌, ◌-◌, ◌≤◌, ◌<◌, Bool, true, false, not, ◌&&◌, leb, List, Option, None, Some, arith, refl, ap, ◌∙◌, take, drop, get_or}
use Rattle.std.specs.List.{slice_range}
use Rattle.std.specs.Int.{w64, from_le_bytes}
use Rattle.std.proofs.lemmas.List.{get_or-take, get_or-drop}
use mathlib.Core.Bool.{false≢true}
use borrow.Author.Tests.{leb-true}
use Rattle.input.specs.declared.Input.{Input}
use Rattle.input.specs.declared.Stop.{Stop}
use Rattle.input.specs.Held.{room, holds, happened}
use Rattle.input.specs.Numbers.{number_at}

module _ {R : Type 0} (n : ℕ) (i : Input R) where
  -- the input goes on, and they lie within what is to be taken
  pub held : holds n i ≡ true → (i.stop ≡ None) × (i.at + n ≤ i.end)
  unfolding holds
  held e = go i.stop (leb i.end room) (leb (i.at + n) i.end) (leb-true (i.at + n) i.end) e
    where
      go : (s : Option Stop) (b d : Bool) → (d ≡ true → i.at + n ≤ i.end) → (not (happened s) && (b && d)) ≡ true → (s ≡ None) × (i.at + n ≤ i.end)
      go None true d f e = (refl, f e)
      go None false d f e = absurd (false≢true e)
      go (Some stop) b d f e = absurd (false≢true e)

-- ---- the number of eight bytes, and of eight bytes of a buffer
pub eight_bytes : (b : List ℕ) → from_le_bytes w64 b ≡ number_at 8 b 0
unfolding number_at
eight_bytes b = omega arith

-- the same bytes are the same number
number_same : (n p q : ℕ) (xs b : List ℕ) → ((i : ℕ) → i < n → get_or xs (p + i) 0 ≡ get_or b (q + i) 0) → number_at n xs p ≡ number_at n b q
unfolding number_at
number_same zero p q xs b f = refl
number_same (suc n) p q xs b f =
    let first : get_or xs p 0 ≡ get_or b q 0 = ap (λ k. get_or xs k 0) (omega arith) ∙ f 0 (omega arith) ∙ ap (λ k. get_or b k 0) (omega arith) in
    let rest : number_at n xs (p + 1) ≡ number_at n b (q + 1) =
    number_same n (p + 1) (q + 1) xs b (λ i h. ap (λ k. get_or xs k 0) (omega arith) ∙ f (i + 1) (omega (arith, h)) ∙ ap (λ k. get_or b k 0) (omega arith)) in
    omega (arith, first, rest)

pub chunk : (b xs : List ℕ) (at end v : ℕ) → v ≡ number_at 8 xs 0 → xs ≡ take 8 (slice_range b at end) → at + 8 ≤ end → v ≡ number_at 8 b at
chunk b xs at end v e f h =
    e ∙ number_same 8 0 at xs b (λ i k.
    ap (λ ys. get_or ys (0 + i) 0) f ∙ get_or-take 8 (slice_range b at end) (0 + i) 0 (omega (arith, k)) ∙ get_or-take (end - at) (drop at b) (0 + i) 0 (omega (arith, k, h))
    ∙ get_or-drop at b (0 + i) 0 ∙ ap (λ j. get_or b j 0) (omega arith))
