-- The end of a line: what `opt(line_ending)` takes, by what stands there. Assumes nothing.
use mathlib.Core.Path.{◌≡◌, refl}
use mathlib.Core.Bool.{Bool, true, false, cond}
use mathlib.Core.List.{List, []}
use mathlib.Core.Option.{some}
use Prim.Native.Nat.{ℕ, ◌+◌}
use native.Mathlib.Omega.{arith}
use Rattle.text.specs.Nom.{ok, bytes, tag, tagged, after_tag, opt, alt, bind}
use Rattle.text.proofs.Laws.{tagged_first, tagged_longer}

module _ (text : List ℕ) (at : ℕ) where
  -- CR LF
  pub ending_two : tagged (bytes "\r\n") text at ≡ true → opt (alt (tag (bytes "\n")) (tag (bytes "\r\n"))) text at ≡ ok (some tt) (at + 2)
  ending_two e = rw (tagged_first 13 10 (bytes "\n") [] text at (λ q. omega arith) e, e)

  -- no CR: LF, or nothing
  pub ending_one : {A : Type 0} (a : A) → tagged (bytes "\r") text at ≡ false
      → bind (opt (alt (tag (bytes "\n")) (tag (bytes "\r\n"))) text at) (λ _ n. ok a n) ≡ ok a (after_tag (bytes "\n") text at)
  unfolding after_tag
  ending_one a e = go (tagged (bytes "\n") text at) refl
    where
      go : (b : Bool) → tagged (bytes "\n") text at ≡ b → bind (opt (alt (tag (bytes "\n")) (tag (bytes "\r\n"))) text at) (λ _ n. ok a n) ≡ ok a (cond b (at + 1) at)
      go true q = rw q
      go false q = rw (q, tagged_longer (bytes "\r") (bytes "\n") text at e)
