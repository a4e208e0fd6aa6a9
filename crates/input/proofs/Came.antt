-- Reads one behind the other, from the front of a text on: what they took of the reader is what stands at the text's front. Assumes nothing.
use Rattle.std.proofs.Common.{◌≡◌, ℕ, ◌+◌, ◌≤◌, List, ◌++◌, arith, length, take, sym, ap, ◌∙◌, length-take-le, take_all}
use Rattle.std.specs.Prelude.{Option, None, Some, IfSome}
use Rattle.std.specs.Io.KnownBytes.{Consumes, IsAtEnd}
use Rattle.std.proofs.KnownBytes.{Consumes-trans}
use mathlib.Core.List.{append-nil}
use borrow.Rule.Slice.PartMut.{put_mid, post_of}
use lib.Seq.{take-append-add, take-append-le, take-append_seam}

-- a read into the text from `a` on: k places, of which n are filled
module _ (a k n : ℕ) (text part : List ℕ) (h : a ≤ length text) (w : n ≤ length part) where
  front_more : take (a + n) (put_mid a k text part) ≡ take a text ++ take n part
  front_more =
      let e : take (length (take a text) + n) (put_mid a k text part) ≡ take a text ++ take n (part ++ post_of a k text) = take-append-add (take a text) (part ++ post_of a k text) n in
      rw (length-take-le a text h) at (rw (take-append-le n part (post_of a k text) w) at e)

  pub consumes_more : (r₀ r₁ r₂ : Option (List ℕ)) → Consumes r₀ r₁ (take a text) → Consumes r₁ r₂ (take n part) → Consumes r₀ r₂ (take (a + n) (put_mid a k text part))
  consumes_more r₀ r₁ r₂ p q = rw front_more (Consumes-trans r₀ r₁ r₂ (take a text) (take n part) p q)

-- ---- what came: as much as the text holds, or all
pub came_full : (r₀ r : Option (List ℕ)) (n : ℕ) (text : List ℕ) → length text ≤ n → Consumes r₀ r (take n text) → IfSome r₀ (λ xs. take n text ≡ take (length text) xs)
came_full None r n text h p = tt
came_full (Some a) None n text h p = absurd p
came_full (Some a) (Some b) n text h p =
    let whole = take_all n text h in
    rw whole (sym (ap (take (length text)) (rw whole at p) ∙ take-append_seam text b))

pub came_whole : (r₀ r : Option (List ℕ)) (n : ℕ) (text : List ℕ) → n ≤ length text → Consumes r₀ r (take n text) → IsAtEnd r → IfSome r₀ (λ xs. take n text ≡ take (length text) xs)
came_whole None r n text h p q = tt
came_whole (Some a) None n text h p q = absurd p
came_whole (Some a) (Some b) n text h p q =
    let whole : a ≡ take n text = p ∙ (ap (λ (zs : List ℕ). take n text ++ zs) q ∙ append-nil (take n text)) in
    let short : length a ≤ length text = omega (arith, ap length whole, length-take-le n text h) in
    sym whole ∙ sym (take_all (length text) a short)

-- a read that brings nothing ends it
module _ (a k n : ℕ) (text part : List ℕ) (h : a ≤ length text) (w : n ≤ length part) (r₀ r₁ r₂ : Option (List ℕ)) where
  pub came_ended : n ≡ 0 → a ≤ length (put_mid a k text part) → Consumes r₀ r₁ (take a text) → Consumes r₁ r₂ (take n part) → IsAtEnd r₂
      → IfSome r₀ (λ xs. take a (put_mid a k text part) ≡ take (length (put_mid a k text part)) xs)
  came_ended none fits p q end =
      let same : a + n ≡ a = omega arith in
      let took : Consumes r₀ r₂ (take (a + n) (put_mid a k text part)) = consumes_more a k n text part h w r₀ r₁ r₂ p q in
      came_whole r₀ r₂ a (put_mid a k text part) fits (rw same at took) end
