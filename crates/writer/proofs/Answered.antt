-- What `write_to` leaves in the output where `may_write` refuses nothing: a text that has room fills its front. Assumes nothing.
use mathlib.Core.Path.{◌≡◌, refl, ap, ◌∙◌}
use mathlib.Core.Bool.{Bool, true, false}
use mathlib.Core.List.{List}
use Prim.Native.Nat.{ℕ, ◌+◌, ◌≤◌}
use native.Mathlib.Omega.{arith}
use lib.Dec.{leb}
use lib.ListN.{length}
use borrow.Author.Tests.{leb-true}
use Rattle.tables.specs.Refusal.{Refusal, Answer, refused, given, or_refuse, text_too_long, broken_table, output_short}
use Rattle.tables.proofs.Sets.{sets_over}
use Rattle.tables.specs.Layout.{text_limit}
use Rattle.assembly.specs.Assembly.{Head}
use Rattle.rule9.specs.Rule9.{keeps_rule}
use Rattle.put.specs.Put.{Puts}
use Rattle.put.proofs.Putting.{fit_place, fit_bytes}
use Rattle.measure.specs.Leave.{refusals}
use Rattle.playlist.specs.Calls.{written_text, write_to, WrittenAs}

-- a test that does not refuse has passed
passed : {A : Type 0} (t : Bool) (ρ : Refusal) (p : ℕ) (rest : Answer A) {a : A} → or_refuse t ρ p rest ≡ given a → (t ≡ true) × (rest ≡ given a)
passed true ρ p rest e = (refl, e)
passed false ρ p rest e = let z : ◌≡◌ {A = ℕ} 0 1 = cc in absurd (omega arith)

module _ {R : Type 0} (view : R → Answer ℕ) (text : List ℕ) (h : Head) (clips : List ℕ) (n : ℕ) (tags : List ℕ) (m : ℕ) (out : List ℕ) (r : R) where
  module _ (q : given tt ≡ refusals (write_to text h clips n tags m (length out))) where
    -- it has room
    given_room : (v : ℕ) → write_to text h clips n tags m (length out) ≡ given v → (given (length (written_text text h clips n tags m)) ≡ given v) × (length (written_text text h clips n tags m) ≤ length out)
    unfolding write_to
    given_room v e =
        let a = passed (leb (length text) text_limit) text_too_long 0 _ e in
        let b = passed (keeps_rule text h clips n tags m) broken_table 0 _ a.1 in
        let c = passed (leb (length (written_text text h clips n tags m)) (length out)) output_short 0 _ b.1 in
        (c.1, leb-true (length (written_text text h clips n tags m)) (length out) c.0)

    room : (given (length (written_text text h clips n tags m)) ≡ write_to text h clips n tags m (length out)) × (length (written_text text h clips n tags m) ≤ length out)
    room = by_answer (write_to text h clips n tags m (length out)) refl q
      where
        by_answer : (a : Answer ℕ) → write_to text h clips n tags m (length out) ≡ a → given tt ≡ refusals a
            → (given (length (written_text text h clips n tags m)) ≡ a) × (length (written_text text h clips n tags m) ≤ length out)
        by_answer (refused ρ p) e z = let y : ◌≡◌ {A = ℕ} 0 1 = cc in absurd (omega arith)
        by_answer (given v) e z = given_room v e

    pub writes : {after : List ℕ} {at : ℕ} → Puts out 0 (written_text text h clips n tags m) after at → view r ≡ given at → WrittenAs text h clips n tags m view out after r
    writes p e =
        let w = written_text text h clips n tags m in
        let fits : 0 + length w ≤ length out = omega (arith, room) in
        record { answered = e ∙ ap given (omega (arith, fit_place p fits)) ∙ room.0; out_after = rw (← room.0) (fit_bytes p fits ∙ sets_over out w room.1) }
