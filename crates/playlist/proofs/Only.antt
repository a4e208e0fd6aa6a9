-- No second result fits the writer's promise: its answer, and each byte of the output. Assumes nothing.
use Prim.Native.Nat.{ℕ}
use mathlib.Core.Path.{◌≡◌, refl, sym, ◌∙◌}
use mathlib.Core.List.{List}
use Rattle.std.specs.Prelude.{Result}
use Rattle.tables.specs.declared.Refusal as refusalᵈ
use Rattle.tables.proofs.Refusals.{answer_only}
use Rattle.assembly.specs.Assembly.{Head}
use Rattle.playlist.specs.Answers.{write_answer}
use Rattle.playlist.specs.Calls.{WrittenAs}

-- at the same text, head, tables and counts, and the same output
module _ {text : List ℕ} {h : Head} {clips : List ℕ} {n : ℕ} {tags : List ℕ} {m : ℕ} {out₀ out out' : List ℕ} {r r' : Result ℕ refusalᵈ.Refusal}
    (p : WrittenAs text h clips n tags m write_answer out₀ out r) (q : WrittenAs text h clips n tags m write_answer out₀ out' r') where
  pub written_once : r ≡ r'
  written_once = answer_only (λ n. n) (λ n. n) (λ n. refl) _ r r' p.answered q.answered

  pub out_once : out ≡ out'
  out_once = p.out_after ∙ sym q.out_after
