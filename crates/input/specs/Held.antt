-- What is taken from a buffer that holds it, and how a stop holds. Of what a read brings no contract can speak. Assumes nothing.
use Rattle.std.specs.Prelude.{ℕ, ◌+◌, ◌≡◌, Bool, true, false, cond, not, ◌&&◌, leb, Option, None, Some, Result, Ok, Err, IfSome, MatchResult}
use Rattle.input.specs.declared.Stop.{Stop}
use Rattle.input.specs.declared.Input.{Input}
pub use Rattle.input.specs.Numbers.{number_at}

abbrev pub room : ℕ
room = 65536

-- why it stopped is there
abbrev pub happened : Option Stop → Bool
happened None = false
happened (Some stop) = true

-- the input goes on, and so many bytes of the buffer are still to be taken
unfoldable pub holds : {R : Type 0} → ℕ → Input R → Bool
holds n input = not (happened input.stop) && (leb input.end room && leb (input.at + n) input.end)

-- where the part from `at` to `end` lies that is still to be taken: none where the buffer has no such part
abbrev pub part_left : ℕ → ℕ → ℕ × ℕ
part_left at end = cond (leb at end && leb end room) (at, end) (0, 0)

-- they are taken: their number, the input after them, and the reader and the buffer as they were
pub record TakenFrom {R : Type 0} (n : ℕ) (input₀ input : Input R) (answer : Result ℕ Stop) : Type 0 where
  pub value : answer ≡ Ok (number_at n input₀.buffer input₀.at)
  pub at : input.at ≡ input₀.at + n
  pub end : input.end ≡ input₀.end
  pub stop : input.stop ≡ input₀.stop
  pub unchanged : input.buffer ≡ input₀.buffer
  pub unread : input.from ≡ input₀.from

-- an input that stopped answers its stop, and stays as it is
abbrev pub Stands : {R A : Type 0} → Input R → Input R → Result A Stop → Type 0
Stands input₀ input answer = IfSome input₀.stop (λ stop. (answer ≡ Err stop) × (input ≡ input₀))

-- the input stopped where the answer is a stop, and only there
abbrev pub Stops : {R A : Type 0} → Input R → Result A Stop → Type 0
Stops input answer = MatchResult answer (λ _. input.stop ≡ None) (λ stop. input.stop ≡ Some stop)
