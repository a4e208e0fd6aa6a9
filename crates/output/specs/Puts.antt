-- What a call says that puts bytes: of the bytes that wait, and of failed writes. Assumes nothing.
use Rattle.std.specs.Prelude.{◌≡◌, ◌≢◌, Option, None, List, [], ℕ, ◌+◌, ◌≤◌, length}
use Rattle.std.specs.Io.KnownBytes.{Appends}
use Rattle.output.specs.declared.Output.{Output}
use Rattle.output.specs.Waiting.{room, with_bytes}
use Rattle.output.specs.Held.{waits, why, behind, held}

-- the output before and after
pub record Puts {W : Type 0} (s r : Output W) (bytes : List ℕ) : Type 0 where
  -- each byte that waits
  pub waiting : waits r ≡ with_bytes (waits s) bytes
  -- a failure stays, and why
  pub stays : why s ≢ None → why r ≡ why s
  -- and none is made up: where the bytes fit beside those that wait, they wait there, and nothing was written
  pub room_left : length (waits s) + length bytes ≤ room → (length (waits r) ≡ length (waits s) + length bytes) × (why r ≡ why s)

-- the same of a call that puts the first bytes
pub record PutsFirst {W : Type 0} (r : Output W) (bytes : List ℕ) : Type 0 where
  pub waiting : waits r ≡ with_bytes [] bytes
  pub room_left : length bytes ≤ room → (length (waits r) ≡ length bytes) × (why r ≡ None)

-- what the call says of the writer, where it is known what that held before
pub record Sends {W : Type 0} (contents : W → Option (List ℕ)) (s r : Output W) (bytes : List ℕ) : Type 0 where
  -- unless a write failed, what it holds and, behind that, what waits grow by the bytes
  pub grows : why r ≡ None → Appends (held contents s) (held contents r) bytes

-- the same of a call that puts the first bytes
pub record SendsFirst {W : Type 0} (contents : W → Option (List ℕ)) (s r : Output W) (bytes : List ℕ) : Type 0 where
  pub grows : why r ≡ None → Appends (contents (behind s)) (held contents r) bytes
