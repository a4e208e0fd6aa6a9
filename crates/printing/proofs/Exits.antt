-- What is said at a program's exits: a refusal, bytes, and nothing where the input failed to come. Assumes nothing.
use mathlib.Core.Path.{◌≡◌, refl, ap, subst, ◌∙◌}
use mathlib.Core.List.{List, []}
use Prim.Native.Nat.{ℕ}
use lib.ListN.{length, take}
use Rattle.tables.specs.Refusal.{Refusal, Answer, refused, given, number_of}
use Rattle.std.specs.Prelude.{Option, None, Some, IfSome, ◌≢◌}
use Rattle.std.specs.declared.io.Error.{Error}
use Rattle.std.specs.Io.KnownBytes.{Appends}
use Rattle.output.specs.declared.Output.{Output}
use Rattle.output.specs.Held.{waits, why, behind, held}
use Rattle.output.specs.Puts.{Puts, Sends}
use Rattle.output.proofs.Laws.{puts_as, sends_as, sends_none, sent}
use Rattle.printing.specs.declared.streams.Streams.{Streams}
use Rattle.printing.specs.Lines.{refused_line}
use Rattle.printing.specs.Said.{SaidAs, SendsAs, Tells}

module _ {O E : Type 0} {s r : Streams O E} where
  pub said_refused : (w : Refusal) (number p : ℕ) {answer : Answer (List ℕ)} → number ≡ number_of w → answer ≡ refused w p
      → r.out ≡ s.out → Puts s.err r.err (refused_line number p) → SaidAs s r answer
  said_refused w number p n e k h = record { one = rw e (k, puts_as (ap (λ (m : ℕ). refused_line m p) n) h) }

  pub said_given : (bytes : List ℕ) {answer : Answer (List ℕ)} → answer ≡ given bytes → Puts s.out r.out bytes → r.err ≡ s.err → SaidAs s r answer
  said_given bytes e h k = record { one = rw e (h, k) }

  -- ---- what goes to which of the two writers
  module _ (on_out : O → Option (List ℕ)) (on_err : E → Option (List ℕ)) where
    pub sends_refused : (w : Refusal) (number p : ℕ) {answer : Answer (List ℕ)} → number ≡ number_of w → answer ≡ refused w p
        → r.out ≡ s.out → Sends on_err s.err r.err (refused_line number p) → SendsAs s r on_out on_err answer
    sends_refused w number p n e k h = record { one = rw e (k, sends_as on_err (ap (λ (m : ℕ). refused_line m p) n) h) }

    pub sends_given : (bytes : List ℕ) {answer : Answer (List ℕ)} → answer ≡ given bytes → Sends on_out s.out r.out bytes → r.err ≡ s.err → SendsAs s r on_out on_err answer
    sends_given bytes e h k = record { one = rw e (h, k) }

-- ---- and a flush that went
pub not_failed : (error : Option Error) (P : Type 0) → (error ≢ None → P) → ¬ P → error ≡ None
not_failed None P f n = refl
not_failed (Some e) P f n = absurd (n (f (λ h. cc h)))

-- what is written is what was put: an output, what was put into it, and the writer after the flush
module _ {W : Type 0} (contents : W → Option (List ℕ)) (o p q : Output W) (went : why p ≡ None) (wrote : Appends (contents (behind p)) (contents (behind q)) (waits p)) where
  pub told_put : (bytes : List ℕ) → Sends contents o p bytes → Appends (held contents o) (contents (behind q)) bytes
  told_put bytes h = sent contents (behind q) h went wrote

  pub told_none : p ≡ o → Appends (held contents o) (contents (behind q)) []
  told_none e = let P : Output W → Type 0 = λ x. Sends contents x p [] in told_put [] (subst P e (sends_none contents p))

module _ {O E : Type 0} (on_out : O → Option (List ℕ)) (on_err : E → Option (List ℕ)) (s r t : Streams O E) where
  pub told : (answer : Answer (List ℕ)) → SendsAs s r on_out on_err answer
      → why r.out ≡ None → Appends (on_out (behind r.out)) (on_out (behind t.out)) (waits r.out)
      → why r.err ≡ None → Appends (on_err (behind r.err)) (on_err (behind t.err)) (waits r.err)
      → Tells (held on_out s.out) (on_out (behind t.out)) (held on_err s.err) (on_err (behind t.err)) answer
  told (refused w p) goes n a m b = record {
    on_out = told_none on_out s.out r.out t.out n a goes.one.0;
    on_err = told_put on_err s.err r.err t.err m b _ goes.one.1;
  }
  told (given bytes) goes n a m b = record {
    on_out = told_put on_out s.out r.out t.out n a _ goes.one.0;
    on_err = told_none on_err s.err r.err t.err m b goes.one.1;
  }

-- ---- what came of a reader that is known
pub if_some : (o : Option (List ℕ)) (P Q : List ℕ → Type 0) → ((x : List ℕ) → P x → Q x) → IfSome o P → IfSome o Q
if_some None P Q f p = tt
if_some (Some x) P Q f p = f x p

-- and where what came, a front of it, has the answer of all that the reader had, that is told
module _ {O E : Type 0} (on_out : O → Option (List ℕ)) (on_err : E → Option (List ℕ)) (s r t : Streams O E) (answer : List ℕ → Answer (List ℕ)) (room : ℕ) where
  pub told_of : ((bytes : List ℕ) → answer (take room bytes) ≡ answer bytes) → (remaining : Option (List ℕ)) (text : List ℕ) (count : ℕ) → length text ≡ room
      → IfSome remaining (λ bytes. take count text ≡ take (length text) bytes) → SendsAs s r on_out on_err (answer (take count text))
      → why r.out ≡ None → Appends (on_out (behind r.out)) (on_out (behind t.out)) (waits r.out)
      → why r.err ≡ None → Appends (on_err (behind r.err)) (on_err (behind t.err)) (waits r.err)
      → IfSome remaining (λ bytes. Tells (held on_out s.out) (on_out (behind t.out)) (held on_err s.err) (on_err (behind t.err)) (answer bytes))
  told_of front remaining text count long came goes n a m b =
      let known : List ℕ → Type 0 = λ bytes. take count text ≡ take (length text) bytes in
      let all : List ℕ → Type 0 = λ bytes. Tells (held on_out s.out) (on_out (behind t.out)) (held on_err s.err) (on_err (behind t.err)) (answer bytes) in
      if_some remaining known all
      (λ (bytes : List ℕ) (e : take count text ≡ take (length text) bytes). rw (ap answer (rw long at e) ∙ front bytes) at (told on_out on_err s r t (answer (take count text)) goes n a m b))
      came
