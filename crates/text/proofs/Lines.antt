-- Reading back a text that was written line by line, by `many0` of any rule, for any kinds of line. Assumes nothing.
use Prim.Native.Nat.{ℕ, ◌+◌}
use mathlib.Core.Path.{◌≡◌, refl, sym, ◌∙◌, ap}
use mathlib.Core.List.{List, [], ◌∷◌, ◌++◌, map as map_list, append_assoc, append-nil}
use native.Mathlib.Omega.{arith}
use native.Mathlib.Nat.{add-zero}
use lib.ListN.{length, drop, length-append}
use Rattle.text.specs.Why.{Why}
use Rattle.text.specs.Nom.{fail, ok, Parser}
use Rattle.text.specs.Many.{Many, many, items, stop, push, many0}
use Rattle.text.specs.Lines.{unlines, AllFit}
use Rattle.text.proofs.Many.{Falls, many_stop, many_step}
use Rattle.text.proofs.Ahead.{on}

-- items before those that are taken from here on
unfoldable pub pushes : {A : Type 0} → List A → Many A → Many A
pushes [] m = m
pushes (a ∷ xs) m = push a (pushes xs m)

pub pushes_last : {A : Type 0} (xs : List A) (n : ℕ) → pushes xs (many [] n) ≡ many xs n
unfolding pushes
pushes_last [] n = refl
pushes_last (a ∷ xs) n = rw (pushes_last xs n)

-- A user supplies the rule p and, of the lines:
-- - `line_bytes`, how a line is written, and `said`, what it says;
-- - `view`, what an item says in the same words, with no place in it (a part by its bytes: `shows`);
-- - `Fits l xs`, what the line l asks of itself and of what follows it;
-- - `reads`, a clause for each kind of line: where a line that fits is ahead, p takes it, no more and no less, and the item says what the line says;
-- - `falls`, that p takes something each time (`takes_falls`).
module _ {A L W : Type 0} (p : Parser A) (text : List ℕ) (lineBytes : L → List ℕ) (view : A → W) (said : L → W) where
  abbrev pub Reads : (L → List ℕ → Type 0) → Type 0
  Reads Fits =
      (l : L) (at : ℕ) (xs : List ℕ) → Fits l xs → drop at text ≡ lineBytes l ++ xs → (a : A) × (p text at ≡ ok a (at + length (lineBytes l))) × (view a ≡ said l)

  -- what `many0` gives from `at` on is these lines: what they say, and the place after them
  abbrev pub AllRead : List L → ℕ → Type 0
  AllRead ls at = (map_list view (items (many0 p text at)) ≡ map_list said ls) × (stop (many0 p text at) ≡ at + length (unlines lineBytes ls))

  module _ (falls : Falls p text) (Fits : L → List ℕ → Type 0) (reads : Reads Fits) where
    -- the lines are taken one by one, and what follows them is read from the place where it stands
    pub run_lines : (ls : List L) (at : ℕ) (xs : List ℕ) → AllFit lineBytes Fits ls xs → drop at text ≡ unlines lineBytes ls ++ xs
        → (taken : List A) × (many0 p text at ≡ pushes taken (many0 p text (at + length (unlines lineBytes ls)))) × (map_list view taken ≡ map_list said ls)
    unfolding unlines AllFit pushes
    run_lines [] at xs h d = ([], ap (many0 p text) (sym (add-zero at)), refl)
    run_lines (l ∷ ls) at xs h d =
        let rest = unlines lineBytes ls in
        let d' = d ∙ append_assoc (lineBytes l) rest xs in
        let t = reads l at (rest ++ xs) h.0 d' in
        let n = at + length (lineBytes l) in
        let u = run_lines ls n xs h.1 (on text at (lineBytes l) (rest ++ xs) d') in
        let z : n + length rest ≡ at + length (lineBytes l ++ rest) = omega (arith, length-append (lineBytes l) rest) in
        (t.0 ∷ u.0, many_step p text falls at n t.0 t.1 ∙ ap (push t.0) (u.1 ∙ ap (λ (m : ℕ). pushes u.0 (many0 p text m)) z), rw (t.2, u.2))

    -- the lines, and then what the rule does not take
    pub run_until : (ls : List L) (at : ℕ) (xs : List ℕ) (why : Why) → AllFit lineBytes Fits ls xs → drop at text ≡ unlines lineBytes ls ++ xs
        → p text (at + length (unlines lineBytes ls)) ≡ fail why → AllRead ls at
    run_until ls at xs why h d e =
        let t = run_lines ls at xs h d in
        let n = at + length (unlines lineBytes ls) in
        let z : many0 p text at ≡ many t.0 n = t.1 ∙ ap (pushes t.0) (many_stop p text falls n why e) ∙ pushes_last t.0 n in
        (rw z t.2, rw z)

    -- nothing but the lines, and a rule that fails at the text's end
    pub run_all : (ls : List L) (at : ℕ) (why : Why) → AllFit lineBytes Fits ls [] → drop at text ≡ unlines lineBytes ls → ((n : ℕ) → drop n text ≡ [] → p text n ≡ fail why)
        → AllRead ls at
    run_all ls at why h d ends =
        let d' = d ∙ sym (append-nil (unlines lineBytes ls)) in
        run_until ls at [] why h d' (ends (at + length (unlines lineBytes ls)) (on text at (unlines lineBytes ls) [] d'))
