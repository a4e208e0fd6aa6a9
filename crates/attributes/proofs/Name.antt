-- A name runs to the first `=`. Where there is one, the rule's test for it holds, and what is left to read is the value. Assumes nothing.
use Prim.Native.Nat.{ℕ, suc, ◌+◌, ◌<◌}
use mathlib.Core.Path.{◌≡◌, refl, sym, ◌∙◌, ap}
use mathlib.Core.Bool.{Bool, true, false, not, cond, ◌||◌}
use mathlib.Core.List.{List, [], ◌∷◌}
use native.Mathlib.Omega.{arith}
use lib.Dec.{eqb}
use lib.ListN.{length, drop, get_or, length-drop}
use lib.Seq.{get_or-drop}
use borrow.Author.Tests.{lt-ltb, eq-eqb, eqb-true}
use Rattle.text.specs.Nom.{ok, span, bytes, is_one_of, is_none_of, run, run_end, tagged, after_tag, bind, alt}
use Rattle.text.proofs.Laws.{tagged_byte}
use Rattle.attributes.specs.Pairs.{pair, quoted, unquoted, key_value_pair}

run_ended : (p : ℕ → Bool) (s : List ℕ) → run p s < length s → p (get_or s (run p s) 0) ≡ false
unfolding run
run_ended p [] h = absurd (omega arith)
run_ended p (x ∷ s) h = go (p x) refl (run_ended p s) h
  where
    go : (b : Bool) → p x ≡ b → (run p s < length s → p (get_or s (run p s) 0) ≡ false) → cond b (suc (run p s)) 0 < length (x ∷ s) → p (get_or (x ∷ s) (cond b (suc (run p s)) 0) 0) ≡ false
    go true e ih h = ih (omega arith)
    go false e ih h = e

-- where a run of other bytes ends within the text, the byte that ends it is there
until_there : (c : ℕ) (text : List ℕ) (at e : ℕ) → e ≡ run_end (is_none_of (c ∷ [])) text at → e < length text → tagged (c ∷ []) text e ≡ true
unfolding run_end
until_there c text at e q h =
    let s = drop at text in
    let f : is_none_of (c ∷ []) (get_or s (run (is_none_of (c ∷ [])) s) 0) ≡ false = run_ended (is_none_of (c ∷ [])) s (omega (arith, length-drop at text)) in
    let b : get_or s (run (is_none_of (c ∷ [])) s) 0 ≡ get_or text e 0 = get_or-drop at text _ 0 ∙ ap (λ (n : ℕ). get_or text n 0) (sym q) in
    tagged_byte c text e h ∙ eq-eqb (get_or text e 0) c (sym (eqb-true c (get_or text e 0) (found (eqb c (get_or text e 0)) (rw b at f))))
  where
    found : (b : Bool) → not (b || false) ≡ false → b ≡ true
    found true e = refl
    found false e = sym e

pub pair_named : (text : List ℕ) (at e : ℕ) → at < length text → is_one_of (bytes "\r\n") (get_or text at 0) ≡ false → e ≡ run_end (is_none_of (bytes "=")) text at → e < length text
    → key_value_pair text at ≡ bind (alt quoted unquoted text (e + 1)) (λ right n. ok (pair (span at e) right) (after_tag (bytes ",") text n))
unfolding key_value_pair
pair_named text at e h o q l = rw (lt-ltb at (length text) h, o, ← q, lt-ltb e (length text) l, until_there 61 text at e q l)
