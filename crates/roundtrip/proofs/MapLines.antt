-- The line of a map, where it is ahead: a step takes it, and says what it says. Assumes nothing.
use Prim.Native.Nat.{ℕ, ◌+◌, ◌<◌}
use mathlib.Core.Path.{◌≡◌, refl, sym, ◌∙◌, ap}
use mathlib.Core.List.{List, [], ◌∷◌, ◌++◌, append_assoc, append-nil}
use mathlib.Core.Option.{Option, none, some}
use native.Mathlib.Omega.{arith}
use lib.ListN.{length, drop, length-append}
use borrow.Author.Tests.{ne_eqb}
use Rattle.text.specs.Nom.{ok, Span, span, bytes, is_none_of, begins, is_multispace}
use Rattle.text.specs.Util.{ByteRange, range, byte_range_val}
use Rattle.text.proofs.Ahead.{Every, Stops, every_append, on, shows}
use Rattle.attributes.specs.ExtMap.{ext_map, extmap}
use Rattle.attributes.proofs.Ahead.{pair_bytes, uri_from, uri_to, range_to, map_uri_ahead, map_range_ahead}
use Rattle.digits.specs.Digits.{number_text}
use Rattle.digits.proofs.Number.{number_first}
use Rattle.tags.specs.Tags.{mapped, of_clip, took, literal, map_row}
use Rattle.playlist.specs.Lines.{map_line, range_bytes, map_range_bytes, line_bytes}
use Rattle.roundtrip.proofs.Said.{says_map, Some, NumbersFit, RangeFits}
use Rattle.roundtrip.proofs.Steps.{TakesLine, step_leaves, at_map}
use Rattle.roundtrip.proofs.Numbers.{number_every, range_back}

-- ---- a byte range as the value of a pair: no quote mark is in it
number_bare : (n : ℕ) → Every (is_none_of (bytes "\"")) (number_text n)
number_bare n = number_every (is_none_of (bytes "\"")) (λ x h. rw (ne_eqb 34 x (λ e. omega arith))) n

range_bare : (r : ByteRange) → Every (is_none_of (bytes "\"")) (range_bytes r)
unfolding Every
range_bare (range n none) = number_bare n
range_bare (range n (some o)) = every_append _ (number_text n) (bytes "@" ++ number_text o) (number_bare n) (refl, number_bare o)

range_some : (r : ByteRange) → 0 < length (range_bytes r)
range_some (range n none) = number_first n
range_some (range n (some o)) = omega (arith, length-append (number_text n) (bytes "@" ++ number_text o))

-- ---- the line without its LF
abbrev map_text : List ℕ → Option ByteRange → List ℕ
map_text u r = (literal map_row ++ bytes "URI=\"") ++ (u ++ (bytes "\"" ++ map_range_bytes r))

before_lf : (u : List ℕ) (r : Option ByteRange) → line_bytes (map_line u r) ≡ map_text u r ++ bytes "\n"
before_lf u r = simp append_assoc

module _ (text : List ℕ) (at : ℕ) (u : List ℕ) (r : Option ByteRange) (xs : List ℕ) (d : drop at text ≡ line_bytes (map_line u r) ++ xs) where
  ahead_map : drop at text ≡ literal map_row ++ pair_bytes (bytes "URI") u (map_range_bytes r ++ (bytes "\n" ++ xs))
  ahead_map = d ∙ simp append_assoc

  ahead_uri : drop (at + 11) text ≡ pair_bytes (bytes "URI") u (map_range_bytes r ++ (bytes "\n" ++ xs))
  ahead_uri = on text at (literal map_row) _ ahead_map

  -- a step, from what its list reads as
  map_step : Stops is_multispace xs → (n : ℕ) (list : Span) → n ≡ at + length (map_text u r) → extmap text (at + 11) ≡ ok (ext_map (span (uri_from (at + 11)) (uri_to (at + 11) u)) r list) n
      → TakesLine text at (map_line u r)
  map_step s n list z e =
      let m = ext_map (span (uri_from (at + 11)) (uri_to (at + 11) u)) r list in
      let k = at_map text at _ m (at + length (map_text u r)) ahead_map (rw (← z) e) in
      let w = step_leaves text at (of_clip (mapped m)) (map_text u r) xs k s (d ∙ ap (λ (b : List ℕ). b ++ xs) (before_lf u r)) in
      let c = ap (λ (b : List ℕ). ok (took at (of_clip (mapped m))) (at + length b)) (sym (before_lf u r)) in
      let h = on text (at + 11 + 3 + 1) (bytes "\"") _ (on text (at + 11 + 3) (bytes "=") _ (on text (at + 11) (bytes "URI") _ ahead_uri)) in
      (took at (of_clip (mapped m)), w ∙ c, ap (λ (b : List ℕ). says_map b r) (shows text (uri_from (at + 11)) u _ h))

-- ---- a map, with a range and without
module _ (text : List ℕ) (at : ℕ) (xs : List ℕ) (s : Stops is_multispace xs) where
  with_range : (y : ℕ) (val : List ℕ) → Every (is_none_of (bytes "\"")) (y ∷ val) → (r : ByteRange) → NumbersFit r → (b : List ℕ) → range_bytes r ≡ b → 0 < length b
      → drop at text ≡ line_bytes (map_line (y ∷ val) (some r)) ++ xs → TakesLine text at (map_line (y ∷ val) (some r))
  unfolding begins
  with_range y val ev r h [] q k d = absurd (omega arith)
  with_range y val ev r h (z ∷ rng) q k d =
      let u = y ∷ val in
      let n = range_to (at + 11) u (z ∷ rng) + 1 in
      let d1 : drop (at + 11) text ≡ pair_bytes (bytes "URI") u (bytes "," ++ pair_bytes (bytes "BYTERANGE") (z ∷ rng) (bytes "\n" ++ xs))
      = ahead_uri text at u (some r) xs d ∙ rw (append_assoc (range_bytes r) (bytes "\"") (bytes "\n" ++ xs), q) in
      let er : Every (is_none_of (bytes "\"")) (z ∷ rng) = rw (← q) (range_bare r) in
      let v = ap (λ (b : List ℕ). byte_range_val b 0) (sym q) ∙ range_back (range_bytes r) 0 r h [] tt refl (sym (append-nil (range_bytes r))) in
      let c : n ≡ at + length (map_text u (some r)) = omega (arith, length-append val (bytes "\"" ++ map_range_bytes (some r)), length-append (range_bytes r) (bytes "\""), ap length q) in
      map_step text at u (some r) xs d s n (span (at + 11) n) c (map_range_ahead text (at + 11) y val ev z rng (bytes "\n" ++ xs) er refl d1 r _ v)

  pub takes_map : (u : List ℕ) (r : Option ByteRange) → Some u → Every (is_none_of (bytes "\"")) u → RangeFits r → drop at text ≡ line_bytes (map_line u r) ++ xs → TakesLine text at (map_line u r)
  takes_map [] r h ev k d = elim h [ ]
  takes_map (y ∷ val) none h ev k d =
      let u = y ∷ val in
      let n = uri_to (at + 11) u + 1 in
      let c : n ≡ at + length (map_text u none) = omega (arith, length-append val (bytes "\"")) in
      map_step text at u none xs d s n (span (at + 11) n) c (map_uri_ahead text (at + 11) y val ev (bytes "\n" ++ xs) refl (ahead_uri text at u none xs d))
  takes_map (y ∷ val) (some r) h ev k d = with_range y val ev r k (range_bytes r) refl (range_some r) d
