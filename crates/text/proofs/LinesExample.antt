-- The laws of Takes, Local, Ahead and Lines at work, the smallest case: a text of unknown tags without rest and of comments is read back line by line.
-- Assumes nothing.
use Prim.Native.Nat.{ℕ, ◌+◌, ◌-◌}
use mathlib.Core.Path.{◌≡◌, refl, ◌∙◌, ap}
use mathlib.Core.List.{List, [], ◌∷◌, ◌++◌, append_assoc}
use mathlib.Core.Option.{Option, none, some}
use native.Mathlib.Omega.{arith}
use lib.ListN.{length, drop, take, length-append}
use borrow.Author.Tests.{lt-ltb}
use Rattle.text.specs.Why.{other_text}
use Rattle.text.specs.Nom.{fail, Parser, Span, span, bytes, is_none_of, begins, tagged, alt, map}
use Rattle.text.specs.BasicTags.{ExtTag, ext, ext_tag, comment_tag}
use Rattle.text.specs.Lines.{unlines, AllFit}
use Rattle.text.proofs.Takes.{Takes, takes_alt, takes_map, takes_less, takes_ext, takes_comment, takes_falls}
use Rattle.text.proofs.Local.{ext_local, mv_ext}
use Rattle.text.proofs.Ahead.{Every, on, in_text, tagged_ahead, shows, fails_ahead, ext_bare_ahead, comment_ahead}
use Rattle.text.proofs.Lines.{Reads, AllRead, run_all}

-- what is read
data Item : Type 0 where
  unknown : ExtTag → Item
  comment : Option Span → Item

item : Parser Item
item = alt (map unknown ext_tag) (map comment comment_tag)

-- what is written: each part has a first byte
data Line : Type 0 where
  tag_line : ℕ → List ℕ → Line
  note_line : ℕ → List ℕ → Line

abbrev line_bytes : Line → List ℕ
line_bytes (tag_line x b) = bytes "#EXT-" ++ ((x ∷ b) ++ bytes "\n")
line_bytes (note_line x b) = bytes "#" ++ ((x ∷ b) ++ bytes "\n")

-- the bytes stay within their line, and a comment does not read as a tag
abbrev Fits : Line → List ℕ → Type 0
Fits (tag_line x b) xs = Every (is_none_of (bytes "\r\n:")) (x ∷ b)
Fits (note_line x b) xs = Every (is_none_of (bytes "\r\n")) (x ∷ b) × (ext_tag (line_bytes (note_line x b) ++ xs) 0 ≡ fail other_text)

-- what both say
data Said : Type 0 where
  named : List ℕ → Said
  noted : List ℕ → Said

abbrev said : Line → Said
said (tag_line x b) = named (x ∷ b)
said (note_line x b) = noted (x ∷ b)

takes_item : Takes 2 item
unfolding item
takes_item = takes_alt 2 _ _ (takes_map 2 unknown ext_tag (takes_less 2 7 (omega arith) ext_tag takes_ext)) (takes_map 2 comment comment_tag takes_comment)

module _ (text : List ℕ) where
  abbrev view : Item → Said
  view (unknown (ext (span s e) rest)) = named (take (e - s) (drop s text))
  view (comment none) = noted []
  view (comment (some (span s e))) = noted (take (e - s) (drop s text))

  reads : Reads item text line_bytes view said Fits
  unfolding item
  reads (tag_line x b) at xs h d =
      let d0 : drop at text ≡ bytes "#EXT-" ++ ((x ∷ b) ++ (bytes "\n" ++ xs)) = d ∙ simp append_assoc in
      let z : at + 5 + length (x ∷ b) + 1 ≡ at + length (line_bytes (tag_line x b)) = omega (arith, length-append b (bytes "\n")) in
      let c = at + 5 + length (x ∷ b) in
      (unknown (ext (span (at + 5) c) none), rw (ext_bare_ahead text at x b xs h d0, z), ap named (shows text (at + 5) (x ∷ b) _ (on text at (bytes "#EXT-") _ d0)))
  reads (note_line x b) at xs h d =
      let d0 : drop at text ≡ bytes "#" ++ ((x ∷ b) ++ (bytes "\n" ++ xs)) = d ∙ simp append_assoc in
      let z : at + 1 + length (x ∷ b) + 1 ≡ at + length (line_bytes (note_line x b)) = omega (arith, length-append b (bytes "\n")) in
      let c = at + 1 + length (x ∷ b) in
      -- what was assumed of the line by itself holds at its place
      let f = fails_ahead mv_ext ext_tag ext_local text at _ (omega (arith, in_text text at 35 _ d)) d other_text h.1 in
      let e = comment_ahead text at (x ∷ b) xs h.0 d0 in
      (comment (some (span (at + 1) c)), rw (f, e, lt-ltb (at + 1) c (omega arith), z), ap noted (shows text (at + 1) (x ∷ b) _ (on text at (bytes "#") _ d0)))

  ends : (n : ℕ) → drop n text ≡ [] → item text n ≡ fail other_text
  unfolding item ext_tag comment_tag begins
  ends n h = rw (tagged_ahead text n (bytes "#EXT-") [] h, tagged_ahead text n (bytes "#") [] h)

all_read : (ls : List Line) → AllFit line_bytes Fits ls [] → AllRead item (unlines line_bytes ls) line_bytes (view (unlines line_bytes ls)) said ls 0
all_read ls h =
    let text = unlines line_bytes ls in
    run_all item text line_bytes (view text) said (takes_falls 1 item takes_item text) Fits (reads text) ls 0 other_text h refl (ends text)

-- the premise can be met
fitting : AllFit line_bytes Fits (tag_line 88 [] ∷ note_line 32 (bytes "EXT-") ∷ []) []
unfolding AllFit unlines Every ext_tag tagged begins
fitting = ((refl, tt), (((refl, (refl, (refl, (refl, (refl, tt))))), refl), tt))
