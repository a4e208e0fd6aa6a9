-- An unknown tag, written again, is unknown again: what stood in the text was read by no known tag's rule, and what is written is the same line with an LF behind
-- it (or, where the rest was absent, without its colon). Only X-MAP is left out: whether its list is read depends on the lines that follow. Assumes nothing.
use Prim.Native.Nat.{ℕ, zero, suc, ◌+◌, ◌-◌, ◌≤◌, ◌<◌}
use mathlib.Core.Path.{◌≡◌, refl, sym, ◌∙◌, ap}
use mathlib.Core.Bool.{Bool, true, false, cond, not, ◌&&◌, ◌||◌, false≢true}
use mathlib.Core.List.{List, [], ◌∷◌, ◌++◌, append_assoc, map as mapᴸ}
use mathlib.Core.Option.{Option, none, some}
use native.Mathlib.Omega.{arith}
use native.Mathlib.Nat.{add-zero}
use lib.Dec.{ltb, eqb}
use lib.ListN.{length, take, drop, get_or, length-drop, take-append-drop}
use lib.Seq.{drop-drop, drop-cons}
use borrow.Author.Tests.{ltb-true, eqb-true, eq-eqb}
use Rattle.text.specs.Why.{other_text, name_empty, missing_byte}
use Rattle.text.specs.Nom.{Res, Parser, Span, span, bytes, begins, tagged, after_tag, run, run_end, span_or, or_else, tag, map, preceded}
use Rattle.text.specs.BasicTags.{ExtTag, ext, ext_tag}
use Rattle.text.proofs.Ahead.{Every, Stops, run_ends, tagged_ahead, after_ahead, after_not}
use Rattle.text.proofs.Laws.{and_left, and_right, run_from}
use Rattle.tags.specs.Tags.{Tag, marks, Row, row, mark, literal, reads, first_of, playlist_rows, playlist_tag, segment_rows, clips_from, segment_tag}
use Rattle.tags.proofs.Rows.{hold_all, Each, of_rows, Facts, head_facts, clip_facts}
use Rattle.text.specs.Spans.{shown, shown_part, same_bytes}
use Rattle.playlist.specs.Lines.{unknown_line, line_bytes}
use Rattle.roundtrip.proofs.Said.{Some, Clean}
use Rattle.roundtrip.proofs.Gives.{Gives, gives_done, gives_when, gives_bind, Shows}
use Rattle.roundtrip.proofs.Values.{SoundExt}
use Rattle.roundtrip.proofs.Sounds.{Unread}
use Rattle.roundtrip.proofs.Rows.{name_byte, rest_line, Twice, Keep, head_kept, clip_kept}
use Rattle.roundtrip.proofs.Alike.{Failed, alt_failed, failed_alt, line_byte, Breaks, every, begins_before, begins_split, OnLine, tagged_line, mark_failed, alike_mark}

-- ---- what the rule of unknown tags has read
module _ (text : List ℕ) (at : ℕ) where
  abbrev name_end : ℕ
  name_end = run_end name_byte text (at + 5)

  abbrev rest_start : ℕ
  rest_start = after_tag (bytes ":") text name_end

  abbrev rest_end : ℕ
  rest_end = run_end line_byte text rest_start

  abbrev Shape : ExtTag → ℕ → Type 0
  Shape (ext name rest) n = (tagged (bytes "#EXT-") text at ≡ true) × (name ≡ span (at + 5) name_end) × (rest ≡ span_or rest_start rest_end) × (rest_end < length text)

  shape : Gives Shape (ext_tag text at)
  unfolding ext_tag
  shape =
      let a = at + 5 in
      gives_bind (λ _ n. (tagged (bytes "#EXT-") text at ≡ true) × (n ≡ a)) Shape _ _ (gives_when (λ _ n. (tagged (bytes "#EXT-") text at ≡ true) × (n ≡ a)) (tagged (bytes "#EXT-") text at) other_text tt a (λ q. (q, refl))) (λ _ n h. rw h.1 (
      gives_bind (λ s m. (s ≡ span a name_end) × (m ≡ name_end)) Shape _ _ (gives_when (λ s m. (s ≡ span a name_end) × (m ≡ name_end)) (ltb a name_end) name_empty (span a name_end) name_end (λ _. (refl, refl))) (λ s m k. rw (k.0, k.1) (
      gives_bind (λ _ _. rest_end < length text) Shape _ _ (gives_when (λ _ _. rest_end < length text) (ltb rest_end (length text)) missing_byte tt (rest_end + 1) (ltb-true rest_end (length text))) (λ _ j l.
      gives_done Shape (ext (span a name_end) (span_or rest_start rest_end)) j (h.0, refl, refl, l))))))

-- ---- where it stands
-- a part and what follows it
part_split : (text : List ℕ) (a b : ℕ) → a ≤ b → drop a text ≡ take (b - a) (drop a text) ++ drop b text
part_split text a b h =
    let z : a + (b - a) ≡ b = omega arith in
    sym (take-append-drop (b - a) (drop a text)) ∙ ap (λ (s : List ℕ). take (b - a) (drop a text) ++ s) (drop-drop (b - a) a text ∙ ap (λ (n : ℕ). drop n text) z)

tag_split : (t text : List ℕ) (at : ℕ) → tagged t text at ≡ true → drop at text ≡ t ++ drop (at + length t) text
unfolding tagged
tag_split t text at e = begins_split t (drop at text) e ∙ ap (λ (s : List ℕ). t ++ s) (drop-drop (length t) at text)

run_none : (p : ℕ → Bool) (text : List ℕ) (at : ℕ) → Stops p (drop at text) → run_end p text at ≡ at
unfolding run_end run
run_none p text at h = go (drop at text) h
  where
    go : (s : List ℕ) → Stops p s → at + run p s ≡ at
    go [] h = add-zero at
    go (x ∷ s) h = rw h (add-zero at)

-- a name that no colon ends is ended by the line's end
no_colon : (s : List ℕ) → Stops name_byte s → begins (bytes ":") s ≡ false → Stops line_byte s
unfolding begins
no_colon [] h e = tt
no_colon (x ∷ s) h e = go (eqb 13 x) (eqb 10 x) (eqb 58 x) refl h
  where
    go : (b c d : Bool) → eqb 58 x ≡ d → not (b || (c || (d || false))) ≡ false → not (b || (c || false)) ≡ false
    go true c d q h = refl
    go false true d q h = refl
    go false false true q h = absurd (false≢true (sym e ∙ rw (eq-eqb x 58 (sym (eqb-true 58 x q)))))
    go false false false q h = h

span_or_some : (a b : ℕ) (s : Span) → some s ≡ span_or a b → (a < b) × (s ≡ span a b)
span_or_some a b s e = go (ltb a b) refl e
  where
    go : (c : Bool) → ltb a b ≡ c → some s ≡ cond c (some (span a b)) none → (a < b) × (s ≡ span a b)
    go true q e = (ltb-true a b q, cc)
    go false q e = let z : ◌≡◌ {A = ℕ} 0 1 = cc in absurd (omega arith)

stops_breaks : (s : List ℕ) → 0 < length s → Stops line_byte s → Breaks s
stops_breaks [] l h = omega arith
stops_breaks (x ∷ s) l h = h

module _ (text : List ℕ) (at : ℕ) (name : Span) where
  -- whatever the rest, the name is ended by a colon or the line's end
  module _ (rest : Option Span) (h : Shape text at (ext name rest) 0) where
    name_ahead : drop at text ≡ bytes "#EXT-" ++ (shown text name ++ drop (name_end text at) text)
    name_ahead = rw h.1 (tag_split (bytes "#EXT-") text at h.0 ∙ ap (λ (s : List ℕ). bytes "#EXT-" ++ s) (part_split text (at + 5) (name_end text at) (run_from name_byte text (at + 5))))

    name_stops : Stops name_byte (drop (name_end text at) text)
    name_stops = run_ends name_byte text (at + 5)

  -- a rest is there behind a colon
  module _ (rest : Span) (h : Shape text at (ext name (some rest)) 0) where
    colon : begins (bytes ":") (drop (name_end text at) text) ≡ true
    colon = go (begins (bytes ":") (drop (name_end text at) text)) refl
      where
        go : (b : Bool) → begins (bytes ":") (drop (name_end text at) text) ≡ b → b ≡ true
        go true q = refl
        go false q =
            let b = name_end text at in
            let k = (span_or_some (rest_start text at) (rest_end text at) rest h.2).0 in
            let z = after_not text b (bytes ":") (drop b text) refl q in
            absurd (omega (arith, rw z at k, run_none line_byte text b (no_colon (drop b text) (name_stops (some rest) h) q)))

    line_ahead : OnLine text at (bytes "#EXT-" ++ (shown text name ++ (bytes ":" ++ shown text rest)))
    line_ahead =
        let b = name_end text at in
        let c = rest_start text at in
        let e = rest_end text at in
        let r = span_or_some c e rest h.2 in
        let t : tagged (bytes ":") text b ≡ true = tagged_ahead text b (bytes ":") (drop b text) refl ∙ colon in
        let z : c ≡ b + 1 = after_ahead text b (bytes ":") (drop (b + 1) text) (tag_split (bytes ":") text b t) in
        let p : drop c text ≡ shown text rest ++ drop e text = rw r.1 (part_split text c e (omega (arith, r.0))) in
        let d : drop b text ≡ bytes ":" ++ (shown text rest ++ drop e text) = tag_split (bytes ":") text b t ∙ ap (λ (s : List ℕ). 58 ∷ s) (ap (λ (n : ℕ). drop n text) (sym z) ∙ p) in
        record {
          rest = drop e text;
          ahead = name_ahead (some rest) h ∙ rw (d, append_assoc (shown text name) (bytes ":" ++ shown text rest) (drop e text));
          ends = stops_breaks (drop e text) (omega (arith, length-drop e text, h.3)) (run_ends line_byte text c);
        }

-- ---- what is written
-- a text that has a byte which the line lacks is not there
begins_lacks : (p : ℕ → Bool) (t l : List ℕ) → every p l ≡ true → every p t ≡ false → begins t l ≡ false
unfolding begins
begins_lacks p [] l h k = absurd (false≢true (sym k))
begins_lacks p (y ∷ t) [] h k = refl
begins_lacks p (y ∷ t) (x ∷ l) h k = go (eqb x y) refl (begins_lacks p t l (and_right (p x) (every p l) h))
  where
    lacks : p y ≡ true → every p t ≡ false
    lacks e = rw e at k

    go : (b : Bool) → eqb x y ≡ b → (every p t ≡ false → begins t l ≡ false) → (b && begins t l) ≡ false
    go true q ih = ih (lacks (ap p (sym (eqb-true x y q)) ∙ and_left (p x) (every p l) h))
    go false q ih = refl

every_of : (p : ℕ → Bool) (l : List ℕ) → Every p l → every p l ≡ true
unfolding Every
every_of p [] h = refl
every_of p (x ∷ l) h = rw h.0 (every_of p l h.1)

-- ---- where a rule failed in the text, it fails on what is written
follows_alt : {A : Type 0} (x y x' y' : Res A) → (Failed x → Failed x') → (Failed y → Failed y') → Failed (or_else x y) → Failed (or_else x' y')
follows_alt x y x' y' hx hy f = let g = alt_failed x y f in failed_alt x' y' (hx g.0) (hy g.1)

-- what begins with a fixed text that is not there fails
module _ (text : List ℕ) (at : ℕ) (out t : List ℕ) (e : tagged t out 0 ≡ false) where
  after_none : {A : Type 0} (f : A → Tag) (p : Parser A) → Failed (map f (preceded (tag t) p) text at) → Failed (map f (preceded (tag t) p) out 0)
  after_none f p _ = (other_text, rw e)

  mark_none : (x : Tag) → Failed (marks x (tag t) text at) → Failed (marks x (tag t) out 0)
  mark_none x _ = (other_text, rw e)

-- the rows, one by one
module _ (text : List ℕ) (at : ℕ) (out : List ℕ) (F : ℕ → Row → Type 0) (t : Row → Bool) (one : (k : ℕ) (r : Row) → t r ≡ true → F k r → Failed (reads r text at) → Failed (reads r out 0)) where
  follow_rows : (k : ℕ) (rs : List Row) → hold_all t rs ≡ true → Each F k rs → Failed (first_of (mapᴸ reads rs) text at) → Failed (first_of (mapᴸ reads rs) out 0)
  follow_rows = of_rows (λ p. Failed (p text at) → Failed (p out 0)) (λ _. (other_text, refl)) (λ p q hp hq. follows_alt (p text at) (q text at) (p out 0) (q out 0) hp hq) F t one

-- what a rule follows has a colon before it
abbrev bare_row : Row → Bool
bare_row (row t p f) = every line_byte t && not (every name_byte t)
bare_row (mark t x) = every line_byte t

not_so : (b : Bool) → not b ≡ true → b ≡ false
not_so true e = sym e
not_so false e = refl

-- a line with no rest has no colon: the texts that have one are not there, and the others are there or not by the name
module _ (text : List ℕ) (at : ℕ) (out name s : List ℕ) (w : OnLine out 0 (bytes "#EXT-" ++ name)) (plain : every name_byte name ≡ true)
    (ahead : drop at text ≡ bytes "#EXT-" ++ (name ++ s)) (stops : Stops name_byte s) where
  lacks : (t : List ℕ) → every line_byte t ≡ true → every name_byte t ≡ false → tagged t out 0 ≡ false
  lacks t h k = tagged_line out 0 _ w t h ∙ begins_lacks name_byte t (bytes "#EXT-" ++ name) plain k

  bare : (t : List ℕ) → every line_byte t ≡ true → every name_byte t ≡ true → (x : Tag) → Failed (marks x (tag t) text at) → Failed (marks x (tag t) out 0)
  bare t h k x f =
      let line = bytes "#EXT-" ++ name in
      let e : tagged t text at ≡ begins t line = tagged_ahead text at t _ ahead ∙ begins_before name_byte t line s k stops in
      rw (tagged_line out 0 line w t h) (mark_failed t x (begins t line) at 0 (rw e at f))

  row_bare : (k : ℕ) (r : Row) → bare_row r ≡ true → Facts k r → Failed (reads r text at) → Failed (reads r out 0)
  row_bare k (row t p f) e h = after_none text at out t (lacks t (and_left (every line_byte t) _ e) (not_so (every name_byte t) (and_right (every line_byte t) _ e))) f p
  row_bare k (mark t x) e h = go (every name_byte t) refl
    where
      go : (b : Bool) → every name_byte t ≡ b → Failed (marks x (tag t) text at) → Failed (marks x (tag t) out 0)
      go true q = bare t e q x
      go false q = mark_none text at out t (lacks t e q) x

  head_bare : Failed (playlist_tag text at) → Failed (playlist_tag out 0)
  unfolding playlist_tag
  head_bare = follow_rows text at out Facts bare_row row_bare 0 playlist_rows refl head_facts

  clip_bare : Failed (segment_tag text at) → Failed (segment_tag out 0)
  unfolding segment_tag
  clip_bare = follow_rows text at out Facts bare_row row_bare clips_from segment_rows refl clip_facts

-- a line with a rest is written as it stood
module _ (text : List ℕ) (at : ℕ) (out name rest : List ℕ) (w : Twice text at out name rest) where
  row_whole : (k : ℕ) (r : Row) → every line_byte (literal r) ≡ true → Keep k r → Failed (reads r text at) → Failed (reads r out 0)
  row_whole k (row t p f) e h = h.again e text at out name rest w
  row_whole k (mark t x) e h = alike_mark t e x text at out 0 (rest_line name rest) w.stood w.written

  head_whole : Failed (playlist_tag text at) → Failed (playlist_tag out 0)
  unfolding playlist_tag
  head_whole = follow_rows text at out Keep (λ r. every line_byte (literal r)) row_whole 0 playlist_rows refl head_kept

  clip_whole : Failed (segment_tag text at) → Failed (segment_tag out 0)
  unfolding segment_tag
  clip_whole = follow_rows text at out Keep (λ r. every line_byte (literal r)) row_whole clips_from segment_rows refl clip_kept

-- ---- so the line of an unknown tag that was taken is clean
pub some_shown : (p : ℕ → Bool) (text : List ℕ) (s : Span) → Shows p text s → Some (shown text s)
some_shown p text (span a b) h = rw (drop-cons text a 0 (omega (arith, h.long, h.within))) (go (b - a) (omega (arith, h.long)))
  where
    go : (n : ℕ) → 0 < n → Some (take n (get_or text a 0 ∷ drop (suc a) text))
    go zero l = absurd (omega arith)
    go (suc n) l = tt

pub passes_shown : (p : ℕ → Bool) (text : List ℕ) (s : Span) → Shows p text s → Every p (shown text s)
passes_shown p text (span a b) h = h.passes

module _ (text : List ℕ) (at : ℕ) (name : Span) (not_map : same_bytes (shown text name) (bytes "X-MAP") ≡ false) where
  pub clean_unknown : (rest : Option Span) → SoundExt text (ext name rest) → Unread text at (ext name rest) → Clean (unknown_line (shown text name) (shown_part text rest))
  clean_unknown none h u =
      let n = shown text name in
      let sh = shape text at (ext name none) u.read.0 u.read.1 in
      let plain = every_of name_byte n (passes_shown name_byte text name h.0) in (
        some_shown name_byte text name h.0,
        (
          passes_shown name_byte text name h.0,
          (
            tt,
            λ xs.
                let w : OnLine (line_bytes (unknown_line n none) ++ xs) 0 (bytes "#EXT-" ++ n) = record { rest = 10 ∷ xs; ahead = simp append_assoc; ends = refl } in (
                  head_bare text at _ n _ w plain (name_ahead text at name none sh) (name_stops text at name none sh) u.no_head,
                  clip_bare text at _ n _ w plain (name_ahead text at name none sh) (name_stops text at name none sh) u.no_clip,
                ),
          ),
        ),
      )
  clean_unknown (some r) h u =
      let n = shown text name in
      let sh = shape text at (ext name (some r)) u.read.0 u.read.1 in
      let plain = every_of name_byte n (passes_shown name_byte text name h.0) in
      let twice : (out : List ℕ) → OnLine out 0 (rest_line n (shown text r)) → Twice text at out n (shown text r) = λ out w'. record { plain = plain; not_map = not_map; stood = line_ahead text at name r sh; written = w' } in (
        some_shown name_byte text name h.0,
        (
          passes_shown name_byte text name h.0,
          (
            (some_shown line_byte text r h.1, passes_shown line_byte text r h.1),
            λ xs.
                let w' : OnLine (line_bytes (unknown_line n (some (shown text r))) ++ xs) 0 (bytes "#EXT-" ++ (n ++ (bytes ":" ++ shown text r))) = record { rest = 10 ∷ xs; ahead = simp append_assoc; ends = refl } in (
                  head_whole text at _ n (shown text r) (twice _ w') u.no_head,
                  clip_whole text at _ n (shown text r) (twice _ w') u.no_clip,
                ),
          ),
        ),
      )
