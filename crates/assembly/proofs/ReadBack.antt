-- What was stored is read back: the word at a place of record k of the table is that word of the k-th clip, and of the k-th tag. Assumes nothing.
use Prim.Native.Nat.{ℕ, ◌<◌}
use mathlib.Core.Path.{◌≡◌, ◌∙◌, ap}
use mathlib.Core.List.{List, ◌∷◌, ◌++◌, append_assoc}
use lib.ListN.{length, get_or}
use Rattle.text.specs.BasicTags.{ExtTag}
use Rattle.tables.specs.Layout.{clip_words, tag_words}
use Rattle.tables.specs.Table.{clip_word, tag_word}
use Rattle.tables.proofs.Sets.{words_back}
use Rattle.assembly.specs.Assembly.{Clip}
use Rattle.assembly.specs.Words.{clip_words_of, tag_words_of, clips_words, tags_words}
use Rattle.assembly.proofs.Records.{clip_words_length, tag_words_length, clips_words_length, tags_words_length, clips_words_append, tags_words_append}

pub clip_back : (cs ds : List Clip) (c : Clip) (rest : List ℕ) (i : ℕ) → i < clip_words → clip_word (clips_words (cs ++ (c ∷ ds)) ++ rest) (length cs) i ≡ get_or (clip_words_of c) i 0
unfolding clips_words
clip_back cs ds c rest i h =
    let e : clips_words (cs ++ (c ∷ ds)) ++ rest ≡ clips_words cs ++ (clip_words_of c ++ (clips_words ds ++ rest)) = rw (clips_words_append cs (c ∷ ds)) (simp append_assoc) in
    ap (λ (l : List ℕ). clip_word l (length cs) i) e
    ∙ words_back clip_words (length cs) i (clips_words cs) (clip_words_of c) (clips_words ds ++ rest) (clips_words_length cs) (clip_words_length c) h

pub tag_back : (ts us : List ExtTag) (t : ExtTag) (rest : List ℕ) (i : ℕ) → i < tag_words → tag_word (tags_words (ts ++ (t ∷ us)) ++ rest) (length ts) i ≡ get_or (tag_words_of t) i 0
unfolding tags_words
tag_back ts us t rest i h =
    let e : tags_words (ts ++ (t ∷ us)) ++ rest ≡ tags_words ts ++ (tag_words_of t ++ (tags_words us ++ rest)) = rw (tags_words_append ts (t ∷ us)) (simp append_assoc) in
    ap (λ (l : List ℕ). tag_word l (length ts) i) e
    ∙ words_back tag_words (length ts) i (tags_words ts) (tag_words_of t) (tags_words us ++ rest) (tags_words_length ts) (tag_words_length t) h
