-- Each kind of line that fits is taken by one step, which says what the line says. Assumes nothing.
use Prim.Native.Nat.{ℕ}
use mathlib.Core.List.{List}
use Rattle.text.proofs.Lines.{Reads}
use Rattle.tags.specs.Tags.{step}
use Rattle.playlist.specs.Lines.{header_line, independent_segments_line, i_frames_only_line, discontinuity_line, end_list_line, version_line, target_duration_line, media_sequence_line, discontinuity_sequence_line, playlist_type_line, map_line, byte_range_line, unknown_line, extinf_line, uri_line, line_bytes}
use Rattle.roundtrip.proofs.Said.{taken_says, line_says, Fits}
use Rattle.roundtrip.proofs.HeadLines.{takes_independent, takes_i_frames, takes_discontinuity, takes_end, takes_header, takes_version, takes_target, takes_sequence, takes_discontinuity_sequence, takes_type}
use Rattle.roundtrip.proofs.ClipLines.{takes_range, takes_uri, takes_length, takes_unknown}
use Rattle.roundtrip.proofs.MapLines.{takes_map}

pub reads : (text : List ℕ) → Reads step text line_bytes (taken_says text) line_says Fits
reads text header_line at xs (c, (s, b)) d = takes_header text at xs s d
reads text (version_line n) at xs (c, (s, b)) d = takes_version text at xs s n c d
reads text independent_segments_line at xs (c, (s, b)) d = takes_independent text at xs s d
reads text (target_duration_line n) at xs (c, (s, b)) d = takes_target text at xs s n c d
reads text (media_sequence_line n) at xs (c, (s, b)) d = takes_sequence text at xs s n c d
reads text (discontinuity_sequence_line n) at xs (c, (s, b)) d = takes_discontinuity_sequence text at xs s n c d
reads text (playlist_type_line t) at xs (c, (s, b)) d = takes_type text at xs s t c.0 c.1 d
reads text i_frames_only_line at xs (c, (s, b)) d = takes_i_frames text at xs s d
reads text (map_line u r) at xs (c, (s, b)) d = takes_map text at xs s u r c.0 c.1.0 c.1.1 d
reads text (byte_range_line r) at xs (c, (s, b)) d = takes_range text at xs s r c d
reads text discontinuity_line at xs (c, (s, b)) d = takes_discontinuity text at xs s d
reads text (unknown_line name rest) at xs (c, (s, b)) d = takes_unknown text at xs s name rest c.0 c.1.0 c.1.1.0 (c.1.1.1 xs) d
reads text (extinf_line l t) at xs (c, (s, b)) d = takes_length text at xs s l t c.0 c.1 b d
reads text (uri_line u) at xs (c, (s, b)) d = takes_uri text at xs s u c.0 c.1.0 c.1.1.1 d
reads text end_list_line at xs (c, (s, b)) d = takes_end text at xs s d
