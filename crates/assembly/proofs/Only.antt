-- No two heads say the same: a head by what it says, part by part. Assumes nothing.
use mathlib.Core.Path.{◌≡◌, refl, ap}
use Prim.Native.Nat.{ℕ}
use Rattle.text.proofs.Only.{Only, perhaps_only}
use Rattle.leaves.specs.Answers.{type_of}
use Rattle.leaves.proofs.Only.{type_back, type_back_lem}
use Rattle.assembly.specs.Answers.{version_of, head_type_of, head_seen}
use Rattle.assembly.specs.Assembly.{Head}

version_only : Only version_of
version_only = perhaps_only (λ (v : ℕ). v) (λ v. v) (λ v. refl)

head_type_only : Only head_type_of
head_type_only = perhaps_only type_of type_back type_back_lem

pub head_only : Only head_seen
head_only a b e =
    let version : a.version ≡ b.version = version_only a.version b.version (ap (λ (h : Head). h.version) e) in
    let target : a.target_duration ≡ b.target_duration = ap (λ (h : Head). h.target) e in
    let sequence : a.media_sequence ≡ b.media_sequence = ap (λ (h : Head). h.sequence) e in
    let discontinuities : a.discontinuity_sequence ≡ b.discontinuity_sequence = ap (λ (h : Head). h.discontinuities) e in
    let type : a.playlist_type ≡ b.playlist_type = head_type_only a.playlist_type b.playlist_type (ap (λ (h : Head). h.type) e) in
    let end : a.end_list ≡ b.end_list = ap (λ (h : Head). h.ended) e in
    let frames : a.i_frames_only ≡ b.i_frames_only = ap (λ (h : Head). h.i_frames) e in
    let independent : a.independent_segments ≡ b.independent_segments = ap (λ (h : Head). h.independent) e in
    λ i. record {
      version = version i;
      target_duration = target i;
      media_sequence = sequence i;
      discontinuity_sequence = discontinuities i;
      playlist_type = type i;
      end_list = end i;
      i_frames_only = frames i;
      independent_segments = independent i;
    }
