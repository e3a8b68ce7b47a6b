-- Demand 2 for one frame: for every two states of one size, the house frame from s to t, read against s, is accepted and gives t (`house_reads_back`).
-- The idea: each chunk that may be chosen reads back by itself, the choice takes one that is no longer than COPY, so that its size fits the field,
-- and a frame plays as its sub-chunks do.
use mathlib.Core.Path.{◌≡◌, refl, sym, ap, subst, ◌∙◌}
use mathlib.Core.List.{List, [], ◌∷◌, ◌++◌, flatten}
use mathlib.Core.Bool.{true, cond}
use Prim.Native.Nat.{ℕ, ◌+◌, ◌≤◌, ◌<◌}
use native.Mathlib.Omega.{arith}
use lib.Dec.{leb, ltb}
use lib.ListN.{length}
use borrow.Author.Tests.{leb-true, ltb-true}
use Rattle.std.specs.Prelude.{Ok}
use Rattle.words.specs.Words.{chunk, same, Bytes}
use Rattle.words.specs.Writes.{applied}
use Rattle.words.proofs.Laws.{length_chunk, same_eq}
use Rattle.words.proofs.Tests.{by_test}
use Rattle.words.proofs.Bytewise.{bytes_applied}
use Rattle.state.specs.State.{State, Picture}
use Rattle.format.specs.Limits.{area}
use Rattle.format.specs.declared.Format.{Format}
use Rattle.format.specs.declared.Format.TheVariants.{Flc, Fli}
use Rattle.format.specs.declared.Size.{Size}
use Rattle.format.specs.Format.{FLI_COLOR256, FLI_BLACK, FLI_BRUN, FLI_COPY}
use Rattle.walk.specs.Walk.{Walk, Verdict}
use Rattle.walk.proofs.Gives.{Gives}
use Rattle.read_colour.specs.Colour.{colour}
use Rattle.read_colour.specs.declared.Levels.TheVariants.{Of256}
use Rattle.read_full.specs.Full.{black, copied}
use Rattle.read_brun.specs.Brun.{brun}
use Rattle.read_chunk.specs.Chunk.{ChunkWalk, judged, on_picture, on_palette, by_kind, kind_ok, sub_chunk}
use Rattle.read_frame.specs.Frame.{frame}
use Rattle.read_frame.specs.Reading.{played}
use Rattle.read_chunk.proofs.Laws.{judged_right, chunk_by}
use Rattle.read_frame.proofs.Sound.{frame_sound, played_exact}
use Rattle.house_colour.specs.Colours.{colour_body}
use Rattle.house_colour.proofs.ReadsBack.{colour_reads_back, colour_short}
use Rattle.house_delta.specs.Delta.{delta_kind, delta_body, delta_chunk}
use Rattle.house_delta.proofs.Laws.{kind_between}
use Rattle.house_delta.proofs.ReadsBack.{walk_in, delta_walk, delta_reads_back}
use Rattle.house_full.specs.Full.{brun_body, all_zero, shorter, full_chunk}
use Rattle.house_full.proofs.Laws.{sized_small}
use Rattle.house_full.proofs.ReadsBack.{brun_reads_back, copy_reads_back, black_reads_back}
use Rattle.house_frame.specs.House.{colour_chunk, picture_chunk, changed, house_chunks, house_frame, picture_most, frame_most}
use Rattle.house_frame.proofs.Laws.{house_short}
use Rattle.house_back.specs.Plays.{Acts, Plays, ByteState}
use Rattle.house_back.proofs.Frames.{Subs, none, sub, length_framed, framed_plays}

-- a walk on the picture or on the palette

no_spare : {v : Verdict} (end : ℕ) → v ≡ Ok end → judged end v ≡ Ok end
no_spare end e = ap (judged end) e ∙ judged_right end end (omega arith)

-- of a body with no byte behind its data
on_picture_lem : (k : Walk) (end : ℕ) (p q r : List ℕ) → Gives k end p q → Acts (on_picture end k) p r q r
unfolding applied
on_picture_lem k end p q r g = record { end = end; ended = no_spare end g.ended; picture = g.result; palette = refl }

on_palette_lem : (k : Walk) (end : ℕ) (p q r : List ℕ) → Gives k end p q → Acts (on_palette end k) r p r q
unfolding applied
on_palette_lem k end p q r g = record { end = end; ended = no_spare end g.ended; picture = refl; palette = g.result }

-- the kinds that the house form has

-- a kind that an FLI may have has its place in both formats
both_ok : (kind : ℕ) → kind_ok Fli kind ≡ true → (f : Format) → kind_ok f kind ≡ true
both_ok kind e Flc = refl
both_ok kind e Fli = e

-- so does a delta's kind in its own
delta_ok : (f : Format) → kind_ok f (delta_kind f) ≡ true
delta_ok Flc = refl
delta_ok Fli = refl

module _ (z : Size) (b : List ℕ) where
  in_both : (kind : ℕ) → kind_ok Fli kind ≡ true → sub_chunk z kind b ≡ by_kind z kind b
  in_both kind e = chunk_by z kind b true (both_ok kind e z.format)

  colour_walk : sub_chunk z FLI_COLOR256 b ≡ on_palette (length b) (colour Of256 b)
  unfolding by_kind
  colour_walk = in_both FLI_COLOR256 refl

  delta_by_kind : (f : Format) → by_kind z (delta_kind f) b ≡ on_picture (length b) (walk_in f z.width z.height b)
  unfolding by_kind
  delta_by_kind Flc = refl
  delta_by_kind Fli = refl

  delta_walk_lem : sub_chunk z (delta_kind z.format) b ≡ on_picture (length b) (delta_walk z b)
  delta_walk_lem = chunk_by z (delta_kind z.format) b true (delta_ok z.format) ∙ delta_by_kind z.format

  pub black_walk : sub_chunk z FLI_BLACK b ≡ on_picture (length b) (black (area z))
  unfolding by_kind
  black_walk = in_both FLI_BLACK refl

  pub brun_walk : sub_chunk z FLI_BRUN b ≡ on_picture (length b) (brun z.width z.height b)
  unfolding by_kind
  brun_walk = in_both FLI_BRUN refl

  pub copy_walk : sub_chunk z FLI_COPY b ≡ on_picture (length b) (copied (area z) b)
  unfolding by_kind
  copy_walk = in_both FLI_COPY refl

acts_as : {c d : ChunkWalk} {p q p' q' : List ℕ} → c ≡ d → Acts d p q p' q' → Acts c p q p' q'
acts_as {c} {d} {p} {q} {p'} {q'} e x = subst (λ (k : ChunkWalk). Acts k p q p' q') (sym e) x

-- a chunk x that gives the picture q from p, no longer than COPY's may be
pub record Good (z : Size) (p q x : List ℕ) : Type 0 where
  pub kind : ℕ
  pub coloured : kind ≡ FLI_COLOR256 → ⊥
  pub body : List ℕ
  pub is : x ≡ chunk kind body
  pub short : length x ≤ picture_most
  pub acts : (r : List ℕ) → Acts (sub_chunk z kind body) p r q r

module _ (z : Size) (p q : List ℕ) (zp : Picture z.width z.height p) (zq : Picture z.width z.height q) (bq : Bytes q) where
  abbrev w : ℕ
  w = z.width

  abbrev h : ℕ
  h = z.height

  good : (kind : ℕ) (body : List ℕ) (k : Walk) (end : ℕ) → (kind ≡ FLI_COLOR256 → ⊥) → sub_chunk z kind body ≡ on_picture end k → Gives k end p q
      → length (chunk kind body) ≤ picture_most → Good z p q (chunk kind body)
  good kind body k end other e g l =
      record { kind = kind; coloured = other; body = body; is = refl; short = l; acts = λ r. acts_as e (on_picture_lem k end p q r g) }

  good_copy : Good z p q (chunk FLI_COPY q)
  good_copy =
      good FLI_COPY q (copied (area z) q) (length q) (λ e. omega arith) (copy_walk z q) (copy_reads_back w h p q zp.pixels zq.pixels)
      (omega (arith, length_chunk FLI_COPY q, sized_small zq))

  good_brun : length (chunk FLI_BRUN (brun_body w h q)) ≤ picture_most → Good z p q (chunk FLI_BRUN (brun_body w h q))
  good_brun =
      good FLI_BRUN (brun_body w h q) (brun w h (brun_body w h q)) (length (brun_body w h q)) (λ e. omega arith)
      (brun_walk z (brun_body w h q)) (brun_reads_back w h p q zp.pixels zq.pixels)

  good_black : all_zero q ≡ true → Good z p q (chunk FLI_BLACK [])
  good_black e =
      good FLI_BLACK [] (black (area z)) 0 (λ i. omega arith) (black_walk z []) (black_reads_back w h p q zp.pixels zq.pixels e)
      (omega (arith, length_chunk FLI_BLACK []))

  good_delta : length (delta_chunk z p q) ≤ picture_most → Good z p q (delta_chunk z p q)
  unfolding delta_chunk
  good_delta =
      good (delta_kind z.format) (delta_body z p q) (delta_walk z (delta_body z p q)) (length (delta_body z p q))
      (λ e. omega (arith, (kind_between z.format).0))
      (delta_walk_lem z (delta_body z p q)) (delta_reads_back z p q zp zq bq)

  good_shorter : (x y : List ℕ) → (length x ≤ length y → Good z p q x) → Good z p q y → Good z p q (shorter x y)
  unfolding shorter
  good_shorter x y f g = by_test (λ t. Good z p q (cond t x y)) (leb (length x) (length y)) (λ e. f (leb-true (length x) (length y) e)) (λ e. g)

  good_full : Good z p q (full_chunk w h q)
  unfolding full_chunk
  good_full =
      let rows = chunk FLI_BRUN (brun_body w h q) in
      let other : Good z p q (shorter rows (chunk FLI_COPY q)) =
      good_shorter rows (chunk FLI_COPY q) (λ (l : length rows ≤ length (chunk FLI_COPY q)). good_brun (omega (arith, good_copy.short))) good_copy in
      by_test (λ t. Good z p q (cond t (shorter (chunk FLI_BLACK []) (shorter rows (chunk FLI_COPY q))) (shorter rows (chunk FLI_COPY q)))) (all_zero q)
      (λ e. good_shorter (chunk FLI_BLACK []) (shorter rows (chunk FLI_COPY q)) (λ l. good_black e) other) (λ e. other)

  pub good_picture : Good z p q (picture_chunk z p q)
  unfolding picture_chunk
  good_picture =
      by_test (λ t. Good z p q (cond t (delta_chunk z p q) (full_chunk w h q))) (ltb (length (delta_chunk z p q)) (length (full_chunk w h q)))
      (λ e. good_delta (omega (arith, ltb-true (length (delta_chunk z p q)) (length (full_chunk w h q)) e, good_full.short))) (λ e. good_full)

  -- the picture's sub-chunk, if there is one
  picture_gives : (r : List ℕ) → Subs z (changed p q (picture_chunk z p q)) p r q r
  picture_gives r =
      let g = good_picture in
      by_test (λ t. Subs z (cond t [] (picture_chunk z p q ∷ [])) p r q r) (same p q)
      (λ e. subst (λ (x : List ℕ). Subs z [] p r x r) (same_eq p q e) (none {p = p} {q = r}))
      (λ e. subst (λ (x : List ℕ). Subs z (x ∷ []) p r q r) (sym g.is)
      (sub g.kind g.body q r (omega (arith, g.short, ap length g.is, length_chunk g.kind g.body)) (g.acts r) (none {p = q} {q = r})))

  -- the colour sub-chunk, if there is one, and then the picture's
  module _ (u v : List ℕ) (lu : length u ≡ 768) (lv : length v ≡ 768) where
    frame_gives : Subs z (changed u v (colour_chunk u v) ++ changed p q (picture_chunk z p q)) p u q v
    unfolding colour_chunk
    frame_gives =
        by_test (λ t. Subs z (cond t [] (chunk FLI_COLOR256 (colour_body u v) ∷ []) ++ changed p q (picture_chunk z p q)) p u q v) (same u v)
        (λ e. subst (λ (x : List ℕ). Subs z (changed p q (picture_chunk z p q)) p u q x) (same_eq u v e) (picture_gives u))
        (λ e. sub FLI_COLOR256 (colour_body u v) p v (omega (arith, colour_short u v lu lv))
        (acts_as (colour_walk z (colour_body u v))
        (on_palette_lem (colour Of256 (colour_body u v)) (length (colour_body u v)) u v p (colour_reads_back u v lu lv)))
        (picture_gives v))

module _ {z : Size} {s t : State} (zs : ByteState z s) (zt : ByteState z t) where
  -- the house frame lies well within 32 bits
  pub house_small : length (house_frame z s t) ≤ frame_most
  house_small = house_short zs.exact zt.exact

  -- the sizes of its sub-chunks too
  pub subs_small : 16 + length (flatten (house_chunks z s t)) < 4294967296
  unfolding house_frame
  subs_small = omega (arith, house_small, length_framed (house_chunks z s t))

  pub house_reads_back : Plays (frame z (house_frame z s t)) s.picture s.palette t.picture t.palette
  unfolding house_frame house_chunks
  house_reads_back =
      framed_plays z (house_chunks z s t) s.picture s.palette t.picture t.palette subs_small
      (frame_gives z s.picture t.picture zs.exact.picture zt.exact.picture zt.bytes s.palette t.palette zs.exact.colours zt.exact.colours)

-- a frame of bytes leaves a state of bytes
pub played_bytes : (z : Size) (b : List ℕ) (s : State) → Bytes b → ByteState z s → ByteState z (played (frame z b) s)
played_bytes z b s i x =
    record {
      exact = played_exact z b s x.exact;
      bytes = bytes_applied (frame z b).pixels s.picture ((frame_sound z x.exact.picture.size.some_wide b).of_bytes i).0 x.bytes;
    }
