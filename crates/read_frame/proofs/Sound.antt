-- What every frame's walk has: its writes lie within the picture and the palette, and of a frame of bytes they are of bytes. It follows
-- from what each kind's walk has.
use mathlib.Core.Path.{◌≡◌, sym, ◌∙◌, subst}
use mathlib.Core.List.{List}
use Prim.Native.Nat.{ℕ, ◌+◌, ◌-◌, ◌≤◌}
use lib.ListN.{length, take, drop}
use Rattle.std.specs.Prelude.{Ok, Err}
use Rattle.words.specs.Words.{part}
use Rattle.words.specs.Writes.{Write, applied}
use Rattle.words.proofs.Laws.{Inside, inside_append, length_applied, bytes_take, bytes_drop}
use Rattle.words.proofs.Bytewise.{bytewise_append}
use Rattle.format.specs.Limits.{area}
use Rattle.format.specs.declared.Size.{Size}
use Rattle.state.specs.State.{State, Exact}
use Rattle.chunks.specs.Headers.{Whole, frame_header}
use Rattle.read_chunk.specs.Chunk.{sub_chunk}
use Rattle.read_frame.specs.Frame.{FrameWalk, writes_after, sub_chunks, after_frame_header, frame}
use Rattle.read_frame.specs.Reading.{played}
use Rattle.read_frame.proofs.Laws.{chunks_by}
use Rattle.read_chunk.proofs.Sound.{SoundWrites, no_writes, chunk_sound}
use Rattle.walk.specs.Walk.{Verdict}

module _ (z : Size) (wide : 1 ≤ z.width) where
  -- what follows a sub-chunk: all of it, or nothing
  sound_after : (b : List ℕ) (v : Verdict) (ps cs : List Write) → SoundWrites z b ps cs → SoundWrites z b (writes_after v ps) (writes_after v cs)
  sound_after b (Ok end) ps cs s = s
  sound_after b (Err e) ps cs s = no_writes z b

  chunks_sound : (b : List ℕ) (n at : ℕ) → SoundWrites z b (sub_chunks z b n at).pixels (sub_chunks z b n at).colours
  chunks_sound b n at =
      chunks_by z b (λ (m k : ℕ) (f : FrameWalk). SoundWrites z b f.pixels f.colours) (λ k. no_writes z b) (λ m k e q. no_writes z b)
      (λ m k kind end q rest.
      let body = part b (k + 6) end in
      let x = sub_chunk z kind body in
      let c = chunk_sound z wide kind body in
      let ps = writes_after x.verdict (sub_chunks z b m end).pixels in
      let cs = writes_after x.verdict (sub_chunks z b m end).colours in
      let more = sound_after b x.verdict (sub_chunks z b m end).pixels (sub_chunks z b m end).colours rest in
      record {
        in_picture = inside_append (area z) x.pixels ps c.in_picture more.in_picture;
        in_palette = inside_append 768 x.colours cs c.in_palette more.in_palette;
        of_bytes = λ i.
            let d = c.of_bytes (bytes_take (end - (k + 6)) (drop (k + 6) b) (bytes_drop (k + 6) b i)) in
            let r = more.of_bytes i in
            (bytewise_append x.pixels ps d.0 r.0, bytewise_append x.colours cs d.1 r.1);
      }) n at

  pub frame_sound : (b : List ℕ) → SoundWrites z b (frame z b).pixels (frame z b).colours
  unfolding frame
  frame_sound b = go (frame_header b)
    where
      go : (x : Whole) → SoundWrites z b (after_frame_header z b x).pixels (after_frame_header z b x).colours
      go (Err e) = no_writes z b
      go (Ok h) =
          let s = chunks_sound (take h.size b) h.count 16 in
          record { in_picture = s.in_picture; in_palette = s.in_palette; of_bytes = λ i. s.of_bytes (bytes_take h.size b i) }

-- what a frame makes of a state

kept : (ws : List Write) (d : List ℕ) (n : ℕ) → Inside n ws → length d ≡ n → length (applied ws d) ≡ n
kept ws d n i e = length_applied ws d (subst (λ (m : ℕ). Inside m ws) (sym e) i) ∙ e

pub played_exact : (z : Size) (b : List ℕ) (s : State) → Exact z s → Exact z (played (frame z b) s)
played_exact z b s x =
    let f = frame_sound z x.picture.size.some_wide b in
    record {
      picture = record { size = x.picture.size; pixels = kept (frame z b).pixels s.picture (area z) f.in_picture x.picture.pixels };
      colours = kept (frame z b).colours s.palette 768 f.in_palette x.colours;
    }
