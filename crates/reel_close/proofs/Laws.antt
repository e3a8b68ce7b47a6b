-- Laws of closing a reel: the ring, the close's own playing, and the order of the checks.
use mathlib.Core.Path.{◌≡◌, refl, sym, ap, ap₂, ◌∙◌}
use mathlib.Core.List.{List, []}
use mathlib.Core.Bool.{Bool, true, false, cond, ◌&&◌}
use Prim.Native.Nat.{ℕ, ◌+◌, ◌-◌, ◌≤◌, ◌<◌}
use native.Mathlib.Omega.{arith}
use borrow.Author.Tests.{le-leb, lt-leb, leb-true}
use lib.Dec.{leb}
use lib.ListN.{length, take}
use Rattle.std.specs.Prelude.{Ok, Err}
use Rattle.words.specs.Writes.{put}
use Rattle.words.proofs.Tests.{both_true}
use Rattle.format.specs.Limits.{size_fits, area, max_frames}
use Rattle.format.specs.declared.Size.{Size}
use Rattle.answer.specs.Answer.{Said, done, told_written, refused_at, Written}
use Rattle.answer.specs.declared.Refusal.TheVariants.{ShortSlice, BadSize, Cut, WrongTime}
use Rattle.state.specs.State.{State, blank, enough, refilled}
use Rattle.state.specs.Outcome.{lent_bytes, lent_bytes_pairs, leaves}
use Rattle.chunks.specs.declared.Layout.{Layout}
use Rattle.chunks.specs.declared.Layout.TheVariants.{Packed}
use Rattle.chunks.specs.Spans.{HEADER_BYTES, frame_to}
use Rattle.house_frame.specs.House.{house_frame}
use Rattle.reel_header.specs.Written.{second_at, closed_header}
use Rattle.reel_play.specs.Play.{ran, one_frame, Shown, shown, play_all, Ran}
use Rattle.reel_play.proofs.Laws.{one_in, all_stopped}
use Rattle.reel_build.specs.declared.Reel.{Reel}
use Rattle.reel_build.specs.Record.{reel_of, ReelOutcome, builds, keeps}
use Rattle.reel_build.specs.Building.{end_ok, appended}
use Rattle.reel_build.proofs.Laws.{append_done, append_refused}
use Rattle.reel_close.specs.Closing.{own_playing, ring_written, ring_after, close_frames, with_pairs, closed_by, close_ok, close_reel}
use Rattle.answer.specs.declared.Refused.{Refused}

-- ring_written

-- a: the answer about the ring put there; x: the bytes with it
module _ (r : Reel) (f b : List ℕ) (a : Written) (x : List ℕ) (o : leaves (told_written a) (lent_bytes x) ≡ appended r.end f b) where
  -- y: the bytes with the header closed too
  pub ring_done : (n : ℕ) → a ≡ Ok n → (second : ℕ) (y : List ℕ) → second ≡ second_at b → y ≡ closed_header r.size.format n r.frames second x
      → builds (reel_of r.size r.frames n true) (leaves (done []) (lent_bytes y)) ≡ ring_written r f b
  ring_done n q second y s e =
      let t = append_done r.end f b a x o n q in
      ap₂ (λ (m : ℕ) (z : List ℕ). builds (reel_of r.size r.frames m true) (leaves (done []) (lent_bytes z))) t.1
      (e ∙ ap₂ (λ (m : ℕ) (z : List ℕ). closed_header r.size.format m r.frames second z) t.1 t.2
      ∙ ap (λ (k : ℕ). closed_header r.size.format (r.end + length f) r.frames k (put b r.end f)) s)
      ∙ rw t.0

  pub ring_refused : (e : Refused) → a ≡ Err e → keeps r e.0 e.1 (lent_bytes x) ≡ ring_written r f b
  ring_refused e q =
      let t = append_refused r.end f b a x o e q in
      ap₂ (λ (s : Said) (z : List ℕ). builds r (leaves s (lent_bytes z))) t.1 t.2 ∙ rw t.0

-- own_playing

-- playing that came to its end has met frame 1
pub all_long : (layout : Layout) (more : ℕ) (z : Size) (b : List ℕ) (last next : ℕ) → HEADER_BYTES ≤ length b
    → (play_all layout more z b).result ≡ Ok (frame_to last next) → HEADER_BYTES + 16 ≤ length b
all_long layout more z b last next long e = by (one_frame layout z b HEADER_BYTES (blank (area z))).result refl
  where
    by : (x : Ran) → (one_frame layout z b HEADER_BYTES (blank (area z))).result ≡ x → HEADER_BYTES + 16 ≤ length b
    by (Err r) q =
        let t = (one_frame layout z b HEADER_BYTES (blank (area z))).after in
        let s = ap (λ (y : Shown). y.result) (all_stopped layout more z b t r (ap (λ (y : Ran). ran y t) q)) in
        let z : ◌≡◌ {A = ℕ} 0 1 = cc in absurd (omega arith)
    by (Ok f) q = let i = one_in layout z b HEADER_BYTES (blank (area z)) long (Ok f) q in omega (arith, i.0, i.1, i.2)

module _ (r : Reel) (b : List ℕ) where
  pub own_record : end_ok r.end (length b) ≡ false → own_playing r b ≡ shown (Err (refused_at Cut 0)) (blank (area r.size)) (blank (area r.size))
  unfolding own_playing
  own_record e = rw e

  -- m: the length of the part that is played; x: what that showed
  pub own_played : end_ok r.end (length b) ≡ true → (m : ℕ) → m ≡ r.end → (x : Shown) → x ≡ play_all Packed (r.frames - 1) r.size (take m b)
      → own_playing r b ≡ x
  unfolding own_playing
  own_played e m em x o = rw e (ap (λ (l : ℕ). play_all Packed (r.frames - 1) r.size (take l b)) (sym em) ∙ sym o)

  -- what the close of frames tells where its own playing was x: the outcome and both states
  pub own_told : (x : Shown) → own_playing r b ≡ x → (o : ReelOutcome) → o ≡ close_frames r b x
      → record { bytes : o ≡ close_frames r b (own_playing r b); first : x.last ≡ (own_playing r b).last; second : x.one ≡ (own_playing r b).one }
  own_told x e o q = record {
    bytes = q ∙ ap (close_frames r b) (sym e);
    first = ap (λ (y : Shown). y.last) (sym e);
    second = ap (λ (y : Shown). y.one) (sym e);
  }

  -- close_frames

  -- x: what the playing came to, and the states of both pairs
  module _ (x : Ran) (s t : State) where
    pub frames_stopped : (e : Refused) → x ≡ Err e → keeps r e.0 e.1 (lent_bytes b) ≡ close_frames r b (shown x s t)
    frames_stopped e q = ap (λ (y : Ran). ring_after r b y s t) (sym q)

    module _ (from next : ℕ) (q : x ≡ Ok (frame_to from next)) where
      abbrev by_end : Bool → ReelOutcome
      by_end c = cond c (ring_written r (house_frame r.size s t) b) (keeps r Cut 0 (lent_bytes b))

      pub frames_early : next < r.end → keeps r Cut 0 (lent_bytes b) ≡ close_frames r b (shown x s t)
      frames_early h = sym (ap (λ (y : Ran). ring_after r b y s t) q ∙ ap by_end (lt-leb r.end next h))

      pub frames_ringed : r.end ≤ next → ring_written r (house_frame r.size s t) b ≡ close_frames r b (shown x s t)
      frames_ringed h = sym (ap (λ (y : Ran). ring_after r b y s t) q ∙ ap by_end (le-leb r.end next h))

-- close_reel

module _ (r : Reel) (b : List ℕ) (first second : State) where
  pub close_time : close_ok r.frames r.closed ≡ false → close_reel r b first second ≡ keeps r WrongTime 0 (lent_bytes_pairs b first second)
  unfolding close_reel
  close_time e = rw e

  module _ (e : close_ok r.frames r.closed ≡ true) where
    pub close_size : size_fits r.size ≡ false → close_reel r b first second ≡ keeps r BadSize 0 (lent_bytes_pairs b first second)
    unfolding close_reel
    close_size i = rw (e, i)

    module _ (i : size_fits r.size ≡ true) where
      pub close_short : (enough (area r.size) first && enough (area r.size) second) ≡ false
          → close_reel r b first second ≡ keeps r ShortSlice 0 (lent_bytes_pairs b first second)
      unfolding close_reel
      close_short j = rw (e, i, j)

-- a close that has passed the checks up to 1
pub record Passed (r : Reel) (first second : State) : Type 0 where
  pub taken : close_ok r.frames r.closed ≡ true
  pub sized : size_fits r.size ≡ true
  pub first_long : enough (area r.size) first ≡ true
  pub second_long : enough (area r.size) second ≡ true

module _ (r : Reel) (b : List ℕ) (first second : State) (i : Passed r first second) where
  pub close_played : close_reel r b first second ≡ closed_by r b (own_playing r b) first second
  unfolding close_reel
  close_played = rw (i.taken, i.sized, i.first_long, i.second_long)

  -- the pairs' fronts hold the states; m: the length of the range up to width times height
  pub close_laid : (m : ℕ) → m ≡ area r.size → (o : ReelOutcome) (s t : State) → o ≡ close_frames r b (own_playing r b) → s ≡ (own_playing r b).last
      → t ≡ (own_playing r b).one
      → with_pairs o (refilled m s first) (refilled m t second) ≡ close_reel r b first second
  close_laid m em o s t eo es et =
      ap (λ (l : ℕ). with_pairs o (refilled l s first) (refilled l t second)) em
      ∙ ap₂ (λ (u v : State). with_pairs o (refilled (area r.size) u first) (refilled (area r.size) v second)) es et
      ∙ ap (λ (y : ReelOutcome). with_pairs y (refilled (area r.size) (own_playing r b).last first) (refilled (area r.size) (own_playing r b).one second)) eo
      ∙ sym close_played

-- close_ok: how many frames a reel has that may be closed
pub close_few : (frames : ℕ) (shut : Bool) → close_ok frames shut ≡ true → (1 ≤ frames) × (frames ≤ max_frames)
close_few frames true e = let z : ◌≡◌ {A = ℕ} 0 1 = cc in absurd (omega arith)
close_few frames false e =
    let t = both_true (leb 1 frames) (leb frames max_frames) e in
    (leb-true 1 frames t.0, leb-true frames max_frames t.1)
