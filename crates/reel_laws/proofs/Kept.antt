-- What a refused add or close leaves as it was, all bytes and the record; and what every close leaves: each header byte but those of the fields it sets.
use mathlib.Core.Path.{◌≡◌, refl, ap, ◌∙◌}
use mathlib.Core.List.{List, []}
use mathlib.Core.Logic.{inl}
use mathlib.Core.Bool.{Bool, true, ◌&&◌, cond}
use Prim.Native.Nat.{ℕ, ◌+◌, ◌≤◌}
use native.Mathlib.Omega.{arith}
use lib.Dec.{leb}
use lib.ListN.{length, get_or}
use Rattle.std.specs.Prelude.{Ok, Err}
use Rattle.words.specs.Writes.{put}
use Rattle.words.proofs.Laws.{length_put}
use Rattle.words.proofs.Tests.{by_test, cond_holds}
use Rattle.format.specs.Limits.{size_fits, area}
use Rattle.answer.specs.Answer.{done, refused}
use Rattle.answer.specs.declared.Refusal.{Refusal}
use Rattle.answer.specs.declared.Refusal.TheVariants.{ShortSlice, BadSize, NoRoom, Cut, WrongTime}
use Rattle.state.specs.State.{State, front, enough, refilled}
use Rattle.state.specs.Outcome.{Memory, lent_bytes, lent_bytes_pairs, leaves}
use Rattle.chunks.specs.Spans.{HEADER_BYTES}
use Rattle.house_frame.specs.House.{house_frame}
use Rattle.reel_header.specs.Written.{second_at, closed_header, Other}
use Rattle.reel_header.proofs.Kept.{put_other, closed_keeps}
use Rattle.reel_play.specs.Play.{Shown, Ran}
use Rattle.reel_build.specs.declared.Reel.{Reel}
use Rattle.reel_build.specs.Record.{reel_of, ReelOutcome, builds, keeps}
use Rattle.reel_build.specs.Building.{end_ok, fits, add_ok, add_frame}
use Rattle.reel_build.proofs.Laws.{fits_in, end_in}
use Rattle.reel_close.specs.Closing.{own_playing, ring_written, ring_after, close_frames, with_pairs, close_ok, close_reel}
use Rattle.reel_close.proofs.Laws.{own_record}

-- all bytes and the record where it is refused

module _ (r : Reel) (b : List ℕ) (s t : State) (number place : ℕ) where
  -- where it was refused, the bytes are b and the record is r
  Kept : ReelOutcome → Type 0
  Kept o = o.left.said ≡ refused number place → (o.left.memory.bytes ≡ b) × (o.reel ≡ r)

  kept_done : (x : Reel) (m : Memory) → Kept (builds x (leaves (done []) m))
  unfolding Kept
  kept_done x m e = let z : ◌≡◌ {A = ℕ} 0 1 = cc in absurd (omega arith)

  kept_refused : (e : Refusal) (at : ℕ) (m : Memory) → m.bytes ≡ b → Kept (keeps r e at m)
  unfolding Kept
  kept_refused e at m k d = (k, refl)

  kept_by : (c : Bool) (x : ReelOutcome) (e : Refusal) (m : Memory) → m.bytes ≡ b → Kept x → Kept (cond c x (keeps r e 0 m))
  kept_by c x e m k h = cond_holds Kept c x (keeps r e 0 m) h (kept_refused e 0 m k)

  add_kept : Kept (add_frame r b s t)
  unfolding add_frame
  add_kept =
      let n = area r.size in
      kept_by (add_ok r.frames r.closed) _ WrongTime (lent_bytes b) refl
      (kept_by (size_fits r.size) _ BadSize (lent_bytes b) refl
      (kept_by (enough n s && enough n t) _ ShortSlice (lent_bytes b) refl
      (kept_by (end_ok r.end (length b)) _ Cut (lent_bytes b) refl
      (kept_by (fits r.end (house_frame r.size (front n s) (front n t)) b) _ NoRoom (lent_bytes b) refl (kept_done _ _)))))

  pub add_refused : (add_frame r b s t).left.said ≡ refused number place → ((add_frame r b s t).left.memory.bytes ≡ b) × ((add_frame r b s t).reel ≡ r)
  unfolding Kept
  add_refused = add_kept

  -- with any pairs beside the bytes
  ring_kept : (x : Ran) (u v first second : State) → Kept (with_pairs (ring_after r b x u v) first second)
  ring_kept (Err r) u v first second = kept_refused r.0 r.1 (lent_bytes_pairs b first second) refl
  ring_kept (Ok p) u v first second =
      cond_holds (λ (o : ReelOutcome). Kept (with_pairs o first second)) (leb r.end p.end) _ _
      (cond_holds (λ (o : ReelOutcome). Kept (with_pairs o first second)) (fits r.end (house_frame r.size u v) b) _ _
      (kept_done _ _) (kept_refused NoRoom 0 (lent_bytes_pairs b first second) refl)) (kept_refused Cut 0 (lent_bytes_pairs b first second) refl)

  close_kept : Kept (close_reel r b s t)
  unfolding close_reel
  close_kept =
      let n = area r.size in
      let x = own_playing r b in
      kept_by (close_ok r.frames r.closed) _ WrongTime (lent_bytes_pairs b s t) refl
      (kept_by (size_fits r.size) _ BadSize (lent_bytes_pairs b s t) refl
      (kept_by (enough n s && enough n t) _ ShortSlice (lent_bytes_pairs b s t) refl
      (ring_kept x.result x.last x.one (refilled n x.last s) (refilled n x.one t))))

  pub close_refused : (close_reel r b s t).left.said ≡ refused number place → ((close_reel r b s t).left.memory.bytes ≡ b) × ((close_reel r b s t).reel ≡ r)
  unfolding Kept
  close_refused = close_kept

-- every other header byte

-- the same whether the close was done or refused
module _ (r : Reel) (b : List ℕ) (i : ℕ) (o : Other r.size.format i) where
  abbrev Same : ReelOutcome → Type 0
  Same x = get_or x.left.memory.bytes i 0 ≡ get_or b i 0

  ring_keeps : (f : List ℕ) → HEADER_BYTES ≤ r.end → Same (ring_written r f b)
  ring_keeps f h =
      by_test (λ t. Same (cond t
      (builds (reel_of r.size r.frames (r.end + length f) true)
      (leaves (done []) (lent_bytes (closed_header r.size.format (r.end + length f) r.frames (second_at b) (put b r.end f)))))
      (keeps r NoRoom 0 (lent_bytes b))))
      (fits r.end f b)
      (λ e. let room = (fits_in r.end f b e).0 in
      closed_keeps r.size.format i o (put b r.end f) (r.end + length f) r.frames (second_at b) (omega (arith, length_put b r.end f room))
      ∙ put_other b f r.end i room (inl (omega (arith, o.in_header))))
      (λ e. refl)

  play_keeps : HEADER_BYTES ≤ r.end → (x : Ran) (s t : State) → Same (ring_after r b x s t)
  play_keeps h (Err r) s t = refl
  play_keeps h (Ok p) s t = cond_holds Same (leb r.end p.end) _ _ (ring_keeps (house_frame r.size s t) h) refl

  frames_keep : Same (close_frames r b (own_playing r b))
  frames_keep =
      by_test (λ t. Same (close_frames r b (own_playing r b))) (end_ok r.end (length b))
      (λ e. let x = own_playing r b in play_keeps (end_in r.end (length b) e).0 x.result x.last x.one)
      (λ e. ap (λ (x : Shown). get_or (close_frames r b x).left.memory.bytes i 0) (own_record r b e))

  pub close_keeps : (s t : State) → get_or (close_reel r b s t).left.memory.bytes i 0 ≡ get_or b i 0
  unfolding close_reel
  close_keeps s t =
      let n = area r.size in
      by (close_ok r.frames r.closed) _ WrongTime
      (by (size_fits r.size) _ BadSize (by (enough n s && enough n t) _ ShortSlice frames_keep))
    where
      by : (c : Bool) (x : ReelOutcome) (e : Refusal) → Same x → Same (cond c x (keeps r e 0 (lent_bytes_pairs b s t)))
      by c x e k = cond_holds Same c x (keeps r e 0 (lent_bytes_pairs b s t)) k refl
