-- Frames that were played back to back, as a close plays its own, lead from one state to the next, whatever form they have.
use mathlib.Core.Path.{◌≡◌, refl, sym, ap, ◌∙◌, subst}
use mathlib.Core.List.{List, [], ◌∷◌, ◌++◌, append_assoc}
use Prim.Native.Nat.{ℕ, suc, ◌+◌}
use native.Mathlib.Omega.{arith}
use native.Mathlib.Nat.{add-sub_cancel_left}
use lib.ListN.{length, take, drop, length-append, take-append-drop}
use lib.Seq.{drop-drop, length-take-le}
use Rattle.std.specs.Prelude.{Ok, Err}
use Rattle.words.specs.Words.{Bytes, part}
use Rattle.words.proofs.Laws.{bytes_append}
use Rattle.format.specs.declared.Size.{Size}
use Rattle.state.specs.State.{State}
use Rattle.chunks.specs.Headers.{frame_header, whole_of, Whole}
use Rattle.chunks.specs.declared.Layout.TheVariants.{Packed}
use Rattle.chunks.specs.Spans.{next_at, frame_to}
use Rattle.chunks.proofs.Headers.{frame_in}
use Rattle.chunks.proofs.Spans.{top_packed, next_fault, next_there}
use Rattle.chunks.proofs.Places.{frame_alone}
use Rattle.read_frame.specs.Frame.{frame}
use Rattle.read_frame.specs.Reading.{played}
use Rattle.house_back.specs.Plays.{ByteState}
use Rattle.house_back.proofs.ReadsBack.{played_bytes}
use Rattle.reel_play.specs.Play.{Progress, ran, one_frame, frames}
use Rattle.reel_play.proofs.Laws.{one_fault, one_refused, one_played, not_to, frames_played}
use Rattle.reel_laws.specs.Laps.{last_of}
use Rattle.reel_laws.proofs.Frames.{Leads, Shows, none, next, Each, no_state, each}
use Rattle.answer.specs.Answer.{Answer, refused_at}
use Rattle.reel_laws.proofs.Laps.{frame_same}

module _ (z : Size) (b : List ℕ) where
  -- one frame that was played at offset at
  pub record Led (at : ℕ) (s : State) (end : ℕ) (t : State) : Type 0 where
    pub bytes : List ℕ
    pub leads : Leads z bytes s t
    pub there : drop at b ≡ bytes ++ drop end b
    pub end_is : end ≡ at + length bytes

  module _ (at : ℕ) (s : State) (from end : ℕ) (t : State) (o : one_frame Packed z b at s ≡ ran (Ok (frame_to from end)) t) where
    module _ (count size : ℕ) (q : frame_header (drop at b) ≡ Ok (whole_of count size)) where
      part_is : part b at (at + size) ≡ take size (drop at b)
      part_is = ap (λ (k : ℕ). take k (drop at b)) (add-sub_cancel_left at size)

      long : length (take size (drop at b)) ≡ size
      long = length-take-le size (drop at b) (frame_in (drop at b) (Ok (whole_of count size)) q).1

      there_is : next_at Packed b at ≡ Ok (frame_to at (at + size))
      there_is = next_there Packed b at count size q

      led : (a : Answer) → (frame z (part b at (at + size))).answer ≡ a → Led at s end t
      led (Err r) d = not_to (sym (one_refused Packed z b at s at (at + size) there_is r d) ∙ o)
      led (Ok u) d =
          let l = sym (one_played Packed z b at s at (at + size) there_is d) ∙ o in
          let ke = (frame_same at (at + size) from end (ap (λ (p : Progress). p.result) l)).1 in
          let kt : played (frame z (part b at (at + size))) s ≡ t = ap (λ (p : Progress). p.after) l in
          record {
            bytes = take size (drop at b);
            leads =
                record {
                  count = count;
                  header = λ more. frame_alone (drop at b) more count size q ∙ ap (λ (n : ℕ). Ok (whole_of count n)) (sym long);
                  done = ap (λ (x : List ℕ). (frame z x).answer) (sym part_is) ∙ d;
                  after = ap (λ (x : List ℕ). played (frame z x) s) (sym part_is) ∙ kt;
                };
            there =
                sym (take-append-drop size (drop at b))
                ∙ ap (λ (x : List ℕ). take size (drop at b) ++ x) (drop-drop size at b ∙ ap (λ (n : ℕ). drop n b) ke);
            end_is = sym ke ∙ ap (λ (n : ℕ). at + n) (sym long);
          }

    pub one_led : Led at s end t
    one_led = by (frame_header (drop at b)) refl
      where
        by : (f : Whole) → frame_header (drop at b) ≡ f → Led at s end t
        by (Err e) q = not_to (sym (one_fault Packed z b at s (refused_at e at) (next_fault Packed b at e (top_packed b at (Err e) q))) ∙ o)
        by (Ok h) q = led h.count h.size q (frame z (part b at (at + h.size))).answer refl

  -- a run of them
  pub record Through (count at : ℕ) (s : State) (next : ℕ) (t : State) : Type 0 where
    pub states : List State
    pub bytes : List ℕ
    pub shows : Shows z s states bytes
    pub many : length states ≡ count
    pub last : last_of s states ≡ t
    pub there : drop at b ≡ bytes ++ drop next b
    pub next_is : next ≡ at + length bytes

  pub played_through : (count last at : ℕ) (s : State) (from to : ℕ) (t : State) → frames Packed z b count last at s ≡ ran (Ok (frame_to from to)) t
      → Through count at s to t
  played_through count last at s from to t e =
      frames_played Packed z b from to t (λ n k u. Through n k u to t)
      (record { states = []; bytes = []; shows = none; many = refl; last = refl; there = refl; next_is = omega arith })
      (λ n k u here end v o r. let i = one_led k u here end v o in
      record {
        states = v ∷ r.states;
        bytes = i.bytes ++ r.bytes;
        shows = next i.leads r.shows;
        many = ap suc r.many;
        last = r.last;
        there = i.there ∙ ap (λ (x : List ℕ). i.bytes ++ x) r.there ∙ sym (append_assoc i.bytes r.bytes (drop to b));
        next_is = omega (arith, r.next_is, i.end_is, length-append i.bytes r.bytes);
      })
      count last at s e

-- frames of bytes lead to states of bytes
pub shows_each : (z : Size) {s : State} {ts : List State} {fs : List ℕ} → Shows z s ts fs → Bytes fs → ByteState z s → Each z ts
shows_each z none i k = no_state
shows_each z {s} (next {t} {ts} {f} {fs} l rest) i k =
    let j = bytes_append f fs i in
    let here : ByteState z t = subst (ByteState z) l.after (played_bytes z f s j.0 k) in
    each here (shows_each z rest j.1 here)
