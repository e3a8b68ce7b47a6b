-- Laws of playing frames and of the check of a reel, by the cases of their definitions.
use mathlib.Core.Path.{◌≡◌, refl, sym, ap, ap₂, ◌∙◌, subst}
use mathlib.Core.List.{List}
use Prim.Native.Nat.{ℕ, zero, suc, ◌+◌, ◌-◌, ◌≤◌, ◌<◌}
use native.Mathlib.Omega.{arith}
use lib.ListN.{length, replicate}
use Rattle.std.specs.Prelude.{Ok, Err}
use Rattle.words.specs.Words.{part}
use Rattle.read_frame.specs.Frame.{FrameWalk, frame}
use Rattle.chunks.specs.declared.Layout.{Layout}
use Rattle.chunks.specs.Spans.{HEADER_BYTES, Spans, frame_spans, next_at, frame_to, Next}
use Rattle.chunks.proofs.Spans.{NextIn, next_in, frame_spans_none, frame_spans_step}
use Rattle.reel_play.specs.Play.{Progress, ran, ran_by, met, in_turn, one_frame, then_on, frames, shown, shown_after, play_all, Ran}
use Rattle.format.specs.Limits.{area}
use Rattle.format.specs.declared.Size.{Size}
use Rattle.state.specs.State.{State, blank, state, Exact}
use Rattle.read_frame.specs.Reading.{played}
use Rattle.answer.specs.Answer.{refused_at, Answer}
use Rattle.answer.specs.declared.Refused.{Refused}

-- pairs of exact length

module _ (z : Size) (s : State) (x : Exact z s) where
  -- slices as long as these
  pub exact_kept : (p q : List ℕ) → length p ≡ length s.picture → length q ≡ length s.palette → Exact z (state p q)
  exact_kept p q e f = record { picture = record { size = x.picture.size; pixels = e ∙ x.picture.pixels }; colours = f ∙ x.colours }

  -- filled with 0 they are blank
  pub exact_blank : state (replicate (length s.picture) 0) (replicate (length s.palette) 0) ≡ blank (area z)
  unfolding blank
  exact_blank = ap₂ (λ (m n : ℕ). state (replicate m 0) (replicate n 0)) x.picture.pixels x.colours

-- one frame

-- a frame that was accepted lies behind at and within b
abbrev pub RanIn : List ℕ → ℕ → Ran → Type 0
RanIn b at (Err r) = Unit {0}
RanIn b at (Ok f) = (at ≤ f.from) × (f.from + 16 ≤ f.end) × (f.end ≤ length b)

module _ (layout : Layout) (z : Size) (b : List ℕ) (at : ℕ) (s : State) where
  pub one_fault : (r : Refused) → next_at layout b at ≡ Err r → one_frame layout z b at s ≡ ran (Err r) s
  unfolding one_frame
  one_fault r q = ap (λ (x : Next). met z b x s) q

  module _ (from end : ℕ) (q : next_at layout b at ≡ Ok (frame_to from end)) where
    one_ran_by : (a : Answer) → (frame z (part b from end)).answer ≡ a → one_frame layout z b at s ≡ ran_by from end (frame z (part b from end)) a s
    unfolding one_frame
    one_ran_by a r = ap (λ (x : Next). met z b x s) q ∙ ap (λ (x : Answer). ran_by from end (frame z (part b from end)) x s) r

    pub one_refused : (r : Refused) → (frame z (part b from end)).answer ≡ Err r → one_frame layout z b at s ≡ ran (Err (refused_at r.0 (from + r.1))) s
    one_refused r i = one_ran_by (Err r) i

    pub one_played : (frame z (part b from end)).answer ≡ Ok tt
        → one_frame layout z b at s ≡ ran (Ok (frame_to from end)) (played (frame z (part b from end)) s)
    one_played r = one_ran_by (Ok tt) r

  -- it came to r, of which more is known
  pub one_ran : (r x : Ran) (t : State) → ran r t ≡ one_frame layout z b at s → r ≡ x → one_frame layout z b at s ≡ ran x t
  one_ran r x t e q = sym e ∙ ap (λ (y : Ran). ran y t) q

  -- a refused frame leaves the state as it was
  pub one_kept : (r : Refused) (t : State) → one_frame layout z b at s ≡ ran (Err r) t → t ≡ s
  unfolding one_frame
  one_kept r t q = go (next_at layout b at) q
    where
      by_answer : (from end : ℕ) (a : Answer) → ran_by from end (frame z (part b from end)) a s ≡ ran (Err r) t → t ≡ s
      by_answer from end (Ok u) l = let k = ap (λ (p : Progress). p.result) l in let i : ◌≡◌ {A = ℕ} 0 1 = cc in absurd (omega arith)
      by_answer from end (Err d) l = sym (ap (λ (p : Progress). p.after) l)

      go : (x : Next) → met z b x s ≡ ran (Err r) t → t ≡ s
      go (Err d) l = sym (ap (λ (p : Progress). p.after) l)
      go (Ok f) l = by_answer f.from f.end (frame z (part b f.from f.end)).answer l

  pub one_in : at ≤ length b → (r : Ran) → (one_frame layout z b at s).result ≡ r → RanIn b at r
  unfolding one_frame
  one_in i r q = subst (RanIn b at) q (go (next_at layout b at) (next_in layout b at _ refl))
    where
      in_ran_by : (from end : ℕ) (f : FrameWalk) (a : Answer) → NextIn b at (Ok (frame_to from end)) → RanIn b at (ran_by from end f a s).result
      in_ran_by from end f (Ok u) i = i
      in_ran_by from end f (Err r) i = tt

      go : (x : Next) → NextIn b at x → RanIn b at (met z b x s).result
      go (Err r) i = tt
      go (Ok f) i = in_ran_by f.from f.end (frame z (part b f.from f.end)) (frame z (part b f.from f.end)).answer i

-- a run of frames

module _ (layout : Layout) (z : Size) (b : List ℕ) (count last at : ℕ) (s : State) where
  abbrev turns : Spans → Progress
  turns x = in_turn z b x.met x.answer last at s

  pub frames_none : count ≤ 0 → frames layout z b count last at s ≡ ran (Ok (frame_to last at)) s
  unfolding frames
  frames_none i = ap turns (frame_spans_none layout b count at i)

  module _ (some : 0 < count) where
    frames_step : (x : Progress) → one_frame layout z b at s ≡ x
        → frames layout z b count last at s ≡ then_on x.result x.after (λ last' at' s'. frames layout z b (count - 1) last' at' s')
    unfolding frames one_frame
    frames_step x q =
        go (next_at layout b at) refl
        ∙ ap (λ (y : Progress). then_on y.result y.after (λ last' at' s'. frames layout z b (count - 1) last' at' s')) q
      where
        by_answer : (from end : ℕ) (a : Answer)
            → then_on (ran_by from end (frame z (part b from end)) a s).result (ran_by from end (frame z (part b from end)) a s).after
            (λ last' at' s'. in_turn z b (frame_spans layout b (count - 1) end).met (frame_spans layout b (count - 1) end).answer last' at' s')
            ≡ then_on (ran_by from end (frame z (part b from end)) a s).result (ran_by from end (frame z (part b from end)) a s).after
            (λ last' at' s'. frames layout z b (count - 1) last' at' s')
        by_answer from end (Ok u) = refl
        by_answer from end (Err r) = refl

        go : (x : Next) → next_at layout b at ≡ x
            → frames layout z b count last at s ≡ then_on (met z b x s).result (met z b x s).after (λ last' at' s'. frames layout z b (count - 1) last' at' s')
        go (Err r) n = ap turns (frame_spans_step layout b count at some _ n)
        go (Ok f) n = ap turns (frame_spans_step layout b count at some _ n) ∙ by_answer f.from f.end (frame z (part b f.from f.end)).answer

    pub frames_stopped : (t : State) (r : Refused) → one_frame layout z b at s ≡ ran (Err r) t → frames layout z b count last at s ≡ ran (Err r) t
    frames_stopped t r q = frames_step (ran (Err r) t) q

    pub frames_more : (t : State) (from end : ℕ) → one_frame layout z b at s ≡ ran (Ok (frame_to from end)) t
        → frames layout z b count last at s ≡ frames layout z b (count - 1) from end t
    frames_more t from end q = frames_step (ran (Ok (frame_to from end)) t) q

-- a run that was stopped did not come to an end
pub not_to : {C : Type 0} {r : Refused} {last next : ℕ} {s t : State} → ran (Err r) s ≡ ran (Ok (frame_to last next)) t → C
not_to l = let k = ap (λ (p : Progress). p.result) l in let z : ◌≡◌ {A = ℕ} 0 1 = cc in absurd (omega arith)

-- where a run that came to an end did so
abbrev ends : Ran → ℕ
ends (Err r) = 0
ends (Ok f) = f.end

-- Frames that were all played, up to offset to and the state t: what holds there with none left, and one frame earlier with one more, holds where they begin.
module _ (layout : Layout) (z : Size) (b : List ℕ) (from to : ℕ) (t : State) (P : ℕ → ℕ → State → Type 0) (none : P 0 to t)
    (more : (count at : ℕ) (s : State) (last next : ℕ) (u : State) → one_frame layout z b at s ≡ ran (Ok (frame_to last next)) u
    → P count next u → P (suc count) at s)
  where
    pub frames_played : (count last at : ℕ) (s : State) → frames layout z b count last at s ≡ ran (Ok (frame_to from to)) t → P count at s
    frames_played zero last at s e =
        let l = sym (frames_none layout z b 0 last at s (omega arith)) ∙ e in
        let here : to ≡ at = sym (ap (λ (p : Progress). ends p.result) l) in
        subst (λ (n : ℕ). P 0 n s) here (subst (P 0 to) (sym (ap (λ (p : Progress). p.after) l)) none)
    frames_played (suc count) last at s e =
        by (one_frame layout z b at s).result (one_frame layout z b at s).after refl (λ last' next u. frames_played count last' next u)
      where
        by : (r : Ran) (u : State) → one_frame layout z b at s ≡ ran r u
            → ((last' next : ℕ) (v : State) → frames layout z b count last' next v ≡ ran (Ok (frame_to from to)) t → P count next v) → P (suc count) at s
        by (Err r) u o rest = not_to (sym (frames_stopped layout z b (suc count) last at s (omega arith) u r o) ∙ e)
        by (Ok f) u o rest =
            let n : count ≡ suc count - 1 = omega arith in
            more count at s f.from f.end u o
            (rest f.from f.end u (ap (λ (k : ℕ). frames layout z b k f.from f.end u) n
            ∙ sym (frames_more layout z b (suc count) last at s (omega arith) u f.from f.end o) ∙ e))

-- frame 1 and more frames

module _ (layout : Layout) (more : ℕ) (z : Size) (b : List ℕ) where
  all_step : (x : Progress) → one_frame layout z b HEADER_BYTES (blank (area z)) ≡ x → play_all layout more z b
      ≡ shown_after x (λ last at s. frames layout z b more last at s)
  unfolding play_all
  all_step x q = ap (λ (y : Progress). shown_after y (λ last at s. frames layout z b more last at s)) q

  -- the state after frame 1
  pub all_first : (play_all layout more z b).one ≡ (one_frame layout z b HEADER_BYTES (blank (area z))).after
  unfolding play_all
  all_first = refl

  pub all_stopped : (t : State) (r : Refused) → one_frame layout z b HEADER_BYTES (blank (area z)) ≡ ran (Err r) t
      → play_all layout more z b ≡ shown (Err r) t t
  all_stopped t r q = all_step (ran (Err r) t) q

  -- x: what the further frames came to
  pub all_more : (t : State) (last next : ℕ) → one_frame layout z b HEADER_BYTES (blank (area z)) ≡ ran (Ok (frame_to last next)) t → (x : Progress) → x
      ≡ frames layout z b more last next t
      → play_all layout more z b ≡ shown x.result x.after t
  all_more t last next q x r = all_step (ran (Ok (frame_to last next)) t) q ∙ ap (λ (y : Progress). shown y.result y.after t) (sym r)
