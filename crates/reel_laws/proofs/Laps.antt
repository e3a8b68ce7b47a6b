-- A reel that the check accepts leads back (`accepted_leads_back`), whatever the lent memory held, and both pairs hold frame 1's state then.
-- The idea: the check's answer is done only where every frame was accepted and the ring's state compared equal, byte by byte, to that of frame 1;
-- a lap is a function of the state that it begins with, and that is frame 1's each time.
use mathlib.Core.Path.{◌≡◌, refl, sym, ap, ap₂, ◌∙◌, subst}
use mathlib.Core.List.{List, [], ◌∷◌, ◌++◌, append-nil}
use mathlib.Core.Bool.{true}
use Prim.Native.Nat.{ℕ, zero, suc, ◌≤◌}
use native.Mathlib.Omega.{arith}
use native.Mathlib.Nat.{not-suc-le-zero}
use lib.ListN.{length, take, drop, drop_of_length-le, length-replicate}
use lib.Seq.{take_all}
use Rattle.std.specs.Prelude.{Ok, Err}
use Rattle.words.specs.Words.{part}
use Rattle.words.specs.Writes.{Write, applied}
use Rattle.read_frame.specs.Frame.{frame}
use Rattle.state.proofs.Laws.{enough_is}
use Rattle.reel_header.specs.Head.{head_of, head_with}
use Rattle.chunks.specs.declared.Layout.TheVariants.{Loose}
use Rattle.chunks.specs.declared.Frame.{Frame}
use Rattle.chunks.specs.Spans.{HEADER_BYTES, Spans, frame_spans, next_at, frame_to, Next}
use Rattle.chunks.proofs.Spans.{after_next, frame_spans_next, frame_spans_none}
use Rattle.reel_header.specs.declared.Takes.TheVariants.{Both}
use Rattle.reel_header.proofs.Laws.{head_in}
use Rattle.reel_play.specs.Play.{Progress, ran, ran_by, met, one_frame, frames, shown_after, play_all, Ran}
use Rattle.reel_play.proofs.Laws.{not_to, frames_played}
use Rattle.reel_laws.specs.Laps.{last_of, times, states_by, states_of, states, laps, Reads, none, next, LeadsBack}
use Rattle.format.specs.Limits.{area, size_fits, Sized}
use Rattle.format.specs.declared.Size.{Size}
use Rattle.delay.specs.declared.Milliseconds.{Milliseconds}
use Rattle.format.proofs.Laws.{size_in_lem}
use Rattle.answer.specs.Answer.{done, told, Answer}
use Rattle.state.specs.State.{State, state, blank, refilled, Exact}
use Rattle.state.specs.Outcome.{Outcome, lent_pair, lent_pairs, leaves}
use Rattle.read_frame.specs.Reading.{played, read_frame}
use Rattle.read_frame.proofs.Laws.{read_by_lem}
use Rattle.read_frame.proofs.Sound.{played_exact}
use Rattle.reel_check.specs.Check.{check_reel}
use Rattle.reel_check.proofs.Passed.{Came, check_passed}

-- two frames that lie alike
pub frame_same : (a b c d : ℕ) → ◌≡◌ {A = Ran} (Ok (frame_to a b)) (Ok (frame_to c d)) → (a ≡ c) × (b ≡ d)
frame_same a b c d k =
    let f : frame_to a b ≡ frame_to c d = cc in
    (ap (λ (x : Frame). x.from) f, ap (λ (x : Frame). x.end) f)

-- lists of states

pub last_append : (s : State) (ts : List State) (t : State) → last_of s (ts ++ (t ∷ [])) ≡ t
last_append s [] t = refl
last_append s (u ∷ ts) t = last_append u ts t

-- a list of some states ends with its last
record Split (ts : List State) (t : State) : Type 0 where
  pub front : List State
  pub is : ts ≡ front ++ (t ∷ [])
  pub long : suc (length front) ≡ length ts

last_split : (s : State) (ts : List State) (t : State) → last_of s ts ≡ t → 1 ≤ length ts → Split ts t
last_split s [] t e h = absurd (not-suc-le-zero h)
last_split s (u ∷ []) t e h = record { front = []; is = ap (λ (x : State). x ∷ []) e; long = refl }
last_split s (u ∷ v ∷ ts) t e h =
    let r = last_split u (v ∷ ts) t e (omega arith) in
    record { front = u ∷ r.front; is = ap (λ (x : List State). u ∷ x) r.is; long = ap suc r.long }

-- one frame of a reel, and `read_frame`

pub blank_exact : (z : Size) → Sized z.width z.height → Exact z (blank (area z))
unfolding blank
blank_exact z s =
    record { picture = record { size = s; pixels = length-replicate {0} {A = ℕ} (area z) 0 }; colours = length-replicate {0} {A = ℕ} 768 0 }

module _ (z : Size) (ok : size_fits z ≡ true) where
  -- an accepted frame, read against s
  module _ (f : List ℕ) (s : State) (i : Exact z s) (d : (frame z f).answer ≡ Ok tt) where
    pub reads_played : read_frame f z s ≡ leaves (told (Ok tt)) (lent_pair (played (frame z f) s))
    reads_played =
        read_by_lem f z s ok (enough_is (area z) s (omega (arith, i.picture.pixels)) (omega (arith, i.colours))) (Ok tt) d
        ∙ ap₂ (λ (x y : List ℕ). leaves (told (Ok tt)) (lent_pair (state x y)))
        (whole_front (frame z f).pixels s.picture (area z) i.picture.pixels) (whole_front (frame z f).colours s.palette 768 i.colours)
      where
        whole_front : (ws : List Write) (x : List ℕ) (n : ℕ) → length x ≡ n → applied ws (take n x) ++ drop n x ≡ applied ws x
        whole_front ws x n e =
            ap₂ (λ (u v : List ℕ). applied ws u ++ v) (take_all n x (omega arith)) (drop_of_length-le x {i = n} (omega arith)) ∙ append-nil (applied ws x)

  module _ (b : List ℕ) where
    -- what an accepted frame of a reel is
    pub record One (at : ℕ) (s : State) (from end : ℕ) (t : State) : Type 0 where
      pub step : next_at Loose b at ≡ Ok (frame_to from end)
      pub read : read_frame (part b from end) z s ≡ leaves (told (Ok tt)) (lent_pair t)
      pub exact : Exact z t

    pub one_read : (at : ℕ) (s : State) → Exact z s → (from end : ℕ) (t : State) → one_frame Loose z b at s ≡ ran (Ok (frame_to from end)) t
        → One at s from end t
    unfolding one_frame
    one_read at s i from end t e = by (next_at Loose b at) refl e
      where
        by_answer : (x y : ℕ) → next_at Loose b at ≡ Ok (frame_to x y) → (a : Answer) → (frame z (part b x y)).answer ≡ a
            → ran_by x y (frame z (part b x y)) a s ≡ ran (Ok (frame_to from end)) t
            → One at s from end t
        by_answer x y n (Err r') d l = not_to l
        by_answer x y n (Ok u) d l =
            let k = frame_same x y from end (ap (λ (p : Progress). p.result) l) in
            let kx = k.0 in
            let ky = k.1 in
            let kt : played (frame z (part b x y)) s ≡ t = ap (λ (p : Progress). p.after) l in
            record {
              step = n ∙ ap₂ (λ (u v : ℕ). Ok (frame_to u v)) kx ky;
              read =
                  ap₂ (λ (u v : ℕ). read_frame (part b u v) z s) (sym kx) (sym ky)
                  ∙ reads_played (part b x y) s i d ∙ ap (λ (u : State). leaves (told (Ok tt)) (lent_pair u)) kt;
              exact = subst (Exact z) kt (played_exact z (part b x y) s i);
            }

        by : (x : Next) → next_at Loose b at ≡ x → met z b x s ≡ ran (Ok (frame_to from end)) t → One at s from end t
        by (Err r') n l = not_to l
        by (Ok f) n l = by_answer f.from f.end n (frame z (part b f.from f.end)).answer refl l

    -- frames that were all accepted: their states, read one after the other, end in the state that they came to
    record RanThrough (count at : ℕ) (s t : State) : Type 0 where
      pub reads : Reads z b at s (states Loose z b count at s)
      pub many : length (states Loose z b count at s) ≡ count
      pub last : last_of s (states Loose z b count at s) ≡ t

    -- one frame more
    states_more : (count at : ℕ) (s : State) (from end : ℕ) (t : State) → one_frame Loose z b at s ≡ ran (Ok (frame_to from end)) t
        → states Loose z b (suc count) at s ≡ t ∷ states Loose z b count end t
    unfolding states one_frame
    states_more count at s from end t o =
        ap (λ (x : Spans). states_of z b x.met s) (frame_spans_next Loose b count at) ∙ by (next_at Loose b at) o
      where
        ran_by_as : (x y : ℕ) (a : Answer) → ran_by x y (frame z (part b x y)) a s ≡ ran (Ok (frame_to from end)) t
            → states_by (ran_by x y (frame z (part b x y)) a s).result (ran_by x y (frame z (part b x y)) a s).after
            (λ at' s'. states_of z b (frame_spans Loose b count y).met s')
            ≡ t ∷ states_of z b (frame_spans Loose b count end).met t
        ran_by_as x y (Err r') l = not_to l
        ran_by_as x y (Ok u) l =
            let ky = (frame_same x y from end (ap (λ (p : Progress). p.result) l)).1 in
            ap₂ (λ (n : ℕ) (u : State). u ∷ states_of z b (frame_spans Loose b count n).met u) ky (ap (λ (p : Progress). p.after) l)

        by : (x : Next) → met z b x s ≡ ran (Ok (frame_to from end)) t
            → states_of z b (after_next x (λ y. frame_spans Loose b count y)).met s ≡ t ∷ states_of z b (frame_spans Loose b count end).met t
        by (Err r') l = not_to l
        by (Ok f) l = ran_by_as f.from f.end (frame z (part b f.from f.end)).answer l

    states_none : (at : ℕ) (s : State) → states Loose z b 0 at s ≡ []
    unfolding states
    states_none at s = ap (λ (x : Spans). states_of z b x.met s) (frame_spans_none Loose b 0 at (omega arith))

    frames_through : (count last at : ℕ) (s : State) → Exact z s → (ring end : ℕ) (t : State)
        → frames Loose z b count last at s ≡ ran (Ok (frame_to ring end)) t
        → RanThrough count at s t
    frames_through count last at s i ring end t e =
        frames_played Loose z b ring end t (λ n k u. Exact z u → RanThrough n k u t)
        (λ x. let is = states_none end t in
        record { reads = subst (Reads z b end t) (sym is) none; many = ap length is; last = ap (last_of t) is })
        (λ n k u from after v o rest x. let one = one_read k u x from after v o in
        let r = rest one.exact in
        let is = states_more n k u from after v o in
        record {
          reads = subst (Reads z b k u) (sym is) (next from after v one.step one.read r.reads);
          many = ap length is ∙ ap suc r.many;
          last = ap (last_of u) is ∙ r.last;
        })
        count last at s e i

-- every lap

laps_same : (z : Size) (b : List ℕ) (count at : ℕ) (s : State) (ts : List State) → states Loose z b count at s ≡ ts → last_of s ts ≡ s
    → (k : ℕ) → laps z b k count at s ≡ times k ts
unfolding laps times
laps_same z b count at s ts e l zero = refl
laps_same z b count at s ts e l (suc k) =
    ap₂ (λ (x : List State) (t : State). x ++ laps z b k count at t) e (ap (last_of s) e ∙ l)
    ∙ ap (λ (x : List State). ts ++ x) (laps_same z b count at s ts e l k)

-- the check

module _ (b : List ℕ) (z : Size) (count size : ℕ) (speed : Milliseconds) (is : head_of Both b ≡ Ok (head_with z count size speed)) where
  abbrev reel : List ℕ
  reel = take size b

  -- a reel that leads back to the state that frame 1 came to
  record Leads (one : State) : Type 0 where
    pub leads : LeadsBack b
    pub pixels : area leads.picture ≡ area z
    pub shows : leads.one ≡ one

  -- frame 1, and then the other frames and the ring
  played_leads : (r : Ran) (one : State) → one_frame Loose z reel HEADER_BYTES (blank (area z)) ≡ ran r one
      → Came (shown_after (ran r one) (λ last at s. frames Loose z reel count last at s)) → Leads one
  played_leads (Err r') one o c = let e = c.to in let f : ◌≡◌ {A = ℕ} 0 1 = cc in absurd (omega arith)
  played_leads (Ok p) one o c =
      let hd = head_in Both b (Ok (head_with z count size speed)) is in
      let ok = hd.sized in
      let x = one_read z ok reel HEADER_BYTES (blank (area z)) (blank_exact z (size_in_lem z ok)) p.from p.end one o in
      let e : frames Loose z reel count p.from p.end one ≡ ran (Ok (frame_to c.ring c.end)) one = ap₂ (λ (u : Ran) (t : State). ran u t) c.to c.same in
      let t = frames_through z ok reel count p.from p.end one x.exact c.ring c.end one e in
      let ts = states Loose z reel count p.end one in
      let l = last_split one ts one t.last (omega (arith, t.many, hd.some_frames)) in
      record {
        leads =
            record {
              picture = z;
              count = count;
              size = size;
              speed = speed;
              head = is;
              one = one;
              middle = l.front;
              many = l.long ∙ t.many;
              reads = next p.from p.end one x.step x.read (subst (Reads z reel p.end one) l.is t.reads);
              first = p.from;
              second = p.end;
              frame_1 = x.step;
              every_lap = laps_same z reel count p.end one (l.front ++ (one ∷ [])) l.is (last_append one l.front one);
            };
        pixels = refl;
        shows = refl;
      }

  came_leads : Came (play_all Loose count z reel) → Leads (play_all Loose count z reel).one
  unfolding play_all
  came_leads c = played_leads (one_frame Loose z reel HEADER_BYTES (blank (area z))).result (one_frame Loose z reel HEADER_BYTES (blank (area z))).after refl c

module _ (b : List ℕ) (first second : State) where
  -- the reel leads back, and both pairs hold the state of frame 1, which the ring gave again
  pub record Accepted (o : Outcome) : Type 0 where
    pub leads : LeadsBack b
    pub pairs : o
        ≡ leaves (told (Ok tt)) (lent_pairs (refilled (area leads.picture) leads.one first) (refilled (area leads.picture) leads.one second))

  pub accepted_leads_back : (check_reel b first second).said ≡ done [] → Accepted (check_reel b first second)
  accepted_leads_back e =
      let c = check_passed b first second e in
      let l = came_leads b c.picture c.count c.size c.speed c.header c.played in
      record {
        leads = l.leads;
        pairs = c.pairs ∙ ap₂ (λ (n : ℕ) (s : State). leaves (told (Ok tt)) (lent_pairs (refilled n s first) (refilled n s second)))
            (sym l.pixels) (sym l.shows);
      }
