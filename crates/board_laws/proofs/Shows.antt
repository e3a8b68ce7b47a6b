-- `player_shows`: a started player shows what was meant, on every lap.
-- The idea: an accepted reel leads back, so that from where the player looks for the next frame, the frames lead through the states that are left of the
-- lap; a tick that draws takes the first of them, and after the ring the lap begins again behind frame 1, in frame 1's state.
use mathlib.Core.Path.{◌≡◌, refl, sym, ap, ap₂, ◌∙◌, subst}
use mathlib.Core.List.{List, [], ◌∷◌, ◌++◌}
use mathlib.Core.Bool.{Bool, true, ◌&&◌, cond}
use Prim.Native.Nat.{ℕ, zero, suc, ◌+◌, ◌-◌, ◌%◌, ◌^◌, ◌≤◌, ◌<◌}
use native.Mathlib.Omega.{arith}
use borrow.Author.Tests.{eq-eqb, ne_eqb, eqb-true, eqb-false, ltb-true, ltb-false}
use lib.Dec.{eqb, ltb}
use lib.ListN.{length, get_or, take, drop, length-append, length-take}
use lib.Seq.{take-take, drop-cons, get_or-append_seam, take_at, drop-append_seam}
use Rattle.std.specs.Prelude.{Ok, Err}
use Rattle.words.specs.Words.{part}
use Rattle.words.proofs.Tests.{by_test, cond_holds}
use Rattle.format.specs.Limits.{area, size_fits, size_of, format_from, format_number}
use Rattle.format.specs.declared.Format.{Format}
use Rattle.format.specs.declared.Format.TheVariants.{Flc, Fli}
use Rattle.format.specs.declared.Size.{Size}
use Rattle.format.proofs.Laws.{size_in_lem}
use Rattle.answer.specs.Answer.{Said, done, refused, told, refused_at, Answer}
use Rattle.answer.specs.declared.Refusal.TheVariants.{ShortSlice}
use Rattle.state.specs.State.{State, state, blank, enough, front, refilled, Exact}
use Rattle.state.specs.Outcome.{Outcome, lent_pair, lent_pairs, leaves, refuse}
use Rattle.state.proofs.Laws.{enough_is}
use Rattle.chunks.specs.declared.Layout.TheVariants.{Loose}
use Rattle.chunks.specs.Spans.{HEADER_BYTES, frame_to}
use Rattle.chunks.proofs.Spans.{next_in}
use Rattle.chunks.proofs.Places.{next_prefix}
use Rattle.read_frame.specs.Frame.{frame}
use Rattle.read_frame.specs.Reading.{played, read_frame}
use Rattle.read_frame.proofs.Laws.{read_by_lem}
use Rattle.read_frame.proofs.Sound.{played_exact}
use Rattle.reel_play.specs.Play.{Progress, ran, one_frame, play_all}
use Rattle.reel_play.proofs.Laws.{one_played}
use Rattle.reel_laws.specs.Laps.{Reads, LeadsBack}
use Rattle.reel_laws.specs.Laps as laps
use Rattle.reel_laws.proofs.Laps.{frame_same, blank_exact, reads_played, one_read, accepted_leads_back}
use Rattle.reel_header.specs.Head.{head_of, Headed, head_with}
use Rattle.reel_header.specs.declared.Takes.TheVariants.{Both}
use Rattle.reel_header.proofs.Laws.{ReelIn, head_in}
use Rattle.reel_check.specs.Check.{ring_answer, checked_by, after_head, check_reel}
use Rattle.board_clock.specs.Clock.{follows, stands, stepped}
use Rattle.board_clock.proofs.Laws.{follows_more, follows_ring}
use Rattle.board_player.specs.declared.Player.{Player}
use Rattle.board_player.specs.Player.{NOTHING, DRAWN, SET_BACK, player_size, standing, place_after, PlayerOutcome, plays}
use Rattle.board_player.specs.Ticking.{draw, clock_of, tick}
use Rattle.board_player.specs.Starting.{placed, started_by, start_player}
use Rattle.board_player.proofs.Laws.{record_fits, draw_one, placed_at_lem, start_done}
use Rattle.board_laws.proofs.Ticks.{drawn_then, TickIs, idle, back, drawn, tick_is}
use Rattle.board_laws.proofs.Ticks as ticks
use Rattle.board_laws.specs.Playing as shown
use Rattle.board_laws.specs.Playing.{Playing, playing, ticked, says, after, Unrefused, all_states, state_of, PlayerShows, started}

-- a format is the one that its number stands for
number_back : (f : Format) → f ≡ format_from (format_number f)
number_back Flc = refl
number_back Fli = refl

-- a part of a prefix
part_prefix : (n from k : ℕ) (b : List ℕ) → from + k ≤ n → take k (drop from (take n b)) ≡ take k (drop from b)
part_prefix n zero k b h = take-take k n b (omega arith)
part_prefix zero (suc from) k b h = absurd (omega arith)
part_prefix (suc n) (suc from) k [] h = refl
part_prefix (suc n) (suc from) k (x ∷ xs) h = part_prefix n from k xs (omega arith)

-- frames that are met one after the other

module _ (z : Size) (b : List ℕ) where
  -- from offset at on they lead from s to each of the states
  pub data Plays : ℕ → State → List State → Type 0 where
    none : {at : ℕ} {s : State} → Plays at s []
    next : {at : ℕ} {s : State} {ts : List State} (from end : ℕ) (t : State) → one_frame Loose z b at s ≡ ran (Ok (frame_to from end)) t → Exact z t
        → end ≤ length b → Plays end t ts
        → Plays at s (t ∷ ts)

module _ (z : Size) (ok : size_fits z ≡ true) where
  -- what a frame that was read came to
  record WasRead (f : List ℕ) (s t : State) : Type 0 where
    pub accepted : (frame z f).answer ≡ Ok tt
    pub gave : played (frame z f) s ≡ t

  was_read : (f : List ℕ) (s t : State) → Exact z s → read_frame f z s ≡ leaves (told (Ok tt)) (lent_pair t) → WasRead f s t
  was_read f s t i e = by (frame z f).answer refl
    where
      by : (a : Answer) → (frame z f).answer ≡ a → WasRead f s t
      by (Ok u) d = record { accepted = d; gave = ap (λ (o : Outcome). o.memory.first) (sym (reads_played z ok f s i d) ∙ e) }
      by (Err r') d =
          let q = ap (λ (o : Outcome). o.said)
          (sym (read_by_lem f z s ok (enough_is (area z) s (omega (arith, i.picture.pixels)) (omega (arith, i.colours))) (Err (refused_at r'.0 r'.1)) d) ∙ e) in
          let k : ◌≡◌ {A = ℕ} 0 1 = cc in absurd (omega arith)

  -- frames that were read in the reel are played in all the bytes
  reads_play : (n : ℕ) (b : List ℕ) {at : ℕ} {s : State} {ts : List State} → Reads z (take n b) at s ts → Exact z s → Plays z b at s ts
  reads_play n b laps.none i = none
  reads_play n b {at} {s} (laps.next from end t step read rest) i =
      let inside = next_in Loose (take n b) at _ step in
      let long = length-take n b in
      let d = was_read (part (take n b) from end) s t i read in
      let e : part (take n b) from end ≡ part b from end = part_prefix n from (end - from) b (omega (arith, inside.1, inside.2, long)) in
      let x = subst (Exact z) d.gave (played_exact z (part (take n b) from end) s i) in
      next from end t
      (one_played Loose z b at s from end (next_prefix Loose n b at from end step) (ap (λ (f : List ℕ). (frame z f).answer) (sym e) ∙ d.accepted)
      ∙ ap (ran (Ok (frame_to from end))) (ap (λ (f : List ℕ). played (frame z f) s) (sym e) ∙ d.gave))
      x (omega (arith, inside.2, long)) (reads_play n b rest x)

-- a pair with a state stored at its front

module _ (z : Size) (lent s : State) (i : Exact z s) where
  front_of : front (area z) (refilled (area z) s lent) ≡ s
  front_of = ap₂ state (take_at s.picture (drop (area z) lent.picture) (area z) i.picture.pixels) (take_at s.palette (drop 768 lent.palette) 768 i.colours)

  refilled_again : (t : State) → refilled (area z) t (refilled (area z) s lent) ≡ refilled (area z) t lent
  refilled_again t = ap₂ (λ (p q : List ℕ). state (t.picture ++ p) (t.palette ++ q)) (behind s.picture lent.picture (area z) i.picture.pixels)
      (behind s.palette lent.palette 768 i.colours)
    where
      behind : (p q : List ℕ) (n : ℕ) → length p ≡ n → drop n (p ++ drop n q) ≡ drop n q
      behind p q n e = ap (λ (k : ℕ). drop k (p ++ drop n q)) (sym e) ∙ drop-append_seam p (drop n q)

  room_of : enough (area z) (refilled (area z) s lent) ≡ true
  room_of =
      enough_is (area z) (refilled (area z) s lent) (omega (arith, i.picture.pixels, length-append s.picture (drop (area z) lent.picture)))
      (omega (arith, i.colours, length-append s.palette (drop 768 lent.palette)))

-- the states of a lap

module _ {b : List ℕ} (reel : LeadsBack b) where
  abbrev z : Size
  z = reel.picture

  abbrev count : ℕ
  count = reel.count

  long_all : length (all_states reel) ≡ suc count
  long_all = omega (arith, reel.many, length-append reel.middle (reel.one ∷ []))

  -- by its place in the list
  state_at : (k : ℕ) → state_of reel (suc k) ≡ get_or (all_states reel) k reel.one
  state_at k = let e : suc k - 1 ≡ k = omega arith in ap (λ (n : ℕ). get_or (all_states reel) n reel.one) e

  -- the ring shows frame 1's state
  ring_state : state_of reel (suc count) ≡ reel.one
  ring_state = state_at count ∙ ap (λ (k : ℕ). get_or (all_states reel) k reel.one) (sym reel.many) ∙ get_or-append_seam reel.middle reel.one [] reel.one

  -- the frames behind frame k
  behind_state : (k : ℕ) → k ≤ count → drop k (all_states reel) ≡ state_of reel (suc k) ∷ drop (suc k) (all_states reel)
  behind_state k h = drop-cons (all_states reel) k reel.one (omega (arith, long_all))
      ∙ ap (λ (t : State). t ∷ drop (suc k) (all_states reel)) (sym (state_at k))

  -- A player that stands at frame k of the lap (the ring at frame 1), and the pair that shows it; first: the pair that was lent.
  pub record Standing (first : State) (x : Playing) : Type 0 where
    pub k : ℕ
    pub some : 1 ≤ k
    pub most : k ≤ count
    pub size_is : z ≡ player_size x.player
    pub frames_is : x.player.frames ≡ count
    pub second_is : x.player.second ≡ reel.second
    pub least_number : 1 ≤ x.player.number
    pub most_number : x.player.number ≤ suc count
    pub follows_is : follows x.player.number count ≡ suc k
    pub state_is : state_of reel x.player.number ≡ state_of reel k
    pub pair_is : x.pair ≡ refilled (area z) (state_of reel k) first
    pub within : x.player.place ≤ length b
    pub exact : Exact z (state_of reel k)
    pub plays : Plays z b x.player.place (state_of reel k) (drop k (all_states reel))

  -- the header is in range
  inside : ReelIn b z count reel.size
  inside = head_in Both b _ reel.head

  -- the frame that comes next
  record Ahead (at : ℕ) (s t : State) (ts : List State) : Type 0 where
    pub from : ℕ
    pub end : ℕ
    pub frame_is : one_frame Loose z b at s ≡ ran (Ok (frame_to from end)) t
    pub exact : Exact z t
    pub within : end ≤ length b
    pub rest : Plays z b end t ts

  ahead : {at : ℕ} {s t : State} {ts : List State} → Plays z b at s (t ∷ ts) → Ahead at s t ts
  ahead (next from end t e i w rest) = record { from = from; end = end; frame_is = e; exact = i; within = w; rest = rest }

  -- frame 1, and the lap behind it
  blank_start : Exact z (blank (area z))
  blank_start = blank_exact z (size_in_lem z inside.sized)

  record Lap : Type 0 where
    pub exact : Exact z reel.one
    pub within : reel.second ≤ length b
    pub plays : Plays z b reel.second reel.one (reel.middle ++ (reel.one ∷ []))

  lap : Lap
  lap =
      let f = ahead (reads_play z inside.sized reel.size b reel.reads blank_start) in
      let o = one_read z inside.sized b HEADER_BYTES (blank (area z)) blank_start f.from f.end reel.one f.frame_is in
      let q = sym o.step ∙ next_prefix Loose reel.size b HEADER_BYTES reel.first reel.second reel.frame_1 in
      let e = (frame_same f.from f.end reel.first reel.second q).1 in
      record { exact = f.exact; within = omega (arith, f.within, e); plays = subst (λ (n : ℕ). Plays z b n reel.one (reel.middle ++ (reel.one ∷ []))) e f.rest }

  module _ (first : State) (x : Playing) (v : Standing first x) where
    abbrev p : Player
    p = x.player

    next_one : Ahead p.place (state_of reel v.k) (state_of reel (suc v.k)) (drop (suc v.k) (all_states reel))
    next_one = ahead (subst (Plays z b p.place (state_of reel v.k)) (behind_state v.k v.most) v.plays)

    -- the frame that comes next is drawn
    draws : draw p b x.pair ≡ ran (Ok (frame_to next_one.from next_one.end)) (refilled (area z) (state_of reel (suc v.k)) first)
    draws =
        let t = state_of reel (suc v.k) in
        let room : enough (area z) x.pair ≡ true = ap (enough (area z)) v.pair_is ∙ room_of z first (state_of reel v.k) v.exact in
        let was : front (area z) x.pair ≡ state_of reel v.k = ap (front (area z)) v.pair_is ∙ front_of z first (state_of reel v.k) v.exact in
        sym (draw_one p b x.pair z v.size_is inside.sized room (record_fits p b v.within v.least_number (omega (arith, v.most_number, v.frames_is)))
        (Ok (frame_to next_one.from next_one.end)) t
        (sym (ap (one_frame Loose z b p.place) was ∙ next_one.frame_is)))
        ∙ ap (ran (Ok (frame_to next_one.from next_one.end))) (ap (refilled (area z) t) v.pair_is ∙ refilled_again z first (state_of reel v.k) v.exact t)

    -- the record after that
    abbrev drawn_on : Playing
    drawn_on = playing (standing p (drawn_then p) (place_after p next_one.end)) (refilled (area z) (state_of reel (suc v.k)) first)

    number_then : follows p.number p.frames % 2 ^ 64 ≡ suc v.k
    number_then = let e : follows p.number p.frames ≡ suc v.k = ap (follows p.number) v.frames_is ∙ v.follows_is in omega (arith, e, v.most, inside.few_frames)

    -- where the next frame is looked for then
    place_ring : v.k ≡ count → place_after p next_one.end ≡ reel.second
    place_ring e =
        let q : follows p.number p.frames ≡ suc p.frames = ap (follows p.number) v.frames_is ∙ v.follows_is ∙ omega (arith, e, v.frames_is) in
        ap (λ (t : Bool). cond t p.second next_one.end) (eq-eqb (follows p.number p.frames) (suc p.frames) q) ∙ v.second_is

    place_on : v.k < count → place_after p next_one.end ≡ next_one.end
    place_on h =
        let q : follows p.number p.frames ≡ suc v.k = ap (follows p.number) v.frames_is ∙ v.follows_is in
        ap (λ (t : Bool). cond t p.second next_one.end) (ne_eqb (follows p.number p.frames) (suc p.frames) (λ e. absurd (omega (arith, e, q, h, v.frames_is))))

    -- the ring was drawn, and the lap begins again
    ring_standing : v.k ≡ count → Standing first drawn_on
    ring_standing e =
        let number_is : follows p.number p.frames % 2 ^ 64 ≡ suc count = omega (arith, number_then, e) in
        let state_is : state_of reel (suc v.k) ≡ reel.one = ap (λ (n : ℕ). state_of reel (suc n)) e ∙ ring_state in
        record {
          k = 1;
          some = omega arith;
          most = inside.some_frames;
          size_is = v.size_is;
          frames_is = v.frames_is;
          second_is = v.second_is;
          least_number = omega (arith, number_is);
          most_number = omega (arith, number_is);
          follows_is = follows_ring (follows p.number p.frames % 2 ^ 64) count (omega (arith, number_is));
          state_is = ap (state_of reel) number_is ∙ ring_state;
          pair_is = ap (λ (t : State). refilled (area z) t first) state_is;
          within = omega (arith, place_ring e, lap.within);
          exact = lap.exact;
          plays = subst (λ (n : ℕ). Plays z b n reel.one (reel.middle ++ (reel.one ∷ []))) (sym (place_ring e)) lap.plays;
        }

    -- a frame of the lap was drawn
    on_standing : v.k < count → Standing first drawn_on
    on_standing h =
        record {
          k = suc v.k;
          some = omega arith;
          most = omega (arith, h);
          size_is = v.size_is;
          frames_is = v.frames_is;
          second_is = v.second_is;
          least_number = omega (arith, number_then);
          most_number = omega (arith, number_then, h);
          follows_is = follows_more (follows p.number p.frames % 2 ^ 64) count (omega (arith, number_then, h)) ∙ ap suc number_then;
          state_is = ap (state_of reel) number_then;
          pair_is = refl;
          within = omega (arith, place_on h, next_one.within);
          exact = next_one.exact;
          plays = subst (λ (n : ℕ). Plays z b n (state_of reel (suc v.k)) (drop (suc v.k) (all_states reel))) (sym (place_on h)) next_one.rest;
        }

    drawn_standing : Standing first drawn_on
    drawn_standing =
        by_test (λ _. Standing first drawn_on) (eqb v.k count) (λ e. ring_standing (eqb-true v.k count e)) (λ e. on_standing (below (eqb-false v.k count e)))
      where
        below : (v.k ≡ count → ⊥) → v.k < count
        below n = by_test (λ _. v.k < count) (ltb v.k count) (λ e. ltb-true v.k count e) (λ e. absurd (n (omega (arith, ltb-false v.k count e, v.most))))

    -- the clock was set back
    back_standing : (r : ℕ) → Standing first (playing (standing p (stands p.number r) p.place) x.pair)
    back_standing r =
        record {
          k = v.k;
          some = v.some;
          most = v.most;
          size_is = v.size_is;
          frames_is = v.frames_is;
          second_is = v.second_is;
          least_number = v.least_number;
          most_number = v.most_number;
          follows_is = v.follows_is;
          state_is = v.state_is;
          pair_is = v.pair_is;
          within = v.within;
          exact = v.exact;
          plays = v.plays;
        }

    -- one tick: it is not refused, and a frame of the lap stands
    record Goes (r : ℕ) : Type 0 where
      pub event : ℕ
      pub said : says b r x ≡ done (event ∷ [])
      pub stands : Standing first (ticked b r x)

    goes : (r : ℕ) → Goes r
    goes r = by (tick_is p b r x.pair)
      where
        shows : (o : PlayerOutcome) → tick p b r x.pair ≡ o → Standing first (playing o.player o.left.memory.first) → Standing first (ticked b r x)
        shows o e w = subst (λ (y : PlayerOutcome). Standing first (playing y.player y.left.memory.first)) (sym e) w

        by : TickIs p b r x.pair (tick p b r x.pair) (stepped p.frames p.speed.0 (clock_of p) r).stands → Goes r
        by (idle e c) = record { event = NOTHING; said = ap (λ (o : PlayerOutcome). o.left.said) e; stands = shows _ e v }
        by (back e c) = record { event = SET_BACK; said = ap (λ (o : PlayerOutcome). o.left.said) e; stands = shows _ e (back_standing r) }
        by (drawn last end t d e c) =
            let q = sym d ∙ draws in
            let ends = (frame_same last end next_one.from next_one.end (ap (λ (y : Progress). y.result) q)).1 in
            record {
              event = DRAWN;
              said = ap (λ (o : PlayerOutcome). o.left.said) e;
              stands =
                  shows _ (e ∙ ap₂ (λ (n : ℕ) (u : State). plays (standing p (drawn_then p) (place_after p n))
                  (leaves (done (DRAWN ∷ [])) (lent_pair u))) ends (ap (λ (y : Progress). y.after) q)) drawn_standing;
            }
        by (ticks.refused f place t d e) = let q = ap (λ (y : Progress). y.result) (sym d ∙ draws) in let i : ◌≡◌ {A = ℕ} 0 1 = cc in absurd (omega arith)

  -- and any list of them
  module _ (first : State) where
    after_standing : (rs : List ℕ) (x : Playing) → Standing first x → Standing first (after b rs x)
    unfolding after
    after_standing [] x v = v
    after_standing (r ∷ rs) x v = after_standing rs (ticked b r x) (goes first x v r).stands

    all_unrefused : (rs : List ℕ) (x : Playing) → Standing first x → Unrefused b rs x
    all_unrefused [] x v = shown.none
    all_unrefused (r ∷ rs) x v = let g = goes first x v r in shown.next g.event g.said (all_unrefused rs (ticked b r x) g.stands)

    standing_shows : (x : Playing) → Standing first x → PlayerShows b first x
    standing_shows x v =
        record {
          reel = reel;
          never_refused = λ rs. all_unrefused rs x v;
          stands = λ rs. let w = after_standing rs x v in (w.least_number, w.most_number);
          shows = λ rs. let w = after_standing rs x v in w.pair_is ∙ ap (λ (t : State). refilled (area z) t first) (sym w.state_is);
        }

    -- the player as it was started
    placed_standing : (now : ℕ) → Standing first (playing (placed b now) (refilled (area z) reel.one first))
    placed_standing now =
        subst (λ (p : Player). Standing first (playing p (refilled (area z) reel.one first)))
        (placed_at_lem b now (head_with z count reel.size reel.speed) reel.head (Ok (frame_to reel.first reel.second)) reel.frame_1)
        (record {
          k = 1;
          some = omega arith;
          most = inside.some_frames;
          size_is = ap (λ (f : Format). size_of f z.width z.height) (number_back z.format);
          frames_is = refl;
          second_is = refl;
          least_number = omega arith;
          most_number = omega arith;
          follows_is = follows_more 1 count inside.some_frames;
          state_is = refl;
          pair_is = refl;
          within = lap.within;
          exact = lap.exact;
          plays = lap.plays;
        })

-- what a start that is done has found

check_says : (b : List ℕ) (first second : State) (v : List ℕ) → (check_reel b first second).said ≡ done v → v ≡ []
unfolding check_reel
check_says b first second v e = by (head_of Both b) e
  where
    answered : (a : Answer) → told a ≡ done v → v ≡ []
    answered (Ok u) q = cc
    answered (Err r') q = let i : ◌≡◌ {A = ℕ} 0 1 = cc in absurd (omega arith)

    by : (x : Headed) → (after_head b x first second).said ≡ done v → v ≡ []
    by (Err r) q = answered (Err (refused_at r 0)) q
    by (Ok h) q =
        let x = play_all Loose h.frames h.picture (take h.size b) in
        cond_holds (λ (o : Outcome). o.said ≡ done v → v ≡ []) (enough (area h.picture) first && enough (area h.picture) second)
        (checked_by (area h.picture) x first second)
        (refuse ShortSlice 0 (lent_pairs first second))
        (answered (ring_answer x)) (answered (Err (refused_at ShortSlice 0))) q

module _ (b : List ℕ) (now : ℕ) (first second : State) (e : (start_player b now first second).left.said ≡ done []) where
  -- the check was done
  start_checked : (check_reel b first second).said ≡ done []
  unfolding start_player
  start_checked = by (check_reel b first second).said refl e
    where
      by : (s : Said) → (check_reel b first second).said ≡ s → (started_by b now first (check_reel b first second) s).left.said ≡ done []
          → (check_reel b first second).said ≡ done []
      by (done v) q f = q ∙ ap done (check_says b first second v q)
      by (refused n place) q f = f

  -- the reel leads back, and the player stands at its frame 1
  pub record Begun : Type 0 where
    pub reel : LeadsBack b
    pub player_is : (start_player b now first second).player ≡ placed b now
    pub stands : Standing reel first (started b now first second)

  pub begun : Begun
  begun =
      let a = accepted_leads_back b first second start_checked in
      let n = area a.leads.picture in
      let s = refilled n a.leads.one first in
      let t = refilled n a.leads.one second in
      let q = start_done b now first second s t (sym a.pairs) in
      record {
        reel = a.leads;
        player_is = sym (ap (λ (o : PlayerOutcome). o.player) q);
        stands = subst (λ (o : PlayerOutcome). Standing a.leads first (playing o.player o.left.memory.first)) q (placed_standing a.leads first now);
      }

  pub player_shows : PlayerShows b first (started b now first second)
  player_shows = standing_shows begun.reel first (started b now first second) begun.stands
