-- Laws of starting a player and of a tick, by the cases of their definitions.
use mathlib.Core.Path.{◌≡◌, refl, sym, ap, ap₂, ◌∙◌}
use mathlib.Core.List.{List, [], ◌∷◌}
use mathlib.Core.Bool.{true, false}
use Prim.Native.Nat.{ℕ, suc, ◌≤◌}
use native.Mathlib.Omega.{arith}
use lib.ListN.{length, take, take-append-drop}
use borrow.Author.Tests.{le-leb}
use Rattle.std.specs.Prelude.{Ok, Err}
use Rattle.words.specs.Words.{require◌else◌then◌}
use Rattle.words.proofs.Tests.{cond_holds}
use Rattle.format.specs.Limits.{size_fits, area}
use Rattle.format.specs.declared.Size.{Size}
use Rattle.answer.specs.Answer.{done, refused, number, refused_at, placed as answered}
use Rattle.answer.specs.declared.Refused.{Refused}
use Rattle.answer.specs.declared.Refusal.TheVariants.{ShortSlice, BadSize, Cut}
use Rattle.state.specs.State.{State, state, blank, enough, front, refilled}
use Rattle.state.specs.Outcome.{Memory, Outcome, lent_pair, lent_pairs, leaves}
use Rattle.chunks.specs.declared.Layout.TheVariants.{Loose}
use Rattle.chunks.specs.Spans.{HEADER_BYTES, next_at, frame_to, Next}
use Rattle.chunks.specs.declared.Frame as chunk
use Rattle.reel_header.specs.Head.{head_of, head_with, Headed}
use Rattle.reel_header.specs.declared.Head.{Head}
use Rattle.reel_header.specs.declared.Takes.TheVariants.{Both}
use Rattle.reel_play.specs.Play.{Progress, ran, one_frame, Shown, play_all, Ran}
use Rattle.reel_play.proofs.Laws.{one_fault, one_kept, all_first, all_stopped}
use Rattle.reel_check.specs.Check.{check_reel}
use Rattle.reel_check.proofs.Passed.{CheckPassed, check_passed}
use Rattle.board_clock.specs.declared.Due.{Due}
use Rattle.board_clock.specs.declared.Due.TheVariants.{Nothing, SetBack, Frame}
use Rattle.board_clock.specs.declared.Stands.{Stands}
use Rattle.board_clock.specs.declared.Turn.{Turn}
use Rattle.board_clock.specs.Clock.{stepped}
use Rattle.board_player.specs.declared.Player.{Player}
use Rattle.board_player.specs.Player.{NOTHING, DRAWN, no_player, player_size, standing, place_after, PlayerOutcome, plays}
use Rattle.board_player.specs.Ticking.{record_ok, drawn_into, draw, drawn_by, tick_by, clock_of, tick}
use Rattle.board_player.specs.Starting.{placed_by, placed_at, placed, showing_by, showing_first, started_by, start_player}

-- a pair whose front is stored where it stands is the same
front_refilled : (n : ℕ) (lent : State) → refilled n (front n lent) lent ≡ lent
front_refilled n lent = ap₂ state (take-append-drop n lent.picture) (take-append-drop 768 lent.palette)

-- draw

module _ (p : Player) (b : List ℕ) where
  pub record_fits : p.place ≤ length b → 1 ≤ p.number → p.number ≤ suc p.frames → record_ok p b ≡ true
  record_fits h k l = rw (le-leb p.place (length b) h, le-leb 1 p.number k, le-leb p.number (suc p.frames) l)

  module _ (lent : State) where
    -- the definition over a size that is known to be the record's
    abbrev draw_in : Size → Progress
    draw_in z =
        require size_fits z else ran (Err (refused_at BadSize 0)) lent then
        require enough (area z) lent else ran (Err (refused_at ShortSlice 0)) lent then
        require record_ok p b else ran (Err (refused_at Cut 0)) lent then
        let r = one_frame Loose z b p.place (front (area z) lent) in
        drawn_into (area z) lent r.result r.after

    module _ (z : Size) (is : z ≡ player_size p) where
      draw_in_lem : draw_in z ≡ draw p b lent
      unfolding draw
      draw_in_lem = ap draw_in is

      pub draw_size : size_fits z ≡ false → ran (Err (refused_at BadSize 0)) lent ≡ draw p b lent
      draw_size e = let d : ran (Err (refused_at BadSize 0)) lent ≡ draw_in z = rw e in d ∙ draw_in_lem

      module _ (ok : size_fits z ≡ true) where
        pub draw_short : enough (area z) lent ≡ false → ran (Err (refused_at ShortSlice 0)) lent ≡ draw p b lent
        draw_short e = let d : ran (Err (refused_at ShortSlice 0)) lent ≡ draw_in z = rw (ok, e) in d ∙ draw_in_lem

        module _ (room : enough (area z) lent ≡ true) where
          pub draw_record : record_ok p b ≡ false → ran (Err (refused_at Cut 0)) lent ≡ draw p b lent
          draw_record e = let d : ran (Err (refused_at Cut 0)) lent ≡ draw_in z = rw (ok, room, e) in d ∙ draw_in_lem

          -- the frame came to r and left s at the front of the pair
          pub draw_one : record_ok p b ≡ true → (r : Ran) (s : State) → ran r s ≡ one_frame Loose z b p.place (front (area z) lent)
              → ran r (refilled (area z) s lent) ≡ draw p b lent
          draw_one e r s f =
              let x = one_frame Loose z b p.place (front (area z) lent) in
              let d : drawn_into (area z) lent x.result x.after ≡ draw_in z = rw (ok, room, e) in
              into r s f ∙ ap (λ (y : Progress). drawn_into (area z) lent y.result y.after) f ∙ d ∙ draw_in_lem
            where
              into : (r : Ran) (s : State) → ran r s ≡ one_frame Loose z b p.place (front (area z) lent) → ran r (refilled (area z) s lent)
                  ≡ drawn_into (area z) lent r s
              into (Ok at) s f = refl
              into (Err e) s f =
                  ap (λ (t : State). ran (Err e) (refilled (area z) t lent)) (one_kept Loose z b p.place (front (area z) lent) e s (sym f))
                  ∙ ap (ran (Err e)) (front_refilled (area z) lent)

    -- a refused draw leaves the pair as it was
    pub draw_kept : (e : Refused) (t : State) → draw p b lent ≡ ran (Err e) t → t ≡ lent
    unfolding draw
    draw_kept e t q =
        let n = area (player_size p) in
        let r = one_frame Loose (player_size p) b p.place (front n lent) in
        cond_holds Keeps (size_fits (player_size p)) _ _
        (cond_holds Keeps (enough n lent) _ _ (cond_holds Keeps (record_ok p b) _ _ (into n r.result r.after) left) left)
        left q
      where
        Keeps : Progress → Type 0
        Keeps x = x ≡ ran (Err e) t → t ≡ lent

        left : {r : Ran} → ran r lent ≡ ran (Err e) t → t ≡ lent
        left l = sym (ap (λ (x : Progress). x.after) l)

        into : (n : ℕ) (r : Ran) (s : State) → drawn_into n lent r s ≡ ran (Err e) t → t ≡ lent
        into n (Err d) s l = left l
        into n (Ok at) s l = let k = ap (λ (x : Progress). x.result) l in let i : ◌≡◌ {A = ℕ} 0 1 = cc in absurd (omega arith)

-- tick

module _ (p : Player) (b : List ℕ) (reading : ℕ) (lent : State) (t : Turn) (is : t ≡ stepped p.frames p.speed.0 (clock_of p) reading) where
  pub tick_by_lem : (d : Due) → t.due ≡ d → tick_by p b lent d t.stands ≡ tick p b reading lent
  unfolding tick
  tick_by_lem d e = ap (λ (x : Due). tick_by p b lent x t.stands) (sym e) ∙ ap (λ (x : Turn). tick_by p b lent x.due x.stands) is

  module _ (due : t.due ≡ Frame) where
    pub tick_refused : (e : Refused) (s : State) → ran (Err e) s ≡ draw p b lent
        → plays p (leaves (refused (number e.0) e.1) (lent_pair s)) ≡ tick p b reading lent
    tick_refused e s q =
        ap (λ (x : State). plays p (leaves (refused (number e.0) e.1) (lent_pair x))) (draw_kept p b lent e s (sym q))
        ∙ ap (λ (x : Progress). drawn_by p t.stands lent x.result x.after) q ∙ tick_by_lem Frame due

    pub tick_drawn : (at : chunk.Frame) (s : State) → ran (Ok at) s ≡ draw p b lent
        → plays (standing p t.stands (place_after p at.end)) (leaves (done (DRAWN ∷ [])) (lent_pair s)) ≡ tick p b reading lent
    tick_drawn at s q = ap (λ (x : Progress). drawn_by p t.stands lent x.result x.after) q ∙ tick_by_lem Frame due

-- a tick that tells nothing leaves the record as it was

module _ (p q : Player) (b : List ℕ) (lent : State) (m : Memory) where
  abbrev told_by : ℕ → PlayerOutcome
  told_by n = plays q (leaves (done (n ∷ [])) m)

  drawn_tells : (s : Stands) (r : Ran) (t : State) → told_by NOTHING ≡ drawn_by p s lent r t → q ≡ p
  drawn_tells s (Ok f) t e = let q = ap (λ (o : PlayerOutcome). o.left.said) e in let z : ◌≡◌ {A = ℕ} 0 1 = cc in absurd (omega arith)
  drawn_tells s (Err r) t e = let q = ap (λ (o : PlayerOutcome). o.left.said) e in let z : ◌≡◌ {A = ℕ} 0 1 = cc in absurd (omega arith)

  quiet_kept : (s : Stands) (d : Due) → told_by NOTHING ≡ tick_by p b lent d s → q ≡ p
  quiet_kept s Nothing e = ap (λ (o : PlayerOutcome). o.player) e
  quiet_kept s SetBack e = let q = ap (λ (o : PlayerOutcome). o.left.said) e in let z : ◌≡◌ {A = ℕ} 0 2 = cc in absurd (omega arith)
  quiet_kept s Frame e = drawn_tells s (draw p b lent).result (draw p b lent).after e

  pub tick_quiet : (reading : ℕ) → told_by NOTHING ≡ tick p b reading lent → plays p (leaves (done (NOTHING ∷ [])) m) ≡ tick p b reading lent
  unfolding tick
  tick_quiet reading e =
      let t = stepped p.frames p.speed.0 (clock_of p) reading in
      ap (λ (x : Player). plays x (leaves (done (NOTHING ∷ [])) m)) (sym (quiet_kept t.stands t.due e)) ∙ e

-- placed

module _ (b : List ℕ) (reading : ℕ) (h : Head) (is : head_of Both b ≡ Ok h) where
  pub placed_at_lem : (x : Next) → next_at Loose (take h.size b) HEADER_BYTES ≡ x → placed_by h.picture h.frames h.speed reading x ≡ placed b reading
  unfolding placed
  placed_at_lem x r = ap (placed_by h.picture h.frames h.speed reading) (sym r) ∙ sym (ap (placed_at b reading) is)

-- start_player

-- after an accepted check the first pair shows frame 1
shows_first : (b : List ℕ) (first : State) (h : Head) → head_of Both b ≡ Ok h
    → refilled (area h.picture) (play_all Loose h.frames h.picture (take h.size b)).one first ≡ showing_first b first
unfolding showing_first
shows_first b first h q =
    ap (λ (s : State). refilled (area h.picture) s first) (all_first Loose h.frames h.picture (take h.size b))
    ∙ sym (ap (λ (x : Headed). showing_by b x first) q)

module _ (b : List ℕ) (reading : ℕ) (first second : State) (s t : State) where
  pub start_refused : (n place : ℕ) → leaves (refused n place) (lent_pairs s t) ≡ check_reel b first second
      → plays no_player (leaves (refused n place) (lent_pairs s t)) ≡ start_player b reading first second
  unfolding start_player
  start_refused n place e = ap (λ (o : Outcome). started_by b reading first o o.said) e

  module _ (e : leaves (done []) (lent_pairs s t) ≡ check_reel b first second) where
    accepted : CheckPassed b first second (check_reel b first second)
    accepted = check_passed b first second (ap (λ (o : Outcome). o.said) (sym e))

    -- the reel has a header then
    pub start_headed : (r : Refused) → answered 0 (head_of Both b) ≡ Err r → ⊥
    start_headed r q =
        let k = sym q ∙ ap (λ (x : Headed). answered 0 x) accepted.header in
        let z : ◌≡◌ {A = ℕ} 0 1 = cc in
        absurd (omega arith)

    -- and a frame 1
    pub start_framed : (h : Head) → head_of Both b ≡ Ok h → (r : Refused) → next_at Loose (take h.size b) HEADER_BYTES ≡ Err r → ⊥
    start_framed h is r q =
        let c = accepted in
        let k : ◌≡◌ {A = Headed} (Ok h) (Ok (head_with c.picture c.count c.size c.speed)) = sym is ∙ c.header in
        let same : h ≡ head_with c.picture c.count c.size c.speed = cc in
        let stopped = all_stopped Loose c.count c.picture (take c.size b) (blank (area c.picture)) r
        (one_fault Loose c.picture (take c.size b) HEADER_BYTES (blank (area c.picture)) r
        (ap (λ (x : Head). next_at Loose (take x.size b) HEADER_BYTES) (sym same) ∙ q)) in
        let no : ◌≡◌ {A = Ran} (Err r) (Ok (frame_to c.played.ring c.played.end)) = sym (ap (λ (x : Shown). x.result) stopped) ∙ c.played.to in
        let z : ◌≡◌ {A = ℕ} 0 1 = cc in
        absurd (omega arith)

    -- both pairs hold frame 1's state then
    pub start_done : plays (placed b reading) (leaves (done []) (lent_pairs s t)) ≡ start_player b reading first second
    unfolding start_player
    start_done =
        let c = accepted in
        let f = ap (λ (o : Outcome). o.memory.first) (e ∙ c.pairs) ∙ shows_first b first (head_with c.picture c.count c.size c.speed) c.header in
        ap (λ (x : State). plays (placed b reading) (leaves (done []) (lent_pairs x t))) f
        ∙ ap (λ (o : Outcome). started_by b reading first o o.said) e
