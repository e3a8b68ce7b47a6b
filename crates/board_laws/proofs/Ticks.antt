-- What one tick comes to, case by case.
use mathlib.Core.Path.{◌≡◌, refl, sym, ap, ◌∙◌}
use mathlib.Core.List.{List, [], ◌∷◌}
use Prim.Native.Nat.{ℕ, ◌+◌, ◌%◌, ◌^◌}
use Rattle.std.specs.Prelude.{Ok, Err}
use Rattle.answer.specs.Answer.{done, refused_at}
use Rattle.answer.specs.declared.Refusal.{Refusal}
use Rattle.state.specs.State.{State}
use Rattle.state.specs.Outcome.{lent_pair, leaves}
use Rattle.reel_play.specs.Play.{Progress, ran, Ran}
use Rattle.board_clock.specs.declared.Due.{Due}
use Rattle.board_clock.specs.declared.Due.TheVariants.{Nothing, Frame, SetBack}
use Rattle.board_clock.specs.declared.Stands.{Stands}
use Rattle.board_clock.specs.declared.Turn.{Turn}
use Rattle.board_clock.specs.Clock.{due, follows, stands, stepped_by, stepped}
use Rattle.board_clock.proofs.Laws.{step_by}
use Rattle.board_player.specs.declared.Player.{Player}
use Rattle.board_player.specs.Player.{NOTHING, DRAWN, SET_BACK, standing, place_after, PlayerOutcome, plays, keeps}
use Rattle.board_player.specs.Ticking.{draw, drawn_by, clock_of, tick}
use Rattle.board_player.proofs.Laws.{tick_by_lem, tick_drawn}
use Rattle.chunks.specs.Spans.{frame_to}

-- the frame that comes next, drawn when its time came
abbrev pub drawn_then : Player → Stands
drawn_then p = stands (follows p.number p.frames % 2 ^ 64) ((p.last + p.speed.0) % 2 ^ 32)

module _ (p : Player) (b : List ℕ) (r : ℕ) (lent : State) where
  -- o is what a tick leaves; clock: what stands by the clock alone
  pub data TickIs (o : PlayerOutcome) (clock : Stands) : Type 0 where
    idle : o ≡ plays p (leaves (done (NOTHING ∷ [])) (lent_pair lent)) → clock ≡ clock_of p → TickIs o clock
    back : o ≡ plays (standing p (stands p.number r) p.place) (leaves (done (SET_BACK ∷ [])) (lent_pair lent)) → clock ≡ stands p.number r → TickIs o clock
    drawn : (last end : ℕ) (t : State) → draw p b lent ≡ ran (Ok (frame_to last end)) t
        → o ≡ plays (standing p (drawn_then p) (place_after p end)) (leaves (done (DRAWN ∷ [])) (lent_pair t)) → clock ≡ drawn_then p → TickIs o clock
    refused : (e : Refusal) (place : ℕ) (t : State) → draw p b lent ≡ ran (Err (refused_at e place)) t → o ≡ keeps p e place (lent_pair lent) → TickIs o clock

  pub tick_is : TickIs (tick p b r lent) (stepped p.frames p.speed.0 (clock_of p) r).stands
  tick_is = by (due p.speed.0 p.last r) refl
    where
      by : (d : Due) → d ≡ due p.speed.0 p.last r → TickIs (tick p b r lent) (stepped p.frames p.speed.0 (clock_of p) r).stands
      by d e = go d (step_by p.frames p.speed.0 (clock_of p) r d e)
        where
          drawing : stepped_by p.frames p.speed.0 (clock_of p) r Frame ≡ stepped p.frames p.speed.0 (clock_of p) r → (x : Ran) (t : State)
              → draw p b lent ≡ ran x t
              → TickIs (tick p b r lent) (stepped p.frames p.speed.0 (clock_of p) r).stands
          drawing q (Err r') t i =
              refused r'.0 r'.1 t i (sym (tick_by_lem p b r lent (stepped_by p.frames p.speed.0 (clock_of p) r Frame) q Frame refl)
              ∙ ap (λ (y : Progress). drawn_by p (drawn_then p) lent y.result y.after) i)
          drawing q (Ok p') t i = drawn p'.from p'.end t i
              (sym (tick_drawn p b r lent (stepped_by p.frames p.speed.0 (clock_of p) r Frame) q refl p' t (sym i))) (sym (ap (λ (t : Turn). t.stands) q))

          go : (d : Due) → stepped_by p.frames p.speed.0 (clock_of p) r d ≡ stepped p.frames p.speed.0 (clock_of p) r
              → TickIs (tick p b r lent) (stepped p.frames p.speed.0 (clock_of p) r).stands
          go Nothing q = idle (sym (tick_by_lem p b r lent (stepped_by p.frames p.speed.0 (clock_of p) r Nothing) q Nothing refl))
              (sym (ap (λ (t : Turn). t.stands) q))
          go SetBack q = back (sym (tick_by_lem p b r lent (stepped_by p.frames p.speed.0 (clock_of p) r SetBack) q SetBack refl))
              (sym (ap (λ (t : Turn). t.stands) q))
          go Frame q = drawing q (draw p b lent).result (draw p b lent).after refl
