-- `replay_is_live`: the replay's words are the numbers that a live player has after each tick.
-- The idea: a tick that isn't refused moves number and last draw time by the clock alone, and keeps frames and speed.
use mathlib.Core.Path.{◌≡◌, refl, sym, ap, ap₂, ◌∙◌, subst}
use mathlib.Core.List.{List, [], ◌∷◌}
use Prim.Native.Nat.{ℕ}
use native.Mathlib.Omega.{arith}
use Rattle.std.specs.Prelude.{Ok}
use Rattle.answer.specs.Answer.{done}
use Rattle.state.specs.State.{State}
use Rattle.state.specs.Outcome.{fitted}
use Rattle.reel_header.specs.declared.Takes.TheVariants.{Both}
use Rattle.reel_header.proofs.Laws.{head_in}
use Rattle.board_clock.specs.declared.Stands.{Stands}
use Rattle.board_clock.specs.Clock.{stepped}
use Rattle.board_clock.specs.Replay.{numbers}
use Rattle.board_clock.proofs.Laws.{numbers_none, numbers_more, replay_fitted}
use Rattle.board_player.specs.declared.Player.{Player}
use Rattle.board_player.specs.Player.{PlayerOutcome}
use Rattle.board_player.specs.Ticking.{clock_of, tick}
use Rattle.board_player.specs.Starting.{placed_by, start_player}
use Rattle.board_player.proofs.Laws.{placed_at_lem}
use Rattle.board_laws.proofs.Ticks.{TickIs, idle, back, drawn, refused, tick_is}
use Rattle.board_laws.proofs.Shows.{begun, player_shows}
use Rattle.board_laws.specs.Playing.{Playing, ticked, stood, Unrefused, next, started, ReplayIsLive}
use Rattle.chunks.specs.Spans.{frame_to}
use Rattle.reel_header.specs.Head.{head_with}

-- what a tick that isn't refused does to the record's clock
pub record Clocked (p : Player) (r : ℕ) (q : Player) : Type 0 where
  pub clock : clock_of q ≡ (stepped p.frames p.speed.0 (clock_of p) r).stands
  pub frames : q.frames ≡ p.frames
  pub speed : q.speed.0 ≡ p.speed.0

pub clocked : (b : List ℕ) (p : Player) (r : ℕ) (lent : State) (v : List ℕ) → (tick p b r lent).left.said ≡ done v → Clocked p r (tick p b r lent).player
clocked b p r lent v said = by (tick_is p b r lent)
  where
    from : (o : PlayerOutcome) → tick p b r lent ≡ o → Clocked p r o.player → Clocked p r (tick p b r lent).player
    from o e c = subst (λ (y : PlayerOutcome). Clocked p r y.player) (sym e) c

    by : TickIs p b r lent (tick p b r lent) (stepped p.frames p.speed.0 (clock_of p) r).stands → Clocked p r (tick p b r lent).player
    by (idle e c) = from _ e (record { clock = sym c; frames = refl; speed = refl })
    by (back e c) = from _ e (record { clock = sym c; frames = refl; speed = refl })
    by (drawn last end t d e c) = from _ e (record { clock = sym c; frames = refl; speed = refl })
    by (refused f place t d e) = let q = sym (ap (λ (o : PlayerOutcome). o.left.said) e) ∙ said in let i : ◌≡◌ {A = ℕ} 0 1 = cc in absurd (omega arith)

-- any player, over readings at which no tick is refused
pub live_numbers : (b : List ℕ) (rs : List ℕ) (x : Playing) → Unrefused b rs x → stood b rs x ≡ numbers x.player.frames x.player.speed.0 (clock_of x.player) rs
unfolding stood
live_numbers b [] x u = sym (numbers_none x.player.frames x.player.speed.0 (clock_of x.player))
live_numbers b (r ∷ rs) x (next event said u) =
    let c = clocked b x.player r x.pair (event ∷ []) said in
    ap₂ (λ (s : Stands) (ns : List ℕ). s.number ∷ ns) c.clock
    (live_numbers b rs (ticked b r x) u
    ∙ ap₂ (λ (f s : ℕ). numbers f s (clock_of (ticked b r x).player) rs) c.frames c.speed
    ∙ ap (λ (s : Stands). numbers x.player.frames x.player.speed.0 s rs) c.clock)
    ∙ sym (numbers_more x.player.frames x.player.speed.0 (clock_of x.player) r rs)

module _ (b : List ℕ) (now : ℕ) (one two : State) (e : (start_player b now one two).left.said ≡ done []) where
  pub replay_is_live : ReplayIsLive b now (started b now one two)
  replay_is_live =
      let g = begun b now one two e in
      let reel = g.reel in
      let z = reel.picture in
      let i = head_in Both b _ reel.head in
      let p : (start_player b now one two).player ≡ placed_by z reel.count reel.speed now (Ok (frame_to reel.first reel.second))
      = g.player_is ∙ sym (placed_at_lem b now (head_with z reel.count reel.size reel.speed) reel.head (Ok (frame_to reel.first reel.second)) reel.frame_1) in
      record {
        reel = reel;
        words = λ rs out. sym (replay_fitted reel.speed.0 reel.count now rs out i.some_frames i.few_frames)
            ∙ ap (λ (ns : List ℕ). fitted ns out)
            (sym (live_numbers b rs (started b now one two) ((player_shows b now one two e).never_refused rs)
            ∙ ap (λ (p : Player). numbers p.frames p.speed.0 (clock_of p) rs) p));
      }
