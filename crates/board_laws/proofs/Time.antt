-- `keeps_time`: without a clock set back the last draw time is the start plus the draws times the speed, round the roll-over, however late the ticks come.
-- The idea: a tick that draws adds the speed to the last draw time, and one at which nothing is due keeps it.
use mathlib.Core.Path.{◌≡◌, refl, sym, ap, ap₂, ◌∙◌}
use mathlib.Core.List.{List, [], ◌∷◌}
use Prim.Native.Nat.{ℕ, ◌+◌, ◌*◌, ◌%◌, ◌^◌, ◌<◌}
use native.Mathlib.Omega.{arith}
use native.Mathlib.Nat.{zero-mul, suc-mul}
use Rattle.answer.specs.Answer.{done}
use Rattle.board_clock.specs.Clock.{stepped}
use Rattle.board_player.specs.declared.Player.{Player}
use Rattle.board_player.specs.Player.{NOTHING, DRAWN, PlayerOutcome}
use Rattle.board_player.specs.Ticking.{clock_of, tick}
use Rattle.board_laws.proofs.Ticks.{TickIs, idle, back, drawn, refused, tick_is}
use Rattle.board_laws.specs.Playing.{Playing, ticked, says, after, Steady}
use Rattle.board_laws.specs.Playing as steady

module _ (b : List ℕ) (x : Playing) (r : ℕ) where
  abbrev p : Player
  p = x.player

  -- what a tick that says so does to the last draw time
  record Timed (last : ℕ) : Type 0 where
    pub last_is : (ticked b r x).player.last ≡ last
    pub speed_is : (ticked b r x).player.speed.0 ≡ p.speed.0

  timed : (o : PlayerOutcome) → tick p b r x.pair ≡ o → o.player.speed.0 ≡ p.speed.0 → Timed o.player.last
  timed o e s = record { last_is = ap (λ (y : PlayerOutcome). y.player.last) e; speed_is = ap (λ (y : PlayerOutcome). y.player.speed.0) e ∙ s }

  idle_keeps : says b r x ≡ done (NOTHING ∷ []) → Timed p.last
  idle_keeps said = by (tick_is p b r x.pair)
    where
      by : TickIs p b r x.pair (tick p b r x.pair) (stepped p.frames p.speed.0 (clock_of p) r).stands → Timed p.last
      by (idle e c) = timed _ e refl
      by (back e c) = let q = sym (ap (λ (o : PlayerOutcome). o.left.said) e) ∙ said in let i : ◌≡◌ {A = ℕ} 2 0 = cc in absurd (omega arith)
      by (drawn last end t d e c) = let q = sym (ap (λ (o : PlayerOutcome). o.left.said) e) ∙ said in let i : ◌≡◌ {A = ℕ} 1 0 = cc in absurd (omega arith)
      by (refused f place t d e) = let q = sym (ap (λ (o : PlayerOutcome). o.left.said) e) ∙ said in let i : ◌≡◌ {A = ℕ} 0 1 = cc in absurd (omega arith)

  drawn_adds : says b r x ≡ done (DRAWN ∷ []) → Timed ((p.last + p.speed.0) % 2 ^ 32)
  drawn_adds said = by (tick_is p b r x.pair)
    where
      by : TickIs p b r x.pair (tick p b r x.pair) (stepped p.frames p.speed.0 (clock_of p) r).stands → Timed ((p.last + p.speed.0) % 2 ^ 32)
      by (idle e c) = let q = sym (ap (λ (o : PlayerOutcome). o.left.said) e) ∙ said in let i : ◌≡◌ {A = ℕ} 0 1 = cc in absurd (omega arith)
      by (back e c) = let q = sym (ap (λ (o : PlayerOutcome). o.left.said) e) ∙ said in let i : ◌≡◌ {A = ℕ} 2 1 = cc in absurd (omega arith)
      by (drawn last end t d e c) = timed _ e refl
      by (refused f place t d e) = let q = sym (ap (λ (o : PlayerOutcome). o.left.said) e) ∙ said in let i : ◌≡◌ {A = ℕ} 0 1 = cc in absurd (omega arith)

later : (last speed t : ℕ) → ((last + speed) % 2 ^ 32 + t) % 2 ^ 32 ≡ (last + (t + speed)) % 2 ^ 32
later last speed t = omega arith

-- the last draw time is a number of 32 bits, as in every record
pub keeps_time : (b : List ℕ) {rs : List ℕ} {n : ℕ} {x : Playing} → Steady b rs n x → x.player.last < 2 ^ 32
    → (after b rs x).player.last ≡ (x.player.last + n * x.player.speed.0) % 2 ^ 32
unfolding after
keeps_time b {x = x} steady.none h = let e : 0 * x.player.speed.0 ≡ 0 = zero-mul x.player.speed.0 in omega (arith, e)
keeps_time b (steady.idle {x} {r} {rs} {n} said rest) h =
    let t = idle_keeps b x r said in
    keeps_time b rest (omega (arith, t.last_is, h)) ∙ ap₂ (λ (l s : ℕ). (l + n * s) % 2 ^ 32) t.last_is t.speed_is
keeps_time b (steady.drawn {x} {r} {rs} {n} said rest) h =
    let t = drawn_adds b x r said in
    keeps_time b rest (omega (arith, t.last_is))
    ∙ ap₂ (λ (l s : ℕ). (l + n * s) % 2 ^ 32) t.last_is t.speed_is
    ∙ later x.player.last x.player.speed.0 (n * x.player.speed.0)
    ∙ ap (λ (k : ℕ). (x.player.last + k) % 2 ^ 32) (sym (suc-mul n x.player.speed.0))
