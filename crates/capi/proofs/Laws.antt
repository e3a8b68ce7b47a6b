-- What a caller in C holds, from what was said of a call and what it left behind.
use mathlib.Core.Path.{◌≡◌, refl, sym, ap, subst, ◌∙◌}
use Prim.Native.Nat.{ℕ}
use Rattle.std.specs.Prelude.{Ok, Err}
use Rattle.answer.specs.Answer.{Said}
use Rattle.state.specs.Outcome.{Memory, Outcome, leaves}
use Rattle.reel_build.specs.declared.Reel.{Reel}
use Rattle.reel_build.specs.Record.{ReelOutcome, Built, built, reel_after, told_built}
use Rattle.board_player.specs.declared.Player.{Player}
use Rattle.board_player.specs.Player.{PlayerOutcome, plays}
use Rattle.capi.specs.declared.Record.{Record}
use Rattle.capi.specs.Capi.{Told, Held, length_of, event_of, HeldLength, record_of, record_after, nothing, HeldReel, HeldPlayer, HeldTick}

module _ {number place : ℕ} {s : Said} {m : Memory} (t : Told number place s) where
  pub held : {o : Outcome} → leaves s m ≡ o → Held number place m o
  held e = record { told = subst (λ (x : Said). Told number place x) (ap (λ (y : Outcome). y.said) e) t; memory_is = ap (λ (y : Outcome). y.memory) e }

  pub held_length : {o : Outcome} {n : ℕ} → leaves s m ≡ o → n ≡ length_of s → HeldLength number place n m o
  held_length e l = record { held = held e; length_is = l ∙ ap (λ (y : Outcome). length_of y.said) e }

  pub held_player : {o : PlayerOutcome} {p : Player} → plays p (leaves s m) ≡ o → HeldPlayer number place p m o
  held_player e = record { held = held (ap (λ (y : PlayerOutcome). y.left) e); player_is = ap (λ (y : PlayerOutcome). y.player) e }

  pub held_tick : {o : PlayerOutcome} {p : Player} {n : ℕ} → plays p (leaves s m) ≡ o → n ≡ event_of s → HeldTick number place n p m o
  held_tick e l = record { held = held_player e; event_is = l ∙ ap (λ (y : PlayerOutcome). event_of y.left.said) e }

-- what is said of a reel, and the record after it
record_told : (r : Reel) (handed : Record) (a : Built) → record_of (told_built a) (reel_after r a) handed ≡ record_after handed a
record_told r handed (Ok new) = refl
record_told r handed (Err e) = refl

module _ {number place : ℕ} {m : Memory} {o : ReelOutcome} {after : Record} (handed : Record) (r : Reel) (a : Built) (t : Told number place (told_built a))
    (e : built r a m ≡ o) (l : after ≡ record_after handed a) where
  pub held_reel : HeldReel number place after handed m o
  held_reel = record {
    held = held t (ap (λ (y : ReelOutcome). y.left) e);
    record_is = l ∙ sym (record_told r handed a) ∙ ap (λ (y : ReelOutcome). record_of y.left.said y.reel handed) e;
  }

  -- of an open, which is handed no reel
  pub held_opened : handed ≡ nothing → HeldReel number place after nothing m o
  held_opened n = subst (λ (x : Record). HeldReel number place after x m o) n held_reel
