-- Laws of the check of a reel, by the cases of its definition.
use mathlib.Core.Path.{◌≡◌, refl, sym, ap, ap₂, ◌∙◌}
use mathlib.Core.List.{List}
use mathlib.Core.Bool.{Bool, true, false, ◌&&◌, cond}
use Prim.Native.Nat.{ℕ}
use lib.ListN.{take}
use Rattle.std.specs.Prelude.{Ok, Err, Result}
use Rattle.words.specs.Words.{same}
use Rattle.format.specs.Limits.{area}
use Rattle.format.specs.declared.Size.{Size}
use Rattle.delay.specs.declared.Milliseconds.{Milliseconds}
use Rattle.answer.specs.Answer.{placed, told, refused_at, Answer}
use Rattle.answer.specs.declared.Refusal.TheVariants.{ShortSlice, BadRing}
use Rattle.state.specs.State.{State, enough, refilled}
use Rattle.state.specs.Outcome.{Outcome, lent_pairs, leaves, refuse}
use Rattle.chunks.specs.declared.Layout.TheVariants.{Loose}
use Rattle.reel_header.specs.declared.Head.{Head}
use Rattle.reel_header.specs.Head.{head_of, head_with, Headed}
use Rattle.reel_header.specs.declared.Takes.TheVariants.{Both}
use Rattle.reel_play.specs.Play.{Shown, play_all, Ran}
use Rattle.reel_check.specs.Check.{ringed, ring_answer, checked_by, after_head, check_reel}
use Rattle.answer.specs.declared.Refused.{Refused}
use Rattle.chunks.specs.Spans.{frame_to}

-- the ring

pub ring_stopped : (x : Shown) (r : Refused) → x.result ≡ Err r → ring_answer x ≡ Err r
ring_stopped x r q = ap (λ (y : Ran). ringed y x.last x.one) q

-- r: the result of comparing the states, found to be k
pub ring_compared : (x : Shown) (ring next : ℕ) → x.result ≡ Ok (frame_to ring next) → (r k : Bool)
    → r ≡ (same x.last.picture x.one.picture && same x.last.palette x.one.palette) → r ≡ k → ring_answer x ≡ cond k (Ok tt) (Err (refused_at BadRing ring))
ring_compared x ring next q r k e f =
    ap (λ (z : Ran). ringed z x.last x.one) q ∙ ap (λ (t : Bool). cond t (Ok tt) (Err (refused_at BadRing ring))) (sym e ∙ f)

-- what the check of frames tells where they came to x: its answer and both states
pub ring_told : (x y : Shown) → x ≡ y → (a : Answer) → ring_answer x ≡ a
    → record { answer : a ≡ ring_answer y; first : x.last ≡ y.last; second : x.one ≡ y.one }
ring_told x y e a q = record { answer = sym q ∙ ap ring_answer e; first = ap (λ (z : Shown). z.last) e; second = ap (λ (z : Shown). z.one) e }

-- the check of a reel

module _ (b : List ℕ) (first second : State) where
  -- what follows a header, whose refusal has its place
  abbrev after_placed : Result Head Refused → Outcome
  after_placed (Err r) = refuse r.0 r.1 (lent_pairs first second)
  after_placed (Ok h) = after_head b (Ok h) first second

  pub check_fault : (r : Refused) → placed 0 (head_of Both b) ≡ Err r → check_reel b first second ≡ refuse r.0 r.1 (lent_pairs first second)
  unfolding check_reel
  check_fault r q = go (head_of Both b) ∙ ap after_placed q
    where
      go : (x : Headed) → after_head b x first second ≡ after_placed (placed 0 x)
      go (Err e) = refl
      go (Ok h) = refl

  module _ (z : Size) (count size : ℕ) (speed : Milliseconds) (k : head_of Both b ≡ Ok (head_with z count size speed)) where
    pub check_short : (enough (area z) first && enough (area z) second) ≡ false → check_reel b first second ≡ refuse ShortSlice 0 (lent_pairs first second)
    unfolding check_reel
    check_short i = ap (λ (x : Headed). after_head b x first second) k ∙ rw i

    pub check_played : enough (area z) first ≡ true → enough (area z) second ≡ true
        → check_reel b first second ≡ checked_by (area z) (play_all Loose count z (take size b)) first second
    unfolding check_reel
    check_played i j = ap (λ (x : Headed). after_head b x first second) k ∙ rw (i, j)

    -- the pairs' fronts hold the states that playing gave; m and n: the lengths of the ranges up to the area and up to size
    pub check_laid : enough (area z) first ≡ true → enough (area z) second ≡ true → (m n : ℕ) → m ≡ area z → n ≡ size → (a : Answer) (s t : State)
        → let x = play_all Loose count z (take n b) in a ≡ ring_answer x → s ≡ x.last → t ≡ x.one
        → leaves (told a) (lent_pairs (refilled m s first) (refilled m t second)) ≡ check_reel b first second
    check_laid i j m n em en a s t ea es et =
        ap (λ (l : ℕ). leaves (told a) (lent_pairs (refilled l s first) (refilled l t second))) em
        ∙ ap₂ (λ (u v : State). leaves (told a) (lent_pairs (refilled (area z) u first) (refilled (area z) v second))) es et
        ∙ ap (λ (y : Answer). leaves (told y)
        (lent_pairs (refilled (area z) (play_all Loose count z (take n b)).last first)
        (refilled (area z) (play_all Loose count z (take n b)).one second))) ea
        ∙ ap (λ (l : ℕ). checked_by (area z) (play_all Loose count z (take l b)) first second) en
        ∙ sym (check_played i j)
