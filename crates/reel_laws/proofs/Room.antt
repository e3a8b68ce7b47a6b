-- A reel of n frames never needs more than 128 + (n + 1) * frame_most bytes: with that room no add and no close is refused 3 (`room_enough`).
use mathlib.Core.Path.{◌≡◌, refl, sym, ap, ap₂, ◌∙◌, subst}
use mathlib.Core.List.{List, [], ◌∷◌}
use mathlib.Core.Bool.{Bool, true, ◌&&◌}
use Prim.Native.Nat.{ℕ, suc, ◌+◌, ◌≤◌}
use native.Mathlib.Omega.{arith}
use borrow.Author.Tests.{le-leb}
use lib.ListN.{length}
use Rattle.words.proofs.Tests.{by_test}
use Rattle.format.specs.Limits.{size_fits, area, max_frames}
use Rattle.format.specs.declared.Size.{Size}
use Rattle.answer.specs.Answer.{done, refused, number}
use Rattle.answer.specs.declared.Refusal.{Refusal}
use Rattle.answer.specs.declared.Refusal.TheVariants.{ShortSlice, NoRoom, Cut, WrongTime}
use Rattle.state.specs.State.{State, front, enough}
use Rattle.state.specs.Outcome.{Memory, lent_bytes, lent_bytes_pairs, leaves}
use Rattle.state.proofs.Laws.{front_exact}
use Rattle.house_frame.specs.House.{house_frame, frame_most}
use Rattle.house_frame.proofs.Laws.{house_short}
use Rattle.reel_build.specs.declared.Reel.{Reel}
use Rattle.reel_build.specs.Record.{ReelOutcome, builds, keeps}
use Rattle.reel_build.specs.Building.{most_bytes, end_ok, fits, added, add_ok, add_frame}
use Rattle.reel_build.proofs.Laws.{add_closed, add_short, add_record, add_passed}
use Rattle.reel_close.specs.Closing.{close_ok, close_reel}
use Rattle.reel_close.proofs.Laws.{close_time, close_short}
use Rattle.reel_laws.specs.Building.{Making, reel_most, RoomEnough}
use Rattle.reel_laws.proofs.Making.{Holds, making_holds, making_short}
use Rattle.reel_laws.proofs.Built.{close_can_be_done}

-- not refused 3
NotThree : ReelOutcome → Type 0
NotThree o = (place : ℕ) → o.left.said ≡ refused (number NoRoom) place → ⊥

done_not_three : (x : Reel) (m : Memory) → NotThree (builds x (leaves (done []) m))
unfolding NotThree
done_not_three x m place d = let z : ◌≡◌ {A = ℕ} 0 1 = cc in absurd (omega arith)

said_done : (o : ReelOutcome) → o.left.said ≡ done [] → NotThree o
unfolding NotThree
said_done o d place e = let k = sym d ∙ e in let z : ◌≡◌ {A = ℕ} 0 1 = cc in absurd (omega arith)

other_not_three : (x : Reel) (e : Refusal) (m : Memory) → (number e ≡ 3 → ⊥) → NotThree (keeps x e 0 m)
unfolding NotThree
other_not_three x e m k place d = k (same_number d)
  where
    same_number : refused (number e) 0 ≡ refused (number NoRoom) place → number e ≡ 3
    same_number q = cc

module _ (z : Size) (speed : ℕ) {b : List ℕ} {r : Reel} {asked : List State} (m : Making z speed b r asked) (room : reel_most (length asked) ≤ length b) where
  abbrev i : Holds z speed b r asked
  i = making_holds z speed m

  -- room for one frame more, within 32 bits too
  near : (r.end + frame_most ≤ length b) × (r.end + frame_most ≤ most_bytes)
  near = let s = making_short z speed m in (omega (arith, s, room), omega (arith, s, i.few))

  size_is : r.size ≡ z
  size_is = ap (λ (x : Reel). x.size) i.is

  size_ok : size_fits r.size ≡ true
  size_ok = ap (λ (x : Size). size_fits x) size_is ∙ i.size

  add_fits : (s t : State) → NotThree (add_frame r b s t)
  add_fits s t =
      by_test (λ c. NotThree (add_frame r b s t)) (add_ok r.frames r.closed)
      (λ e. by_test (λ c. NotThree (add_frame r b s t)) (enough (area r.size) s)
      (λ k. by_test (λ c. NotThree (add_frame r b s t)) (enough (area r.size) t)
      (λ l. by_test (λ c. NotThree (add_frame r b s t)) (end_ok r.end (length b))
      (λ n. subst NotThree (sym (add_passed r b s t (record { taken = e; sized = size_ok; shown = k; next = l; ended = n })))
      (fitting (house_frame r.size (front (area r.size) s) (front (area r.size) t))
      (house_short (front_exact r.size s size_ok (area r.size) refl k) (front_exact r.size t size_ok (area r.size) refl l))))
      (λ n. subst NotThree (sym (add_record r b s t e size_ok k l n)) (other_not_three r Cut (lent_bytes b) (λ q. omega (arith, q)))))
      (λ l. subst NotThree (sym (add_short r b s t e size_ok (ap₂ (λ (x y : Bool). x && y) k l)))
      (other_not_three r ShortSlice (lent_bytes b) (λ q. omega (arith, q)))))
      (λ k. subst NotThree (sym (add_short r b s t e size_ok (ap (λ (x : Bool). x && enough (area r.size) t) k)))
      (other_not_three r ShortSlice (lent_bytes b) (λ q. omega (arith, q)))))
      (λ e. subst NotThree (sym (add_closed r b s t e)) (other_not_three r WrongTime (lent_bytes b) (λ q. omega (arith, q))))
    where
      fitting : (f : List ℕ) → length f ≤ frame_most → NotThree (added r f b)
      fitting f h =
          let n = near in
          let k : fits r.end f b ≡ true = ap₂ (λ (x y : Bool). x && y) (le-leb (r.end + length f) (length b) (omega (arith, n.0)))
          (le-leb (r.end + length f) most_bytes (omega (arith, n.1))) in
          rw k (done_not_three _ _)

module _ (z : Size) (speed : ℕ) {b : List ℕ} {r : Reel} where
  close_fits : (asked : List State) (m : Making z speed b r asked) → reel_most (length asked) ≤ length b → (p q : State) → NotThree (close_reel r b p q)
  close_fits [] m room p q =
      let i = making_holds z speed m in
      subst NotThree (sym (close_time r b p q (ap (λ (x : Reel). close_ok x.frames x.closed) i.is)))
      (other_not_three r WrongTime (lent_bytes_pairs b p q) (λ e. omega (arith, e)))
  close_fits (first ∷ rest) m room p q = close_some
    where
      n : (r.end + frame_most ≤ length b) × (r.end + frame_most ≤ most_bytes)
      n = near z speed m room

      sized : size_fits r.size ≡ true
      sized = size_ok z speed m room

      same : r.size ≡ z
      same = size_is z speed m room

      close_some : NotThree (close_reel r b p q)
      close_some =
          let i = making_holds z speed m in
          let taken : close_ok r.frames r.closed ≡ true =
          ap (λ (x : Reel). close_ok x.frames x.closed) i.is
          ∙ ap₂ (λ (x y : Bool). x && y) (le-leb 1 (suc (length rest)) (omega arith)) (le-leb (suc (length rest)) max_frames i.few) in
          by_test (λ c. NotThree (close_reel r b p q)) (enough (area r.size) p)
          (λ e. by_test (λ c. NotThree (close_reel r b p q)) (enough (area r.size) q)
          (λ f. said_done (close_reel r b p q)
          (close_can_be_done z speed m p q (ap (λ (x : Size). enough (area x) p) (sym same) ∙ e)
          (ap (λ (x : Size). enough (area x) q) (sym same) ∙ f) n.0 n.1))
          (λ f. subst NotThree (sym (close_short r b p q taken sized (ap₂ (λ (x y : Bool). x && y) e f)))
          (other_not_three r ShortSlice (lent_bytes_pairs b p q) (λ k. omega (arith, k)))))
          (λ e. subst NotThree (sym (close_short r b p q taken sized (ap (λ (x : Bool). x && enough (area r.size) q) e)))
          (other_not_three r ShortSlice (lent_bytes_pairs b p q) (λ k. omega (arith, k))))

pub room_enough : (z : Size) (speed : ℕ) {b : List ℕ} {r : Reel} {asked : List State} → Making z speed b r asked → RoomEnough z b r asked
unfolding NotThree
room_enough z speed {b} {r} {asked} m =
    record { adds = λ room s t. add_fits z speed m room s t; closes = λ room p q. close_fits z speed asked m room p q }
