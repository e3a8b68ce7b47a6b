-- Demand 2 of writing, in terms of the entry points (`demand2`).
use mathlib.Core.Path.{◌≡◌, refl, sym, ap, ap₂, ◌∙◌}
use mathlib.Core.List.{List, [], ◌∷◌}
use mathlib.Core.Bool.{Bool, true, ◌&&◌, cond}
use Prim.Native.Nat.{ℕ, ◌≤◌}
use native.Mathlib.Omega.{arith}
use borrow.Author.Tests.{le-leb}
use lib.Dec.{leb}
use lib.ListN.{length, take, drop}
use lib.Seq.{take_at}
use Rattle.std.specs.Prelude.{Ok}
use Rattle.words.specs.Words.{Bytes}
use Rattle.words.specs.Writes.{put}
use Rattle.words.proofs.Laws.{put_front, bytes_take}
use Rattle.words.proofs.Tests.{both_true}
use Rattle.format.specs.Limits.{size_fits, area}
use Rattle.format.specs.declared.Size.{Size}
use Rattle.answer.specs.Answer.{Said, done}
use Rattle.answer.specs.declared.Refusal.TheVariants.{NoRoom}
use Rattle.state.specs.State.{State, state, enough, front, refilled}
use Rattle.state.specs.Outcome.{Outcome, lent_bytes, lent_pair, leaves, refuse, fitted}
use Rattle.state.proofs.Laws.{front_exact, passed}
use Rattle.read_frame.specs.Reading.{read_frame}
use Rattle.read_frame.proofs.Laws.{read_by_lem}
use Rattle.house_frame.specs.House.{house_frame, frame_most}
use Rattle.house_frame.specs.Writing.{write_frame}
use Rattle.house_frame.proofs.Laws.{house_short}
use Rattle.house_back.specs.Demand2.{Demand2}
use Rattle.house_back.specs.Plays.{ByteState}
use Rattle.house_back.proofs.ReadsBack.{house_reads_back}

module _ (z : Size) (previous next : State) where
  abbrev from : State
  from = front (area z) previous

  abbrev to : State
  to = front (area z) next

  abbrev f : List ℕ
  f = house_frame z (front (area z) previous) (front (area z) next)

  -- what a write that is done has passed
  record DoneWith (out : List ℕ) (n : ℕ) : Type 0 where
    pub size : size_fits z ≡ true
    pub previous_long : enough (area z) previous ≡ true
    pub next_long : enough (area z) next ≡ true
    pub many : n ≡ length f
    pub bytes : (write_frame z previous next out).memory.bytes ≡ put out 0 f

  module _ (out : List ℕ) where
    written : size_fits z ≡ true → enough (area z) previous ≡ true → enough (area z) next ≡ true → write_frame z previous next out ≡ fitted f out
    unfolding write_frame
    written e k l = rw (e, k, l)

    done_with : (n : ℕ) → (write_frame z previous next out).said ≡ done (n ∷ []) → DoneWith out n
    unfolding write_frame
    done_with n d =
        let o = write_frame z previous next out in
        let said : Outcome → Said = λ x. x.said in
        let e = passed said (size_fits z) {o = o} refl d refl in
        let k = passed said (enough (area z) previous && enough (area z) next) e.1 d refl in
        let l = passed said (leb (length f) (length out)) k.1 d refl in
        let b = both_true (enough (area z) previous) (enough (area z) next) k.0 in
        record {
          size = e.0;
          previous_long = b.0;
          next_long = b.1;
          many = same_number (sym d ∙ ap said (sym l.1));
          bytes = ap (λ (x : Outcome). x.memory.bytes) (sym l.1);
        }
      where
        same_number : done (n ∷ []) ≡ done (length f ∷ []) → n ≡ length f
        same_number q = cc

  module _ (bn : Bytes next.picture) (bp : Bytes previous.picture) where
    reads : (out : List ℕ) (n : ℕ) → DoneWith out n
        → read_frame (take n (write_frame z previous next out).memory.bytes) z previous ≡ leaves (done []) (lent_pair (refilled (area z) to previous))
    reads out n i =
        let old : ByteState z from = record {
          exact = front_exact z previous i.size (area z) refl i.previous_long;
          bytes = bytes_take (area z) previous.picture bp;
        } in
        let new : ByteState z to = record { exact = front_exact z next i.size (area z) refl i.next_long; bytes = bytes_take (area z) next.picture bn } in
        let back = house_reads_back old new in
        let front-is : take n (write_frame z previous next out).memory.bytes ≡ f =
        ap₂ (λ (k : ℕ) (x : List ℕ). take k x) i.many (i.bytes ∙ put_front out f) ∙ take_at f (drop (length f) out) (length f) refl in
        ap (λ (x : List ℕ). read_frame x z previous) front-is
        ∙ read_by_lem f z previous i.size i.previous_long (Ok tt) back.done
        ∙ ap₂ (λ (p q : List ℕ). leaves (done []) (lent_pair (refilled (area z) (state p q) previous))) back.picture back.palette

  pub demand2 : Demand2 z previous next
  demand2 =
      record {
        reads_back = λ bn bp out n d. reads bn bp out n (done_with out n d);
        can_be_done = can;
      }
    where
      can : size_fits z ≡ true → enough (area z) previous ≡ true → enough (area z) next ≡ true
          → (out : List ℕ) → frame_most ≤ length out → (n : ℕ) × ((write_frame z previous next out).said ≡ done (n ∷ []))
      can e k l out room =
          let short = house_short (front_exact z previous e (area z) refl k) (front_exact z next e (area z) refl l) in (
            length f,
            ap (λ (o : Outcome). o.said) (written out e k l)
                ∙ ap (λ (t : Bool). (cond t (leaves (done (length f ∷ [])) (lent_bytes (put out 0 f))) (refuse NoRoom 0 (lent_bytes out))).said)
                (le-leb (length f) (length out) (omega arith)),
          )
