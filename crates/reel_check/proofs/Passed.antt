-- What a check has found that answers done: a reel's header, every frame accepted, and the ring in frame 1's state, which both pairs hold then.
use mathlib.Core.Path.{◌≡◌, refl, sym, ap, ap₂, ◌∙◌}
use mathlib.Core.List.{List, []}
use mathlib.Core.Bool.{Bool, true, false, ◌&&◌, cond}
use Prim.Native.Nat.{ℕ}
use native.Mathlib.Omega.{arith}
use lib.ListN.{take}
use Rattle.std.specs.Prelude.{Ok, Err}
use Rattle.words.specs.Words.{same}
use Rattle.words.proofs.Laws.{same_eq}
use Rattle.words.proofs.Tests.{both_true}
use Rattle.format.specs.Limits.{area}
use Rattle.format.specs.declared.Size.{Size}
use Rattle.delay.specs.declared.Milliseconds.{Milliseconds}
use Rattle.answer.specs.Answer.{Said, done, told, refused_at, Answer}
use Rattle.answer.specs.declared.Refusal.TheVariants.{BadRing}
use Rattle.answer.proofs.Laws.{told_injective}
use Rattle.state.proofs.Laws.{passed}
use Rattle.state.specs.State.{State, state, enough, refilled}
use Rattle.state.specs.Outcome.{Outcome, lent_pairs, leaves}
use Rattle.chunks.specs.declared.Layout.TheVariants.{Loose}
use Rattle.reel_header.specs.Head.{head_of, head_with, Headed}
use Rattle.reel_header.specs.declared.Takes.TheVariants.{Both}
use Rattle.reel_play.specs.Play.{Shown, shown, play_all, Ran}
use Rattle.reel_check.specs.Check.{ringed, ring_answer, after_head, check_reel}
use Rattle.chunks.specs.Spans.{frame_to}

-- playing came to its end, in frame 1's state
pub record Came (x : Shown) : Type 0 where
  pub ring : ℕ
  pub end : ℕ
  pub to : x.result ≡ Ok (frame_to ring end)
  pub same : x.last ≡ x.one

came : (r : Ran) (s t : State) → ringed r s t ≡ Ok tt → Came (shown r s t)
came (Err r) s t e = let z : ◌≡◌ {A = ℕ} 0 1 = cc in absurd (omega arith)
came (Ok ring) s t e =
    let f = both_true (same s.picture t.picture) (same s.palette t.palette) (by _ e) in
    record { ring = ring.from; end = ring.end; to = refl; same = ap₂ state (same_eq s.picture t.picture f.0) (same_eq s.palette t.palette f.1) }
  where
    by : (c : Bool) → ◌≡◌ {A = Answer} (cond c (Ok tt) (Err (refused_at BadRing ring.from))) (Ok tt) → c ≡ true
    by true e = refl
    by false e = cc

module _ (b : List ℕ) (first second : State) where
  pub record CheckPassed (o : Outcome) : Type 0 where
    pub picture : Size
    pub count : ℕ
    pub size : ℕ
    pub speed : Milliseconds
    pub header : head_of Both b ≡ Ok (head_with picture count size speed)
    pub played : Came (play_all Loose count picture (take size b))
    pub pairs : let one = (play_all Loose count picture (take size b)).one in
        o ≡ leaves (done []) (lent_pairs (refilled (area picture) one first) (refilled (area picture) one second))

  passed_by : (x : Headed) → head_of Both b ≡ x → (after_head b x first second).said ≡ done [] → CheckPassed (after_head b x first second)
  passed_by (Err r) is e = let z : ◌≡◌ {A = ℕ} 0 1 = cc in absurd (omega arith)
  passed_by (Ok h) is e =
      let said : Outcome → Said = λ o. o.said in
      let x = play_all Loose h.frames h.picture (take h.size b) in
      let k = passed said (enough (area h.picture) first && enough (area h.picture) second) {o = after_head b (Ok h) first second} refl e refl in
      let a = told_injective (ring_answer x) (Ok tt) (ap said k.1 ∙ e) in
      let c = came x.result x.last x.one a in
      record {
        picture = h.picture;
        count = h.frames;
        size = h.size;
        speed = h.speed;
        header = is;
        played = c;
        pairs =
            sym k.1
            ∙ ap₂ (λ (u : Answer) (s : State). leaves (told u)
            (lent_pairs (refilled (area h.picture) s first) (refilled (area h.picture) x.one second))) a c.same;
      }

  pub check_passed : (check_reel b first second).said ≡ done [] → CheckPassed (check_reel b first second)
  unfolding check_reel
  check_passed e = passed_by (head_of Both b) refl e
