-- Every close that is done makes a file that the check accepts and that leads back, whatever states the adds were handed (`closed_leads_back`).
-- The idea: the close's own playing has shown that the reel's bytes are frames that lead from blank to some states; what follows needs no more.
use mathlib.Core.Path.{◌≡◌, refl, sym, ap, ap₂, ◌∙◌, subst}
use mathlib.Core.List.{List, [], ◌∷◌, ◌++◌, append_assoc, append-nil}
use mathlib.Core.Bool.{Bool, true, false, ◌&&◌}
use Prim.Native.Nat.{ℕ, suc, ◌+◌, ◌-◌, ◌≤◌}
use native.Mathlib.Omega.{arith}
use borrow.Author.Tests.{leb-true}
use lib.Dec.{leb}
use lib.ListN.{length, take, drop, length-append, length-drop, take-append-drop}
use lib.Seq.{length-take-le, take-take}
use Rattle.std.specs.Prelude.{Ok, Err}
use Rattle.words.specs.Words.{Bytes}
use Rattle.words.proofs.Laws.{bytes_take, bytes_drop}
use Rattle.words.proofs.Tests.{by_test}
use Rattle.format.specs.Limits.{size_fits, area}
use Rattle.format.specs.declared.Size.{Size}
use Rattle.answer.specs.Answer.{done}
use Rattle.state.specs.State.{State, blank, enough}
use Rattle.state.proofs.Laws.{enough_is, passed}
use Rattle.chunks.specs.declared.Layout.TheVariants.{Packed}
use Rattle.chunks.specs.Spans.{HEADER_BYTES, frame_to}
use Rattle.reel_header.specs.Written.{opened_in}
use Rattle.reel_play.specs.Play.{ran, one_frame, frames, Shown, shown, play_all, Ran}
use Rattle.reel_play.proofs.Laws.{all_stopped, all_more}
use Rattle.reel_build.specs.declared.Reel.{Reel}
use Rattle.reel_build.specs.Record.{reel_of}
use Rattle.reel_build.specs.Building.{end_ok}
use Rattle.reel_build.proofs.Laws.{end_in}
use Rattle.reel_close.specs.Closing.{own_playing, ring_after, close_ok, close_reel}
use Rattle.reel_close.proofs.Laws.{own_record, own_played, close_few}
use Rattle.reel_laws.specs.Building.{ClosedFile}
use Rattle.reel_laws.proofs.Laps.{accepted_leads_back}
use Rattle.reel_laws.proofs.Frames.{Shows, next, exact_start, byte_start}
use Rattle.reel_laws.proofs.Making.{says, Holds}
use Rattle.reel_laws.proofs.Built.{close_finishes}
use Rattle.reel_laws.proofs.Played.{one_led, played_through, shows_each}

-- frame 1 and the frames behind it, played back to back
module _ (z : Size) (b : List ℕ) where
  pub record All (more next : ℕ) (one : State) : Type 0 where
    pub rest : List State
    pub bytes : List ℕ
    pub shows : Shows z (blank (area z)) (one ∷ rest) bytes
    pub many : length rest ≡ more
    pub there : drop HEADER_BYTES b ≡ bytes ++ drop next b
    pub next_is : next ≡ HEADER_BYTES + length bytes

  all_through : (more from to : ℕ) (last one : State) → play_all Packed more z b ≡ shown (Ok (frame_to from to)) last one → All more to one
  all_through more from to last one e = by (one_frame Packed z b HEADER_BYTES (blank (area z))).result
      (one_frame Packed z b HEADER_BYTES (blank (area z))).after refl
    where
      by : (x : Ran) (u : State) → one_frame Packed z b HEADER_BYTES (blank (area z)) ≡ ran x u → All more to one
      by (Err r) u o =
          let k = ap (λ (x : Shown). x.result) (sym (all_stopped Packed more z b u r o) ∙ e) in let q : ◌≡◌ {A = ℕ} 0 1 = cc in absurd (omega arith)
      by (Ok p') u o =
          let p = frames Packed z b more p'.from p'.end u in
          let l = sym (all_more Packed more z b u p'.from p'.end o p refl) ∙ e in
          let same : u ≡ one = ap (λ (x : Shown). x.one) l in
          let run : p ≡ ran (Ok (frame_to from to)) last = ap (λ (x : Shown). ran x.result x.last) l in
          let i = one_led z b HEADER_BYTES (blank (area z)) p'.from p'.end u o in
          let r = played_through z b more p'.from p'.end u from to last run in
          subst (All more to) same
          (record {
            rest = r.states;
            bytes = i.bytes ++ r.bytes;
            shows = next i.leads r.shows;
            many = r.many;
            there = i.there ∙ ap (λ (x : List ℕ). i.bytes ++ x) r.there ∙ sym (append_assoc i.bytes r.bytes (drop to b));
            next_is = omega (arith, r.next_is, i.end_is, length-append i.bytes r.bytes);
          })

module _ (speed : ℕ) (r : Reel) (b : List ℕ) (bytes-in : Bytes b) (header_in : take HEADER_BYTES b ≡ opened_in r.size.format r.size.width r.size.height speed) where
  -- what the reel's bytes show
  record Found : Type 0 where
    pub first : State
    pub rest : List State
    pub holds : Holds r.size speed b r (first ∷ rest)

  -- the close's own playing came to an end at or behind the record's
  ended : close_ok r.frames r.closed ≡ true → size_fits r.size ≡ true → (x : Shown) → own_playing r b ≡ x
      → (from to : ℕ) → x.result ≡ Ok (frame_to from to) → r.end ≤ to → Found
  ended taken sized x own from to q reach =
      by_test (λ t. Found) (end_ok r.end (length b))
      (λ e. inside (end_in r.end (length b) e) (sym (own_played r b e r.end refl (play_all Packed (r.frames - 1) r.size (take r.end b)) refl) ∙ own))
      (λ e. let k = sym q ∙ ap (λ (y : Shown). y.result) (sym own ∙ own_record r b e) in let z : ◌≡◌ {A = ℕ} 0 1 = cc in absurd (omega arith))
    where
      inside : (HEADER_BYTES ≤ r.end) × (r.end ≤ length b) → play_all Packed (r.frames - 1) r.size (take r.end b) ≡ x → Found
      inside i p =
          let z = r.size in
          let c = take r.end b in
          let long : length c ≡ r.end = length-take-le r.end b i.1 in
          let a = all_through z c (r.frames - 1) from to x.last x.one (p ∙ ap (λ (y : Ran). shown y x.last x.one) q) in
          let few = close_few r.frames r.closed taken in
          let few_frames : suc (length a.rest) ≡ r.frames = omega (arith, a.many, few.0) in
          let own-bytes = a.bytes in
          let l = ap length a.there in
          let l₁ = length-append own-bytes (drop to c) in
          let l₂ = length-drop HEADER_BYTES c in
          let at : r.end ≡ HEADER_BYTES + length own-bytes = omega (arith, a.next_is, i.0) in
          let none_left : length (drop to c) ≡ 0 = omega arith in
          let frames-are : drop HEADER_BYTES c ≡ own-bytes = a.there ∙ ap (λ (y : List ℕ). own-bytes ++ y) (empty (drop to c) none_left)
          ∙ append-nil own-bytes in
          let front : take HEADER_BYTES c ≡ opened_in z.format z.width z.height speed = take-take HEADER_BYTES r.end b i.0 ∙ header_in in
          record {
            first = x.one;
            rest = a.rest;
            holds =
                record {
                  size = sized;
                  frames = own-bytes;
                  shows = a.shows;
                  is = open_is r.closed refl taken ∙ ap₂ (λ (m n : ℕ). reel_of z m n false) (sym few_frames) at;
                  rest = drop r.end b;
                  bytes =
                      sym (take-append-drop r.end b)
                      ∙ ap (λ (y : List ℕ). y ++ drop r.end b) (sym (take-append-drop HEADER_BYTES c) ∙ ap₂ (λ (u v : List ℕ). u ++ v) front frames-are)
                      ∙ append_assoc (opened_in z.format z.width z.height speed) own-bytes (drop r.end b);
                  each_sized = shows_each z a.shows (subst Bytes frames-are (bytes_drop HEADER_BYTES c (bytes_take r.end b bytes-in))) (byte_start z sized);
                  few = omega (arith, few_frames, few.1);
                };
          }
        where
          empty : (y : List ℕ) → length y ≡ 0 → y ≡ []
          empty [] e = refl
          empty (v ∷ vs) e = absurd (omega (arith, e))

          open_is : (shut : Bool) → r.closed ≡ shut → close_ok r.frames r.closed ≡ true → r ≡ reel_of r.size r.frames r.end false
          open_is false e k = ap (reel_of r.size r.frames r.end) e
          open_is true e k = let u = sym (ap (close_ok r.frames) e) ∙ k in let z : ◌≡◌ {A = ℕ} 0 1 = cc in absurd (omega arith)

  module _ (p q : State) (d : (close_reel r b p q).left.said ≡ done []) where
    found : Found
    unfolding close_reel
    found =
        let n = area r.size in
        let o = close_reel r b p q in
        let e₁ = passed says (close_ok r.frames r.closed) {o = o} refl d refl in
        let e₂ = passed says (size_fits r.size) e₁.1 d refl in
        let e₃ = passed says (enough n p && enough n q) e₂.1 d refl in
        by_result e₁.0 e₂.0 (own_playing r b).result refl (ap says e₃.1 ∙ d)
      where
        by_result : close_ok r.frames r.closed ≡ true → size_fits r.size ≡ true → (y : Ran) → (own_playing r b).result ≡ y
            → (ring_after r b y (own_playing r b).last (own_playing r b).one).left.said ≡ done [] → Found
        by_result taken sized (Err r) own k = let z : ◌≡◌ {A = ℕ} 0 1 = cc in absurd (omega arith)
        by_result taken sized (Ok p) own k =
            let t = passed says (leb r.end p.end) {o = ring_after r b (Ok (frame_to p.from p.end)) (own_playing r b).last (own_playing r b).one} refl k refl in
            ended taken sized (own_playing r b) refl p.from p.end own (leb-true r.end p.end t.0)

    pub closed_leads_back : ClosedFile (take (close_reel r b p q).reel.end (close_reel r b p q).left.memory.bytes) (close_reel r b p q).reel
    closed_leads_back =
        let f = found in
        let i = f.holds in
        let z = r.size in
        let done-is = close_finishes z speed b r f.first f.rest i p q d in
        let same : (close_reel r b p q).reel.size ≡ z = ap (λ (y : Reel). y.size) done-is.record_is in
        let o = blank (area z) in
        let start = exact_start z i.size in
        let room = enough_is (area z) o (omega (arith, start.picture.pixels)) (omega (arith, start.colours)) in
        record {
          long = done-is.long;
          accepted = λ s t e k. done-is.accepted s t (ap (λ (y : Size). enough (area y) s) (sym same) ∙ e)
              (ap (λ (y : Size). enough (area y) t) (sym same) ∙ k);
          leads_back = (accepted_leads_back _ o o (done-is.accepted o o room room)).leads;
        }
