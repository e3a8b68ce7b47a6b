-- What an open and accepted adds leave: the open header, then frames that lead to each state asked for in turn, then whatever lay behind.
-- An add puts one more such frame at the record's end, a refused one nothing.
use mathlib.Core.Path.{◌≡◌, refl, sym, ap, ap₂, ◌∙◌, subst}
use mathlib.Core.List.{List, [], ◌∷◌, ◌++◌, append_assoc}
use mathlib.Core.Bool.{true, false, ◌&&◌}
use Prim.Native.Nat.{ℕ, ◌+◌, ◌*◌, ◌≤◌}
use native.Mathlib.Omega.{arith}
use borrow.Author.Tests.{ltb-true}
use lib.Dec.{leb, ltb}
use lib.ListN.{length, take, drop, length-append, take-append-drop}
use lib.Seq.{take_at}
use Rattle.words.specs.Words.{Bytes}
use Rattle.words.specs.Writes.{put}
use Rattle.words.proofs.Laws.{put_front, bytes_take}
use Rattle.words.proofs.There.{put_behind}
use Rattle.words.proofs.Tests.{both_true}
use Rattle.format.specs.Limits.{size_fits, size_of, area, max_frames}
use Rattle.format.specs.declared.Format.{Format}
use Rattle.format.specs.declared.Format.TheVariants.{Flc, Fli}
use Rattle.format.specs.declared.Size.{Size}
use Rattle.delay.specs.Delay.{jiffies, milliseconds}
use Rattle.answer.specs.Answer.{Said, done}
use Rattle.state.specs.State.{State, blank, front, enough}
use Rattle.state.specs.Outcome.{lent_bytes, leaves}
use Rattle.state.proofs.Laws.{front_exact, passed}
use Rattle.chunks.specs.Spans.{HEADER_BYTES}
use Rattle.house_frame.specs.House.{house_frame, frame_most}
use Rattle.house_frame.proofs.Laws.{house_short}
use Rattle.house_back.specs.Plays.{ByteState}
use Rattle.reel_header.specs.Written.{opened_in}
use Rattle.reel_header.proofs.Laws.{opened_flc, opened_fli_lem, opened_in_length}
use Rattle.reel_build.specs.declared.Reel.{Reel}
use Rattle.reel_build.specs.Record.{reel_of, ReelOutcome, builds}
use Rattle.reel_build.specs.Building.{open_reel, open_fli, end_ok, fits, add_frame}
use Rattle.reel_laws.specs.Laps.{last_of}
use Rattle.reel_laws.specs.Building.{open_in, Making, opening, adding, moving, refusing}
use Rattle.reel_laws.proofs.Kept.{add_refused}
use Rattle.reel_laws.proofs.Frames.{Leads, Shows, none, shows_add, Each, no_state, each_add, each_last, house_leads, byte_start}

-- what a call that builds a reel says
abbrev pub says : ReelOutcome → Said
says o = o.left.said

-- an open that is done, by its format

opened_by : (speed : ℕ) (f : Format) (w h : ℕ) (b b' : List ℕ) (r : Reel) → open_in f w h speed b ≡ builds r (leaves (done []) (lent_bytes b'))
    → (size_fits (size_of f w h) ≡ true) × (r ≡ reel_of (size_of f w h) 0 HEADER_BYTES false) × (b' ≡ put b 0 (opened_in f w h speed))
unfolding open_reel open_fli
opened_by speed Flc w h b b' r e =
    let s = passed says (size_fits (size_of Flc w h)) e refl refl in
    let l = passed says (leb HEADER_BYTES (length b)) s.1 refl refl in (
      s.0,
      sym (ap (λ (o : ReelOutcome). o.reel) l.1),
      sym (ap (λ (o : ReelOutcome). o.left.memory.bytes) l.1)
          ∙ ap (put b 0) (opened_flc w h (milliseconds speed)),
    )
opened_by speed Fli w h b b' r e =
    let s = passed says (size_fits (size_of Fli w h)) e refl refl in
    let d = passed says (leb speed 65535) s.1 refl refl in
    let l = passed says (leb HEADER_BYTES (length b)) d.1 refl refl in (
      s.0,
      sym (ap (λ (o : ReelOutcome). o.reel) l.1),
      sym (ap (λ (o : ReelOutcome). o.left.memory.bytes) l.1)
          ∙ ap (put b 0) (opened_fli_lem w h (jiffies speed)),
    )

-- the invariant

module _ (z : Size) (speed : ℕ) where
  abbrev top : List ℕ
  top = opened_in z.format z.width z.height speed

  pub record Holds (b : List ℕ) (r : Reel) (asked : List State) : Type 0 where
    pub size : size_fits z ≡ true
    pub frames : List ℕ
    pub shows : Shows z (blank (area z)) asked frames
    pub is : r ≡ reel_of z (length asked) (HEADER_BYTES + length frames) false
    pub rest : List ℕ
    pub bytes : b ≡ opened_in z.format z.width z.height speed ++ (frames ++ rest)
    pub each_sized : Each z asked
    pub few : length asked ≤ max_frames

  open_holds : (b b' : List ℕ) (r : Reel) → open_in z.format z.width z.height speed b ≡ builds r (leaves (done []) (lent_bytes b')) → Holds b' r []
  open_holds b b' r e =
      let o = opened_by speed z.format z.width z.height b b' r e in
      record {
        size = o.0;
        frames = [];
        shows = none;
        is = o.1;
        rest = drop (length top) b;
        bytes = o.2 ∙ put_front b top;
        each_sized = no_state;
        few = omega arith;
      }

  -- a frame put behind the others
  behind : (b fs rest f : List ℕ) → b ≡ top ++ (fs ++ rest) → put b (HEADER_BYTES + length fs) f ≡ top ++ ((fs ++ f) ++ drop (length f) rest)
  behind b fs rest f e =
      ap (λ (x : List ℕ). put x (HEADER_BYTES + length fs) f) (e ∙ sym (append_assoc top fs rest))
      ∙ put_behind (top ++ fs) rest f (HEADER_BYTES + length fs)
      (length-append top fs ∙ ap (λ (x : ℕ). x + length fs) (opened_in_length z.format z.width z.height speed))
      ∙ append_assoc top fs (f ++ drop (length f) rest)
      ∙ ap (λ (x : List ℕ). top ++ x) (sym (append_assoc fs f (drop (length f) rest)))

  pub put_after : {b : List ℕ} {r : Reel} {asked : List State} (i : Holds b r asked) (f : List ℕ)
      → put b (HEADER_BYTES + length i.frames) f ≡ opened_in z.format z.width z.height speed ++ ((i.frames ++ f) ++ drop (length f) i.rest)
  put_after {b} i f = behind b i.frames i.rest f i.bytes

  add_holds : (b b' : List ℕ) (r r' : Reel) (asked : List State) (s t : State) → Bytes t.picture → Holds b r asked
      → front (area z) s ≡ last_of (blank (area z)) asked → add_frame r b s t ≡ builds r' (leaves (done []) (lent_bytes b'))
      → Holds b' r' (asked ++ (front (area z) t ∷ [])) × (r'.end ≤ r.end + frame_most)
  unfolding add_frame
  add_holds b b' r r' asked s t by i from e =
      let n = area z in
      let u = front n t in
      let fs = i.frames in
      let f = house_frame z (front n s) u in
      let k = length asked in
      let end = HEADER_BYTES + length fs in
      let r₀ = reel_of z k end false in
      let e₀ : add_frame r₀ b s t ≡ builds r' (leaves (done []) (lent_bytes b')) = ap (λ (x : Reel). add_frame x b s t) (sym i.is) ∙ e in
      let e₁ = passed says (ltb k max_frames) e₀ refl refl in
      let e₂ = passed says (size_fits z) e₁.1 refl refl in
      let e₃ = passed says (enough n s && enough n t) e₂.1 refl refl in
      let e₄ = passed says (end_ok end (length b)) e₃.1 refl refl in
      let e₅ = passed says (fits end f b) e₄.1 refl refl in
      let more = length-append asked (u ∷ []) in
      let sized : ByteState z u = record {
        exact = front_exact z t i.size n refl (both_true (enough n s) (enough n t) e₃.0).1;
        bytes = bytes_take n t.picture by;
      } in
      let before = each_last z i.each_sized (byte_start z i.size) in
      let now-is : r' ≡ reel_of z (k + 1) (end + length f) false = sym (ap (λ (o : ReelOutcome). o.reel) e₅.1) in
      let short = house_short (front_exact z s i.size n refl (both_true (enough n s) (enough n t) e₃.0).0) sized.exact in (
        record {
          size = i.size;
          frames = fs ++ f;
          shows = shows_add z i.shows (subst (λ (x : State). Leads z (house_frame z x u) (last_of (blank n) asked) u) (sym from) (house_leads z before sized));
          is =
              now-is
              ∙ ap₂ (λ (x y : ℕ). reel_of z x y false) (sym more) (omega (arith, length-append fs f));
          rest = drop (length f) i.rest;
          bytes = sym (ap (λ (o : ReelOutcome). o.left.memory.bytes) e₅.1) ∙ put_after i f;
          each_sized = each_add z i.each_sized sized;
          few = omega (arith, more, ltb-true k max_frames e₁.0);
        },
        omega (arith, ap (λ (x : Reel). x.end) now-is, ap (λ (x : Reel). x.end) i.is, short),
      )

  -- the bytes lent anew
  moved_holds : (b b' : List ℕ) (r : Reel) (asked : List State) → take r.end b' ≡ take r.end b → Holds b r asked → Holds b' r asked
  moved_holds b b' r asked e i =
      let fs = i.frames in
      let end = HEADER_BYTES + length fs in
      let at : r.end ≡ end = ap (λ (x : Reel). x.end) i.is in
      let long : length (top ++ fs) ≡ end = length-append top fs ∙ ap (λ (x : ℕ). x + length fs) (opened_in_length z.format z.width z.height speed) in
      let own : take end b ≡ top ++ fs = ap (take end) (i.bytes ∙ sym (append_assoc top fs i.rest)) ∙ take_at (top ++ fs) i.rest end long in
      let same : take end b' ≡ top ++ fs = ap (λ (n : ℕ). take n b') (sym at) ∙ e ∙ ap (λ (n : ℕ). take n b) at ∙ own in
      record {
        size = i.size;
        frames = fs;
        shows = i.shows;
        is = i.is;
        rest = drop end b';
        bytes = sym (take-append-drop end b') ∙ ap (λ (x : List ℕ). x ++ drop end b') same ∙ append_assoc top fs (drop end b');
        each_sized = i.each_sized;
        few = i.few;
      }

  pub making_holds : {b : List ℕ} {r : Reel} {asked : List State} → Making z speed b r asked → Holds b r asked
  making_holds (opening b {b'} {r} e) = open_holds b b' r e
  making_holds (adding {b} {b'} {r} {r'} {asked} m s t by from e) = (add_holds b b' r r' asked s t by (making_holds m) from e).0
  making_holds (moving {b} {r} {asked} m b' e) = moved_holds b b' r asked e (making_holds m)
  making_holds (refusing {b} {r} {asked} m s t n place e) =
      let k = add_refused r b s t n place e in
      subst (λ (x : List ℕ). Holds x (add_frame r b s t).reel asked) (sym k.0) (subst (λ (x : Reel). Holds b x asked) (sym k.1) (making_holds m))

  -- how far the record's end can be
  pub making_short : {b : List ℕ} {r : Reel} {asked : List State} → Making z speed b r asked → r.end ≤ HEADER_BYTES + length asked * frame_most
  making_short (opening b {b'} {r} e) = let i = open_holds b b' r e in omega (arith, ap (λ (x : Reel). x.end) i.is, nothing_long i.shows)
    where
      nothing_long : {fs : List ℕ} → Shows z (blank (area z)) [] fs → length fs ≡ 0
      nothing_long none = refl
  making_short (adding {b} {b'} {r} {r'} {asked} m s t by from e) =
      let k = add_holds b b' r r' asked s t by (making_holds m) from e in
      omega (arith, making_short m, k.1, length-append asked (front (area z) t ∷ []))
  making_short (moving {b} {r} {asked} m b' e) = making_short m
  making_short (refusing {b} {r} {asked} m s t n place e) = omega (arith, making_short m, ap (λ (x : Reel). x.end) (add_refused r b s t n place e).1)
