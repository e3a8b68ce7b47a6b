-- Laws of a frame put at an offset, and of the calls that build a reel, by the order of their checks.
use mathlib.Core.Path.{◌≡◌, refl, sym, ap, ap₂, ◌∙◌}
use mathlib.Core.List.{List, [], ◌∷◌, ◌++◌, append_assoc}
use mathlib.Core.Bool.{Bool, true, false, cond, ◌&&◌}
use Prim.Native.Nat.{ℕ, ◌+◌, ◌≤◌, ◌<◌, min}
use native.Mathlib.Omega.{arith}
use borrow.Author.Tests.{le-leb, lt-leb, leb-true, leb-false, ltb-true, ltb-false}
use lib.Dec.{leb, ltb}
use lib.ListN.{length, take, drop, length-drop, take-append-drop}
use lib.Seq.{length-take-le, drop-drop, drop-append-le}
use Rattle.std.specs.Prelude.{Ok, Err}
use Rattle.words.specs.Words.{require◌else◌then◌}
use Rattle.words.specs.Writes.{put}
use Rattle.words.proofs.Laws.{put_front, lent_back}
use Rattle.words.proofs.Tests.{by_test, cond_holds, both_true}
use Rattle.format.specs.Limits.{size_fits, size_of, area, max_frames}
use Rattle.format.specs.declared.Format.TheVariants.{Flc, Fli}
use Rattle.format.specs.declared.Size.{Size}
use Rattle.delay.specs.declared.Milliseconds.{Milliseconds}
use Rattle.answer.specs.Answer.{Said, done, refused, number, told_written, Written}
use Rattle.answer.specs.declared.Refusal.{Refusal}
use Rattle.answer.specs.declared.Refusal.TheVariants.{ShortSlice, BadSize, NoRoom, Cut, BadHeader, WrongTime}
use Rattle.state.specs.State.{State, front, enough}
use Rattle.state.specs.Outcome.{Memory, Outcome, lent_bytes, leaves, refuse, fitted}
use Rattle.house_frame.specs.House.{house_frame}
use Rattle.chunks.specs.Spans.{HEADER_BYTES}
use Rattle.delay.specs.Delay.{jiffies}
use Rattle.reel_header.specs.Written.{opened, opened_fli}
use Rattle.reel_build.specs.declared.Reel.{Reel}
use Rattle.reel_build.specs.Record.{reel_of, no_reel, new_reel, refused_with, builds, keeps, built}
use Rattle.reel_build.specs.Building.{opening, open_reel, open_fli, end_ok, most_bytes, longest, fits, appended, added, add_ok, add_frame}
use Rattle.answer.specs.declared.Refused.{Refused}

-- a refusal leaves the memory m and the reel r as they were
pub refused_keeps : (r : Reel) (e : Refusal) (place : ℕ) (m : Memory) → built r (refused_with r e place) m ≡ keeps r e place m
refused_keeps r e place m = refl

-- longest

module _ (room : ℕ) where
  pub longest_within : (longest room ≤ room) × (longest room ≤ most_bytes)
  longest_within =
      by_test (λ (t : Bool). (cond t room most_bytes ≤ room) × (cond t room most_bytes ≤ most_bytes)) (ltb room most_bytes)
      (λ e. let k = ltb-true room most_bytes e in (omega arith, omega arith)) (λ e. let k = ltb-false room most_bytes e in (omega arith, omega arith))

  pub longest_min : min room most_bytes ≡ longest room
  longest_min =
      by_test (λ (t : Bool). min room most_bytes ≡ cond t room most_bytes) (ltb room most_bytes)
      (λ e. let k = ltb-true room most_bytes e in omega arith) (λ e. let k = ltb-false room most_bytes e in omega arith)

  longest_most : (n : ℕ) → n ≤ room → n ≤ most_bytes → n ≤ longest room
  longest_most n h k = cond_holds (λ (m : ℕ). n ≤ m) (ltb room most_bytes) room most_bytes h k

-- fits

module _ (end : ℕ) (f b : List ℕ) where
  pub fits_in : fits end f b ≡ true → (end + length f ≤ length b) × (end + length f ≤ most_bytes)
  fits_in e =
      let t = both_true (leb (end + length f) (length b)) (leb (end + length f) most_bytes) e in
      (leb-true (end + length f) (length b) t.0, leb-true (end + length f) most_bytes t.1)

  fits_is : end + length f ≤ longest (length b) → fits end f b ≡ true
  fits_is h =
      let k = longest_within (length b) in
      rw (le-leb (end + length f) (length b) (omega arith), le-leb (end + length f) most_bytes (omega arith))

  fits_not : longest (length b) < end + length f → fits end f b ≡ false
  fits_not h =
      by_test (λ (t : Bool). t ≡ false) (fits end f b)
      (λ e. let i = fits_in e in absurd (omega (arith, longest_most (length b) (end + length f) i.0 i.1))) (λ e. refl)

-- bytes that are put where there is room: what an answer tells of the room t, where done gives n and the bytes c, and else b stays

module _ (t : Bool) (n : ℕ) (b c x : List ℕ) where
  abbrev by_room : Bool → Outcome
  by_room s = cond s (leaves (done (n ∷ [])) (lent_bytes c)) (refuse NoRoom 0 (lent_bytes b))

  room_done : (m : ℕ) → leaves (done (m ∷ [])) (lent_bytes x) ≡ by_room t → (t ≡ true) × (m ≡ n) × (x ≡ c)
  room_done m =
      by_test (λ (s : Bool). leaves (done (m ∷ [])) (lent_bytes x) ≡ by_room s → (s ≡ true) × (m ≡ n) × (x ≡ c)) t
      (λ e o. let p = ap (λ (y : Outcome). y.said) o in (refl, (cc), ap (λ (y : Outcome). y.memory.bytes) o))
      (λ e o. let p = ap (λ (y : Outcome). y.said) o in let z : ◌≡◌ {A = ℕ} 0 1 = cc in absurd (omega arith))

  room_refused : (s : Said) (k place : ℕ) → s ≡ refused k place → leaves s (lent_bytes x) ≡ by_room t → (t ≡ false) × (s ≡ refused (number NoRoom) 0) × (x ≡ b)
  room_refused s k place q =
      by_test (λ (r : Bool). leaves s (lent_bytes x) ≡ by_room r → (r ≡ false) × (s ≡ refused (number NoRoom) 0) × (x ≡ b)) t
      (λ e o. let p = sym q ∙ ap (λ (y : Outcome). y.said) o in let z : ◌≡◌ {A = ℕ} 0 1 = cc in absurd (omega arith))
      (λ e o. (refl, ap (λ (y : Outcome). y.said) o, ap (λ (y : Outcome). y.memory.bytes) o))

-- appended

module _ (end : ℕ) (f b : List ℕ) where
  pub append_none : longest (length b) < end → refuse NoRoom 0 (lent_bytes b) ≡ appended end f b
  append_none h = rw (fits_not end f b (omega arith))

  -- what the answer tells, which is known to be this; x: what the bytes hold afterwards
  module _ (a : Written) (x : List ℕ) (o : leaves (told_written a) (lent_bytes x) ≡ appended end f b) where
    pub append_done : (n : ℕ) → a ≡ Ok n → (fits end f b ≡ true) × (n ≡ end + length f) × (x ≡ put b end f)
    append_done n q =
        room_done (fits end f b) (end + length f) b (put b end f) x n (ap (λ (y : Written). leaves (told_written y) (lent_bytes x)) (sym q) ∙ o)

    pub append_refused : (r : Refused) → a ≡ Err r → (fits end f b ≡ false) × (refused (number r.0) r.1 ≡ refused (number NoRoom) 0) × (x ≡ b)
    append_refused r q =
        room_refused (fits end f b) (end + length f) b (put b end f) x (refused (number r.0) r.1) (number r.0) r.1 refl
        (ap (λ (y : Written). leaves (told_written y) (lent_bytes x)) (sym q) ∙ o)

-- the part of b from end on, k long, where the frame is written
module _ (b f : List ℕ) (end k : ℕ) (e : end + k ≡ longest (length b)) where
  abbrev behind : List ℕ
  behind = take k (drop end b)

  behind_long : length behind ≡ k
  behind_long = length-take-le k (drop end b) (simp length-drop (omega (arith, longest_within (length b))))

  -- f at the front of that part is f at end
  put_part : length f ≤ k → take end b ++ (put behind 0 f ++ drop k (drop end b)) ≡ put b end f
  put_part h =
      let d = drop end b in
      let rest : drop (length f) (take k d) ++ drop k d ≡ drop (end + length f) b =
      sym (drop-append-le (length f) (take k d) (drop k d) (omega (arith, behind_long))) ∙ ap (drop (length f)) (take-append-drop k d)
      ∙ drop-drop (length f) end b in
      ap (λ (x : List ℕ). take end b ++ (x ++ drop k d)) (put_front (take k d) f)
      ∙ ap (λ (x : List ℕ). take end b ++ x) (append_assoc f (drop (length f) (take k d)) (drop k d) ∙ ap (λ (x : List ℕ). f ++ x) rest)

  -- a: the answer about the part; x: what the part holds afterwards
  module _ (a : Written) (x : List ℕ) (o : leaves (told_written a) (lent_bytes x) ≡ fitted f behind) where
    abbrev whole : List ℕ
    whole = take end b ++ (x ++ drop k (drop end b))

    -- the answer about the part is that about b, and what is done ends that much further on
    pub append_more : (n : ℕ) → a ≡ Ok n → (leaves (done ((end + n) ∷ [])) (lent_bytes whole) ≡ appended end f b) × (end + n ≤ most_bytes)
    append_more n q =
        let t = room_done (leb (length f) (length behind)) (length f) behind (put behind 0 f) x n
        (ap (λ (y : Written). leaves (told_written y) (lent_bytes x)) (sym q) ∙ o) in
        let h : length f ≤ k = omega (arith, leb-true (length f) (length behind) t.0, behind_long) in
        let i = fits_is end f b (omega arith) in (
          ap₂ (λ (m : ℕ) (y : List ℕ). leaves (done ((end + m) ∷ [])) (lent_bytes y)) t.1
              (ap (λ (y : List ℕ). take end b ++ (y ++ drop k (drop end b))) t.2 ∙ put_part h) ∙ rw i,
          omega (arith, t.1, (fits_in end f b i).1),
        )

    pub append_stopped : (r : Refused) → a ≡ Err r → (y : Written) → y ≡ Err r → leaves (told_written y) (lent_bytes whole) ≡ appended end f b
    append_stopped r q y h =
        let t = room_refused (leb (length f) (length behind)) (length f) behind (put behind 0 f) x (refused (number r.0) r.1) (number r.0) r.1 refl
        (ap (λ (y : Written). leaves (told_written y) (lent_bytes x)) (sym q) ∙ o) in
        let long : k < length f = omega (arith, leb-false (length f) (length behind) t.0, behind_long) in
        ap (λ (z : Written). leaves (told_written z) (lent_bytes whole)) h
        ∙ ap₂ (λ (s : Said) (y : List ℕ). leaves s (lent_bytes (take end b ++ (y ++ drop k (drop end b))))) t.1 t.2
        ∙ ap (λ (y : List ℕ). refuse NoRoom 0 (lent_bytes y)) (ap (λ (y : List ℕ). take end b ++ y) (take-append-drop k (drop end b)) ∙ take-append-drop end b)
        ∙ rw (fits_not end f b (omega arith))

-- a record: end_ok, add_ok

pub end_in : (end room : ℕ) → end_ok end room ≡ true → (HEADER_BYTES ≤ end) × (end ≤ room)
end_in end room e = let t = both_true (leb HEADER_BYTES end) (leb end room) e in (leb-true HEADER_BYTES end t.0, leb-true end room t.1)

pub add_few : (frames : ℕ) (closed : Bool) → add_ok frames closed ≡ true → (closed ≡ false) × (frames < max_frames)
add_few frames true e = let z : ◌≡◌ {A = ℕ} 0 1 = cc in absurd (omega arith)
add_few frames false e = (refl, ltb-true frames max_frames e)

-- open_reel, open_fli

module _ (z : Size) (h b : List ℕ) where
  pub opening_short : length b < HEADER_BYTES → opening z h b ≡ keeps no_reel NoRoom 0 (lent_bytes b)
  opening_short k = rw (lt-leb HEADER_BYTES (length b) k)

  -- x: what the first 128 bytes come back as
  pub opening_done : length h ≡ HEADER_BYTES → HEADER_BYTES ≤ length b → (x : List ℕ) → x ≡ h
      → built no_reel (new_reel z) (lent_bytes (x ++ drop HEADER_BYTES b)) ≡ opening z h b
  opening_done l k x i =
      ap (λ (d : List ℕ). built no_reel (new_reel z) (lent_bytes d)) (lent_back b x h 0 HEADER_BYTES i l) ∙ rw (le-leb HEADER_BYTES (length b) k)

-- each test as it came out
module _ (w h : ℕ) (b : List ℕ) (t : Bool) where
  pub open_is : (speed : Milliseconds) → size_fits (size_of Flc w h) ≡ t
      → (require t else keeps no_reel BadSize 0 (lent_bytes b) then opening (size_of Flc w h) (opened w h speed) b) ≡ open_reel w h speed b
  unfolding open_reel
  open_is speed e = rw (sym e)

  pub open_fli_is : (delay : ℕ) (u : Bool) → size_fits (size_of Fli w h) ≡ t → leb delay 65535 ≡ u
      → (require t else keeps no_reel BadSize 0 (lent_bytes b) then
      require u else keeps no_reel BadHeader 0 (lent_bytes b) then
      opening (size_of Fli w h) (opened_fli w h (jiffies delay)) b) ≡ open_fli w h delay b
  unfolding open_fli
  open_fli_is delay u e k = rw (sym e, sym k)

-- add_frame

module _ (r : Reel) (b : List ℕ) (s t : State) where
  pub add_closed : add_ok r.frames r.closed ≡ false → add_frame r b s t ≡ keeps r WrongTime 0 (lent_bytes b)
  unfolding add_frame
  add_closed e = rw e

  module _ (e : add_ok r.frames r.closed ≡ true) where
    pub add_size : size_fits r.size ≡ false → add_frame r b s t ≡ keeps r BadSize 0 (lent_bytes b)
    unfolding add_frame
    add_size i = rw (e, i)

    module _ (i : size_fits r.size ≡ true) where
      pub add_short : (enough (area r.size) s && enough (area r.size) t) ≡ false → add_frame r b s t ≡ keeps r ShortSlice 0 (lent_bytes b)
      unfolding add_frame
      add_short j = rw (e, i, j)

      pub add_record : enough (area r.size) s ≡ true → enough (area r.size) t ≡ true → end_ok r.end (length b) ≡ false
          → add_frame r b s t ≡ keeps r Cut 0 (lent_bytes b)
      unfolding add_frame
      add_record j k l = rw (e, i, j, k, l)

-- an add that has passed every check but the last
pub record Passed (r : Reel) (b : List ℕ) (s t : State) : Type 0 where
  pub taken : add_ok r.frames r.closed ≡ true
  pub sized : size_fits r.size ≡ true
  pub shown : enough (area r.size) s ≡ true
  pub next : enough (area r.size) t ≡ true
  pub ended : end_ok r.end (length b) ≡ true

-- it adds the frame, if that fits
pub add_passed : (r : Reel) (b : List ℕ) (s t : State) → Passed r b s t
    → add_frame r b s t ≡ added r (house_frame r.size (front (area r.size) s) (front (area r.size) t)) b
unfolding add_frame
add_passed r b s t i = rw (i.taken, i.sized, i.shown, i.next, i.ended)

-- a: the answer about the frame put there; x: what the bytes hold afterwards; m and n: what lies at the front of the lent pairs
module _ (r : Reel) (b : List ℕ) (s t : State) (i : Passed r b s t) (a : Written) (x : List ℕ) (m n : State) (k : m ≡ front (area r.size) s)
    (l : n ≡ front (area r.size) t) (o : leaves (told_written a) (lent_bytes x) ≡ appended r.end (house_frame r.size m n) b) where
  abbrev f : List ℕ
  f = house_frame r.size (front (area r.size) s) (front (area r.size) t)

  asked : leaves (told_written a) (lent_bytes x) ≡ appended r.end f b
  asked = o ∙ ap₂ (λ (u v : State). appended r.end (house_frame r.size u v) b) k l

  pub add_done : (end : ℕ) → a ≡ Ok end → builds (reel_of r.size (r.frames + 1) end false) (leaves (done []) (lent_bytes x)) ≡ add_frame r b s t
  add_done end q =
      let d = append_done r.end f b a x asked end q in
      ap₂ (λ (u : ℕ) (y : List ℕ). builds (reel_of r.size (r.frames + 1) u false) (leaves (done []) (lent_bytes y))) d.1 d.2
      ∙ sym (add_passed r b s t i ∙ rw d.0)

  pub add_stopped : (e : Refused) → a ≡ Err e → keeps r e.0 e.1 (lent_bytes x) ≡ add_frame r b s t
  add_stopped e q =
      let d = append_refused r.end f b a x asked e q in
      ap₂ (λ (u : Said) (y : List ℕ). builds r (leaves u (lent_bytes y))) d.1 d.2 ∙ sym (add_passed r b s t i ∙ rw d.0)
