-- A reel that was opened, added to and closed shows every state asked for, the ring the first, and the check accepts it (`built_shows`).
-- The idea: the close's own playing ends in the last state asked for, so that the ring is one more frame behind those of the adds, back to the
-- first state; and the header fields that the close sets are those that the check reads.
use mathlib.Core.Path.{◌≡◌, refl, sym, ap, ap₂, ◌∙◌, subst}
use mathlib.Core.List.{List, [], ◌∷◌, ◌++◌, append_assoc, append-nil}
use mathlib.Core.Bool.{Bool, true, false, ◌&&◌, cond}
use Prim.Native.Nat.{ℕ, suc, ◌+◌, ◌-◌, ◌≤◌, ◌<◌}
use native.Mathlib.Omega.{arith}
use native.Mathlib.Numerals.{sub-one}
use borrow.Author.Tests.{le-leb}
use lib.ListN.{length, take, drop, length-append}
use lib.Seq.{take_at, take_all, drop_at}
use Rattle.std.specs.Prelude.{Ok, Err}
use Rattle.words.specs.Writes.{put}
use Rattle.words.proofs.Laws.{same_refl}
use Rattle.words.proofs.Tests.{by_test}
use Rattle.format.specs.Limits.{size_fits, area, max_frames}
use Rattle.format.specs.declared.Size.{Size}
use Rattle.answer.specs.Answer.{done, told, refused_at}
use Rattle.answer.specs.declared.Refusal.{Refusal}
use Rattle.answer.specs.declared.Refusal.TheVariants.{ShortSlice, NoRoom, BadRing}
use Rattle.state.specs.State.{State, blank, enough, refilled}
use Rattle.state.specs.Outcome.{Memory, lent_bytes, lent_pairs, lent_bytes_pairs, leaves, refuse}
use Rattle.chunks.specs.declared.Layout.TheVariants.{Loose, Packed}
use Rattle.chunks.specs.Spans.{HEADER_BYTES, frame_to}
use Rattle.house_frame.specs.House.{house_frame, frame_most}
use Rattle.house_back.specs.Plays.{ByteState}
use Rattle.house_back.proofs.ReadsBack.{house_small}
use Rattle.reel_header.specs.Head.{delay_at, head_of, head_with, Headed}
use Rattle.reel_header.specs.declared.Takes.TheVariants.{Both}
use Rattle.reel_header.specs.Written.{opened_in, second_at, closed_header, header_in}
use Rattle.reel_header.proofs.Laws.{opened_in_length, opened_closed, header_length, header_read, header_speed}
use Rattle.reel_play.specs.Play.{Shown, shown, play_all}
use Rattle.reel_check.specs.Check.{checked_by, after_head, ring_answer, check_reel}
use Rattle.reel_build.specs.declared.Reel.{Reel}
use Rattle.reel_build.specs.Record.{reel_of, ReelOutcome, builds, keeps}
use Rattle.reel_build.specs.Building.{most_bytes, fits}
use Rattle.reel_build.proofs.Laws.{fits_in}
use Rattle.reel_close.specs.Closing.{own_playing, ring_written, close_frames, with_pairs, close_ok, close_reel}
use Rattle.reel_close.proofs.Laws.{own_played, frames_ringed, close_played, close_short}
use Rattle.reel_laws.specs.Laps.{last_of, Reads}
use Rattle.reel_laws.specs.Building.{Making, Finished}
use Rattle.reel_laws.proofs.Laps.{last_append}
use Rattle.reel_laws.proofs.Frames.{Leads, Shows, size_of_first, shows_add, each_first, each_last, house_leads, exact_start, byte_start, first_size, shows_reads, Whole, all_plays, Two, two_there}
use Rattle.reel_laws.proofs.Making.{Holds, put_after, making_holds}
use Rattle.delay.specs.declared.Milliseconds.{Milliseconds}

-- A file: a closed header, and frames that lead to the states asked for and back to the first.

module _ (z : Size) (speed : ℕ) (ok : size_fits z ≡ true) (first : State) (rest : List State) (few : suc (length rest) ≤ max_frames)
    (fs : List ℕ) (shows : Shows z (blank (area z)) (first ∷ (rest ++ (first ∷ []))) fs) (second : ℕ) (word : HEADER_BYTES + length fs < 4294967296) where
  abbrev size : ℕ
  size = HEADER_BYTES + length fs

  abbrev top : List ℕ
  top = header_in z.format (HEADER_BYTES + length fs) (suc (length rest)) z.width z.height speed second

  abbrev file : List ℕ
  file = header_in z.format (HEADER_BYTES + length fs) (suc (length rest)) z.width z.height speed second ++ fs

  top_length : length top ≡ HEADER_BYTES
  top_length = header_length z.format size (suc (length rest)) z.width z.height speed second

  pub file_length : length file ≡ size
  file_length = length-append top fs ∙ ap (λ (k : ℕ). k + length fs) top_length

  pub file_read : head_of Both file ≡ Ok (head_with z (suc (length rest)) size (delay_at z.format file))
  file_read = header_read z size (suc (length rest)) speed second fs ok (omega arith) few word (omega arith) (omega (arith, file_length))

  pub frames_there : drop HEADER_BYTES file ≡ fs ++ []
  frames_there = drop_at top fs HEADER_BYTES top_length ∙ sym (append-nil fs)

  pub file_shows : Reads z file HEADER_BYTES (blank (area z)) (first ∷ (rest ++ (first ∷ [])))
  file_shows = shows_reads z ok file shows (exact_start z ok) [] HEADER_BYTES frames_there

  plays : Whole z ok file Loose first (rest ++ (first ∷ [])) size
  plays = all_plays z ok file Loose shows [] frames_there

  played : play_all Loose (suc (length rest)) z (take size file) ≡ shown (Ok (frame_to plays.last size)) first first
  played =
      let count : suc (length rest) ≡ length (rest ++ (first ∷ [])) = omega (arith, length-append rest (first ∷ [])) in
      ap₂ (λ (k : ℕ) (x : List ℕ). play_all Loose k z x) count (take_all size file (omega (arith, file_length))) ∙ plays.is
      ∙ ap (λ (s : State). shown (Ok (frame_to plays.last size)) s first) (last_append first rest first)

  pub file_accepted : (p q : State) → enough (area z) p ≡ true → enough (area z) q ≡ true → (check_reel file p q).said ≡ done []
  unfolding check_reel
  file_accepted p q e f =
      ap (λ (x : Headed). (after_head file x p q).said) file_read
      ∙ ap₂ (λ (s t : Bool).
      (cond (s && t) (checked_by (area z) (play_all Loose (suc (length rest)) z (take size file)) p q) (refuse ShortSlice 0 (lent_pairs p q))).said) e f
      ∙ ap (λ (x : Shown). told (ring_answer x)) played
      ∙ ap₂ (λ (s t : Bool). told (cond (s && t) (Ok tt) (Err (refused_at BadRing plays.last)))) (same_refl first.picture) (same_refl first.palette)

-- The close.

module _ (z : Size) (speed : ℕ) (b : List ℕ) (r : Reel) (first : State) (rest : List State) (i : Holds z speed b r (first ∷ rest)) where
  abbrev ok : size_fits z ≡ true
  ok = i.size

  abbrev fs : List ℕ
  fs = i.frames

  abbrev end : ℕ
  end = HEADER_BYTES + length i.frames

  abbrev count : ℕ
  count = suc (length rest)

  abbrev open_reel_lem : Reel
  open_reel_lem = reel_of z (suc (length rest)) (HEADER_BYTES + length i.frames) false

  abbrev header : List ℕ
  header = opened_in z.format z.width z.height speed

  abbrev ring : List ℕ
  ring = house_frame z (last_of first rest) first

  first_sized : ByteState z first
  first_sized = each_first z i.each_sized

  last_sized : ByteState z (last_of first rest)
  last_sized = each_last z i.each_sized (byte_start z ok)

  ring_leads : Leads z ring (last_of first rest) first
  ring_leads = house_leads z last_sized first_sized

  header_long : length header ≡ HEADER_BYTES
  header_long = opened_in_length z.format z.width z.height speed

  there : drop HEADER_BYTES b ≡ fs ++ i.rest
  there = ap (drop HEADER_BYTES) i.bytes ∙ drop_at header (fs ++ i.rest) HEADER_BYTES header_long

  own_length : length (header ++ fs) ≡ end
  own_length = length-append header fs ∙ ap (λ (k : ℕ). k + length fs) header_long

  bytes_are : b ≡ (header ++ fs) ++ i.rest
  bytes_are = i.bytes ∙ sym (append_assoc header fs i.rest)

  own : take end b ≡ header ++ fs
  own = ap (take end) bytes_are ∙ take_at (header ++ fs) i.rest end own_length

  own_plays : Whole z ok (header ++ fs) Packed first rest end
  own_plays = all_plays z ok (header ++ fs) Packed i.shows [] (drop_at header fs HEADER_BYTES header_long ∙ sym (append-nil fs))

  inside : end ≤ length b
  inside = omega (arith, own_length, ap length bytes_are, length-append (header ++ fs) i.rest)

  -- the close's own playing ends in the last state asked for
  own_shows : own_playing open_reel_lem b ≡ shown (Ok (frame_to own_plays.last end)) (last_of first rest) first
  own_shows =
      let ended = ap₂ (λ (x y : Bool). x && y) (le-leb HEADER_BYTES end (omega arith)) (le-leb end (length b) inside) in
      let plays : play_all Packed (count - 1) z (take end b) ≡ shown (Ok (frame_to own_plays.last end)) (last_of first rest) first =
      ap₂ (λ (k : ℕ) (x : List ℕ). play_all Packed k z x) (sub-one (suc (length rest))) own ∙ own_plays.is in
      own_played open_reel_lem b ended end refl _ (sym plays)

  frames_close : close_frames open_reel_lem b (own_playing open_reel_lem b) ≡ ring_written open_reel_lem ring b
  frames_close =
      ap (close_frames open_reel_lem b) own_shows
      ∙ sym (frames_ringed open_reel_lem b (Ok (frame_to own_plays.last end)) (last_of first rest) first own_plays.last end refl (omega arith))

  -- the bytes with the ring

  abbrev left : List ℕ
  left = drop (length (house_frame z (last_of first rest) first)) i.rest

  abbrev all_frames : List ℕ
  all_frames = i.frames ++ house_frame z (last_of first rest) first

  abbrev second_is : ℕ
  second_is = HEADER_BYTES + size_of_first z i.shows

  size_is : end + length ring ≡ HEADER_BYTES + length all_frames
  size_is = omega (arith, length-append fs ring)

  second_read : second_at b ≡ second_is
  unfolding second_at
  second_read = ap (λ (k : ℕ). HEADER_BYTES + k) (first_size z ok b i.shows i.rest HEADER_BYTES there)

  abbrev top_is : List ℕ
  top_is = header_in z.format (HEADER_BYTES + length all_frames) count z.width z.height speed second_is

  top_is_long : length top_is ≡ HEADER_BYTES
  top_is_long = header_length z.format (HEADER_BYTES + length all_frames) count z.width z.height speed second_is

  abbrev whole : List ℕ
  whole = header_in z.format (HEADER_BYTES + length all_frames) count z.width z.height speed second_is ++ (all_frames ++ left)

  file_is : closed_header z.format (end + length ring) count (second_at b) (put b end ring) ≡ whole
  file_is =
      ap₂ (λ (k : ℕ) (x : List ℕ). closed_header z.format k count (second_at b) x) size_is (put_after z speed i ring)
      ∙ ap (λ (k : ℕ). closed_header z.format (HEADER_BYTES + length all_frames) count k (header ++ (all_frames ++ left))) second_read
      ∙ opened_closed z.format z.width z.height speed (HEADER_BYTES + length all_frames) count second_is (all_frames ++ left)

  abbrev closed_reel : Reel
  closed_reel = reel_of z (suc (length rest)) (HEADER_BYTES + length (i.frames ++ house_frame z (last_of first rest) first)) true

  cut : take (HEADER_BYTES + length all_frames) whole ≡ top_is ++ all_frames
  cut =
      ap (take (HEADER_BYTES + length all_frames)) (sym (append_assoc top_is all_frames left))
      ∙ take_at (top_is ++ all_frames) left (HEADER_BYTES + length all_frames)
      (length-append top_is all_frames ∙ ap (λ (k : ℕ). k + length all_frames) top_is_long)

  finished : fits end ring b ≡ true → Finished z speed first rest (top_is ++ all_frames) closed_reel
  finished k =
      let room = fits_in end ring b k in
      let word : HEADER_BYTES + length all_frames < 4294967296 = omega (arith, room.1, size_is) in
      let shows = shows_add z i.shows ring_leads in
      let two : Two z ok (top_is ++ all_frames) second_is =
      two_there z ok (top_is ++ all_frames) i.shows ring_leads [] (frames_there z speed ok first rest i.few all_frames shows second_is word) in
      record {
        long = file_length z speed ok first rest i.few all_frames shows second_is word;
        record_is = refl;
        second = second_is;
        header = take_at top_is all_frames HEADER_BYTES top_is_long;
        header_read = λ quick.
            file_read z speed ok first rest i.few all_frames shows second_is word
            ∙ ap (λ (d : Milliseconds). Ok (head_with z count (HEADER_BYTES + length all_frames) d))
            (header_speed z.format (HEADER_BYTES + length all_frames) count z.width z.height speed second_is all_frames quick);
        oframe1_is = two.frame_1;
        third = two.third;
        oframe2_is = two.frame_2;
        shows = file_shows z speed ok first rest i.few all_frames shows second_is word;
        accepted = file_accepted z speed ok first rest i.few all_frames shows second_is word;
      }

  abbrev closes : ReelOutcome
  closes = builds closed_reel (leaves (done []) (lent_bytes whole))

  -- with room for the ring
  ring_fits : fits end ring b ≡ true → ring_written open_reel_lem ring b ≡ closes
  ring_fits k =
      ap (λ (t : Bool). cond t
      (builds (reel_of z count (end + length ring) true)
      (leaves (done []) (lent_bytes (closed_header z.format (end + length ring) count (second_at b) (put b end ring)))))
      (keeps open_reel_lem NoRoom 0 (lent_bytes b))) k
      ∙ ap₂ (λ (n : ℕ) (x : List ℕ). builds (reel_of z count n true) (leaves (done []) (lent_bytes x))) size_is file_is

  -- and without
  ring_out : fits end ring b ≡ false → ring_written open_reel_lem ring b ≡ keeps open_reel_lem NoRoom 0 (lent_bytes b)
  ring_out k = rw k

  module _ (p q : State) where
    -- what was closed is finished
    abbrev Fine : ReelOutcome → Type 0
    Fine o = o.left.said ≡ done [] → Finished z speed first rest (take o.reel.end o.left.memory.bytes) o.reel

    refused_fine : (e : Refusal) (place : ℕ) (x : Reel) (m : Memory) → Fine (keeps x e place m)
    refused_fine e place x m d = let z : ◌≡◌ {A = ℕ} 0 1 = cc in absurd (omega arith)

    taken : close_ok count false ≡ true
    taken = ap₂ (λ (x y : Bool). x && y) (le-leb 1 count (omega arith)) (le-leb count max_frames i.few)

    abbrev with_pairs_lem : ReelOutcome → ReelOutcome
    with_pairs_lem o = with_pairs o (refilled (area z) (own_playing open_reel_lem b).last p) (refilled (area z) (own_playing open_reel_lem b).one q)

    close_is : enough (area z) p ≡ true → enough (area z) q ≡ true → close_reel open_reel_lem b p q ≡ with_pairs_lem (ring_written open_reel_lem ring b)
    close_is e f = close_played open_reel_lem b p q (record { taken = taken; sized = ok; first_long = e; second_long = f }) ∙ ap with_pairs_lem frames_close

    ring_fine : Fine (with_pairs_lem (ring_written open_reel_lem ring b))
    ring_fine =
        by_test (λ t. Fine (with_pairs_lem (ring_written open_reel_lem ring b))) (fits end ring b)
        (λ k. subst (λ (o : ReelOutcome). Fine (with_pairs_lem o)) (sym (ring_fits k))
        (λ d. subst (λ (x : List ℕ). Finished z speed first rest x closed_reel) (sym cut) (finished k)))
        (λ k. subst (λ (o : ReelOutcome). Fine (with_pairs_lem o)) (sym (ring_out k))
        (refused_fine NoRoom 0 open_reel_lem (with_pairs_lem (keeps open_reel_lem NoRoom 0 (lent_bytes b))).left.memory))

    close_fine : Fine (close_reel open_reel_lem b p q)
    close_fine =
        by_test (λ t. Fine (close_reel open_reel_lem b p q)) (enough (area z) p)
        (λ e. by_test (λ t. Fine (close_reel open_reel_lem b p q)) (enough (area z) q)
        (λ f. subst Fine (sym (close_is e f)) ring_fine)
        (λ f. subst Fine (sym (close_short open_reel_lem b p q taken ok (ap₂ (λ (x y : Bool). x && y) e f)))
        (refused_fine ShortSlice 0 open_reel_lem (lent_bytes_pairs b p q))))
        (λ e. subst Fine (sym (close_short open_reel_lem b p q taken ok (ap (λ (x : Bool). x && enough (area z) q) e)))
        (refused_fine ShortSlice 0 open_reel_lem (lent_bytes_pairs b p q)))

    pub close_finishes : (close_reel r b p q).left.said ≡ done []
        → Finished z speed first rest (take (close_reel r b p q).reel.end (close_reel r b p q).left.memory.bytes) (close_reel r b p q).reel
    close_finishes = subst (λ (x : Reel). Fine (close_reel x b p q)) (sym i.is) close_fine

    -- it is done where both pairs hold a state and there is room for a frame
    pub close_done : enough (area z) p ≡ true → enough (area z) q ≡ true → r.end + frame_most ≤ length b → r.end + frame_most ≤ most_bytes
        → (close_reel r b p q).left.said ≡ done []
    close_done e f room word =
        let at : r.end ≡ end = ap (λ (x : Reel). x.end) i.is in
        let small = house_small last_sized first_sized in
        ap (λ (x : Reel). (close_reel x b p q).left.said) i.is
        ∙ ap (λ (o : ReelOutcome). o.left.said) (close_is e f)
        ∙ ap (λ (o : ReelOutcome). o.left.said)
        (ring_fits (ap₂ (λ (x y : Bool). x && y) (le-leb (end + length ring) (length b) (omega arith)) (le-leb (end + length ring) most_bytes (omega arith))))

-- The builder's promise: an open, adds each handed what the last accepted one asked for, and a close.

module _ (z : Size) (speed : ℕ) {b : List ℕ} {r : Reel} {first : State} {rest : List State} (m : Making z speed b r (first ∷ rest)) (p q : State) where
  pub built_shows : (close_reel r b p q).left.said ≡ done []
      → Finished z speed first rest (take (close_reel r b p q).reel.end (close_reel r b p q).left.memory.bytes) (close_reel r b p q).reel
  built_shows = close_finishes z speed b r first rest (making_holds z speed m) p q

  pub close_can_be_done : enough (area z) p ≡ true → enough (area z) q ≡ true → r.end + frame_most ≤ length b → r.end + frame_most ≤ most_bytes
      → (close_reel r b p q).left.said ≡ done []
  close_can_be_done = close_done z speed b r first rest (making_holds z speed m) p q
