-- Demand 3, all of it: `demand3`, whose parts are the fields of `Demand3` (specs/Demand3.antt), one for each of its sentences.
-- The idea: a frame that is accepted gives a state t, and with room enough its rewrite writes exactly the house frame from the previous state to t (`wrote`).
-- Done, and equal bytes for equal states, follow at once. The house frame reads back (`house_reads_back`), so equal bytes come from equal states,
-- and rewriting it finds t again. Its picture chunk is no longer than the full chunk, and that than any single BLACK, BRUN or COPY chunk that gives
-- t's picture.
use mathlib.Core.Path.{◌≡◌, refl, sym, ap, ap₂, ◌∙◌, subst}
use mathlib.Core.List.{List, [], ◌∷◌, ◌++◌, flatten, append-nil}
use mathlib.Core.Bool.{Bool, true, false, cond}
use Prim.Native.Nat.{ℕ, ◌+◌, ◌≤◌, ◌<◌}
use native.Mathlib.Omega.{arith}
use lib.Dec.{leb}
use lib.ListN.{length, take, drop, length-append}
use lib.Seq.{take_at}
use borrow.Author.Tests.{le-leb, ne_eqb}
use Rattle.std.specs.Prelude.{Ok, Err}
use Rattle.words.specs.Words.{require◌else◌then◌, u32_at, chunk, same, Bytes}
use Rattle.words.specs.Writes.{Write, put, applied}
use Rattle.words.proofs.Laws.{put_front, same_eq, length_chunk, bytes_take}
use Rattle.words.proofs.Tests.{by_test}
use Rattle.format.specs.Format.{FLI_COLOR256, FLI_BLACK, FLI_BRUN, FLI_COPY}
use Rattle.format.specs.Limits.{area, size_fits}
use Rattle.format.specs.declared.Size.{Size}
use Rattle.answer.specs.Answer.{Said, done, refused, Answer}
use Rattle.answer.specs.declared.Refusal.TheVariants.{ShortSlice, NoRoom}
use Rattle.state.specs.State.{State, state, enough, front, Exact}
use Rattle.state.specs.Outcome.{Outcome, lent_bytes, lent_bytes_pair, leaves, refuse, fitted}
use Rattle.state.proofs.Laws.{enough_is, front_exact, passed}
use Rattle.house_colour.specs.Colours.{colour_body}
use Rattle.house_colour.proofs.ReadsBack.{colour_short}
use Rattle.house_full.specs.Full.{full_chunk}
use Rattle.house_full.proofs.FullLeast.{FullLeast, full_least}
use Rattle.read_chunk.specs.Chunk.{ChunkWalk, sub_chunk}
use Rattle.read_frame.specs.Frame.{FrameWalk, frame}
use Rattle.read_frame.specs.Reading.{played, read_by, read_frame}
use Rattle.read_frame.proofs.Laws.{read_by_lem}
use Rattle.read_frame.proofs.Sound.{played_exact}
use Rattle.house_frame.specs.House.{colour_chunk, picture_chunk, house_chunks, framed, house_frame, frame_most}
use Rattle.house_frame.proofs.Laws.{picture_short}
use Rattle.house_back.specs.Plays.{Plays, ByteState}
use Rattle.house_back.proofs.Frames.{framed_field}
use Rattle.read_full.specs.Full.{black, copied}
use Rattle.read_brun.specs.Brun.{brun}
use Rattle.read_chunk.proofs.Laws.{judged_ends}
use Rattle.house_back.proofs.ReadsBack.{played_bytes, Good, good_picture, black_walk, brun_walk, copy_walk, house_small, subs_small, house_reads_back}
use Rattle.house_rewrite.proofs.Subs.{same_first, Described, none, more, framed_described, Single, frame_single}
use Rattle.house_rewrite.specs.Rewriting.{rewrote, rewrite_frame}
use Rattle.house_rewrite.specs.Demand3 as words
use Rattle.house_rewrite.specs.Demand3.{RoomEnough, bytes_written, Sub, subs_of, pictured, FullKind, Accepted, next, Demand3}

refused_not_done : {C : Type 0} {n place : ℕ} {v : List ℕ} → refused n place ≡ done v → C
refused_not_done e = let z : ◌≡◌ {A = ℕ} 0 1 = cc in absurd (omega arith)

-- what an accepted frame tells

-- the size and the previous pair are right, and the frame is done
record Taken (z : Size) (previous : State) (b : List ℕ) : Type 0 where
  pub size : size_fits z ≡ true
  pub room : enough (area z) previous ≡ true
  pub answer : (frame z b).answer ≡ Ok tt

taken : (z : Size) (previous : State) (b : List ℕ) → Accepted z previous b → Taken z previous b
unfolding read_frame
taken z previous b e =
    let said : Outcome → Said = λ o. o.said in
    let s = passed said (size_fits z) {o = read_frame b z previous} refl e refl in
    let r = passed said (enough (area z) previous) s.1 e refl in
    record { size = s.0; room = r.0; answer = answered (frame z b).answer (ap said r.1 ∙ e) }
  where
    answered : (a : Answer) → (read_by (area z) (frame z b) a previous).said ≡ done [] → a ≡ Ok tt
    answered (Ok u) k = refl
    answered (Err r) k = refused_not_done k

module _ (z : Size) (previous : State) where
  -- the previous state
  abbrev was : State
  was = front (area z) previous

  -- what the frame b makes of it
  abbrev gives : List ℕ → State
  gives b = played (frame z b) was

  module _ (b : List ℕ) (t : Taken z previous b) where
    was_exact : Exact z was
    was_exact = front_exact z previous t.size (area z) refl t.room

    reads : read_frame b z previous ≡ read_by (area z) (frame z b) (Ok tt) previous
    reads = read_by_lem b z previous t.size t.room (Ok tt) t.answer

    -- accepted, the other way round
    accepted : Accepted z previous b
    accepted = ap (λ (o : Outcome). o.said) reads

    -- the next state is what the frame makes of the previous one
    next_is : next z previous b ≡ gives b
    unfolding next
    next_is =
        let x = played_exact z b was was_exact in
        ap (λ (o : Outcome). front (area z) o.memory.first) reads
        ∙ ap₂ (λ (p q : List ℕ). state p q) (take_at (gives b).picture (drop (area z) previous.picture) (area z) x.picture.pixels)
        (take_at (gives b).palette (drop 768 previous.palette) 768 x.colours)

    was_bytes : Bytes previous.picture → ByteState z was
    was_bytes bp = record { exact = was_exact; bytes = bytes_take (area z) previous.picture bp }

-- what a rewrite with room enough wrote

record Wrote (o : Outcome) (house : List ℕ) : Type 0 where
  pub said : o.said ≡ done (length house ∷ [])
  pub bytes : bytes_written o ≡ house

abbrev tested : Bool → List ℕ → List ℕ → Outcome
tested c b out = require c else refuse NoRoom 0 (lent_bytes out) then leaves (done (length b ∷ [])) (lent_bytes (put out 0 b))

fitted_done : (b out : List ℕ) → ((fitted b out).said ≡ refused 3 0 → ⊥) → Wrote (fitted b out) b
fitted_done b out =
    by_test (λ c. ((tested c b out).said ≡ refused 3 0 → ⊥) → Wrote (tested c b out) b) (leb (length b) (length out))
    (λ e fits. record { said = refl; bytes = ap (λ (x : List ℕ). take (length b) x) (put_front out b) ∙ take_at b (drop (length b) out) (length b) refl })
    (λ e fits. absurd (fits refl))

module _ (z : Size) (previous : State) (b : List ℕ) (work : State) (out : List ℕ) (t : Taken z previous b) where
  -- the house frame that leads from the previous state to the one that b gives
  abbrev house : List ℕ
  house = house_frame z (was z previous) (gives z previous b)

  -- c: whether the working pair is long enough
  abbrev rewrites : Bool → Outcome
  rewrites c = require c else refuse ShortSlice 0 (lent_bytes_pair out work) then rewrote z (was z previous) (gives z previous b) work out

  rewrite_as : rewrite_frame b z previous work out ≡ rewrites (enough (area z) work)
  unfolding rewrite_frame
  rewrite_as = rw (t.size, t.room, t.answer)

  rewrite_wrote : RoomEnough (rewrite_frame b z previous work out) → Wrote (rewrite_frame b z previous work out) house
  rewrite_wrote room =
      subst (λ (o : Outcome). Wrote o house) (sym rewrite_as)
      (by_test (λ c. RoomEnough (rewrites c) → Wrote (rewrites c) house) (enough (area z) work)
      (λ e r. let f = fitted_done house out (r.no_short_output 0) in record { said = f.said; bytes = f.bytes })
      (λ e r. absurd (r.no_short_slice 0 refl)) (subst RoomEnough rewrite_as room))

-- the picture chunk of a house frame

pictured_other : (k : Sub) (ks : List Sub) → (k.kind ≡ FLI_COLOR256 → ⊥) → pictured (k ∷ ks) ≡ k ∷ pictured ks
unfolding pictured
pictured_other k ks e = ap (λ (b : Bool). cond b (pictured ks) (k ∷ pictured ks)) (ne_eqb k.kind FLI_COLOR256 e)

pictured_colour : (n : ℕ) (ks : List Sub) → pictured (record { kind = FLI_COLOR256; size = n } ∷ ks) ≡ pictured ks
unfolding pictured
pictured_colour n ks = refl

pictured_none : pictured [] ≡ []
unfolding pictured
pictured_none = refl

module _ (z : Size) (s t : State) (zs : ByteState z s) (zt : ByteState z t) (differs : same s.picture t.picture ≡ false) where
  chosen : Good z s.picture t.picture (picture_chunk z s.picture t.picture)
  chosen = good_picture z s.picture t.picture zs.exact.picture zt.exact.picture zt.bytes

  abbrev only : Sub
  only = record { kind = chosen.kind; size = 6 + length chosen.body }

  only_size : only.size ≡ length (picture_chunk z s.picture t.picture)
  unfolding chosen
  only_size = sym (ap length chosen.is ∙ length_chunk chosen.kind chosen.body)

  -- the sub-chunks, the colour's if there is one, and their headers
  abbrev colour_or : Bool → List (List ℕ)
  colour_or c = cond c [] (chunk FLI_COLOR256 (colour_body s.palette t.palette) ∷ [])

  abbrev colour_sub : Bool → List Sub
  colour_sub c = cond c [] (record { kind = FLI_COLOR256; size = 6 + length (colour_body s.palette t.palette) } ∷ [])

  house_subs : house_frame z s t ≡ framed (colour_or (same s.palette t.palette) ++ (chunk chosen.kind chosen.body ∷ []))
  unfolding house_frame house_chunks colour_chunk
  house_subs =
      ap (λ (c : Bool). framed (colour_or (same s.palette t.palette) ++ cond c [] (picture_chunk z s.picture t.picture ∷ []))) differs
      ∙ ap (λ (x : List ℕ). framed (colour_or (same s.palette t.palette) ++ (x ∷ []))) chosen.is

  chosen_small : 6 + length chosen.body < 4294967296
  chosen_small = omega (arith, only_size, chosen.short)

  house_described : (c : Bool) → Described (colour_or c ++ (chunk chosen.kind chosen.body ∷ [])) (colour_sub c ++ (only ∷ []))
  house_described true = more chosen.kind chosen.body chosen_small none
  house_described false =
      more FLI_COLOR256 (colour_body s.palette t.palette) (omega (arith, colour_short s.palette t.palette zs.exact.colours zt.exact.colours))
      (more chosen.kind chosen.body chosen_small none)

  small_subs : (c : Bool) → 16 + length (flatten (colour_or c ++ (chunk chosen.kind chosen.body ∷ []))) < 4294967296
  unfolding flatten
  small_subs true = omega (arith, length-append (chunk chosen.kind chosen.body) [], length_chunk chosen.kind chosen.body, only_size, chosen.short)
  small_subs false =
      omega (
        arith,
        length-append (chunk FLI_COLOR256 (colour_body s.palette t.palette)) (chunk chosen.kind chosen.body ++ []),
        length-append (chunk chosen.kind chosen.body) [],
        length_chunk FLI_COLOR256 (colour_body s.palette t.palette),
        length_chunk chosen.kind chosen.body,
        colour_short s.palette t.palette zs.exact.colours zt.exact.colours,
        only_size,
        chosen.short,
      )

  alone : pictured (only ∷ []) ≡ only ∷ []
  alone = pictured_other only [] chosen.coloured ∙ ap (λ (l : List Sub). only ∷ l) pictured_none

  only_pictured : (c : Bool) → pictured (colour_sub c ++ (only ∷ [])) ≡ only ∷ []
  only_pictured true = alone
  only_pictured false = pictured_colour (6 + length (colour_body s.palette t.palette)) (only ∷ []) ∙ alone

  house_picture : pictured (subs_of (house_frame z s t)) ≡ only ∷ []
  house_picture =
      let c = same s.palette t.palette in
      ap (λ (b : List ℕ). pictured (subs_of b)) house_subs
      ∙ ap pictured (framed_described (colour_or c ++ (chunk chosen.kind chosen.body ∷ [])) (colour_sub c ++ (only ∷ [])) (small_subs c) (house_described c))
      ∙ only_pictured c

-- a single full chunk that gives the picture q from p is no shorter than the full one
full_shorter : (z : Size) (f : FrameWalk) (p q : List ℕ) (kind size : ℕ) → length p ≡ area z → FullKind kind → Single z f kind size → applied f.pixels p ≡ q
    → length (full_chunk z.width z.height q) ≤ size
full_shorter z f p q kind size lp k c e =
    go k c.ended (ap (λ (l : List Write). applied l p) (sym (append-nil (sub_chunk z kind c.body).pixels))
    ∙ ap (λ (l : List Write). applied l p) (sym c.pixels) ∙ e)
  where
    least : FullLeast z.width z.height c.body p q c.end
    least = full_least z.width z.height c.body p q c.end lp

    go : {kind : ℕ} → FullKind kind → (sub_chunk z kind c.body).verdict ≡ Ok c.end → applied (sub_chunk z kind c.body).pixels p ≡ q
        → length (full_chunk z.width z.height q) ≤ size
    go words.black v r =
        omega (
          arith,
          c.long,
          length_chunk FLI_BLACK c.body,
          least.black_chunk
              (record {
                ended = judged_ends (length c.body) (black (area z)).verdict c.end (sym (ap (λ (x : ChunkWalk). x.verdict) (black_walk z c.body)) ∙ v);
                result = sym (ap (λ (x : ChunkWalk). applied x.pixels p) (black_walk z c.body)) ∙ r;
              }),
        )
    go words.brun v r =
        omega (
          arith,
          c.long,
          length_chunk FLI_BRUN c.body,
          least.brun_chunk
              (record {
                ended = judged_ends (length c.body) (brun z.width z.height c.body).verdict c.end
                    (sym (ap (λ (x : ChunkWalk). x.verdict) (brun_walk z c.body)) ∙ v);
                result = sym (ap (λ (x : ChunkWalk). applied x.pixels p) (brun_walk z c.body)) ∙ r;
              }),
        )
    go words.copy v r =
        omega (
          arith,
          c.long,
          length_chunk FLI_COPY c.body,
          least.copy_chunk
              (record {
                ended = judged_ends (length c.body) (copied (area z) c.body).verdict c.end (sym (ap (λ (x : ChunkWalk). x.verdict) (copy_walk z c.body)) ∙ v);
                result = sym (ap (λ (x : ChunkWalk). applied x.pixels p) (copy_walk z c.body)) ∙ r;
              }),
        )

-- the theorem

differs : (p q : List ℕ) → (q ≡ p → ⊥) → same p q ≡ false
differs p q e = by_test (λ c. c ≡ false) (same p q) (λ f. absurd (e (sym (same_eq p q f)))) (λ f. refl)

-- a frame of bytes that is accepted, and whose rewrite has room
record Known (z : Size) (previous : State) (b : List ℕ) (work : State) (out : List ℕ) : Type 0 where
  pub bytes : Bytes b
  pub accepted : Accepted z previous b
  pub room : RoomEnough (rewrite_frame b z previous work out)

module _ (z : Size) (previous : State) (bp : Bytes previous.picture) where
  -- the previous state, what b makes of it, the house frame that leads there, and the bytes that are written
  abbrev old : State
  old = was z previous

  abbrev new : List ℕ → State
  new b = gives z previous b

  abbrev leads : List ℕ → List ℕ
  leads b = house_frame z old (new b)

  abbrev wrote : List ℕ → State → List ℕ → List ℕ
  wrote b work out = bytes_written (rewrite_frame b z previous work out)

  -- a frame's rewrite, with all that is known of it
  module _ {b : List ℕ} {work : State} {out : List ℕ} (k : Known z previous b work out) where
    t : Taken z previous b
    t = taken z previous b k.accepted

    old_bytes : ByteState z old
    old_bytes = was_bytes z previous b t bp

    new_bytes : ByteState z (new b)
    new_bytes = played_bytes z b old k.bytes old_bytes

    wrote_house : Wrote (rewrite_frame b z previous work out) (leads b)
    wrote_house = rewrite_wrote z previous b work out t k.room

    back : Plays (frame z (leads b)) old.picture old.palette (new b).picture (new b).palette
    back = house_reads_back old_bytes new_bytes

    field : u32_at (leads b) 0 ≡ length (leads b)
    unfolding house_frame
    field = framed_field (house_chunks z old (new b)) (subs_small old_bytes new_bytes)

    done_part : (n : ℕ) × ((rewrite_frame b z previous work out).said ≡ done (n ∷ [])) × (length (wrote b work out) ≡ n) × (u32_at (wrote b work out) 0 ≡ n)
    done_part = (length (leads b), wrote_house.said, ap length wrote_house.bytes, ap (λ (x : List ℕ). u32_at x 0) wrote_house.bytes ∙ field)

    -- the picture chunk of what was written, where the picture changes
    picture_part : ((next z previous b).picture ≡ old.picture → ⊥)
        → (c : Sub) × (pictured (subs_of (wrote b work out)) ≡ c ∷ []) × (c.size ≡ length (picture_chunk z old.picture (new b).picture))
    picture_part d =
        let other = differs old.picture (new b).picture (λ e. d (ap (λ (x : State). x.picture) (next_is z previous b t) ∙ e)) in (
          only z old (new b) old_bytes new_bytes other,
          ap (λ (x : List ℕ). pictured (subs_of x)) wrote_house.bytes ∙ house_picture z old (new b) old_bytes new_bytes other,
          only_size z old (new b) old_bytes new_bytes other,
        )

    -- what was written is accepted, and gives the same state
    again_taken : Taken z previous (leads b)
    again_taken = record { size = t.size; room = t.room; answer = back.done }

    again_accepted : Accepted z previous (wrote b work out)
    again_accepted = subst (Accepted z previous) (sym wrote_house.bytes) (accepted z previous (leads b) again_taken)

    again_gives : new (leads b) ≡ new b
    again_gives = ap₂ (λ (x y : List ℕ). state x y) back.picture back.palette

    again_part : (work' : State) (out' : List ℕ) → RoomEnough (rewrite_frame (wrote b work out) z previous work' out')
        → ((n : ℕ) × ((rewrite_frame (wrote b work out) z previous work' out').said ≡ done (n ∷ []))) × (wrote (wrote b work out) work' out' ≡ wrote b work out)
    again_part work' out' =
        subst
        (λ (x : List ℕ).
        RoomEnough (rewrite_frame x z previous work' out') → ((n : ℕ) × ((rewrite_frame x z previous work' out').said ≡ done (n ∷ [])))
        × (wrote x work' out' ≡ x))
        (sym wrote_house.bytes)
        (λ (r : RoomEnough (rewrite_frame (leads b) z previous work' out')).
        let o = rewrite_wrote z previous (leads b) work' out' again_taken r in
        ((length (leads (leads b)), o.said), o.bytes ∙ ap (house_frame z old) again_gives))

  module _ {b : List ℕ} {work : State} {out : List ℕ} (k : Known z previous b work out) {b' : List ℕ} {work' : State} {out' : List ℕ} (k' : Known z previous b' work' out') where
    bytes_to_states : wrote b work out ≡ wrote b' work' out' → next z previous b ≡ next z previous b'
    bytes_to_states e =
        let f = sym (wrote_house k).bytes ∙ e ∙ (wrote_house k').bytes in
        next_is z previous b (t k)
        ∙ ap₂ (λ (u v : List ℕ). state u v)
        (sym (back k).picture ∙ ap (λ (x : List ℕ). applied (frame z x).pixels old.picture) f ∙ (back k').picture)
        (sym (back k).palette ∙ ap (λ (x : List ℕ). applied (frame z x).colours old.palette) f ∙ (back k').palette)
        ∙ sym (next_is z previous b' (t k'))

    states_to_bytes : next z previous b ≡ next z previous b' → wrote b work out ≡ wrote b' work' out'
    states_to_bytes e =
        (wrote_house k).bytes ∙ ap (house_frame z old) (sym (next_is z previous b (t k)) ∙ e ∙ next_is z previous b' (t k')) ∙ sym (wrote_house k').bytes

  full_part : {b : List ℕ} {work : State} {out : List ℕ} → Known z previous b work out → ((next z previous b).picture ≡ old.picture → ⊥)
      → (k : Sub) → pictured (subs_of (wrote b work out)) ≡ k ∷ []
      → (c : List ℕ) (kind size : ℕ) → FullKind kind → Accepted z previous c → subs_of c ≡ record { kind = kind; size = size } ∷ []
      → (next z previous c).picture ≡ (next z previous b).picture → k.size ≤ size
  full_part {b} {work} {out} known d k e c kind size f ac one same-picture =
      let tc = taken z previous c ac in
      let m = picture_part known d in
      let this : k.size ≡ length (picture_chunk z old.picture (new b).picture) = ap (λ (x : Sub). x.size) (same_first k m.0 [] (sym e ∙ m.1)) ∙ m.2 in
      let pictures : (new c).picture ≡ (new b).picture =
      sym (ap (λ (x : State). x.picture) (next_is z previous c tc)) ∙ same-picture ∙ ap (λ (x : State). x.picture) (next_is z previous b (t known)) in
      omega (
        arith,
        this,
        picture_short z old.picture (new b).picture,
        full_shorter z (frame z c) old.picture (new b).picture kind size (was_exact z previous c tc).picture.pixels f
            (frame_single z c kind size tc.answer one) pictures,
      )

  room_part : (b : List ℕ) (work : State) (out : List ℕ) → Bytes b → Accepted z previous b → area z ≤ length work.picture → 768 ≤ length work.palette
      → frame_most ≤ length out → RoomEnough (rewrite_frame b z previous work out)
  room_part b work out bb a lw lq lo =
      let taken = taken z previous b a in
      let was = was_bytes z previous b taken bp in
      let short = house_small was (played_bytes z b old bb was) in
      let e : (rewrite_frame b z previous work out).said ≡ done (length (leads b) ∷ []) =
      ap (λ (o : Outcome). o.said) (rewrite_as z previous b work out taken)
      ∙ ap (λ (c : Bool). (rewrites z previous b work out taken c).said) (enough_is (area z) work lw lq)
      ∙ ap (λ (c : Bool). (tested c (leads b) out).said) (le-leb (length (leads b)) (length out) (omega arith)) in
      record { no_short_slice = λ place f. refused_not_done (sym f ∙ e); no_short_output = λ place f. refused_not_done (sym f ∙ e) }

  known : (b : List ℕ) (work : State) (out : List ℕ) → Bytes b → Accepted z previous b → RoomEnough (rewrite_frame b z previous work out)
      → Known z previous b work out
  known b work out bb a room = record { bytes = bb; accepted = a; room = room }

  pub demand3 : Demand3 z previous
  demand3 =
      record {
        room_can_be_had = room_part;
        rewriting_is_done = λ b work out bb a room. done_part (known b work out bb a room);
        same_bytes_same_state = λ b work out b' work' out' bb a room bb' a' room'.
            let k = known b work out bb a room in
            let k' = known b' work' out' bb' a' room' in
            (bytes_to_states k k', states_to_bytes k k');
        written_is_accepted = λ b work out bb a room. again_accepted (known b work out bb a room);
        rewriting_again = λ b work out work' out' bb a room. again_part (known b work out bb a room) work' out';
        one_picture_chunk = λ b work out bb a room d. let p = picture_part (known b work out bb a room) d in (p.0, p.1);
        no_full_chunk_shorter = λ b work out bb a room. full_part (known b work out bb a room);
      }
