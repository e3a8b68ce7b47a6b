-- Frames that lie back to back, each leading from one state to the next, show just those states, whatever lies in front of and behind them.
use mathlib.Core.Path.{◌≡◌, refl, sym, ap, ap₂, ◌∙◌, subst}
use mathlib.Core.List.{List, [], ◌∷◌, ◌++◌, append_assoc, append-nil}
use mathlib.Core.Bool.{true}
use Prim.Native.Nat.{ℕ, suc, ◌+◌, ◌-◌}
use native.Mathlib.Omega.{arith}
use native.Mathlib.Nat.{add-sub_cancel_left}
use lib.ListN.{length, take, drop, length-append}
use Rattle.std.specs.Prelude.{Ok}
use Rattle.words.specs.Words.{part, u32_at}
use Rattle.words.proofs.There.{there_drop, there_take, drop_word32}
use Rattle.words.proofs.Bytewise.{bytes_replicate}
use Rattle.format.specs.Limits.{area, size_fits}
use Rattle.format.specs.declared.Size.{Size}
use Rattle.format.proofs.Laws.{size_in_lem}
use Rattle.state.specs.State.{State, blank, state, Exact}
use Rattle.chunks.specs.Headers.{frame_header, whole_of}
use Rattle.chunks.specs.declared.Layout.{Layout}
use Rattle.chunks.specs.declared.Layout.TheVariants.{Loose}
use Rattle.chunks.specs.Spans.{HEADER_BYTES, next_at, frame_to}
use Rattle.chunks.proofs.Headers.{frame_in}
use Rattle.chunks.proofs.Spans.{next_there}
use Rattle.read_frame.specs.Frame.{frame}
use Rattle.read_frame.specs.Reading.{played}
use Rattle.house_frame.specs.House.{house_chunks, house_frame}
use Rattle.house_back.proofs.Frames.{header_before}
use Rattle.house_back.specs.Plays.{ByteState}
use Rattle.house_back.proofs.ReadsBack.{subs_small, house_reads_back}
use Rattle.reel_play.specs.Play.{Progress, ran, one_frame, frames, shown, play_all}
use Rattle.reel_play.proofs.Laws.{one_played, frames_none, frames_more, all_more}
use Rattle.reel_laws.specs.Laps.{last_of, Reads}
use Rattle.reel_laws.specs.Laps as laps
use Rattle.reel_laws.proofs.Laps.{blank_exact, one_read}

module _ (z : Size) where
  -- the bytes f are a frame, whatever follows it, which is accepted and leads from s to t
  pub record Leads (f : List ℕ) (s t : State) : Type 0 where
    pub count : ℕ
    pub header : (more : List ℕ) → frame_header (f ++ more) ≡ Ok (whole_of count (length f))
    pub done : (frame z f).answer ≡ Ok tt
    pub after : played (frame z f) s ≡ t

  -- the bytes are frames back to back that lead from s to each of the states in turn
  pub data Shows : State → List State → List ℕ → Type 0 where
    none : {s : State} → Shows s [] []
    next : {s t : State} {ts : List State} {f fs : List ℕ} → Leads f s t → Shows t ts fs → Shows s (t ∷ ts) (f ++ fs)

  -- one frame more
  pub shows_add : {s : State} {ts : List State} {fs : List ℕ} → Shows s ts fs → {f : List ℕ} {t : State} → Leads f (last_of s ts) t
      → Shows s (ts ++ (t ∷ [])) (fs ++ f)
  shows_add {s} none {f} {t} l = subst (Shows s (t ∷ [])) (append-nil f) (next l none)
  shows_add {s} (next {t = u} {ts} {f = g} {fs = gs} k rest) {f} {t} l =
      subst (Shows s (u ∷ (ts ++ (t ∷ [])))) (sym (append_assoc g gs f)) (next k (shows_add rest l))

  -- the bytes of the first frame
  abbrev pub size_of_first : {s t : State} {ts : List State} {fs : List ℕ} → Shows s (t ∷ ts) fs → ℕ
  size_of_first (next {s} {t} {ts} {f} {fs} l rest) = length f

  -- states of just that size, of bytes
  pub data Each : List State → Type 0 where
    no_state : Each []
    each : {t : State} {ts : List State} → ByteState z t → Each ts → Each (t ∷ ts)

  pub each_add : {ts : List State} → Each ts → {t : State} → ByteState z t → Each (ts ++ (t ∷ []))
  each_add no_state i = each i no_state
  each_add (each j rest) i = each j (each_add rest i)

  pub each_first : {t : State} {ts : List State} → Each (t ∷ ts) → ByteState z t
  each_first (each i rest) = i

  pub each_last : {ts : List State} → Each ts → {s : State} → ByteState z s → ByteState z (last_of s ts)
  each_last no_state i = i
  each_last (each j rest) i = each_last rest j

  -- the house frame is such a frame
  pub house_leads : {s t : State} → ByteState z s → ByteState z t → Leads (house_frame z s t) s t
  unfolding house_frame
  house_leads {s} {t} i j =
      let back = house_reads_back i j in
      record {
        count = length (house_chunks z s t);
        header = header_before (house_chunks z s t) (subs_small i j);
        done = back.done;
        after = ap₂ state back.picture back.palette;
      }

module _ (z : Size) (ok : size_fits z ≡ true) where
  pub exact_start : Exact z (blank (area z))
  exact_start = blank_exact z (size_in_lem z ok)

  pub byte_start : ByteState z (blank (area z))
  unfolding blank
  byte_start = record { exact = exact_start; bytes = bytes_replicate (area z) 0 (omega arith) }

  -- a run of frames up to an offset, in a state
  pub record Ends (p : Progress) (end : ℕ) (s : State) : Type 0 where
    pub last : ℕ
    pub is : p ≡ ran (Ok (frame_to last end)) s

  module _ (b : List ℕ) where
    -- one frame, which b has at offset at
    module _ {f : List ℕ} {s t : State} (l : Leads z f s t) (more : List ℕ) (at : ℕ) (e : drop at b ≡ f ++ more) where
      pub leads_next : (layout : Layout) → next_at layout b at ≡ Ok (frame_to at (at + length f))
      leads_next layout = next_there layout b at l.count (length f) (ap frame_header e ∙ l.header more)

      part_there : part b at (at + length f) ≡ f
      part_there = ap (λ (n : ℕ). take n (drop at b)) (add-sub_cancel_left at (length f)) ∙ there_take b f more at (length f) e refl

      pub leads_plays : (layout : Layout) → one_frame layout z b at s ≡ ran (Ok (frame_to at (at + length f))) t
      leads_plays layout =
          one_played layout z b at s at (at + length f) (leads_next layout) (ap (λ (x : List ℕ). (frame z x).answer) part_there ∙ l.done)
          ∙ ap (ran (Ok (frame_to at (at + length f)))) (ap (λ (x : List ℕ). played (frame z x) s) part_there ∙ l.after)

      -- its size field
      pub leads_size : u32_at b at ≡ length f
      leads_size =
          let i = frame_in (f ++ more) (Ok (whole_of l.count (length f))) (l.header more) in
          ap (u32_at b) (omega arith) ∙ sym (drop_word32 b at 0) ∙ ap (λ (x : List ℕ). u32_at x 0) e ∙ sym i.4

    -- the first of some frames, and the others
    record First (f fs more : List ℕ) (at : ℕ) : Type 0 where
      pub here : drop at b ≡ f ++ (fs ++ more)
      pub others : drop (at + length f) b ≡ fs ++ more
      pub whole_end : at + length f + length fs ≡ at + length (f ++ fs)

    first_there : (f fs more : List ℕ) (at : ℕ) → drop at b ≡ (f ++ fs) ++ more → First f fs more at
    first_there f fs more at e =
        let here = e ∙ append_assoc f fs more in
        record { here = here; others = there_drop b f (fs ++ more) at (length f) here refl; whole_end = omega (arith, length-append f fs) }

    pub shows_plays : (layout : Layout) {s : State} {ts : List State} {fs : List ℕ} → Shows z s ts fs → (more : List ℕ) (last at : ℕ) → drop at b ≡ fs ++ more
        → Ends (frames layout z b (length ts) last at s) (at + length fs) (last_of s ts)
    shows_plays layout {s} none more last at e =
        record { last = last; is = frames_none layout z b 0 last at s (omega arith) ∙ ap (λ (k : ℕ). ran (Ok (frame_to last k)) s) (omega arith) }
    shows_plays layout {s} (next {t} {ts} {f} {fs} l rest) more last at e =
        let x = first_there f fs more at e in
        let r = shows_plays layout rest more at (at + length f) x.others in
        let n : suc (length ts) - 1 ≡ length ts = omega arith in
        record {
          last = r.last;
          is =
              frames_more layout z b (suc (length ts)) last at s (omega arith) t at (at + length f) (leads_plays l (fs ++ more) at x.here layout)
              ∙ ap (λ (k : ℕ). frames layout z b k at (at + length f) t) n
              ∙ r.is ∙ ap (λ (k : ℕ). ran (Ok (frame_to r.last k)) (last_of t ts)) x.whole_end;
        }

    pub shows_reads : {s : State} {ts : List State} {fs : List ℕ} → Shows z s ts fs → Exact z s → (more : List ℕ) (at : ℕ) → drop at b ≡ fs ++ more
        → Reads z b at s ts
    shows_reads none i more at e = laps.none
    shows_reads {s} (next {t} {ts} {f} {fs} l rest) i more at e =
        let x = first_there f fs more at e in
        let o = one_read z ok b at s i at (at + length f) t (leads_plays l (fs ++ more) at x.here Loose) in
        laps.next at (at + length f) t o.step o.read (shows_reads rest o.exact more (at + length f) x.others)

    -- frame 1 from blank, at offset 128, and the rest
    pub record Whole (layout : Layout) (first : State) (rest : List State) (end : ℕ) : Type 0 where
      pub last : ℕ
      pub is : play_all layout (length rest) z b ≡ shown (Ok (frame_to last end)) (last_of first rest) first

    pub all_plays : (layout : Layout) {first : State} {rest : List State} {fs : List ℕ} → Shows z (blank (area z)) (first ∷ rest) fs → (more : List ℕ)
        → drop HEADER_BYTES b ≡ fs ++ more → Whole layout first rest (HEADER_BYTES + length fs)
    all_plays layout (next {s} {t} {ts} {f} {fs} l others) more e =
        let x = first_there f fs more HEADER_BYTES e in
        let r = shows_plays layout others more HEADER_BYTES (HEADER_BYTES + length f) x.others in
        record {
          last = r.last;
          is =
              all_more layout (length ts) z b t HEADER_BYTES (HEADER_BYTES + length f) (leads_plays l (fs ++ more) HEADER_BYTES x.here layout) _ refl
              ∙ ap (λ (p : Progress). shown p.result p.after t) r.is
              ∙ ap (λ (k : ℕ). shown (Ok (frame_to r.last k)) (last_of t ts) t) x.whole_end;
        }

    pub first_size : {s t : State} {ts : List State} {fs : List ℕ} (x : Shows z s (t ∷ ts) fs) (more : List ℕ) (at : ℕ) → drop at b ≡ fs ++ more
        → u32_at b at ≡ size_of_first z x
    first_size (next {s} {t} {ts} {f} {fs} l rest) more at e = leads_size l (fs ++ more) at (first_there f fs more at e).here

    -- where the first two frames lie, the ring being behind the others
    pub record Two (second : ℕ) : Type 0 where
      pub third : ℕ
      pub frame_1 : next_at Loose b HEADER_BYTES ≡ Ok (frame_to HEADER_BYTES second)
      pub frame_2 : next_at Loose b second ≡ Ok (frame_to second third)

    pub two_there : {first : State} {rest : List State} {fs : List ℕ} (x : Shows z (blank (area z)) (first ∷ rest) fs) {ring : List ℕ}
        → Leads z ring (last_of first rest) first
        → (more : List ℕ) → drop HEADER_BYTES b ≡ (fs ++ ring) ++ more → Two (HEADER_BYTES + size_of_first z x)
    two_there (next {s} {t} {ts} {f} {fs} l others) {ring} r more e = by others r refl
      where
        one : First f (fs ++ ring) more HEADER_BYTES
        one = first_there f (fs ++ ring) more HEADER_BYTES (e ∙ ap (λ (y : List ℕ). y ++ more) (append_assoc f fs ring))

        two : {u : State} {g : List ℕ} → Leads z g t u → (behind : List ℕ) → fs ++ ring ≡ g ++ behind → Two (HEADER_BYTES + length f)
        two {u} {g} k behind q =
            record {
              third = HEADER_BYTES + length f + length g;
              frame_1 = leads_next l ((fs ++ ring) ++ more) HEADER_BYTES one.here Loose;
              frame_2 =
                  leads_next k (behind ++ more) (HEADER_BYTES + length f) (one.others ∙ ap (λ (y : List ℕ). y ++ more) q ∙ append_assoc g behind more) Loose;
            }

        by : {us : List State} {gs : List ℕ} → Shows z t us gs → Leads z ring (last_of t us) t → gs ++ ring ≡ fs ++ ring → Two (HEADER_BYTES + length f)
        by none k q = two k [] (sym q ∙ sym (append-nil ring))
        by (next {t = u} {ts = us} {f = g} {fs = gs} k rest) j q = two k (gs ++ ring) (sym q ∙ append_assoc g gs ring)
