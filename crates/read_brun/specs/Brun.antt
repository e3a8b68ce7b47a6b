-- Kind 15, BRUN (document 01, "Frames, chunks and rows"): the picture's pixels from the first on.
use Prim.Native.Nat.{ℕ, zero, suc, ◌+◌, ◌-◌}
use Rattle.std.specs.Prelude.{List, [], ◌∷◌, ◌++◌, length, get_or, take, drop, replicate, ltb, cond, Result, Ok, Err}
use Rattle.std.proofs.Math.Dec.{leb}
use Rattle.words.specs.Words.{require◌else◌then◌, magnitude}
use Rattle.answer.specs.declared.Refusal.{Refusal}
use Rattle.answer.specs.declared.Refusal.TheVariants.{BodyEnds, ZeroCount, PastWidth}
use Rattle.walk.specs.Walk.{Walk, Verdict}
use Rattle.read_brun.specs.declared.Packet.{Packet}

-- The pixels met before the first fault; that fault, or the offset where the data ended.
pub record Run : Type 0 where
  pub pixels : List ℕ
  pub verdict : Verdict

abbrev pub run_ends : ℕ → Run
run_ends at = record { pixels = []; verdict = Ok at }

abbrev pub run_fault : Refusal → Run
run_fault e = record { pixels = []; verdict = Err e }

-- pixels, and then the rest
abbrev pub run_before : List ℕ → Run → Run
run_before px k = record { pixels = px ++ k.pixels; verdict = k.verdict }

-- one run, and then, if no fault was met, another from where its data ended
abbrev pub run_onward : List ℕ → Verdict → (ℕ → Run) → Run
run_onward px (Ok at) k = run_before px (k at)
run_onward px (Err e) k = record { pixels = px; verdict = Err e }

abbrev pub run_then : Run → (ℕ → Run) → Run
run_then r k = run_onward r.pixels r.verdict k

-- "n from 1 to 127 repeats one pixel n times; minus n, to minus 128, copies n pixels": how many bytes of data, the pixels
unfoldable pub data_bytes : ℕ → ℕ
data_bytes t = cond (ltb t 128) 1 (256 - t)

unfoldable pub pixels : List ℕ → ℕ → ℕ → List ℕ
pixels b at t = cond (ltb t 128) (replicate t (get_or b at 0)) (take (256 - t) (drop at b))

-- a packet of this type, which gives count pixels and whose data ends at end
abbrev pub packet_to : ℕ → ℕ → ℕ → Packet
packet_to code count end = record { code = code; count = count; end = end }

-- a packet, or its first fault
abbrev pub BrunStep : Type 0
BrunStep = Result Packet Refusal

module _ (b : List ℕ) where
  -- a packet of type t at offset at, where left columns are left: "zero (8), width (9), data (7)"
  unfoldable pub packet_of : ℕ → ℕ → ℕ → BrunStep
  unfolding data_bytes
  packet_of at left t =
      require leb 1 (magnitude t) else Err ZeroCount then
      require leb (magnitude t) left else Err PastWidth then
      require leb (at + 1 + data_bytes t) (length b) else Err BodyEnds then
      Ok (packet_to t (magnitude t) (at + 1 + data_bytes t))

  -- the packet at offset at: "byte there (7)"
  unfoldable pub packet_at : ℕ → ℕ → BrunStep
  unfolding packet_of
  packet_at at left =
      require leb (at + 1) (length b) else Err BodyEnds then
      packet_of at left (get_or b at 0)

  -- a packet's pixels, and then the run k from its end; k is told how many columns it has filled
  abbrev pub after_packet : ℕ → BrunStep → (ℕ → ℕ → Run) → Run
  after_packet at (Err e) k = run_fault e
  after_packet at (Ok p) k = run_before (pixels b (at + 1) p.code) (k p.count p.end)

  -- "packets until the width is reached": from offset at on; of the left columns the first filled are behind us
  unfoldable pub packets : ℕ → ℕ → ℕ → Run
  unfolding packet_at pixels
  packets zero filled at = run_ends at
  packets (suc left) (suc filled) at = packets left filled at
  packets (suc left) zero at = after_packet at (packet_at at (suc left)) (λ n end. packets left (n - 1) end)

module _ (w : ℕ) (b : List ℕ) where
  -- "Every row: one ignored byte, then packets"
  unfoldable pub row : ℕ → Run
  unfolding packets
  row at =
      require leb (at + 1) (length b) else run_fault BodyEnds then
      packets b w 0 (at + 1)

  -- h rows from offset at on
  unfoldable pub rows : ℕ → ℕ → Run
  unfolding row
  rows zero at = run_ends at
  rows (suc h) at = run_then (row at) (λ end. rows h end)

-- a picture of w by h: one write of its pixels, row by row
unfoldable pub brun : ℕ → ℕ → List ℕ → Walk
unfolding rows
brun w h b = record { writes = record { at = 0; bytes = (rows w b h 0).pixels } ∷ []; verdict = (rows w b h 0).verdict }
