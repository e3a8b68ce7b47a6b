-- The packets of a delta row (document 01, "Frames, chunks and rows"): kind 12, LC, counts single pixels, kind 7, SS2, pixel pairs.
-- unit: how many pixels one of them is, 1 in LC and 2 in SS2.
use Prim.Native.Nat.{ℕ, zero, suc, ◌+◌, ◌-◌, ◌*◌}
use Rattle.std.specs.Prelude.{List, [], ◌++◌, length, take, drop, ltb, Result, Ok, Err}
use Rattle.std.proofs.Math.ListN.{get_or}
use Rattle.std.proofs.Math.Dec.{leb}
use Rattle.words.specs.Words.{require◌else◌then◌, magnitude}
use Rattle.std.proofs.Math.Bool.{cond}
use Rattle.answer.specs.declared.Refusal.{Refusal}
use Rattle.answer.specs.declared.Refusal.TheVariants.{BodyEnds, PastWidth}
use Rattle.walk.specs.Walk.{Walk, ends, fault, and_then}
use Rattle.read_packets.specs.declared.Packet.{Packet}

-- a packet of type t, whose pixels go to column x: the column after them is next, and its data ends at offset end
abbrev pub packet_to : ℕ → ℕ → ℕ → ℕ → Packet
packet_to t x next end = record { code = t; x = x; next = next; end = end }

-- a packet, or its first fault
abbrev pub PacketStep : Type 0
PacketStep = Result Packet Refusal

-- n times the pixels v
unfoldable pub repeated : ℕ → List ℕ → List ℕ
repeated zero v = []
repeated (suc n) v = v ++ repeated n v

module _ (unit : ℕ) where
  -- how many bytes of data follow a type t: "n of 0 or more copies n pixels" (LC), "n pixel pairs" (SS2), "minus n repeats one"
  unfoldable pub data_bytes : ℕ → ℕ
  data_bytes t = cond (ltb t 128) (unit * t) unit

  -- the pixels of a packet of type t whose data is at offset at
  unfoldable pub pixels : List ℕ → ℕ → ℕ → List ℕ
  unfolding repeated
  pixels b at t = cond (ltb t 128) (take (unit * t) (drop at b)) (repeated (256 - t) (take unit (drop at b)))

module _ (unit w : ℕ) (b : List ℕ) where
  -- a packet of type t at offset at, whose pixels go to column x: "x after skip and pixels (9), data (7)"
  unfoldable pub packet_of : ℕ → ℕ → ℕ → PacketStep
  unfolding data_bytes
  packet_of at x t =
      require leb (x + unit * magnitude t) w else Err PastWidth then
      require leb (at + 2 + data_bytes unit t) (length b) else Err BodyEnds then
      Ok (packet_to t x (x + unit * magnitude t) (at + 2 + data_bytes unit t))

  -- the packet at offset at, the row being at column x: "two bytes (7)", "skip in pixels, signed type"
  unfoldable pub packet_at : ℕ → ℕ → PacketStep
  unfolding packet_of
  packet_at at x =
      require leb (at + 2) (length b) else Err BodyEnds then
      packet_of at (x + get_or b at 0) (get_or b (at + 1) 0)

  -- a packet's write on row row, and then the walk k from its end and the column after it
  abbrev pub after_packet : ℕ → ℕ → PacketStep → (ℕ → ℕ → Walk) → Walk
  after_packet row at (Err e) k = fault e
  after_packet row at (Ok p) k = and_then (row * w + p.x) (pixels unit b (at + 2) p.code) (k p.end p.next)

  -- n packets from offset at on, on row row from column x on
  unfoldable pub packets : ℕ → ℕ → ℕ → ℕ → Walk
  unfolding packet_at pixels
  packets zero row at x = ends at
  packets (suc n) row at x = after_packet row at (packet_at at x) (λ at' x'. packets n row at' x')
