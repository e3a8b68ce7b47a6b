-- The packets of a row read back: what `Turns` says of them is what the reader's walk over their bytes does to the row.
use mathlib.Core.Path.{◌≡◌, refl, sym, ap, ap₂, ◌∙◌}
use mathlib.Core.List.{List, [], ◌∷◌, ◌++◌, append_assoc, flatten, flat_map}
use Prim.Native.Nat.{ℕ, suc, ◌+◌, ◌-◌, ◌*◌, ◌≤◌}
use native.Mathlib.Omega.{arith}
use native.Mathlib.Nat.{add-zero}
use lib.ListN.{length, drop, get_or, length-append}
use borrow.Author.Tests.{le-leb}
use Rattle.std.specs.Prelude.{Ok}
use Rattle.words.specs.Words.{magnitude}
use Rattle.words.specs.Writes.{put}
use Rattle.words.proofs.Laws.{magnitude_plus, magnitude_minus}
use Rattle.words.proofs.There.{there_drop, there_take, there_byte, there_long, put_at}
use Rattle.walk.proofs.Gives.{Gives, gives_ends, gives_then, gives_as, gives_to}
use Rattle.read_packets.specs.Packets as walk
use Rattle.read_packets.specs.Packets.{packet_to, repeated, data_bytes, pixels, packet_of, packet_at}
use Rattle.read_packets.proofs.Laws.{length_repeated, data_copy, data_repeat, pixels_copy, pixels_repeat, packets_none, packets_more}
use Rattle.house_packets.specs.Packets.{Packet, packet_bytes, bytes}
use Rattle.house_packets.proofs.Turns.{Turns, done, copied, again}

back : (n : ℕ) → n ≤ 127 → 256 - (256 - n) ≡ n
back n h = omega arith

module _ (unit w : ℕ) (b : List ℕ) where
  packet_there : (at x k t : ℕ) → at + 2 ≤ length b → get_or b at 0 ≡ k → get_or b (at + 1) 0 ≡ t → x + k + unit * magnitude t ≤ w
      → at + 2 + data_bytes unit t ≤ length b
      → packet_at unit w b at x ≡ Ok (packet_to t (x + k) (x + k + unit * magnitude t) (at + 2 + data_bytes unit t))
  unfolding packet_at packet_of
  packet_there at x k t two ek et fits there =
      simp (le-leb (at + 2) (length b) two, ek, et, le-leb (x + k + unit * magnitude t) w fits, le-leb (at + 2 + data_bytes unit t) (length b) there)

  -- a packet of skip k and type t whose pixels px come in the place of old, and then the packets after it
  packet_gives : (n row at x k t : ℕ) (more px gap old s' t' pre post : List ℕ) (end : ℕ)
      → drop at b ≡ k ∷ t ∷ more → data_bytes unit t ≤ length more → pixels unit b (at + 2) t ≡ px → length px ≡ unit * magnitude t
      → length gap ≡ k → length old ≡ length px → x + length (gap ++ (old ++ s')) ≤ w → length pre ≡ row * w + x
      → ((pre' : List ℕ) → length pre' ≡ row * w + (x + k + unit * magnitude t)
      → Gives (walk.packets unit w b n row (at + 2 + data_bytes unit t) (x + k + unit * magnitude t)) end (pre' ++ (s' ++ post)) (pre' ++ (t' ++ post)))
      → Gives (walk.packets unit w b (suc n) row at x) end (pre ++ ((gap ++ (old ++ s')) ++ post)) (pre ++ ((gap ++ (px ++ t')) ++ post))
  packet_gives n row at x k t more px gap old s' t' pre post end e ld ep lp lg lo fits le after =
      let lgo = length-append gap (old ++ s') in
      let los = length-append old s' in
      let skip : get_or b at 0 ≡ k = ap (λ (i : ℕ). get_or b i 0) (sym (add-zero at)) ∙ there_byte b (k ∷ t ∷ more) at 0 k e refl in
      let whole = packet_there at x k t
      (there_long b (k ∷ t ∷ more) at 2 e (omega arith) (omega arith))
      skip
      (there_byte b (k ∷ t ∷ more) at 1 t e refl)
      (omega arith)
      (omega (arith, there_long b (k ∷ t ∷ more) at (2 + data_bytes unit t) e (omega arith) (omega arith))) in
      let there : put (pre ++ ((gap ++ (old ++ s')) ++ post)) (row * w + (x + k)) (pixels unit b (at + 2) t) ≡ (pre ++ (gap ++ px)) ++ (s' ++ post) =
      ap (λ (l : List ℕ). put (pre ++ ((gap ++ (old ++ s')) ++ post)) (row * w + (x + k)) l) ep
      ∙ ap (λ (l : List ℕ). put l (row * w + (x + k)) px) (simp append_assoc)
      ∙ put_at (pre ++ gap) old px (s' ++ post) (row * w + (x + k)) (omega (arith, length-append pre gap)) lo
      ∙ simp append_assoc in
      let less : suc n - 1 ≡ n = omega arith in
      gives_as (packets_more unit w b (suc n) row at x (omega arith) t (x + k) (x + k + unit * magnitude t) (at + 2 + data_bytes unit t) whole)
      (gives_then (row * w + (x + k)) (pixels unit b (at + 2) t) ((pre ++ (gap ++ px)) ++ (s' ++ post)) there
      (gives_as (ap (λ (j : ℕ). walk.packets unit w b j row (at + 2 + data_bytes unit t) (x + k + unit * magnitude t)) less)
      (gives_to refl refl (simp append_assoc) (after (pre ++ (gap ++ px)) (omega (arith, length-append pre (gap ++ px), length-append gap px))))))

  pub packets_give : {ps : List Packet} {s t : List ℕ} → Turns unit ps s t → (row at x : ℕ) (more pre post : List ℕ) (end : ℕ)
      → drop at b ≡ bytes ps ++ more → end ≡ at + length (bytes ps) → x + length s ≤ w → length pre ≡ row * w + x
      → Gives (walk.packets unit w b (length ps) row at x) end (pre ++ (s ++ post)) (pre ++ (t ++ post))
  unfolding flat_map packet_bytes
  packets_give (done {s} {t} q) row at x more pre post end e ee fits le =
      gives_as (packets_none unit w b 0 row at x (omega arith))
      (gives_to (omega arith) refl (ap (λ (l : List ℕ). pre ++ (l ++ post)) q) (gives_ends at (pre ++ (s ++ post))))
  packets_give (copied {ps} {s} {t} {k} {vs} gap old s' t' g m some o n es et r) row at x more pre post end e ee fits le =
      let c = length vs in
      let bs = bytes ps ++ more in
      let e' : drop at b ≡ k ∷ c ∷ (flatten vs ++ bs) = e ∙ ap (λ (l : List ℕ). k ∷ c ∷ l) (append_assoc (flatten vs) (bytes ps) more) in
      let data' : drop (at + 2) b ≡ flatten vs ++ bs = there_drop b (k ∷ c ∷ []) (flatten vs ++ bs) at 2 e' refl in
      let mag : unit * magnitude c ≡ unit * c = ap (λ (j : ℕ). unit * j) (magnitude_plus c (omega arith)) in
      let dat = data_copy unit c (omega arith) in
      let los = length-append gap (old ++ s') in
      let los' = length-append old s' in
      let ls = ap length es in
      gives_to refl (ap (λ (l : List ℕ). pre ++ (l ++ post)) (sym es)) (ap (λ (l : List ℕ). pre ++ (l ++ post)) (sym et))
      (packet_gives (length ps) row at x k c (flatten vs ++ bs) (flatten vs) gap old s' t' pre post end e'
      (omega (arith, length-append (flatten vs) bs))
      (pixels_copy unit b (at + 2) c (omega arith) ∙ there_take b (flatten vs) bs (at + 2) (unit * c) data' n)
      (omega arith) g (omega arith) (omega arith) le
      (λ pre' lp. packets_give r row (at + 2 + data_bytes unit c) (x + k + unit * magnitude c) more pre' post end
      (there_drop b (flatten vs) bs (at + 2) (data_bytes unit c) data' (omega arith))
      (omega (arith, length-append (flatten vs) (bytes ps))) (omega arith) lp))
  packets_give (again {ps} {s} {t} {k} {n} {v} gap old s' t' g some m o lv es et r) row at x more pre post end e ee fits le =
      let c = 256 - n in
      let bs = bytes ps ++ more in
      let e' : drop at b ≡ k ∷ c ∷ (v ++ bs) = e ∙ ap (λ (l : List ℕ). k ∷ c ∷ l) (append_assoc v (bytes ps) more) in
      let data' : drop (at + 2) b ≡ v ++ bs = there_drop b (k ∷ c ∷ []) (v ++ bs) at 2 e' refl in
      let mag : unit * magnitude c ≡ unit * n = ap (λ (j : ℕ). unit * j) (magnitude_minus c (omega arith) ∙ back n m) in
      let dat = data_repeat unit c (omega arith) in
      let lr = length_repeated n v in
      let nv : n * length v ≡ n * unit = ap (λ (j : ℕ). n * j) lv in
      let los = length-append gap (old ++ s') in
      let los' = length-append old s' in
      let ls = ap length es in
      gives_to refl (ap (λ (l : List ℕ). pre ++ (l ++ post)) (sym es)) (ap (λ (l : List ℕ). pre ++ (l ++ post)) (sym et))
      (packet_gives (length ps) row at x k c (v ++ bs) (repeated n v) gap old s' t' pre post end e'
      (omega (arith, length-append v bs))
      (pixels_repeat unit b (at + 2) c (omega arith) ∙ ap₂ (λ (j : ℕ) (l : List ℕ). repeated j l) (back n m) (there_take b v bs (at + 2) unit data' lv))
      (omega arith) g (omega arith) (omega arith) le
      (λ pre' lp. packets_give r row (at + 2 + data_bytes unit c) (x + k + unit * magnitude c) more pre' post end
      (there_drop b v bs (at + 2) (data_bytes unit c) data' (omega arith))
      (omega (arith, length-append v (bytes ps))) (omega arith) lp))
