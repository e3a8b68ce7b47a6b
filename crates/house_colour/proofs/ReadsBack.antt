-- A colour chunk reads back: its walk has no fault, ends at the body's end, and its writes turn the previous palette into the next.
-- The entries are gaps and stretches (`split`), and the walk goes a packet for each stretch: it leaves a gap as it is, and puts a stretch's entries
-- in their place.
use mathlib.Core.Path.{◌≡◌, refl, sym, ap, ap₂, ◌∙◌}
use mathlib.Core.List.{List, [], ◌∷◌, ◌++◌, map, append_assoc, flat_map}
use mathlib.Core.Bool.{true}
use Prim.Native.Nat.{ℕ, zero, suc, ◌+◌, ◌-◌, ◌*◌, ◌%◌, ◌≤◌}
use native.Mathlib.Omega.{arith}
use native.Mathlib.Nat.{add-zero}
use lib.ListN.{length, take, drop, get_or, length-append}
use lib.Seq.{take_all}
use Rattle.std.specs.Prelude.{Ok}
use Rattle.words.specs.Words.{le16}
use Rattle.words.specs.Writes.{put}
use Rattle.words.proofs.There.{there_drop, there_take, there_byte, there_long, there_le16, put_at}
use Rattle.walk.proofs.Gives.{Gives, gives_ends, gives_then, gives_as, gives_to}
use Rattle.read_colour.specs.Colour as walk
use Rattle.read_colour.specs.Colour.{level, levels_ok, count_of, packet_at, colours_at}
use Rattle.read_colour.specs.declared.Levels.TheVariants.{Of256}
use Rattle.read_colour.proofs.Laws.{packet_at_lem, packet_whole, packets_more, packets_none, colours_open}
use Rattle.words.proofs.Runs.{map_same}
use Rattle.house_cells.specs.Cells.{Cell, cells, news, Stretch, stretches}
use Rattle.house_cells.proofs.CellLaws.{olds, Sized, sized_append, olds_append, news_append, length_olds, length_news, sized_cells, length_cells, olds_cells, news_cells, Split, rest, part, split}
use Rattle.house_colour.specs.Colours.{changed_entries, colour_packet, colour_body, colour_most}

-- a packet

levels_all : (xs : List ℕ) → levels_ok Of256 xs ≡ true
unfolding levels_ok
levels_all xs = refl

level_same : (x : ℕ) → level Of256 x ≡ x
unfolding level
level_same x = refl

-- a count of 256 is written as 0
count_back : (n : ℕ) → 1 ≤ n → n ≤ 256 → count_of (n % 256) ≡ n
unfolding count_of
count_back n l h = go (n % 256) refl
  where
    go : (m : ℕ) → n % 256 ≡ m → count_of m ≡ n
    go zero e = omega arith
    go (suc m) e = omega arith

module _ (b : List ℕ) where
  -- the packet of skip k and count c, m entries, whose colours v come in the place of old
  packet_gives : (n at i k c m : ℕ) (v more front old z e : List ℕ) (end : ℕ)
      → drop at b ≡ k ∷ c ∷ (v ++ more) → count_of c ≡ m → length v ≡ 3 * m → length old ≡ 3 * m → length front ≡ 3 * (i + k) → i + k + m ≤ 256
      → Gives (walk.packets Of256 b n (at + 2 + 3 * m) (i + k + m)) end (front ++ (v ++ z)) e
      → Gives (walk.packets Of256 b (suc n) at i) end (front ++ (old ++ z)) e
  packet_gives n at i k c m v more front old z e end there em lv lo lf fits after =
      let data' : drop (at + 2) b ≡ v ++ more = there_drop b (k ∷ c ∷ []) (v ++ more) at 2 there refl in
      let lvm = length-append v more in
      let two = there_long b (k ∷ c ∷ (v ++ more)) at 2 there (omega arith) (omega arith) in
      let all = there_long b (k ∷ c ∷ (v ++ more)) at (2 + 3 * m) there (omega arith) (omega arith) in
      let skip : get_or b at 0 ≡ k = ap (λ (j : ℕ). get_or b j 0) (sym (add-zero at)) ∙ there_byte b (k ∷ c ∷ (v ++ more)) at 0 k there refl in
      let count : get_or b (at + 1) 0 ≡ c = there_byte b (k ∷ c ∷ (v ++ more)) at 1 c there refl in
      let whole : Ok (colours_at (at + 2) (3 * (i + k)) (3 * m) (i + k + m)) ≡ packet_at Of256 b at i =
      sym (packet_whole Of256 b at (i + k) m (omega arith) fits (levels_all (take (3 * m) (drop (at + 2) b))))
      ∙ packet_at_lem Of256 b at i (i + k) m two (ap (λ (j : ℕ). i + j) (sym skip)) (sym em ∙ ap count_of (sym count)) in
      let px : map (level Of256) (take (3 * m) (drop (at + 2) b)) ≡ v = map_same (level Of256) level_same (take (3 * m) (drop (at + 2) b))
      ∙ there_take b v more (at + 2) (3 * m) data' lv in
      let less : suc n - 1 ≡ n = omega arith in
      gives_as (packets_more Of256 b (suc n) at i (omega arith) (at + 2) (3 * (i + k)) (3 * m) (i + k + m) whole)
      (gives_then (3 * (i + k)) (map (level Of256) (take (3 * m) (drop (at + 2) b))) (front ++ (v ++ z))
      (ap (λ (l : List ℕ). put (front ++ (old ++ z)) (3 * (i + k)) l) px ∙ put_at front old v z (3 * (i + k)) lf (omega arith))
      (gives_as (ap (λ (j : ℕ). walk.packets Of256 b j (at + 2 + 3 * m) (i + k + m)) less) after))

  -- the packets, entry i being the next
  packets_give : {ss : List Stretch} {cs : List Cell} → Split ss cs → Sized 3 cs → (at i : ℕ) (pre : List ℕ) (end : ℕ)
      → i + length cs ≡ 256 → drop at b ≡ flat_map colour_packet ss → end ≡ at + length (flat_map colour_packet ss) → length pre ≡ 3 * i
      → Gives (walk.packets Of256 b (length ss) at i) end (pre ++ olds cs) (pre ++ news cs)
  unfolding colour_packet flat_map
  packets_give (rest {cs} q) z at i pre end fits there ee lp =
      gives_as (packets_none Of256 b 0 at i (omega arith)) (gives_to (omega arith) refl (ap (λ (l : List ℕ). pre ++ l) q) (gives_ends at (pre ++ olds cs)))
  packets_give (part {ss} still cs more c q m) z at i pre end fits there ee lp =
      let rs = c ∷ cs in
      let zs = sized_append 3 still (rs ++ more) z in
      let zc = sized_append 3 rs more zs.1 in
      let n = length rs in
      let k = length still in
      let front = pre ++ olds still in
      let lf = length-append pre (olds still) in
      let ls = length_olds 3 still zs.0 in
      let lo = length_olds 3 rs zc.0 in
      let ln = length_news 3 rs zc.0 in
      let l1 = length-append still (rs ++ more) in
      let l2 = length-append rs more in
      let lfn = length-append front (news rs) in
      let lb = length-append (news rs) (flat_map colour_packet ss) in
      let data' : drop (at + 2) b ≡ news rs ++ flat_map colour_packet ss =
      there_drop b (k ∷ n % 256 ∷ []) (news rs ++ flat_map colour_packet ss) at 2 there refl in
      gives_to refl
      (sym (ap (λ (l : List ℕ). pre ++ l) (olds_append still (rs ++ more) ∙ ap (λ (l : List ℕ). olds still ++ l) (olds_append rs more))
      ∙ sym (append_assoc pre (olds still) (olds rs ++ olds more))))
      (sym (ap (λ (l : List ℕ). pre ++ l) (news_append still (rs ++ more) ∙ ap₂ (λ (x y : List ℕ). x ++ y) (sym q) (news_append rs more))
      ∙ sym (append_assoc pre (olds still) (news rs ++ news more))))
      (packet_gives (length ss) at i k (n % 256) n (news rs) (flat_map colour_packet ss) front (olds rs) (olds more) (front ++ (news rs ++ news more)) end there
      (count_back n (omega arith) (omega arith)) ln lo (omega arith) (omega arith)
      (gives_to refl (append_assoc front (news rs) (olds more)) (append_assoc front (news rs) (news more))
      (packets_give m zc.1 (at + 2 + 3 * n) (i + k + n) (front ++ news rs) end (omega arith)
      (there_drop b (news rs) (flat_map colour_packet ss) (at + 2) (3 * n) data' ln) (omega arith) (omega arith))))

-- the body

pub colour_reads_back : (p q : List ℕ) → length p ≡ 768 → length q ≡ 768
    → Gives (walk.colour Of256 (colour_body p q)) (length (colour_body p q)) p q
unfolding colour_body changed_entries
colour_reads_back p q lp lq =
    let cs = cells 3 256 p q in
    let ss = stretches cs in
    let b = le16 (length ss) (flat_map colour_packet ss) in
    let was : olds cs ≡ p = olds_cells 3 256 p q ∙ take_all (256 * 3) p (omega arith) in
    let is : news cs ≡ q = news_cells 3 256 p q ∙ take_all (256 * 3) q (omega arith) in
    gives_as (colours_open Of256 b (length ss) (omega arith) (sym (there_le16 b (flat_map colour_packet ss) 0 (length ss) refl)))
    (gives_to refl was is
    (packets_give b (split cs) (sized_cells 3 256 p q (omega arith) (omega arith)) 2 0 [] (length b)
    (omega (arith, length_cells 3 256 p q)) refl (omega arith) (omega arith)))

-- its length

packets_short : {ss : List Stretch} {cs : List Cell} → Split ss cs → Sized 3 cs → length (flat_map colour_packet ss) ≤ 5 * length cs
unfolding colour_packet flat_map
packets_short (rest e) z = omega arith
packets_short (part {ss} still cs more c e m) z =
    let zs = sized_append 3 still ((c ∷ cs) ++ more) z in
    let zc = sized_append 3 (c ∷ cs) more zs.1 in
    omega (
      arith,
      packets_short m zc.1,
      length-append (news (c ∷ cs)) (flat_map colour_packet ss),
      length_news 3 (c ∷ cs) zc.0,
      length-append still ((c ∷ cs) ++ more),
      length-append (c ∷ cs) more,
    )

pub colour_short : (p q : List ℕ) → length p ≡ 768 → length q ≡ 768 → length (colour_body p q) ≤ colour_most
unfolding colour_body changed_entries
colour_short p q lp lq =
    omega (arith, packets_short (split (cells 3 256 p q)) (sized_cells 3 256 p q (omega arith) (omega arith)), length_cells 3 256 p q)
