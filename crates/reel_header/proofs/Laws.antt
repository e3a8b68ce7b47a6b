-- Laws of a reel's header: as it is read, as it is written, as it is closed; and a closed header is read back.
use mathlib.Core.Path.{◌≡◌, refl, sym, ap, ap₂, ◌∙◌, subst}
use mathlib.Core.List.{List, [], ◌++◌}
use mathlib.Core.Bool.{Bool, true, ◌&&◌}
use Prim.Native.Nat.{ℕ, ◌+◌, ◌≤◌, ◌<◌}
use native.Mathlib.Omega.{arith}
use borrow.Author.Tests.{le-leb, eq-eqb, leb-true}
use lib.ListN.{length, drop, replicate}
use lib.Dec.{leb, eqb}
use Rattle.std.specs.Prelude.{Ok, Err}
use Rattle.words.specs.Words.{require◌else◌then◌, u16_at, u32_at, le16, le32}
use Rattle.words.specs.Writes.{put}
use Rattle.words.proofs.There.{there_le16, there_le32}
use Rattle.words.proofs.Tests.{both_true}
use Rattle.format.specs.Limits.{size_fits, size_of, max_frames}
use Rattle.format.specs.Format.{FLC_MAGIC, FLI_MAGIC}
use Rattle.format.specs.declared.Format.{Format}
use Rattle.format.specs.declared.Format.TheVariants.{Flc, Fli}
use Rattle.format.specs.declared.Size.{Size}
use Rattle.delay.specs.declared.Jiffies.{Jiffies}
use Rattle.delay.specs.declared.Milliseconds.{Milliseconds}
use Rattle.answer.specs.declared.Refusal.{Refusal}
use Rattle.answer.specs.declared.Refusal.TheVariants.{Cut, WrongType, SmallSize, BadSize, BadHeader}
use Rattle.chunks.specs.Spans.{HEADER_BYTES}
use Rattle.chunks.proofs.Headers.{required}
use Rattle.reel_header.specs.declared.Takes.{Takes}
use Rattle.reel_header.specs.declared.Takes.TheVariants.{FlcOnly, Both}
use Rattle.reel_header.specs.Head.{SIZE_AT, MAGIC_AT, FRAMES_AT, WIDTH_AT, HEIGHT_AT, DEPTH_AT, FLAGS_AT, SPEED_AT, CREATOR_AT, UPDATER_AT, ASPECTX_AT, ASPECTY_AT, DEPTH, finished, form_ok, magic_ok, format_of, delay_in, delay_at, format_at, size_at, head_of, head_with, Headed}
use Rattle.reel_header.specs.Written.{aspect, FLIB, blank_header, opened, opened_fli, opened_in, second_at, flagged, closed_header, header_in}

-- head_of

-- its chain of checks, each test and each value as it came out
pub head_is : (takes : Takes) (b : List ℕ) (magic size : ℕ) (z : Size) (frames depth flags : ℕ) (speed : Milliseconds) (long taken least most fits form : Bool)
    → magic ≡ u16_at b MAGIC_AT → size ≡ u32_at b SIZE_AT → z ≡ size_at b → frames ≡ u16_at b FRAMES_AT → depth ≡ u16_at b DEPTH_AT → flags
    ≡ u16_at b FLAGS_AT → speed ≡ delay_at z.format b
    → leb HEADER_BYTES (length b) ≡ long → magic_ok takes magic ≡ taken → leb HEADER_BYTES size ≡ least → leb size (length b) ≡ most
    → size_fits z ≡ fits → form_ok z.format depth frames flags ≡ form
    → (require long else Err Cut then
    require taken else Err WrongType then
    require least else Err SmallSize then
    require most else Err Cut then
    require fits else Err BadSize then
    require form else Err BadHeader then
    Ok (head_with z frames size speed)) ≡ head_of takes b
unfolding head_of
head_is takes b magic size z frames depth flags speed long taken least most fits form em es ez ef ed eg ev e₁ e₂ e₃ e₄ e₅ e₆ =
    rw (ev, sym e₁, sym e₂, sym e₃, sym e₄, sym e₅, sym e₆, em, es, ef, ed, eg, ez)

-- the header of a reel without a fault, and that each check has passed
abbrev pub whole : List ℕ → Headed
whole b = Ok (head_with (size_at b) (u16_at b FRAMES_AT) (u32_at b SIZE_AT) (delay_at (format_at b) b))

pub record Passed (takes : Takes) (b : List ℕ) : Type 0 where
  pub long : leb HEADER_BYTES (length b) ≡ true
  pub magic : magic_ok takes (u16_at b MAGIC_AT) ≡ true
  pub least : leb HEADER_BYTES (u32_at b SIZE_AT) ≡ true
  pub most : leb (u32_at b SIZE_AT) (length b) ≡ true
  pub sized : size_fits (size_at b) ≡ true
  pub form : form_ok (format_at b) (u16_at b DEPTH_AT) (u16_at b FRAMES_AT) (u16_at b FLAGS_AT) ≡ true

module _ (takes : Takes) (b : List ℕ) where
  pub head_whole : Passed takes b → head_of takes b ≡ whole b
  head_whole p =
      sym (head_is takes b _ _ _ _ _ _ _ true true true true true true refl refl refl refl refl refl refl p.long p.magic p.least p.most p.sized p.form)

  -- what holds of each fault, and of a reel where each check has passed, holds of the header
  pub head_by : (P : Headed → Type 0) → ((e : Refusal) → P (Err e)) → (Passed takes b → P (whole b)) → (x : Headed) → head_of takes b ≡ x → P x
  unfolding head_of
  head_by P fault reel x e =
      subst P e
      (required P (leb HEADER_BYTES (length b)) _ _ (fault Cut) (λ long.
      required P (magic_ok takes (u16_at b MAGIC_AT)) _ _ (fault WrongType) (λ magic.
      required P (leb HEADER_BYTES (u32_at b SIZE_AT)) _ _ (fault SmallSize) (λ least.
      required P (leb (u32_at b SIZE_AT) (length b)) _ _ (fault Cut) (λ most.
      required P (size_fits (size_at b)) _ _ (fault BadSize) (λ sized.
      required P (form_ok (format_at b) (u16_at b DEPTH_AT) (u16_at b FRAMES_AT) (u16_at b FLAGS_AT)) _ _ (fault BadHeader) (λ form.
      reel (record { long = long; magic = magic; least = least; most = most; sized = sized; form = form }))))))))

-- what holds of a header without a fault
pub record ReelIn (b : List ℕ) (z : Size) (frames size : ℕ) : Type 0 where
  pub least : HEADER_BYTES ≤ size
  pub most : size ≤ length b
  pub sized : size_fits z ≡ true
  pub some_frames : 1 ≤ frames
  pub few_frames : frames ≤ max_frames

abbrev pub HeadIn : List ℕ → Headed → Type 0
HeadIn b (Err e) = Unit {0}
HeadIn b (Ok h) = ReelIn b h.picture h.frames h.size

-- the parts of a form that is right
form_in : (f : Format) (depth frames flags : ℕ) → form_ok f depth frames flags ≡ true → (1 ≤ frames) × (frames ≤ max_frames)
form_in f depth frames flags e =
    let x = (both_true (eqb depth DEPTH) (leb 1 frames && (leb frames max_frames && eqb flags (finished f))) e).1 in
    let y = both_true (leb 1 frames) (leb frames max_frames && eqb flags (finished f)) x in
    (leb-true 1 frames y.0, leb-true frames max_frames (both_true (leb frames max_frames) (eqb flags (finished f)) y.1).0)

pub head_in : (takes : Takes) (b : List ℕ) (x : Headed) → head_of takes b ≡ x → HeadIn b x
head_in takes b = head_by takes b (HeadIn b) (λ e. tt) (λ p.
    let f = form_in (format_at b) (u16_at b DEPTH_AT) (u16_at b FRAMES_AT) (u16_at b FLAGS_AT) p.form in
    record {
      least = leb-true HEADER_BYTES (u32_at b SIZE_AT) p.least;
      most = leb-true (u32_at b SIZE_AT) (length b) p.most;
      sized = p.sized;
      some_frames = f.0;
      few_frames = f.1;
    })

-- b has the header x too, where x has no fault
abbrev pub Gives : Takes → List ℕ → Headed → Type 0
Gives takes b (Err e) = Unit {0}
Gives takes b (Ok h) = head_of takes b ≡ Ok h

-- what is taken where FLC alone is taken is taken where both are
pub head_flc : (b : List ℕ) (z : Size) (frames size : ℕ) (speed : Milliseconds) → head_of FlcOnly b ≡ Ok (head_with z frames size speed) → head_of Both b
    ≡ Ok (head_with z frames size speed)
head_flc b z frames size speed = head_by FlcOnly b (Gives Both b) (λ e. tt) (λ p.
    head_whole Both b (record {
      long = p.long;
      magic = rw p.magic;
      least = p.least;
      most = p.most;
      sized = p.sized;
      form = p.form;
    })) (Ok (head_with z frames size speed))

-- opened, opened_fli

pub opened_length : (w h : ℕ) (speed : Milliseconds) → length (opened w h speed) ≡ HEADER_BYTES
unfolding opened
opened_length w h speed = refl

pub opened_fli_length : (w h : ℕ) (speed : Jiffies) → length (opened_fli w h speed) ≡ HEADER_BYTES
unfolding opened_fli
opened_fli_length w h speed = refl

-- opened_in

pub opened_flc : (w h : ℕ) (speed : Milliseconds) → opened w h speed ≡ opened_in Flc w h speed.0
unfolding opened_in
opened_flc w h speed = refl

pub opened_fli_lem : (w h : ℕ) (speed : Jiffies) → opened_fli w h speed ≡ opened_in Fli w h speed.0
unfolding opened_in
opened_fli_lem w h speed = refl

pub opened_in_length : (f : Format) (w h speed : ℕ) → length (opened_in f w h speed) ≡ HEADER_BYTES
unfolding opened_in
opened_in_length Flc w h speed = refl
opened_in_length Fli w h speed = refl

-- the fields of an opened header, each stored in what stood before
pub blank_stored : (magic w h : ℕ) (d₀ d₁ d₂ d₃ d₄ : List ℕ) → d₀ ≡ replicate HEADER_BYTES 0 → d₁ ≡ put d₀ MAGIC_AT (le16 magic []) → d₂
    ≡ put d₁ WIDTH_AT (le16 w [])
    → d₃ ≡ put d₂ HEIGHT_AT (le16 h []) → d₄ ≡ put d₃ DEPTH_AT (le16 DEPTH []) → d₄ ≡ blank_header magic w h
unfolding blank_header
blank_stored magic w h d₀ d₁ d₂ d₃ d₄ e₀ e₁ e₂ e₃ e₄ = rw (e₄, e₃, e₂, e₁, e₀)

pub opened_stored : (w h : ℕ) (speed : Milliseconds) (d₀ d₁ d₂ d₃ d₄ d₅ : List ℕ) (x y : ℕ) → d₀ ≡ blank_header FLC_MAGIC w h → d₁
    ≡ put d₀ SPEED_AT (le32 speed.0 [])
    → d₂ ≡ put d₁ CREATOR_AT (le32 FLIB []) → d₃ ≡ put d₂ UPDATER_AT (le32 FLIB []) → x ≡ aspect w h 6 → d₄ ≡ put d₃ ASPECTX_AT (le16 x [])
    → y ≡ aspect w h 5 → d₅ ≡ put d₄ ASPECTY_AT (le16 y []) → d₅ ≡ opened w h speed
unfolding blank_header opened
opened_stored w h speed d₀ d₁ d₂ d₃ d₄ d₅ x y e₀ e₁ e₂ e₃ i e₄ j e₅ = rw (e₅, e₄, e₃, e₂, e₁, e₀, i, j)

pub opened_fli_stored : (w h : ℕ) (speed : Jiffies) (d₀ d₁ : List ℕ) → d₀ ≡ blank_header FLI_MAGIC w h → d₁ ≡ put d₀ SPEED_AT (le16 speed.0 []) → d₁
    ≡ opened_fli w h speed
unfolding blank_header opened_fli
opened_fli_stored w h speed d₀ d₁ e₀ e₁ = rw (e₁, e₀)

-- closed_header, second_at

pub closed_flc : (size frames second : ℕ) (d d₁ d₂ d₃ : List ℕ) → d₁ ≡ put d SIZE_AT (le32 size []) → d₂ ≡ put d₁ FRAMES_AT (le16 frames []) → d₃
    ≡ flagged second d₂
    → d₃ ≡ closed_header Flc size frames second d
unfolding closed_header
closed_flc size frames second d d₁ d₂ d₃ e₁ e₂ e₃ = rw (e₃, e₂, e₁)

pub closed_fli : (size frames second : ℕ) (d d₁ d₂ : List ℕ) → d₁ ≡ put d SIZE_AT (le32 size []) → d₂ ≡ put d₁ FRAMES_AT (le16 frames [])
    → d₂ ≡ closed_header Fli size frames second d
unfolding closed_header
closed_fli size frames second d d₁ d₂ e₁ e₂ = rw (e₂, e₁)

-- where frame 1 ends; x: its size field
pub second_is : (b : List ℕ) (x : ℕ) → x ≡ u32_at b HEADER_BYTES → HEADER_BYTES + x ≡ second_at b
unfolding second_at
second_is b x e = ap (λ (n : ℕ). HEADER_BYTES + n) e

-- an opened header that is closed, and a closed header that is read

pub opened_closed : (f : Format) (w h speed size frames second : ℕ) (x : List ℕ)
    → closed_header f size frames second (opened_in f w h speed ++ x) ≡ header_in f size frames w h speed second ++ x
unfolding closed_header opened_in header_in
opened_closed Flc w h speed size frames second x = refl
opened_closed Fli w h speed size frames second x = refl

-- the magic of a file of that format
abbrev magic_of : Format → ℕ
magic_of Flc = FLC_MAGIC
magic_of Fli = FLI_MAGIC

magic_taken : (f : Format) → magic_ok Both (magic_of f) ≡ true
magic_taken Flc = refl
magic_taken Fli = refl

magic_told : (f : Format) → format_of (magic_of f) ≡ f
magic_told Flc = refl
magic_told Fli = refl

-- the fields up to the flags lie alike in both formats
abbrev begun : Format → ℕ → ℕ → ℕ → ℕ → List ℕ → List ℕ
begun f size frames w h rest = le32 size (le16 (magic_of f) (le16 frames (le16 w (le16 h (le16 DEPTH (le16 (finished f) rest))))))

header_begun : (f : Format) (size frames w h speed second : ℕ) (x : List ℕ)
    → header_in f size frames w h speed second ++ x ≡ begun f size frames w h (drop SPEED_AT (header_in f size frames w h speed second ++ x))
unfolding header_in
header_begun Flc size frames w h speed second x = refl
header_begun Fli size frames w h speed second x = refl

pub header_length : (f : Format) (size frames w h speed second : ℕ) → length (header_in f size frames w h speed second) ≡ HEADER_BYTES
unfolding header_in
header_length Flc size frames w h speed second = refl
header_length Fli size frames w h speed second = refl

pub header_speed : (f : Format) (size frames w h speed second : ℕ) (x : List ℕ) → speed < 4294967296
    → delay_at f (header_in f size frames w h speed second ++ x) ≡ delay_in f speed
unfolding header_in
header_speed Flc size frames w h speed second x quick =
    ap (delay_in Flc) (there_le32 (header_in Flc size frames w h speed second ++ x) _ SPEED_AT speed quick refl)
header_speed Fli size frames w h speed second x quick = ap (delay_in Fli) (there_le16 (header_in Fli size frames w h speed second ++ x) _ SPEED_AT speed refl)

module _ (z : Size) (size frames speed second : ℕ) (x : List ℕ) where
  abbrev top : List ℕ
  top = header_in z.format size frames z.width z.height speed second

  abbrev file : List ℕ
  file = top ++ x

  field : (at v : ℕ) (more : List ℕ) → drop at (begun z.format size frames z.width z.height (drop SPEED_AT file)) ≡ le16 v more → v ≡ u16_at file at
  field at v more e = sym (there_le16 file more at v (ap (drop at) (header_begun z.format size frames z.width z.height speed second x) ∙ e))

  pub header_read : size_fits z ≡ true → 1 ≤ frames → frames ≤ max_frames → size < 4294967296 → HEADER_BYTES ≤ size → size ≤ length file
      → head_of Both (header_in z.format size frames z.width z.height speed second ++ x)
      ≡ Ok (head_with z frames size (delay_at z.format (header_in z.format size frames z.width z.height speed second ++ x)))
  header_read fits some few word least most =
      let f = z.format in
      let magic = field MAGIC_AT (magic_of f) _ refl in
      let size_is : u32_at file SIZE_AT ≡ size = there_le32 file _ SIZE_AT size word (header_begun f size frames z.width z.height speed second x) in
      let z-is : z ≡ size_at file = ap₂ (λ (g : Format) (w : ℕ). size_of g w z.height) (sym (magic_told f) ∙ ap format_of magic) (field WIDTH_AT z.width _ refl)
      ∙ ap (size_of (format_at file) (u16_at file WIDTH_AT)) (field HEIGHT_AT z.height _ refl) in
      sym (head_is Both file (magic_of f) size z frames DEPTH (finished f) (delay_at f file) true true true true true true magic (sym size_is) z-is
      (field FRAMES_AT frames _ refl) (field DEPTH_AT DEPTH _ refl) (field FLAGS_AT (finished f) _ refl) refl
      (le-leb HEADER_BYTES (length file) (omega arith)) (magic_taken f) (le-leb HEADER_BYTES size least) (le-leb size (length file) most)
      fits (simp (le-leb 1 frames some, le-leb frames max_frames few, eq-eqb (finished f) (finished f) refl)))
