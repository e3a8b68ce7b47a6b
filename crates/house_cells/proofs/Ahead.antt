-- A loop that stores: what is to be stored is what is stored, and the rest, which is still ahead.
use mathlib.Core.Path.{◌≡◌, refl, sym, ap, ap₂, ◌∙◌}
use mathlib.Core.List.{List, [], ◌++◌}
use Prim.Native.Nat.{ℕ, ◌+◌, ◌≤◌}
use native.Mathlib.Omega.{arith}
use lib.ListN.{length, length-append}
use Rattle.words.specs.Writes.{put}
use Rattle.words.proofs.Laws.{put_append, put_nil, length_put}

module _ (out₀ : List ℕ) (at : ℕ) (whole : List ℕ) where
  -- of whole, which is to be stored at at, rest is still to be stored, at here
  pub record Ahead (out : List ℕ) (here : ℕ) (rest : List ℕ) : Type 0 where
    pub same : put out₀ at whole ≡ put out here rest
    pub ends : here + length rest ≡ at + length whole
    pub room : at + length whole ≤ length out
    pub long : length out ≡ length out₀

  pub ahead_first : at + length whole ≤ length out₀ → Ahead out₀ at whole
  ahead_first h = record { same = refl; ends = refl; room = h; long = refl }

  module _ {out : List ℕ} {here : ℕ} {rest : List ℕ} (r : Ahead out here rest) where
    -- v is the rest's first part
    module _ (v more : List ℕ) (e : rest ≡ v ++ more) where
      pub ahead_room : here + length v ≤ length out
      ahead_room = omega (arith, r.room, r.ends, ap length e, length-append v more)

      pub ahead_on : (out' : List ℕ) (here' : ℕ) → here' ≡ here + length v → out' ≡ put out here v → Ahead out' here' more
      ahead_on out' here' l o =
          let lo : length out' ≡ length out = ap length o ∙ length_put out here v ahead_room in
          record {
            same = r.same ∙ ap (put out here) e ∙ put_append out here v more (length v) refl ahead_room
                ∙ ap₂ (λ (d : List ℕ) (j : ℕ). put d j more) (sym o) (sym l);
            ends = omega (arith, r.ends, ap length e, length-append v more);
            room = omega (arith, r.room);
            long = lo ∙ r.long;
          }

    pub ahead_ends : rest ≡ [] → (here ≡ at + length whole) × (out ≡ put out₀ at whole)
    ahead_ends e = (omega (arith, r.ends, ap length e), sym (r.same ∙ ap (put out here) e ∙ put_nil out here))
