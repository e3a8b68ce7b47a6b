-- What every walk over a body has, whatever its kind: its data ends within the body, its writes lie inside what it writes on, and
-- of a body of bytes they are of bytes. Each kind has one law that says so, by one induction.
use mathlib.Core.List.{List}
use Prim.Native.Nat.{ℕ, ◌+◌, ◌≤◌}
use lib.ListN.{length}
use Rattle.std.specs.Prelude.{Ok, Err}
use Rattle.words.specs.Words.{Bytes}
use Rattle.words.specs.Writes.{Write}
use Rattle.words.proofs.Laws.{Inside, inside_append}
use Rattle.words.proofs.Bytewise.{Bytewise, bytewise_append}
use Rattle.answer.specs.declared.Refusal.{Refusal}
use Rattle.walk.specs.Walk.{Walk, ends, fault, and_then, onward, Verdict}
use Rattle.walk.proofs.Laws.{VerdictIn}

-- of a walk over the body b on n bytes
pub record Sound (b : List ℕ) (n : ℕ) (k : Walk) : Type 0 where
  pub ends_in : VerdictIn b k.verdict
  pub inside : Inside n k.writes
  pub bytewise : Bytes b → Bytewise k.writes

module _ (b : List ℕ) (n : ℕ) where
  pub sound_ends : (at : ℕ) → at ≤ length b → Sound b n (ends at)
  sound_ends at h = record { ends_in = h; inside = tt; bytewise = λ i. tt }

  pub sound_fault : (e : Refusal) → Sound b n (fault e)
  sound_fault e = record { ends_in = tt; inside = tt; bytewise = λ i. tt }

  pub sound_then : (to : ℕ) (v : List ℕ) (k : Walk) → to + length v ≤ n → (Bytes b → Bytes v) → Sound b n k → Sound b n (and_then to v k)
  sound_then to v k h j s = record { ends_in = s.ends_in; inside = (h, s.inside); bytewise = λ i. (j i, s.bytewise i) }

  -- writes that came out so, and then a walk from where their data ended
  pub sound_onward : (ws : List Write) (v : Verdict) (k : ℕ → Walk) → Sound b n (record { writes = ws; verdict = v })
      → ((at : ℕ) → at ≤ length b → Sound b n (k at)) → Sound b n (onward ws v k)
  sound_onward ws (Err e) k s rest = s
  sound_onward ws (Ok at) k s rest =
      let r = rest at s.ends_in in
      record {
        ends_in = r.ends_in;
        inside = inside_append n ws (k at).writes s.inside r.inside;
        bytewise = λ i. bytewise_append ws (k at).writes (s.bytewise i) (r.bytewise i);
      }
