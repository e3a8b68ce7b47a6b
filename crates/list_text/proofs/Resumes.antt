-- Text stored piece by piece: what a loop that stores it goes by.
use mathlib.Core.Path.{◌≡◌, refl, sym, ap, ap₂, ◌∙◌}
use mathlib.Core.List.{List, [], ◌++◌}
use Prim.Native.Nat.{ℕ, ◌+◌, ◌≤◌}
use native.Mathlib.Nat.{add-zero, zero-add}
use native.Mathlib.Omega.{arith}
use lib.ListN.{length, take, drop, length-append}
use lib.Seq.{take_at}
use Rattle.words.specs.Writes.{put}
use Rattle.words.proofs.Laws.{put_nil, put_front, put_append, length_put}
use Rattle.list_text.specs.Stored.{Stored}

pub stored_none : (d : List ℕ) (at : ℕ) → Stored d at [] d at
stored_none d at = record { bytes = sym (put_nil d at); end = sym (add-zero at) }

pub stored_length : {d e : List ℕ} {at r : ℕ} {t : List ℕ} → at + length t ≤ length d → Stored d at t e r → length e ≡ length d
stored_length {d} {e} {at} {r} {t} room s = ap length s.bytes ∙ length_put d at t room

-- text that was stored at the front: m is where it ends
module _ {d e : List ℕ} {r : ℕ} {t : List ℕ} (s : Stored d 0 t e r) where
  pub stored_whole : r ≡ length t
  stored_whole = s.end ∙ zero-add (length t)

  pub stored_front : (m : ℕ) → m ≡ r → take m e ≡ t
  stored_front m k = ap (take m) (s.bytes ∙ put_front d t) ∙ take_at t (drop (length t) d) m (sym (k ∙ stored_whole))

  pub stored_within : r ≤ length e
  stored_within = omega (arith, stored_whole, ap length (s.bytes ∙ put_front d t), length-append t (drop (length t) d))

-- to store u in e from offset n on is all that is left of storing t in d from offset at on
pub record Resumes (d : List ℕ) (at : ℕ) (t e : List ℕ) (n : ℕ) (u : List ℕ) : Type 0 where
  pub bytes : put d at t ≡ put e n u
  pub end : at + length t ≡ n + length u

pub resumes_first : (d : List ℕ) (at : ℕ) (t : List ℕ) → Resumes d at t d at t
resumes_first d at t = record { bytes = refl; end = refl }

pub resumes_as : {d t e : List ℕ} {at n : ℕ} {u v : List ℕ} → u ≡ v → Resumes d at t e n u → Resumes d at t e n v
resumes_as {d} {t} {e} {at} {n} {u} {v} p r = record { bytes = r.bytes ∙ ap (put e n) p; end = r.end ∙ ap (λ (x : List ℕ). n + length x) p }

pub resumes_then : {d t e f : List ℕ} {at n m : ℕ} {v : List ℕ} (u : List ℕ) → n + length v ≤ length e → Stored e n v f m → Resumes d at t e n (v ++ u)
    → Resumes d at t f m u
resumes_then {d} {t} {e} {f} {at} {n} {m} {v} u room s r =
    record {
      bytes = r.bytes ∙ put_append e n v u (length v) refl room ∙ sym (ap₂ (λ (x : List ℕ) (k : ℕ). put x k u) s.bytes s.end);
      end = omega (arith, r.end, s.end, length-append v u);
    }

pub resumes_done : {d t e : List ℕ} {at n : ℕ} → Resumes d at t e n [] → Stored d at t e n
resumes_done {d} {t} {e} {at} {n} r = record { bytes = sym (r.bytes ∙ put_nil e n); end = sym (r.end ∙ add-zero n) }
