-- Laws of lent pairs, of an output, and of calls that are done.
use mathlib.Core.Path.{◌≡◌, refl, sym, ap, ap₂, ◌∙◌}
use mathlib.Core.List.{List, [], ◌∷◌}
use mathlib.Core.Bool.{Bool, true, false, cond}
use Prim.Native.Nat.{ℕ, ◌≤◌, ◌<◌}
use native.Mathlib.Omega.{arith}
use borrow.Author.Tests.{le-leb, lt-leb, leb-true}
use lib.ListN.{length}
use lib.Seq.{length-take-le}
use lib.Dec.{leb}
use Rattle.words.specs.Writes.{put}
use Rattle.words.proofs.Tests.{both_true}
use Rattle.answer.specs.Answer.{Said, done, refused}
use Rattle.answer.specs.declared.Refusal.TheVariants.{NoRoom}
use Rattle.format.specs.Limits.{area, size_fits}
use Rattle.format.specs.declared.Size.{Size}
use Rattle.format.proofs.Laws.{size_in_lem}
use Rattle.state.specs.State.{State, enough, front, Exact}
use Rattle.state.specs.Outcome.{lent_bytes, leaves, refuse, fitted}

-- enough

pub enough_in : (n : ℕ) (s : State) → enough n s ≡ true → (n ≤ length s.picture) × (768 ≤ length s.palette)
enough_in n s e =
    let t = both_true (leb n (length s.picture)) (leb 768 (length s.palette)) e in
    (leb-true n (length s.picture) t.0, leb-true 768 (length s.palette) t.1)

pub enough_is : (n : ℕ) (s : State) → n ≤ length s.picture → 768 ≤ length s.palette → enough n s ≡ true
enough_is n s h k = rw (le-leb n (length s.picture) h, le-leb 768 (length s.palette) k)

-- the front, m long, of a pair that is long enough, of a size in range
pub front_exact : (z : Size) (s : State) → size_fits z ≡ true → (m : ℕ) → m ≡ area z → enough (area z) s ≡ true → Exact z (front m s)
front_exact z s k m e i =
    let n = enough_in (area z) s i in
    record {
      picture = record { size = size_in_lem z k; pixels = length-take-le m s.picture (omega (arith, n.0)) ∙ e };
      colours = length-take-le 768 s.palette n.1;
    }

-- fitted

module _ (b d : List ℕ) (n : ℕ) (l : length b ≡ n) where
  pub fitted_none : length d < n → refuse NoRoom 0 (lent_bytes d) ≡ fitted b d
  fitted_none h = rw (lt-leb (length b) (length d) (omega arith))

  pub fitted_whole : (e : List ℕ) → n ≤ length d → e ≡ put d 0 b → leaves (done (n ∷ [])) (lent_bytes e) ≡ fitted b d
  fitted_whole e h p =
      ap₂ (λ (x : ℕ) (y : List ℕ). leaves (done (x ∷ [])) (lent_bytes y)) (sym l) p ∙ rw (le-leb (length b) (length d) (omega arith))

-- done

-- A call that gives o, which is x where a test is passed and else a refusal y: if it is done, the test was passed and o is x.
-- says: what is said by that which a call gives, an outcome or more beside one
module _ {X : Type 0} (says : X → Said) where
  pub passed : (t : Bool) {x y o : X} {ns : List ℕ} {number place : ℕ} → cond t x y ≡ o → says o ≡ done ns → says y ≡ refused number place
      → (t ≡ true) × (x ≡ o)
  passed true e d r = (refl, e)
  passed false e d r = let k = ap says e in let z : ◌≡◌ {A = ℕ} 0 1 = cc in absurd (omega arith)
