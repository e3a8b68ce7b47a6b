-- What a body says: its writes up to the first fault, and how it comes out.
use Rattle.std.specs.Prelude.{◌≡◌, ℕ, ◌≤◌, List, [], ◌∷◌, ◌++◌, length, Result, Ok, Err}
use Rattle.words.specs.Writes.{Write, put, applied}
use Rattle.answer.specs.declared.Refusal.{Refusal}
use Rattle.walk.specs.declared.Pass.{Pass}
use Rattle.walk.specs.declared.Pass.TheVariants.{Dry, Wet}

-- how a walk over a body comes out: the offset where its data ended, or its first fault
abbrev pub Verdict : Type 0
Verdict = Result ℕ Refusal

-- The writes met before the first fault; that fault, or the offset where the data ended.
pub record Walk : Type 0 where
  pub writes : List Write
  pub verdict : Verdict

-- the data has ended at offset at
abbrev pub ends : ℕ → Walk
ends at = record { writes = []; verdict = Ok at }

-- a fault stands here
abbrev pub fault : Refusal → Walk
fault e = record { writes = []; verdict = Err e }

-- v stored from place to on, and then the rest of the walk
abbrev pub and_then : ℕ → List ℕ → Walk → Walk
and_then to v k = record { writes = record { at = to; bytes = v } ∷ k.writes; verdict = k.verdict }

-- the writes ws, which came out so, and then, if no fault was met, the walk k from where their data ended
abbrev pub onward : List Write → Verdict → (ℕ → Walk) → Walk
onward ws (Ok at) k = record { writes = ws ++ (k at).writes; verdict = (k at).verdict }
onward ws (Err e) k = record { writes = ws; verdict = Err e }

-- one walk, and then another from where its data ended
abbrev pub followed : Walk → (ℕ → Walk) → Walk
followed w k = onward w.writes w.verdict k

-- what a pass leaves of d: the bytes v stored from index at on, or nothing changed
abbrev pub stored : Pass → List ℕ → ℕ → List ℕ → List ℕ
stored Dry d at v = d
stored Wet d at v = put d at v

-- the same, of the writes ws, done in order
abbrev pub wrote : Pass → List Write → List ℕ → List ℕ
wrote Dry ws d = d
wrote Wet ws d = applied ws d

-- a wet pass finds n bytes in d
abbrev pub Room : Pass → ℕ → List ℕ → Type 0
Room pass n d = pass ≡ Wet → n ≤ length d
