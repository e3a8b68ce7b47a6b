-- The loop that stores a replay's numbers: what it has stored and what is left make up the whole.
use Rattle.std.proofs.Common.{◌≡◌, ℕ, suc, ◌+◌, ◌<◌, ◌≤◌, List, [], ◌∷◌, ◌++◌, length, get_or, drop, set, sym, refl, ap, ◌∙◌, subst, ap₂, arith, drop_of_length-le, drop-cons, add-one}
use Rattle.words.specs.Writes.{put}
use Rattle.words.proofs.Laws.{put_one, put_nil, put_append}
use Rattle.format.specs.Limits.{max_frames}
use Rattle.board_clock.specs.Clock.{first, stepped}
use Rattle.board_clock.specs.Replay.{numbers}
use Rattle.board_clock.specs.declared.Stands.{Stands}
use Rattle.board_clock.specs.declared.Turn.{Turn}
use Rattle.board_clock.proofs.Laws.{numbers_more, numbers_none, step_small}

-- the numbers of the readings up to the i-th are stored, s stands
pub record Storing (out₀ readings : List ℕ) (frames speed start : ℕ) (out : List ℕ) (s : Stands) (i : ℕ) : Type 0 where
  pub small : s.number ≤ suc frames
  pub whole : put out₀ 0 (numbers frames speed (first start) readings) ≡ put out i (numbers frames speed s (drop i readings))

module _ (out₀ readings : List ℕ) (frames speed start : ℕ) (out : List ℕ) (s : Stands) (i : ℕ) (v : Storing out₀ readings frames speed start out s i) where
  -- one reading more, which came to t
  module _ (h : i < length readings) (t : Turn) (e : t ≡ stepped frames speed s (get_or readings i 0)) (some : 1 ≤ frames) (most : frames ≤ max_frames) where
    pub stored_small : t.stands.number ≤ suc frames
    stored_small = subst (λ (x : Turn). x.stands.number ≤ suc frames) (sym e) (step_small frames speed s (get_or readings i 0) some most v.small)

    pub storing_again : length readings ≤ length out → Storing out₀ readings frames speed start (set out i t.stands.number) t.stands (i + 1)
    storing_again room =
        record {
          small = stored_small;
          whole =
              v.whole
              ∙ ap (λ (rs : List ℕ). put out i (numbers frames speed s rs)) (drop-cons readings i 0 h)
              ∙ ap (put out i) (numbers_more frames speed s (get_or readings i 0) (drop (suc i) readings))
              ∙ ap₂ (λ (x : Turn) (n : ℕ). put out i ((x.stands.number ∷ []) ++ numbers frames speed x.stands (drop n readings))) (sym e) (sym (add-one i))
              ∙ put_append out i (t.stands.number ∷ []) (numbers frames speed t.stands (drop (i + 1) readings)) 1 refl (omega arith)
              ∙ ap (λ (d : List ℕ). put d (i + 1) (numbers frames speed t.stands (drop (i + 1) readings))) (sym (put_one out i t.stands.number (omega arith)));
        }

  pub storing_done : length readings ≤ i → out ≡ put out₀ 0 (numbers frames speed (first start) readings)
  storing_done h =
      sym (v.whole
      ∙ ap (λ (rs : List ℕ). put out i (numbers frames speed s rs)) (drop_of_length-le readings {i = i} h)
      ∙ ap (put out i) (numbers_none frames speed s) ∙ put_nil out i)
