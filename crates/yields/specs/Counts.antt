-- How many of each piece a way yields. Assumes nothing: these are definitions.
use Rattle.std.specs.Prelude.{◌≡◌, ℕ, suc, ◌+◌, ◌*◌, cond, List, [], ◌∷◌, ◌==◌, slice_index}
use Rattle.ways.specs.Sheet.{Way, scrap, take, upright, level, worth_of}
use Rattle.ways.specs.declared.input.Piece.{Piece}

-- how many of piece k a way yields (an entry of the pattern's column)
unfoldable pub count_of : (k : ℕ) → Way → ℕ
count_of k scrap = 0
count_of k (take j) = cond (j == k) 1 0
count_of k (upright x a b) = count_of k a + count_of k b
count_of k (level y a b) = count_of k a + count_of k b

-- what pieces are worth together, where there are `count k` of piece k
unfoldable pub worth_by : (count : ℕ → ℕ) → List Piece → ℕ
worth_by count [] = 0
worth_by count (p ∷ ps) = count 0 * p.worth + worth_by (λ k. count (suc k)) ps

-- these are the counts of a way: of every piece as many as it yields, and what they are worth together is what it is worth
pub record CountsAre (ps : List Piece) (a : Way) (counts : List ℕ) : Type 0 where
  pub each : (k : ℕ) → slice_index counts k ≡ count_of k a
  pub worth : worth_by (λ k. slice_index counts k) ps ≡ worth_of ps a
