-- A way is worth what the pieces that it yields are worth. Assumes nothing.
use Rattle.std.proofs.Common.{◌≡◌, ℕ, zero, suc, ◌+◌, ◌*◌, List, [], ◌∷◌, get_or, replicate, refl, ap, ◌∙◌, add-mul, arith}
use Rattle.std.proofs.lemmas.Bool.Decides.{nat_tests}
use Rattle.ways.specs.Sheet.{Way, scrap, take, upright, level, worth_at, worth_of}
use Rattle.ways.specs.declared.input.Piece.{Piece}
use Rattle.yields.specs.Counts.{count_of, worth_by, CountsAre}
use Rattle.yields.proofs.Counting.{Added, noughts}

worth_same : (ps : List Piece) (f g : ℕ → ℕ) → ((k : ℕ) → f k ≡ g k) → worth_by f ps ≡ worth_by g ps
unfolding worth_by
worth_same [] f g e = refl
worth_same (p ∷ ps) f g e = rw (e 0, worth_same ps (λ k. f (suc k)) (λ k. g (suc k)) (λ k. e (suc k))) refl

worth_none : (ps : List Piece) → worth_by (λ k. 0) ps ≡ 0
unfolding worth_by
worth_none [] = refl
worth_none (p ∷ ps) = omega (arith, worth_none ps)

worth_both : (ps : List Piece) (f g : ℕ → ℕ) → worth_by (λ k. f k + g k) ps ≡ worth_by f ps + worth_by g ps
unfolding worth_by
worth_both [] f g = refl
worth_both (p ∷ ps) f g = omega (arith, add-mul (f 0) (g 0) p.worth, worth_both ps (λ k. f (suc k)) (λ k. g (suc k)))

worth_one : (ps : List Piece) (j : ℕ) → worth_by (λ k. count_of k (take j)) ps ≡ worth_at ps j
unfolding worth_by worth_at count_of
worth_one [] j = refl
worth_one (p ∷ ps) zero = omega (arith, worth_same ps (λ k. count_of (suc k) (take 0)) (λ k. 0) (λ k. grind (arith, nat_tests)), worth_none ps)
worth_one (p ∷ ps) (suc j) =
    let none : count_of 0 (take (suc j)) ≡ 0 = grind (arith, nat_tests) in
    omega (arith, ap (λ z. z * p.worth) none, worth_same ps (λ k. count_of (suc k) (take (suc j))) (λ k. count_of k (take j)) (λ k. grind (arith, nat_tests)), worth_one ps j)

counted : (ps : List Piece) (a : Way) → worth_by (λ k. count_of k a) ps ≡ worth_of ps a
unfolding count_of worth_of
counted ps scrap = worth_none ps
counted ps (take j) = worth_one ps j
counted ps (upright x a b) = omega (arith, worth_both ps (λ k. count_of k a) (λ k. count_of k b), counted ps a, counted ps b)
counted ps (level y a b) = omega (arith, worth_both ps (λ k. count_of k a) (λ k. count_of k b), counted ps a, counted ps b)

-- what noughts become by adding the counts of a way are its counts
pub counts_are : (ps : List Piece) (a : Way) (cs : List ℕ) (n : ℕ) → Added a (replicate n 0) cs → CountsAre ps a cs
counts_are ps a cs n added =
    let each : (k : ℕ) → get_or cs k 0 ≡ count_of k a = λ k. omega (arith, added k, noughts n k) in
    record { each = each; worth = worth_same ps (λ k. get_or cs k 0) (λ k. count_of k a) each ∙ counted ps a }
