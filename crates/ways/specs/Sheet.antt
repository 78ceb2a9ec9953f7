-- Ways of sawing a sheet right through, what can be sawn, and what it is worth. Assumes nothing: these are definitions.
use Rattle.std.specs.Prelude.{◌≡◌, ℕ, zero, suc, ◌+◌, ◌-◌, ◌≤◌, Bool, true, false, ◌&&◌, ◌||◌, List, [], ◌∷◌, ◌==◌, nat_le}
use Rattle.ways.specs.declared.input.Piece.{Piece}

-- what is done with a sheet (a guillotine cutting pattern): it is scrap (waste); it is the piece of that number (an item),
-- just as it is; or it is sawn through, upright so many from the left (a vertical cut) into the left part and the right,
-- or level so many from below (a horizontal cut) into the lower part and the upper
pub data Way : Type 0 where
  scrap : Way
  take : (piece : ℕ) → Way
  upright : (from_left : ℕ) → (left right : Way) → Way
  level : (from_below : ℕ) → (lower upper : Way) → Way

-- there is a piece of number k, just so wide and so high
unfoldable pub piece_fits : List Piece → (k wide high : ℕ) → Bool
piece_fits [] k w h = false
piece_fits (p ∷ ps) zero w h = p.wide == w && p.high == h
piece_fits (p ∷ ps) (suc k) w h = piece_fits ps k w h

-- what piece k is worth (its value)
unfoldable pub worth_at : List Piece → (k : ℕ) → ℕ
worth_at [] k = 0
worth_at (p ∷ ps) zero = p.worth
worth_at (p ∷ ps) (suc k) = worth_at ps k

-- a blade that takes so much (the kerf) may saw through a side at x: something is left on the first side, the blade goes in
-- as a whole, and where it takes nothing something is left on the other side too
unfoldable pub cut_ok : (blade side x : ℕ) → Bool
cut_ok blade side x = nat_le 1 x && (nat_le (x + blade) side && (nat_le 1 blade || nat_le 1 (side - (x + blade))))

-- a sheet so wide and so high can be sawn in that way (the pattern is feasible)
unfoldable pub can : (blade : ℕ) → List Piece → (wide high : ℕ) → Way → Bool
can blade ps w h scrap = true
can blade ps w h (take k) = piece_fits ps k w h
can blade ps w h (upright x a b) = cut_ok blade w x && (can blade ps x h a && can blade ps (w - (x + blade)) h b)
can blade ps w h (level y a b) = cut_ok blade h y && (can blade ps w y a && can blade ps w (h - (y + blade)) b)

-- what the pieces of a way are worth together
unfoldable pub worth_of : List Piece → Way → ℕ
worth_of ps scrap = 0
worth_of ps (take k) = worth_at ps k
worth_of ps (upright x a b) = worth_of ps a + worth_of ps b
worth_of ps (level y a b) = worth_of ps a + worth_of ps b

-- it can be sawn, and no way whatever that can be sawn is worth more (an optimal pattern)
unfoldable pub Best : (blade : ℕ) → List Piece → (wide high : ℕ) → Way → Type 0
Best blade ps w h a = (can blade ps w h a ≡ true) × ((b : Way) → can blade ps w h b ≡ true → worth_of ps b ≤ worth_of ps a)
