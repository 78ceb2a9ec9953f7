-- A cut that leaves something on both sides, and its mirror. Assumes nothing.
use Rattle.std.proofs.Common.{◌≡◌, ℕ, ◌+◌, ◌-◌, ◌≤◌, true, List, refl, sym, ◌∙◌, inl, inr, add_comm, arith}
use Rattle.std.proofs.lemmas.Bool.{cases_lt}
use Rattle.ways.specs.Parts.{side_of, sawn}
use Rattle.ways.specs.Sheet.{Way, can, worth_of}
use Rattle.ways.specs.declared.input.Piece.{Piece}
use Rattle.ways.specs.declared.parts.Orientation.{Orientation}
use Rattle.ways.specs.declared.parts.Orientation.TheVariants.{Upright, Level}
use Rattle.ways.specs.declared.parts.Part.{Part}
use Rattle.ways.proofs.Cuts.{Cut, sawn_parts, sawn_from, worth_sawn}
use Rattle.theorems.specs.Statements.{HalfOfUprights, HalfOfLevels}

-- the cut as far from the other end
mirror : (blade side x : ℕ) → Cut blade side x → 1 ≤ side - (x + blade) → Cut blade side (side - (x + blade)) × (side - (side - (x + blade) + blade) ≡ x)
mirror blade side x c some = (record { some = some; fits = omega arith; proper = omega arith }, omega arith)

half_of_cuts :
    (blade : ℕ) (ps : List Piece) (o : Orientation) (p : Part) (x : ℕ) (a b : Way) → can blade ps p.wide p.high (sawn o x a b) ≡ true → 1 ≤ side_of o p.wide p.high - (x + blade) →
    (y : ℕ) × (c : Way) × (d : Way) × (y + (y + blade) ≤ side_of o p.wide p.high) × (can blade ps p.wide p.high (sawn o y c d) ≡ true) × (worth_of ps (sawn o y c d) ≡ worth_of ps (sawn o x a b))
half_of_cuts blade ps o p x a b e some =
    let side = side_of o p.wide p.high in
    let q = sawn_parts blade ps o p x a b e in
    let m = mirror blade side x q.0 some in
    elim (cases_lt side (x + (x + blade))) [
      | inl farther ↦ (
        side - (x + blade),
        b,
        a,
        omega arith,
        sawn_from blade ps o p (side - (x + blade)) b a m.0 q.2 (rw m.1 q.1),
        worth_sawn ps o (side - (x + blade)) b a ∙ add_comm (worth_of ps b) (worth_of ps a) ∙ sym (worth_sawn ps o x a b),
      )
      | inr nearer ↦ (x, a, b, nearer, e, refl)
    ]

pub half_of_uprights : HalfOfUprights
half_of_uprights blade ps w h = half_of_cuts blade ps Upright (record { wide = w; high = h })

pub half_of_levels : HalfOfLevels
half_of_levels blade ps w h = half_of_cuts blade ps Level (record { wide = w; high = h })
