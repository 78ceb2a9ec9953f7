-- What nodes say, by the node that is read first. Assumes nothing.
use Rattle.std.proofs.Common.{◌≡◌, ℕ, false, zero, suc, ◌/◌, List, length, Some, None, sym, refl}
use Rattle.std.proofs.lemmas.Bool.{false≢true, and_parts}
use Rattle.std.proofs.lemmas.Option.{cond_some}
use Rattle.ways.specs.Judged.{both_parts, sound, worth_from, judged}
use Rattle.ways.specs.Nodes.{node_at, node_ok, way_from, way_at}
use Rattle.ways.specs.Parts.{sawn}
use Rattle.ways.specs.Sheet.{scrap, take, can, worth_of}
use Rattle.ways.specs.declared.input.Piece.{Piece}
use Rattle.ways.specs.declared.nodes.Cut.{Cut}
use Rattle.ways.specs.declared.nodes.Node.TheVariants.{Scrap, Take, Saw}
use Rattle.ways.proofs.Named.{BothLater, ok_saw}
use Rattle.yields.specs.Answered.{way_of}
use Rattle.yields.specs.Walks.{Sound, Sawable}

-- node i says a cut, whose nodes come later
pub record Sawn (xs : List ℕ) (c : Cut ℕ) (levels i : ℕ) : Type 0 where
  pub deep : ℕ
  pub first : Sound xs deep c.first
  pub second : Sound xs deep c.second
  pub says : way_at xs levels i ≡ sawn c.orientation c.at (way_at xs deep c.first) (way_at xs deep c.second)
  pub later : BothLater (length xs / 4) i c.first c.second

module _ (xs : List ℕ) where
  abbrev n : ℕ
  n = length xs / 4

  pub sound_missing : (l i : ℕ) → node_at xs i ≡ None → sound xs (length xs / 4) l i ≡ false
  unfolding sound node_ok
  sound_missing zero i e = refl
  sound_missing (suc l) i e = rw e refl

  pub way_scrap : (l i : ℕ) → node_at xs i ≡ Some Scrap → way_at xs l i ≡ scrap
  unfolding way_at way_from
  way_scrap zero i e = refl
  way_scrap (suc l) i e = rw e refl

  pub way_take : (l i k : ℕ) → node_at xs i ≡ Some (Take k) → Sound xs l i → way_at xs l i ≡ take k
  unfolding sound way_at way_from
  way_take zero i k e s = absurd (false≢true s)
  way_take (suc l) i k e s = rw e refl

  pub says_saw : (i : ℕ) (c : Cut ℕ) → node_at xs i ≡ Some (Saw c) → (l : ℕ) → Sound xs l i → Sawn xs c l i
  unfolding sound both_parts way_at way_from
  says_saw i c is zero e = absurd (false≢true e)
  says_saw i c is (suc l) e =
      let named = and_parts (node_ok xs n i) (both_parts (sound xs n l) (node_at xs i)) e in
      let parts = and_parts (sound xs n l c.first) (sound xs n l c.second) (rw is at named.1) in
      record {
        deep = l;
        first = parts.0;
        second = parts.1;
        says = rw is refl;
        later = ok_saw xs n i named.0 (Saw c) (sym is) c refl;
      }

-- of a node that is no cut, for `grind`
pub ruleset reading = (sound_missing, way_scrap, way_take)

-- what is judged a way that can be sawn is one
pub judged_some :
    (blade : ℕ) (ps : List Piece) (w h : ℕ) (xs : List ℕ) (v : ℕ) → Some v ≡ judged blade ps w h xs → Sawable blade ps xs (length xs / 4) 0 (record { wide = w; high = h })
unfolding judged worth_from
judged_some blade ps w h xs v e = and_parts (sound xs (length xs / 4) (length xs / 4) 0) (can blade ps w h (way_of xs)) (cond_some _ (worth_of ps (way_of xs)) v (sym e)).0
