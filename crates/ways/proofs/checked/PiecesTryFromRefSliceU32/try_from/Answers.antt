use Rattle.std.proofs.Common.{◌≡◌, ℕ, ◌*◌, ◌/◌, ◌<◌, List, [], length, get_or, take, Some, sym, ap, ◌∙◌, arith}
use Rattle.std.proofs.lemmas.Bool.Decides.{nat_tests}
use Rattle.std.proofs.lemmas.Result.{err_from_is_err_and}
use Rattle.std.specs.Simd.{first_chunks}
use Rattle.ways.specs.declared.refusals.Refusal.TheVariants.{Piece}
use Rattle.ways.proofs.Threes.{piece_at, piece_in, so_far_none, so_far_more, so_far_wrong, so_far_all, so_far_short}
use Rattle.ways.proofs.checked.PiecesTryFromRefSliceU32.try_from.Goals as goal
use Rattle.ways.proofs.checked.PiecesTryFromRefSliceU32.try_from.Goals.{After-from}

pub loop-three-init : goal.loop-three-init
loop-three-init c = so_far_none _ _ _ c.none-pieces.ensures

-- the piece that is pushed, and that all three of its numbers are there
is_piece : (c : After-from) → (c.from.result ≡ piece_at c.args.numbers.now (3 * c.loop-three.three-index)) × (c.loop-three.three-index < length c.args.numbers.now / 3)
is_piece c =
    let few : c.loop-three.three-index < length c.args.numbers.now / 3 = grind (arith, nat_tests) in
    let front : c.as_chunks.result.0.now ≡ first_chunks 3 (length c.args.numbers.now / 3) c.args.numbers.now = c.as_chunks.ensures.front in
    (c.from.ensures ∙ piece_in c.args.numbers.now _ [] c.loop-three.three-index few (ap (λ (z : List (List ℕ)). get_or z c.loop-three.three-index []) front), few)

pub loop-three-preserved : goal.loop-three-preserved
loop-three-preserved c =
    let told = c.in_ok-push.ensures in
    let p = is_piece (goal.at.loop-three-preserved c).After-from in
    so_far_more c.args.numbers.now c.loop-three.three-index c.loop-three.pieces.count (take c.loop-three.pieces.count c.loop-three.pieces.list) c.loop-three.invariant _ c.push.new.self.count (take c.push.new.self.count c.push.new.self.list) p.0 (omega (arith, p.1)) told.answer told.held.0 told.held.1

pub returns-in_err-push : goal.returns-in_err-push
returns-in_err-push c =
    let told = c.in_err-push.ensures in
    let p = is_piece (goal.at.returns-in_err-push c).After-from in
    let e = err_from_is_err_and c.from_residual.result c.from_residual.ensures.1 in
    rw (e.1, e.2) (so_far_wrong _ _ _ _ c.loop-three.invariant _ p.0 (omega (arith, p.1)) told.answer.0 ∙ ap Some (sym told.answer.1))

pub returns-then-is_empty : goal.returns-then-is_empty
returns-then-is_empty c = so_far_all _ _ _ _ c.loop-three.invariant (grind (arith, nat_tests))

pub returns-else-is_empty : goal.returns-else-is_empty
returns-else-is_empty c =
    let last : c.loop-three.three-index ≡ length c.as_chunks.result.0.now = grind (arith, nat_tests) in
    so_far_short _ _ _ _ c.loop-three.invariant (grind (arith, nat_tests)) (grind (arith, nat_tests)) ∙ ap (λ n. Some (Piece n)) last
