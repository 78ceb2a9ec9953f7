use Rattle.std.proofs.Common.{ℕ, ◌+◌, ◌-◌, arith}
use Rattle.ways.specs.Parts.{side_of, with_side, CutsAt}
use Rattle.ways.specs.Sheet.{cut_ok}
use Rattle.ways.specs.View.{pieces_of}
use Rattle.ways.proofs.Cuts.{first_smaller, second_smaller}
use Rattle.ways.proofs.Judging.{Split, found_as, found_missing, found_unsound, found_scrap, found_take, found_small}
use Rattle.ways.proofs.Judging.{split_saw, split_refused, split_first, split_second, split_sum}
use Rattle.ways.proofs.Lent.+part_worth.Goals as goal
use Rattle.ways.proofs.Lent.+part_worth.Goals.{In-Saw, In_ok-parts-in-Saw}

pub returns-in_err-node : goal.returns-in_err-node
returns-in_err-node t c = rw c.from_residual.ensures (found_missing _ _ _ _ _ c.in_err-node.ensures)

pub returns-then-not-names_later : goal.returns-then-not-names_later
returns-then-not-names_later t c = found_unsound _ _ _ _ _ _ c.in_ok-node.ensures c.if-not-names_later.ensures

pub returns-in-Scrap : goal.returns-in-Scrap
returns-in-Scrap t c = found_scrap _ _ _ _ _ _ c.in_ok-node.ensures c.in-Scrap.is

pub returns-in-Take : goal.returns-in-Take
returns-in-Take t c =
    let s = c.args.self.now in
    let found = found_take s.sheet.blade (pieces_of s.pieces.now) c.args.numbers.now c.args.i c.args.part _ c.in_ok-node.ensures c.in-Take.piece c.in-Take.is in
    λ l le. rw (c.fitting.ensures, c.as_slice.ensures) (found l le)

-- a part that is sawn, if the cut may be made
saw_split :
    (t : ℕ) (c : In-Saw t) → let s = c.args.self.now in let p = c.args.part in let cut = c.in-Saw.cut in let side = side_of cut.orientation p.wide p.high in
    Split s.sheet.blade (pieces_of s.pieces.now) c.args.numbers.now (cut_ok s.sheet.blade side cut.at) c.args.i p
    cut.first (with_side cut.orientation p cut.at) cut.second (with_side cut.orientation p (side - (cut.at + s.sheet.blade)))
saw_split t c =
    let s = c.args.self.now in
    split_saw s.sheet.blade (pieces_of s.pieces.now) c.args.numbers.now c.args.i c.args.part _ c.in_ok-node.ensures c.if-not-names_later.ensures c.in-Saw.cut c.in-Saw.is

pub returns-in_err-parts-in-Saw : goal.returns-in_err-parts-in-Saw
returns-in_err-parts-in-Saw t c =
    rw c.from_residual-in_err-parts-in-Saw.ensures
    (split_refused _ _ _ _ _ _ _ _ _ _ (saw_split t (goal.at.returns-in_err-parts-in-Saw t c).In-Saw) (rw c.blade.ensures at c.in_err-parts-in-Saw.ensures))

-- both parts of the cut
parts_here : (t : ℕ) (c : In_ok-parts-in-Saw t) → CutsAt c.args.self.now.sheet.blade c.args.part c.in-Saw.cut.orientation c.in-Saw.cut.at c.in_ok-parts-in-Saw.parts
parts_here t c = rw c.blade.ensures at c.in_ok-parts-in-Saw.ensures

pub part_worth-requires : goal.part_worth-requires
part_worth-requires t c =
    let near = first_smaller _ _ _ _ _ (parts_here t (goal.at.part_worth-requires t c).In_ok-parts-in-Saw) in (omega (arith, near.less), (omega (arith, near.narrow), omega (arith, near.low)))

pub returns-in_err-first-in-Saw : goal.returns-in_err-first-in-Saw
returns-in_err-first-in-Saw t c =
    let k = parts_here t (goal.at.returns-in_err-first-in-Saw t c).In_ok-parts-in-Saw in
    rw c.from_residual-in_err-first-in-Saw.ensures
    (split_first _ _ _ _ _ _ _ _ _ _ (saw_split t (goal.at.returns-in_err-first-in-Saw t c).In-Saw) (rw k.first at c.in_err-first-in-Saw.ensures))

pub part_worth-requires-in-Saw : goal.part_worth-requires-in-Saw
part_worth-requires-in-Saw t c =
    let far = second_smaller _ _ _ _ _ (parts_here t (goal.at.part_worth-requires-in-Saw t c).In_ok-parts-in-Saw) in (omega (arith, far.less), (omega (arith, far.narrow), omega (arith, far.low)))

pub returns-in_err-second-in-Saw : goal.returns-in_err-second-in-Saw
returns-in_err-second-in-Saw t c =
    let k = parts_here t (goal.at.returns-in_err-second-in-Saw t c).In_ok-parts-in-Saw in
    rw c.from_residual-in_err-second-in-Saw.ensures
    (split_second _ _ _ _ _ _ _ _ _ _ (saw_split t (goal.at.returns-in_err-second-in-Saw t c).In-Saw) _ (rw k.first at c.in_ok-first-in-Saw.ensures)
    (found_as _ _ _ _ _ _ _ (grind arith) (rw k.second at c.in_err-second-in-Saw.ensures)))

pub overflow_add-result : goal.overflow_add-result
overflow_add-result t c =
    let k = parts_here t (goal.at.overflow_add-result t c).In_ok-parts-in-Saw in
    let near = first_smaller _ _ _ _ _ k in
    let far = second_smaller _ _ _ _ _ k in
    let ok = c.args.self.now.pieces.now.ok in
    let first = found_small _ _ _ ok _ _ _ (omega (arith, near.narrow)) (omega (arith, near.low)) c.in_ok-first-in-Saw.ensures in
    let second = found_small _ _ _ ok _ _ _ (omega (arith, far.narrow)) (omega (arith, far.low)) c.in_ok-second-in-Saw.ensures in
    omega arith

pub returns-in_ok-second-in-Saw : goal.returns-in_ok-second-in-Saw
returns-in_ok-second-in-Saw t c =
    let k = parts_here t (goal.at.returns-in_ok-second-in-Saw t c).In_ok-parts-in-Saw in
    split_sum _ _ _ _ _ _ _ _ _ _ (saw_split t (goal.at.returns-in_ok-second-in-Saw t c).In-Saw) _ _ k.allowed (rw k.first at c.in_ok-first-in-Saw.ensures)
    (found_as _ _ _ _ _ _ _ (grind arith) (rw k.second at c.in_ok-second-in-Saw.ensures))
