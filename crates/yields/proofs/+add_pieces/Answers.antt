use Rattle.std.proofs.Common.{ℕ, ◌<◌, length, arith}
use Rattle.yields.specs.Walks.{Sound}
use Rattle.yields.proofs.Counting.{room_first, room_second, asked_as, added_as, added_both, added_one, take_place}
use Rattle.yields.proofs.Reading.{Sawn, way_take, says_saw}
use Rattle.yields.proofs.+add_pieces.Goals as goal
use Rattle.yields.proofs.+add_pieces.Goals.{In-Take, In-Saw}

-- there is a place for the piece
placed : (t : ℕ) (c : In-Take t) → c.in-Take.piece < length c.args.counts.now
placed t c = take_place _ _ (way_take _ _ _ _ (cc) c.requires.1) _ c.requires.2

pub bounds-counts-piece : goal.bounds-counts-piece
bounds-counts-piece t c = placed t (goal.at.bounds-counts-piece t c).In-Take

pub returns-in-Take : goal.returns-in-Take
returns-in-Take t c = λ l sound. added_one _ _ (way_take _ _ _ _ (cc) sound) _ (placed t (goal.at.returns-in-Take t c).In-Take)

-- a part that is sawn, read so deep
sawn_here : (t : ℕ) (c : In-Saw t) (l : ℕ) → Sound c.args.numbers.now l c.args.i → Sawn c.args.numbers.now c.in-Saw.cut l c.args.i
sawn_here t c l sound = says_saw _ _ _ (cc) l sound

pub add_pieces-requires : goal.add_pieces-requires
add_pieces-requires t c =
    let s = sawn_here t (goal.at.add_pieces-requires t c).In-Saw _ c.requires.1 in
    (omega (arith, s.later), (s.deep, s.first, room_first _ _ _ _ _ s.says _ c.requires.2))

pub add_pieces-requires-in-Saw : goal.add_pieces-requires-in-Saw
add_pieces-requires-in-Saw t c =
    let s = sawn_here t (goal.at.add_pieces-requires-in-Saw t c).In-Saw _ c.requires.1 in
    (grind (arith, s.later), asked_as _ _ _ _ _ (grind arith) s.second (room_second _ _ _ _ _ s.says _ _ c.add_pieces.auto.counts (c.add_pieces.ensures s.deep s.first) c.requires.2))

pub returns-in-Saw : goal.returns-in-Saw
returns-in-Saw t c =
    λ l sound. let s = sawn_here t (goal.at.returns-in-Saw t c).In-Saw l sound in
    added_both _ _ _ _ _ s.says _ _ _ (c.add_pieces.ensures s.deep s.first)
    (added_as _ _ _ _ _ (grind arith) _ (c.add_pieces-in-Saw.ensures s.deep) s.second)
