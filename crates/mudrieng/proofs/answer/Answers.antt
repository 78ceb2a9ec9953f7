use Rattle.std.proofs.Common.{◌≡◌, length, ◌∙◌, arith}
use Rattle.std.proofs.lemmas.List.{take_at}
use Rattle.mudrieng.proofs.Taking.{some_alone, later_alone}
use Rattle.mudrieng.proofs.answer.Goals as goal

pub invariant_of-way : goal.invariant_of-way
invariant_of-way c =
    let told = c.left-count.ensures in
    let long : length c.left-count.new.room ≡ c.in_ok-room.room.len = omega (arith, c.left-count.auto.room, c.as_mut_slice.ensures.len) in
    let same = c.as_slice-3.ensures.value ∙ take_at c.left-count.new.room _ c.in_ok-room.room.len long in
    rw same (record { some = some_alone _ _ told.within told.some; later = later_alone _ _ told.within told.later })
