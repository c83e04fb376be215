-- `numbers::whole_bits`: below one the answer is zero or one; else the digits behind the point are cut off and, away from zero, one unit added (FloorBits.antt).
use mathlib.Core.Path.{◌≡◌, sym, subst}
use mathlib.Core.Bool.{Bool}
use Prim.Native.Nat.{ℕ}
use native.Mathlib.Omega.{arith}
use Rattle.numbers.specs.Steps.{CutTo}
use Rattle.numbers.proofs.FloorBits.{zero_kept, to_one, to_zero, toward, same, room, away}
use Rattle.numbers.proofs.whole_bits.Goals as goal

turned : {s t : Bool} {b r : ℕ} → s ≡ t → CutTo t b r → CutTo s b r
turned {b = b} {r = r} e k = subst (λ (y : Bool). CutTo y b r) (sym e) k

pub returns-then-bits-eq0 : goal.returns-then-bits-eq0
returns-then-bits-eq0 c = zero_kept c.args.away c.args.bits c.if-bits-eq0.true

pub returns-then-away : goal.returns-then-away
returns-then-away c = turned c.if-away.true (to_one c.args.bits c.if-bits-lt4607182418800017408.true c.if-bits-eq0.false)

pub returns-then-bits-lt4607182418800017408 : goal.returns-then-bits-lt4607182418800017408
returns-then-bits-lt4607182418800017408 c = turned c.if-away.false (to_zero c.args.bits c.if-bits-lt4607182418800017408.true)

pub overflow_add-result : goal.overflow_add-result
overflow_add-result c = omega (arith, room c.args.bits c.requires c.if-bits-lt4607182418800017408.false)

pub returns-then-cut-bits : goal.returns-then-cut-bits
returns-then-cut-bits c = turned c.if-away-2.true (away c.args.bits c.requires c.if-bits-lt4607182418800017408.false c.if-cut-bits.true)

pub returns-else-cut-bits : goal.returns-else-cut-bits
returns-else-cut-bits c = turned c.if-away-2.true (same c.args.bits c.requires c.if-bits-lt4607182418800017408.false c.if-cut-bits.false)

pub returns-else-away-2 : goal.returns-else-away-2
returns-else-away-2 c = turned c.if-away-2.false (toward c.args.bits c.requires c.if-bits-lt4607182418800017408.false)
