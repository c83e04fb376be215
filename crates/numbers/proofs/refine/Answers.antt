-- `numbers::refine`: one step of Karatsuba's square root (step, Karatsuba.antt): the new digit is right or one too large (kept, lowered).
use Prim.Native.Nat.{ℕ, ◌+◌, ◌*◌, ◌/◌, ◌%◌, ◌^◌}
use native.Mathlib.Omega.{arith}
use lib.Bits.{bit_or}
use Rattle.numbers.specs.Steps.{Refinable}
use Rattle.numbers.proofs.Karatsuba.{Step, step, kept, lowered}
use Rattle.numbers.proofs.refine.Goals as goal

abbrev n : ℕ → ℕ → ℕ → ℕ → ℕ → ℕ
n q rem high low k = (q * q + rem) * (2 ^ k * 2 ^ k) + high * 2 ^ k + low

abbrev t : ℕ → ℕ → ℕ → ℕ
t rem high k = bit_or (rem * 2 ^ k % 2 ^ 64) high

abbrev v : ℕ → ℕ → ℕ → ℕ → ℕ → ℕ
v q rem high low k = bit_or (t rem high k % (q * 2) * 2 ^ k % 2 ^ 64) low

at : (q rem high low k : ℕ) → Refinable q rem high low k → Step (n q rem high low k) (q * 2 ^ k % 2 ^ 64) (t rem high k / (q * 2)) (v q rem high low k)
at q rem high low k a = step q rem high low k a

pub overflow_add-g : goal.overflow_add-g
overflow_add-g c = let s = at c.args.r.q c.args.r.rem c.args.high c.args.low c.args.k c.requires in
    omega (arith, s.product, s.digit, s.square)

pub overflow_mul-square : goal.overflow_mul-square
overflow_mul-square c = let s = at c.args.r.q c.args.r.rem c.args.high c.args.low c.args.k c.requires in
    omega (arith, s.product, s.digit, s.square)

pub overflow_sub-result : goal.overflow_sub-result
overflow_sub-result c = let s = at c.args.r.q c.args.r.rem c.args.high c.args.low c.args.k c.requires in
    omega (arith, s.some c.if-v-square.true, s.product, s.digit, s.square, s.rest)

pub overflow_mul-result : goal.overflow_mul-result
overflow_mul-result c = let s = at c.args.r.q c.args.r.rem c.args.high c.args.low c.args.k c.requires in
    omega (arith, s.some c.if-v-square.true, s.product, s.digit, s.square, s.rest)

pub overflow_sub-result-then-v-square : goal.overflow_sub-result-then-v-square
overflow_sub-result-then-v-square c = let s = at c.args.r.q c.args.r.rem c.args.high c.args.low c.args.k c.requires in
    omega (arith, s.some c.if-v-square.true, s.product, s.digit, s.square, s.rest)

pub overflow_add-result : goal.overflow_add-result
overflow_add-result c = let s = at c.args.r.q c.args.r.rem c.args.high c.args.low c.args.k c.requires in
    omega (arith, s.some c.if-v-square.true, s.product, s.digit, s.square, s.rest)

pub overflow_sub-result-then-v-square-2 : goal.overflow_sub-result-then-v-square-2
overflow_sub-result-then-v-square-2 c = let s = at c.args.r.q c.args.r.rem c.args.high c.args.low c.args.k c.requires in
    omega (arith, s.some c.if-v-square.true, s.product, s.digit, s.square, s.rest)

pub returns-then-v-square : goal.returns-then-v-square
returns-then-v-square c = lowered _ _ _ _ (at c.args.r.q c.args.r.rem c.args.high c.args.low c.args.k c.requires) c.if-v-square.true

pub returns-else-v-square : goal.returns-else-v-square
returns-else-v-square c = kept _ _ _ _ (at c.args.r.q c.args.r.rem c.args.high c.args.low c.args.k c.requires) c.if-v-square.false
