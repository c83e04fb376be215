-- `numbers::slow_root`: from the root of 14 leading digits, two refinements double the digits twice (ask, get of Doubling.antt).
use Prim.Native.Nat.{ℕ, ◌+◌, ◌*◌, ◌/◌, ◌^◌}
use native.Mathlib.Omega.{arith}
use lib.Dec.{lit≤}
use lib.Bits.{bit_and, mask_lt}
use Rattle.numbers.specs.Steps.{Leaves}
use Rattle.numbers.proofs.Shifts.{whole, whole_from}
use Rattle.numbers.proofs.Doubling.{ask, get}
use Rattle.numbers.proofs.slow_root.Goals as goal

after_first : (m q rem q' rem' : ℕ) → Leaves (m / 2 ^ 40) q rem → (Leaves ((q * q + rem) * (2 ^ 7 * 2 ^ 7) + bit_and (m / 2 ^ 33) 127 * 2 ^ 7 + bit_and (m / 2 ^ 26) 127) q' rem') → Leaves (m / 2 ^ 26) q' rem'
after_first m q rem q' rem' a b = get 7 _ _ _ _ _ _ _ _ _ (whole_from m 33 7) (whole_from m 26 7) a b

pub refine-b-requires : goal.refine-b-requires
refine-b-requires c = let m = c.args.m in
    ask (2 ^ 6) (2 ^ 7) (m / 2 ^ 40) _ _ c.small_root-a.ensures (omega arith) (omega arith) 7 _ _ (lit≤ tt) (lit≤ tt) (lit≤ tt) (mask_lt (m / 2 ^ 33) 7) (mask_lt (m / 2 ^ 26) 7)

pub refine-requires : goal.refine-requires
refine-requires c = let m = c.args.m in
    ask (2 ^ 13) (2 ^ 14) (m / 2 ^ 26) _ _ (after_first m _ _ _ _ c.small_root-a.ensures c.refine-b.ensures) (omega arith) (omega arith) 13 _ _ (lit≤ tt) (lit≤ tt) (lit≤ tt) (mask_lt (m / 2 ^ 13) 13) (mask_lt m 13)

pub returns : goal.returns
returns c = let m = c.args.m in
    get 13 _ _ _ _ _ _ _ _ _ (whole_from m 13 13) (whole m 13) (after_first m _ _ _ _ c.small_root-a.ensures c.refine-b.ensures) c.refine.ensures
