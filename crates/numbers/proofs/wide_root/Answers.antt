-- `numbers::wide_root`: the root of m doubled once more by `refine` is the root of m * 2 ^ 54 (last, Doubling.antt).
use Prim.Native.Nat.{◌^◌}
use native.Mathlib.Omega.{arith}
use lib.Dec.{lit≤}
use Rattle.numbers.proofs.Doubling.{ask, last}
use Rattle.numbers.proofs.wide_root.Goals as goal

pub refine-r-requires : goal.refine-r-requires
refine-r-requires c = ask (2 ^ 26) (2 ^ 27) c.args.m _ _ c.slow_root.ensures (omega arith) (omega arith) 27 0 0 (lit≤ tt) (lit≤ tt) (lit≤ tt) (lit≤ tt) (lit≤ tt)

pub returns : goal.returns
returns c = last c.args.m _ _ _ _ (omega arith) c.slow_root.ensures c.refine-r.ensures
