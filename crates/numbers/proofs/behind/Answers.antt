-- `numbers::behind`: the place s steps behind is i + (n - s % n), which wraps to that of i - s (wrap_minus, Residues.antt).
use mathlib.Core.Path.{sym}
use native.Mathlib.Nat.{mod-lt}
use native.Mathlib.Omega.{arith}
use Rattle.numbers.proofs.Residues.{wrap_minus}
use Rattle.numbers.proofs.behind.Goals as goal

pub overflow_sub-result : goal.overflow_sub-result
overflow_sub-result c = omega (arith, mod-lt c.args.s {m = c.args.n} c.requires.0)

pub returns : goal.returns
returns c = sym (wrap_minus c.args.n c.args.i c.args.s c.requires.0)
