-- `numbers::ahead`: the sum fits by the contract's bounds, and the remainder of it is `wrap` by definition.
use mathlib.Core.Path.{refl}
use Rattle.numbers.specs.Residues.{wrap}
use Rattle.numbers.proofs.ahead.Goals as goal

pub returns : goal.returns
unfolding wrap
returns c = refl
