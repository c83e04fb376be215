use Rattle.std.proofs.Common.{rules}
use Rattle.lists.specs.Floats.{at, first_not_finite}
use Rattle.lists.specs.Lists.{first_not}
use Rattle.numbers.specs.Finite.{finite}
use Rattle.lists.proofs.first_not_finite.Goals as goal

pub returns : goal.returns
unfolding first_not_finite first_not
returns c = c.first_not.ensures (λ i. finite (at c.args.s.now i)) (λ k r l p. search rules)
