-- `lists::settled`: where eight sums are finite, so are all their terms (eight_settled).
use Rattle.std.proofs.Common.{sym, ◌∙◌, arith}
use Rattle.lists.proofs.Eighths.{eight_settled}
use Rattle.lists.proofs.settled.Goals as goal

pub returns-then-each_finite : goal.returns-then-each_finite
returns-then-each_finite c =
    (omega arith, eight_settled c.args.s.now _ c.eight_sums-sums.result c.eight_sums-sums.ensures.0 c.eight_sums-sums.ensures.1 (sym c.each_finite.ensures ∙ c.if-each_finite.true))
