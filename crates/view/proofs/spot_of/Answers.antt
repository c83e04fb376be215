-- `view::spot_of`: a shape that is refused and a k past the last core have no spot, and any other core has that of `core_spot` (spots).
use Rattle.std.proofs.Common.{rules, sym, ◌∙◌}
use Rattle.view.proofs.Views.{spots, spot_refused, spot_sizes, spot_here}
use Rattle.view.proofs.spot_of.Goals as goal

pub returns-in_err-ok : goal.returns-in_err-ok
returns-in_err-ok c = c.from_residual.ensures ∙ spot_refused _ _ c.check.result c.check.ensures (sym c.in_err-ok.ensures.value)

pub returns-then-s-k : goal.returns-then-s-k
returns-then-s-k c = search (rules, spots)

pub core_spot-requires-clause-sizes_within : goal.core_spot-requires-clause-sizes_within
core_spot-requires-clause-sizes_within c = spot_sizes _ c.args.k c.check.result _ c.check.ensures (sym c.in_ok-ok.ensures.value)

pub returns : goal.returns
returns c = spot_here _ _ c.check.result _ c.check.ensures (sym c.in_ok-ok.ensures.value) _ c.if-s-k.false c.core_spot.ensures
