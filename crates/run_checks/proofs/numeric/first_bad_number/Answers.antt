-- The first zone that fails is the lesser of two: that of what zones are made from, and that of what is kept of them.
use lib.ListN.{length}
use Rattle.runform.specs.Slices.{slices, each_slice}
use mathlib.Core.Path.{◌∙◌}
use Rattle.run_checks.proofs.Asks.{lent_says}
use Rattle.run_checks.proofs.Guards.{least_fails}
use Rattle.shape.proofs.Shaped.{shaped}
use Rattle.run_checks.proofs.numeric.first_bad_number.Goals as goal

pub first_bad_made-made-requires : goal.first_bad_made-made-requires
first_bad_made-made-requires c = let l = lent_says _ (each_slice length (slices c.args.source.now c.args.weights.now c.args.chain.now c.args.carries.now c.args.sums.now)) c.requires.sums_value in
    record {
      sizes_within = (shaped _ _ c.requires.bonds_value).sizes;
      s_in_bounds = (l.source, l.weights);
    }

pub first_bad_held-held-requires : goal.first_bad_held-held-requires
first_bad_held-held-requires c = let l = lent_says _ (each_slice length (slices c.args.source.now c.args.weights.now c.args.chain.now c.args.carries.now c.args.sums.now)) c.requires.sums_value in
    record {
      sizes_within = ((shaped _ _ c.requires.bonds_value).sizes, c.requires.bonds_value);
      s_in_bounds = (l.chain, l.carries, l.sums);
    }

pub returns : goal.returns
returns c = c.min.ensures ∙ least_fails _ _ _ _ _ c.first_bad_made-made.ensures c.first_bad_held-held.ensures
