-- `run_work::weights::resummed`: sums that are not finite leave all as it was (resum_stops); otherwise weights, sums and figure are committed (resum_ends).
use mathlib.Core.Path.{sym}
use native.Mathlib.Nat.{le_of_eq}
use native.Mathlib.Omega.{arith}
use Rattle.shape.proofs.Shaped.{shaped}
use Rattle.run_work.proofs.Ranked.{ranked_inside}
use Rattle.run_work.proofs.Placed.{sums_fit}
use Rattle.run_work.proofs.Reweighed.{resum_stops, resum_ends}
use Rattle.run_work.proofs.weights.resummed.Goals as goal

pub kept_shape-t-requires : goal.kept_shape-t-requires
kept_shape-t-requires c = (shaped _ _ c.requires.bonds_value).most

pub sums_anew-requires : goal.sums_anew-requires
sums_anew-requires c = let w = (shaped _ _ c.requires.bonds_value).sizes in record {
  sizes_within = (w, ranked_inside _ _ c.requires.bonds_value _ c.kept_shape-t.ensures, le_of_eq (sym c.requires.lent.chain_long));
  z_lt_d = (c.requires.lent.zone, c.requires.lent.part_long, c.requires.lent.weights_long);
  sums_len = (c.requires.lent.sums_long, sums_fit _ w _ c.requires.lent.sums_long);
}

pub returns-in-Err : goal.returns-in-Err
returns-in-Err c = λ source carries scratch. resum_stops c.args.r c.args.z c.args.weights.now c.args.chain.now c.args.sums.now c.args.part.now _
    c.kept_shape-t.ensures c.requires.lent.zone _ _
    c.sums_anew.ensures source carries scratch _ c.in-Err.is _ c.refused.ensures

pub commit-figure-requires : goal.commit-figure-requires
commit-figure-requires c = let w = (shaped _ _ c.requires.bonds_value).sizes in record {
  sizes_within = (w, omega (arith, sums_fit _ w _ c.requires.lent.sums_long, c.sums_anew.auto.held));
  z_lt_d = (c.requires.lent.zone, c.requires.lent.part_long, c.requires.lent.weights_long, c.requires.lent.sums_long);
}

pub returns : goal.returns
returns c = λ source carries scratch. resum_ends c.args.r c.args.z c.args.weights.now c.args.chain.now
    c.args.sums.now c.args.part.now _
    c.kept_shape-t.ensures
    c.requires.lent.zone _ _ c.sums_anew.ensures source carries
    scratch c.in_default.is (le_of_eq (sym c.requires.lent.sums_long)) _ _ _ _
    c.commit-figure.ensures.0 c.commit-figure.ensures.1 c.commit-figure.ensures.2 c.fitted.ensures
