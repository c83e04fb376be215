-- `run_slices::commit`: the figure is the first of the last axis' sums (last_within).
use Rattle.run_slices.proofs.Taken.{last_within}
use Rattle.run_slices.proofs.commit.Goals as goal

pub bounds-summed-last : goal.bounds-summed-last
bounds-summed-last c = last_within _ c.requires.sizes_within.0 _ c.sum_offset-last.ensures _ _ c.requires.chain_len.2 c.requires.chain_in_bounds.2
