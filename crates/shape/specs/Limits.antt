-- The limits of the scope. Definitions only.
use Rattle.std.specs.Prelude.{ℕ, ◌+◌, ◌*◌, Bool, ◌&&◌, leb}

abbrev pub most_axes : ℕ
most_axes = 16

abbrev pub most_points : ℕ
most_points = 64

abbrev pub most_rank : ℕ
most_rank = 8

-- the rows and the columns of a pair
abbrev pub most_lines : ℕ
most_lines = 64

-- what follows: the most numbers of a core, of a chain, of a core's points at one left index, three times, of all carries, weights and partial sums
abbrev pub most_core : ℕ
most_core = most_rank * most_points * most_rank

abbrev pub most_entries : ℕ
most_entries = most_axes * most_core

abbrev pub most_block : ℕ
most_block = 3 * (most_points * most_rank)

abbrev pub most_carries : ℕ
most_carries = most_axes * (most_rank * most_rank)

abbrev pub most_weights : ℕ
most_weights = most_axes * most_points

abbrev pub most_sums : ℕ
most_sums = most_axes * most_rank

-- 1 to the most
abbrev pub within : ℕ → ℕ → Bool
within most x = leb 1 x && leb x most

-- scratch for a rounding, a step, an evolve, a run or a replacement of a chain of n numbers
abbrev pub scratch_for : ℕ → ℕ
scratch_for n = 4 * n + 2048

-- scratch for a pair
abbrev pub pair_scratch : ℕ
pair_scratch = 20480
