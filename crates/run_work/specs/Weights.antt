-- A replacement of weights whose checks have passed: what its work asks, and where it ends. Definitions for code only.
use Rattle.std.specs.Prelude.{◌≡◌, ℕ, ◌<◌, List, length, Float}
use Rattle.lists.specs.Slots.{offset}
use Rattle.shape.specs.declared.Shape.{Shape}
use Rattle.shape.specs.Shapes.{point_size, entries_of, all_points}
use Rattle.stepform.specs.Zones.{rules}
use Rattle.sumform.specs.Sums.{sum_size}
use Rattle.runform.specs.declared.Run.{Run}
use Rattle.runform.specs.Slices.{Slices}
use Rattle.runform.specs.Kept.{kept_of, running}
use Rattle.runform.specs.Work.{sum_from}
use Rattle.runform.specs.Requests.{new_weights, present}
use Rattle.runform.specs.Call.{RunEnd, run_end}

-- the lengths that the checks let through
pub record Lent (s : Shape) (z : ℕ) (part weights chain sums : List Float) : Type 0 where
  pub zone : z < s.d
  pub part_long : length part ≡ point_size s z
  pub weights_long : length weights ≡ all_points s
  pub chain_long : length chain ≡ entries_of s
  pub sums_long : length sums ≡ offset (sum_size s) s.d

-- the sums made anew over the new weights
unfoldable pub weights_end : Run → ℕ → Slices (List Float) → List Float → List Float → RunEnd
weights_end r z m part scratch =
    let k = kept_of r m in
    run_end k scratch (sum_from rules (running (present k.inputs (new_weights z part)) k.stepped k.summed) z)
