-- The record of the run that a new axis record begins with. Definitions for code only.
use Rattle.std.specs.Prelude.{ℕ, set}
use Rattle.stepform.specs.declared.Axis.{Axis}
use Rattle.runform.specs.declared.Run.{Run}

-- with a new record for axis z
abbrev pub axis_run : Run → ℕ → Axis → Run
axis_run r z x = record { shape = r.shape; axes = set r.axes z x; set = r.set; bonds = r.bonds; figure = r.figure }
