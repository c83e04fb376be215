-- A run's record that is made part by part.
use mathlib.Core.Path.{◌≡◌}
use mathlib.Core.List.{List, map}
use Rattle.shape.specs.declared.Shape.{Shape}
use Rattle.cutform.specs.declared.Bond.{Bond}
use Rattle.stepform.specs.declared.Axis.{Axis}
use Rattle.stepform.specs.declared.Settings.{Settings}
use Rattle.runform.specs.declared.Run.{Run}
use Rattle.runform.specs.declared.Ran.{Ran}
use Rattle.records.specs.declared.given.CShape.{CShape}
use Rattle.records.specs.declared.given.CAxis.{CAxis}
use Rattle.records.specs.declared.given.CSettings.{CSettings}
use Rattle.records.specs.declared.told.CBond.{CBond}
use Rattle.records.specs.declared.told.CRefusal.{CRefusal}
use Rattle.records.specs.declared.held.CRun.{CRun}
use Rattle.records.specs.Given.{shape_in, axis_in, settings_in}
use Rattle.records.specs.Told.{refusal_of, shape_out, bond_out}
use Rattle.records.specs.Held.{bond_in, run_in, axis_out, settings_out, run_out, ran_out}

pub run_in_as : (r : CRun) (s : Shape) (k : List Axis) (u : Settings) (b : List Bond)
    → s ≡ shape_in r.shape → k ≡ map axis_in r.axes → u ≡ settings_in r.set → b ≡ map bond_in r.bonds
    → record { shape = s; axes = k; set = u; bonds = b; figure = r.figure } ≡ run_in r
run_in_as r s k u b e f g h = rw (e, f, g, h)

pub run_out_as : (r : Run) (s : CShape) (k : List CAxis) (u : CSettings) (b : List CBond)
    → s ≡ shape_out r.shape → k ≡ map axis_out r.axes → u ≡ settings_out r.set → b ≡ map bond_out r.bonds
    → record { shape = s; axes = k; set = u; bonds = b; figure = r.figure } ≡ run_out r
run_out_as r s k u b e f g h = rw (e, f, g, h)

pub ran_as : (w : Ran) (q : CRefusal) (r : CRun) → q ≡ refusal_of w.verdict → r ≡ run_out w.run → record { refusal = q; run = r } ≡ ran_out w
ran_as w q r e f = rw (e, f)
