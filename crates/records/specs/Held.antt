-- A kept run's record as C has it, both ways, field by field. Definitions only.
use Rattle.std.specs.Prelude.{map}
use Rattle.cutform.specs.declared.Bond.{Bond}
use Rattle.cutform.specs.declared.Cutting.{Cutting}
use Rattle.stepform.specs.declared.Axis.{Axis}
use Rattle.stepform.specs.declared.Settings.{Settings}
use Rattle.runform.specs.declared.Run.{Run}
use Rattle.runform.specs.declared.Ran.{Ran}
use Rattle.records.specs.declared.given.CAxis.{CAxis}
use Rattle.records.specs.declared.given.CCutting.{CCutting}
use Rattle.records.specs.declared.given.CSettings.{CSettings}
use Rattle.records.specs.declared.told.CBond.{CBond}
use Rattle.records.specs.declared.held.CRun.{CRun}
use Rattle.records.specs.declared.held.CRan.{CRan}
use Rattle.records.specs.Given.{shape_in, axis_in, settings_in}
use Rattle.records.specs.Told.{refusal_of, shape_out, bond_out}

abbrev pub bond_in : CBond → Bond
bond_in b = record { rank = b.rank; sweeps = b.sweeps; settled = b.settled; dropped = b.dropped }

abbrev pub run_in : CRun → Run
run_in r = record {
  shape = shape_in r.shape;
  axes = map axis_in r.axes;
  set = settings_in r.set;
  bonds = map bond_in r.bonds;
  figure = r.figure;
}

abbrev pub axis_out : Axis → CAxis
axis_out x = record { a = x.a; b = x.b; xmin = x.xmin; xmax = x.xmax; boundary = x.boundary }

abbrev pub cutting_out : Cutting → CCutting
cutting_out x = record { eps = x.eps; mode = x.mode }

abbrev pub settings_out : Settings → CSettings
settings_out x = record { tau = x.tau; c = x.c; cutting = cutting_out x.cutting }

abbrev pub run_out : Run → CRun
run_out r = record {
  shape = shape_out r.shape;
  axes = map axis_out r.axes;
  set = settings_out r.set;
  bonds = map bond_out r.bonds;
  figure = r.figure;
}

abbrev pub ran_out : Ran → CRan
ran_out w = record { refusal = refusal_of w.verdict; run = run_out w.run }
