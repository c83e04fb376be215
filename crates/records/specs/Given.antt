-- What C's records say to a call, field by field. Definitions only.
use Rattle.std.specs.Prelude.{ℕ, List, map}
use Rattle.lists.specs.Lists.{tab}
use Rattle.stepform.specs.Axes.{axis_at}
use Rattle.shape.specs.declared.Shape.{Shape}
use Rattle.cutform.specs.declared.Cutting.{Cutting}
use Rattle.stepform.specs.declared.Axis.{Axis}
use Rattle.stepform.specs.declared.Settings.{Settings}
use Rattle.stepform.specs.declared.Course.{Course}
use Rattle.pairform.specs.declared.Sizes.{Sizes}
use Rattle.records.specs.declared.given.CShape.{CShape}
use Rattle.records.specs.declared.given.CAxis.{CAxis}
use Rattle.records.specs.declared.given.CCutting.{CCutting}
use Rattle.records.specs.declared.given.CSettings.{CSettings}
use Rattle.records.specs.declared.given.CCourse.{CCourse}
use Rattle.records.specs.declared.given.CSizes.{CSizes}

abbrev pub shape_in : CShape → Shape
shape_in s = record { d = s.d; left = s.left; n = s.n; right = s.right }

abbrev pub axis_in : CAxis → Axis
axis_in x = record { a = x.a; b = x.b; xmin = x.xmin; xmax = x.xmax; boundary = x.boundary }

-- the first n records as a list that was lent; there is no record past the array, and a list of more is longer than any chain has axes
abbrev pub lent_of : ℕ → List CAxis → List Axis
lent_of n xs = tab n (axis_at (map axis_in xs))

abbrev pub cutting_in : CCutting → Cutting
cutting_in x = record { eps = x.eps; mode = x.mode }

abbrev pub settings_in : CSettings → Settings
settings_in x = record { tau = x.tau; c = x.c; cutting = cutting_in x.cutting }

abbrev pub course_in : CCourse → Course
course_in x = record { t_final = x.t_final; steps = x.steps; c = x.c; cutting = cutting_in x.cutting }

abbrev pub sizes_in : CSizes → Sizes
sizes_in x = record { rl = x.left; n = x.n; rr = x.right }
