-- What is asked of an axis record, and the records of a list. Definitions only.
use Rattle.std.specs.Prelude.{ℕ, Bool, not, ◌&&◌, List, get_or, replicate}
use Rattle.std.specs.Float.Ieee.{lt}
use Rattle.numbers.specs.Arithmetic.{zero64}
use Rattle.numbers.specs.Finite.{finite}
use Rattle.lists.specs.Lists.{tab}
use Rattle.shape.specs.Limits.{most_axes}
use Rattle.stepform.specs.declared.Axis.{Axis}
use Rattle.stepform.specs.Boundaries.{periodic, boundary_ok}

-- refusal 6 of an axis
unfoldable pub axis_finite : Axis → Bool
axis_finite x = finite x.a && (finite x.b && (finite x.xmin && finite x.xmax))

-- refusal 7 of an axis: a is not below zero, and its boundary is known
unfoldable pub axis_ok : Axis → Bool
axis_ok x = not (lt x.a zero64) && boundary_ok x.boundary

-- ---- a list of records, one per axis
abbrev pub blank : Axis
blank = record { a = zero64; b = zero64; xmin = zero64; xmax = zero64; boundary = periodic }

-- axis k's record; one beyond the list is blank
abbrev pub axis_at : List Axis → ℕ → Axis
axis_at xs k = get_or xs k blank

-- as many blanks as a chain can have axes
abbrev pub blanks : List Axis
blanks = replicate most_axes blank

-- the records of as many axes as a chain can have
unfoldable pub gathered : List Axis → List Axis
gathered xs = tab most_axes (axis_at xs)
