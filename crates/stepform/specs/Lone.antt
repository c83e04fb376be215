-- What 6 and 7 ask of the lone settings: of a step, which a run makes too, and of steps one after another. Definitions only.
use Rattle.std.specs.Prelude.{ℕ, Bool, ◌&&◌, Float}
use Rattle.numbers.specs.Finite.{finite}
use Rattle.shape.specs.Limits.{within}
use Rattle.cutform.specs.Call.{not_below_zero, cutting_finite, cutting_ok}
use Rattle.cutform.specs.declared.Cutting.{Cutting}
use Rattle.stepform.specs.declared.Settings.{Settings}

-- ---- of a step
unfoldable pub lone_finite : Settings → Bool
lone_finite t = finite t.tau && (finite t.c && cutting_finite t.cutting)

unfoldable pub lone_ok : Settings → Bool
lone_ok t = not_below_zero t.tau && cutting_ok t.cutting

-- ---- of a course: how far, in how many steps
abbrev pub most_steps : ℕ
most_steps = 10000

unfoldable pub course_finite : Float → Float → Cutting → Bool
course_finite final c cutting = finite final && (finite c && cutting_finite cutting)

unfoldable pub course_ok : Float → ℕ → Cutting → Bool
course_ok final steps cutting = not_below_zero final && (within most_steps steps && cutting_ok cutting)
