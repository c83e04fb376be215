-- The shift of one core along its axis, and the scaling of core 0 (001: `step`). Definitions only.
use Rattle.std.specs.Prelude.{ℕ, ◌-◌, Bool, true, ◌||◌, List, map, leb, pos, Float, Ok}
use Rattle.std.specs.Float.{binary64}
use Rattle.std.specs.Float.Ieee.{neg, le, eq, of_int}
use Rattle.numbers.specs.Arithmetic.{plus, minus, times, over, zero64, one64, two64}
use Rattle.numbers.specs.Root.{root_of}
use Rattle.numbers.specs.Whole.{whole_of, fraction_of, in_reach}
use Rattle.answers.specs.declared.Part.TheVariants.{Entry}
use Rattle.answers.specs.Outcome.{Answer, making}
use Rattle.lists.specs.Lists.{pick}
use Rattle.lists.specs.Floats.{stored}
use Rattle.shape.specs.Cores.{Core, entry, block}
use Rattle.stepform.specs.declared.Axis.{Axis}
use Rattle.stepform.specs.declared.Shift.{Shift}
use Rattle.stepform.specs.declared.Shift.TheVariants.{Stay, By}
use Rattle.stepform.specs.Boundaries.{wrapped}
use Rattle.stepform.specs.Weights.{cubic_band_weights, shifted_at}

-- h = 2*sqrt(a*tau) + b*tau
unfoldable pub distance : Axis → Float → Float
distance x tau = plus (times two64 (root_of (times x.a tau))) (times x.b tau)

-- dx = (xmax - xmin)/(n - 1), or 1 where n = 1
unfoldable pub spacing : Axis → ℕ → Float
spacing x n = pick (leb n 1) one64 (over (minus x.xmax x.xmin) (of_int binary64 (pos (n - 1))))

-- if dx <= 0 or h = 0 the core stays; else the ratio is h/dx, along an axis of its boundary
unfoldable pub shift_of : Axis → Float → ℕ → Shift
shift_of x tau n =
    let h = distance x tau in
    let dx = spacing x n in
    pick (le dx zero64 || eq h zero64) Stay (By (over h dx) x.boundary)

-- refusal 8 spares a core that stays, and a ratio of at most 2^31 in size
abbrev pub reaches : Shift → Bool
reaches Stay = true
reaches (By ratio boundary) = in_reach ratio

-- every entry anew: s0 and the fraction of the ratio, and of minus the ratio
unfoldable pub shifted : Core → Float → ℕ → List Float
shifted c ratio boundary =
    let w = wrapped boundary c.n in
    let forward = cubic_band_weights (fraction_of ratio) in
    let backward = cubic_band_weights (fraction_of (neg ratio)) in
    block c.rl c.n c.rr (λ (il im ir : ℕ). shifted_at w forward (whole_of ratio) backward (whole_of (neg ratio)) (λ (i : ℕ). entry c il i ir) im)

-- core k along its axis; one that stays is not made
abbrev pub move_core : ℕ → Shift → Core → Answer (List Float)
move_core k Stay c = Ok c.entries
move_core k (By ratio boundary) c = making Entry k (stored (shifted c ratio boundary))

-- core 0 multiplied by 1 + tau*c
unfoldable pub scaled : Float → Float → List Float → Answer (List Float)
scaled tau c l = making Entry 0 (stored (map (λ (v : Float). times v (plus one64 (times tau c))) l))
