-- The checks of a step by what code finds. Assumes nothing.
use mathlib.Core.Path.{◌≡◌, ap, ◌∙◌}
use Prim.Native.Nat.{ℕ, ◌≤◌, ◌<◌}
use native.Mathlib.Omega.{arith}
use mathlib.Core.Bool.{Bool, ◌&&◌}
use mathlib.Core.List.{List}
use lib.Ieee.{Float}
use Rattle.std.specs.Prelude.{Ok, Err, min}
use Rattle.answers.specs.declared.Refusal.TheVariants.{Number}
use Rattle.lists.specs.Lists.{first_not}
use Rattle.lists.specs.Floats.{all_finite}
use Rattle.lists.proofs.Asked.{place_wrong, places_right}
use Rattle.lists.proofs.Demands.{passing, both_left, both_right}
use Rattle.lists.proofs.Tests.{below_or_not}
use Rattle.shape.specs.declared.Shape.{Shape}
use Rattle.shape.specs.Shapes.{points_of}
use Rattle.shape.specs.Cores.{core_at}
use Rattle.cutform.specs.Asked.{core_finite}
use Rattle.stepform.specs.declared.Axis.{Axis}
use Rattle.stepform.specs.Axes.{axis_finite, axis_ok, axis_at}
use Rattle.stepform.specs.declared.Shift.{Shift}
use Rattle.stepform.specs.Shifts.{shift_of, reaches}
use Rattle.stepform.specs.declared.Settings.{Settings}
use Rattle.stepform.specs.Zones.{rules}
use Rattle.stepform.specs.Call.{reaches_at, axis_reaches, zones_finite}

-- i is the first core, j the first axis with a number that isn't finite, m the lesser of them
module _ (s : Shape) (xs : List Axis) (chain : List Float) (i j m : ℕ)
    (e : i ≡ first_not (λ (k : ℕ). all_finite (core_at s chain k).entries) s.d) (f : j ≡ first_not (λ (k : ℕ). axis_finite (axis_at xs k)) s.d) (g : m ≡ min i j) where
  abbrev zone_finite : ℕ → Bool
  zone_finite k = core_finite s chain k && axis_finite (axis_at xs k)

  least : m ≡ first_not zone_finite s.d
  unfolding core_finite
  least =
      below_or_not j i
      (λ l. let h : m ≡ j = omega arith in h ∙ both_right (core_finite s chain) (λ (k : ℕ). axis_finite (axis_at xs k)) s.d i j e f (omega arith))
      (λ l. let h : m ≡ i = omega arith in h ∙ both_left (core_finite s chain) (λ (k : ℕ). axis_finite (axis_at xs k)) s.d i j e f l)

  pub zone_wrong : m < s.d → Err (Number m) ≡ zones_finite s xs chain
  unfolding zones_finite
  zone_wrong l = place_wrong zone_finite s.d m least Number l

  pub zones_right : s.d ≤ m → Ok tt ≡ zones_finite s xs chain
  unfolding zones_finite
  zones_right l = places_right zone_finite s.d m least Number l

pub ruleset least_found = (zone_wrong, zones_right)

-- x is the record of axis k
module _ (xs : List Axis) (k : ℕ) (x : Axis) (b : Bool) (e : x ≡ axis_at xs k) where
  pub finite_found : b ≡ axis_finite x → b ≡ axis_finite (axis_at xs k)
  finite_found f = f ∙ ap axis_finite e

  pub ok_found : b ≡ axis_ok x → b ≡ axis_ok (axis_at xs k)
  ok_found f = f ∙ ap axis_ok e

pub ruleset axes_passing = (passing, finite_found, ok_found)

-- x is the record of axis k, y the shift of its core
pub reaches_found : (t : Settings) (s : Shape) (xs : List Axis) (k : ℕ) (x : Axis) (y : Shift) (b : Bool)
    → x ≡ axis_at xs k → y ≡ shift_of x t.tau (points_of s k) → b ≡ reaches y → b ≡ axis_reaches t s xs k
unfolding reaches_at rules
reaches_found t s xs k x y b e f g = g ∙ ap reaches f ∙ ap (λ (z : Axis). reaches (shift_of z t.tau (points_of s k))) e
