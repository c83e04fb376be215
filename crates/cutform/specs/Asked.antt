-- What every call over a chain asks before it works, and all that `tt_round` asks. Definitions only.
use Rattle.std.specs.Prelude.{ℕ, Bool, not, ◌&&◌, List, eqb, length, Float}
use Rattle.std.specs.Float.Ieee.{lt}
use Rattle.numbers.specs.Arithmetic.{zero64}
use Rattle.numbers.specs.Finite.{finite}
use Rattle.answers.specs.declared.Refusal.TheVariants.{Length, Number, Setting}
use Rattle.answers.specs.Outcome.{Check, ◌then◌, demand, demand_each}
use Rattle.lists.specs.Floats.{all_finite}
use Rattle.shape.specs.declared.Shape.{Shape}
use Rattle.shape.specs.Limits.{scratch_for}
use Rattle.shape.specs.Shapes.{chain_ok, entries_of}
use Rattle.shape.specs.Cores.{core_at}
use Rattle.cutform.specs.declared.Cutting.{Cutting}
use Rattle.cutform.specs.Modes.{mode_ok}

-- 5: the chain has exactly N numbers, scratch exactly 4N + 2,048; the chain is slice i, scratch slice j
unfoldable pub lengths_ok : Shape → ℕ → ℕ → ℕ → ℕ → Check
lengths_ok s i chain j scratch = demand (eqb chain (entries_of s)) (Length i) then demand (eqb scratch (scratch_for (entries_of s))) (Length j)

-- 6: core k's numbers are finite
unfoldable pub core_finite : Shape → List Float → ℕ → Bool
core_finite s l k = all_finite (core_at s l k).entries

-- 6 and 7 of a lone setting
unfoldable pub not_below_zero : Float → Bool
not_below_zero x = not (lt x zero64)

-- 6 and 7 of how a cut is made
unfoldable pub cutting_finite : Cutting → Bool
cutting_finite cutting = finite cutting.eps

unfoldable pub cutting_ok : Cutting → Bool
cutting_ok cutting = not_below_zero cutting.eps && mode_ok cutting.mode

-- 6: how it is cut, then the cores
unfoldable pub round_finite : Shape → Cutting → List Float → Check
round_finite s cutting chain = demand (cutting_finite cutting) (Number 0) then demand_each Number (core_finite s chain) s.d 0

-- scratch by its length alone
unfoldable pub round_ok : Shape → Cutting → List Float → ℕ → Check
round_ok s cutting chain scratch =
    chain_ok s
    then lengths_ok s 0 (length chain) 1 scratch
    then round_finite s cutting chain
    then demand (cutting_ok cutting) (Setting 0)
