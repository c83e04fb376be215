-- A step of the zones from one on as memory has it, and what came of steps over a whole chain. Definitions for code only.
use Rattle.std.specs.Prelude.{◌≡◌, ℕ, ◌-◌, ◌≤◌, ◌<◌, true, List, length, Float, Ok}
use Rattle.answers.specs.Outcome.{Answer, bind, verdict_of}
use Rattle.lists.specs.Lists.{listed, tab}
use Rattle.shape.specs.declared.Shape.{Shape}
use Rattle.shape.specs.Limits.{most_axes, most_carries}
use Rattle.shape.specs.Shapes.{chain_ok, entries_of}
use Rattle.shape.specs.Sizes.{Inside}
use Rattle.shape.specs.Cores.{Core, standing, reshaped}
use Rattle.stepform.specs.declared.Axis.{Axis}
use Rattle.cutform.specs.declared.Bond.{Bond}
use Rattle.cuts.specs.declared.Walked.{Walked}
use Rattle.cutform.specs.Rounding.{cores_in, After, after_cuts}
use Rattle.cutform.specs.Keeping.{Stepped, keep_step, carry_left}
use Rattle.stepform.specs.declared.Settings.{Settings}
use Rattle.stepform.specs.Zones.{rules}
use Rattle.stepform.specs.Steps.{step_from, step}
use Rattle.stepform.specs.Call.{axis_reaches}
use Rattle.checks.specs.Over.{zone_in, Rooms}

-- the step of the zones from z on, of the chain of shape t that stands in the room of s: its shape at the end, and what is held then
unfoldable pub step_held : Settings → Shape → ℕ → List Axis → Shape → Stepped → Answer (Shape × Stepped)
step_held set s z xs t h =
    bind (step_from rules set s.d z (carry_left s t h z) (listed (s.d - z) z (zone_in s t xs h.chain)))
    (λ tr. Ok (reshaped z t (cores_in tr), keep_step s z tr h))

-- a is what was left of the chain: u is its shape at the end, w what stands in the room of s
pub record Ends (s t u : Shape) (bonds : List Bond) (w : List Float) (a : After) : Type 0 where
  pub shape : u ≡ reshaped 0 t a.cores
  pub inside : Inside s u
  pub cores : a.cores ≡ tab s.d (standing s u w)
  pub said : bonds ≡ a.bonds

-- o is what T, which began with a chain of shape t, came to
pub record Came (T : Answer After) (s t : Shape) (o : Answer Walked) (w : List Float) : Type 0 where
  pub verdict : verdict_of o ≡ verdict_of T
  pub ends : (a : After) (x : Walked) → T ≡ Ok a → o ≡ Ok x → Ends s t x.shape x.bonds w a

-- one step, by what it leaves
abbrev pub step_of : Settings → List Axis → List Core → Answer After
step_of set xs cs = bind (step set xs cs) (λ tr. Ok (after_cuts tr))

-- ---- what work in place asks
-- a chain of shape t stands in the room of s
pub record Placed (s t : Shape) (w : List Float) : Type 0 where
  pub inside : Inside s t
  pub lefts : length t.left ≡ most_axes
  pub rights : length t.right ≡ most_axes
  pub long : entries_of s ≤ length w

-- s is a chain's shape, every shift reaches, and there is room
pub record Ready (set : Settings) (s : Shape) (xs : List Axis) (carries room block : List Float) : Type 0 where
  pub ok : chain_ok s ≡ Ok tt
  pub reach : (k : ℕ) → k < s.d → axis_reaches set s xs k ≡ true
  pub carried : most_carries ≤ length carries
  pub rooms : Rooms room block
