-- The same for runs: a fresh one, and a replacement of one.
use mathlib.Core.Path.{◌≡◌, ap, ◌∙◌}
use mathlib.Core.List.{List}
use lib.Ieee.{Float}
use Rattle.shape.specs.declared.Shape.{Shape}
use Rattle.stepform.specs.declared.Axis.{Axis}
use Rattle.stepform.specs.declared.Settings.{Settings}
use Rattle.runform.specs.declared.Run.{Run}
use Rattle.runform.specs.declared.Ran.{Ran}
use Rattle.runform.specs.Slices.{Slices}
use Rattle.runform.specs.Call.{RunEnd}
use Rattle.records.specs.declared.held.CRan.{CRan}
use Rattle.records.specs.Held.{ran_out}
use Rattle.zones.specs.Ends.{RunsAs}

module _ (r : Ran) (m : Slices (List Float)) (w : List Float) (o : CRan) (b : o ≡ ran_out r) where
  abbrev end : RunEnd
  end = record { result = r; slices = m; scratch = w }

  -- e is what the call's definition gives of C's records
  ends : (e : RunEnd) → end ≡ e → RunsAs e o m w
  ends e h = record { result = b ∙ ap (λ (z : RunEnd). ran_out z.result) h; slices = ap (λ (z : RunEnd). z.slices) h; scratch = ap (λ (z : RunEnd). z.scratch) h }

  pub runs_as : (F : Shape → List Axis → Settings → RunEnd) (x y : Shape) (k l : List Axis) (t u : Settings) → x ≡ y → k ≡ l → t ≡ u
      → record { result = r; slices = m; scratch = w } ≡ F x k t → RunsAs (F y l u) o m w
  runs_as F x y k l t u e f g a = ends (F y l u) (a ∙ ap (λ z. F z k t) e ∙ ap (λ z. F y z t) f ∙ ap (λ z. F y l z) g)

  pub replaces_as : (F : Run → RunEnd) (k l : Run) → k ≡ l → record { result = r; slices = m; scratch = w } ≡ F k → RunsAs (F l) o m w
  replaces_as F k l e a = ends (F l) (a ∙ ap F e)

  pub axis_replaced_as : (F : Run → Axis → RunEnd) (k l : Run) (p q : Axis) → k ≡ l → p ≡ q → record { result = r; slices = m; scratch = w } ≡ F k p → RunsAs (F l q) o m w
  axis_replaced_as F k l p q e g a = ends (F l q) (a ∙ ap (λ z. F z p) e ∙ ap (λ z. F l z) g)
