-- What the calls of a kept run leave, as a plan by value, and when a plan keeps what a fresh run does. Definitions only.
use Rattle.std.specs.Prelude.{◌≡◌, ℕ, List, Float, Ok}
use Rattle.lists.specs.Floats.{zeros}
use Rattle.shape.specs.Limits.{scratch_for}
use Rattle.stepform.specs.declared.Axis.{Axis}
use Rattle.runform.specs.Slices.{Slices, slices}
use Rattle.runform.specs.Call.{RunEnd, fresh_call, replace_core_call, replace_weights_call, replace_axis_call}
use Rattle.comparing.specs.Same.{SameKept}
use Rattle.plan.specs.declared.plans.Plan.{Plan}
use Rattle.plan.specs.declared.plans.Answer.{Answer}

-- the scratch of a call
abbrev pub scratch : List Float
scratch = zeros (scratch_for 86)

-- the slices of a plan's run
abbrev pub lent : Plan → Slices (List Float)
lent p = slices p.source p.weights p.chain p.carries p.sums

abbrev pub fresh_end : Plan → RunEnd
fresh_end p = fresh_call p.run.shape p.run.axes p.run.set (lent p) scratch

abbrev pub core_end : Plan → ℕ → List Float → RunEnd
core_end p z part = replace_core_call p.run z (lent p) part scratch

abbrev pub weights_end : Plan → ℕ → List Float → RunEnd
weights_end p z part = replace_weights_call p.run z (lent p) part scratch

abbrev pub axis_end : Plan → ℕ → Axis → RunEnd
axis_end p z x = replace_axis_call p.run z x (lent p) scratch

-- what is answered of a call's end
unfoldable pub answer_of : RunEnd → Answer
answer_of e =
    let m = e.slices in
    record {
      verdict = e.result.verdict;
      plan = record {
        run = e.result.run;
        source = m.source;
        weights = m.weights;
        chain = m.outputs.chain;
        carries = m.outputs.carries;
        sums = m.outputs.sums;
      };
    }

-- two plans keep the same
abbrev pub SamePlans : Plan → Plan → Type 0
SamePlans p q = SameKept p.run q.run (lent p).outputs (lent q).outputs

-- a fresh run is accepted, and leaves a plan that keeps what p keeps
pub record FreshIs (p : Plan) (fresh : Answer) : Type 0 where
  pub accepted : fresh.verdict ≡ (Ok tt)
  pub kept : SamePlans p fresh.plan

abbrev pub AsFresh : Plan → Type 0
AsFresh p = FreshIs p (answer_of (fresh_end p))
