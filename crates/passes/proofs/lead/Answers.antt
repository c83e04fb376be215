-- `passes::lead`: two pairs of row p, and a plan for the first of row p + 1 (step_first).
use Prim.Native.Nat.{◌-◌}
use Prim.Native.Nat.{ℕ, ◌+◌}
use mathlib.Core.Path.{◌≡◌, ◌∙◌, ap}
use native.Mathlib.Omega.{arith}
use Rattle.passes.specs.Free.{rotate_free}
use Rattle.passes.proofs.Spun.{none_told}
use Rattle.passes.proofs.InStep.{step_first}
use Rattle.passes.proofs.lead.Goals as goal

pub step-first-requires : goal.step-first-requires
step-first-requires c = let p : ℕ = c.args.p in
    let z : p + 1 + 1 ≡ p + 2 = omega arith in
    (c.step-two.ensures.beside.0, omega arith, c.requires.1, rw z at (c.step-two.ensures.beside.1 (omega (arith, c.requires.1))))

pub overflow_add-p-4 : goal.overflow_add-p-4
overflow_add-p-4 c = record { fits = omega (arith, c.requires.1, c.ranges.n) }

pub overflow_add-p-5 : goal.overflow_add-p-5
overflow_add-p-5 c = record { fits = omega (arith, c.requires.1, c.ranges.n) }

pub plan_at-second-requires : goal.plan_at-second-requires
plan_at-second-requires c = (c.step-first.ensures.beside.0.squared, omega (arith, c.requires.1), c.requires.1)

pub returns : goal.returns
returns c = let p : ℕ = c.args.p in
    let three : p + 2 + 1 ≡ p + 3 = omega arith in
    let last : p + 3 - 1 ≡ p + 2 = omega arith in record {
      quiet_after = rw (none_told _ _ c.is_none.ensures, none_told _ _ c.is_none-2.ensures) (step_first _ _ _ _ _ (c.step-first.ensures.b_after _ ∙ ap (rotate_free _ _ _ _) (c.step-two.ensures.b_after _)));
      paced = (
        record {
          squared = c.step-first.ensures.beside.0.squared;
          ahead = λ h. rw three at (c.step-first.ensures.beside.1 (omega (arith, h)));
          behind = rw last c.plan_at-second.ensures;
        },
        c.step-first.ensures.beside.0.wide,
      );
    }
