-- What the parts of a step ask of each other is met. Assumes nothing.
use mathlib.Core.Path.{◌≡◌, refl, sym, subst}
use Prim.Native.Nat.{ℕ, ◌≤◌, ◌<◌}
use native.Mathlib.Omega.{arith}
use mathlib.Core.Bool.{true}
use mathlib.Core.List.{List}
use lib.ListN.{length}
use lib.Ieee.{Float}
use Rattle.answers.specs.Outcome.{Answer, outcome_of}
use Rattle.lists.specs.Lists.{tab}
use Rattle.shape.specs.declared.Shape.{Shape}
use Rattle.shape.specs.Sizes.{Inside}
use Rattle.shape.specs.Cores.{standing}
use Rattle.shape.proofs.Shaped.{Shaped, shaped}
use Rattle.stepform.specs.declared.Axis.{Axis}
use Rattle.std.specs.Result.{IfOk}
use Rattle.cuts.specs.declared.Walked.{Walked}
use Rattle.cutform.specs.Keeping.{Stepped}
use Rattle.cuts.specs.Slots.{unrounded, AtZone, held_by}
use Rattle.cuts.proofs.From.{at_start}
use Rattle.cutform.proofs.BondSlots.{carries_most}
use Rattle.stepform.specs.declared.Settings.{Settings}
use Rattle.stepform.specs.Call.{axis_reaches}
use Rattle.checks.specs.Over.{Stands, Rooms}
use Rattle.steps.specs.Held.{step_held, step_of, Came, Placed, Ready}
use Rattle.steps.proofs.Steps.{with, came_of}

-- memory stands at a zone as long as the chain's room stays
pub at_again : (s : Shape) (z k : ℕ) (t : Shape) (h : Stepped) (v : List Float) → AtZone s z k t h → length v ≡ length h.chain → AtZone s z k t (with h v)
at_again s z k t h v A e = record {
  source = A.source;
  sizes = A.sizes;
  axes = A.axes;
  points = A.points;
  left = A.left;
  right = A.right;
  joins = A.joins;
  first = A.first;
  last = A.last;
  rank = A.rank;
  behind = A.behind;
  seam = A.seam;
  lefts = A.lefts;
  rights = A.rights;
  bonds = A.bonds;
  chain = omega (arith, A.chain);
  carries = A.carries;
}

-- ---- a whole chain, before any rank is held
module _ (set : Settings) (s t : Shape) (xs : List Axis) (work carries room block : List Float) (R : Ready set s xs carries room block) (P : Placed s t work) where
  chain : Shaped s
  chain = shaped s (λ (k : ℕ). true) R.ok

  at_first : AtZone s 0 0 t (held_by (unrounded t) work carries)
  at_first = at_start s t (held_by (unrounded t) work carries) chain.joins P.inside chain.least P.lefts P.rights refl P.long (omega (arith, carries_most s chain.sizes s.d (omega arith), R.carried))

  module _ (w : Walked) (e : w ≡ unrounded t) where
    pub one_asks : ((Stands s w.shape work) × (Rooms room block)) × (((0 ≤ s.d) × ((k : ℕ) → 0 ≤ k → k < s.d → axis_reaches set s xs k ≡ true)) × AtZone s 0 0 w.shape (held_by w work carries))
    one_asks = subst (λ (x : Walked). ((Stands s x.shape work) × (Rooms room block)) × (((0 ≤ s.d) × ((k : ℕ) → 0 ≤ k → k < s.d → axis_reaches set s xs k ≡ true)) × AtZone s 0 0 x.shape (held_by x work carries))) (sym e)
        ((record { inside = P.inside; within = chain.sizes; long = P.long }, R.rooms), ((omega arith, λ k a b. R.reach k b), at_first))

    pub one_came : (o : Answer Walked) (work' carries' : List Float) → step_held set s 0 xs w.shape (held_by w work carries) ≡ outcome_of o (λ (x : Walked). (x.shape, held_by x work' carries'))
        → (◌≡◌ {A = ℕ} 0 0 → IfOk o (λ (x : Walked). Inside s x.shape))
        → Came (step_of set xs (tab s.d (standing s t work))) s t o work'
    one_came o work' carries' f g =
        came_of set s t xs (held_by (unrounded t) work carries) P.inside P.long P.lefts P.rights refl o work' carries'
        (subst (λ (x : Walked). step_held set s 0 xs x.shape (held_by x work carries) ≡ outcome_of o (λ (y : Walked). (y.shape, held_by y work' carries'))) e f) (g refl)
