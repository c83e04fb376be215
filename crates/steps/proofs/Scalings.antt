-- The scaling of core 0 in place, which leaves every other zone as it is. Assumes nothing.
use mathlib.Core.Path.{◌≡◌, refl, sym, ap, ◌∙◌}
use Prim.Native.Nat.{ℕ, zero, suc, ◌-◌, ◌≤◌}
use native.Mathlib.Nat.{le_refl}
use native.Mathlib.Omega.{arith}
use mathlib.Core.List.{List, ◌∷◌}
use lib.ListN.{take}
use lib.Ieee.{Float}
use Rattle.std.specs.Prelude.{Ok, Err, Result}
use Rattle.answers.specs.Outcome.{bind, answered, Check}
use Rattle.answers.proofs.Outcomes.{answered_ok}
use Rattle.lists.specs.Lists.{listed}
use Rattle.lists.specs.Slots.{slot}
use Rattle.lists.specs.Walks.{every}
use Rattle.lists.proofs.Tables.{listed_same}
use Rattle.shape.specs.declared.Shape.{Shape}
use Rattle.shape.specs.Shapes.{left_of, points_of, right_of, core_size}
use Rattle.shape.specs.Cores.{Core, core_with, standing}
use Rattle.stepform.specs.declared.Settings.{Settings}
use Rattle.stepform.specs.Zones.{rules}
use Rattle.stepform.specs.Steps.{scale_zone}
use Rattle.checks.specs.Over.{Onward, Elsewhere, stand_from}

-- a core stands as its slot does
pub stand_same : (s t : Shape) (w v : List Float) (j : ℕ) → slot (core_size s) j v ≡ slot (core_size s) j w → standing s t v j ≡ standing s t w j
unfolding standing
stand_same s t w v j e = ap (λ (l : List Float). core_with (left_of t j) (points_of t j) (right_of t j) (take (core_size t j) l)) e

pub onward_none : (s : Shape) (z : ℕ) (w : List Float) → Onward s z w w
onward_none s z w = record { front = refl; behind = refl }

-- a pass that leaves each zone as it is
pub every_kept : {E X : Type 0} (f : ℕ → X → Result X E) (x : ℕ → X) (m k : ℕ) → ((j : ℕ) → k ≤ j → f j (x j) ≡ Ok (x j)) → every f k (listed m k x) ≡ Ok (listed m k x)
unfolding every listed
every_kept f x zero k h = refl
every_kept f x (suc m) k h = rw (h k (le_refl k), every_kept f x m (suc k) (λ j l. h j (omega arith)))

-- ---- the scaling
module _ (s t : Shape) (set : Settings) (w : List Float) where
  -- no zone but the first is scaled
  later : (x : ℕ → Core) (j : ℕ) → 1 ≤ j → scale_zone rules set j (x j) ≡ Ok (x j)
  unfolding scale_zone
  later x zero l = let n : ⊥ = omega arith in absurd n
  later x (suc j) l = refl

  pub none_scaled : (z : ℕ) → ¬ (z ≡ 0) → every (scale_zone rules set) z (stand_from s t z w) ≡ answered (Ok tt) (stand_from s t z w)
  none_scaled z n = every_kept (scale_zone rules set) (standing s t w) (s.d - z) z (λ j l. later (standing s t w) j (omega arith)) ∙ sym (answered_ok (stand_from s t z w))

  -- core 0 has become that of v
  pub first_scaled : (z : ℕ) → z ≡ 0 → 1 ≤ s.d → (v : List Float) (r : Check) → scale_zone rules set 0 (standing s t w 0) ≡ answered r (standing s t v 0) → Elsewhere s 0 w v
      → every (scale_zone rules set) z (stand_from s t z w) ≡ answered r (stand_from s t z v)
  unfolding every listed answered
  first_scaled z e least v r h E =
      let m : s.d - 0 ≡ suc (s.d - 1) = omega arith in
      let tail : listed (s.d - 1) 1 (standing s t w) ≡ listed (s.d - 1) 1 (standing s t v) =
      listed_same (s.d - 1) 1 (standing s t w) (standing s t v) (λ j p q. sym (stand_same s t w v j (E.others j (omega arith) (λ n. omega arith)))) in
      rw (e, m, h, every_kept (scale_zone rules set) (standing s t w) (s.d - 1) 1 (λ j l. later (standing s t w) j l), tail) (go r)
    where
      go : (r : Check) → bind (answered r (standing s t v 0)) (λ y. Ok (y ∷ listed (s.d - 1) 1 (standing s t v))) ≡ answered r (standing s t v 0 ∷ listed (s.d - 1) 1 (standing s t v))
      go (Ok _) = refl
      go (Err q) = refl
