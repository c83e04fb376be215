-- The sums from zone z on of a run are those that `product::sums` makes over the chain in its room. Assumes nothing.
use Rattle.std.specs.Prelude.{Ok}
use mathlib.Core.Path.{◌≡◌, refl, sym, ap, ◌∙◌}
use Prim.Native.Nat.{ℕ, zero, suc, ◌-◌, ◌<◌}
use native.Mathlib.Omega.{arith}
use mathlib.Core.List.{List, map}
use lib.ListN.{get_or, take}
use lib.Ieee.{Float}
use Rattle.numbers.specs.Arithmetic.{zero64}
use Rattle.answers.specs.Outcome.{Answer, bind}
use Rattle.answers.proofs.Outcomes.{bind_assoc}
use Rattle.lists.specs.Lists.{listed}
use Rattle.lists.specs.Slots.{offset, slot, write}
use Rattle.lists.specs.Walks.{walk}
use Rattle.lists.specs.Floats.{at}
use Rattle.lists.proofs.Tables.{listed_same}
use Rattle.shape.specs.declared.Shape.{Shape}
use Rattle.shape.specs.Shapes.{left_of, points_of, core_size}
use Rattle.shape.specs.Cores.{Core, points_at, standing}
use Rattle.cutform.specs.Keeping.{Stepped}
use Rattle.sumform.specs.Product.{sum_axis}
use Rattle.sumform.specs.Sums.{sum_size, sums_left, weighed_in, sums_from}
use Rattle.stepform.specs.Zones.{rules}
use Rattle.runform.specs.Kept.{Inputs, Summed, held_core, kept_core, sums_at, weighed_at, weighed_from}
use Rattle.runform.specs.Work.{keep_sums, sum_zone, resum}
use Rattle.runform.proofs.KeptRanks.{right_bond}
use Rattle.run_work.specs.Ranked.{Ranked}

-- a chain of the kept shape t stands where the run keeps it
core_kept : (s : Shape) (h : Stepped) (t : Shape) → Ranked s h.bonds t s.d → (k : ℕ) → k < s.d → standing s t h.chain k ≡ kept_core s h k
unfolding standing held_core core_size
core_kept s h t R k lt =
    let a = R.left k lt in
    let b = R.right k lt in
    let c : points_of t k ≡ points_of s k = ap (λ (x : List ℕ). get_or x k 0) R.points in
    cc (a, b, c)

module _ (i : Inputs) (h : Stepped) (t : Shape) (R : Ranked i.shape h.bonds t i.shape.d) where
  abbrev s : Shape
  s = i.shape

  -- what is held on the left
  left_sums : (u : Summed) (z : ℕ) → z < s.d → sums_at s h u z ≡ sums_left s (left_of t z) u.sums z
  unfolding sums_at sums_left
  left_sums u zero l = refl
  left_sums u (suc z) l = ap (λ (n : ℕ). take n (slot (sum_size s) z u.sums)) (sym (right_bond s h.bonds z (omega arith)) ∙ sym (R.left (suc z) l))

  pairs_same : (z : ℕ) → weighed_from i h z ≡ listed (s.d - z) z (weighed_in s t h.chain i.weights)
  unfolding weighed_at weighed_in
  pairs_same z = listed_same (s.d - z) z (weighed_at i h) (weighed_in s t h.chain i.weights) (λ j a b. ap (λ (c : Core). (c, points_at s i.weights j)) (sym (core_kept s h t R j (omega arith))))

  pub resum_is : (u : Summed) (z : ℕ) → z < s.d
      → resum rules i h u z ≡ bind (sums_from s t h.chain i.weights z u.sums) (λ l. Ok (record { sums = l; figure = at l (offset (sum_size s) (s.d - 1)) }))
  unfolding resum sums_from keep_sums sum_zone sum_axis rules
  resum_is u z l =
      let W : Answer (List (List Float × Unit {0})) = walk sum_axis z (sums_left s (left_of t z) u.sums z) (listed (s.d - z) z (weighed_in s t h.chain i.weights)) in
      ap (λ (e : List Float). bind (walk sum_axis z e (weighed_from i h z)) (λ tr. Ok (keep_sums s z tr u))) (left_sums u z l)
      ∙ ap (λ (ps : List (Core × List Float)). bind (walk sum_axis z (sums_left s (left_of t z) u.sums z) ps) (λ tr. Ok (keep_sums s z tr u))) (pairs_same z)
      ∙ sym (bind_assoc W (λ tr. Ok (write (sum_size s) zero64 s.d z (map (λ (r : List Float × Unit {0}). r.0) tr) u.sums)) (λ l. Ok (record { sums = l; figure = at l (offset (sum_size s) (s.d - 1)) })))
