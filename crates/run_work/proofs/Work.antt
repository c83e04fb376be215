-- The step, then the sums: a run's work by what its two parts came to. Assumes nothing.
use mathlib.Core.Path.{◌≡◌, refl, ap, ◌∙◌}
use Prim.Native.Nat.{ℕ, suc, ◌≤◌, ◌<◌}
use mathlib.Core.Bool.{Bool, true, false, cond}
use mathlib.Core.List.{List}
use lib.Dec.{ltb}
use lib.ListN.{length}
use lib.Ieee.{Float}
use Rattle.answers.specs.declared.Refusal.{Refusal}
use Rattle.std.specs.Prelude.{Ok, Err}
use Rattle.answers.specs.Outcome.{Answer, bind, answered, outcome_of, Check}
use Rattle.lists.proofs.Tests.{leb_yes, ltb_is, and_yes}
use Rattle.shape.specs.declared.Shape.{Shape}
use Rattle.shape.specs.Limits.{most_axes, within}
use Rattle.shape.specs.Shapes.{right_of, chain_ok, shape_ok, entries_of}
use Rattle.shape.proofs.Shaped.{shaped, shape_same}
use Rattle.cuts.specs.declared.Walked.{Walked}
use Rattle.cutform.specs.declared.Bond.{Bond}
use Rattle.cutform.specs.Keeping.{rank_among, Stepped}
use Rattle.cuts.specs.Slots.{held_by}
use Rattle.sumform.specs.Sums.{sums_from}
use Rattle.product.specs.Lent.{SumsStand}
use Rattle.stepform.specs.Zones.{rules}
use Rattle.run_work.specs.Ranked.{Ranked}
use Rattle.run_work.proofs.Ranked.{ranked_inside}
use Rattle.runform.specs.Kept.{Inputs, Summed, running}
use Rattle.runform.specs.Checks.{rank_ok}
use Rattle.runform.specs.Work.{restep, resum, sum_from, work_from}
use Rattle.run_work.proofs.Resums.{resum_is}
use Rattle.run_work.specs.InPlace.{summed_in, held_in, RanksWithin, Sums}

pub few_axes : (s : Shape) → chain_ok s ≡ Ok tt → s.d ≤ most_axes
few_axes s ok = (shaped s (λ (k : ℕ). true) ok).most

-- ---- a chain with such ranks stands in the room of its source
module _ (s : Shape) (ok : chain_ok s ≡ Ok tt) (bonds : List Bond) (R : RanksWithin s bonds s.d) where
  rank_passes : (k : ℕ) → k < s.d → rank_ok s bonds k ≡ true
  unfolding rank_ok
  rank_passes k l = go (ltb (suc k) s.d) refl
    where
      go : (b : Bool) → ltb (suc k) s.d ≡ b → cond b (within (right_of s k) (rank_among bonds k)) true ≡ true
      go true e = let r = R k l (ltb_is (suc k) s.d e) in and_yes _ _ (leb_yes 1 (rank_among bonds k) r.0) (leb_yes (rank_among bonds k) (right_of s k) r.1)
      go false e = refl

  pub ranks_pass : shape_ok s (rank_ok s bonds) ≡ Ok tt
  ranks_pass = shape_same s (rank_ok s bonds) (λ (k : ℕ). true) rank_passes ∙ ok

  pub sums_stand : (t : Shape) → Ranked s bonds t s.d → (work weights sums : List Float) → Sums s weights sums → entries_of s ≤ length work → SumsStand s t work weights
  sums_stand t Q work weights sums S l = record { within = (shaped s (λ (k : ℕ). true) ok).sizes; inside = ranked_inside s bonds ranks_pass t Q; cores = l; points = S.points }

-- ---- both
module _ (i : Inputs) (h : Stepped) (z : ℕ) (u : Summed) where
  pub work_stops : (q : Refusal) → restep rules i h z ≡ Err q → work_from rules (running i h u) z ≡ Err q
  unfolding work_from sum_from
  work_stops q e = ap (λ (o : Answer Stepped). bind o (λ t. sum_from rules (running i t u) z)) e

  module _ (h' : Stepped) (e : restep rules i h z ≡ Ok h') where
    work_opened : work_from rules (running i h u) z ≡ bind (resum rules i h' u z) (λ x. Ok (running i h' x))
    unfolding work_from sum_from
    work_opened = ap (λ (o : Answer Stepped). bind o (λ t. sum_from rules (running i t u) z)) e

    module _ (inside : z < i.shape.d) (t : Shape) (Q : Ranked i.shape h'.bonds t i.shape.d) (r : Check) (sums : List Float)
        (g : sums_from i.shape t h'.chain i.weights z u.sums ≡ answered r sums) where
      work_goes : work_from rules (running i h u) z ≡ answered r (running i h' (summed_in i.shape sums))
      unfolding answered
      work_goes =
          work_opened
          ∙ ap (λ (o : Answer Summed). bind o (λ x. Ok (running i h' x))) (resum_is i h' t Q u z inside ∙ ap (λ (o : Answer (List Float)). bind o (λ l. Ok (summed_in i.shape l))) g)
          ∙ twice r
        where
          twice : (r : Check) → bind (bind (answered r sums) (λ l. Ok (summed_in i.shape l))) (λ x. Ok (running i h' x)) ≡ answered r (running i h' (summed_in i.shape sums))
          twice (Ok _) = refl
          twice (Err q) = refl

-- ---- the step came to w, and r is the verdict on the sums
module _ (i : Inputs) (h : Stepped) (z : ℕ) (o : Answer Walked) (work carries sums : List Float) (e : restep rules i h z ≡ outcome_of o (λ (x : Walked). held_by x work carries)) where
  pub work_refused : (q : Refusal) → o ≡ Err q → work_from rules (running i h (summed_in i.shape sums)) z ≡ Err q
  unfolding outcome_of
  work_refused q f = work_stops i h z (summed_in i.shape sums) q (e ∙ rw f)

  module _ (w : Walked) (f : o ≡ Ok w) (inside : z < i.shape.d) (t : Shape) (Q : Ranked i.shape w.bonds t i.shape.d) (r : Check) (sums' : List Float)
      (g : sums_from i.shape t work i.weights z sums ≡ answered r sums') where
    work_judged : work_from rules (running i h (summed_in i.shape sums)) z ≡ answered r (held_in i w work carries sums')
    unfolding outcome_of
    work_judged = work_goes i h z (summed_in i.shape sums) (held_by w work carries) (e ∙ rw f) inside t Q r sums' g

    pub sums_refused : (q : Refusal) → r ≡ Err q → work_from rules (running i h (summed_in i.shape sums)) z ≡ Err q
    unfolding answered
    sums_refused q k = work_judged ∙ rw k

    pub work_done : r ≡ Ok tt → work_from rules (running i h (summed_in i.shape sums)) z ≡ Ok (held_in i w work carries sums')
    unfolding answered
    work_done k = work_judged ∙ rw k
