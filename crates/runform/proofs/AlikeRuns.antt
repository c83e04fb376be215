-- Two runs that agree in used room: the checks of a replacement pass or fail alike, and a step from zone z on leaves runs that agree again. Assumes nothing of the rules.
use Rattle.std.specs.Prelude.{Ok, Err}
use mathlib.Core.Path.{◌≡◌, refl, sym, ap, ◌∙◌}
use Prim.Native.Nat.{ℕ, zero, suc, ◌+◌, ◌*◌, ◌≤◌, ◌<◌}
use native.Mathlib.Omega.{arith}
use mathlib.Core.Bool.{Bool, true, false, cond, ◌&&◌}
use mathlib.Core.List.{List, map}
use lib.Dec.{ltb, eqb}
use lib.ListN.{length, take, length-map}
use lib.Ieee.{Float}
use Rattle.numbers.specs.Arithmetic.{zero64}
use Rattle.numbers.specs.Finite.{finite}
use Rattle.answers.specs.declared.Refusal.TheVariants.{Zone, Length, Number}
use Rattle.answers.specs.Outcome.{Answer, Check, ◌then◌, demand}
use Rattle.answers.proofs.Checks.{then_on, each_same}
use Rattle.lists.specs.Slots.{slot}
use Rattle.lists.specs.Lists.{pick}
use Rattle.lists.specs.Floats.{all_finite}
use Rattle.lists.proofs.Tests.{ltb_is, below_or_not}
use Rattle.lists.proofs.Slots.{write_alike}
use Rattle.lists.proofs.Written.{written_from}
use Rattle.shape.specs.declared.Shape.{Shape}
use Rattle.shape.specs.Limits.{within}
use Rattle.shape.specs.Shapes.{points_of, right_of, core_size}
use Rattle.shape.specs.Cores.{Core, core_with}
use Rattle.shape.proofs.Shaped.{shape_same}
use Rattle.cutform.specs.declared.Bond.{Bond}
use Rattle.cutform.specs.Bonds.{no_bond, past_bond}
use Rattle.cutform.specs.Rounding.{Carry, Cut, numbers_in}
use Rattle.stepform.specs.Zones.{Rules}
use Rattle.runform.specs.Slices.{slice_count}
use Rattle.runform.specs.Kept.{Inputs, Summed, Kept, running, left_rank, right_rank, kept_core, kept_carry, kept_sums, lengths_of, held_core}
use Rattle.cutform.specs.Keeping.{Stepped, bond_size, carry_size, bond_among, dropped_among, rank_at, keep_step}
use Rattle.stepform.specs.Lone.{lone_finite}
use Rattle.runform.specs.Checks.{rank_ok, slices_lent, zone_finite, core_held, carry_held, sums_held, dropped_held, held_finite, kept_finite}
use Rattle.runform.specs.Requests.{Request, zone_of, part_fits, new_finite, found_ok, found_numbers, numbers_ok, replace_ok}
use Rattle.cutform.proofs.BondSlots.{bond_at}
use Rattle.runform.proofs.Before.{Roomy, bond_before, core_before, carry_before}

-- ---- two runs that agree in used room, their slices as long
pub record AlikeSteps (s : Shape) (t t' : Stepped) : Type 0 where
  pub ranks : (k : ℕ) → suc k < s.d → rank_at t k ≡ rank_at t' k
  pub dropped : (k : ℕ) → suc k < s.d → dropped_among t.bonds k ≡ dropped_among t'.bonds k
  pub cores : (k : ℕ) → k < s.d → kept_core s t k ≡ kept_core s t' k
  pub carries : (k : ℕ) → suc k < s.d → kept_carry s t k ≡ kept_carry s t' k
  pub chain_long : length t.chain ≡ length t'.chain
  pub carries_long : length t.carries ≡ length t'.carries

pub record Alike (k k' : Kept) : Type 0 where
  pub inputs : k.inputs ≡ k'.inputs
  pub steps : AlikeSteps k.inputs.shape k.stepped k'.stepped
  pub sums : (j : ℕ) → j < k.inputs.shape.d → kept_sums k.inputs.shape k.stepped k.summed j ≡ kept_sums k.inputs.shape k'.stepped k'.summed j
  pub figure : k.summed.figure ≡ k'.summed.figure
  pub sums_long : length k.summed.sums ≡ length k'.summed.sums

-- the same refusal, or two runs that agree
abbrev pub AnswersAlike : Answer Kept → Answer Kept → Type 0
AnswersAlike (Ok k) (Ok k') = Alike k k'
AnswersAlike (Err r) (Err r') = r ≡ r'
AnswersAlike (Ok k) (Err r) = ⊥
AnswersAlike (Err r) (Ok k) = ⊥

-- ---- a test at bonds
pub bond_same : (s : Shape) (k : ℕ) {A : Type 0} (x y z : A) → (suc k < s.d → x ≡ y) → cond (ltb (suc k) s.d) x z ≡ cond (ltb (suc k) s.d) y z
bond_same s k x y z h = go (ltb (suc k) s.d) refl
  where
    go : (b : Bool) → ltb (suc k) s.d ≡ b → cond b x z ≡ cond b y z
    go true e = h (ltb_is (suc k) s.d e)
    go false e = refl

-- ---- the checks
module _ (R : Rules) (i : Inputs) (t t' : Stepped) (u u' : Summed) (E : Alike (running i t u) (running i t' u')) where
  abbrev s : Shape
  s = i.shape

  rank_same : (k : ℕ) → rank_ok s t.bonds k ≡ rank_ok s t'.bonds k
  unfolding rank_ok
  rank_same k = bond_same s k (within (right_of s k) (rank_at t k)) (within (right_of s k) (rank_at t' k)) true (λ l. ap (within (right_of s k)) (E.steps.ranks k l))

  kept_same : (k : ℕ) → k < i.shape.d → kept_finite s t u k ≡ kept_finite s t' u' k
  unfolding held_finite core_held carry_held sums_held dropped_held
  kept_same k lt =
      let a = ap (λ (c : Core). all_finite c.entries) (E.steps.cores k lt) in
      let b = bond_same s k (all_finite (kept_carry s t k)) (all_finite (kept_carry s t' k)) true (λ l. ap all_finite (E.steps.carries k l)) in
      let c = ap all_finite (E.sums k lt) in
      let d = bond_same s k (finite (dropped_among t.bonds k)) (finite (dropped_among t'.bonds k)) true (λ l. ap finite (E.steps.dropped k l)) in
      cc

  lent_same : slices_lent s (lengths_of (running i t u)) ≡ slices_lent s (lengths_of (running i t' u'))
  lent_same = let a = E.steps.chain_long in let b = E.steps.carries_long in let c = E.sums_long in cc

  numbers_same : (q : Request) → numbers_ok R (running i t u) q ≡ numbers_ok R (running i t' u') q
  unfolding numbers_ok found_numbers
  numbers_same q =
      let part : ℕ → Bool = λ k. pick (eqb k (zone_of q)) (new_finite q) true in
      then_on _ _ _ _
      (then_on _ _ _ _ (ap (λ (x : Float). demand (lone_finite i.set && finite x) (Number 0)) E.figure)
      (then_on _ _ _ _
      (each_same Number (λ (k : ℕ). (zone_finite i k && kept_finite s t u k) && part k) (λ (k : ℕ). (zone_finite i k && kept_finite s t' u' k) && part k) s.d 0
      (λ k a b. ap (λ (x : Bool). (zone_finite i k && x) && part k) (kept_same k (omega arith))))
      refl))
      refl

  pub checks_same : (room : Check) (q : Request) → replace_ok R room (running i t u) q ≡ replace_ok R room (running i t' u') q
  unfolding replace_ok found_ok
  checks_same room q =
      then_on _ _ _ _
      (then_on _ _ _ _ (shape_same s (rank_ok s t.bonds) (rank_ok s t'.bonds) (λ k lt. rank_same k))
      (ap (λ (x : Check). demand (ltb (zone_of q) s.d) Zone then x) lent_same))
      (ap (λ (x : Check). demand (part_fits s q) (Length slice_count) then room then x) (numbers_same q))

-- ---- what a writing from z on leaves in slot k, where the slots before z are not asked for
-- the step
module _ (s : Shape) (t t' : Stepped) (M : Roomy s t) (M' : Roomy s t') (E : AlikeSteps s t t') (z : ℕ) (inside : z < s.d) (c : List (Carry × Cut)) (whole : z + length c ≡ s.d) where
  abbrev new : Stepped
  new = keep_step s z c t

  abbrev new' : Stepped
  new' = keep_step s z c t'

  mapped : {A : Type 0} (f : Carry × Cut → List A) → z + length (map f c) ≡ s.d
  mapped f = ap (λ (x : ℕ). z + x) (length-map c f) ∙ whole

  bond_after : (k : ℕ) → z ≤ k → suc k < s.d → bond_among new.bonds k ≡ bond_among new'.bonds k
  unfolding keep_step
  bond_after k ge lt =
      let f : Carry × Cut → List Bond = λ x. x.1.bonds in
      sym (bond_at s k new.bonds lt past_bond)
      ∙ ap (λ (l : List Bond). bond_among l 0) (write_alike (bond_size s) no_bond s.d z (map f c) (mapped f) t.bonds t'.bonds M.bonds M'.bonds k ge (omega arith))
      ∙ bond_at s k new'.bonds lt past_bond

  -- what is asked of a bond, before z and from z on
  asked_alike : {A : Type 0} (f : Bond → A) (k : ℕ) → suc k < s.d → f (bond_among t.bonds k) ≡ f (bond_among t'.bonds k) → f (bond_among new.bonds k) ≡ f (bond_among new'.bonds k)
  asked_alike f k lt e =
      below_or_not k z (λ b. ap f (bond_before s t M z inside c k b) ∙ e ∙ sym (ap f (bond_before s t' M' z inside c k b))) (λ ge. ap f (bond_after k ge lt))

  ranks_alike : (k : ℕ) → suc k < s.d → rank_at new k ≡ rank_at new' k
  ranks_alike k lt = asked_alike (λ (b : Bond). b.rank) k lt (E.ranks k lt)

  left_alike : (k : ℕ) → k < s.d → left_rank new k ≡ left_rank new' k
  left_alike zero lt = refl
  left_alike (suc k) lt = ranks_alike k lt

  right_alike : (k : ℕ) → right_rank s new k ≡ right_rank s new' k
  right_alike k = bond_same s k (rank_at new k) (rank_at new' k) (right_of s k) (ranks_alike k)

  core_after : (k : ℕ) → z ≤ k → k < s.d → kept_core s new k ≡ kept_core s new' k
  unfolding held_core keep_step
  core_after k ge lt =
      let f : Carry × Cut → List Float = λ x. x.1.core.entries in
      let n = points_of s k in
      let of : ℕ → ℕ → List Float → Core = λ a b x. core_with a n b (take (a * n * b) x) in
      ap (λ (a : ℕ). of a (right_rank s new k) (slot (core_size s) k new.chain)) (left_alike k lt)
      ∙ ap (λ (b : ℕ). of (left_rank new' k) b (slot (core_size s) k new.chain)) (right_alike k)
      ∙ ap (of (left_rank new' k) (right_rank s new' k)) (write_alike (core_size s) zero64 s.d z (map f c) (mapped f) t.chain t'.chain M.chain M'.chain k ge lt)

  carry_after : (k : ℕ) → z ≤ k → suc k < s.d → kept_carry s new k ≡ kept_carry s new' k
  unfolding keep_step
  carry_after k ge lt =
      let f : Carry × Cut → List Float = λ x. numbers_in x.0 in
      ap (λ (a : ℕ). take (a * right_of s k) (slot (carry_size s) k new.carries)) (ranks_alike k lt)
      ∙ ap (take (rank_at new' k * right_of s k)) (write_alike (carry_size s) zero64 s.d z (map f c) (mapped f) t.carries t'.carries M.carries M'.carries k ge (omega arith))

  pub steps_alike : AlikeSteps s new new'
  unfolding keep_step
  steps_alike = record {
    ranks = ranks_alike;
    dropped = λ k lt. asked_alike (λ (b : Bond). b.dropped) k lt (E.dropped k lt);
    cores = λ k lt. below_or_not k z (λ b. core_before s t M z inside c k b ∙ E.cores k lt ∙ sym (core_before s t' M' z inside c k b)) (λ ge. core_after k ge lt);
    carries = λ k lt. below_or_not k z (λ b. carry_before s t M z inside c k b ∙ E.carries k lt ∙ sym (carry_before s t' M' z inside c k b)) (λ ge. carry_after k ge lt);
    chain_long =
        let f : Carry × Cut → List Float = λ x. x.1.core.entries in
        (written_from (core_size s) zero64 s.d f z c t.chain whole M.chain).long ∙ E.chain_long ∙ sym (written_from (core_size s) zero64 s.d f z c t'.chain whole M'.chain).long;
    carries_long =
        let f : Carry × Cut → List Float = λ x. numbers_in x.0 in
        (written_from (carry_size s) zero64 s.d f z c t.carries whole M.carries).long ∙ E.carries_long ∙ sym (written_from (carry_size s) zero64 s.d f z c t'.carries whole M'.carries).long;
  }
