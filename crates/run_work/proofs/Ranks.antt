-- The ranks that a step from zone z on leaves lie in 1 to their source's, where those before z do. Assumes nothing.
use Rattle.std.specs.Prelude.{Ok}
use mathlib.Core.Path.{◌≡◌, refl, sym, ap, ◌∙◌, subst}
use Prim.Native.Nat.{ℕ, zero, suc, ◌+◌, ◌-◌, ◌≤◌, ◌<◌}
use native.Mathlib.Omega.{arith}
use mathlib.Core.Bool.{Bool}
use mathlib.Core.List.{List}
use lib.ListN.{length, get_or}
use Rattle.answers.specs.Outcome.{bind}
use Rattle.answers.proofs.Outcomes.{bind_ok, ok_inj}
use Rattle.lists.specs.Slots.{fit}
use Rattle.lists.specs.Walks.{every, walk}
use Rattle.lists.proofs.Tests.{ltb_yes, below_or_not}
use Rattle.lists.proofs.Tables.{listed_length}
use Rattle.lists.proofs.Walks.{All, all_at, listed_all, every_all, walk_all}
use Rattle.shape.specs.declared.Shape.{Shape}
use Rattle.shape.specs.Shapes.{right_of}
use Rattle.shape.specs.Cores.{Core, core_at}
use Rattle.shape.proofs.Shaped.{Shaped}
use Rattle.cutform.specs.declared.Bond.{Bond}
use Rattle.cutform.specs.Bonds.{no_bond, past_bond}
use Rattle.cutform.specs.Rounding.{Carry, Cut}
use Rattle.cutform.proofs.Cuts.{Carried}
use Rattle.cutform.specs.Keeping.{Stepped, bond_size, rank_at, keep_step, rank_among}
use Rattle.cutform.proofs.BondSlots.{bond_one, bond_at}
use Rattle.stepform.specs.Zones.{Zone, rules}
use Rattle.stepform.specs.Steps.{holding, shift_zone, scale_zone, round_zone, step_from}
use Rattle.stepform.proofs.Restart.{step_length}
use Rattle.runform.specs.Kept.{Inputs, zone_at, zones_from, carry_at}
use Rattle.runform.specs.Work.{restep}
use Rattle.runform.proofs.Rules.{rules_sound}
use Rattle.runform.proofs.Held.{no_cut}
use Rattle.runform.proofs.Before.{Roomy, rank_before}
use Rattle.run_work.specs.InPlace.{RanksWithin}
use Rattle.lists.proofs.Written.{slot_written}

module _ (i : Inputs) (shp : Shaped i.shape) where
  abbrev s : Shape
  s = i.shape

  abbrev Right : ℕ → Core → Type 0
  Right k c = c.rr ≡ right_of i.shape k

  abbrev Good : ℕ → Carry × Cut → Type 0
  Good k r = suc k < i.shape.d → Carried (right_of i.shape k) r

  shift_right : (k : ℕ) (z : Zone) (c : Core) → Right k z.core → shift_zone rules i.set k z ≡ Ok c → Right k c
  unfolding shift_zone
  shift_right k z c g h = let A = bind_ok (rules.shift i.set k z) (λ l. Ok (holding z.core l)) c h in subst (Right k) (ok_inj A.2) g

  scale_right : (k : ℕ) (c c' : Core) → Right k c → scale_zone rules i.set k c ≡ Ok c' → Right k c'
  unfolding scale_zone
  scale_right zero c c' g h = let A = bind_ok (rules.scale i.set c.entries) (λ l. Ok (holding c l)) c' h in subst (Right 0) (ok_inj A.2) g
  scale_right (suc k) c c' g h = subst (Right (suc k)) (ok_inj h) g

  round_good : (k : ℕ) (b : Carry) (c : Core) (r : Carry × Cut) → Right k c → round_zone rules i.set i.shape.d k b c ≡ Ok r → Good k r
  unfolding round_zone
  round_good k b c r g h lt =
      subst (λ (x : ℕ). Carried x r) g
      (rules_sound.carried i.set k b c r (subst (λ (x : ℕ). 1 ≤ x) (sym g) (shp.right k (omega arith))) (ap (λ (x : Bool). rules.round i.set x k b c) (sym (ltb_yes (suc k) i.shape.d lt)) ∙ h))

  all_good : (z : ℕ) (b : Carry) (tr : List (Carry × Cut)) → step_from rules i.set i.shape.d z b (zones_from i z) ≡ Ok tr → All Good z tr
  unfolding step_from zone_at core_at
  all_good z b tr e =
      let round = round_zone rules i.set i.shape.d in
      let A = bind_ok (every (shift_zone rules i.set) z (zones_from i z)) (λ a. bind (every (scale_zone rules i.set) z a) (λ c. walk round z b c)) tr e in
      let B = bind_ok (every (scale_zone rules i.set) z A.0) (λ c. walk round z b c) tr A.2 in
      let Z = listed_all (λ (k : ℕ) (x : Zone). Right k x.core) (i.shape.d - z) z (zone_at i) (λ j p q. refl) in
      walk_all round Right Good round_good z b B.0 tr
      (every_all (scale_zone rules i.set) Right Right scale_right z A.0 B.0 (every_all (shift_zone rules i.set) (λ (k : ℕ) (x : Zone). Right k x.core) Right shift_right z (zones_from i z) A.0 Z A.1) B.1)
      B.2

  module _ (h : Stepped) (M : Roomy i.shape h) (z : ℕ) (inside : z < i.shape.d) (before : RanksWithin i.shape h.bonds z)
      (tr : List (Carry × Cut)) (e : step_from rules i.set i.shape.d z (carry_at i.shape h z) (zones_from i z) ≡ Ok tr) where
    count : z + length tr ≡ i.shape.d
    count =
        let n : length tr ≡ s.d - z = step_length rules i.set s.d z (carry_at s h z) (zones_from i z) tr e ∙ listed_length (s.d - z) z (zone_at i) in
        omega arith

    rank_new : (k : ℕ) → z ≤ k → (lt : suc k < i.shape.d) → (1 ≤ rank_at (keep_step i.shape z tr h) k) × (rank_at (keep_step i.shape z tr h) k ≤ right_of i.shape k)
    unfolding keep_step fit
    rank_new k ge lt =
        let n = count in
        let j : z + (k - z) ≡ k = omega arith in
        let C : Carried (right_of s k) (get_or tr (k - z) no_cut) = subst (λ (m : ℕ). Good m (get_or tr (k - z) no_cut)) j (all_at Good z tr (all_good z (carry_at s h z) tr e) (k - z) no_cut (omega arith)) lt in
        let q : rank_at (keep_step s z tr h) k ≡ C.bond.rank =
        sym (ap (λ (b : Bond). b.rank) (bond_at s k (keep_step s z tr h).bonds lt past_bond))
        ∙ ap (λ (l : List Bond). rank_among l 0) (slot_written (bond_size s) no_bond s.d (λ (r : Carry × Cut). r.1.bonds) no_cut refl z tr h.bonds k n M.bonds ge (omega arith)
        ∙ ap (λ (m : ℕ). fit no_bond m (get_or tr (k - z) no_cut).1.bonds) (bond_one s k lt)
        ∙ ap (fit no_bond 1) C.bonds) in
        (subst (λ (x : ℕ). 1 ≤ x) (sym q) C.least, subst (λ (x : ℕ). x ≤ right_of s k) (sym q) C.most)

    ranks_kept : RanksWithin i.shape (keep_step i.shape z tr h).bonds i.shape.d
    ranks_kept k a lt = below_or_not k z
        (λ b. let q = rank_before s h M z inside tr k b in let w = before k b lt in (omega (arith, w.0), omega (arith, w.1)))
        (λ ge. rank_new k ge lt)

  pub ranks_after : (h h' : Stepped) → Roomy i.shape h → (z : ℕ) → z < i.shape.d → RanksWithin i.shape h.bonds z → restep rules i h z ≡ Ok h' → RanksWithin i.shape h'.bonds i.shape.d
  unfolding restep
  ranks_after h h' M z inside before e =
      let A = bind_ok (step_from rules i.set s.d z (carry_at s h z) (zones_from i z)) (λ tr. Ok (keep_step s z tr h)) h' e in
      subst (λ (x : Stepped). RanksWithin i.shape x.bonds i.shape.d) (ok_inj A.2) (ranks_kept h M z inside before A.0 A.1)
