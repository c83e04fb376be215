-- A cut stage by stage, in the form that proofs of code cite. Assumes nothing.
use mathlib.Core.Path.{◌≡◌, refl, sym, ap, ◌∙◌}
use Prim.Native.Nat.{ℕ}
use mathlib.Core.List.{List, ◌++◌}
use lib.ListN.{length, take}
use lib.Ieee.{Float}
use Rattle.answers.specs.declared.Part.{Part}
use Rattle.answers.specs.declared.Part.TheVariants.{Spectrum, Factor}
use Rattle.answers.specs.declared.Refusal.{Refusal}
use Rattle.answers.specs.declared.Refusal.TheVariants.{Stored}
use Rattle.std.specs.Prelude.{Ok, Err, Result}
use Rattle.std.specs.Result.{MatchResult, IsErrAnd}
use Rattle.answers.specs.Outcome.{Made, Answer, bind, making, staged, answered, outcome_of, stage_of, stored_in, Stage, Check}
use Rattle.answers.proofs.Outcomes.{bind_cong, making_is, stored_answered}
use Rattle.lists.specs.Floats.{stored}
use Rattle.lists.proofs.Parts.{part_again}
use Rattle.lists.proofs.Stages.{stored_staged, staged_on}
use Rattle.shape.specs.Cores.{Core, core_with}
use Rattle.cutform.specs.declared.Cutting.{Cutting}
use Rattle.cutform.specs.Sweeps.{eig, Swept, swept, diagonalized}
use Rattle.cutform.specs.Rotation.{eye}
use Rattle.cutform.specs.Values.{singulars, order, sorted, kept_rank, dropped_from}
use Rattle.cutform.specs.Bonds.{gram, CutCore, cut_bond}
use Rattle.cutform.specs.Factors.{left_factor, carry_of}
use Rattle.bond.specs.declared.sweeps.Sweeps.{Sweeps}
use Rattle.bond.specs.Stages.{swept_of, rest_of}
use Rattle.bond.specs.FactorRows.{Factors, factors_of}
use Rattle.bond.specs.Chosen.{Chosen, chosen_of}

-- ---- the sweeps of a core's Gram matrix
module _ (mode : ℕ) (c : Core) (g : List Float) (r : Stage) (eg : g ≡ gram c) (er : r ≡ stage_of (stored g)) where
  gram_opened : swept_of mode c ≡ bind (staged r g) (λ x. diagonalized mode c.rr (eig x (eye c.rr)))
  unfolding swept_of
  gram_opened = ap (λ (o : Made (List Float)). bind o (λ x. diagonalized mode c.rr (eig x (eye c.rr)))) (ap stored (sym eg) ∙ stored_staged g r er)

  pub swept_stop : (i : ℕ) → r ≡ Err i → swept_of mode c ≡ Err i
  unfolding staged
  swept_stop i h = gram_opened ∙ rw h

  pub swept_end : r ≡ Ok tt → (v : List Float) (o : Made Swept) → v ≡ eye c.rr → diagonalized mode c.rr (eig g v) ≡ o → swept_of mode c ≡ o
  swept_end h v o ev d =
      gram_opened ∙ staged_on r g (λ x. diagonalized mode c.rr (eig x (eye c.rr))) h
      ∙ ap (λ (y : List Float). diagonalized mode c.rr (eig g y)) (sym ev) ∙ d

-- ---- stages that make one part, one after another, are one stage
module _ (part : Part) (k : ℕ) where
  two : {X Y R : Type 0} (a : Made X) (f : X → Made Y) (K : Y → Answer R) → bind (making part k a) (λ x. bind (making part k (f x)) K) ≡ bind (making part k (bind a f)) K
  two (Ok x) f K = refl
  two (Err i) f K = refl

  both : {X Y D R : Type 0} (a : Made X) (b : Made Y) (of : X → Y → D) (K : D → Answer R) → bind (making part k a) (λ x. bind (making part k b) (λ y. K (of x y))) ≡ bind (making part k (bind a (λ x. bind b (λ y. Ok (of x y))))) K
  both (Ok x) b of K = two b (λ y. Ok (of x y)) K
  both (Err i) b of K = refl

-- ---- the cut
module _ (k : ℕ) (cutting : Cutting) (c : Core) where
  abbrev pair : List Float → List Float → Factors
  pair u x = record { left = u; carry = x }

  abbrev chosen : List Float → Chosen
  chosen sv = let ss = sorted c.rr sv in let r = kept_rank cutting.eps c.rr ss in record { rank = r; dropped = dropped_from r ss; order = order c.rr sv; values = ss }

  abbrev whole : Swept → Chosen → Factors → CutCore
  whole w q f = record {
    core = core_with c.rl c.n q.rank f.left;
    bond = record { rank = q.rank; sweeps = w.count; settled = w.settles; dropped = q.dropped };
    carry = f.carry;
  }

  made : Swept → Chosen → Factors → Answer CutCore
  made w q f = Ok (whole w q f)

  last : Swept → Chosen → Answer CutCore
  last w q = bind (making Factor k (factors_of cutting.mode c q.rank q.values q.order w.eig.v)) (made w q)

  cut_stages : cut_bond k cutting c ≡ bind (making Spectrum k (swept_of cutting.mode c)) (rest_of k cutting c)
  unfolding cut_bond swept_of rest_of chosen_of factors_of made last
  cut_stages =
      bind_cong (making Spectrum k (stored (gram c))) _ _
      (λ g a. bind_cong (making Spectrum k (diagonalized cutting.mode c.rr (eig g (eye c.rr)))) _ (rest_of k cutting c)
      (λ w b. bind_cong (making Spectrum k (stored (singulars c.rr w.eig.g))) _ (λ sv. last w (chosen sv))
      (λ sv e. let q = chosen sv in both Factor k (stored (left_factor cutting.mode c q.rank q.values q.order w.eig.v)) (stored (carry_of c.rr q.rank q.values q.order w.eig.v)) pair (made w q))
      ∙ two Spectrum k (stored (singulars c.rr w.eig.g)) (λ sv. Ok (chosen sv)) (last w)))
      ∙ two Spectrum k (stored (gram c)) (λ g. diagonalized cutting.mode c.rr (eig g (eye c.rr))) (rest_of k cutting c)

  -- u is the sweeps' answer as the call's, with f what it makes of its value
  module _ {B : Type 0} (u : Answer B) (f : B → Swept) (e : making Spectrum k (swept_of cutting.mode c) ≡ outcome_of u f) where
    pub cut_stop : (r : Refusal) → u ≡ Err r → cut_bond k cutting c ≡ Err r
    unfolding outcome_of
    cut_stop r h = cut_stages ∙ rw (e, h)

    pub cut_on : (x : B) → u ≡ Ok x → (o : Answer CutCore) → rest_of k cutting c (f x) ≡ o → cut_bond k cutting c ≡ o
    unfolding outcome_of
    cut_on x h o d = cut_stages ∙ rw (e, h) d

  -- ---- what follows the sweeps: u is the values' answer as the call's, v that of the factors
  module _ (w : Swept) {B : Type 0} (u : Answer B) (f : B → Chosen) (e : making Spectrum k (chosen_of cutting.eps c.rr w.eig.g) ≡ outcome_of u f) where
    pub rest_first : (r : Refusal) → u ≡ Err r → rest_of k cutting c w ≡ Err r
    unfolding rest_of outcome_of
    rest_first r h = rw (e, h)

    module _ (x : B) (h : u ≡ Ok x) (t : Stage) (l : Factors) (el : factors_of cutting.mode c (f x).rank (f x).values (f x).order w.eig.v ≡ staged t l) (v : Check) (ev : v ≡ stored_in Factor k t) where
      opened : rest_of k cutting c w ≡ bind (answered v l) (made w (f x))
      unfolding rest_of made outcome_of
      opened = rw (e, h, el, stored_answered Factor k t v l ev)

      pub rest_second : (r : Refusal) → v ≡ Err r → rest_of k cutting c w ≡ Err r
      unfolding answered
      rest_second r d = opened ∙ rw d

      pub rest_whole : v ≡ Ok tt → rest_of k cutting c w ≡ Ok (whole w (f x) l)
      unfolding answered made
      rest_whole d = opened ∙ rw d

-- the matrices stand at the front of slices of which parts were lent
pub swept_front : (T : Made Swept) (m : ℕ) (o : Result Sweeps ℕ) (g g' v v' : List Float) → T ≡ outcome_of o (λ (s : Sweeps). swept s.count s.settles (eig g v)) → length g ≡ m → length v ≡ m
    → T ≡ outcome_of o (λ (s : Sweeps). swept s.count s.settles (eig (take m (g ++ g')) (take m (v ++ v'))))
swept_front T m o g g' v v' e l n = e ∙ rw (part_again m g g' l, part_again m v v' n)

-- ---- a stage's answer o told as the call's, which is u
pub mapped : {A B : Type 0} (part : Part) (k : ℕ) (P : ℕ → Refusal → Type 0) → ((i : ℕ) (r : Refusal) → P i r → r ≡ Stored part k i) → (o : Made B) (u : Answer B)
    → MatchResult o (λ x. u ≡ Ok x) (λ i. IsErrAnd u (P i)) → (T : Made A) (f : B → A) → T ≡ outcome_of o f → making part k T ≡ outcome_of u f
unfolding outcome_of
mapped part k P h (Ok x) u m T f e = rw (e, m)
mapped part k P h (Err i) (Ok y) m T f e = absurd m
mapped part k P h (Err i) (Err r) m T f e = rw (e, h i r m)

-- where it has a value, so has the stage
pub mapped_ok : {A B : Type 0} (part : Part) (k : ℕ) (u : Answer B) (T : Made A) (f : B → A) → making part k T ≡ outcome_of u f → (x : B) → u ≡ Ok x → T ≡ Ok (f x)
unfolding outcome_of
mapped_ok part k u T f e x h = making_is part k T (f x) (e ∙ rw h)
