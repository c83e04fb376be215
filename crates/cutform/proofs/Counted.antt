-- The count that is answered is the number of sweeps that the stated iteration makes, in any mode: it went on while the matrix was not settled, and stopped at the first time it was, or at 50.
-- No other count and no other flag meets that. Assumes nothing.
use Rattle.std.specs.Prelude.{Ok}
use mathlib.Core.Path.{◌≡◌, refl, sym, ap, ◌∙◌, subst}
use mathlib.Core.Logic.{◌⊎◌, inl, inr}
use Prim.Native.Nat.{ℕ, zero, suc, ◌+◌, ◌<◌}
use native.Mathlib.Nat.{add-zero, zero-add, add-suc, suc-add, not-suc-le-zero, le_of_suc-le-suc}
use native.Mathlib.Omega.{arith}
use mathlib.Core.Bool.{Bool, true, false, true≢false}
use Rattle.answers.specs.Outcome.{Made, bind}
use Rattle.answers.proofs.Outcomes.{bind_ok, ok_inj}
use Rattle.lists.proofs.Tests.{below_or_not}
use Rattle.cutform.specs.Modes.{settled}
use Rattle.cutform.specs.Sweeps.{Eig, Swept, swept, sweep, sweeps_from, diagonalized, most_sweeps}
use Rattle.cutform.specs.Claims.{sweeps, Counted}

-- ---- the count is that of the iteration
module _ (mode n : ℕ) where
  -- no sweep was made
  at_once : (most c0 : ℕ) (b : Bool) (e : Eig) (w : Swept) → settled mode n e.g ≡ b → swept c0 b e ≡ w → (0 ≡ most) ⊎ (b ≡ true)
      → (c : ℕ) × (w.count ≡ c0 + c) × Counted mode most n e c w.settles w.eig
  unfolding sweeps
  at_once most c0 b e w t p s =
      let q : e ≡ w.eig = ap (λ (x : Swept). x.eig) p in
      let f : w.settles ≡ b = ap (λ (x : Swept). x.settles) (sym p) in (
        0,
        ap (λ (x : Swept). x.count) (sym p) ∙ sym (add-zero c0),
        record {
          bound = omega arith;
          made = ap Ok q;
          needed = λ i x l g. absurd (not-suc-le-zero l);
          flag = f ∙ sym t ∙ ap (λ (x : Eig). settled mode n x.g) q;
          stopped = subst (λ (x : Bool). (0 ≡ most) ⊎ (x ≡ true)) (sym f) s;
        },
      )

  one_more : {X : Type 0} (a b : ℕ) → (a ≡ b) ⊎ X → (suc a ≡ suc b) ⊎ X
  one_more a b (inl p) = inl (ap suc p)
  one_more a b (inr x) = inr x

  earlier : (e x : Eig) (c : ℕ) → settled mode n e.g ≡ false → sweep mode n e ≡ Ok x → ((i : ℕ) (y : Eig) → i < c → sweeps i mode n x ≡ Ok y → settled mode n y.g ≡ false)
      → (i : ℕ) (y : Eig) → i < suc c → sweeps i mode n e ≡ Ok y → settled mode n y.g ≡ false
  unfolding sweeps
  earlier e x c t s f zero y l g = ap (λ (z : Eig). settled mode n z.g) (sym (ok_inj g)) ∙ t
  earlier e x c t s f (suc i) y l g = f i y (le_of_suc-le-suc l) (sym (ap (λ (o : Made Eig). bind o (λ z. sweeps i mode n z)) s) ∙ g)

  from_counted : (most : ℕ) (b : Bool) (c0 : ℕ) (e : Eig) (w : Swept) → settled mode n e.g ≡ b → sweeps_from most b mode n c0 e ≡ Ok w
      → (c : ℕ) × (w.count ≡ c0 + c) × Counted mode most n e c w.settles w.eig
  unfolding sweeps_from sweeps
  from_counted zero b c0 e w t h = at_once zero c0 b e w t (ok_inj h) (inl refl)
  from_counted (suc most) true c0 e w t h = at_once (suc most) c0 true e w t (ok_inj h) (inr refl)
  from_counted (suc most) false c0 e w t h =
      let S = bind_ok (sweep mode n e) (λ x. sweeps_from most (settled mode n x.g) mode n (suc c0) x) w h in
      let R = from_counted most (settled mode n S.0.g) (suc c0) S.0 w refl S.2 in
      let C = R.2 in (
        suc R.0,
        R.1 ∙ suc-add c0 R.0 ∙ sym (add-suc c0 R.0),
        record {
          bound = let z = C.bound in omega arith;
          made = ap (λ (o : Made Eig). bind o (λ x. sweeps R.0 mode n x)) S.1 ∙ C.made;
          needed = earlier e S.0 R.0 t S.1 C.needed;
          flag = C.flag;
          stopped = one_more R.0 most C.stopped;
        },
      )

-- THE COUNT, 0 to 50, and the flag beside it
pub sweeps_counted : (mode n : ℕ) (e : Eig) (w : Swept) → diagonalized mode n e ≡ Ok w → Counted mode most_sweeps n e w.count w.settles w.eig
unfolding diagonalized
sweeps_counted mode n e w h =
    let R = from_counted mode n most_sweeps (settled mode n e.g) 0 e w refl h in
    subst (λ (c : ℕ). Counted mode most_sweeps n e c w.settles w.eig) (sym (R.1 ∙ zero-add R.0)) R.2

-- ---- and there is one only
module _ {mode most n : ℕ} {e : Eig} where
  -- after the sweeps that one counts, another makes no more
  no_more : {c d : ℕ} {b a : Bool} {x y : Eig} → Counted mode most n e c b x → Counted mode most n e d a y → c < d → ⊥
  no_more {c} {d} {b} {a} {x} {y} C D l = go C.stopped
    where
      go : (c ≡ most) ⊎ (b ≡ true) → ⊥
      go (inl z) = let m = D.bound in omega arith
      go (inr z) = true≢false (sym z ∙ C.flag ∙ D.needed c x l C.made)

  pub counted_once : {c d : ℕ} {b a : Bool} {x y : Eig} → Counted mode most n e c b x → Counted mode most n e d a y → (c ≡ d) × (b ≡ a) × (x ≡ y)
  counted_once {c} {d} {b} {a} {x} {y} C D =
      let same : c ≡ d = below_or_not c d (λ l. absurd (no_more C D l)) (λ l. below_or_not d c (λ m. absurd (no_more D C m)) (λ m. omega arith)) in
      let end : x ≡ y = ok_inj (sym C.made ∙ ap (λ (k : ℕ). sweeps k mode n e) same ∙ D.made) in
      (same, C.flag ∙ ap (λ (z : Eig). settled mode n z.g) end ∙ sym D.flag, end)
