-- The count of passes is the number of passes made: none before the last was quiet, and the last was, or they were as many as may be. Assumes nothing.
use Rattle.std.specs.Prelude.{Ok}
use mathlib.Core.Path.{◌≡◌, refl, sym, ap, ◌∙◌, subst}
use mathlib.Core.Logic.{◌⊎◌, inl, inr}
use Prim.Native.Nat.{ℕ, zero, suc, ◌+◌, ◌≤◌, ◌<◌}
use native.Mathlib.Nat.{add-zero, zero-add, add-suc, suc-add, not-suc-le-zero, le_of_suc-le-suc}
use native.Mathlib.Omega.{arith}
use mathlib.Core.Bool.{Bool, true, false, true≢false}
use Rattle.answers.specs.Outcome.{Made, bind}
use Rattle.answers.proofs.Outcomes.{bind_ok, ok_inj}
use Rattle.lists.specs.Walks.{turning}
use Rattle.pairform.specs.Passes.{Svd, Pass, passed, pass, Passes, made, passes_from, most_passes, orthogonalized}
use Rattle.pairform.specs.PassClaims.{passes_made, Counted}

module _ (m n : ℕ) where
  next : ℕ → Pass → Made Pass
  next i x = pass m n x.svd

  -- what `Counted` says, of c passes from x on
  record Going (fuel : ℕ) (x : Pass) (w : Passes) (c : ℕ) : Type 0 where
    bound : c ≤ fuel
    last : Pass
    reached : (i : ℕ) → turning c i next x ≡ Ok last
    left : last.svd ≡ w.svd
    needed : (i k : ℕ) (y : Pass) → k < c → turning k i next x ≡ Ok y → y.quiet ≡ false
    stopped : (last.quiet ≡ true) ⊎ (c ≡ fuel)

  -- no pass more
  still : (fuel c₀ : ℕ) (x : Pass) (w : Passes) → (x.quiet ≡ true) ⊎ (0 ≡ fuel) → made c₀ x.svd ≡ w → (c : ℕ) × (w.count ≡ c₀ + c) × Going fuel x w c
  unfolding turning
  still fuel c₀ x w t p = (
    0,
    ap (λ (y : Passes). y.count) (sym p) ∙ sym (add-zero c₀),
    record {
      bound = omega arith;
      last = x;
      reached = λ i. refl;
      left = ap (λ (y : Passes). y.svd) p;
      needed = λ i k y l g. absurd (not-suc-le-zero l);
      stopped = t;
    },
  )

  -- a pass that isn't quiet, and then as many as there are
  more : (fuel c₀ : ℕ) (x y : Pass) (w : Passes) → x.quiet ≡ false → pass m n x.svd ≡ Ok y → (c : ℕ) × (w.count ≡ suc c₀ + c) × Going fuel y w c
      → (c : ℕ) × (w.count ≡ c₀ + c) × Going (suc fuel) x w c
  unfolding turning next
  more fuel c₀ x y w q s (c, e, g) = (
    suc c,
    e ∙ suc-add c₀ c ∙ sym (add-suc c₀ c),
    record {
      bound = let b = g.bound in omega arith;
      last = g.last;
      reached = λ i. ap (λ (o : Made Pass). bind o (λ z. turning c (suc i) next z)) s ∙ g.reached (suc i);
      left = g.left;
      needed = earlier;
      stopped = up g.stopped;
    },
  )
    where
      earlier : (i k : ℕ) (z : Pass) → k < suc c → turning k i next x ≡ Ok z → z.quiet ≡ false
      earlier i zero z l h = ap (λ (v : Pass). v.quiet) (sym (ok_inj h)) ∙ q
      earlier i (suc k) z l h = g.needed (suc i) k z (le_of_suc-le-suc l) (sym (ap (λ (o : Made Pass). bind o (λ v. turning k (suc i) next v)) s) ∙ h)

      up : (g.last.quiet ≡ true) ⊎ (c ≡ fuel) → (g.last.quiet ≡ true) ⊎ (suc c ≡ suc fuel)
      up (inl t) = inl t
      up (inr t) = inr (ap suc t)

  going : (fuel : ℕ) (b : Bool) (c₀ : ℕ) (x : Pass) (w : Passes) → x.quiet ≡ b → passes_from fuel b m n c₀ x.svd ≡ Ok w → (c : ℕ) × (w.count ≡ c₀ + c) × Going fuel x w c
  unfolding passes_from
  going zero b c₀ x w q h = still zero c₀ x w (inr refl) (ok_inj h)
  going (suc fuel) true c₀ x w q h = still (suc fuel) c₀ x w (inl q) (ok_inj h)
  going (suc fuel) false c₀ x w q h =
      let s = bind_ok (pass m n x.svd) (λ y. passes_from fuel y.quiet m n (suc c₀) y.svd) w h in
      more fuel c₀ x s.0 w q s.1 (going fuel s.0.quiet (suc c₀) s.0 w refl s.2)

  -- from a pass that isn't quiet at least one more is made
  least_one : (fuel c : ℕ) (x : Pass) (w : Passes) → x.quiet ≡ false → 0 < fuel → Going fuel x w c → 1 ≤ c
  unfolding turning
  least_one fuel zero x w q f g = no g.stopped
    where
      no : (g.last.quiet ≡ true) ⊎ (0 ≡ fuel) → 1 ≤ 0
      no (inl t) = absurd (true≢false (sym t ∙ ap (λ (y : Pass). y.quiet) (sym (ok_inj (g.reached 0))) ∙ q))
      no (inr t) = omega arith
  least_one fuel (suc c) x w q f g = omega arith

-- the count answered is the number of passes that the stated iteration makes
pub passes_counted : (m n : ℕ) (e : Svd) (w : Passes) → orthogonalized m n e ≡ Ok w → Counted most_passes m n e w
unfolding orthogonalized passes_made next
passes_counted m n e w h =
    let x = passed e false in
    let r = going m n most_passes false 0 x w refl h in
    let g = subst (λ (c : ℕ). Going m n most_passes x w c) (sym (r.1 ∙ zero-add r.0)) r.2 in
    record {
      least = least_one m n most_passes w.count x w refl (omega arith) g;
      bound = g.bound;
      last = g.last;
      reached = g.reached 0;
      left = g.left;
      needed = g.needed 0;
      stopped = g.stopped;
    }
