-- What `array::from_fn` makes by calls that leave their closure as it was is a table. Assumes nothing.
use mathlib.Core.Path.{◌≡◌, refl, sym, ap, subst, ◌∙◌}
use Prim.Native.Nat.{ℕ, zero, suc, ◌+◌, ◌<◌, ◌≤◌}
use native.Mathlib.Nat.{eq-or-lt_of_le}
use native.Mathlib.Omega.{arith}
use mathlib.Core.Logic.{⊎_elim}
use mathlib.Core.List.{List}
use lib.ListN.{get_or}
use denote.Param.Members.{Mut}
use Rattle.std.specs.Fn.{Called}
use Rattle.std.specs.Array.{IsFromFnResult, IsFromFnResultFrom}
use Rattle.lists.specs.Lists.{tab}
use Rattle.lists.proofs.Tables.{tab_is}

module _ {F B : Type 0} (g : Mut F (ℕ × Unit {0}) B) (f : F) (v : ℕ → B) (o : B) (n : ℕ) (call : (k : ℕ) (y : B) (q : F) → k < n → Called g f (k, tt) y q → (y ≡ v k) × (q ≡ f)) where
  each : (ys : List B) (m i : ℕ) (p : F) → i + m ≤ n → p ≡ f → IsFromFnResultFrom g p ys i m → (j : ℕ) → i ≤ j → j < i + m → get_or ys j o ≡ v j
  each ys zero i p h e w j a b = absurd (omega arith)
  each ys (suc m) i p h e w j a b =
      let s : (w.1 ≡ v i) × (w.0 ≡ f) = call i w.1 w.0 (omega arith) (subst (λ (x : F). Called g x (i, tt) w.1 w.0) e w.3) in
      ⊎_elim (λ e. ap (λ (k : ℕ). get_or ys k o) (sym e) ∙ w.2.1 o ∙ s.0 ∙ ap v e) (λ l. each ys m (i + 1) w.0 (omega arith) s.1 w.4 j (omega arith) (omega arith)) (eq-or-lt_of_le a)

  pub made_tab : (ys : List B) → IsFromFnResult g f ys n → ys ≡ tab n v
  made_tab ys w = tab_is n v o ys w.long (λ i l. each ys n 0 f (omega arith) refl w.each i (omega arith) (omega arith))
