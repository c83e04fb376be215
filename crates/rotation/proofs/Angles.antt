-- The basis as it starts, in the form that proofs of code cite. Assumes nothing.
use mathlib.Core.Path.{◌≡◌, refl, sym, ap, ◌∙◌}
use Prim.Native.Nat.{ℕ, ◌+◌, ◌*◌, ◌<◌, ◌≤◌}
use native.Mathlib.Nat.{le_of_eq, le_refl}
use mathlib.Core.Bool.{Bool, true, false}
use mathlib.Core.List.{List}
use lib.Dec.{eqb}
use lib.ListN.{length, set, replicate, length-replicate, get_or-replicate}
use lib.Ieee.{Float, nan}
use Rattle.numbers.specs.Arithmetic.{zero64, one64}
use Rattle.lists.specs.Lists.{iter, pick}
use Rattle.lists.specs.Floats.{at}
use Rattle.lists.proofs.Altered.{altered, altered_length, altered_other, altered_at}
use Rattle.lists.proofs.Cells.{cell_lt, cell_row, cell_column}
use Rattle.lists.proofs.Tables.{grid_is}
use Rattle.lists.proofs.Tests.{eqb_is, eqb_not}
use Rattle.lists.proofs.Turns.{iter_done}
use Rattle.cutform.specs.Rotation.{eye}

-- ones stored over zeros
pub eye_is : (n k m : ℕ) (z v : List Float) → z ≡ replicate m zero64 → m ≡ n * n → v ≡ iter k (λ (i : ℕ) (l : List Float). set l (i * n + i) one64) z → k ≤ n → n ≤ k → v ≡ eye n
unfolding eye pick
eye_is n k m z v ez em ev p q =
    iter_done (λ (i : ℕ) (l : List Float). set l (i * n + i) one64) z k n v ev p q
    ∙ grid_is n n (λ (i j : ℕ). pick (eqb i j) one64 zero64) nan (altered nan x f z n) (altered_length nan x f z n ∙ long) (λ i j a b. go i j a b (eqb i j) refl)
  where
    x : ℕ → ℕ
    x i = i * n + i

    f : ℕ → Float → Float
    f i y = one64

    long : length z ≡ n * n
    long = ap length ez ∙ length-replicate m zero64 ∙ em

    zero_there : (i j : ℕ) → i < n → j < n → at z (i * n + j) ≡ zero64
    zero_there i j a b = ap (λ (l : List Float). at l (i * n + j)) ez ∙ get_or-replicate m (i * n + j) zero64 nan (cell_lt i n n j m a b (le_of_eq (sym em)))

    go : (i j : ℕ) → i < n → j < n → (b : Bool) → eqb i j ≡ b → at (altered nan x f z n) (i * n + j) ≡ pick b one64 zero64
    go i j a b true e =
        ap (λ (y : ℕ). at (altered nan x f z n) (i * n + y)) (sym (eqb_is i j e)) ∙ altered_at nan x f z n (λ i' j' a' b' e'. cell_row i' j' n i' j' a' b' e')
        (λ i' a'. cell_lt i' n n i' (length z) a' a' (le_of_eq (sym long))) n i (le_refl n) a
    go i j a b false e = altered_other nan x f z n (i * n + j) (λ r h d. eqb_not i j e (cell_row i r n j r b h d ∙ sym (cell_column i r n j r b h d))) ∙ zero_there i j a b
