-- The wrapped index: a point of the axis for either boundary, the point itself within the axis, that of before where it is periodic; where it reflects, both ends are mirrors. Assumes nothing.
use mathlib.Core.Path.{◌≡◌, refl, sym, ap, ◌∙◌}
use Prim.Native.Nat.{ℕ, suc, ◌+◌, ◌-◌, ◌*◌, ◌%◌, ◌<◌, ◌≤◌}
use native.Mathlib.Nat.{mod-lt}
use native.Mathlib.Omega.{arith}
use mathlib.Core.Bool.{Bool, true, false}
use borrow.Author.Tests.{le-leb, lt-leb, leb-true, leb-false}
use lib.Dec.{eqb, leb}
use lib.IntN.{ℤ, pos, negsuc, ◌+ℤ◌}
use Rattle.numbers.specs.Residues.{wrap}
use Rattle.numbers.proofs.Residues.{wrap_lt, wrap_small, wrap_around}
use Rattle.lists.specs.Lists.{pick}
use Rattle.stepform.specs.Boundaries.{periodic, reflecting, reflected, wrapped}

-- ---- an index below 2n, reflected
module _ (n i : ℕ) where
  pub reflected_near : i < n → reflected n i ≡ i
  unfolding reflected pick
  reflected_near h = rw (lt-leb n i h)

  pub reflected_far : n ≤ i → reflected n i ≡ 2 * n - 1 - i
  unfolding reflected pick
  reflected_far h = rw (le-leb n i h)

pub reflected_lt : (n i : ℕ) → i < 2 * n → reflected n i < n
reflected_lt n i h = go (leb n i) refl
  where
    go : (p : Bool) → leb n i ≡ p → reflected n i < n
    go true e = rw (reflected_far n i (leb-true n i e)) (omega (arith, leb-true n i e))
    go false e = rw (reflected_near n i (leb-false n i e)) (leb-false n i e)

-- 2n - 1 - i stands where i does
reflected_back : (n i : ℕ) → i < 2 * n → reflected n (2 * n - suc i) ≡ reflected n i
reflected_back n i h = go (leb n i) refl
  where
    go : (p : Bool) → leb n i ≡ p → reflected n (2 * n - suc i) ≡ reflected n i
    go true e = let f = leb-true n i e in reflected_near n (2 * n - suc i) (omega arith) ∙ omega arith ∙ sym (reflected_far n i f)
    go false e = let f = leb-false n i e in reflected_far n (2 * n - suc i) (omega arith) ∙ omega arith ∙ sym (reflected_near n i f)

-- ---- the two boundaries
pub wrapped_periodic : (n : ℕ) (z : ℤ) → wrapped periodic n z ≡ wrap n z
unfolding wrapped pick
wrapped_periodic n z = refl

pub wrapped_reflecting : (n : ℕ) (z : ℤ) → wrapped reflecting n z ≡ reflected n (wrap (2 * n) z)
unfolding wrapped pick
wrapped_reflecting n z = refl

-- ---- a point of the axis, and within the axis that point, for any boundary
pub wrapped_lt : (b n : ℕ) (z : ℤ) → 0 < n → wrapped b n z < n
unfolding wrapped pick
wrapped_lt b n z h = go (eqb b reflecting)
  where
    go : (p : Bool) → pick p (reflected n (wrap (2 * n) z)) (wrap n z) < n
    go true = reflected_lt n (wrap (2 * n) z) (wrap_lt (2 * n) z (omega arith))
    go false = wrap_lt n z h

pub wrapped_inside : (b n i : ℕ) → i < n → wrapped b n (pos i) ≡ i
unfolding wrapped pick
wrapped_inside b n i h = go (eqb b reflecting)
  where
    go : (p : Bool) → pick p (reflected n (wrap (2 * n) (pos i))) (wrap n (pos i)) ≡ i
    go true = ap (reflected n) (wrap_small (2 * n) i (omega arith)) ∙ reflected_near n i h
    go false = wrap_small n i h

-- ---- where the axis reflects: before the first point the points come again in turn, behind the last they go back, and all of it comes again after 2n
pub mirror_first : (n k : ℕ) → 0 < n → wrapped reflecting n (negsuc k) ≡ wrapped reflecting n (pos k)
unfolding wrapped pick wrap
mirror_first n k h = reflected_back n (k % (2 * n)) (mod-lt k (omega arith))

pub mirror_last : (n k : ℕ) → k < n → wrapped reflecting n (pos (n + k)) ≡ n - suc k
unfolding wrapped pick
mirror_last n k h = ap (reflected n) (wrap_small (2 * n) (n + k) (omega arith)) ∙ reflected_far n (n + k) (omega arith) ∙ omega arith

pub mirror_again : (n : ℕ) (z : ℤ) → 0 < n → wrapped reflecting n (z +ℤ pos (2 * n)) ≡ wrapped reflecting n z
unfolding wrapped pick
mirror_again n z h = ap (reflected n) (wrap_around (2 * n) z (omega arith))
