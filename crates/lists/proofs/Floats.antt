-- Laws of lists of f64: what is finite in part and whole, and what `stored` says. Assumes nothing.
use Rattle.std.specs.Prelude.{Ok, Err}
use mathlib.Core.Path.{◌≡◌, refl, sym, ap, ◌∙◌}
use Prim.Native.Nat.{ℕ, zero, suc, ◌<◌}
use native.Mathlib.Nat.{not-suc-le-zero, le_of_suc-le-suc}
use mathlib.Core.Bool.{Bool, true, false}
use mathlib.Core.List.{List, [], ◌∷◌, ◌++◌}
use lib.ListN.{length, take, drop, get_or}
use lib.Ieee.{Float, of_bits}
use Rattle.answers.specs.declared.Part.{Part}
use Rattle.answers.specs.Outcome.{Made, making}
use Rattle.answers.proofs.Outcomes.{ok_inj, ok_err, making_is}
use Rattle.numbers.specs.Arithmetic.{zero64}
use Rattle.numbers.specs.Finite.{finite}
use Rattle.lists.specs.Lists.{pick}
use Rattle.lists.specs.Slots.{fit}
use Rattle.lists.specs.Floats.{zeros, all_finite, first_not_finite, stored}
use Rattle.lists.proofs.Tests.{both, and_yes}

pub finite_append : (l m : List Float) → all_finite l ≡ true → all_finite m ≡ true → all_finite (l ++ m) ≡ true
unfolding all_finite
finite_append [] m p q = q
finite_append (x ∷ l) m p q = let s = both (finite x) (all_finite l) p in and_yes (finite x) (all_finite (l ++ m)) s.0 (finite_append l m s.1 q)

pub finite_take : (n : ℕ) (l : List Float) → all_finite l ≡ true → all_finite (take n l) ≡ true
unfolding all_finite
finite_take zero l p = refl
finite_take (suc n) [] p = refl
finite_take (suc n) (x ∷ l) p = let s = both (finite x) (all_finite l) p in and_yes (finite x) (all_finite (take n l)) s.0 (finite_take n l s.1)

pub finite_drop : (n : ℕ) (l : List Float) → all_finite l ≡ true → all_finite (drop n l) ≡ true
unfolding all_finite
finite_drop zero l p = p
finite_drop (suc n) [] p = refl
finite_drop (suc n) (x ∷ l) p = finite_drop n l (both (finite x) (all_finite l) p).1

pub finite_zeros : (n : ℕ) → all_finite (zeros n) ≡ true
unfolding all_finite of_bits
finite_zeros zero = refl
finite_zeros (suc n) = finite_zeros n

pub finite_fit : (n : ℕ) (l : List Float) → all_finite l ≡ true → all_finite (fit zero64 n l) ≡ true
unfolding fit
finite_fit n l p = finite_take n (l ++ zeros n) (finite_append l (zeros n) p (finite_zeros n))

pub finite_get_d_lem : (l : List Float) (k : ℕ) (o : Float) → k < length l → all_finite l ≡ true → finite (get_or l k o) ≡ true
unfolding all_finite
finite_get_d_lem [] k o lt p = absurd (not-suc-le-zero lt)
finite_get_d_lem (x ∷ l) zero o lt p = (both (finite x) (all_finite l) p).0
finite_get_d_lem (x ∷ l) (suc k) o lt p = finite_get_d_lem l k o (le_of_suc-le-suc lt) (both (finite x) (all_finite l) p).1

-- ---- numbers that were stored are the numbers made, and finite
pub stored_yes : (l : List Float) → all_finite l ≡ true → stored l ≡ Ok l
unfolding stored pick
stored_yes l e = rw e

pub stored_is : (l m : List Float) → stored l ≡ Ok m → (l ≡ m) × (all_finite m ≡ true)
unfolding stored pick
stored_is l m h = go (all_finite l) refl h
  where
    go : (b : Bool) → all_finite l ≡ b → ◌≡◌ {A = Made (List Float)} (pick b (Ok l) (Err (first_not_finite l))) (Ok m) → (l ≡ m) × (all_finite m ≡ true)
    go true e h = (ok_inj h, ap all_finite (sym (ok_inj h)) ∙ e)
    go false e h = absurd (ok_err (sym h))

-- also where they were stored for core k
pub making_stored : (part : Part) (k : ℕ) (l m : List Float) → making part k (stored l) ≡ Ok m → (l ≡ m) × (all_finite m ≡ true)
making_stored part k l m h = stored_is l m (making_is part k (stored l) m h)
