-- The sweeps that `tt_round` answers are those of the stated iteration, bond by bond, and so for every call that ends as it does. Assumes nothing.
use mathlib.Core.Path.{◌≡◌, refl, sym, ◌∙◌, subst}
use Prim.Native.Nat.{ℕ, zero, suc, ◌≤◌, ◌<◌}
use native.Mathlib.Omega.{arith}
use mathlib.Core.Bool.{true}
use mathlib.Core.List.{List, [], ◌∷◌, ◌++◌}
use lib.ListN.{length, get_or, replicate, length-replicate, get_or-replicate, get_or-eq_default}
use lib.Seq.{get_or-take}
use lib.Ieee.{Float}
use Rattle.std.specs.Prelude.{Ok, Err}
use Rattle.answers.specs.Outcome.{Answer, bind}
use Rattle.answers.proofs.Outcomes.{bind_ok}
use Rattle.answers.proofs.Checks.{then_is}
use Rattle.lists.specs.Slots.{fit}
use Rattle.lists.specs.Walks.{state_at}
use Rattle.lists.proofs.Tests.{below_or_not}
use Rattle.lists.proofs.Tables.{listed_length}
use Rattle.shape.specs.declared.Shape.{Shape}
use Rattle.shape.specs.Limits.{most_axes}
use Rattle.shape.specs.Shapes.{chain_ok}
use Rattle.shape.specs.Cores.{Core, core_at, cores_of}
use Rattle.shape.proofs.Shaped.{shaped}
use Rattle.cutform.specs.declared.Cutting.{Cutting}
use Rattle.cutform.specs.Bonds.{no_bond}
use Rattle.cutform.specs.Rounding.{Carry, none, Cut, After, rounding, bonds_in, after_cuts}
use Rattle.cutform.specs.Claims.{BondCounted, core_in, RoundCounted}
use Rattle.cutform.proofs.CountedBonds.{rounding_counted}
use Rattle.cutform.specs.Call.{ended_as, ended_by, round_ok, round_call}

-- ---- an array holds at k what the list has there
padded : {A : Type 0} (o : A) (n : ℕ) (x : List A) (k : ℕ) → get_or (x ++ replicate n o) k o ≡ get_or x k o
padded o n [] k =
    below_or_not k n (λ l. get_or-replicate n k o o l) (λ l. get_or-eq_default (replicate n o) o (subst (λ (m : ℕ). m ≤ k) (sym (length-replicate n o)) l))
padded o n (y ∷ x) zero = refl
padded o n (y ∷ x) (suc k) = padded o n x k

pub in_array : {A : Type 0} (o : A) (n : ℕ) (x : List A) (k : ℕ) → k < n → get_or (fit o n x) k o ≡ get_or x k o
unfolding fit
in_array o n x k lt = get_or-take n (x ++ replicate n o) k o lt ∙ padded o n x k

-- a chain that is accepted has no more cores than an array has places
pub cores_most : (s : Shape) (chain : List Float) → chain_ok s ≡ Ok tt → length (cores_of s chain) ≤ most_axes
unfolding cores_of
cores_most s chain ok = let m = (shaped s (λ (k : ℕ). true) ok).most in let n = listed_length s.d 0 (core_at s chain) in omega arith

-- the array that a rounding of the cores cs leaves has its sweeps
pub after_counted : (cutting : Cutting) (cs : List Core) (cuts : List (Carry × Cut)) → length cs ≤ most_axes → rounding cutting cs ≡ Ok cuts
    → RoundCounted cutting cs (after_cuts cuts).bonds
after_counted cutting cs cuts most ran =
    let R = rounding_counted cutting cs cuts ran in
    record {
      cuts = R.cuts;
      ran = R.ran;
      bond = λ k lt. subst (BondCounted cutting.mode k (state_at none R.cuts k) (core_in cs k)) (sym (in_array no_bond most_axes (bonds_in cuts) k (omega arith))) (R.bond k lt);
    }

module _ (s : Shape) (chain scratch : List Float) where
  -- a call that ends so was accepted, with what its work left
  pub left_fits : (o : Answer After) → (ended_as s chain scratch o).result.verdict ≡ Ok tt → (a : After) × (o ≡ Ok a)
  unfolding ended_as
  left_fits (Ok a) e = (a, refl)
  left_fits (Err r) e = let z : ◌≡◌ {A = ℕ} 0 1 = cc in absurd (omega arith)

  pub ended_fits : (o : Answer (List (Carry × Cut))) → (ended_by s chain scratch o).result.verdict ≡ Ok tt → (cuts : List (Carry × Cut)) × (o ≡ Ok cuts)
  ended_fits o e = let A = bind_ok o (λ tr. Ok (after_cuts tr)) _ (left_fits (bind o (λ tr. Ok (after_cuts tr))) e).1 in (A.0, A.1)

  -- and where that was a rounding of the cores cs, its sweeps are the rounding's
  pub ended_counted : (cutting : Cutting) (cs : List Core) (o : Answer (List (Carry × Cut))) (cuts : List (Carry × Cut)) → length cs ≤ most_axes → o ≡ Ok cuts
      → rounding cutting cs ≡ Ok cuts → RoundCounted cutting cs (ended_by s chain scratch o).result.bonds
  unfolding ended_as
  ended_counted cutting cs o cuts most e ran =
      subst (λ (x : Answer (List (Carry × Cut))). RoundCounted cutting cs (ended_by s chain scratch x).result.bonds) (sym e) (after_counted cutting cs cuts most ran)

-- THE CALL
pub round_counted : (s : Shape) (cutting : Cutting) (chain scratch : List Float) → (round_call s cutting chain scratch).result.verdict ≡ Ok tt
    → RoundCounted cutting (cores_of s chain) (round_call s cutting chain scratch).result.bonds
unfolding round_call round_ok
round_counted s cutting chain scratch e =
    let A = ended_fits s chain scratch _ e in
    let B = then_is (round_ok s cutting chain (length scratch)) (rounding cutting (cores_of s chain)) A.0 A.1 in
    ended_counted s chain scratch cutting (cores_of s chain) _ A.0 (cores_most s chain (then_is (chain_ok s) _ tt B.0).0) A.1 B.1
