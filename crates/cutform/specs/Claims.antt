-- What a bond's sweeps claim, which proofs/ proves of a rounding: the stated iteration, beside which each bond's count and flag are held.
-- Definitions only.
use Rattle.std.specs.Prelude.{◌≡◌, ◌⊎◌, ℕ, zero, suc, ◌≤◌, ◌<◌, Bool, true, false, List, [], length, get_or, Ok}
use Rattle.answers.specs.Outcome.{Made, bind}
use Rattle.lists.specs.Walks.{state_at}
use Rattle.shape.specs.Cores.{Core, core_with}
use Rattle.cutform.specs.Rotation.{eye}
use Rattle.cutform.specs.declared.Bond.{Bond}
use Rattle.cutform.specs.declared.Cutting.{Cutting}
use Rattle.cutform.specs.Modes.{settled}
use Rattle.cutform.specs.Sweeps.{Eig, eig, sweep, most_sweeps}
use Rattle.cutform.specs.Bonds.{gram, no_bond}
use Rattle.cutform.specs.Rounding.{Carry, none, Cut, taken_in, rounding}

-- c sweeps, one after another
unfoldable pub sweeps : ℕ → ℕ → ℕ → Eig → Made Eig
sweeps zero mode n e = Ok e
sweeps (suc c) mode n e = bind (sweep mode n e) (λ x. sweeps c mode n x)

-- c sweeps lead from e to x: before each of them the matrix was not settled; b is whether it is at the end; and the sweeps ended at the most there may
-- be, or since it was settled
pub record Counted (mode most n : ℕ) (e : Eig) (c : ℕ) (b : Bool) (x : Eig) : Type 0 where
  pub bound : c ≤ most
  pub made : sweeps c mode n e ≡ Ok x
  pub needed : (i : ℕ) (y : Eig) → i < c → sweeps i mode n e ≡ Ok y → settled mode n y.g ≡ false
  pub flag : b ≡ settled mode n x.g
  pub stopped : (c ≡ most) ⊎ (b ≡ true)

-- the sweeps of bond k, whose left core is c, with the carry s from the left: those of the iteration on the Gram matrix of the core as it then is, the
-- carry taken in
pub record BondCounted (mode k : ℕ) (s : Carry) (c : Core) (bond : Bond) : Type 0 where
  pub core : Core
  pub taken : taken_in k s c ≡ Ok core
  pub end : Eig
  pub counted : Counted mode most_sweeps core.rr (eig (gram core) (eye core.rr)) bond.sweeps bond.settled end

abbrev pub core_in : List Core → ℕ → Core
core_in cs k = get_or cs k (core_with 0 0 0 [])

-- the sweeps of the bonds that a rounding of the cores cs cuts, bond k's at k
pub record RoundCounted (cutting : Cutting) (cs : List Core) (bonds : List Bond) : Type 0 where
  pub cuts : List (Carry × Cut)
  pub ran : rounding cutting cs ≡ Ok cuts
  pub bond : (k : ℕ) → suc k < length cs → BondCounted cutting.mode k (state_at none cuts k) (core_in cs k) (get_or bonds k no_bond)
