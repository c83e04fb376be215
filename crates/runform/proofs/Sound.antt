-- What the laws of runs ask of the rules for one zone.
use Rattle.std.specs.Prelude.{Ok}
use mathlib.Core.Path.{◌≡◌}
use Prim.Native.Nat.{ℕ, ◌≤◌}
use mathlib.Core.Bool.{Bool, true}
use mathlib.Core.List.{List}
use lib.ListN.{length}
use lib.Ieee.{Float}
use Rattle.lists.specs.Floats.{all_finite}
use Rattle.shape.specs.Cores.{Core}
use Rattle.cutform.specs.Rounding.{Carry, Cut}
use Rattle.cutform.proofs.Cuts.{Carried, volume, CutOf}
use Rattle.stepform.specs.declared.Settings.{Settings}
use Rattle.stepform.specs.Zones.{Zone, Rules}

-- what is stored is finite; a bond is told with the rank of its carry, which lies in 1 to r_right, and its carry has rank*r_right numbers; there is a sum for each right index
pub record Sound (R : Rules) : Type 0 where
  pub shifted : (t : Settings) (k : ℕ) (z : Zone) (l : List Float) → all_finite z.core.entries ≡ true → R.shift t k z ≡ Ok l → all_finite l ≡ true
  pub scaled : (t : Settings) (l m : List Float) → R.scale t l ≡ Ok m → all_finite m ≡ true
  pub rounded : (t : Settings) (more : Bool) (k : ℕ) (s : Carry) (c : Core) (r : Carry × Cut) → all_finite c.entries ≡ true → R.round t more k s c ≡ Ok r → all_finite r.1.core.entries ≡ true
  pub carried : (t : Settings) (k : ℕ) (s : Carry) (c : Core) (r : Carry × Cut) → 1 ≤ c.rr → R.round t true k s c ≡ Ok r → Carried c.rr r
  pub weighed : (k : ℕ) (c : Core) (f e m : List Float) → R.weigh k c f e ≡ Ok m → (length m ≡ c.rr) × (all_finite m ≡ true)

-- ---- how many numbers are made: not needed for a replacement to equal a fresh run, but for what a run holds to be the step's own cores
pub record Sized (R : Rules) : Type 0 where
  pub shifted : (t : Settings) (k : ℕ) (z : Zone) (l : List Float) → length z.core.entries ≡ volume z.core → R.shift t k z ≡ Ok l → length l ≡ volume z.core
  pub scaled : (t : Settings) (l m : List Float) → R.scale t l ≡ Ok m → length m ≡ length l
  pub rounded : (t : Settings) (more : Bool) (k : ℕ) (s : Carry) (c : Core) (r : Carry × Cut) → length c.entries ≡ volume c → R.round t more k s c ≡ Ok r → CutOf more s c r
