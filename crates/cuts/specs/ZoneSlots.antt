-- One zone of a rounding in its slots. Definitions for code only.
use Rattle.std.specs.Prelude.{◌≡◌, ℕ, zero, suc, ◌-◌, ◌*◌, ◌≤◌, Bool, true, false, List, [], ◌∷◌, Float}
use Rattle.numbers.specs.Arithmetic.{zero64}
use Rattle.lists.specs.Slots.{fit}
use Rattle.shape.specs.Limits.{most_rank}
use Rattle.cutform.specs.declared.Bond.{Bond}
use Rattle.cutform.specs.Rounding.{Carry, none, some, Cut, numbers_in}

-- the carry left of zone k: r rows, the numbers b
abbrev pub carry_from : ℕ → ℕ → List Float → Carry
carry_from zero r b = none
carry_from (suc k) r b = some r b

-- what a zone leaves, laid into a slot of a numbers for its core and one of b for its carry
pub record Laid : Type 0 where
  pub left : ℕ
  pub right : ℕ
  pub bonds : List Bond
  pub core : List Float
  pub carry : List Float

abbrev pub laid_cut : ℕ → ℕ → Carry × Cut → Laid
laid_cut a b x = record {
  left = x.1.core.rl;
  right = x.1.core.rr;
  bonds = x.1.bonds;
  core = fit zero64 a x.1.core.entries;
  carry = fit zero64 b (numbers_in x.0);
}

-- the same as code answers it; `more` says whether there is a bond, and where there is none b has the core's right rank alone
abbrev pub laid_as : Bool → ℕ → Bond → List Float → List Float → Laid
laid_as true l b core carry = record { left = l; right = b.rank; bonds = b ∷ []; core = core; carry = carry }
laid_as false l b core carry = record { left = l; right = b.rank; bonds = []; core = core; carry = carry }

-- what a zone asks: `slot`, `carries` and `room` are lengths
pub record ZoneFits (k : ℕ) (more : Bool) (r rl n rr from mid to slot carries room : ℕ) : Type 0 where
  pub least : 1 ≤ r
  pub rows : r ≤ rl
  pub points : 1 ≤ n
  pub columns : 1 ≤ rr
  pub few : rr ≤ most_rank
  pub first : k ≡ 0 → r ≡ rl
  pub core : rl * n * rr ≤ slot
  pub copy : rl * n * rr ≤ room
  pub left : from ≤ mid
  pub right : mid ≤ to
  pub held : to ≤ carries
  pub taken : 1 ≤ k → r * rl ≤ mid - from
  pub carry : more ≡ true → rr * rr ≤ to - mid
  pub ends : more ≡ false → to ≡ mid
