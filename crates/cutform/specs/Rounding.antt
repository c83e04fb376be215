-- Rounding as a walk over the cores, left to right: the state is the carry (000: `tt_round`). Definitions only.
use Rattle.std.specs.Prelude.{ℕ, suc, Bool, true, false, List, [], ◌∷◌, map, ltb, length, Float, Ok}
use Rattle.answers.specs.declared.Part.TheVariants.{Factor}
use Rattle.answers.specs.Outcome.{Answer, bind, making}
use Rattle.lists.specs.Walks.{walk}
use Rattle.lists.specs.Lists.{flat}
use Rattle.lists.specs.Slots.{fit}
use Rattle.lists.specs.Floats.{stored}
use Rattle.shape.specs.Limits.{most_axes}
use Rattle.shape.specs.Cores.{Core, core_with}
use Rattle.cutform.specs.declared.Bond.{Bond}
use Rattle.cutform.specs.declared.Cutting.{Cutting}
use Rattle.cutform.specs.Bonds.{no_bond, cut_bond, absorb}

-- what a bond hands on: nothing left of core 0, else so many rows of numbers
pub data Carry : Type 0 where
  none : Carry
  some : ℕ → List Float → Carry

-- what rounding leaves of a core, and what is said of its bond: one at a bond, none at the last core
pub record Cut : Type 0 where
  pub core : Core
  pub bonds : List Bond

-- core 0 absorbs nothing; an absorbed core is core k's own
abbrev pub taken_in : ℕ → Carry → Core → Answer Core
taken_in k none c = Ok c
taken_in k (some r b) c = bind (making Factor k (stored (absorb r b c))) (λ l. Ok (core_with r c.n c.rr l))

-- a core with a bond to its right is cut, the last one is not
abbrev pub cut_if : Bool → ℕ → Cutting → Core → Answer (Carry × Cut)
cut_if true k cutting c = bind (cut_bond k cutting c) (λ b. Ok (some b.bond.rank b.carry, record { core = b.core; bonds = b.bond ∷ [] }))
cut_if false k cutting c = Ok (none, record { core = c; bonds = [] })

unfoldable pub round_core : Cutting → Bool → ℕ → Carry → Core → Answer (Carry × Cut)
round_core cutting more k s c = bind (taken_in k s c) (λ t. cut_if more k cutting t)

unfoldable pub rounding : Cutting → List Core → Answer (List (Carry × Cut))
rounding cutting cs = walk (λ (k : ℕ). round_core cutting (ltb (suc k) (length cs)) k) 0 none cs

-- ---- what a walk left
abbrev pub cores_in : List (Carry × Cut) → List Core
cores_in tr = map (λ (r : Carry × Cut). r.1.core) tr

abbrev pub bonds_in : List (Carry × Cut) → List Bond
bonds_in tr = flat (map (λ (r : Carry × Cut). r.1.bonds) tr)

-- the numbers that a bond hands on, right of the last core none
abbrev pub numbers_in : Carry → List Float
numbers_in none = []
numbers_in (some r b) = b

-- ---- what is left of a chain: its cores, and what is said of its bonds, in an array with bond k's at k
pub record After : Type 0 where
  pub cores : List Core
  pub bonds : List Bond

abbrev pub after_cuts : List (Carry × Cut) → After
after_cuts tr = record { cores = cores_in tr; bonds = fit no_bond most_axes (bonds_in tr) }
