-- What the bonds of a rounding dropped is finite, wherever it stands in the array that a call answers. Assumes nothing.
use Rattle.std.specs.Prelude.{Ok}
use mathlib.Core.Path.{◌≡◌, refl, ap, ◌∙◌, subst}
use Prim.Native.Nat.{ℕ, zero, suc}
use native.Mathlib.Omega.{arith}
use mathlib.Core.Bool.{Bool, true, false}
use mathlib.Core.List.{List, [], ◌∷◌, ◌++◌}
use lib.Dec.{ltb}
use lib.ListN.{length, get_or, get_or-eq_default}
use lib.Ieee.{of_bits}
use Rattle.numbers.specs.Finite.{finite}
use Rattle.answers.specs.Outcome.{Answer}
use Rattle.answers.proofs.Outcomes.{bind_ok, ok_inj}
use Rattle.lists.specs.Lists.{flat}
use Rattle.lists.specs.Slots.{fit}
use Rattle.lists.proofs.Slots.{fit_length}
use Rattle.lists.proofs.Tests.{below_or_not}
use Rattle.lists.proofs.Walks.{All, walk_all}
use Rattle.shape.specs.Limits.{most_axes}
use Rattle.shape.specs.Cores.{Core}
use Rattle.cutform.specs.declared.Bond.{Bond}
use Rattle.cutform.specs.declared.Cutting.{Cutting}
use Rattle.cutform.specs.Bonds.{no_bond, cut_bond}
use Rattle.cutform.specs.Rounding.{Carry, none, some, Cut, taken_in, cut_if, round_core, rounding, bonds_in, after_cuts}
use Rattle.cutform.proofs.Made.{cut_from_lem}
use Rattle.cutform.proofs.CountedCall.{in_array}

-- at every place, also past the end
abbrev pub Fine : List Bond → Type 0
Fine l = (j : ℕ) → finite (get_or l j no_bond).dropped ≡ true

none_fine : Fine []
unfolding of_bits
none_fine j = refl

joined_fine : (a b : List Bond) → Fine a → Fine b → Fine (a ++ b)
joined_fine [] b f g j = g j
joined_fine (x ∷ a) b f g zero = f zero
joined_fine (x ∷ a) b f g (suc j) = joined_fine a b (λ i. f (suc i)) g j

-- one zone
one_fine : (b : Bond) → finite b.dropped ≡ true → Fine (b ∷ [])
one_fine b f zero = f
one_fine b f (suc j) = none_fine j

cut_fine : (more : Bool) (k : ℕ) (cutting : Cutting) (c : Core) (r : Carry × Cut) → cut_if more k cutting c ≡ Ok r → Fine r.1.bonds
cut_fine true k cutting c r h =
    let A = bind_ok (cut_bond k cutting c) (λ b. Ok (some b.bond.rank b.carry, record { core = b.core; bonds = b.bond ∷ [] })) r h in
    subst (λ (x : Carry × Cut). Fine x.1.bonds) (ok_inj A.2) (one_fine A.0.bond (cut_from_lem k cutting c A.0 A.1).dropped_fine)
cut_fine false k cutting c r h = subst (λ (x : Carry × Cut). Fine x.1.bonds) (ok_inj h) none_fine

zone_fine : (cutting : Cutting) (more : Bool) (k : ℕ) (s : Carry) (c : Core) (r : Carry × Cut) → round_core cutting more k s c ≡ Ok r → Fine r.1.bonds
unfolding round_core
zone_fine cutting more k s c r h = let A = bind_ok (taken_in k s c) (λ t. cut_if more k cutting t) r h in cut_fine more k cutting A.0 r A.2

-- all zones
abbrev FineZone : ℕ → Carry × Cut → Type 0
FineZone k r = Fine r.1.bonds

flat_fine : (k : ℕ) (tr : List (Carry × Cut)) → All FineZone k tr → Fine (bonds_in tr)
unfolding flat
flat_fine k [] a = none_fine
flat_fine k (r ∷ tr) a = joined_fine r.1.bonds (bonds_in tr) a.0 (flat_fine (suc k) tr a.1)

array_fine : (n : ℕ) (l : List Bond) → Fine l → Fine (fit no_bond n l)
unfolding of_bits
array_fine n l f j = below_or_not j n
    (λ a. ap (λ (b : Bond). finite b.dropped) (in_array no_bond n l j a) ∙ f j)
    (λ a. let m = fit_length no_bond n l in ap (λ (b : Bond). finite b.dropped) (get_or-eq_default (fit no_bond n l) no_bond {n = j} (omega arith)))

any_core : (k : ℕ) (cs : List Core) → All (λ (j : ℕ) (c : Core). Unit {0}) k cs
any_core k [] = tt
any_core k (c ∷ cs) = (tt, any_core (suc k) cs)

pub rounding_fine : (cutting : Cutting) (cs : List Core) (cuts : List (Carry × Cut)) → rounding cutting cs ≡ Ok cuts → Fine (after_cuts cuts).bonds
unfolding rounding
rounding_fine cutting cs cuts h =
    let turn : ℕ → Carry → Core → Answer (Carry × Cut) = λ k. round_core cutting (ltb (suc k) (length cs)) k in
    array_fine most_axes (bonds_in cuts) (flat_fine 0 cuts
    (walk_all turn (λ (j : ℕ) (c : Core). Unit {0}) FineZone (λ k s c r a e. zone_fine cutting (ltb (suc k) (length cs)) k s c r e) 0 none cs cuts (any_core 0 cs) h))
