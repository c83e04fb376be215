-- In absolute mode a cut, a zone of any walk that rounds, and so a rounding, is the scope's: its answer and its refusals. Assumes nothing.
use mathlib.Core.Path.{◌≡◌, refl, ap, ◌∙◌}
use Prim.Native.Nat.{ℕ, zero, suc}
use mathlib.Core.Bool.{Bool, true, false}
use mathlib.Core.List.{List}
use lib.Dec.{ltb}
use lib.ListN.{length}
use lib.Ieee.{Float}
use Rattle.answers.specs.declared.Part.TheVariants.{Spectrum}
use Rattle.answers.specs.Outcome.{making}
use Rattle.answers.proofs.Outcomes.{bind_cong, bind_same}
use Rattle.lists.specs.Lists.{pick}
use Rattle.lists.specs.Floats.{stored}
use Rattle.lists.proofs.Walks.{walk_cong}
use Rattle.shape.specs.Cores.{Core}
use Rattle.cutform.specs.Rotation.{eye}
use Rattle.cutform.specs.Modes.{absolute_mode, absolute_cut, settled, skipped, divided}
use Rattle.cutform.specs.Sweeps.{Eig, eig, rotate, sweep, sweeps_from, diagonalized, most_sweeps}
use Rattle.cutform.specs.Factors.{left_factor}
use Rattle.cutform.specs.Bonds.{gram, cut_bond}
use Rattle.cutform.specs.Rounding.{Carry, none, taken_in, cut_if, round_core, rounding}
use Rattle.cutform.specs.Absolute as scope

-- ---- the three tests, each where it is made
pub absolute_sweep : (n : ℕ) (e : Eig) → sweep absolute_mode n e ≡ scope.sweep n e
unfolding sweep rotate skipped pick scope.sweep scope.rotate
absolute_sweep n e = refl

pub absolute_settled : (n : ℕ) (g : List Float) → settled absolute_mode n g ≡ scope.settled n g
unfolding settled pick scope.settled
absolute_settled n g = refl

pub absolute_factor : (c : Core) (r : ℕ) (ss : List Float) (js : List ℕ) (v : List Float) → left_factor absolute_mode c r ss js v ≡ scope.left_factor c r ss js v
unfolding left_factor divided pick scope.left_factor
absolute_factor c r ss js v = refl

-- ---- the sweeps
absolute_from : (left : ℕ) (b : Bool) (n c : ℕ) (e : Eig) → sweeps_from left b absolute_mode n c e ≡ scope.sweeps_from left b n c e
unfolding sweeps_from scope.sweeps_from
absolute_from zero b n c e = refl
absolute_from (suc left) true n c e = refl
absolute_from (suc left) false n c e =
    bind_same _ _ _ _ (absolute_sweep n e)
    (λ x. absolute_from left (settled absolute_mode n x.g) n (suc c) x ∙ ap (λ (b : Bool). scope.sweeps_from left b n (suc c) x) (absolute_settled n x.g))

absolute_diagonal : (n : ℕ) (e : Eig) → diagonalized absolute_mode n e ≡ scope.diagonalized n e
unfolding diagonalized scope.diagonalized
absolute_diagonal n e = absolute_from most_sweeps _ n 0 e ∙ ap (λ (b : Bool). scope.sweeps_from most_sweeps b n 0 e) (absolute_settled n e.g)

-- ---- the cut of a bond, and the rounding of a chain
pub absolute_cut_lem : (k : ℕ) (eps : Float) (c : Core) → cut_bond k (absolute_cut eps) c ≡ scope.cut_bond k eps c
unfolding cut_bond left_factor divided pick scope.cut_bond scope.left_factor
absolute_cut_lem k eps c =
    bind_cong (making Spectrum k (stored (gram c))) _ _ (λ g h. bind_same _ _ _ _ (ap (making Spectrum k) (absolute_diagonal c.rr (eig g (eye c.rr)))) (λ w. refl))

absolute_if : (more : Bool) (k : ℕ) (eps : Float) (c : Core) → cut_if more k (absolute_cut eps) c ≡ scope.cut_if more k eps c
absolute_if true k eps c = bind_same _ _ _ _ (absolute_cut_lem k eps c) (λ b. refl)
absolute_if false k eps c = refl

pub absolute_core : (eps : Float) (more : Bool) (k : ℕ) (s : Carry) (c : Core) → round_core (absolute_cut eps) more k s c ≡ scope.round_core eps more k s c
unfolding round_core scope.round_core
absolute_core eps more k s c = bind_cong (taken_in k s c) _ _ (λ t h. absolute_if more k eps t)

pub absolute_rounding : (eps : Float) (cs : List Core) → rounding (absolute_cut eps) cs ≡ scope.rounding eps cs
unfolding rounding scope.rounding
absolute_rounding eps cs = walk_cong _ _ (λ k s c. absolute_core eps (ltb (suc k) (length cs)) k s c) 0 none cs
