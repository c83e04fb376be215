-- What is said of a bond after a further step: of what was dropped before and in it, neither is greater than what is told, which is one of them. So `evolve` answers of each bond
-- the greatest value that it dropped in any step. Assumes nothing.
use mathlib.Core.Path.{◌≡◌, refl, sym, ap, ◌∙◌, subst}
use mathlib.Core.Logic.{◌⊎◌, inl, inr, ⊎_elim}
use Prim.Native.Nat.{ℕ, zero, suc, ◌<◌}
use native.Mathlib.Nat.{not-suc-le-zero, le_of_suc-le-suc}
use native.Mathlib.Omega.{arith}
use mathlib.Core.Bool.{Bool, true, false, true≢false}
use mathlib.Core.List.{List}
use lib.ListN.{length, replicate, get_or-replicate}
use lib.Ieee.{Float, lt, of_bits}
use Rattle.numbers.specs.Arithmetic.{zero64}
use Rattle.numbers.specs.Finite.{finite}
use Rattle.std.specs.Prelude.{Ok}
use Rattle.answers.specs.Outcome.{Answer, bind}
use Rattle.answers.proofs.Outcomes.{bind_ok, ok_inj}
use Rattle.answers.proofs.Checks.{then_is}
use Rattle.lists.specs.Lists.{pick}
use Rattle.lists.proofs.Order.{lt_not_self, lt_then_lt, lt_then_eq, lt_or_eq, eq_swap}
use Rattle.lists.proofs.Slots.{fit_length}
use Rattle.lists.proofs.Tables.{get_or_tab_lem, get_d_any}
use Rattle.lists.proofs.Tests.{fails}
use Rattle.shape.specs.declared.Shape.{Shape}
use Rattle.shape.specs.Limits.{most_axes}
use Rattle.shape.specs.Cores.{Core, cores_of}
use Rattle.stepform.specs.declared.Axis.{Axis}
use Rattle.stepform.specs.declared.Settings.{Settings}
use Rattle.cutform.specs.declared.Bond.{Bond}
use Rattle.cutform.specs.declared.Cutting.{Cutting}
use Rattle.cutform.specs.Bonds.{no_bond, past_bond}
use Rattle.cutform.specs.Keeping.{bond_among, dropped_among}
use Rattle.cutform.specs.Rounding.{Carry, Cut, After, cores_in, bonds_in, after_cuts}
use Rattle.cutform.specs.Call.{ended_as}
use Rattle.cutform.proofs.CountedCall.{left_fits}
use Rattle.cutform.proofs.Fine.{rounding_fine}
use Rattle.stepform.specs.Steps.{step, greater, further_bond, further, steps_from, steps_of}
use Rattle.stepform.specs.Lone.{course_finite, course_ok}
use Rattle.stepform.specs.Call.{step_ok, settings_for, evolve_over, evolve_call}
use Rattle.stepform.specs.Claims.{cores_after, DroppedIn, Greatest}
use Rattle.stepform.proofs.CountedSteps.{step_parts}

-- z is the greater of x and y
pub record Greater (x y z : Float) : Type 0 where
  pub first : lt z x ≡ false
  pub second : lt z y ≡ false
  pub one : (z ≡ x) ⊎ (z ≡ y)

pub greater_is : (x y : Float) → finite x ≡ true → finite y ≡ true → Greater x y (greater x y)
unfolding greater pick
greater_is x y f g = go (lt x y) refl
  where
    own : (z : Float) → finite z ≡ true → lt z z ≡ false
    own z h = fails (lt z z) (lt_not_self z h)

    go : (b : Bool) → lt x y ≡ b → Greater x y (pick b y x)
    go true e = record { first = fails (lt y x) (λ h. lt_not_self x f (lt_then_lt x y x f g f e h)); second = own y g; one = inr refl }
    go false e = record { first = own x f; second = e; one = inl refl }

-- of a bond: all else is the further step's
pub record Further (said b told : Bond) : Type 0 where
  pub rank : told.rank ≡ b.rank
  pub sweeps : told.sweeps ≡ b.sweeps
  pub settled : told.settled ≡ b.settled
  pub dropped : Greater said.dropped b.dropped told.dropped

pub further_bond_lem : (said b : Bond) → finite said.dropped ≡ true → finite b.dropped ≡ true → Further said b (further_bond said b)
unfolding further_bond
further_bond_lem said b f g = record { rank = refl; sweeps = refl; settled = refl; dropped = greater_is said.dropped b.dropped f g }

-- of every bond
pub further_at : (said bonds : List Bond) (k : ℕ) → k < most_axes → bond_among (further said bonds) k ≡ further_bond (bond_among said k) (bond_among bonds k)
unfolding further
further_at said bonds k l = get_or_tab_lem most_axes (λ (j : ℕ). further_bond (bond_among said j) (bond_among bonds j)) k past_bond l

-- ---- over all steps
-- what is not below b is not below a, where b is not
still_not : (a b c : Float) → finite a ≡ true → finite b ≡ true → finite c ≡ true → lt c b ≡ false → lt b a ≡ false → lt c a ≡ false
still_not a b c f g h p q = fails (lt c a) (λ e.
    ⊎_elim (λ k. true≢false (sym k ∙ q))
    (λ k. ⊎_elim (λ j. true≢false (sym (lt_then_eq c a b h f g e (eq_swap b a g f j)) ∙ p)) (λ j. true≢false (sym (lt_then_lt c a b h f g e j) ∙ p)) k)
    (lt_or_eq b a g f))

pick_finite : (b : Bool) (x y : Float) → finite x ≡ true → finite y ≡ true → finite (pick b y x) ≡ true
unfolding pick
pick_finite true x y f g = g
pick_finite false x y f g = f

module _ (t : Settings) (xs : List Axis) (k : ℕ) (within : k < most_axes) where
  abbrev value : After → Float
  value a = dropped_among a.bonds k

  -- what a step drops is finite
  step_fine : (cs : List Core) (cuts : List (Carry × Cut)) → step t xs cs ≡ Ok cuts → finite (value (after_cuts cuts)) ≡ true
  step_fine cs cuts h =
      let P = step_parts t xs cs cuts h in
      let n = fit_length no_bond most_axes (bonds_in cuts) in
      ap (λ (b : Bond). finite b.dropped) (get_d_any (after_cuts cuts).bonds k past_bond no_bond (omega arith)) ∙ rounding_fine t.cutting P.0 cuts P.2 k

  -- m steps that start with a and end with b: what is told is not below what was told before, nor below any step's value, and is one of these
  record From (m : ℕ) (a b : After) : Type 0 where
    before : lt (value b) (value a) ≡ false
    most : (i : ℕ) (y : Float) → i < m → DroppedIn i t xs a.cores k y → lt (value b) y ≡ false
    one : (value b ≡ value a) ⊎ ((i : ℕ) × (i < m) × DroppedIn i t xs a.cores k (value b))
    fine : finite (value b) ≡ true

  abbrev after : After → List (Carry × Cut) → After
  after a cuts = record { cores = cores_in cuts; bonds = further a.bonds (after_cuts cuts).bonds }

  -- a value of a later step, seen from one step before
  earlier : (i : ℕ) (cs : List Core) (cuts : List (Carry × Cut)) (y : Float) → step t xs cs ≡ Ok cuts → DroppedIn i t xs (cores_in cuts) k y → DroppedIn (suc i) t xs cs k y
  unfolding cores_after
  earlier i cs cuts y h D = record {
    cores = D.cores;
    before = ap (λ (o : Answer (List (Carry × Cut))). bind o (λ tr. cores_after i t xs (cores_in tr))) h ∙ D.before;
    cuts = D.cuts;
    made = D.made;
    value = D.value;
  }

  later : (i : ℕ) (cs : List Core) (cuts : List (Carry × Cut)) (y : Float) → step t xs cs ≡ Ok cuts → DroppedIn (suc i) t xs cs k y → DroppedIn i t xs (cores_in cuts) k y
  unfolding cores_after
  later i cs cuts y h D = record {
    cores = D.cores;
    before = sym (ap (λ (o : Answer (List (Carry × Cut))). bind o (λ tr. cores_after i t xs (cores_in tr))) h) ∙ D.before;
    cuts = D.cuts;
    made = D.made;
    value = D.value;
  }

  own : (cs : List Core) (cuts : List (Carry × Cut)) → step t xs cs ≡ Ok cuts → DroppedIn 0 t xs cs k (value (after_cuts cuts))
  unfolding cores_after
  own cs cuts h = record { cores = cs; before = refl; cuts = cuts; made = h; value = refl }

  own_only : (cs : List Core) (cuts : List (Carry × Cut)) (y : Float) → step t xs cs ≡ Ok cuts → DroppedIn 0 t xs cs k y → value (after_cuts cuts) ≡ y
  unfolding cores_after
  own_only cs cuts y h D =
      let e : cs ≡ D.cores = ok_inj D.before in
      let c : cuts ≡ D.cuts = ok_inj (sym h ∙ ap (step t xs) e ∙ D.made) in
      ap (λ (x : List (Carry × Cut)). value (after_cuts x)) c ∙ D.value

  told : (a : After) (cuts : List (Carry × Cut)) → value (after a cuts) ≡ greater (value a) (value (after_cuts cuts))
  unfolding further_bond
  told a cuts = ap (λ (c : Bond). c.dropped) (further_at a.bonds (after_cuts cuts).bonds k within)

  greater_fine : (x y : Float) → finite x ≡ true → finite y ≡ true → finite (greater x y) ≡ true
  unfolding greater
  greater_fine x y f g = pick_finite (lt x y) x y f g

  -- no step dropped more: the first one, and those behind it
  each : (m : ℕ) (a b : After) (cuts : List (Carry × Cut)) → step t xs a.cores ≡ Ok cuts → finite (value (after_cuts cuts)) ≡ true → finite (value (after a cuts)) ≡ true
      → From m (after a cuts) b → lt (value (after a cuts)) (value (after_cuts cuts)) ≡ false
      → (i : ℕ) (z : Float) → i < suc m → DroppedIn i t xs a.cores k z → lt (value b) z ≡ false
  each m a b cuts h g w R q zero z l D =
      subst (λ (y : Float). lt (value b) y ≡ false) (own_only a.cores cuts z h D)
      (still_not (value (after_cuts cuts)) (value (after a cuts)) (value b) g w R.fine R.before q)
  each m a b cuts h g w R q (suc i) z l D = R.most i z (le_of_suc-le-suc l) (later i a.cores cuts z h D)

  from : (m : ℕ) (a b : After) → finite (value a) ≡ true → steps_from m t xs a ≡ Ok b → From m a b
  unfolding steps_from
  from zero a b f h =
      let e : a ≡ b = ok_inj h in
      let x : value b ≡ value a = ap value (sym e) in
      record {
        before = ap (λ (y : Float). lt y (value a)) x ∙ fails (lt (value a) (value a)) (lt_not_self (value a) f);
        most = λ i y l D. absurd (not-suc-le-zero l);
        one = inl x;
        fine = ap finite x ∙ f;
      }
  from (suc m) a b f h =
      let A = bind_ok (step t xs a.cores) (λ tr. steps_from m t xs (after a tr)) b h in
      let cuts = A.0 in
      let x = value a in
      let y = value (after_cuts cuts) in
      let g = step_fine a.cores cuts A.1 in
      let e : value (after a cuts) ≡ greater x y = told a cuts in
      let w : finite (value (after a cuts)) ≡ true = ap finite e ∙ greater_fine x y f g in
      let G : Greater x y (value (after a cuts)) = subst (Greater x y) (sym e) (greater_is x y f g) in
      let R = from m (after a cuts) b w A.2 in
      record {
        before = still_not x (value (after a cuts)) (value b) f w R.fine R.before G.first;
        most = each m a b cuts A.1 g w R G.second;
        one = ⊎_elim (λ p. ⊎_elim (λ q. inl (p ∙ q)) (λ q. inr (0, omega arith, subst (DroppedIn 0 t xs a.cores k) (sym (p ∙ q)) (own a.cores cuts A.1))) G.one)
            (λ p. inr (suc p.0, omega (arith, p.1), earlier p.0 a.cores cuts (value b) A.1 p.2)) R.one;
        fine = R.fine;
      }

from_zero : {x y z : Float} {B : Type 0} → (x ≡ y) ⊎ B → y ≡ z → (x ≡ z) ⊎ B
from_zero (inl p) e = inl (p ∙ e)
from_zero (inr b) e = inr b

-- THE CALL: of each bond the greatest value that it dropped in any step
pub evolve_greatest : (final : Float) (steps : ℕ) (c : Float) (cutting : Cutting) (s : Shape) (xs : List Axis) (chain scratch : List Float)
    → (evolve_call final steps c cutting s xs chain scratch).result.verdict ≡ Ok tt → (k : ℕ) → k < most_axes
    → Greatest steps (settings_for final steps c cutting) xs (cores_of s chain) k (dropped_among (evolve_call final steps c cutting s xs chain scratch).result.bonds k)
unfolding evolve_over steps_of ended_as of_bits
evolve_greatest final steps c cutting s xs chain scratch e k l =
    let t = settings_for final steps c cutting in
    let A = left_fits s chain scratch _ e in
    let B = then_is (step_ok (course_finite final c cutting) (course_ok final steps cutting) t s (length xs) xs chain (length scratch)) (steps_of steps t xs (cores_of s chain)) A.0 A.1 in
    let start : After = record { cores = cores_of s chain; bonds = replicate most_axes no_bond } in
    let z : dropped_among start.bonds k ≡ zero64 = ap (λ (b : Bond). b.dropped) (get_or-replicate most_axes k no_bond past_bond l) in
    let F = from t xs k l steps start A.0 (ap finite z) B.1 in
    let E : (evolve_call final steps c cutting s xs chain scratch).result.bonds ≡ A.0.bonds = ap (λ (o : Answer After). (ended_as s chain scratch o).result.bonds) A.1 in
    subst (λ (x : List Bond). Greatest steps t xs (cores_of s chain) k (dropped_among x k)) (sym E)
    (record { most = F.most; one = from_zero F.one z })
