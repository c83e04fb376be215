-- The matrix of a bond and its basis are finite and keep their lengths through every sweep, and so the bond's values are always finite. Assumes nothing.
use Rattle.std.specs.Prelude.{Ok}
use mathlib.Core.Path.{◌≡◌, refl, ap, ◌∙◌, sym}
use Prim.Native.Nat.{ℕ, zero, suc, ◌+◌, ◌-◌, ◌*◌, ◌/◌, ◌^◌}
use native.Mathlib.Omega.{arith}
use mathlib.Core.Bool.{Bool, true, false, true≢false}
use mathlib.Core.List.{List}
use lib.Dec.{eqb}
use lib.ListN.{length, set, length-set}
use lib.Ieee.{Float, nan, inf, fin, lt, odd, size, of_bits}
use Rattle.numbers.specs.Arithmetic.{times, one64, zero64}
use Rattle.numbers.specs.Finite.{finite}
use Rattle.numbers.specs.Root.{whole_root, root_of, root_of_units}
use Rattle.numbers.specs.Value.{units_in}
use Rattle.answers.specs.Outcome.{bind}
use Rattle.answers.proofs.Outcomes.{bind_ok, ok_inj}
use Rattle.lists.specs.Lists.{pick, pairs}
use Rattle.lists.specs.Floats.{cell, all_finite, stored}
use Rattle.lists.proofs.Cells.{cell_lt}
use Rattle.lists.proofs.Finite.{tab_finite, grid_finite}
use Rattle.lists.proofs.Floats.{finite_get_d_lem, stored_is, stored_yes}
use Rattle.lists.proofs.Keeps.{along_keeps}
use Rattle.lists.proofs.Tables.{length_grid}
use Rattle.shape.specs.Cores.{Core}
use Rattle.cutform.specs.Bonds.{gram}
use Rattle.cutform.specs.Rotation.{tangent_of, slope_of, cosine_of, eye}
use Rattle.cutform.specs.Modes.{settled, skipped}
use Rattle.cutform.specs.Sweeps.{Eig, eig, turn_columns, turn_rows, cleared, turned, rotate, sweep, Swept, sweeps_from, most_sweeps, diagonalized}
use Rattle.cutform.specs.Values.{singular_of, singulars}

-- the basis as made holds ones and zeros
pub eye_length : (n : ℕ) → length (eye n) ≡ n * n
unfolding eye
eye_length n = length_grid n n _

pub eye_finite : (n : ℕ) → all_finite (eye n) ≡ true
unfolding eye pick of_bits
eye_finite n = grid_finite n n _ (λ i j a b. go (eqb i j))
  where
    go : (b : Bool) → finite (pick b one64 zero64) ≡ true
    go true = refl
    go false = refl

-- ---- a matrix of n by n, and a basis
pub record Whole (n : ℕ) (e : Eig) : Type 0 where
  pub matrix_length : length e.g ≡ n * n
  pub matrix_finite : all_finite e.g ≡ true

module _ (mode n : ℕ) where
  turned_whole : (p q : ℕ) (c s : Float) (e d : Eig) → turned n p q c s e ≡ Ok d → Whole n d
  unfolding turned cleared turn_rows
  turned_whole p q c s e d h =
      let m = turn_rows n p q c s (turn_columns n p q c s e.g) in
      let (g, x, f) = bind_ok (stored (cleared n p q m)) (λ g. bind (stored (turn_columns n p q c s e.v)) (λ v. Ok (eig g v))) d h in
      let (v, y, k) = bind_ok (stored (turn_columns n p q c s e.v)) (λ v. Ok (eig g v)) d f in
      let (i, t) = stored_is (cleared n p q m) g x in
      rw (← ok_inj k) (record {
        matrix_length = ap length (sym i) ∙ length-set (set m (p * n + q) zero64) (q * n + p) zero64 ∙ length-set m (p * n + q) zero64 ∙ length_grid n n _;
        matrix_finite = t;
      })

  rotate_whole : (p q : ℕ) (e d : Eig) → Whole n e → rotate mode n p q e ≡ Ok d → Whole n d
  unfolding rotate pick
  rotate_whole p q e d w h =
      let t = tangent_of (slope_of (cell n e.g p p) (cell n e.g q q) (cell n e.g p q)) in
      go (skipped mode n e.g p q) (cosine_of t) (times t (cosine_of t)) h
    where
      go : (b : Bool) (c s : Float) → pick b (Ok e) (turned n p q c s e) ≡ Ok d → Whole n d
      go true c s h = rw (← ok_inj h) w
      go false c s h = turned_whole p q c s e d h

  sweep_whole : (e d : Eig) → Whole n e → sweep mode n e ≡ Ok d → Whole n d
  unfolding sweep
  sweep_whole e d w h = along_keeps (Whole n) (λ (x : ℕ × ℕ). rotate mode n x.0 x.1) (λ x a b p g. rotate_whole x.0 x.1 a b p g) (pairs n) e d w h

  from_whole : (left : ℕ) (b : Bool) (c : ℕ) (e : Eig) (w : Swept) → Whole n e → sweeps_from left b mode n c e ≡ Ok w → Whole n w.eig
  unfolding sweeps_from
  from_whole zero b c e w p h = rw (← ok_inj h) p
  from_whole (suc left) true c e w p h = rw (← ok_inj h) p
  from_whole (suc left) false c e w p h =
      let (x, t, g) = bind_ok (sweep mode n e) (λ x. sweeps_from left (settled mode n x.g) mode n (suc c) x) w h in
      from_whole left (settled mode n x.g) (suc c) x w (sweep_whole e x p t) g

  swept_whole : (e : Eig) (w : Swept) → Whole n e → diagonalized mode n e ≡ Ok w → Whole n w.eig
  unfolding diagonalized
  swept_whole e w p h = from_whole most_sweeps (settled mode n e.g) 0 e w p h

-- ---- the root of a finite number above zero is finite
odd_finite : (d : ℕ) (s : Bool) (q k l : ℕ) → finite (odd d s q k l) ≡ true
unfolding odd
odd_finite d s zero k l = refl
odd_finite d s (suc q) k l = refl

units_finite : (n : ℕ) → finite (root_of_units n) ≡ true
unfolding root_of_units
units_finite n =
    let N = n * 2 ^ 1074 in
    let j = (size N - 107) / 2 in
    odd_finite 53 false ((whole_root (N / 2 ^ (2 * j)) + 1) / 2) (j + 1) 1074

pick_finite : (b : Bool) (x y : Float) → finite x ≡ true → finite y ≡ true → finite (pick b x y) ≡ true
unfolding pick
pick_finite true x y h g = h
pick_finite false x y h g = g

value_finite : (x : Float) → finite x ≡ true → finite (singular_of x) ≡ true
unfolding singular_of root_of pick lt of_bits
value_finite nan h = absurd (true≢false (sym h))
value_finite (inf s) h = absurd (true≢false (sym h))
value_finite (fin s zero e) h = pick_finite (lt zero64 (fin s zero e)) (fin s zero e) zero64 refl refl
value_finite (fin false (suc m) e) h = pick_finite (lt zero64 (fin false (suc m) e)) (root_of (fin false (suc m) e)) zero64 (units_finite (units_in (fin false (suc m) e))) refl
value_finite (fin true (suc m) e) h = refl

pub values_stored : (n : ℕ) (g : List Float) → length g ≡ n * n → all_finite g ≡ true → stored (singulars n g) ≡ Ok (singulars n g)
unfolding singulars
values_stored n g long fine =
    stored_yes (singulars n g) (tab_finite n 0 (λ (i : ℕ). singular_of (cell n g i i))
    (λ i a b. value_finite (cell n g i i) (finite_get_d_lem g (i * n + i) nan (cell_lt i n n i (length g) (omega arith) (omega arith) (omega arith)) fine)))

-- the values of a bond are never refused
pub bond_values : (mode : ℕ) (c : Core) (g : List Float) (w : Swept) → stored (gram c) ≡ Ok g → diagonalized mode c.rr (eig g (eye c.rr)) ≡ Ok w
    → stored (singulars c.rr w.eig.g) ≡ Ok (singulars c.rr w.eig.g)
unfolding gram
bond_values mode c g w s d =
    let (i, t) = stored_is (gram c) g s in
    let made : Whole c.rr (eig g (eye c.rr)) = record { matrix_length = ap length (sym i) ∙ length_grid c.rr c.rr _; matrix_finite = t } in
    let end = swept_whole mode c.rr (eig g (eye c.rr)) w made d in
    values_stored c.rr w.eig.g end.matrix_length end.matrix_finite
