-- Sweeps row by row and one after another, in the form that proofs of code cite; and a sweep that turns nothing. Assumes nothing.
use mathlib.Core.Path.{◌≡◌, sym, ◌∙◌}
use Prim.Native.Nat.{ℕ, zero, suc, ◌+◌, ◌-◌, ◌<◌, ◌≤◌}
use native.Mathlib.Nat.{add-zero, add-suc, suc-add}
use native.Mathlib.Numerals.{add-one}
use native.Mathlib.Omega.{arith}
use mathlib.Core.Bool.{Bool, true, false, ◌&&◌}
use mathlib.Core.List.{List}
use lib.Ieee.{Float}
use Rattle.std.specs.Prelude.{Ok, Err}
use Rattle.answers.specs.Outcome.{Made, bind, staged, Stage}
use Rattle.numbers.specs.Arithmetic.{plus, times, zero64, two64}
use Rattle.lists.specs.Lists.{pick, iter, pairs}
use Rattle.lists.specs.Floats.{cell}
use Rattle.lists.specs.Walks.{turning}
use Rattle.lists.proofs.Pairs.{along_pairs, folded_pairs, along_idle}
use Rattle.lists.proofs.Stages.{turning_start}
use Rattle.cutform.specs.Modes.{skipped, off_sum, settled}
use Rattle.cutform.specs.Sweeps.{Eig, eig, rotate, sweep, Swept, swept, sweeps_from, diagonalized, most_sweeps}
use Rattle.bond.specs.SweepRows.{sweep_row, off_row, still_row, still}

-- ---- row by row
pub sweep_rows : (mode n : ℕ) (e : Eig) → sweep mode n e ≡ turning (n - 0) 0 (sweep_row mode n) e
unfolding sweep sweep_row
sweep_rows mode n e = along_pairs n (λ (x : ℕ × ℕ). rotate mode n x.0 x.1) e ∙ turning_start n (sweep_row mode n) e

pub off_rows : (n : ℕ) (g : List Float) → off_sum n g ≡ iter n (off_row n g) zero64
unfolding off_sum off_row
off_rows n g = folded_pairs n (λ (x : ℕ × ℕ) (s : Float). plus s (times (times two64 (cell n g x.0 x.1)) (cell n g x.0 x.1))) zero64

pub still_rows : (mode n : ℕ) (g : List Float) → still mode n g ≡ iter n (still_row mode n g) true
unfolding still still_row
still_rows mode n g = folded_pairs n (λ (x : ℕ × ℕ) (b : Bool). b && skipped mode n g x.0 x.1) true

-- ---- where every pair is skipped, a sweep leaves everything as it was, in any mode
pub idle_sweep : (mode n : ℕ) (g v : List Float) → still mode n g ≡ true → sweep mode n (eig g v) ≡ Ok (eig g v)
unfolding still sweep rotate pick
idle_sweep mode n g v e = along_idle (λ (x : ℕ × ℕ). skipped mode n g x.0 x.1) (λ (x : ℕ × ℕ). rotate mode n x.0 x.1) (eig g v) (λ x h. rw h) (pairs n) e

-- and so do all that are left: they run out, with the same flag
idle_sweeps : (m mode n c : ℕ) (e : Eig) → sweep mode n e ≡ Ok e → settled mode n e.g ≡ false → sweeps_from m false mode n c e ≡ Ok (swept (c + m) false e)
unfolding sweeps_from
idle_sweeps zero mode n c e s b = rw add-zero
idle_sweeps (suc m) mode n c e s b = rw (s, b) (idle_sweeps m mode n (suc c) e s b ∙ rw (suc-add, add-suc))

-- ---- sweeps one after another, by what is left: T is the whole
module _ (T : Made Swept) (mode n hi c : ℕ) (b : Bool) (e : Eig) (d : T ≡ sweeps_from (hi - c) b mode n c e) where
  module _ (l : c < hi) where
    left : hi - c ≡ suc (hi - (c + 1))
    left = omega arith

    pub sweeps_settled : b ≡ true → T ≡ Ok (swept c b e)
    unfolding sweeps_from
    sweeps_settled h = d ∙ rw (left, h)

    module _ (h : b ≡ false) (r : Stage) (x : Eig) (s : sweep mode n e ≡ staged r x) where
      opened : T ≡ bind (staged r x) (λ y. sweeps_from (hi - (c + 1)) (settled mode n y.g) mode n (suc c) y)
      unfolding sweeps_from
      opened = d ∙ rw (left, h, s)

      pub sweeps_stop : (i : ℕ) → r ≡ Err i → T ≡ Err i
      unfolding staged
      sweeps_stop i t = opened ∙ rw t

      pub sweeps_more : r ≡ Ok tt → (q : Bool) → q ≡ settled mode n x.g → T ≡ sweeps_from (hi - (c + 1)) q mode n (c + 1) x
      unfolding staged
      sweeps_more t q f = opened ∙ rw (t, ← f, add-one)

  pub sweeps_done : c ≤ hi → hi ≤ c → T ≡ Ok (swept hi b e)
  unfolding sweeps_from
  sweeps_done k l = let z : hi - c ≡ 0 = omega arith in let y : c ≡ hi = omega arith in d ∙ rw (z, y)

pub sweeps_start : (mode n : ℕ) (e : Eig) (b : Bool) → b ≡ settled mode n e.g → diagonalized mode n e ≡ sweeps_from (most_sweeps - 0) b mode n 0 e
unfolding diagonalized
sweeps_start mode n e b h = rw (← h)

pub sweeps_idle : (T : Made Swept) (mode n hi c : ℕ) (b r : Bool) (g v : List Float) → T ≡ sweeps_from (hi - c) b mode n c (eig g v) → c < hi → b ≡ settled mode n g → b ≡ false
    → r ≡ still mode n g → r ≡ true → T ≡ Ok (swept hi b (eig g v))
sweeps_idle T mode n hi c b r g v d l eb h er t =
    let z : c + (hi - c) ≡ hi = omega arith in
    d ∙ rw h (idle_sweeps (hi - c) mode n c (eig g v) (idle_sweep mode n g v (sym er ∙ t)) (sym eb ∙ h) ∙ rw z)
