-- Which test a mode makes, in the form that proofs of code cite: the scaled one where it is `scaled_mode`, the absolute one where it isn't. Assumes nothing.
use mathlib.Core.Path.{◌≡◌, ◌∙◌}
use Prim.Native.Nat.{ℕ}
use mathlib.Core.Bool.{Bool}
use mathlib.Core.List.{List}
use lib.Ieee.{Float, lt}
use Rattle.numbers.specs.Arithmetic.{times, zero64, tiny64}
use Rattle.lists.specs.Lists.{pick}
use Rattle.lists.specs.Floats.{cell}
use Rattle.lists.proofs.Tests.{eqb_yes, eqb_no}
use Rattle.cutform.specs.Modes.{scaled_mode, off_sum, diagonal_sum, small_beside, settled, skipped, divided}

module _ (mode : ℕ) (h : mode ≡ scaled_mode) where
  pub settled_scaled : (n : ℕ) (g : List Float) (off diagonal : Float) (b : Bool) → off ≡ off_sum n g → diagonal ≡ diagonal_sum n g
      → b ≡ small_beside off diagonal off → b ≡ settled mode n g
  unfolding settled pick
  settled_scaled n g off diagonal b e d f = f ∙ rw (eqb_yes mode scaled_mode h, e, d)

  pub skipped_scaled : (n : ℕ) (g : List Float) (p q : ℕ) (off low high : Float) (b : Bool) → off ≡ cell n g p q → low ≡ cell n g p p → high ≡ cell n g q q
      → b ≡ small_beside (times off off) (times low high) off → b ≡ skipped mode n g p q
  unfolding skipped pick
  skipped_scaled n g p q off low high b e l k f = f ∙ rw (eqb_yes mode scaled_mode h, e, l, k)

  pub divided_scaled : (value : Float) → lt zero64 value ≡ divided mode value
  unfolding divided pick
  divided_scaled value = rw (eqb_yes mode scaled_mode h)

module _ (mode : ℕ) (h : ¬ (mode ≡ scaled_mode)) where
  pub settled_absolute : (n : ℕ) (g : List Float) (off : Float) → off ≡ off_sum n g → lt off tiny64 ≡ settled mode n g
  unfolding settled pick
  settled_absolute n g off e = rw (eqb_no mode scaled_mode h, e)

  pub skipped_absolute : (n : ℕ) (g : List Float) (p q : ℕ) (off : Float) → off ≡ cell n g p q → lt (times off off) tiny64 ≡ skipped mode n g p q
  unfolding skipped pick
  skipped_absolute n g p q off e = rw (eqb_no mode scaled_mode h, e)

  pub divided_absolute : (value : Float) → lt tiny64 value ≡ divided mode value
  unfolding divided pick
  divided_absolute value = rw (eqb_no mode scaled_mode h)
