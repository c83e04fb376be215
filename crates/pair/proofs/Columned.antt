-- The slab's columns, in the form that proofs of code cite. Assumes nothing.
use mathlib.Core.Path.{◌≡◌, sym, ap, ◌∙◌}
use Prim.Native.Nat.{ℕ, ◌+◌, ◌-◌, ◌*◌}
use native.Mathlib.Nat.{le_of_eq}
use mathlib.Core.Bool.{true}
use mathlib.Core.List.{List, ◌++◌}
use lib.ListN.{length, take}
use lib.Ieee.{Float, nan}
use Rattle.std.specs.Prelude.{Ok, Err}
use Rattle.answers.specs.Outcome.{Made, bind, staged, stage_of, Stage}
use Rattle.answers.proofs.Outcomes.{bind_ok, ok_inj}
use Rattle.lists.specs.Lists.{grid}
use Rattle.lists.specs.Floats.{all_finite, stored}
use Rattle.lists.proofs.Cells.{cell_lt}
use Rattle.lists.proofs.Floats.{stored_is, finite_get_d_lem}
use Rattle.lists.proofs.Parts.{span_again}
use Rattle.lists.proofs.Stages.{stored_staged, staged_on, staged_stop}
use Rattle.lists.proofs.Tables.{length_grid}
use Rattle.lists.proofs.Finite.{grid_finite}
use Rattle.pair.specs.SlabLoops.{slab_at, columns_of, slab_columns}

-- the slab stands at the front of its room
pub front_is : (m k w : ℕ) (left right u d : List Float) → u ≡ grid m w (slab_at left right k w) ++ d → take (m * w - 0) u ≡ grid m w (slab_at left right k w)
front_is m k w left right u d e = ap (take (m * w - 0)) e ∙ span_again (m * w) (grid m w (slab_at left right k w)) d (length_grid m w (slab_at left right k w))

pub front_long : (m k w : ℕ) (left right u d : List Float) → u ≡ grid m w (slab_at left right k w) ++ d → length (take (m * w - 0) u) ≡ m * w
front_long m k w left right u d e = ap length (front_is m k w left right u d e) ∙ length_grid m w (slab_at left right k w)

module _ (m k w : ℕ) (left right s : List Float) (es : s ≡ grid m w (slab_at left right k w)) (r : Stage) (er : r ≡ stage_of (stored s)) where
  columns_opened : slab_columns m k w left right ≡ bind (staged r s) (λ x. Ok (columns_of m w x))
  unfolding slab_columns
  columns_opened = ap (λ (o : Made (List Float)). bind o (λ x. Ok (columns_of m w x))) (ap stored (sym es) ∙ stored_staged s r er)

  pub columns_stop : (i : ℕ) (a : List Float) → r ≡ Err i → slab_columns m k w left right ≡ staged (Err i) a
  columns_stop i a h = columns_opened ∙ staged_stop r s (λ x. Ok (columns_of m w x)) i a h

  pub columns_end : r ≡ Ok tt → (a : List Float) → a ≡ columns_of m w s → slab_columns m k w left right ≡ staged (Ok tt) a
  unfolding staged
  columns_end h a ea = columns_opened ∙ staged_on r s (λ x. Ok (columns_of m w x)) h ∙ ap Ok (sym ea)

-- columns of a slab that was stored are finite
pub columns_finite_lem : (m k w : ℕ) (left right a : List Float) (r : Stage) → slab_columns m k w left right ≡ staged r a → r ≡ Ok tt → all_finite a ≡ true
unfolding slab_columns staged
columns_finite_lem m k w left right a r e h =
    let g = grid m w (slab_at left right k w) in
    let (s, x, y) = bind_ok (stored g) (λ x. Ok (columns_of m w x)) a (e ∙ rw h) in
    let (p, q) = stored_is g s x in
    let long : length s ≡ m * w = ap length (sym p) ∙ length_grid m w _ in
    ap all_finite (sym (ok_inj y)) ∙ grid_finite w m _ (λ col row i j. finite_get_d_lem s (row * w + col) nan (cell_lt row m w col (length s) j i (le_of_eq (sym long))) q)
