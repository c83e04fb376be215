-- A shape is refused before any work. Assumes nothing.
use mathlib.Core.Path.{refl}
use Prim.Native.Nat.{ℕ}
use mathlib.Core.Bool.{Bool}
use Rattle.answers.specs.declared.Refusal.TheVariants.{Axes, Size, Ranks}
use Rattle.answers.proofs.Late.{Early, early_demand, early_then, early_each}
use Rattle.shape.specs.declared.Shape.{Shape}
use Rattle.shape.specs.Shapes.{shape_ok}

pub early_shape : (s : Shape) (kept : ℕ → Bool) → Early (shape_ok s kept)
unfolding shape_ok
early_shape s kept =
    early_then _ _ (early_demand _ Axes refl)
    (early_then _ _ (early_each Size _ s.d 0 (λ j. refl))
    (early_then _ _ (early_demand _ (Ranks 0) refl)
    (early_each Ranks _ s.d 0 (λ j. refl))))
