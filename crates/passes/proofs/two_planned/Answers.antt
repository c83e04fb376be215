-- `passes::two_planned`: where one of the pairs is skipped each is planned by itself.
use mathlib.Core.Path.{◌≡◌, refl, sym, ◌∙◌}
use mathlib.Core.Bool.{Bool, true, false, true≢false, ◌||◌}
use Rattle.passes.proofs.two_planned.Goals as goal

neither : (a b : Bool) → a || b ≡ false → (a ≡ false) × (b ≡ false)
neither true b e = absurd (true≢false e)
neither false b e = (refl, e)

pub two_angles-requires : goal.two_angles-requires
two_angles-requires c = let d = neither _ _ c.if-one-other.false in
    (sym c.skipped-one.ensures ∙ d.0, sym c.skipped-other.ensures ∙ d.1)
