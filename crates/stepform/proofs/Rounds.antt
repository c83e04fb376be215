-- A step is all shifts, then the scaling of core 0, then the rounding of what they made. Assumes nothing.
use mathlib.Core.Path.{◌≡◌, refl, sym, ap, ◌∙◌}
use Prim.Native.Nat.{ℕ, suc}
use mathlib.Core.List.{List, [], ◌∷◌}
use lib.Dec.{ltb}
use lib.ListN.{length}
use Rattle.answers.specs.Outcome.{bind}
use Rattle.answers.proofs.Outcomes.{bind_cong}
use Rattle.lists.specs.Walks.{every, walk}
use Rattle.lists.proofs.Walks.{every_length}
use Rattle.shape.specs.Cores.{Core}
use Rattle.stepform.specs.declared.Axis.{Axis}
use Rattle.cutform.specs.Rounding.{none, round_core, rounding}
use Rattle.stepform.specs.declared.Settings.{Settings}
use Rattle.stepform.specs.Zones.{zones_of, rules}
use Rattle.stepform.specs.Steps.{shift_zone, scale_zone, round_zone, step_from, step}

pub zones_length : (xs : List Axis) (k : ℕ) (cs : List Core) → length (zones_of xs k cs) ≡ length cs
unfolding zones_of
zones_length xs k [] = refl
zones_length xs k (c ∷ cs) = ap suc (zones_length xs (suc k) cs)

pub step_rounds : (t : Settings) (xs : List Axis) (cs : List Core)
    → step t xs cs ≡ bind (every (shift_zone rules t) 0 (zones_of xs 0 cs)) (λ a. bind (every (scale_zone rules t) 0 a) (λ b. rounding t.cutting b))
unfolding step step_from rounding round_zone rules
step_rounds t xs cs =
    bind_cong (every (shift_zone rules t) 0 (zones_of xs 0 cs)) _ _ (λ a ea.
    bind_cong (every (scale_zone rules t) 0 a) _ _ (λ b eb.
    let n : length cs ≡ length b = sym (every_length (scale_zone rules t) 0 a b eb ∙ every_length (shift_zone rules t) 0 (zones_of xs 0 cs) a ea ∙ zones_length xs 0 cs) in
    ap (λ (d : ℕ). walk (λ (k : ℕ). round_core t.cutting (ltb (suc k) d) k) 0 none b) n))
