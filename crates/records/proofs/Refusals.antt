-- Records that are equal part by part.
use mathlib.Core.Path.{◌≡◌, ap, ◌∙◌}
use mathlib.Core.List.{List}
use Rattle.records.specs.declared.given.CShape.{CShape}
use Rattle.records.specs.declared.told.CBond.{CBond}
use Rattle.records.specs.declared.told.CFormed.{CFormed}
use Rattle.records.specs.declared.told.CRounded.{CRounded}
use Rattle.records.specs.declared.told.CRefusal.{CRefusal}

pub formed_as : (r q : CRefusal) (s t : CShape) → r ≡ q → s ≡ t → ◌≡◌ {A = CFormed} (record { refusal = r; shape = s }) (record { refusal = q; shape = t })
formed_as r q s t e f = ap (λ (x : CRefusal). record { refusal = x; shape = s }) e ∙ ap (λ (x : CShape). record { refusal = q; shape = x }) f

pub rounded_as : (r q : CRefusal) (s t : CShape) (a b : List CBond) → r ≡ q → s ≡ t → a ≡ b
    → ◌≡◌ {A = CRounded} (record { refusal = r; shape = s; bonds = a }) (record { refusal = q; shape = t; bonds = b })
rounded_as r q s t a b e f g = rw (e, f, g)
