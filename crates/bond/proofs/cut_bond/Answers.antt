-- `bond::cut_bond`: r * r numbers find room where the most rank's do; the rest is `cut`.
use native.Mathlib.Nat.{mul-le-mul}
use Rattle.bond.proofs.cut_bond.Goals as goal

pub cut-requires : goal.cut-requires
cut-requires c = (
  c.requires.0,
  c.requires.1,
  c.requires.2,
  c.requires.3,
  c.requires.4,
  mul-le-mul c.requires.4 c.requires.4,
  mul-le-mul c.requires.4 c.requires.4,
  c.requires.5,
  c.requires.6,
)
