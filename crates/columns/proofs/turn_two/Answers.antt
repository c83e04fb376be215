-- `columns::turn_two`: two pairs read, then turned and stored, are two turns one after the other, since the columns lie apart (two_turned).
use native.Mathlib.Omega.{arith}
use mathlib.Core.Path.{refl}
use lib.ListN.{length-set}
use Rattle.columns.proofs.Strips.{two_turned}
use Rattle.columns.proofs.turn_two.Goals as goal

pub bounds-a-i-4 : goal.bounds-a-i-4
bounds-a-i-4 c = simp length-set (omega arith)

pub bounds-a-j-3 : goal.bounds-a-j-3
bounds-a-j-3 c = simp length-set (omega arith)

pub bounds-a-j-4 : goal.bounds-a-j-4
bounds-a-j-4 c = simp length-set (omega arith)

pub returns : goal.returns
returns c = two_turned _ _ _ _ _ _ c.requires.0 refl
