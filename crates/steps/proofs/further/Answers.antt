-- `steps::further`: each call says what is said of the bond of its number (made_tab).
use borrow.Author.Rules.{rules}
use Prim.Native.Nat.{ℕ}
use Rattle.axes.proofs.Made.{made_tab}
use Rattle.cutform.specs.Bonds.{no_bond}
use Rattle.cutform.specs.Keeping.{bond_among}
use Rattle.stepform.specs.Steps.{further_bond, further}
use Rattle.steps.proofs.further.Goals as goal

pub returns : goal.returns
unfolding further
returns c = made_tab _ _ (λ (k : ℕ). further_bond (bond_among c.args.said k) (bond_among c.args.bonds k)) no_bond _ (λ k y q l w. search rules) _ c.from_fn.ensures.items
