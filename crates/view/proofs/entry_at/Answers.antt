-- `view::entry_at`: indices outside the core, or a core that starts past the chain's end, show nothing (sights); any other is read from where the core starts (read_here).
use Rattle.std.proofs.Common.{rules, ◌∙◌, arith}
use mathlib.Core.Logic.{⊎_elim}
use Rattle.view.proofs.Views.{sights, outside_chain, read_here}
use Rattle.view.proofs.entry_at.Goals.{then-spot-il-via-then-spot-il, then-spot-il-via-else-spot-il+then-spot-im, then-spot-il-via-else-spot-il+else-spot-im+then-spot-ir}
use Rattle.view.proofs.entry_at.Goals as goal

pub returns-then-spot-il : goal.returns-then-spot-il
returns-then-spot-il c = elim c.then-spot-il.branch [
  | then-spot-il-via-then-spot-il w ↦ search (rules, sights)
  | then-spot-il-via-else-spot-il+then-spot-im w ↦ search (rules, sights)
  | then-spot-il-via-else-spot-il+else-spot-im+then-spot-ir w ↦ search (rules, sights)
]

pub returns-in_err-room : goal.returns-in_err-room
returns-in_err-room c = c.from_residual.ensures ∙ outside_chain _ _ _ _ _ (⊎_elim (λ a. omega arith) (λ a. omega arith) c.in_err-room.ensures.lookup.0)

pub returns : goal.returns
returns c =
    let rest = c.in_ok-room.ensures.lookup.0 in
    let read = c.get-2.ensures.lookup in
    c.copied.ensures ∙ read_here _ _ _ _ _ c.place_within-place.result _ c.get-2.result (omega arith) (omega arith) (omega arith) rest.2 rest.3 c.place_within-place.ensures read.0 (read.4 (omega arith) _)
