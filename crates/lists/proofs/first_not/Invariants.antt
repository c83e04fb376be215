use Rattle.std.proofs.Common.{ℕ, Bool, ◌≡◌, ◌<◌}
use Rattle.lists.proofs.Demands.{Passed}
use Rattle.lists.proofs.first_not.Given as goal

abbrev pub invariant-loop-k : goal.invariant-loop-k
invariant-loop-k g l = (q : ℕ → Bool) → ((k : ℕ) (r : Bool) → k < l.n → goal.F-post g l.passes k r → r ≡ q k) → Passed q l.n l.k
