-- The call `tt_round`: its answer, and what it leaves in the chain's slice and in scratch; its checks are passed on. Definitions only.
use Rattle.std.specs.Prelude.{List, length, replicate, Float, Ok, Err}
use Rattle.answers.specs.Outcome.{Answer, bind, ◌then◌}
use Rattle.answers.specs.Table.{before_work}
use Rattle.lists.specs.Lists.{pick}
use Rattle.lists.specs.Floats.{zeros}
use Rattle.shape.specs.declared.Shape.{Shape}
use Rattle.shape.specs.Limits.{most_axes}
use Rattle.shape.specs.Cores.{cores_of, chain_after, reshaped}
use Rattle.cutform.specs.declared.Rounded.{Rounded}
use Rattle.cutform.specs.declared.Cutting.{Cutting}
use Rattle.cutform.specs.Bonds.{no_bond}
use Rattle.cutform.specs.Rounding.{Carry, Cut, After, rounding, after_cuts}
unfoldable pub use Rattle.cutform.specs.Asked.{lengths_ok, core_finite, not_below_zero, cutting_finite, cutting_ok, round_finite, round_ok}

-- ---- what a call that rounds a chain answers and leaves, by its outcome
pub record Ended : Type 0 where
  pub result : Rounded
  pub chain : List Float
  pub scratch : List Float

-- scratch is unwritten after a refusal before the work, and all +0 after any other end
unfoldable pub scratch_after : {A : Type 0} → List Float → Answer A → List Float
scratch_after w (Ok a) = zeros (length w)
scratch_after w (Err r) = pick (before_work r) w (zeros (length w))

unfoldable pub ended_as : Shape → List Float → List Float → Answer After → Ended
ended_as s l w (Ok a) = record {
  result = record { verdict = Ok tt; shape = reshaped 0 s a.cores; bonds = a.bonds };
  chain = chain_after l a.cores;
  scratch = scratch_after w (Ok a);
}
ended_as s l w (Err r) = record {
  result = record { verdict = Err r; shape = s; bonds = replicate most_axes no_bond };
  chain = l;
  scratch = scratch_after {A = After} w (Err r);
}

-- by its cuts
abbrev pub ended_by : Shape → List Float → List Float → Answer (List (Carry × Cut)) → Ended
ended_by s l w o = ended_as s l w (bind o (λ tr. Ok (after_cuts tr)))

unfoldable pub round_call : Shape → Cutting → List Float → List Float → Ended
round_call s cutting chain scratch =
    ended_by s chain scratch (round_ok s cutting chain (length scratch) then rounding cutting (cores_of s chain))
