-- A call's answer as C has it, and what the call left in its slices. Definitions only.
use Rattle.std.specs.Prelude.{◌≡◌, ℕ, List, Float}
use Rattle.answers.specs.Outcome.{Answer, Check}
use Rattle.shape.specs.declared.Shape.{Shape}
use Rattle.cutform.specs.Call.{Ended}
use Rattle.sumform.specs.Start.{StartEnded}
use Rattle.pairform.specs.Call.{PairEnded}
use Rattle.fileform.specs.Calls.{Exit}
use Rattle.runform.specs.Slices.{Slices}
use Rattle.runform.specs.Call.{RunEnd}
use Rattle.records.specs.declared.told.CRefusal.{CRefusal}
use Rattle.records.specs.declared.told.CRounded.{CRounded}
use Rattle.records.specs.declared.told.CFormed.{CFormed}
use Rattle.records.specs.declared.told.CPaired.{CPaired}
use Rattle.records.specs.declared.held.CRan.{CRan}
use Rattle.records.specs.Held.{ran_out}
use Rattle.records.specs.Told.{refusal_of, rounded_out, started_out, paired_out, read_out}

-- of a rounding, a step, an evolve: the chain holds l, scratch w
pub record EndsAs (e : Ended) (o : CRounded) (l w : List Float) : Type 0 where
  pub result : o ≡ rounded_out e.result
  pub chain : l ≡ e.chain
  pub scratch : w ≡ e.scratch

-- of a separable start over the shape s: the chain holds l
pub record StartsAs (s : Shape) (e : StartEnded) (o : CFormed) (l : List Float) : Type 0 where
  pub result : o ≡ started_out s e.result
  pub chain : l ≡ e.chain

-- of a pair: the two outputs hold l and r, scratch w
pub record SplitsAs (e : PairEnded) (o : CPaired) (l r w : List Float) : Type 0 where
  pub result : o ≡ paired_out e.result
  pub left : l ≡ e.left
  pub right : r ≡ e.right
  pub scratch : w ≡ e.scratch

-- of reading a file: the numbers are l
pub record ReadsAs (e : Exit (Answer Shape) Float) (o : CFormed) (l : List Float) : Type 0 where
  pub result : o ≡ read_out e.result
  pub numbers : l ≡ e.out

-- of writing one: the bytes are l
pub record WritesAs (e : Exit Check ℕ) (o : CRefusal) (l : List ℕ) : Type 0 where
  pub result : o ≡ refusal_of e.result
  pub bytes : l ≡ e.out

-- of a fresh run and of a replacement: what stands in the run's slices and in scratch
pub record RunsAs (e : RunEnd) (o : CRan) (m : Slices (List Float)) (w : List Float) : Type 0 where
  pub result : o ≡ ran_out e.result
  pub slices : m ≡ e.slices
  pub scratch : w ≡ e.scratch
