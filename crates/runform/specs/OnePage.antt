-- DEMAND 3 of a run, whole. Definitions only; proofs/OnePage.antt has the theorem.
use Rattle.std.specs.Prelude.{◌≡◌, ℕ, ◌≤◌, ◌<◌, List, length, take, get_or, Float, Ok, Err}
use Rattle.answers.specs.declared.Refusal.{Refusal}
use Rattle.answers.specs.declared.Refusal.TheVariants.{Zone, Length}
use Rattle.answers.specs.Outcome.{Check}
use Rattle.answers.specs.Table.{told_of}
use Rattle.shape.specs.Limits.{scratch_for}
use Rattle.shape.specs.Shapes.{entries_of}
use Rattle.stepform.specs.Zones.{rules}
use Rattle.runform.specs.Kept.{Inputs, Kept, lengths_for, lengths_of}
use Rattle.runform.specs.Requests.{Request, zone_of, present, InOrder}
use Rattle.runform.specs.Call.{Room, room_ok, fresh_by, replace_by}
use Rattle.runform.specs.Left.{Left}
use Rattle.runform.specs.Sequence.{kept_after, AsFresh, Asked, found, end_of, kept_after_call}

-- the first place where two lists of numbers differ
pub record FirstWrong (j : ℕ) (xs ys : List ℕ) : Type 0 where
  pub before : take j xs ≡ take j ys
  pub wrong : ¬ (get_or xs j 0 ≡ get_or ys j 0)

-- two verdicts that are the same, and are told alike: by number, core and index, or both by nothing
pub record Alike (v w : Check) : Type 0 where
  pub same : v ≡ w
  pub told : told_of v ≡ told_of w

-- the run k, whose present inputs are i
pub record Holds (i : Inputs) (k : Kept) : Type 0 where
  -- "every kept number is bit for bit that of a fresh run on the present inputs"
  pub fresh : AsFresh rules i k
  -- "zones before the replaced one are not written"
  pub before : (q : Request) (scratch : List Float) → (replace_by rules k q scratch).result.verdict ≡ Ok tt
      → Left k (kept_after (replace_by rules k q scratch)) q
  -- "a replacement is refused exactly when the fresh run would be, with the same number and place", which is core and index
  pub alike : (q : Request) → InOrder i.shape q → (scratch : List Float) → length scratch ≡ scratch_for (entries_of i.shape)
      → (m : Room) → room_ok i.shape m ≡ Ok tt
      → Alike (replace_by rules k q scratch).result.verdict (fresh_by rules (present i q) m).result.verdict
  -- "a refused call leaves all": what it was lent, the run's own or not, and the run
  pub left : (c : Asked) (r : Refusal) → (end_of rules k c).result.verdict ≡ Err r
      → (kept_after (end_of rules k c) ≡ found k c.slices) × (kept_after_call rules k c ≡ k)
  -- a call that is lent a slice of wrong length is refused: with 5 at the first such slice, or with 4 where the run has no such zone
  pub wrong : (c : Asked) (j : ℕ) → FirstWrong j (lengths_of (found k c.slices)) (lengths_for i.shape) → zone_of c.request < i.shape.d
      → (end_of rules k c).result.verdict ≡ Err (Length j)
  pub outside : (c : Asked) → i.shape.d ≤ zone_of c.request → (end_of rules k c).result.verdict ≡ Err Zone
