-- Calls one after another on one run. Definitions only.
use Rattle.std.specs.Prelude.{◌≡◌, List, [], ◌∷◌, length, Float, Ok, Err}
use Rattle.answers.specs.Outcome.{Check}
use Rattle.lists.specs.Floats.{zeros}
use Rattle.shape.specs.Limits.{most_axes}
use Rattle.stepform.specs.Zones.{Rules}
use Rattle.runform.specs.Slices.{Slices, slices, pairwise}
use Rattle.runform.specs.Kept.{Inputs, Kept, kept_of, record_of, slices_of, lengths_for, lengths_of}
use Rattle.runform.specs.Requests.{Request, present}
use Rattle.runform.specs.Call.{RunEnd, Room, room_ok, fresh_by, replace_by}

-- the run that a call leaves: its record, and the slices
abbrev pub kept_after : RunEnd → Kept
kept_after e = kept_of e.result.run e.slices

-- the end of a fresh run that leaves k
abbrev pub leaving : Room → Kept → RunEnd
leaving m k = record { result = record { verdict = Ok tt; run = record_of k }; slices = slices_of k; scratch = zeros (length m.scratch) }

-- the run k is, in its record and its slices, what a fresh run on the inputs i leaves, whatever slices of the right lengths it is lent
pub record AsFresh (R : Rules) (i : Inputs) (k : Kept) : Type 0 where
  -- the array of axis records has 16 places, as its type says
  pub array : length i.axes ≡ most_axes
  -- shape, axes, settings, source and weights
  pub inputs : k.inputs ≡ i
  -- all that is kept
  pub end : (m : Room) → room_ok i.shape m ≡ Ok tt → fresh_by R i m ≡ leaving m k

-- ---- a call for a replacement, and what it is lent
-- for one of the run's slices: the run's own, or another by mistake
pub data Slice : Type 0 where
  own : Slice
  other : List Float → Slice

-- for each of them its own
abbrev pub own_slices : Slices Slice
own_slices = slices own own own own own

-- what it asks for, what it is lent for the run's slices, and the scratch
pub record Asked : Type 0 where
  pub request : Request
  pub slices : Slices Slice
  pub scratch : List Float

-- what the call finds where the run's own slice holds l, and what that holds in the end, where the call leaves x in what it was lent
abbrev pub lent_for : List Float → Slice → List Float
lent_for l own = l
lent_for l (other x) = x

abbrev pub held_after : List Float → Slice → List Float → List Float
held_after l own x = x
held_after l (other y) x = l

-- the run as the call finds it: the record, and what is lent for the slices
abbrev pub found : Kept → Slices Slice → Kept
found k m = kept_of (record_of k) (pairwise lent_for (slices_of k) m)

-- the run in the end, where the call leaves k' of what it found: the record that it answers, and the run's own slices
abbrev pub returned : Kept → Slices Slice → Kept → Kept
returned k m k' = kept_of (record_of k') (pairwise (λ held x. held x) (pairwise held_after (slices_of k) m) (slices_of k'))

-- what the caller lends: the run's own slices, or some of which one at least has a wrong length
pub data Lends (k : Kept) (c : Asked) : Type 0 where
  rightly : c.slices ≡ own_slices → Lends k c
  wrongly : ¬ (lengths_of (found k c.slices) ≡ lengths_for k.inputs.shape) → Lends k c

-- an accepted part is present from then on, a refused one is not
abbrev pub taken_up : Check → Inputs → Request → Inputs
taken_up (Ok _) i q = present i q
taken_up (Err r) i q = i

module _ (R : Rules) where
  abbrev pub end_of : Kept → Asked → RunEnd
  end_of k c = replace_by R (found k c.slices) c.request c.scratch

  -- the run after one call
  abbrev pub kept_after_call : Kept → Asked → Kept
  kept_after_call k c = returned k c.slices (kept_after (end_of k c))

  -- the run after the calls, each on what the last one left
  abbrev pub kept_after_all : Kept → List Asked → Kept
  kept_after_all k [] = k
  kept_after_all k (c ∷ cs) = kept_after_all (kept_after_call k c) cs

  -- the inputs i with every accepted part in
  abbrev pub present_after_all : Inputs → Kept → List Asked → Inputs
  present_after_all i k [] = i
  present_after_all i k (c ∷ cs) = present_after_all (taken_up (end_of k c).result.verdict i c.request) (kept_after_call k c) cs

  -- each call is lent the run's own slices, or some of which one at least has a wrong length
  abbrev pub AllLend : Kept → List Asked → Type 0
  AllLend k [] = Unit {0}
  AllLend k (c ∷ cs) = Lends k c × AllLend (kept_after_call k c) cs
