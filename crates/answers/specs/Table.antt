-- The scope's table of refusals: the number, the place and the index of each. Definitions only.
use Rattle.std.specs.Prelude.{◌≡◌, ℕ, Bool, true, false, List, [], ◌∷◌, Ok, Err}
use Rattle.answers.specs.declared.Part.{Part}
use Rattle.answers.specs.declared.Part.TheVariants.{Entry, Spectrum, Factor, Sum}
use Rattle.answers.specs.declared.Refusal.{Refusal}
use Rattle.answers.specs.declared.Refusal.TheVariants.{Axes, Size, Ranks, Zone, Length, Number, Setting, Reach, Stored, PairRank, File}
use Rattle.answers.specs.Outcome.{Answer, Check}

-- where a number to be stored isn't finite, what was being made decides
abbrev pub part_number : Part → ℕ
part_number Entry = 9
part_number Spectrum = 12
part_number Factor = 13
part_number Sum = 14

abbrev pub number_of : Refusal → ℕ
number_of Axes = 1
number_of (Size k) = 2
number_of (Ranks k) = 3
number_of Zone = 4
number_of (Length i) = 5
number_of (Number k) = 6
number_of (Setting k) = 7
number_of (Reach k) = 8
number_of (Stored part k i) = part_number part
number_of PairRank = 10
number_of (File b) = 11

abbrev pub place_of : Refusal → ℕ
place_of Axes = 0
place_of (Size k) = k
place_of (Ranks k) = k
place_of Zone = 0
place_of (Length i) = i
place_of (Number k) = k
place_of (Setting k) = k
place_of (Reach k) = k
place_of (Stored part k i) = k
place_of PairRank = 0
place_of (File b) = b

-- the flat index inside what was being stored; any other refusal has none, and 0 stands for it
abbrev pub index_of : Refusal → ℕ
index_of Axes = 0
index_of (Size k) = 0
index_of (Ranks k) = 0
index_of Zone = 0
index_of (Length i) = 0
index_of (Number k) = 0
index_of (Setting k) = 0
index_of (Reach k) = 0
index_of (Stored part k i) = i
index_of PairRank = 0
index_of (File b) = 0

-- what is told of a verdict: nothing, or number, place and index
abbrev pub told_of : Check → List ℕ
told_of (Ok _) = []
told_of (Err r) = number_of r ∷ place_of r ∷ index_of r ∷ []

-- one that a check gives before any work: it leaves scratch unwritten
abbrev pub before_work : Refusal → Bool
before_work Axes = true
before_work (Size k) = true
before_work (Ranks k) = true
before_work Zone = true
before_work (Length i) = true
before_work (Number k) = true
before_work (Setting k) = true
before_work (Reach k) = true
before_work (Stored part k i) = false
before_work PairRank = false
before_work (File b) = true

-- refused by the work alone, never by a check before it
abbrev pub Late : {A : Type 0} → Answer A → Type 0
Late o = (q : Refusal) → o ≡ Err q → before_work q ≡ false
