-- What is told of a verdict tells all of it: number, place and index belong to one refusal alone. Assumes nothing.
use mathlib.Core.Path.{◌≡◌, refl, sym, ap, ◌∙◌}
use Prim.Native.Nat.{ℕ}
use native.Mathlib.Omega.{arith}
use mathlib.Core.List.{List, [], ◌∷◌}
use lib.ListN.{get_or, length}
use Rattle.answers.specs.declared.Part.TheVariants.{Entry, Spectrum, Factor, Sum}
use Rattle.answers.specs.declared.Refusal.{Refusal}
use Rattle.answers.specs.declared.Refusal.TheVariants.{Axes, Size, Ranks, Zone, Length, Number, Setting, Reach, Stored, PairRank, File}
use Rattle.std.specs.Prelude.{Ok, Err}
use Rattle.answers.specs.Outcome.{Check}
use Rattle.answers.specs.Table.{number_of, place_of, index_of, told_of}

-- the refusals by their numbers, from 1 on, with place p and index i
abbrev numbered : ℕ → ℕ → List Refusal
numbered p i =
    Axes ∷ Size p ∷ Ranks p ∷ Zone ∷ Length p ∷ Number p ∷ Setting p ∷ Reach p ∷ Stored Entry p i ∷ PairRank ∷ File p
    ∷ Stored Spectrum p i ∷ Stored Factor p i ∷ Stored Sum p i ∷ []

abbrev behind : ℕ → ℕ → ℕ → Refusal
behind n p i = get_or (Axes ∷ numbered p i) n Axes

told_back : (r : Refusal) → behind (number_of r) (place_of r) (index_of r) ≡ r
told_back Axes = refl
told_back (Size k) = refl
told_back (Ranks k) = refl
told_back Zone = refl
told_back (Length i) = refl
told_back (Number k) = refl
told_back (Setting k) = refl
told_back (Reach k) = refl
told_back (Stored Entry k i) = refl
told_back (Stored Spectrum k i) = refl
told_back (Stored Factor k i) = refl
told_back (Stored Sum k i) = refl
told_back PairRank = refl
told_back (File b) = refl

pub told_once : (v w : Check) → told_of v ≡ told_of w → v ≡ w
told_once (Ok _) (Ok _) e = refl
told_once (Ok _) (Err r) e = let n : ◌≡◌ {A = ℕ} 0 3 = ap length e in let z : ⊥ = omega arith in absurd z
told_once (Err q) (Ok _) e = let n : ◌≡◌ {A = ℕ} 3 0 = ap length e in let z : ⊥ = omega arith in absurd z
told_once (Err q) (Err r) e =
    let back : List ℕ → Refusal = λ (l : List ℕ). behind (get_or l 0 0) (get_or l 1 0) (get_or l 2 0) in
    ap Err (sym (told_back q) ∙ ap back e ∙ told_back r)
