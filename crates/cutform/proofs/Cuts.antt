-- One core of a rounding: what is left of it, what its bond hands on, and that all of it is finite. Assumes nothing.
use Rattle.std.specs.Prelude.{Ok}
use mathlib.Core.Path.{◌≡◌, refl, sym, ap, ◌∙◌, subst}
use Prim.Native.Nat.{ℕ, ◌*◌, ◌≤◌}
use mathlib.Core.Bool.{Bool, true, false, cond}
use mathlib.Core.List.{List, [], ◌∷◌}
use lib.ListN.{length}
use lib.Ieee.{Float}
use Rattle.answers.specs.declared.Part.TheVariants.{Factor}
use Rattle.answers.specs.Outcome.{Answer, making}
use Rattle.answers.proofs.Outcomes.{bind_ok, ok_inj}
use Rattle.numbers.specs.Finite.{finite}
use Rattle.lists.specs.Floats.{all_finite, stored}
use Rattle.lists.proofs.Floats.{making_stored}
use Rattle.shape.specs.Cores.{Core, core_with}
use Rattle.shape.proofs.Places.{block_length}
use Rattle.cutform.specs.declared.Bond.{Bond}
use Rattle.cutform.specs.declared.Cutting.{Cutting}
use Rattle.cutform.specs.Bonds.{CutCore, cut_bond, absorb}
use Rattle.cutform.proofs.Made.{CutFrom, cut_from_lem}
use Rattle.cutform.specs.Rounding.{Carry, none, some, Cut, taken_in, cut_if, round_core}

-- what a cut of a core with right rank rr hands on, and what is said of its bond
pub record Carried (rr : ℕ) (r : Carry × Cut) : Type 0 where
  pub bond : Bond
  pub numbers : List Float
  pub bonds : r.1.bonds ≡ bond ∷ []
  pub «is» : r.0 ≡ some bond.rank numbers
  pub least : 1 ≤ bond.rank
  pub most : bond.rank ≤ rr
  pub long : length numbers ≡ bond.rank * rr
  pub fine : all_finite numbers ≡ true
  pub dropped : finite bond.dropped ≡ true

abbrev pub volume : Core → ℕ
volume c = c.rl * c.n * c.rr

-- the rank that a carry brings, or l where none comes
abbrev pub rank_on : Carry → ℕ → ℕ
rank_on none l = l
rank_on (some r b) l = r

-- what rounding leaves of the core c, from the carry s on its left
pub record CutOf (more : Bool) (s : Carry) (c : Core) (r : Carry × Cut) : Type 0 where
  pub left : r.1.core.rl ≡ rank_on s c.rl
  pub points : r.1.core.n ≡ c.n
  pub right : r.1.core.rr ≡ cond more (rank_on r.0 0) c.rr
  pub long : length r.1.core.entries ≡ volume r.1.core

-- ---- the carry taken in
-- what a core with the carry s taken in is like
record Taken (s : Carry) (c d : Core) : Type 0 where
  left : d.rl ≡ rank_on s c.rl
  points : d.n ≡ c.n
  right : d.rr ≡ c.rr
  fine : all_finite c.entries ≡ true → all_finite d.entries ≡ true
  long : length c.entries ≡ volume c → length d.entries ≡ volume d

taken : (k : ℕ) (s : Carry) (c d : Core) → taken_in k s c ≡ Ok d → Taken s c d
unfolding absorb
taken k none c d h = subst (Taken none c) (ok_inj h) (record { left = refl; points = refl; right = refl; fine = λ f. f; long = λ f. f })
taken k (some r b) c d h =
    let A = bind_ok (making Factor k (stored (absorb r b c))) (λ l. Ok (core_with r c.n c.rr l)) d h in
    let w = making_stored Factor k (absorb r b c) A.0 A.1 in
    let t : Taken (some r b) c (core_with r c.n c.rr A.0) = record { left = refl; points = refl; right = refl; fine = λ f. w.1; long = λ f. ap length (sym w.0) ∙ block_length r c.n c.rr _ } in
    subst (Taken (some r b) c) (ok_inj A.2) t

-- ---- and the cut
abbrev handed : CutCore → Carry × Cut
handed b = (some b.bond.rank b.carry, record { core = b.core; bonds = b.bond ∷ [] })

module _ (k : ℕ) (cutting : Cutting) (c : Core) (r : Carry × Cut) (h : cut_if true k cutting c ≡ Ok r) where
  behind : (b : CutCore) × (cut_bond k cutting c ≡ Ok b) × (◌≡◌ {A = Answer (Carry × Cut)} (Ok (handed b)) (Ok r))
  behind = bind_ok (cut_bond k cutting c) (λ b. Ok (handed b)) r h

  is_cut : handed behind.0 ≡ r
  is_cut = ok_inj behind.2

  cut_made : CutFrom c behind.0
  cut_made = cut_from_lem k cutting c behind.0 behind.1

  cut_carried : 1 ≤ c.rr → Carried c.rr r
  cut_carried one =
      let b = behind.0 in
      let B = cut_made in
      record {
        bond = b.bond;
        numbers = b.carry;
        bonds = ap (λ (x : Carry × Cut). x.1.bonds) (sym is_cut);
        «is» = ap (λ (x : Carry × Cut). x.0) (sym is_cut);
        least = B.least;
        most = B.most one;
        long = B.carry_long;
        fine = B.carry_fine;
        dropped = B.dropped_fine;
      }

  cut_fine : all_finite r.1.core.entries ≡ true
  cut_fine = ap (λ (x : Carry × Cut). all_finite x.1.core.entries) (sym is_cut) ∙ cut_made.fine

  cut_of : CutOf true none c r
  cut_of = let B = cut_made in subst (CutOf true none c) is_cut (record { left = B.left; points = B.points; right = B.kept; long = B.long })

last_is : (k : ℕ) (cutting : Cutting) (c : Core) (r : Carry × Cut) → cut_if false k cutting c ≡ Ok r → c ≡ r.1.core
last_is k cutting c r h = ap (λ (x : Carry × Cut). x.1.core) (ok_inj h)

either_fine : (more : Bool) (k : ℕ) (cutting : Cutting) (c : Core) (r : Carry × Cut) → all_finite c.entries ≡ true → cut_if more k cutting c ≡ Ok r → all_finite r.1.core.entries ≡ true
either_fine true k cutting c r f h = cut_fine k cutting c r h
either_fine false k cutting c r f h = ap (λ (x : Core). all_finite x.entries) (sym (last_is k cutting c r h)) ∙ f

either_of : (more : Bool) (k : ℕ) (cutting : Cutting) (c : Core) (r : Carry × Cut) → length c.entries ≡ volume c → cut_if more k cutting c ≡ Ok r → CutOf more none c r
either_of true k cutting c r f h = cut_of k cutting c r h
either_of false k cutting c r f h =
    let p = sym (last_is k cutting c r h) in
    record { left = ap (λ (x : Core). x.rl) p; points = ap (λ (x : Core). x.n) p; right = ap (λ (x : Core). x.rr) p; long = subst (λ (x : Core). length x.entries ≡ volume x) (sym p) f }

-- a cut of the core d, into which the carry s of c was taken
cut_taken : (more : Bool) (s : Carry) (c d : Core) (r : Carry × Cut) → Taken s c d → CutOf more none d r → CutOf more s c r
cut_taken more s c d r T C = record {
  left = C.left ∙ T.left;
  points = C.points ∙ T.points;
  right = C.right ∙ ap (λ (x : ℕ). cond more (rank_on r.0 0) x) T.right;
  long = C.long;
}

-- ---- both
module _ (cutting : Cutting) (k : ℕ) (s : Carry) (c : Core) (r : Carry × Cut) where
  pub round_fine : (more : Bool) → all_finite c.entries ≡ true → round_core cutting more k s c ≡ Ok r → all_finite r.1.core.entries ≡ true
  unfolding round_core
  round_fine more f h =
      let A = bind_ok (taken_in k s c) (λ d. cut_if more k cutting d) r h in
      either_fine more k cutting A.0 r ((taken k s c A.0 A.1).fine f) A.2

  pub round_carried : 1 ≤ c.rr → round_core cutting true k s c ≡ Ok r → Carried c.rr r
  unfolding round_core
  round_carried one h =
      let A = bind_ok (taken_in k s c) (λ d. cut_if true k cutting d) r h in
      let same = (taken k s c A.0 A.1).right in
      subst (λ (n : ℕ). Carried n r) same (cut_carried k cutting A.0 r A.2 (subst (λ (n : ℕ). 1 ≤ n) (sym same) one))

  pub round_of : (more : Bool) → length c.entries ≡ volume c → round_core cutting more k s c ≡ Ok r → CutOf more s c r
  unfolding round_core
  round_of more f h =
      let A = bind_ok (taken_in k s c) (λ d. cut_if more k cutting d) r h in
      let T = taken k s c A.0 A.1 in
      cut_taken more s c A.0 r T (either_of more k cutting A.0 r (T.long f) A.2)
