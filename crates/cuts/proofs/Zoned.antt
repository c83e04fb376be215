-- One zone of a rounding in its slots, by what each call says. Assumes nothing.
use mathlib.Core.Path.{◌≡◌, refl, sym, ap, ◌∙◌}
use Prim.Native.Nat.{ℕ, zero, suc, ◌+◌, ◌-◌, ◌*◌, ◌^◌, ◌≤◌, ◌<◌}
use native.Mathlib.Nat.{sub-zero, mul-le-mul_right, mul-le-mul_left}
use native.Mathlib.Omega.{arith}
use mathlib.Core.Bool.{Bool, true, false}
use mathlib.Core.List.{List, [], ◌∷◌, ◌++◌, append-nil}
use lib.ListN.{length, take, drop, replicate, length-drop, drop_of_length-le, take-append-drop}
use lib.Seq.{length-take-le, take_at, take-append-le, drop_at, drop-drop}
use lib.Ieee.{Float}
use mir.Syntax.{w64}
use mir.Val as val
use Rattle.answers.specs.declared.Part.TheVariants.{Factor}
use Rattle.answers.specs.declared.Refusal.{Refusal}
use Rattle.std.specs.Prelude.{Ok, Err}
use Rattle.std.specs.Result.{IfOk}
use Rattle.answers.specs.Outcome.{Made, Answer, bind, making, stage_of, staged, answered, outcome_of, stored_in, Stage, Check}
use Rattle.answers.proofs.Outcomes.{stored_answered}
use Rattle.numbers.specs.Arithmetic.{zero64}
use Rattle.lists.specs.Slots.{fit}
use Rattle.lists.specs.Floats.{stored}
use Rattle.lists.proofs.Slots.{fit_whole}
use Rattle.lists.proofs.Stages.{stored_staged}
use Rattle.lists.proofs.Parts.{span_again}
use Rattle.shape.specs.Cores.{Core, core_with}
use Rattle.cutform.specs.declared.Bond.{Bond}
use Rattle.cutform.specs.declared.Cutting.{Cutting}
use Rattle.cutform.specs.Bonds.{CutCore, cut_bond, absorb}
use Rattle.cutform.proofs.Made.{cut_from_lem}
use Rattle.cutform.specs.Rounding.{Carry, some, taken_in, cut_if, round_core}
use Rattle.bond.specs.Stages.{cut_into}
use Rattle.cuts.specs.ZoneSlots.{carry_from, Laid, laid_cut, laid_as}

-- ---- sizes
module _ (m rr l : ℕ) (h : m * rr ≤ l) (small : l * 8 < 2 ^ 63) where
  pub size_fits : val.Fits w64 (m * rr)
  size_fits = record { fits = omega arith }

  pub rows_fit : 1 ≤ rr → val.Fits w64 m
  rows_fit o = record { fits = omega (arith, mul-le-mul_left m o) }

  pub least_fits : (r n : ℕ) → r * n * rr ≤ m * rr → val.Fits w64 (r * n * rr)
  least_fits r n o = record { fits = omega arith }

pub ruleset sizes = (size_fits, rows_fit, least_fits)

-- a lower rank is fewer numbers
module _ (m rank rr l : ℕ) (q : rank ≤ rr) where
  pub rank_within : m * rr ≤ l → m * rank ≤ l
  rank_within h = omega (arith, mul-le-mul_left m q)

  pub carry_within : rr * m ≤ l → rank * m ≤ l
  carry_within h = omega (arith, mul-le-mul_right m q)

  pub rank_fits : m * rr ≤ l → l * 8 < 2 ^ 63 → val.Fits w64 (m * rank)
  rank_fits h small = record { fits = omega (arith, rank_within h) }

  pub carry_fits : rr * m ≤ l → l * 8 < 2 ^ 63 → val.Fits w64 (rank * m)
  carry_fits h small = record { fits = omega (arith, carry_within h) }

pub ruleset ranks = (rank_within, carry_within, rank_fits, carry_fits)

-- fewer rows are fewer numbers
pub fewer_rows : (r rl n rr : ℕ) → r ≤ rl → r * n * rr ≤ rl * n * rr
fewer_rows r rl n rr h = mul-le-mul_right rr (mul-le-mul_right n h)

-- ---- room behind what is used
pub cleared : (used m : ℕ) (l r : List Float) → used ≤ length l → m ≡ length l - used → r ≡ replicate (length (take m (drop used l))) zero64
    → take used l ++ (r ++ drop m (drop used l)) ≡ fit zero64 (length l) (take used l)
cleared used m l r h e f =
    let a = length-drop used l in
    let b = length-take-le used l h in
    let c : length (take m (drop used l)) ≡ length l - length (take used l) = omega (arith, length-take-le m (drop used l) (omega arith)) in
    ap (λ (x : List Float). take used l ++ (r ++ x)) (drop_of_length-le (drop used l) {i = m} (omega arith))
    ∙ ap (λ (x : List Float). take used l ++ x) (append-nil r ∙ f ∙ ap (λ (i : ℕ). replicate i zero64) c)
    ∙ sym (fit_whole zero64 (length l) (take used l) (omega arith))

-- ---- a carry taken in
pub absorbed_is : (x o out : List Float) (m : ℕ) (s : Stage) → o ≡ x ++ drop m out → length out ≡ m → s ≡ stage_of (stored o) → stored x ≡ staged s o
absorbed_is x o out m s e l h =
    let d : drop m out ≡ [] = drop_of_length-le out {i = m} (omega arith) in
    let q : o ≡ x = e ∙ ap (λ (y : List Float). x ++ y) d ∙ append-nil x in
    ap stored (sym q) ∙ stored_staged o s h

-- what was made in the room goes to the front of the slot
pub taken_is : (r rl n rr : ℕ) (carry slot made copied rest room : List Float) (s : Stage)
    → stored (absorb r (take (r * rl) carry) (core_with rl n rr (take (rl * n * rr - 0) slot))) ≡ staged s made → length made ≡ r * n * rr → copied ≡ take (r * n * rr - 0) (made ++ room)
    → stored (absorb r (take (r * rl) carry) (core_with rl n rr (take (rl * n * rr) slot))) ≡ staged s (take (r * n * rr) (copied ++ rest))
taken_is r rl n rr carry slot made copied rest room s h l f =
    let e = r * n * rr in
    let g : copied ≡ made = f ∙ span_again e made room l in
    ap (λ (m : ℕ). stored (absorb r (take (r * rl) carry) (core_with rl n rr (take m slot)))) (sym (sub-zero (rl * n * rr)))
    ∙ h
    ∙ ap (staged s) (sym (take_at made rest e l) ∙ ap (λ (x : List Float). take e (x ++ rest)) (sym g))

module _ (k r rl n rr : ℕ) (carry slot : List Float) where
  abbrev Taken : Answer Core
  Taken = taken_in k (carry_from k r (take (r * rl) carry)) (core_with rl n rr (take (rl * n * rr) slot))

  -- core 0 takes in nothing
  pub taken_none : k < 1 → (k ≡ 0 → r ≡ rl) → Taken ≡ answered (Ok tt) (core_with r n rr (take (r * n * rr) slot))
  unfolding answered
  taken_none l f = go k (omega arith)
    where
      go : (j : ℕ) → j ≡ 0 → taken_in j (carry_from j r (take (r * rl) carry)) (core_with rl n rr (take (rl * n * rr) slot)) ≡ Ok (core_with r n rr (take (r * n * rr) slot))
      go zero e = let h : r ≡ rl = f (omega arith) in ap (λ (m : ℕ). Ok (core_with m n rr (take (m * n * rr) slot))) (sym h)
      go (suc j) e = let z : ⊥ = omega arith in absurd z

  module _ (l : 1 ≤ k) (s : Stage) (after : List Float) (e : stored (absorb r (take (r * rl) carry) (core_with rl n rr (take (rl * n * rr) slot))) ≡ staged s (take (r * n * rr) after)) where
    taken_opened : Taken ≡ bind (making Factor k (staged s (take (r * n * rr) after))) (λ x. Ok (core_with r n rr x))
    taken_opened = go k l ∙ ap (λ (m : Made (List Float)). bind (making Factor k m) (λ x. Ok (core_with r n rr x))) e
      where
        go : (j : ℕ) → 1 ≤ j
            → taken_in j (carry_from j r (take (r * rl) carry)) (core_with rl n rr (take (rl * n * rr) slot))
            ≡ bind (making Factor j (stored (absorb r (take (r * rl) carry) (core_with rl n rr (take (rl * n * rr) slot))))) (λ x. Ok (core_with r n rr x))
        go zero o = let z : ⊥ = omega arith in absurd z
        go (suc j) o = refl

    -- v is what the call answers of that stage
    pub taken_made : (v : Check) → v ≡ stored_in Factor k s → Taken ≡ answered v (core_with r n rr (take (r * n * rr) after))
    unfolding answered
    taken_made v h =
        taken_opened
        ∙ ap (λ (o : Answer (List Float)). bind o (λ x. Ok (core_with r n rr x))) (stored_answered Factor k s v (take (r * n * rr) after) h)
        ∙ go v
      where
        go : (v : Check) → bind (answered v (take (r * n * rr) after)) (λ x. Ok (core_with r n rr x)) ≡ answered v (core_with r n rr (take (r * n * rr) after))
        go (Ok _) = refl
        go (Err q) = refl

-- a value that code answers, read at what is said of it
pub value_of : {A B : Type 0} (T : Answer A) (o : Answer B) (f : B → A) → T ≡ outcome_of o f → (b : B) → o ≡ Ok b → T ≡ Ok (f b)
unfolding outcome_of
value_of T o f e b h = e ∙ rw h

-- ---- a bond cut
module _ (k : ℕ) (cutting : Cutting) (c : Core) where
  abbrev laying : ℕ → ℕ → Answer CutCore → Answer Laid
  laying x y o = bind (bind o (λ b. Ok (some b.bond.rank b.carry, record { core = b.core; bonds = b.bond ∷ [] }))) (λ p. Ok (laid_cut x y p))

  pub rank_most : (b : CutCore) → cut_bond k cutting c ≡ Ok b → 1 ≤ c.rr → b.bond.rank ≤ c.rr
  rank_most b e o = (cut_from_lem k cutting c b e).most o

  -- what it leaves, laid into slots of x and y numbers
  pub cut_laid : (b : CutCore) → cut_bond k cutting c ≡ Ok b → (x y x' y' : ℕ) (core carry : List Float) → core ≡ fit zero64 x' b.core.entries → carry ≡ fit zero64 y' b.carry → x' ≡ x → y' ≡ y
      → bind (cut_if true k cutting c) (λ p. Ok (laid_cut x y p)) ≡ Ok (laid_as true b.core.rl b.bond core carry)
  cut_laid b d x y x' y' core carry f g i j = ap (laying x y) d ∙ rw (f, g, i, j, (cut_from_lem k cutting c b d).kept)

  pub cut_stopped : (q : Refusal) → cut_bond k cutting c ≡ Err q → (x y : ℕ) → bind (cut_if true k cutting c) (λ p. Ok (laid_cut x y p)) ≡ Err q
  cut_stopped q d x y = ap (laying x y) d

-- the front of a slot that was lent and came back as p
module _ (k : ℕ) (cutting : Cutting) (rl n rr : ℕ) (slot : List Float) (o : Answer Bond) (p carry : List Float)
    (e : cut_bond k cutting (core_with rl n rr (take (rl * n * rr - 0) slot)) ≡ outcome_of o (λ (b : Bond). cut_into rl n rr b p carry)) where
  front_whole : cut_bond k cutting (core_with rl n rr (take (rl * n * rr) slot)) ≡ outcome_of o (λ (b : Bond). cut_into rl n rr b p carry)
  front_whole = ap (λ (m : ℕ). cut_bond k cutting (core_with rl n rr (take m slot))) (sym (sub-zero (rl * n * rr))) ∙ e

  rank_fine : 1 ≤ rr → (b : Bond) → o ≡ Ok b → b.rank ≤ rr
  unfolding outcome_of
  rank_fine l b h = rank_most k cutting (core_with rl n rr (take (rl * n * rr) slot)) (cut_into rl n rr b p carry) (value_of _ o _ front_whole b h) l

  pub front_rank : 1 ≤ rr → IfOk o (λ (b : Bond). b.rank ≤ rr)
  front_rank l = go o refl
    where
      go : (u : Answer Bond) → o ≡ u → IfOk u (λ (b : Bond). b.rank ≤ rr)
      go (Ok b) h = rank_fine l b h
      go (Err q) h = tt

  pub front_cut : 1 ≤ rr → length p ≡ rl * n * rr → (rest : List Float)
      → cut_bond k cutting (core_with rl n rr (take (rl * n * rr) slot)) ≡ outcome_of o (λ (b : Bond). cut_into rl n rr b (p ++ rest) carry)
  unfolding outcome_of
  front_cut l i rest = go o refl
    where
      go : (u : Answer Bond) → o ≡ u → cut_bond k cutting (core_with rl n rr (take (rl * n * rr) slot)) ≡ outcome_of u (λ (b : Bond). cut_into rl n rr b (p ++ rest) carry)
      go (Ok b) h =
          let m : rl * n * b.rank ≤ length p = omega (arith, mul-le-mul_left (rl * n) (rank_fine l b h), i) in
          front_whole
          ∙ rw h (ap (λ (x : List Float). Ok (record { core = core_with rl n b.rank x; bond = b; carry = take (b.rank * rr) carry })) (sym (take-append-le (rl * n * b.rank) p rest m)))
      go (Err q) h = front_whole ∙ rw h

-- ---- with a bond to the right or without
module _ (k : ℕ) (cutting : Cutting) (c : Core) (x y : ℕ) (more : Bool) where
  pub if_cut : more ≡ true → (o : Answer Bond) (l : ℕ) (core carry : List Float)
      → bind (cut_if true k cutting c) (λ p. Ok (laid_cut x y p)) ≡ outcome_of o (λ (b : Bond). laid_as true l b core carry)
      → bind (cut_if more k cutting c) (λ p. Ok (laid_cut x y p)) ≡ outcome_of o (λ (b : Bond). laid_as more l b core carry)
  if_cut h o l core carry e = rw h e

  -- the last core has no room for a carry
  pub if_last : more ≡ false → (b : Bond) (core carry : List Float) → b.rank ≡ c.rr → core ≡ fit zero64 x c.entries → length carry ≡ y → y ≡ 0
      → bind (cut_if more k cutting c) (λ p. Ok (laid_cut x y p)) ≡ Ok (laid_as more c.rl b core carry)
  unfolding fit
  if_last h b core carry g i j z =
      rw (h, g, i)
      (ap (λ (l : List Float). Ok (record { left = c.rl; right = c.rr; bonds = []; core = fit zero64 x c.entries; carry = l })) (go carry (omega arith)))
    where
      go : (l : List Float) → length l ≡ 0 → fit zero64 y [] ≡ l
      go [] e = ap (λ (m : ℕ). fit zero64 m []) z
      go (a ∷ l) e = let w : ⊥ = omega arith in absurd w

-- ---- a zone: the carry taken in, then the cut
module _ (cutting : Cutting) (more : Bool) (k : ℕ) (s : Carry) (c : Core) (v : Check) (t : Core) (e : taken_in k s c ≡ answered v t) (x y : ℕ) where
  pub zone_stops : (q : Refusal) → v ≡ Err q → bind (round_core cutting more k s c) (λ p. Ok (laid_cut x y p)) ≡ Err q
  unfolding round_core answered
  zone_stops q h = let d : taken_in k s c ≡ Err q = e ∙ rw h in ap (λ (o : Answer Core). bind (bind o (λ t. cut_if more k cutting t)) (λ p. Ok (laid_cut x y p))) d

  pub zone_goes : v ≡ Ok tt → (u : Answer Bond) (l : ℕ) (core carry carry' : List Float) (x' y' : ℕ)
      → bind (cut_if more k cutting t) (λ p. Ok (laid_cut x' y' p)) ≡ outcome_of u (λ (b : Bond). laid_as more l b core carry) → x' ≡ x → y' ≡ y → carry' ≡ carry
      → bind (round_core cutting more k s c) (λ p. Ok (laid_cut x y p)) ≡ outcome_of u (λ (b : Bond). laid_as more l b core carry')
  unfolding round_core answered
  zone_goes h u l core carry carry' x' y' f i j g =
      let d : taken_in k s c ≡ Ok t = e ∙ rw h in
      ap (λ (o : Answer Core). bind (bind o (λ t. cut_if more k cutting t)) (λ p. Ok (laid_cut x y p))) d
      ∙ ap (λ (m : ℕ). bind (cut_if more k cutting t) (λ p. Ok (laid_cut m y p))) (sym i)
      ∙ ap (λ (m : ℕ). bind (cut_if more k cutting t) (λ p. Ok (laid_cut x' m p))) (sym j)
      ∙ f
      ∙ ap (λ (z : List Float). outcome_of u (λ (b : Bond). laid_as more l b core z)) (sym g)

-- ---- a part of a list, from `from` up to `to`
module _ (from to : ℕ) (l : List Float) (h : from ≤ to) (w : to ≤ length l) where
  pub part_long : length (take (to - from) (drop from l)) ≡ to - from
  part_long = let a = length-drop from l in length-take-le (to - from) (drop from l) (omega arith)

  -- as it was
  pub part_same : l ≡ take from l ++ (take (to - from) (drop from l) ++ drop to l)
  part_same =
      let e : from + (to - from) ≡ to = omega arith in
      sym (take-append-drop from l)
      ∙ ap (λ (x : List Float). take from l ++ x) (sym (take-append-drop (to - from) (drop from l)) ∙ ap (λ (x : List Float). take (to - from) (drop from l) ++ x) (drop-drop (to - from) from l ∙ ap (λ (m : ℕ). drop m l) e))

  -- and with another part
  module _ (x : List Float) (f : length x ≡ length (take (to - from) (drop from l))) where
    abbrev anew : List Float
    anew = take from l ++ (x ++ drop (to - from) (drop from l))

    pub part_read : take (to - from) (drop from anew) ≡ x
    part_read =
        ap (take (to - from)) (drop_at (take from l) (x ++ drop (to - from) (drop from l)) from (length-take-le from l (omega arith)))
        ∙ take_at x (drop (to - from) (drop from l)) (to - from) (f ∙ part_long)

    pub part_anew : anew ≡ take from l ++ (take (to - from) (drop from anew) ++ drop to l)
    part_anew =
        let e : from + (to - from) ≡ to = omega arith in
        ap (λ (y : List Float). take from l ++ (x ++ y)) (drop-drop (to - from) from l ∙ ap (λ (m : ℕ). drop m l) e)
        ∙ ap (λ (y : List Float). take from l ++ (y ++ drop to l)) (sym part_read)
