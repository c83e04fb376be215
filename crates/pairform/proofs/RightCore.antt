-- A pair's right core is never refused: its numbers are those of the basis, which were stored. Assumes nothing.
use Rattle.std.specs.Prelude.{Ok, Err}
use mathlib.Core.Path.{◌≡◌, refl, ap, sym, ◌∙◌}
use Prim.Native.Nat.{ℕ, ◌+◌, ◌*◌, ◌<◌, ◌≤◌}
use native.Mathlib.Nat.{le_refl, le_of_eq}
use native.Mathlib.Omega.{arith}
use mathlib.Core.Bool.{Bool, true, false}
use mathlib.Core.List.{List}
use lib.Dec.{leb}
use lib.ListN.{length, get_or}
use lib.Ieee.{Float, nan}
use Rattle.numbers.specs.Finite.{finite}
use Rattle.answers.specs.declared.Part.{Part}
use Rattle.answers.specs.declared.Part.TheVariants.{Entry, Spectrum, Factor}
use Rattle.answers.specs.declared.Refusal.{Refusal}
use Rattle.answers.specs.declared.Refusal.TheVariants.{Stored, PairRank}
use Rattle.answers.specs.Outcome.{Answer, Made, bind, making, demand, ◌then◌}
use Rattle.answers.specs.Table.{number_of, place_of}
use Rattle.answers.proofs.Outcomes.{ok_err, err_inj}
use Rattle.lists.specs.Lists.{grid}
use Rattle.lists.specs.Floats.{cell, all_finite, stored}
use Rattle.lists.proofs.Cells.{cell_lt}
use Rattle.lists.proofs.Finite.{joined_finite, grid_finite}
use Rattle.lists.proofs.Floats.{finite_get_d_lem, stored_is, stored_yes}
use Rattle.lists.proofs.Tables.{length_grid, length_tab}
use Rattle.shape.specs.Cores.{Core, core_with, block}
use Rattle.shape.specs.Limits.{most_rank}
use Rattle.cutform.specs.Values.{order, sorted, kept_rank}
use Rattle.cutform.proofs.Ranked.{order_lt, rank_most}
use Rattle.pairform.specs.Slabs.{slab}
use Rattle.pairform.specs.Numbers.{left_numbers, right_numbers}
use Rattle.pairform.specs.Passes.{Passes, orthogonalized, start}
use Rattle.pairform.specs.Splits.{Halves, values, formed, cut, split, pair_of}
use Rattle.pairform.proofs.Wholes.{Whole, start_whole, passes_whole}

-- ---- the right core's numbers are finite
module _ (r nk rr : ℕ) (js : List ℕ) (v : List Float) (within : (k : ℕ) → k < r → get_or js k 0 < nk * rr) (long : length v ≡ nk * rr * (nk * rr)) (fine : all_finite v ≡ true) where
  number_finite : (k ik ir : ℕ) → k < r → ik < nk → ir < rr → finite (cell (nk * rr) v (get_or js k 0) (ik * rr + ir)) ≡ true
  number_finite k ik ir a b c =
      let column = cell_lt ik nk rr ir (nk * rr) b c (le_refl (nk * rr)) in
      finite_get_d_lem v (get_or js k 0 * (nk * rr) + (ik * rr + ir)) nan (cell_lt (get_or js k 0) (nk * rr) (nk * rr) (ik * rr + ir) (length v) (within k a) column (le_of_eq (sym long))) fine

  right_stored : stored (right_numbers r nk rr js v) ≡ Ok (right_numbers r nk rr js v)
  unfolding right_numbers block
  right_stored =
      let number : ℕ → ℕ → ℕ → Float = λ (k ik ir : ℕ). cell (nk * rr) v (get_or js k 0) (ik * rr + ir) in
      stored_yes (right_numbers r nk rr js v)
      (joined_finite r (λ (k : ℕ). grid nk rr (number k)) (λ k a. grid_finite nk rr (number k) (λ ik ir b c. number_finite k ik ir a b c)))

-- ---- where another stage is refused, it is with its own part and core
passed_on : {A B : Type 0} (p : Part) (k : ℕ) (m : Made A) (f : A → Answer B) (q : Refusal) → ((n : ℕ) → Stored p k n ≡ q → ⊥)
    → bind (making p k m) f ≡ Err q → (a : A) × (m ≡ Ok a) × (f a ≡ Err q)
passed_on p k (Ok a) f q other e = (a, refl, e)
passed_on p k (Err n) f q other e = absurd (other n (err_inj e))

module _ (i : ℕ) where
  abbrev right : Refusal
  right = Stored Factor 1 i

  entry_other : (n : ℕ) → Stored Entry 0 n ≡ right → ⊥
  entry_other n e = let z : ◌≡◌ {A = ℕ} 9 13 = ap number_of e in omega arith

  spectrum_other : (n : ℕ) → Stored Spectrum 0 n ≡ right → ⊥
  spectrum_other n e = let z : ◌≡◌ {A = ℕ} 12 13 = ap number_of e in omega arith

  left_other : (n : ℕ) → Stored Factor 0 n ≡ right → ⊥
  left_other n e = let z : ◌≡◌ {A = ℕ} 0 1 = ap place_of e in omega arith

  tested_never : (b : Bool) (o : Answer Halves) → (o ≡ Err right → ⊥) → demand b PairRank then o ≡ Err right → ⊥
  unfolding demand
  tested_never true o never e = never e
  tested_never false o never e = let z : ◌≡◌ {A = ℕ} 10 13 = ap number_of (err_inj e) in omega arith

  module _ (rl nj nk rr : ℕ) where
    formed_never : (r : ℕ) (ss : List Float) (js : List ℕ) (w : Passes) → stored (right_numbers r nk rr js w.svd.basis) ≡ Ok (right_numbers r nk rr js w.svd.basis)
        → formed rl nj nk rr r ss js w ≡ Err right → ⊥
    unfolding formed
    formed_never r ss js w whole e =
        let halves : List Float → List Float → Halves = λ x y. record { left = core_with rl nj r x; right = core_with r nk rr y; passes = w.count } in
        let last : List Float → Answer Halves = λ x. bind (making Factor 1 (stored (right_numbers r nk rr js w.svd.basis))) (λ y. Ok (halves x y)) in
        let (x, a, b) = passed_on Factor 0 (stored (left_numbers rl nj r ss js w.svd.columns)) last right left_other e in
        let rest : Made (List Float) → Answer Halves = λ o. bind (making Factor 1 o) (λ y. Ok (halves x y)) in
        ok_err (sym (ap rest whole) ∙ b)

    module _ (eps : Float) (some : 1 ≤ nk * rr) where
      cut_never : (w : Passes) (sv : List Float) → Whole (rl * nj) (nk * rr) w.svd → length sv ≡ nk * rr → all_finite sv ≡ true
          → cut eps rl nj nk rr w sv ≡ Err right → ⊥
      unfolding cut
      cut_never w sv h long fine e =
          let n = nk * rr in
          let ss = sorted n sv in
          let r = kept_rank eps n ss in
          let js = order n sv in
          let most = rank_most eps n ss some in
          let whole = right_stored r nk rr js w.svd.basis (λ k a. order_lt n sv long fine js refl k (omega arith)) h.basis_length h.basis_finite in
          tested_never (leb r most_rank) (formed rl nj nk rr r ss js w) (λ f. formed_never r ss js w whole f) e

      split_never : (s : List Float) → length s ≡ rl * nj * (nk * rr) → all_finite s ≡ true → split eps rl nj nk rr s ≡ Err right → ⊥
      unfolding split values
      split_never s long fine e =
          let m = rl * nj in
          let n = nk * rr in
          let next : Passes → Answer (List Float) = λ w. making Spectrum 0 (stored (values m n w.svd.columns)) in
          let (w, a, b) = passed_on Spectrum 0 (orthogonalized m n (start m n s)) (λ w. bind (next w) (λ sv. cut eps rl nj nk rr w sv)) right spectrum_other e in
          let (sv, c, d) = passed_on Spectrum 0 (stored (values m n w.svd.columns)) (λ sv. cut eps rl nj nk rr w sv) right spectrum_other b in
          let (is, whole) = stored_is (values m n w.svd.columns) sv c in
          cut_never w sv (passes_whole m n (start m n s) w (start_whole m n s long fine) a) (ap length (sym is) ∙ length_tab n _) whole d

  -- THE THEOREM: no pair is refused with 13 at its core 1
  pub right_never : (eps : Float) (l r : Core) → 1 ≤ r.n * r.rr → pair_of eps l r ≡ Err right → ⊥
  unfolding pair_of slab
  right_never eps l r some e =
      let (s, a, b) = passed_on Entry 0 (stored (slab l r)) (λ s. split eps l.rl l.n r.n r.rr s) right entry_other e in
      let (is, fine) = stored_is (slab l r) s a in
      split_never l.rl l.n r.n r.rr eps some s (ap length (sym is) ∙ length_grid (l.rl * l.n) (r.n * r.rr) _) fine b
