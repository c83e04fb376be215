-- The two new cores have the sizes and the numbers of a pair, and the passes answered are counted. Assumes nothing.
use Rattle.std.specs.Prelude.{Ok}
use mathlib.Core.Path.{◌≡◌, ap, ap₂, ◌∙◌, sym}
use Prim.Native.Nat.{ℕ, ◌*◌, ◌≤◌}
use mathlib.Core.Bool.{true}
use mathlib.Core.List.{List}
use lib.Dec.{leb}
use lib.ListN.{length}
use lib.Ieee.{Float}
use Rattle.answers.specs.declared.Part.TheVariants.{Entry, Spectrum, Factor}
use Rattle.answers.specs.declared.Refusal.TheVariants.{PairRank}
use Rattle.answers.specs.Outcome.{Answer, bind, demand, making}
use Rattle.answers.proofs.Outcomes.{bind_ok, ok_inj, making_is}
use Rattle.answers.proofs.Checks.{then_is, demand_is}
use Rattle.lists.specs.Floats.{all_finite, stored}
use Rattle.lists.proofs.Floats.{stored_is}
use Rattle.lists.proofs.Tests.{leb_is}
use Rattle.shape.specs.Limits.{most_rank}
use Rattle.shape.specs.Cores.{Core, core_with}
use Rattle.cutform.specs.Values.{order, sorted, kept_rank}
use Rattle.pairform.specs.Slabs.{slab}
use Rattle.pairform.specs.Numbers.{left_numbers, right_numbers}
use Rattle.pairform.specs.Passes.{Passes, most_passes, orthogonalized, start}
use Rattle.pairform.specs.Splits.{values, Halves, formed, cut, split, pair_of}
use Rattle.pairform.specs.PassClaims.{Counted}
use Rattle.pairform.specs.SplitClaims.{Formed}
use Rattle.pairform.proofs.Counts.{passes_counted}
use Rattle.shape.proofs.Places.{block_length}
use Rattle.cutform.proofs.Ranked.{rank_least, rank_most}

module _ (rl nj nk rr : ℕ) where
  module _ (r : ℕ) (ss : List Float) (js : List ℕ) (w : Passes) where
    abbrev lefts : List Float
    lefts = left_numbers rl nj r ss js w.svd.columns

    abbrev rights : List Float
    rights = right_numbers r nk rr js w.svd.basis

    abbrev halves : List Float → List Float → Halves
    halves x y = record { left = core_with rl nj r x; right = core_with r nk rr y; passes = w.count }

    -- what was formed is made of these two lists, which are finite
    formed_is : (h : Halves) → formed rl nj nk rr r ss js w ≡ Ok h → (halves lefts rights ≡ h) × (all_finite lefts ≡ true) × (all_finite rights ≡ true)
    unfolding formed
    formed_is h e =
        let a = bind_ok (making Factor 0 (stored lefts)) (λ x. bind (making Factor 1 (stored rights)) (λ y. Ok (halves x y))) h e in
        let b = bind_ok (making Factor 1 (stored rights)) (λ y. Ok (halves a.0 y)) h a.2 in
        let p = stored_is lefts a.0 (making_is Factor 0 (stored lefts) a.0 a.1) in
        let q = stored_is rights b.0 (making_is Factor 1 (stored rights) b.0 b.1) in
        (ap₂ halves p.0 q.0 ∙ ok_inj b.2, ap all_finite p.0 ∙ p.1, ap all_finite q.0 ∙ q.1)

    left_length_lem : length lefts ≡ rl * nj * r
    unfolding left_numbers
    left_length_lem = block_length rl nj r _

    right_length_lem : length rights ≡ r * nk * rr
    unfolding right_numbers
    right_length_lem = block_length r nk rr _

    formed_right : 1 ≤ r → r ≤ nk * rr → r ≤ most_rank → (h : Halves) → formed rl nj nk rr r ss js w ≡ Ok h → Formed rl nj nk rr h × (h.passes ≡ w.count)
    formed_right low most limit h e =
        let (z, p, q) = formed_is h e in
        let rank : h.left.rr ≡ r = ap (λ (k : Halves). k.left.rr) (sym z) in (
          record {
            left_rank = ap (λ (k : Halves). k.left.rl) (sym z);
            left_points = ap (λ (k : Halves). k.left.n) (sym z);
            right_points = ap (λ (k : Halves). k.right.n) (sym z);
            right_rank = ap (λ (k : Halves). k.right.rr) (sym z);
            shared = ap (λ (k : Halves). k.right.rl) (sym z) ∙ sym rank;
            least = rw rank low;
            within_columns = rw rank most;
            within_limit = rw rank limit;
            left_length = ap (λ (k : Halves). length k.left.entries) (sym z) ∙ left_length_lem ∙ ap (λ (k : ℕ). rl * nj * k) (sym rank);
            right_length = ap (λ (k : Halves). length k.right.entries) (sym z) ∙ right_length_lem ∙ ap (λ (k : ℕ). k * nk * rr) (sym rank);
            left_finite = ap (λ (k : Halves). all_finite k.left.entries) (sym z) ∙ p;
            right_finite = ap (λ (k : Halves). all_finite k.right.entries) (sym z) ∙ q;
          },
          ap (λ (k : Halves). k.passes) (sym z),
        )

  module _ (eps : Float) (some : 1 ≤ nk * rr) where
    cut_formed : (w : Passes) (sv : List Float) (h : Halves) → cut eps rl nj nk rr w sv ≡ Ok h → Formed rl nj nk rr h × (h.passes ≡ w.count)
    unfolding cut
    cut_formed w sv h e =
        let n = nk * rr in
        let ss = sorted n sv in
        let r = kept_rank eps n ss in
        let a = then_is (demand (leb r most_rank) PairRank) (formed rl nj nk rr r ss (order n sv) w) h e in
        formed_right r ss (order n sv) w (rank_least eps n ss) (rank_most eps n ss some) (leb_is r most_rank (demand_is (leb r most_rank) PairRank a.0)) h a.1

    -- what a slab is split into, and the passes that it took
    pub split_formed : (s : List Float) (h : Halves) → split eps rl nj nk rr s ≡ Ok h
        → Formed rl nj nk rr h × ((w : Passes) × (h.passes ≡ w.count) × Counted most_passes (rl * nj) (nk * rr) (start (rl * nj) (nk * rr) s) w)
    unfolding split
    split_formed s h e =
        let m = rl * nj in
        let n = nk * rr in
        let made = orthogonalized m n (start m n s) in
        let next : Passes → Answer (List Float) = λ w. making Spectrum 0 (stored (values m n w.svd.columns)) in
        let a = bind_ok (making Spectrum 0 made) (λ w. bind (next w) (λ sv. cut eps rl nj nk rr w sv)) h e in
        let b = bind_ok (next a.0) (λ sv. cut eps rl nj nk rr a.0 sv) h a.2 in
        let c = cut_formed a.0 b.0 h b.2 in
        (c.0, (a.0, c.1, passes_counted m n (start m n s) a.0 (making_is Spectrum 0 made a.0 a.1)))

-- what a pair becomes
pub pair_formed : (eps : Float) (l r : Core) (h : Halves) → 1 ≤ r.n * r.rr → pair_of eps l r ≡ Ok h
    → Formed l.rl l.n r.n r.rr h
    × ((w : Passes) × (h.passes ≡ w.count) × Counted most_passes (l.rl * l.n) (r.n * r.rr) (start (l.rl * l.n) (r.n * r.rr) (slab l r)) w)
unfolding pair_of
pair_formed eps l r h some e =
    let a = bind_ok (making Entry 0 (stored (slab l r))) (λ s. split eps l.rl l.n r.n r.rr s) h e in
    let p = stored_is (slab l r) a.0 (making_is Entry 0 (stored (slab l r)) a.0 a.1) in
    split_formed l.rl l.n r.n r.rr eps some (slab l r) h (rw p.0 a.2)
