-- The call by its verdicts: what the checks say, what an outcome leaves, and which refusals leave scratch unwritten. Assumes nothing.
use mathlib.Core.Path.{◌≡◌, refl, sym, ap, ◌∙◌}
use Prim.Native.Nat.{ℕ, ◌*◌, ◌≤◌}
use native.Mathlib.Nat.{mul_assoc, mul-le-mul}
use native.Mathlib.Omega.{arith}
use mathlib.Core.List.{List}
use lib.Dec.{leb}
use lib.ListN.{length, replicate}
use lib.Ieee.{Float}
use Rattle.numbers.specs.Arithmetic.{zero64}
use Rattle.answers.specs.declared.Part.TheVariants.{Entry, Spectrum, Factor}
use Rattle.answers.specs.declared.Refusal.{Refusal}
use Rattle.answers.specs.declared.Refusal.TheVariants.{Size, Ranks, Length, Number, Setting, PairRank}
use Rattle.std.specs.Prelude.{Ok, Err}
use Rattle.answers.specs.Outcome.{Answer, Check}
use Rattle.answers.specs.Table.{Late}
use Rattle.answers.proofs.Late.{Early, early_demand, early_then, late_ok, late_then, late_demand}
use Rattle.answers.proofs.Checks.{verdict_passed, verdict_refused}
use Rattle.lists.specs.Lists.{pick}
use Rattle.lists.specs.Slots.{fit}
use Rattle.lists.specs.Floats.{stored}
use Rattle.shape.specs.Limits.{most_rank}
use Rattle.shape.specs.Cores.{Core}
use Rattle.cutform.specs.Call.{scratch_after}
use Rattle.cutform.specs.Values.{order, sorted, kept_rank}
use Rattle.pairform.specs.Passes.{Passes, orthogonalized, start}
use Rattle.pairform.specs.declared.Sizes as given
use Rattle.pairform.specs.declared.Paired.{Paired}
use Rattle.pairform.specs.Slabs.{slab}
use Rattle.pairform.specs.Splits.{values, Halves, formed, cut, split, pair_of}
use Rattle.pairform.specs.Numbers.{left_numbers, right_numbers}
use Rattle.pairform.specs.Call.{core_of, core_numbers, left_room, right_room, pair_sized, pair_lent, pair_finite, pair_ok, PairEnded, pair_by, pair_call}
use Rattle.pair.specs.Loops.{Lines}
use Rattle.pair.proofs.Checked.{checked}
use Rattle.pairform.proofs.Splits.{pair_formed}

-- ---- what the checks say, for the work
pub record Ready (l r : given.Sizes) (left right : List Float) (lefts rights scratch : ℕ) : Type 0 where
  pub lines : Lines (l.rl * l.n) (r.n * r.rr)
  pub left_long : length left ≡ l.rl * l.n * l.rr
  pub right_long : length right ≡ l.rr * (r.n * r.rr)
  pub room : r.n * r.rr * (l.rl * l.n) ≤ scratch
  pub left_out : lefts ≡ l.rl * l.n * most_rank
  pub right_out : rights ≡ most_rank * (r.n * r.rr)

pub ready : (l r : given.Sizes) (eps : Float) (left right : List Float) (lefts rights scratch : ℕ) → pair_ok (core_of l left) (core_of r right) eps lefts rights scratch ≡ Ok tt → Ready l r left right lefts rights scratch
unfolding core_numbers left_room right_room
ready l r eps left right lefts rights scratch h =
    let c = checked (core_of l left) (core_of r right) eps lefts rights scratch h in
    record {
      lines = record { rows = c.rows; columns = c.columns; some = mul-le-mul c.right.n.least c.right.rr.least };
      left_long = c.left_length;
      right_long = c.right_length ∙ mul_assoc r.rl r.n r.rr ∙ ap (λ (k : ℕ). k * (r.n * r.rr)) (sym c.middle);
      room = omega (arith, mul-le-mul c.columns c.rows, c.scratch_length);
      left_out = c.left_roomy;
      right_out = c.right_roomy ∙ mul_assoc most_rank r.n r.rr;
    }

-- a pair that was made has a rank within the limit
pub rank_small : (eps : Float) (l r : Core) (h : Halves) → 1 ≤ r.n * r.rr → pair_of eps l r ≡ Ok h → h.left.rr ≤ most_rank
rank_small eps l r h some e = (pair_formed eps l r h some e).0.within_limit

-- ---- what the work leaves
module _ (lefts rights scratch : List Float) (T : Answer Halves) where
  abbrev ends : PairEnded
  ends = pair_by lefts rights scratch T

  pub ended_refused : (q : Refusal) → T ≡ Err q → (Err q ≡ ends.result) × (lefts ≡ ends.left) × (rights ≡ ends.right)
  unfolding pair_by
  ended_refused q z = (rw z, rw z, rw z)

  pub ended_made : (h : Halves) → T ≡ Ok h → (w : Paired) → w ≡ record { rank = h.left.rr; passes = h.passes } → (x y : List Float)
      → x ≡ fit zero64 (length lefts) h.left.entries → y ≡ fit zero64 (length rights) h.right.entries
      → (Ok w ≡ ends.result) × (x ≡ ends.left) × (y ≡ ends.right)
  unfolding pair_by
  ended_made h z w ew x y ex ey = (rw z (ap Ok ew), rw z ex, rw z ey)

-- ---- a check refuses before the work
pub checks_early : (l r : Core) (eps : Float) (lefts rights scratch : ℕ) → Early (pair_ok l r eps lefts rights scratch)
unfolding pair_ok pair_sized pair_lent pair_finite
checks_early l r eps lefts rights scratch =
    early_then _ _ (early_then _ _ (early_demand _ (Size 0) refl) (early_then _ _ (early_demand _ (Size 1) refl) (early_demand _ (Ranks 0) refl)))
    (early_then _ _
    (early_then _ _ (early_demand _ (Length 0) refl) (early_then _ _ (early_demand _ (Length 1) refl) (early_then _ _ (early_demand _ (Length 2) refl) (early_then _ _ (early_demand _ (Length 3) refl) (early_demand _ (Length 4) refl)))))
    (early_then _ _ (early_demand _ (Number 0) refl) (early_then _ _ (early_demand _ (Number 1) refl) (early_demand _ (Setting 0) refl))))

-- ---- the work refuses later
module _ (rl nj nk rr : ℕ) where
  formed_late : (r : ℕ) (ss : List Float) (js : List ℕ) (w : Passes) → Late (formed rl nj nk rr r ss js w)
  unfolding formed
  formed_late r ss js w = late_then Factor 0 (stored (left_numbers rl nj r ss js w.svd.columns)) _ (λ x. late_then Factor 1 (stored (right_numbers r nk rr js w.svd.basis)) _ (λ y. late_ok _))

  cut_late : (eps : Float) (w : Passes) (sv : List Float) → Late (cut eps rl nj nk rr w sv)
  unfolding cut
  cut_late eps w sv = let n = nk * rr in let ss = sorted n sv in let r = kept_rank eps n ss in late_demand (leb r most_rank) PairRank (formed rl nj nk rr r ss (order n sv) w) refl (formed_late r ss (order n sv) w)

  split_late : (eps : Float) (s : List Float) → Late (split eps rl nj nk rr s)
  unfolding split
  split_late eps s = late_then Spectrum 0 (orthogonalized (rl * nj) (nk * rr) (start (rl * nj) (nk * rr) s)) _ (λ w. late_then Spectrum 0 (stored (values (rl * nj) (nk * rr) w.svd.columns)) _ (λ sv. cut_late eps w sv))

work_late : (eps : Float) (l r : Core) → Late (pair_of eps l r)
unfolding pair_of
work_late eps l r = late_then Entry 0 (stored (slab l r)) _ (λ s. split_late l.rl l.n r.n r.rr eps s)

pub scratch_cleared : (eps : Float) (l r : Core) (scratch : List Float) → scratch_after scratch (pair_of eps l r) ≡ replicate (length scratch) zero64
unfolding scratch_after pick
scratch_cleared eps l r scratch = go (pair_of eps l r) (work_late eps l r)
  where
    go : (o : Answer Halves) → Late o → scratch_after scratch o ≡ replicate (length scratch) zero64
    go (Ok h) e = refl
    go (Err q) e = rw (e q refl)

ended_cleared : (lefts rights scratch : List Float) (o : Answer Halves)
    → scratch_after scratch o ≡ replicate (length scratch) zero64
    → record { result = (pair_by lefts rights scratch o).result; left = (pair_by lefts rights scratch o).left; right = (pair_by lefts rights scratch o).right; scratch = replicate (length scratch) zero64 }
    ≡ pair_by lefts rights scratch o
unfolding pair_by
ended_cleared lefts rights scratch (Ok h) s = rw (← s)
ended_cleared lefts rights scratch (Err q) s = rw (← s)

-- ---- the call
module _ (l r : Core) (eps : Float) (lefts rights scratch : List Float) (v : Check) (e : v ≡ pair_ok l r eps (length lefts) (length rights) (length scratch)) where
  abbrev call : PairEnded
  call = pair_call l r eps lefts rights scratch

  pub call_refused : (q : Refusal) → v ≡ Err q → record { result = Err q; left = lefts; right = rights; scratch = scratch } ≡ call
  unfolding pair_call pair_by scratch_after pick
  call_refused q h =
      let z = verdict_refused (pair_ok l r eps (length lefts) (length rights) (length scratch)) v q e h in
      let b = (checks_early l r eps (length lefts) (length rights) (length scratch)).first q z in
      rw (z, b)

  module _ (h : v ≡ Ok tt) where
    pub call_ready : pair_ok l r eps (length lefts) (length rights) (length scratch) ≡ Ok tt
    call_ready = verdict_passed (pair_ok l r eps (length lefts) (length rights) (length scratch)) v e h

    pub call_made : (w : Answer Paired) (x y z : List Float) (k : ℕ)
        → (w ≡ (pair_by lefts rights scratch (pair_of eps l r)).result) × (x ≡ (pair_by lefts rights scratch (pair_of eps l r)).left) × (y ≡ (pair_by lefts rights scratch (pair_of eps l r)).right)
        → k ≡ length scratch → z ≡ replicate k zero64
        → record { result = w; left = x; right = y; scratch = z } ≡ call
    unfolding pair_call
    call_made w x y z k (ew, ex, ey) ek ez = rw (call_ready, ew, ex, ey, ez, ek) (ended_cleared lefts rights scratch (pair_of eps l r) (scratch_cleared eps l r scratch))
