-- A pair is its slab's columns split, and the numbers told as cores. Assumes nothing.
use mathlib.Core.Path.{◌≡◌, refl, ap, ◌∙◌}
use Prim.Native.Nat.{ℕ, ◌*◌}
use native.Mathlib.Omega.{arith}
use mathlib.Core.List.{List}
use lib.Dec.{leb}
use lib.ListN.{get_or}
use lib.Ieee.{Float}
use Rattle.numbers.specs.Arithmetic.{times}
use Rattle.answers.specs.declared.Part.{Part}
use Rattle.answers.specs.declared.Part.TheVariants.{Entry, Spectrum, Factor}
use Rattle.answers.specs.declared.Refusal.{Refusal}
use Rattle.answers.specs.declared.Refusal.TheVariants.{PairRank}
use Rattle.std.specs.Prelude.{Ok, Err, Result}
use Rattle.answers.specs.Outcome.{Made, Answer, Check, bind, making, demand, ◌then◌, staged, answered, outcome_of, stored_in, Stage}
use Rattle.answers.proofs.Outcomes.{stored_answered, answered_ok}
use Rattle.lists.specs.Floats.{at, cell, stored}
use Rattle.shape.specs.Limits.{most_rank}
use Rattle.shape.specs.Cores.{Core, core_with}
use Rattle.shape.proofs.Places.{block_rows, block_lines}
use Rattle.cutform.specs.Rotation.{eye}
use Rattle.cutform.specs.Values.{order, sorted, kept_rank}
use Rattle.pairform.specs.declared.Paired.{Paired}
use Rattle.pairform.specs.Passes.{svd, Passes, orthogonalized, start}
use Rattle.pair.specs.SlabLoops.{slab_at, columns_of, slab_columns}
use Rattle.pair.proofs.SlabEntries.{slab_flat}
use Rattle.pair.specs.Rows.{left_rows, right_rows, Both, formed_from}
use Rattle.pairform.specs.Numbers.{inverse, left_numbers, right_numbers}
use Rattle.pairform.specs.Splits.{values, Halves, formed, cut, split, pair_of}
use Rattle.pair.specs.Loops.{Valued, valued_from, Parted, parted, cut_from, split_from}

-- what is done with an outcome is done with what it holds
pub outcome_on : {E B X Y : Type 0} (o : Result B E) (f : B → X) (g : X → Y) → bind (outcome_of o f) (λ x. Ok (g x)) ≡ outcome_of o (λ (b : B). g (f b))
unfolding outcome_of
outcome_on (Ok b) f g = refl
outcome_on (Err e) f g = refl

-- a stage of which the call's verdict is that it fits is whole
pub told_whole : (part : Part) (k : ℕ) (s : Stage) (v : Check) → v ≡ stored_in part k s → v ≡ Ok tt → s ≡ (Ok tt)
unfolding staged
told_whole part k (Ok _) v e h = refl
told_whole part k (Err i) v e h = let z : ◌≡◌ {A = ℕ} 0 1 = cc in let n : ⊥ = omega arith in absurd n

-- ---- row by row
left_rows_lem : (rl nj r : ℕ) (ss : List Float) (js : List ℕ) (a : List Float) → left_numbers rl nj r ss js a ≡ left_rows (rl * nj) r ss js a
unfolding left_numbers left_rows
left_rows_lem rl nj r ss js a = block_rows rl nj r _ (λ (row k : ℕ). times (times (cell (rl * nj) a (get_or js k 0) row) (inverse (at ss k))) (at ss k)) (λ il im ir i j k. refl)

right_rows_lem : (r nk rr : ℕ) (js : List ℕ) (v : List Float) → right_numbers r nk rr js v ≡ right_rows (nk * rr) r js v
unfolding right_numbers right_rows
right_rows_lem r nk rr js v = block_lines r nk rr _ (λ (k i : ℕ). cell (nk * rr) v (get_or js k 0) i) (λ il im ir i j k. refl)

-- two stages that make one part are one stage
two_stages : {Y Z D R : Type 0} (part : Part) (k : ℕ) (b : Made Y) (f : Y → Made Z) (both : Y → Z → D) (K : D → Answer R)
    → bind (making part k b) (λ y. bind (making part k (f y)) (λ z. K (both y z)))
    ≡ bind (making part k (bind b (λ y. bind (f y) (λ z. Ok (both y z))))) K
two_stages {Y} {Z} {D} {R} part k (Ok y) f both K = last (f y)
  where
    last : (o : Made Z) → bind (making part k o) (λ z. K (both y z)) ≡ bind (making part k (bind o (λ z. Ok (both y z)))) K
    last (Ok z) = refl
    last (Err i) = refl
two_stages part k (Err i) f both K = refl

module _ (rl nj nk rr : ℕ) where
  -- the numbers told as cores of these outer sizes
  abbrev cored : Parted → Halves
  cored p = record { left = core_with rl nj p.rank p.left; right = core_with p.rank nk rr p.right; passes = p.passes }

  formed_flat : (r : ℕ) (ss : List Float) (js : List ℕ) (w : Passes) → formed rl nj nk rr r ss js w ≡ bind (formed_from (rl * nj) (nk * rr) r ss js w.svd.columns w.svd.basis) (λ h. Ok (cored (parted r w.count h)))
  unfolding formed formed_from
  formed_flat r ss js w = rw (left_rows_lem rl nj r ss js w.svd.columns, right_rows_lem r nk rr js w.svd.basis) (go (stored (left_rows (rl * nj) r ss js w.svd.columns)) (stored (right_rows (nk * rr) r js w.svd.basis)))
    where
      go : (x y : Made (List Float))
          → bind (making Factor 0 x) (λ l. bind (making Factor 1 y) (λ z. Ok (cored (parted r w.count (record { left = l; right = z })))))
          ≡ bind (bind (making Factor 0 x) (λ l. bind (making Factor 1 y) (λ z. Ok (record { left = l; right = z })))) (λ h. Ok (cored (parted r w.count h)))
      go (Ok l) (Ok z) = refl
      go (Ok l) (Err i) = refl
      go (Err i) y = refl

  cut_flat : (eps : Float) (w : Passes) (sv : List Float) → cut eps rl nj nk rr w sv ≡ bind (cut_from eps (rl * nj) (nk * rr) w sv) (λ p. Ok (cored p))
  unfolding cut cut_from
  cut_flat eps w sv = let ss = sorted (nk * rr) sv in let r = kept_rank eps (nk * rr) ss in go r ss (order (nk * rr) sv) (demand (leb r most_rank) PairRank)
    where
      told : (r : ℕ) (o : Answer Both) → bind o (λ h. Ok (cored (parted r w.count h))) ≡ bind (bind o (λ h. Ok (parted r w.count h))) (λ p. Ok (cored p))
      told r (Ok h) = refl
      told r (Err q) = refl

      go : (r : ℕ) (ss : List Float) (js : List ℕ) (d : Check)
          → d then formed rl nj nk rr r ss js w
          ≡ bind (d then bind (formed_from (rl * nj) (nk * rr) r ss js w.svd.columns w.svd.basis) (λ h. Ok (parted r w.count h))) (λ p. Ok (cored p))
      go r ss js (Ok u) = formed_flat r ss js w ∙ told r (formed_from (rl * nj) (nk * rr) r ss js w.svd.columns w.svd.basis)
      go r ss js (Err q) = refl

  split_flat : (eps : Float) (s : List Float) → split eps rl nj nk rr s ≡ bind (split_from eps (rl * nj) (nk * rr) (columns_of (rl * nj) (nk * rr) s)) (λ p. Ok (cored p))
  unfolding split split_from valued_from start
  split_flat eps s =
      let m = rl * nj in
      let n = nk * rr in
      let a = columns_of m n s in
      two_stages Spectrum 0 (orthogonalized m n (svd a (eye n))) (λ w. stored (values m n w.svd.columns)) (λ w sv. record { passes = w; values = sv }) (λ d. cut eps rl nj nk rr d.passes d.values) ∙ go (valued_from m n a)
    where
      go : (o : Made Valued) → bind (making Spectrum 0 o) (λ d. cut eps rl nj nk rr d.passes d.values) ≡ bind (bind (making Spectrum 0 o) (λ d. cut_from eps (rl * nj) (nk * rr) d.passes d.values)) (λ p. Ok (cored p))
      go (Ok d) = cut_flat eps d.passes d.values
      go (Err i) = refl

-- ---- the pair
module _ (eps : Float) (l r : Core) where
  abbrev columned : Made (List Float)
  columned = slab_columns (l.rl * l.n) l.rr (r.n * r.rr) l.entries r.entries

  abbrev halved : Parted → Halves
  halved p = record { left = core_with l.rl l.n p.rank p.left; right = core_with p.rank r.n r.rr p.right; passes = p.passes }

  pair_stages : pair_of eps l r ≡ bind (making Entry 0 columned) (λ a. bind (split_from eps (l.rl * l.n) (r.n * r.rr) a) (λ p. Ok (halved p)))
  unfolding pair_of slab_columns slab_at
  pair_stages = rw (slab_flat l r) (go (stored _))
    where
      go : (o : Made (List Float))
          → bind (making Entry 0 o) (λ s. split eps l.rl l.n r.n r.rr s)
          ≡ bind (making Entry 0 (bind o (λ s. Ok (columns_of (l.rl * l.n) (r.n * r.rr) s)))) (λ a. bind (split_from eps (l.rl * l.n) (r.n * r.rr) a) (λ p. Ok (halved p)))
      go (Ok s) = split_flat l.rl l.n r.n r.rr eps s
      go (Err i) = refl

  module _ (s : Stage) (a : List Float) (ea : columned ≡ staged s a) where
    pair_opened : pair_of eps l r ≡ bind (making Entry 0 (staged s a)) (λ x. bind (split_from eps (l.rl * l.n) (r.n * r.rr) x) (λ p. Ok (halved p)))
    pair_opened = pair_stages ∙ ap (λ (o : Made (List Float)). bind (making Entry 0 o) (λ x. bind (split_from eps (l.rl * l.n) (r.n * r.rr) x) (λ p. Ok (halved p)))) ea

    -- u is what the call answers of that stage
    module _ (u : Check) (told : u ≡ stored_in Entry 0 s) where
      pair_told : pair_of eps l r ≡ bind (answered u a) (λ x. bind (split_from eps (l.rl * l.n) (r.n * r.rr) x) (λ p. Ok (halved p)))
      pair_told =
          pair_opened
          ∙ ap (λ (o : Answer (List Float)). bind o (λ x. bind (split_from eps (l.rl * l.n) (r.n * r.rr) x) (λ p. Ok (halved p)))) (stored_answered Entry 0 s u a told)

      pub pair_stop : (q : Refusal) → u ≡ Err q → pair_of eps l r ≡ Err q
      unfolding answered
      pair_stop q e = pair_told ∙ rw e

      pub pair_end : u ≡ Ok tt → (o : Answer Paired) (f : Paired → Parted) → split_from eps (l.rl * l.n) (r.n * r.rr) a ≡ outcome_of o f → pair_of eps l r ≡ outcome_of o (λ (w : Paired). halved (f w))
      pair_end e o f g = opened e ∙ ap (λ (x : Answer Parted). bind x (λ p. Ok (halved p))) g ∙ outcome_on o f halved
        where
          opened : u ≡ Ok tt → pair_of eps l r ≡ bind (split_from eps (l.rl * l.n) (r.n * r.rr) a) (λ p. Ok (halved p))
          opened e = pair_told ∙ ap (λ (x : Answer (List Float)). bind x (λ x. bind (split_from eps (l.rl * l.n) (r.n * r.rr) x) (λ p. Ok (halved p)))) (ap (λ (x : Check). answered x a) e ∙ answered_ok a)
