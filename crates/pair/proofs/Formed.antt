-- The split of a slab's columns stage by stage, in the form that proofs of code cite. Assumes nothing.
use mathlib.Core.Path.{◌≡◌, refl, sym, ap, ◌∙◌}
use Prim.Native.Nat.{ℕ, ◌≤◌, ◌<◌}
use native.Mathlib.Omega.{arith}
use mathlib.Core.Bool.{true}
use mathlib.Core.List.{List, map}
use lib.Dec.{leb}
use lib.Ieee.{Float}
use Rattle.numbers.specs.Root.{root_of}
use Rattle.answers.specs.declared.Part.{Part}
use Rattle.answers.specs.declared.Part.TheVariants.{Spectrum}
use Rattle.answers.specs.declared.Refusal.{Refusal}
use Rattle.answers.specs.declared.Refusal.TheVariants.{PairRank}
use Rattle.std.specs.Prelude.{Ok, Err}
use Rattle.answers.specs.Outcome.{Made, Answer, bind, making, demand, ◌then◌, staged, stage_of, outcome_of, Stage}
use Rattle.answers.proofs.Outcomes.{bind_ok, ok_inj, making_is}
use Rattle.answers.proofs.Checks.{demand_yes, demand_no}
use Rattle.lists.specs.Floats.{all_finite, stored}
use Rattle.lists.proofs.Floats.{stored_is}
use Rattle.lists.proofs.Stages.{stored_staged, staged_last}
use Rattle.lists.proofs.Tables.{tab_map}
use Rattle.lists.proofs.Tests.{leb_yes, fails, leb_is}
use Rattle.shape.specs.Limits.{most_rank}
use Rattle.cutform.specs.Rotation.{eye}
use Rattle.cutform.specs.Values.{order, sorted, kept_rank}
use Rattle.pairform.specs.Columns.{dot}
use Rattle.columns.specs.Loops.{squares}
use Rattle.pairform.specs.Passes.{svd, Passes, made, orthogonalized}
use Rattle.pair.specs.Rows.{Both, formed_from}
use Rattle.pairform.specs.Splits.{values}
use Rattle.pair.specs.Loops.{Valued, valued_from, Parted, parted, cut_from, split_from}

-- ---- values
pub roots_are : (m n : ℕ) (a ss sv : List Float) → ss ≡ squares m n a → sv ≡ map root_of ss → sv ≡ values m n a
unfolding squares values
roots_are m n a ss sv es ev = ev ∙ ap (map root_of) es ∙ tab_map root_of n (λ (col : ℕ). dot m a col col)

module _ (m n : ℕ) (a v₀ : List Float) (ev : v₀ ≡ eye n) where
  valued_opened : (o : Made Passes) → orthogonalized m n (svd a v₀) ≡ o → valued_from m n a ≡ bind o (λ w. bind (stored (values m n w.svd.columns)) (λ sv. Ok (record { passes = w; values = sv })))
  unfolding valued_from
  valued_opened o e = rw (← ev, e)

  pub valued_stop : (i : ℕ) → orthogonalized m n (svd a v₀) ≡ Err i → valued_from m n a ≡ Err i
  valued_stop i e = valued_opened (Err i) e

  pub valued_end : (w : Passes) → orthogonalized m n (svd a v₀) ≡ Ok w → (sv : List Float) (t : Stage) → sv ≡ values m n w.svd.columns → t ≡ stage_of (stored sv)
      → valued_from m n a ≡ staged t (record { passes = w; values = sv })
  valued_end w e sv t es et =
      valued_opened (Ok w) e
      ∙ ap (λ (o : Made (List Float)). bind o (λ y. Ok (record { passes = w; values = y }))) (ap stored (sym es) ∙ stored_staged sv t et)
      ∙ staged_last t sv (λ y. record { passes = w; values = y })

pub values_finite : (m n : ℕ) (a : List Float) (d : Valued) → valued_from m n a ≡ Ok d → all_finite d.values ≡ true
unfolding valued_from
values_finite m n a d e =
    let A = bind_ok (orthogonalized m n (svd a (eye n))) _ d e in
    let B = bind_ok (stored (values m n A.0.svd.columns)) _ d A.2 in
    ap (λ (x : Valued). all_finite x.values) (sym (ok_inj B.2)) ∙ (stored_is (values m n A.0.svd.columns) B.0 B.1).1

-- ---- the cut
module _ (eps : Float) (m n : ℕ) (w : Passes) (sv : List Float) (js : List ℕ) (ss : List Float) (ej : js ≡ order n sv) (es : ss ≡ sorted n sv) (r : ℕ) (er : r ≡ kept_rank eps n ss) where
  abbrev cores : Answer Parted
  cores = bind (formed_from m n r ss js w.svd.columns w.svd.basis) (λ h. Ok (parted r w.count h))

  cut_opened : cut_from eps m n w sv ≡ demand (leb r most_rank) PairRank then cores
  unfolding cut_from
  cut_opened = rw (← ej, ← es, ← er)

  pub cut_wide : most_rank < r → cut_from eps m n w sv ≡ Err PairRank
  cut_wide g = cut_opened ∙ ap (λ o. o then cores) (demand_no (leb r most_rank) PairRank (fails (leb r most_rank) (λ e. let z = leb_is r most_rank e in omega arith)))

  pub cut_end : r ≤ most_rank → (o : Answer Both) → formed_from m n r ss js w.svd.columns w.svd.basis ≡ o → cut_from eps m n w sv ≡ bind o (λ h. Ok (parted r w.count h))
  cut_end g o e =
      cut_opened ∙ ap (λ d. d then cores) (demand_yes (leb r most_rank) PairRank (leb_yes r most_rank g))
      ∙ ap (λ (x : Answer Both). bind x (λ h. Ok (parted r w.count h))) e

-- the same columns, basis and values
pub cut_same : (eps : Float) (m n c : ℕ) (a v v' sv sv' : List Float) (o : Answer Parted) → v' ≡ v → sv' ≡ sv → cut_from eps m n (made c (svd a v')) sv' ≡ o → cut_from eps m n (made c (svd a v)) sv ≡ o
cut_same eps m n c a v v' sv sv' o ev es e = rw (← ev, ← es) e

-- ---- the split
making_outcome : {A B : Type 0} (part : Part) (k : ℕ) (d : Made B) (f : B → A) → making part k (outcome_of d f) ≡ outcome_of (making part k d) f
unfolding outcome_of
making_outcome part k (Ok x) f = refl
making_outcome part k (Err i) f = refl

-- d is what the passes answer, and o what the call answers of that
module _ {B : Type 0} (eps : Float) (m n : ℕ) (a : List Float) (d : Made B) (f : B → Valued) (ed : valued_from m n a ≡ outcome_of d f) (o : Answer B) (eo : o ≡ making Spectrum 0 d) where
  split_opened : split_from eps m n a ≡ bind (outcome_of o f) (λ x. cut_from eps m n x.passes x.values)
  unfolding split_from
  split_opened = ap (λ (y : Answer Valued). bind y (λ x. cut_from eps m n x.passes x.values)) (ap (making Spectrum 0) ed ∙ making_outcome Spectrum 0 d f ∙ ap (λ (y : Answer B). outcome_of y f) (sym eo))

  pub split_stop : (q : Refusal) → o ≡ Err q → split_from eps m n a ≡ Err q
  unfolding outcome_of
  split_stop q e = split_opened ∙ rw e

  module _ (b : B) (e : o ≡ Ok b) where
    pub split_fine : all_finite (f b).values ≡ true
    unfolding outcome_of
    split_fine = values_finite m n a (f b) (ed ∙ rw (making_is Spectrum 0 d b (sym eo ∙ e)))

    pub split_end : (t : Answer Parted) → cut_from eps m n (f b).passes (f b).values ≡ t → split_from eps m n a ≡ t
    unfolding outcome_of
    split_end t g = split_opened ∙ rw e g
