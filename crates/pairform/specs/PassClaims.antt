-- What the count of passes claims, which proofs/ proves of `orthogonalized`. Definitions only.
use Rattle.std.specs.Prelude.{ℕ, ◌≤◌, ◌<◌, ◌≡◌, ◌⊎◌, true, false, Ok}
use Rattle.answers.specs.Outcome.{Made}
use Rattle.lists.specs.Walks.{turning}
use Rattle.pairform.specs.Passes.{Svd, Pass, passed, pass, Passes}

-- c passes one after another: what the last of them left
unfoldable pub passes_made : (c m n : ℕ) → Svd → Made Pass
passes_made c m n e = turning c 0 (λ (i : ℕ) (x : Pass). pass m n x.svd) (passed e false)

-- w is what e becomes by as many passes as w counts: at least one, at most `most`, none before the last one quiet, and the last one quiet or the count `most`
pub record Counted (most m n : ℕ) (e : Svd) (w : Passes) : Type 0 where
  pub least : 1 ≤ w.count
  pub bound : w.count ≤ most
  pub last : Pass
  pub reached : passes_made w.count m n e ≡ Ok last
  pub left : last.svd ≡ w.svd
  pub needed : (i : ℕ) (x : Pass) → i < w.count → passes_made i m n e ≡ Ok x → x.quiet ≡ false
  pub stopped : (last.quiet ≡ true) ⊎ (w.count ≡ most)
