-- The stages of a cut: the sweeps of the Gram matrix, and what follows them. Definitions for the code only.
use Rattle.std.specs.Prelude.{ℕ, ◌*◌, List, take, Float, Ok}
use Rattle.answers.specs.declared.Part.TheVariants.{Spectrum, Factor}
use Rattle.answers.specs.Outcome.{Answer, Made, bind, making}
use Rattle.lists.specs.Floats.{stored}
use Rattle.shape.specs.Cores.{Core, core_with}
use Rattle.cutform.specs.Rotation.{eye}
use Rattle.cutform.specs.declared.Bond.{Bond}
use Rattle.cutform.specs.declared.Cutting.{Cutting}
use Rattle.cutform.specs.Sweeps.{Swept, eig, diagonalized}
use Rattle.bond.specs.Chosen.{chosen_of}
use Rattle.bond.specs.FactorRows.{factors_of}
use Rattle.cutform.specs.Bonds.{gram, CutCore}

-- the Gram matrix made diagonal
unfoldable pub swept_of : ℕ → Core → Made Swept
swept_of mode c = bind (stored (gram c)) (λ g. diagonalized mode c.rr (eig g (eye c.rr)))

-- the values, the left factor and the carry
unfoldable pub rest_of : ℕ → Cutting → Core → Swept → Answer CutCore
rest_of k cutting c w =
    bind (making Spectrum k (chosen_of cutting.eps c.rr w.eig.g)) (λ q.
    bind (making Factor k (factors_of cutting.mode c q.rank q.values q.order w.eig.v)) (λ f.
    Ok (record {
      core = core_with c.rl c.n q.rank f.left;
      bond = record { rank = q.rank; sweeps = w.count; settled = w.settles; dropped = q.dropped };
      carry = f.carry;
    })))

-- a cut as code leaves it: the left factor and the carry stand at the front of their slices
abbrev pub cut_into : ℕ → ℕ → ℕ → Bond → List Float → List Float → CutCore
cut_into rl n rr b core carry = record { core = core_with rl n b.rank (take (rl * n * b.rank) core); bond = b; carry = take (b.rank * rr) carry }
