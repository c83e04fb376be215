-- One bond: the Gram matrix of its left core, the cut, and a carry absorbed (000: `tt_round`). Definitions only.
use Rattle.std.specs.Prelude.{ℕ, false, List, Float, Ok}
use Rattle.std.specs.Float.{nan}
use Rattle.numbers.specs.Arithmetic.{times, zero64}
use Rattle.answers.specs.declared.Part.TheVariants.{Spectrum, Factor}
use Rattle.answers.specs.Outcome.{Answer, bind, making}
use Rattle.lists.specs.Lists.{grid}
use Rattle.lists.specs.Floats.{cell, sum_to, sum_rows, stored}
use Rattle.shape.specs.Cores.{Core, core_with, entry, block}
use Rattle.cutform.specs.declared.Bond.{Bond}
use Rattle.cutform.specs.declared.Cutting.{Cutting}
use Rattle.cutform.specs.Factors.{left_factor, carry_of}
use Rattle.cutform.specs.Sweeps.{eig, diagonalized}
use Rattle.cutform.specs.Rotation.{eye}
use Rattle.cutform.specs.Values.{singulars, order, sorted, kept_rank, dropped_from}

-- entry (i, j) is the sum over the rows (il, im), ascending
unfoldable pub gram : Core → List Float
gram c = grid c.rr c.rr (λ (i j : ℕ). sum_rows c.rl c.n (λ (il im : ℕ). times (entry c il im i) (entry c il im j)))

-- what stands where no bond was cut
abbrev pub no_bond : Bond
no_bond = record { rank = 0; sweeps = 0; settled = false; dropped = zero64 }

-- what a read past the end of an array gives
abbrev pub past_bond : Bond
past_bond = record { rank = 0; sweeps = 0; settled = false; dropped = nan }

-- what a cut makes of the bond's left core; the bond's rank is the right rank of what is left of it
pub record CutCore : Type 0 where
  pub core : Core
  pub bond : Bond
  pub carry : List Float

-- place k: the bond's left core
unfoldable pub cut_bond : ℕ → Cutting → Core → Answer CutCore
cut_bond k cutting c =
    bind (making Spectrum k (stored (gram c))) (λ g.
    bind (making Spectrum k (diagonalized cutting.mode c.rr (eig g (eye c.rr)))) (λ w.
    bind (making Spectrum k (stored (singulars c.rr w.eig.g))) (λ sv.
    let js = order c.rr sv in
    let ss = sorted c.rr sv in
    let r = kept_rank cutting.eps c.rr ss in
    bind (making Factor k (stored (left_factor cutting.mode c r ss js w.eig.v))) (λ u.
    bind (making Factor k (stored (carry_of c.rr r ss js w.eig.v))) (λ b.
    Ok (record {
      core = core_with c.rl c.n r u;
      bond = record { rank = r; sweeps = w.count; settled = w.settles; dropped = dropped_from r ss };
      carry = b;
    }))))))

-- a carry of r rows taken into the core c from the left, sums ascending
unfoldable pub absorb : ℕ → List Float → Core → List Float
absorb r b c = block r c.n c.rr (λ (il im ir : ℕ). sum_to c.rl (λ (k : ℕ). times (cell c.rl b il k) (entry c k im ir)))
