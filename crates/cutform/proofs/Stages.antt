-- The stages behind a cut that is not refused: what each of them made. Assumes nothing.
use Rattle.std.specs.Prelude.{Ok}
use mathlib.Core.Path.{◌≡◌, sym, ap, ◌∙◌}
use Prim.Native.Nat.{ℕ}
use mathlib.Core.Bool.{true}
use mathlib.Core.List.{List}
use lib.ListN.{length}
use lib.Ieee.{Float}
use Rattle.answers.specs.declared.Part.TheVariants.{Spectrum, Factor}
use Rattle.answers.specs.Outcome.{making}
use Rattle.answers.proofs.Outcomes.{bind_ok, ok_inj, making_is}
use Rattle.lists.specs.Floats.{all_finite, stored}
use Rattle.lists.proofs.Floats.{making_stored}
use Rattle.lists.proofs.Tables.{length_tab}
use Rattle.shape.specs.Cores.{Core, core_with}
use Rattle.cutform.specs.Rotation.{eye}
use Rattle.cutform.specs.declared.Cutting.{Cutting}
use Rattle.cutform.specs.Sweeps.{eig, Swept, diagonalized}
use Rattle.cutform.specs.Values.{singulars, order, sorted, kept_rank, dropped_from}
use Rattle.cutform.specs.Factors.{left_factor, carry_of}
use Rattle.cutform.specs.Bonds.{gram, CutCore, cut_bond}

pub record Stages (cutting : Cutting) (c : Core) (b : CutCore) : Type 0 where
  pub swept : Swept
  pub values : List Float
  pub left : List Float
  pub carry : List Float
  pub sweeping : diagonalized cutting.mode c.rr (eig (gram c) (eye c.rr)) ≡ Ok swept
  pub lefts : let ss = sorted c.rr values in let r = kept_rank cutting.eps c.rr ss in
      stored (left_factor cutting.mode c r ss (order c.rr values) swept.eig.v) ≡ Ok left
  pub carries : let ss = sorted c.rr values in let r = kept_rank cutting.eps c.rr ss in
      stored (carry_of c.rr r ss (order c.rr values) swept.eig.v) ≡ Ok carry
  pub fine : all_finite values ≡ true
  pub long : length values ≡ c.rr
  pub end : let ss = sorted c.rr values in let r = kept_rank cutting.eps c.rr ss in
      record { core = core_with c.rl c.n r left; bond = record { rank = r; sweeps = swept.count; settled = swept.settles; dropped = dropped_from r ss }; carry = carry } ≡ b

pub stages : (k : ℕ) (cutting : Cutting) (c : Core) (b : CutCore) → cut_bond k cutting c ≡ Ok b → Stages cutting c b
unfolding cut_bond singulars
stages k cutting c b h =
    let A = bind_ok (making Spectrum k (stored (gram c))) _ b h in
    let B = bind_ok (making Spectrum k (diagonalized cutting.mode c.rr (eig A.0 (eye c.rr)))) _ b A.2 in
    let w = B.0 in
    let C = bind_ok (making Spectrum k (stored (singulars c.rr w.eig.g))) _ b B.2 in
    let js = order c.rr C.0 in
    let ss = sorted c.rr C.0 in
    let r = kept_rank cutting.eps c.rr ss in
    let D = bind_ok (making Factor k (stored (left_factor cutting.mode c r ss js w.eig.v))) _ b C.2 in
    let F = making_stored Spectrum k (singulars c.rr w.eig.g) C.0 C.1 in
    let E = bind_ok (making Factor k (stored (carry_of c.rr r ss js w.eig.v))) _ b D.2 in
    record {
      swept = w;
      values = C.0;
      left = D.0;
      carry = E.0;
      sweeping = ap (λ (g : List Float). diagonalized cutting.mode c.rr (eig g (eye c.rr))) (making_stored Spectrum k (gram c) A.0 A.1).0 ∙ making_is Spectrum k _ w B.1;
      lefts = making_is Factor k (stored (left_factor cutting.mode c r ss js w.eig.v)) D.0 D.1;
      carries = making_is Factor k (stored (carry_of c.rr r ss js w.eig.v)) E.0 E.1;
      fine = F.1;
      long = ap length (sym F.0) ∙ length_tab c.rr _;
      end = ok_inj E.2;
    }
