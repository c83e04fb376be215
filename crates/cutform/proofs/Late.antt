-- A rounding refuses by its work alone: no refusal of it leaves scratch unwritten. Assumes nothing.
use Prim.Native.Nat.{ℕ, suc}
use mathlib.Core.Bool.{Bool, true, false}
use mathlib.Core.List.{List, []}
use lib.Dec.{ltb}
use Rattle.answers.specs.declared.Part.TheVariants.{Spectrum, Factor}
use Rattle.answers.specs.Table.{Late}
use Rattle.answers.proofs.Late.{late_ok, late_bind, late_then}
use Rattle.lists.specs.Walks.{walk}
use Rattle.lists.specs.Floats.{stored}
use Rattle.lists.proofs.Late.{late_walk}
use Rattle.shape.specs.Cores.{Core}
use Rattle.cutform.specs.declared.Cutting.{Cutting}
use Rattle.cutform.specs.Rotation.{eye}
use Rattle.cutform.specs.Sweeps.{eig, diagonalized}
use Rattle.cutform.specs.Values.{singulars, order, sorted, kept_rank}
use Rattle.cutform.specs.Factors.{left_factor, carry_of}
use Rattle.cutform.specs.Bonds.{gram, cut_bond, absorb}
use Rattle.cutform.specs.Rounding.{Carry, none, some, taken_in, cut_if, round_core}

late_bond : (k : ℕ) (cutting : Cutting) (c : Core) → Late (cut_bond k cutting c)
unfolding cut_bond
late_bond k cutting c =
    late_then Spectrum k (stored (gram c)) _ (λ g.
    late_then Spectrum k (diagonalized cutting.mode c.rr (eig g (eye c.rr))) _ (λ w.
    late_then Spectrum k (stored (singulars c.rr w.eig.g)) _ (λ sv.
    let js = order c.rr sv in
    let ss = sorted c.rr sv in
    let r = kept_rank cutting.eps c.rr ss in
    late_then Factor k (stored (left_factor cutting.mode c r ss js w.eig.v)) _ (λ u.
    late_then Factor k (stored (carry_of c.rr r ss js w.eig.v)) _ (λ b.
    late_ok _)))))

late_cut : (more : Bool) (k : ℕ) (cutting : Cutting) (c : Core) → Late (cut_if more k cutting c)
late_cut false k cutting c = late_ok (none, record { core = c; bonds = [] })
late_cut true k cutting c = late_bind (cut_bond k cutting c) _ (late_bond k cutting c) (λ b. late_ok _)

late_taken : (k : ℕ) (s : Carry) (c : Core) → Late (taken_in k s c)
late_taken k none c = late_ok c
late_taken k (some n b) c = late_then Factor k (stored (absorb n b c)) _ (λ l. late_ok _)

pub late_rounding : (cutting : Cutting) (d k : ℕ) (s : Carry) (cs : List Core) → Late (walk (λ (k : ℕ). round_core cutting (ltb (suc k) d) k) k s cs)
unfolding round_core
late_rounding cutting d k s cs = late_walk (λ (k : ℕ). round_core cutting (ltb (suc k) d) k) (λ k s c. late_bind (taken_in k s c) _ (late_taken k s c) (λ t. late_cut (ltb (suc k) d) k cutting t)) k s cs
