-- What a cut leaves: how many numbers, all finite, and a rank of at least 1 and at most the core's. Assumes nothing.
use Rattle.std.specs.Prelude.{Ok}
use mathlib.Core.Path.{◌≡◌, refl, sym, ap, ◌∙◌, subst}
use Prim.Native.Nat.{ℕ, ◌*◌, ◌≤◌}
use mathlib.Core.Bool.{true}
use lib.ListN.{length}
use Rattle.numbers.specs.Finite.{finite}
use Rattle.lists.specs.Floats.{all_finite}
use Rattle.lists.proofs.Tables.{length_grid}
use Rattle.lists.proofs.Floats.{stored_is}
use Rattle.shape.specs.Cores.{Core, core_with}
use Rattle.shape.proofs.Places.{block_length}
use Rattle.cutform.specs.declared.Cutting.{Cutting}
use Rattle.cutform.specs.Values.{sorted, kept_rank, dropped_from}
use Rattle.cutform.proofs.Ranked.{rank_least, rank_most, dropped_finite}
use Rattle.cutform.specs.Bonds.{CutCore, cut_bond}
use Rattle.cutform.specs.Factors.{left_factor, carry_of}
use Rattle.cutform.proofs.Stages.{stages}

-- the core c cut
pub record CutFrom (c : Core) (b : CutCore) : Type 0 where
  pub left : b.core.rl ≡ c.rl
  pub points : b.core.n ≡ c.n
  pub kept : b.core.rr ≡ b.bond.rank
  pub least : 1 ≤ b.bond.rank
  pub most : 1 ≤ c.rr → b.bond.rank ≤ c.rr
  pub long : length b.core.entries ≡ b.core.rl * b.core.n * b.core.rr
  pub fine : all_finite b.core.entries ≡ true
  pub carry_long : length b.carry ≡ b.bond.rank * c.rr
  pub carry_fine : all_finite b.carry ≡ true
  pub dropped_fine : finite b.bond.dropped ≡ true

pub cut_from_lem : (k : ℕ) (cutting : Cutting) (c : Core) (b : CutCore) → cut_bond k cutting c ≡ Ok b → CutFrom c b
unfolding left_factor carry_of
cut_from_lem k cutting c b h =
    let S = stages k cutting c b h in
    let ss = sorted c.rr S.values in
    let r = kept_rank cutting.eps c.rr ss in
    let U = stored_is _ S.left S.lefts in
    let Y = stored_is _ S.carry S.carries in
    let x : CutCore = record { core = core_with c.rl c.n r S.left; bond = record { rank = r; sweeps = S.swept.count; settled = S.swept.settles; dropped = dropped_from r ss }; carry = S.carry } in
    let f : CutFrom c x = record {
      left = refl;
      points = refl;
      kept = refl;
      least = rank_least cutting.eps c.rr ss;
      most = rank_most cutting.eps c.rr ss;
      long = ap length (sym U.0) ∙ block_length c.rl c.n r _;
      fine = U.1;
      carry_long = ap length (sym Y.0) ∙ length_grid r c.rr _;
      carry_fine = Y.1;
      dropped_fine = dropped_finite c.rr S.values S.long S.fine r;
    } in
    subst (CutFrom c) S.end f
