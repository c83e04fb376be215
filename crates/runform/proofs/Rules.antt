-- The rules of 000 and 001 are sound, and make as many numbers as they should.
use Rattle.std.specs.Prelude.{Ok}
use mathlib.Core.Path.{◌≡◌, sym, ap, ◌∙◌}
use Prim.Native.Nat.{ℕ}
use mathlib.Core.Bool.{true}
use mathlib.Core.List.{List, map}
use lib.ListN.{length, length-map}
use lib.Ieee.{Float}
use Rattle.numbers.specs.Arithmetic.{plus, times, one64}
use Rattle.answers.specs.declared.Part.TheVariants.{Entry, Sum}
use Rattle.answers.proofs.Outcomes.{ok_inj}
use Rattle.lists.specs.Floats.{all_finite}
use Rattle.lists.proofs.Tables.{length_tab}
use Rattle.lists.proofs.Floats.{making_stored}
use Rattle.shape.specs.Cores.{Core}
use Rattle.shape.proofs.Places.{block_length}
use Rattle.stepform.specs.declared.Shift.{Shift}
use Rattle.stepform.specs.declared.Shift.TheVariants.{Stay as stay, By as by}
use Rattle.stepform.specs.Shifts.{shift_of, shifted, move_core, scaled}
use Rattle.cutform.proofs.Cuts.{volume, round_fine, round_carried, round_of}
use Rattle.sumform.specs.Contract.{contract}
use Rattle.sumform.specs.Product.{contract_at}
use Rattle.stepform.specs.Zones.{rules}
use Rattle.runform.proofs.Sound.{Sound, Sized}

-- ---- shift and scaling
module _ (k : ℕ) (c : Core) (l : List Float) where
  move_fine : (x : Shift) → all_finite c.entries ≡ true → move_core k x c ≡ Ok l → all_finite l ≡ true
  move_fine stay f h = ap all_finite (sym (ok_inj h)) ∙ f
  move_fine (by r b) f h = (making_stored Entry k (shifted c r b) l h).1

  move_long : (x : Shift) → length c.entries ≡ volume c → move_core k x c ≡ Ok l → length l ≡ volume c
  unfolding shifted
  move_long stay f h = ap length (sym (ok_inj h)) ∙ f
  move_long (by r b) f h = ap length (sym (making_stored Entry k (shifted c r b) l h).0) ∙ block_length c.rl c.n c.rr _

scale_made : (tau c : Float) (l m : List Float) → scaled tau c l ≡ Ok m → (length m ≡ length l) × (all_finite m ≡ true)
unfolding scaled
scale_made tau c l m h =
    let factor : Float → Float = λ v. times v (plus one64 (times tau c)) in
    let w = making_stored Entry 0 (map factor l) m h in
    (ap length (sym w.0) ∙ length-map l factor, w.1)

-- ---- the rules
pub rules_sound : Sound rules
unfolding rules contract_at contract
rules_sound = record {
  shifted = λ t k z l f h. move_fine k z.core l (shift_of z.axis t.tau z.core.n) f h;
  scaled = λ t l m h. (scale_made t.tau t.c l m h).1;
  rounded = λ t more k s c r f h. round_fine t.cutting k s c r more f h;
  carried = λ t k s c r one h. round_carried t.cutting k s c r one h;
  weighed = λ k c f e m h. let w = making_stored Sum k (contract c f e) m h in (ap length (sym w.0) ∙ length_tab c.rr _, w.1);
}

pub rules_sized : Sized rules
unfolding rules
rules_sized = record {
  shifted = λ t k z l f h. move_long k z.core l (shift_of z.axis t.tau z.core.n) f h;
  scaled = λ t l m h. (scale_made t.tau t.c l m h).0;
  rounded = λ t more k s c r f h. round_of t.cutting k s c r more f h;
}
