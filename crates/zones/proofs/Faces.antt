-- A call's answer stays what it is as C has it. In each law F is a call, x what C's record says, y its definition, r what the call answers and o that answer as C has it.
use mathlib.Core.Path.{◌≡◌, sym, ap, ◌∙◌}
use Prim.Native.Nat.{ℕ}
use mathlib.Core.List.{List, map}
use lib.ListN.{length}
use lib.Ieee.{Float}
use Rattle.answers.specs.Outcome.{Answer, Check}
use Rattle.shape.specs.declared.Shape.{Shape}
use Rattle.lists.proofs.Tables.{length_tab}
use Rattle.stepform.specs.declared.Axis.{Axis}
use Rattle.stepform.specs.Axes.{axis_at, gathered}
use Rattle.stepform.specs.declared.Settings.{Settings}
use Rattle.stepform.specs.Call.{step_over, step_call, evolve_over, evolve_call}
use Rattle.steps.proofs.Gathers.{step_over_lem, evolve_over_lem}
use Rattle.stepform.specs.declared.Course.{Course}
use Rattle.records.specs.declared.given.CAxis.{CAxis}
use Rattle.records.specs.Given.{axis_in, lent_of}
use Rattle.cutform.specs.declared.Cutting.{Cutting}
use Rattle.cutform.specs.declared.Rounded.{Rounded}
use Rattle.cutform.specs.Call.{Ended}
use Rattle.sumform.specs.Start.{StartEnded}
use Rattle.evolution.specs.Held.{Answers}
use Rattle.pairform.specs.declared.Sizes.{Sizes}
use Rattle.pairform.specs.Call.{PairEnded}
use Rattle.pairform.specs.declared.Paired.{Paired}
use Rattle.fileform.specs.Calls.{Exit}
use Rattle.records.specs.declared.told.CRefusal.{CRefusal}
use Rattle.records.specs.declared.told.CRounded.{CRounded}
use Rattle.records.specs.declared.told.CFormed.{CFormed}
use Rattle.records.specs.declared.told.CPaired.{CPaired}
use Rattle.records.specs.Told.{refusal_of, rounded_out, started_out, paired_out, read_out}
use Rattle.zones.specs.Ends.{EndsAs, StartsAs, SplitsAs, ReadsAs, WritesAs}

pub passed : {X R O : Type 0} (F : X → R) (out : R → O) (x y : X) (r : R) (o : O) → x ≡ y → r ≡ F x → o ≡ out r → o ≡ out (F y)
passed F out x y r o e f g = g ∙ ap out (f ∙ ap F e)

-- c is how it is cut
pub ends_as : (F : Shape → Cutting → Ended) (x y : Shape) (c d : Cutting) (r : Rounded) (l w : List Float) (o : CRounded)
    → x ≡ y → c ≡ d → record { result = r; chain = l; scratch = w } ≡ F x c → o ≡ rounded_out r → EndsAs (F y d) o l w
ends_as F x y c d r l w o e e' f g =
    let h : record { result = r; chain = l; scratch = w } ≡ F y d = f ∙ ap (λ (z : Shape). F z c) e ∙ ap (λ (z : Cutting). F y z) e' in
    record {
      result = g ∙ ap (λ (z : Ended). rounded_out z.result) h;
      chain = ap (λ (z : Ended). z.chain) h;
      scratch = ap (λ (z : Ended). z.scratch) h;
    }

-- p is the settings or the course, k the axis records; e is what the call's definition gives
pub steps_as : {P : Type 0} (F : Shape → P → List Axis → Ended) (x y : Shape) (p q : P) (k m : List Axis)
    (e : Ended) (r : Rounded) (l w : List Float) (o : CRounded)
    → x ≡ y → p ≡ q → k ≡ m → F y q m ≡ e → Answers (F x p k) r l w → o ≡ rounded_out r → EndsAs e o l w
steps_as F x y p q k m e r l w o f g h same a b =
    let all : F x p k ≡ e = ap (λ z. F z p k) f ∙ ap (λ z. F y z k) g ∙ ap (λ z. F y q z) h ∙ same in
    record {
      result = b ∙ ap rounded_out a.result ∙ ap (λ (z : Ended). rounded_out z.result) all;
      chain = a.chain ∙ ap (λ (z : Ended). z.chain) all;
      scratch = a.scratch ∙ ap (λ (z : Ended). z.scratch) all;
    }

-- as many records as were lent
counted : (n : ℕ) (xs : List CAxis) → length (lent_of n xs) ≡ n
counted n xs = length_tab n (axis_at (map axis_in xs))

pub step_lent : (t : Settings) (s : Shape) (n : ℕ) (xs : List CAxis) (l w : List Float) → step_over t s n (gathered (lent_of n xs)) l w ≡ step_call t s (lent_of n xs) l w
step_lent t s n xs l w = ap (λ (k : ℕ). step_over t s k (gathered (lent_of n xs)) l w) (sym (counted n xs)) ∙ step_over_lem t s (lent_of n xs) l w

pub evolve_lent : (p : Course) (s : Shape) (n : ℕ) (xs : List CAxis) (l w : List Float)
    → evolve_over p.t_final p.steps p.c p.cutting s n (gathered (lent_of n xs)) l w ≡ evolve_call p.t_final p.steps p.c p.cutting s (lent_of n xs) l w
evolve_lent p s n xs l w =
    ap (λ (k : ℕ). evolve_over p.t_final p.steps p.c p.cutting s k (gathered (lent_of n xs)) l w) (sym (counted n xs)) ∙ evolve_over_lem p.t_final p.steps p.c p.cutting s (lent_of n xs) l w

pub starts_as : (F : Shape → StartEnded) (x y : Shape) (r : Answer Shape) (l : List Float) (o : CFormed)
    → x ≡ y → (r ≡ (F x).result) × (l ≡ (F x).chain) → o ≡ started_out x r → StartsAs y (F y) o l
starts_as F x y r l o e f g = record {
  result = g ∙ ap (started_out x) f.0 ∙ ap (λ (z : Shape). started_out z (F z).result) e;
  chain = f.1 ∙ ap (λ (z : Shape). (F z).chain) e;
}

-- the left core's sizes, and the right core's
pub splits_as : (F : Sizes → Sizes → PairEnded) (x y u v : Sizes) (p : Answer Paired) (l r w : List Float) (o : CPaired) → x ≡ y → u ≡ v → record { result = p; left = l; right = r; scratch = w } ≡ F x u → o ≡ paired_out p → SplitsAs (F y v) o l r w
splits_as F x y u v p l r w o e f a g =
    let h : record { result = p; left = l; right = r; scratch = w } ≡ F y v = a ∙ ap (λ (z : Sizes). F z u) e ∙ ap (λ (z : Sizes). F y z) f in
    record {
      result = g ∙ ap (λ (z : PairEnded). paired_out z.result) h;
      left = ap (λ (z : PairEnded). z.left) h;
      right = ap (λ (z : PairEnded). z.right) h;
      scratch = ap (λ (z : PairEnded). z.scratch) h;
    }

pub reads_as : (e : Exit (Answer Shape) Float) (r : Answer Shape) (l : List Float) (o : CFormed) → (r ≡ e.result) × (l ≡ e.out) → o ≡ read_out r → ReadsAs e o l
reads_as e r l o f g = record { result = g ∙ ap read_out f.0; numbers = f.1 }

pub writes_as : (F : Shape → Exit Check ℕ) (x y : Shape) (r : Check) (l : List ℕ) (o : CRefusal) → x ≡ y → (r ≡ (F x).result) × (l ≡ (F x).out) → o ≡ refusal_of r → WritesAs (F y) o l
writes_as F x y r l o e f g = record {
  result = passed (λ (z : Shape). (F z).result) refusal_of x y r o e f.0 g;
  bytes = f.1 ∙ ap (λ (z : Shape). (F z).out) e;
}
