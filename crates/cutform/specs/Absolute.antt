-- A cut as the scope has it and the Rust makes it, without a mode: 1e-30 is a bound by itself. What stands in Sweeps, Factors, Bonds and Rounding gives this in
-- absolute mode, which proofs/Absolute.antt proves; nothing else rests on it. Definitions only.
use Rattle.std.specs.Prelude.{ℕ, zero, suc, Bool, true, false, List, [], ◌∷◌, ltb, length, get_or, Float, Ok}
use Rattle.std.specs.Float.Ieee.{lt}
use Rattle.numbers.specs.Arithmetic.{times, over, zero64, tiny64}
use Rattle.answers.specs.declared.Part.TheVariants.{Spectrum, Factor}
use Rattle.answers.specs.Outcome.{Answer, Made, bind, making}
use Rattle.lists.specs.Lists.{pick, pairs}
use Rattle.lists.specs.Walks.{along, walk}
use Rattle.lists.specs.Floats.{at, cell, sum_to, stored}
use Rattle.shape.specs.Cores.{Core, core_with, entry, block}
use Rattle.cutform.specs.Rotation.{tangent_of, slope_of, cosine_of, eye}
use Rattle.cutform.specs.Modes.{off_sum}
use Rattle.cutform.specs.Sweeps.{Eig, eig, turned, Swept, swept, most_sweeps}
use Rattle.cutform.specs.Values.{singulars, order, sorted, kept_rank, dropped_from}
use Rattle.cutform.specs.Factors.{carry_of}
use Rattle.cutform.specs.Bonds.{gram, CutCore}
use Rattle.cutform.specs.Rounding.{Carry, none, some, Cut, taken_in}

-- a pair is skipped where g*g is below 1e-30
unfoldable pub rotate : ℕ → ℕ → ℕ → Eig → Made Eig
rotate n p q e =
    let t = tangent_of (slope_of (cell n e.g p p) (cell n e.g q q) (cell n e.g p q)) in
    let c = cosine_of t in
    pick (lt (times (cell n e.g p q) (cell n e.g p q)) tiny64) (Ok e) (turned n p q c (times t c) e)

unfoldable pub sweep : ℕ → Eig → Made Eig
sweep n e = along (pairs n) (λ (x : ℕ × ℕ). rotate n x.0 x.1) e

-- the sum is below 1e-30
unfoldable pub settled : ℕ → List Float → Bool
settled n g = lt (off_sum n g) tiny64

unfoldable pub sweeps_from : ℕ → Bool → ℕ → ℕ → Eig → Made Swept
sweeps_from zero b n c e = Ok (swept c b e)
sweeps_from (suc left) true n c e = Ok (swept c true e)
sweeps_from (suc left) false n c e = bind (sweep n e) (λ x. sweeps_from left (settled n x.g) n (suc c) x)

-- before each of at most 50 sweeps, stop if the sum is below 1e-30
unfoldable pub diagonalized : ℕ → Eig → Made Swept
diagonalized n e = sweeps_from most_sweeps (settled n e.g) n 0 e

-- (row times basis column) / value, or 0 where the value isn't above 1e-30
unfoldable pub left_factor : Core → ℕ → List Float → List ℕ → List Float → List Float
left_factor c r ss js v =
    block c.rl c.n r (λ (il im j : ℕ).
    pick (lt tiny64 (at ss j)) (over (sum_to c.rr (λ (k : ℕ). times (entry c il im k) (cell c.rr v k (get_or js j 0)))) (at ss j)) zero64)

unfoldable pub cut_bond : ℕ → Float → Core → Answer CutCore
cut_bond k eps c =
    bind (making Spectrum k (stored (gram c))) (λ g.
    bind (making Spectrum k (diagonalized c.rr (eig g (eye c.rr)))) (λ w.
    bind (making Spectrum k (stored (singulars c.rr w.eig.g))) (λ sv.
    let js = order c.rr sv in
    let ss = sorted c.rr sv in
    let r = kept_rank eps c.rr ss in
    bind (making Factor k (stored (left_factor c r ss js w.eig.v))) (λ u.
    bind (making Factor k (stored (carry_of c.rr r ss js w.eig.v))) (λ b.
    Ok (record {
      core = core_with c.rl c.n r u;
      bond = record { rank = r; sweeps = w.count; settled = w.settles; dropped = dropped_from r ss };
      carry = b;
    }))))))

abbrev pub cut_if : Bool → ℕ → Float → Core → Answer (Carry × Cut)
cut_if true k eps c = bind (cut_bond k eps c) (λ b. Ok (some b.bond.rank b.carry, record { core = b.core; bonds = b.bond ∷ [] }))
cut_if false k eps c = Ok (none, record { core = c; bonds = [] })

unfoldable pub round_core : Float → Bool → ℕ → Carry → Core → Answer (Carry × Cut)
round_core eps more k s c = bind (taken_in k s c) (λ t. cut_if more k eps t)

unfoldable pub rounding : Float → List Core → Answer (List (Carry × Cut))
rounding eps cs = walk (λ (k : ℕ). round_core eps (ltb (suc k) (length cs)) k) 0 none cs
