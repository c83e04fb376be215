-- What the call leaves: slices keep their lengths, and an accepted pair stands in its outputs with its rank and its passes. Assumes nothing.
use mathlib.Core.Path.{◌≡◌, refl, sym, subst}
use Prim.Native.Nat.{◌*◌, ◌≤◌}
use native.Mathlib.Nat.{mul-le-mul, mul-le-mul_left, mul-le-mul_right}
use mathlib.Core.Bool.{Bool, true, false}
use mathlib.Core.List.{List}
use lib.ListN.{length, take, length-replicate}
use lib.Ieee.{Float}
use Rattle.numbers.specs.Arithmetic.{zero64}
use Rattle.std.specs.Prelude.{Ok, Err}
use Rattle.answers.specs.Outcome.{Answer, ◌then◌}
use Rattle.answers.specs.Table.{before_work}
use Rattle.answers.proofs.Checks.{then_is}
use Rattle.answers.proofs.Outcomes.{ok_inj, ok_err}
use Rattle.lists.specs.Lists.{pick}
use Rattle.lists.specs.Floats.{zeros}
use Rattle.lists.proofs.Slots.{fit_length, fit_used}
use Rattle.shape.specs.Cores.{Core}
use Rattle.cutform.specs.Call.{scratch_after}
use Rattle.pairform.specs.declared.Paired.{Paired}
use Rattle.pairform.specs.Slabs.{slab}
use Rattle.pairform.specs.Passes.{Passes, most_passes, start}
use Rattle.pairform.specs.Splits.{Halves, pair_of}
use Rattle.pairform.specs.PassClaims.{Counted}
use Rattle.pairform.specs.SplitClaims.{Formed}
use Rattle.pairform.specs.Call.{left_room, right_room, pair_ok, PairEnded, pair_by, pair_call}
use Rattle.pairform.proofs.Splits.{pair_formed}
use Rattle.pair.proofs.Checked.{Checked, checked}

-- ---- slices keep their lengths
pub record SameLengths (left_out right_out scratch : List Float) (e : PairEnded) : Type 0 where
  pub left_length : length e.left ≡ length left_out
  pub right_length : length e.right ≡ length right_out
  pub scratch_length : length e.scratch ≡ length scratch

by_lengths : (left_out right_out scratch : List Float) (o : Answer Halves) → SameLengths left_out right_out scratch (pair_by left_out right_out scratch o)
unfolding pair_by scratch_after pick
by_lengths left_out right_out scratch (Ok h) = record {
  left_length = fit_length zero64 (length left_out) h.left.entries;
  right_length = fit_length zero64 (length right_out) h.right.entries;
  scratch_length = length-replicate (length scratch) zero64;
}
by_lengths left_out right_out scratch (Err r) = record { left_length = refl; right_length = refl; scratch_length = go (before_work r) }
  where
    go : (b : Bool) → length (pick b scratch (zeros (length scratch))) ≡ length scratch
    go true = refl
    go false = length-replicate (length scratch) zero64

-- ---- an accepted pair
pub record Accepted (l r : Core) (eps : Float) (left_out right_out scratch : List Float) (w : Paired) (e : PairEnded) : Type 0 where
  pub checks : Checked l r eps (length left_out) (length right_out) (length scratch)
  pub halves : Halves
  pub made : pair_of eps l r ≡ Ok halves
  pub formed : Formed l.rl l.n r.n r.rr halves
  pub answer : e.result ≡ Ok w
  pub rank : w.rank ≡ halves.left.rr
  pub left_held : take (length halves.left.entries) e.left ≡ halves.left.entries
  pub right_held : take (length halves.right.entries) e.right ≡ halves.right.entries
  pub passes : Passes
  pub told : w.passes ≡ passes.count
  pub counted : Counted most_passes (l.rl * l.n) (r.n * r.rr) (start (l.rl * l.n) (r.n * r.rr) (slab l r)) passes

module _ (l r : Core) (eps : Float) (left_out right_out scratch : List Float) where
  pub lengths_kept : SameLengths left_out right_out scratch (pair_call l r eps left_out right_out scratch)
  unfolding pair_call
  lengths_kept = by_lengths left_out right_out scratch (pair_ok l r eps (length left_out) (length right_out) (length scratch) then pair_of eps l r)

  -- a core of a kept rank has room in its output
  roomy : Checked l r eps (length left_out) (length right_out) (length scratch) → (h : Halves) → Formed l.rl l.n r.n r.rr h → (length h.left.entries ≤ length left_out) × (length h.right.entries ≤ length right_out)
  unfolding left_room right_room
  roomy c h f = (
    rw (f.left_length, c.left_roomy) (mul-le-mul_left (l.rl * l.n) f.within_limit),
    rw (f.right_length, c.right_roomy) (mul-le-mul_right r.rr (mul-le-mul_right r.n f.within_limit)),
  )

  by_accepted : (h : Halves) → (pair_ok l r eps (length left_out) (length right_out) (length scratch) then pair_of eps l r) ≡ Ok h
      → Accepted l r eps left_out right_out scratch (record { rank = h.left.rr; passes = h.passes }) (pair_by left_out right_out scratch (Ok h))
  unfolding pair_by
  by_accepted h e =
      let (ok, made) = then_is (pair_ok l r eps (length left_out) (length right_out) (length scratch)) (pair_of eps l r) h e in
      let c = checked l r eps (length left_out) (length right_out) (length scratch) ok in
      let (f, (w, t, k)) = pair_formed eps l r h (mul-le-mul c.right.n.least c.right.rr.least) made in
      let (a, b) = roomy c h f in
      record {
        checks = c;
        halves = h;
        made = made;
        formed = f;
        answer = refl;
        rank = refl;
        left_held = fit_used zero64 (length left_out) h.left.entries a;
        right_held = fit_used zero64 (length right_out) h.right.entries b;
        passes = w;
        told = t;
        counted = k;
      }

  pub accepted : (w : Paired) → (pair_call l r eps left_out right_out scratch).result ≡ Ok w → Accepted l r eps left_out right_out scratch w (pair_call l r eps left_out right_out scratch)
  unfolding pair_call pair_by
  accepted w v = go (pair_ok l r eps (length left_out) (length right_out) (length scratch) then pair_of eps l r) refl v
    where
      go : (o : Answer Halves)
          → (pair_ok l r eps (length left_out) (length right_out) (length scratch) then pair_of eps l r) ≡ o
          → (pair_by left_out right_out scratch o).result ≡ Ok w
          → Accepted l r eps left_out right_out scratch w (pair_by left_out right_out scratch o)
      go (Ok h) e v = subst (λ (x : Paired). Accepted l r eps left_out right_out scratch x (pair_by left_out right_out scratch (Ok h))) (ok_inj v) (by_accepted h e)
      go (Err q) e v = absurd (ok_err (sym v))
