-- The inner product by what is left of it. Assumes nothing.
use mathlib.Core.Path.{◌≡◌, refl, sym, ap, ◌∙◌}
use Prim.Native.Nat.{ℕ, suc, ◌+◌, ◌-◌, ◌*◌, ◌≤◌, ◌<◌}
use native.Mathlib.Nat.{sub-zero, mul_assoc, le_of_eq}
use native.Mathlib.Numerals.{add-one}
use native.Mathlib.Omega.{arith}
use mathlib.Core.Bool.{true}
use mathlib.Core.List.{List, ◌∷◌}
use lib.ListN.{length, take, drop, replicate}
use lib.Seq.{get_or-take}
use lib.Ieee.{Float, nan}
use Rattle.answers.specs.declared.Part.TheVariants.{Sum}
use Rattle.answers.specs.declared.Refusal.{Refusal}
use Rattle.std.specs.Prelude.{Ok, Err}
use Rattle.answers.specs.Outcome.{Answer, Check, bind, making, answered, staged, stored_in, Stage}
use Rattle.answers.proofs.Outcomes.{bind_assoc, stored_answered}
use Rattle.numbers.specs.Arithmetic.{one64}
use Rattle.lists.specs.Lists.{listed}
use Rattle.lists.specs.Walks.{walk, state_at}
use Rattle.lists.specs.Slots.{offset, slot}
use Rattle.lists.specs.Floats.{at, stored}
use Rattle.shape.specs.declared.Shape.{Shape}
use Rattle.shape.specs.Limits.{most_rank}
use Rattle.shape.specs.Shapes.{left_of, points_of, right_of, chain_ok, core_size, point_size, entries_of, all_points}
use Rattle.shape.specs.Cores.{Core, core_with, core_at, points_at}
use Rattle.lists.proofs.Slots.{offset_mono, slot_length}
use Rattle.shape.proofs.Shaped.{Shaped, shaped}
use Rattle.sumform.specs.Contract.{contract}
use Rattle.sumform.specs.Product.{contract_at, sum_axis, sums, inner}
use Rattle.sumform.specs.Call.{weighed}

-- what is left of the walk, from axis k of d on and the sums eta
module _ (p : ℕ → Core × List Float) (d : ℕ) where
  abbrev pub Left : ℕ → List Float → Answer Float
  Left k eta = bind (walk sum_axis k eta (listed (d - k) k p)) (λ tr. Ok (at (state_at eta tr (length tr)) 0))

  module _ (T : Answer Float) (k : ℕ) (eta : List Float) (e : T ≡ Left k eta) where
    pub left_done : d ≤ k → T ≡ Ok (at eta 0)
    unfolding walk listed
    left_done l = let z : d - k ≡ 0 = omega arith in e ∙ rw z

    module _ (l : k < d) (r : Stage) (out : List Float) (s : stored (contract (p k).0 (p k).1 eta) ≡ staged r out) where
      opened : T ≡ bind (making Sum k (staged r out)) (λ x. Left (k + 1) x)
      unfolding walk listed sum_axis contract_at
      opened =
          let z : d - k ≡ suc (d - (k + 1)) = omega arith in
          e ∙ rw (z, s, add-one) (go (making Sum k (staged r out)))
        where
          go : (o : Answer (List Float)) → bind (bind (bind o (λ x. Ok (x, tt))) (λ q. bind (walk sum_axis (suc k) q.0 (listed (d - suc k) (suc k) p)) (λ qs. Ok (q ∷ qs)))) (λ tr. Ok (at (state_at eta tr (length tr)) 0))
              ≡ bind o (λ x. bind (walk sum_axis (suc k) x (listed (d - suc k) (suc k) p)) (λ tr. Ok (at (state_at x tr (length tr)) 0)))
          go (Ok x) = bind_assoc (walk sum_axis (suc k) x (listed (d - suc k) (suc k) p)) (λ qs. Ok ((x, tt) ∷ qs)) (λ tr. Ok (at (state_at eta tr (length tr)) 0))
          go (Err q) = refl

      -- by what the call answers of that stage
      told : (v : Check) → v ≡ stored_in Sum k r → T ≡ bind (answered v out) (λ x. Left (k + 1) x)
      told v h = opened ∙ ap (λ o. bind o (λ x. Left (k + 1) x)) (stored_answered Sum k r v out h)

      pub left_more : Ok tt ≡ stored_in Sum k r → T ≡ Left (k + 1) out
      unfolding answered
      left_more h = told (Ok tt) h

      pub left_stop : (q : Refusal) → Err q ≡ stored_in Sum k r → T ≡ Err q
      unfolding answered
      left_stop q h = told (Err q) h

-- ---- the loop over axes
abbrev pub pair_at : Shape → List Float → List Float → ℕ → Core × List Float
pair_at s chain weights k = (core_at s chain k, points_at s weights k)

-- the loop stands at axis k: `start` and `point` are where its core and its weights begin, and the first `rank` numbers of eta the sums left of it
pub record AtAxis (s : Shape) (chain weights eta : List Float) (rank start point k : ℕ) : Type 0 where
  pub most : k ≤ s.d
  pub cores : start ≡ offset (core_size s) k
  pub points : point ≡ offset (point_size s) k
  pub left : k < s.d → rank ≡ left_of s k
  pub some : 1 ≤ rank
  pub few : rank ≤ most_rank
  pub room : length eta ≡ most_rank
  pub rest : inner (weighed s chain weights) ≡ Left (pair_at s chain weights) s.d k (take rank eta)

module _ (s : Shape) (chain weights : List Float) (ok : chain_ok s ≡ Ok tt) where
  abbrev shp : Shaped s
  shp = shaped s (λ (k : ℕ). true) ok

  pub at_first : AtAxis s chain weights (replicate most_rank one64) 1 0 0 0
  unfolding inner sums weighed offset
  at_first = record {
    most = omega arith;
    cores = refl;
    points = refl;
    left = λ l. sym shp.first;
    some = omega arith;
    few = omega arith;
    room = refl;
    rest = rw sub-zero;
  }

  module _ (long : entries_of s ≤ length chain) (wide : all_points s ≤ length weights)
      (eta : List Float) (rank start point k : ℕ) (A : AtAxis s chain weights eta rank start point k) (l : k < s.d) (size : ℕ) (z : size ≡ core_size s k) where
    abbrev core : List Float
    core = take (start + size - start) (drop start chain)

    abbrev f : List Float
    f = take (point + points_of s k - point) (drop point weights)

    part_is : (a x : ℕ) (m : List Float) → (sz : ℕ → ℕ) → a ≡ offset sz k → x ≡ sz k → take (a + x - a) (drop a m) ≡ slot sz k m
    unfolding slot
    part_is a x m sz e g = let h : a + x - a ≡ sz k = omega arith in ap (λ (n : ℕ). take n (drop a m)) h ∙ ap (λ (n : ℕ). take (sz k) (drop n m)) e

    core_is : core ≡ (core_at s chain k).entries
    unfolding core_at
    core_is = part_is start size chain (core_size s) A.cores z

    points_is : f ≡ points_at s weights k
    unfolding points_at point_size
    points_is = part_is point (points_of s k) weights (point_size s) A.points refl

    f_length : length f ≡ points_of s k
    unfolding points_at point_size
    f_length = ap length points_is ∙ slot_length (point_size s) k weights (omega (arith, offset_mono (point_size s) (suc k) s.d l))

    core_length : length core ≡ core_size s k
    unfolding core_at
    core_length = ap length core_is ∙ slot_length (core_size s) k chain (omega (arith, offset_mono (core_size s) (suc k) s.d l))

    whole_core : core_with rank (length f) (right_of s k) core ≡ core_at s chain k
    unfolding core_at
    whole_core =
        ap (λ (e : List Float). core_with rank (length f) (right_of s k) e) core_is
        ∙ ap (λ (n : ℕ). core_with n (length f) (right_of s k) (core_at s chain k).entries) (A.left l)
        ∙ ap (λ (n : ℕ). core_with (left_of s k) n (right_of s k) (core_at s chain k).entries) f_length

    pub points_end : point + points_of s k ≤ length weights
    unfolding offset point_size
    points_end = omega (arith, A.points, wide, offset_mono (point_size s) (suc k) s.d l)

    -- what `sum_axis` asks
    pub axis_asks : (rank * (length f * right_of s k) ≤ length core) × (rank ≤ length eta) × (right_of s k ≤ length eta) × (right_of s k ≤ most_rank) × (1 ≤ rank) × (1 ≤ length f)
    unfolding core_size
    axis_asks =
        let r = shp.sizes.right k l in
        let n = shp.sizes.axes.points k l in
        let e : rank * (length f * right_of s k) ≡ length core =
        ap (λ (x : ℕ). x * (length f * right_of s k)) (A.left l) ∙ ap (λ (x : ℕ). left_of s k * (x * right_of s k)) f_length ∙ sym (mul_assoc (left_of s k) (points_of s k) (right_of s k)) ∙ sym core_length in
        (le_of_eq e, omega (arith, A.few, A.room), omega (arith, r.1, A.room), r.1, A.some, omega (arith, n.0, f_length))

    module _ (r : Stage) (after : List Float) (same : length after ≡ length eta) (e : stored (contract (core_with rank (length f) (right_of s k) core) f (take rank eta)) ≡ staged r (take (right_of s k) after)) where
      made : stored (contract (core_at s chain k) (points_at s weights k) (take rank eta)) ≡ staged r (take (right_of s k) after)
      made = ap (λ (x : List Float). stored (contract (core_at s chain k) x (take rank eta))) (sym points_is) ∙ ap (λ (c : Core). stored (contract c f (take rank eta))) (sym whole_core) ∙ e

      pub at_next : Ok tt ≡ stored_in Sum k r → AtAxis s chain weights after (right_of s k) (start + size) (point + points_of s k) (k + 1)
      unfolding offset point_size
      at_next h =
          let right = shp.sizes.right k l in
          record {
            most = omega arith;
            cores = rw add-one (ap (λ (x : ℕ). x + size) A.cores ∙ ap (λ (x : ℕ). offset (core_size s) k + x) z);
            points = rw add-one (ap (λ (x : ℕ). x + points_of s k) A.points);
            left = λ m. shp.joins k (omega arith) ∙ ap (left_of s) (sym (add-one k));
            some = right.0;
            few = right.1;
            room = same ∙ A.room;
            rest = left_more (pair_at s chain weights) s.d (inner (weighed s chain weights)) k (take rank eta) A.rest l r (take (right_of s k) after) made h;
          }

      pub axis_stops : (q : Refusal) → Err q ≡ stored_in Sum k r → Err q ≡ inner (weighed s chain weights)
      axis_stops q h = sym (left_stop (pair_at s chain weights) s.d (inner (weighed s chain weights)) k (take rank eta) A.rest l r (take (right_of s k) after) made q h)

  pub at_end : (eta : List Float) (rank start point k : ℕ) → AtAxis s chain weights eta rank start point k → s.d ≤ k → Ok (at eta 0) ≡ inner (weighed s chain weights)
  at_end eta rank start point k A l =
      ap Ok (sym (get_or-take rank eta 0 nan A.some))
      ∙ sym (left_done (pair_at s chain weights) s.d (inner (weighed s chain weights)) k (take rank eta) A.rest l)
