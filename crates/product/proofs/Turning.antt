-- The sums from a zone on are turns one after another, each from what memory holds by then. Assumes nothing.
use mathlib.Core.Path.{◌≡◌, refl, sym, ap, ◌∙◌, subst}
use Prim.Native.Nat.{ℕ, zero, suc, ◌+◌, ◌-◌, ◌≤◌, ◌<◌}
use native.Mathlib.Omega.{arith}
use mathlib.Core.List.{List, [], ◌∷◌, map}
use lib.ListN.{length, take}
use lib.Ieee.{Float}
use Rattle.numbers.specs.Arithmetic.{zero64}
use Rattle.answers.specs.declared.Part.TheVariants.{Sum}
use Rattle.answers.specs.declared.Refusal.{Refusal}
use Rattle.std.specs.Prelude.{Ok, Err}
use Rattle.answers.specs.Outcome.{Answer, Made, bind, making, staged, answered, stored_in, Stage, Check}
use Rattle.answers.proofs.Outcomes.{bind_assoc, bind_cong, stored_answered}
use Rattle.lists.specs.Lists.{listed}
use Rattle.lists.specs.Slots.{offset, put, fit, write}
use Rattle.lists.specs.Walks.{walk, turning}
use Rattle.lists.specs.Floats.{stored}
use Rattle.lists.proofs.Tables.{listed_length}
use Rattle.lists.proofs.Floats.{making_stored}
use Rattle.lists.proofs.Slots.{offset_mono, fit_length, fit_used, put_length, slot_put_same, write_none, write_one}
use Rattle.shape.specs.declared.Shape.{Shape}
use Rattle.shape.specs.Shapes.{left_of, right_of}
use Rattle.shape.specs.Sizes.{Inside}
use Rattle.shape.specs.Cores.{Core, standing, points_at}
use Rattle.sumform.specs.Contract.{contract}
use Rattle.sumform.specs.Product.{contract_at, sum_axis}
use Rattle.sumform.specs.Sums.{sum_size, sums_left, weighed_in, sums_from}
use Rattle.product.specs.Lent.{sum_turn}
use Rattle.product.proofs.Slotted.{sum_size_lem, left_asks, own_asks}
use Rattle.lists.proofs.Stages.{answer_more, answer_stop, answer_done}

module _ (s t : Shape) (I : Inside s t) (work weights : List Float) where
  abbrev pair : ℕ → Core × List Float
  pair = weighed_in s t work weights

  abbrev rows : List (List Float × Unit {0}) → List (List Float)
  rows tr = map (λ (r : List Float × Unit {0}). r.0) tr

  -- the new sums are as many as the core's right rank
  sums_count : (k : ℕ) (eta e : List Float) → contract_at k (standing s t work k) (points_at s weights k) eta ≡ Ok e → length e ≡ right_of t k
  unfolding contract_at contract standing
  sums_count k eta e h = ap length (sym (making_stored Sum k (contract (standing s t work k) (points_at s weights k) eta) e h).0) ∙ listed_length (right_of t k) 0 _

  module _ (k : ℕ) (lt : k < s.d) (sums : List Float) (held : offset (sum_size s) s.d ≤ length sums) (e : List Float) (n : length e ≡ right_of t k) where
    room : offset (sum_size s) (suc k) ≤ length sums
    room = omega (arith, offset_mono (sum_size s) (suc k) s.d lt)

    abbrev next : List Float
    next = put (sum_size s) k (fit zero64 (sum_size s k) e) sums

    next_held : offset (sum_size s) s.d ≤ length next
    next_held = subst (λ (m : ℕ). offset (sum_size s) s.d ≤ m) (sym (put_length (sum_size s) k (fit zero64 (sum_size s k) e) sums (fit_length zero64 (sum_size s k) e) room)) held

    next_left : suc k < s.d → sums_left s (left_of t (suc k)) next (suc k) ≡ e
    unfolding sums_left
    next_left b =
        let q : left_of t (suc k) ≡ length e = sym (I.joins k b) ∙ sym n in
        let m : length e ≤ sum_size s k = omega (arith, I.right k lt, sum_size_lem s k) in
        ap (λ (l : List Float). take (left_of t (suc k)) l) (slot_put_same (sum_size s) k (fit zero64 (sum_size s k) e) sums (fit_length zero64 (sum_size s k) e) room)
        ∙ ap (λ (i : ℕ). take i (fit zero64 (sum_size s k) e)) q
        ∙ fit_used zero64 (sum_size s k) e m

    walk_next : (m : ℕ) → suc k + m ≡ s.d → walk sum_axis (suc k) e (listed m (suc k) pair) ≡ walk sum_axis (suc k) (sums_left s (left_of t (suc k)) next (suc k)) (listed m (suc k) pair)
    unfolding walk listed
    walk_next zero d = refl
    walk_next (suc m) d = ap (λ (x : List Float). walk sum_axis (suc k) x (listed (suc m) (suc k) pair)) (sym (next_left (omega arith)))

  from_turns : (m k : ℕ) (sums : List Float) → k + m ≡ s.d → offset (sum_size s) s.d ≤ length sums
      → bind (walk sum_axis k (sums_left s (left_of t k) sums k) (listed m k pair)) (λ tr. Ok (write (sum_size s) zero64 s.d k (rows tr) sums)) ≡ turning m k (sum_turn s t work weights) sums
  unfolding walk listed turning sum_turn sum_axis weighed_in
  from_turns zero k sums d held = let q : k ≡ s.d = omega arith in ap Ok (ap (λ (i : ℕ). write (sum_size s) zero64 s.d i [] sums) q ∙ write_none (sum_size s) zero64 s.d sums)
  from_turns (suc m) k sums d held =
      let lt : k < s.d = omega arith in
      let o = contract_at k (standing s t work k) (points_at s weights k) (sums_left s (left_of t k) sums k) in
      let rest = listed m (suc k) pair in
      let F : List (List Float × Unit {0}) → Answer (List Float) = λ tr. Ok (write (sum_size s) zero64 s.d k (rows tr) sums) in
      let next : List Float → List Float = λ e. put (sum_size s) k (fit zero64 (sum_size s k) e) sums in
      opened o k m F
      ∙ bind_cong o (λ e. bind (walk sum_axis (suc k) e rest) (λ rs. F ((e, tt) ∷ rs))) (λ e. turning m (suc k) (sum_turn s t work weights) (next e)) (λ e h.
      let n = sums_count k (sums_left s (left_of t k) sums k) e h in
      bind_cong (walk sum_axis (suc k) e rest) (λ rs. F ((e, tt) ∷ rs)) (λ rs. Ok (write (sum_size s) zero64 s.d (suc k) (rows rs) (next e))) (λ rs _. ap Ok (write_one (sum_size s) zero64 s.d k e (rows rs) sums lt held))
      ∙ ap (λ (w : Answer (List (List Float × Unit {0}))). bind w (λ rs. Ok (write (sum_size s) zero64 s.d (suc k) (rows rs) (next e)))) (walk_next k lt sums held e n m (omega arith))
      ∙ from_turns m (suc k) (next e) (omega arith) (next_held k lt sums held e n))
      ∙ sym (bind_assoc o (λ e. Ok (next e)) (λ b. turning m (suc k) (sum_turn s t work weights) b))
    where
      opened : (o : Answer (List Float)) (k m : ℕ) (F : List (List Float × Unit {0}) → Answer (List Float))
          → bind (bind (bind o (λ e. Ok (e, tt))) (λ r. bind (walk sum_axis (suc k) r.0 (listed m (suc k) pair)) (λ rs. Ok (r ∷ rs)))) F
          ≡ bind o (λ e. bind (walk sum_axis (suc k) e (listed m (suc k) pair)) (λ rs. F ((e, tt) ∷ rs)))
      opened o k m F =
          bind_assoc (bind o (λ e. Ok (e, tt))) (λ r. bind (walk sum_axis (suc k) r.0 (listed m (suc k) pair)) (λ rs. Ok (r ∷ rs))) F
          ∙ bind_assoc o (λ e. Ok (e, tt)) (λ r. bind (bind (walk sum_axis (suc k) r.0 (listed m (suc k) pair)) (λ rs. Ok (r ∷ rs))) F)
          ∙ bind_cong o
          (λ e. bind (bind (walk sum_axis (suc k) e (listed m (suc k) pair)) (λ rs. Ok ((e, tt) ∷ rs))) F)
          (λ e. bind (walk sum_axis (suc k) e (listed m (suc k) pair)) (λ rs. F ((e, tt) ∷ rs)))
          (λ e _. bind_assoc (walk sum_axis (suc k) e (listed m (suc k) pair)) (λ rs. Ok ((e, tt) ∷ rs)) F)

  pub sums_turn : (z : ℕ) (sums : List Float) → z ≤ s.d → offset (sum_size s) s.d ≤ length sums → sums_from s t work weights z sums ≡ turning (s.d - z) z (sum_turn s t work weights) sums
  unfolding sums_from
  sums_turn z sums l held = from_turns (s.d - z) z sums (omega arith) held

  -- ---- one turn, by what its calls say
  module _ (k : ℕ) (sums : List Float) (eta after : List Float) (r : Stage) (g : take (left_of t k) eta ≡ sums_left s (left_of t k) sums k)
      (e : stored (contract (standing s t work k) (points_at s weights k) (take (left_of t k) eta)) ≡ staged r (take (right_of t k) after)) where
    turn_opened : sum_turn s t work weights k sums ≡ bind (making Sum k (staged r (take (right_of t k) after))) (λ x. Ok (put (sum_size s) k (fit zero64 (sum_size s k) x) sums))
    unfolding sum_turn contract_at
    turn_opened = ap (λ (m : Made (List Float)). bind (making Sum k m) (λ x. Ok (put (sum_size s) k (fit zero64 (sum_size s k) x) sums))) (ap (λ (l : List Float). stored (contract (standing s t work k) (points_at s weights k) l)) (sym g) ∙ e)

    -- v is what the call answers of that stage
    turn_made : (v : Check) → v ≡ stored_in Sum k r → sum_turn s t work weights k sums ≡ bind (answered v (take (right_of t k) after)) (λ x. Ok (put (sum_size s) k (fit zero64 (sum_size s k) x) sums))
    turn_made v told =
        turn_opened
        ∙ ap (λ (o : Answer (List Float)). bind o (λ x. Ok (put (sum_size s) k (fit zero64 (sum_size s k) x) sums))) (stored_answered Sum k r v (take (right_of t k) after) told)

    pub turn_stops : (q : Refusal) → Err q ≡ stored_in Sum k r → (l : List Float) → sum_turn s t work weights k sums ≡ answered (Err q) l
    unfolding answered
    turn_stops q h l = turn_made (Err q) h

    pub turn_keeps : Ok tt ≡ stored_in Sum k r → (l : List Float) → l ≡ put (sum_size s) k (fit zero64 (sum_size s k) (take (right_of t k) after)) sums → sum_turn s t work weights k sums ≡ answered (Ok tt) l
    unfolding answered
    turn_keeps h l f = turn_made (Ok tt) h ∙ rw f

pub ruleset turn = (left_asks, own_asks, turn_stops, turn_keeps)

pub ruleset turned = (sums_turn, answer_more, answer_stop, answer_done)
