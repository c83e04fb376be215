-- A step restarted at zone z: over zones of which the first z are as before it comes to the carry that it had there, and goes on from it. Of any rules; assumes nothing of them.
use Rattle.std.specs.Prelude.{Result, Ok}
use mathlib.Core.Path.{◌≡◌, sym, ap, ◌∙◌}
use Prim.Native.Nat.{ℕ, ◌+◌, ◌≤◌}
use native.Mathlib.Nat.{zero-add}
use native.Mathlib.Omega.{arith}
use mathlib.Core.List.{List, ◌++◌}
use lib.ListN.{length, take}
use Rattle.answers.specs.Outcome.{bind}
use Rattle.answers.proofs.Outcomes.{bind_assoc, bind_cong, bind_ok}
use Rattle.lists.specs.Walks.{every, walk, state_at}
use Rattle.lists.proofs.Walks.{walk_length, walk_restart, every_length, every_restart}
use Rattle.cutform.specs.Rounding.{Carry, Cut}
use Rattle.stepform.specs.declared.Settings.{Settings}
use Rattle.stepform.specs.Zones.{Zone, Rules}
use Rattle.stepform.specs.Steps.{shift_zone, scale_zone, round_zone, step_from}

-- ---- two passes zone by zone, then a walk
module _ {E P Q R S Y : Type 0} (f : ℕ → P → Result Q E) (g : ℕ → Q → Result R E) (h : ℕ → S → R → Result (S × Y) E) where
  abbrev passes : ℕ → S → List P → Result (List (S × Y)) E
  passes k s ps = bind (every f k ps) (λ a. bind (every g k a) (λ b. walk h k s b))

  passes_length : (k : ℕ) (s : S) (ps : List P) (c : List (S × Y)) → passes k s ps ≡ Ok c → length c ≡ length ps
  passes_length k s ps c e =
      let A = bind_ok (every f k ps) (λ a. bind (every g k a) (λ b. walk h k s b)) c e in
      let B = bind_ok (every g k A.0) (λ b. walk h k s b) c A.2 in
      walk_length h k s B.0 c B.2 ∙ every_length g k A.0 B.0 B.1 ∙ every_length f k ps A.0 A.1

  passes_restart : (k : ℕ) (s : S) (ps : List P) (c : List (S × Y)) → passes k s ps ≡ Ok c → (z : ℕ) → z ≤ length ps → (qs : List P)
      → passes k s (take z ps ++ qs) ≡ bind (passes (k + z) (state_at s c z) qs) (λ c'. Ok (take z c ++ c'))
  passes_restart k s ps c e z le qs =
      let A = bind_ok (every f k ps) (λ a. bind (every g k a) (λ b. walk h k s b)) c e in
      let B = bind_ok (every g k A.0) (λ b. walk h k s b) c A.2 in
      let a = A.0 in
      let b = B.0 in
      let la : length a ≡ length ps = every_length f k ps a A.1 in
      let lb : length b ≡ length a = every_length g k a b B.1 in
      let end : List (S × Y) → Result (List (S × Y)) E = λ c'. Ok (take z c ++ c') in
      ap (λ (o : Result (List Q) E). bind o (λ a'. bind (every g k a') (λ b'. walk h k s b'))) (every_restart f k ps a A.1 z le qs)
      ∙ bind_assoc (every f (k + z) qs) (λ q. Ok (take z a ++ q)) (λ a'. bind (every g k a') (λ b'. walk h k s b'))
      ∙ bind_cong (every f (k + z) qs) (λ q. bind (every g k (take z a ++ q)) (λ b'. walk h k s b')) (λ q. bind (bind (every g (k + z) q) (λ b'. walk h (k + z) (state_at s c z) b')) end) (λ q _.
      ap (λ (o : Result (List R) E). bind o (λ b'. walk h k s b')) (every_restart g k a b B.1 z (omega arith) q)
      ∙ bind_assoc (every g (k + z) q) (λ q'. Ok (take z b ++ q')) (λ b'. walk h k s b')
      ∙ bind_cong (every g (k + z) q) (λ q'. walk h k s (take z b ++ q')) (λ q'. bind (walk h (k + z) (state_at s c z) q') end) (λ q' _. walk_restart h k s b c B.2 z (omega arith) q')
      ∙ sym (bind_assoc (every g (k + z) q) (λ b'. walk h (k + z) (state_at s c z) b') end))
      ∙ sym (bind_assoc (every f (k + z) qs) (λ a'. bind (every g (k + z) a') (λ b'. walk h (k + z) (state_at s c z) b')) end)

-- ---- shifts, scaling, bonds
module _ (R : Rules) (t : Settings) (d : ℕ) where
  -- a step leaves one carry and one core per zone
  pub step_length : (k : ℕ) (s : Carry) (zs : List Zone) (tr : List (Carry × Cut)) → step_from R t d k s zs ≡ Ok tr → length tr ≡ length zs
  unfolding step_from
  step_length k s zs tr e = passes_length (shift_zone R t) (scale_zone R t) (round_zone R t d) k s zs tr e

  pub step_restart : (s : Carry) (zs : List Zone) (tr : List (Carry × Cut)) → step_from R t d 0 s zs ≡ Ok tr → (z : ℕ) → z ≤ length zs → (qs : List Zone)
      → step_from R t d 0 s (take z zs ++ qs) ≡ bind (step_from R t d z (state_at s tr z) qs) (λ c. Ok (take z tr ++ c))
  unfolding step_from
  step_restart s zs tr e z le qs =
      passes_restart (shift_zone R t) (scale_zone R t) (round_zone R t d) 0 s zs tr e z le qs
      ∙ ap (λ (j : ℕ). bind (passes (shift_zone R t) (scale_zone R t) (round_zone R t d) j (state_at s tr z) qs) (λ c. Ok (take z tr ++ c))) (zero-add z)
