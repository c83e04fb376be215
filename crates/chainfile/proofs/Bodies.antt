-- The numbers of a file core by core, where they stand. Assumes nothing.
use mathlib.Core.Path.{◌≡◌, refl, sym, ap, ◌∙◌}
use Prim.Native.Nat.{ℕ, suc, ◌+◌, ◌-◌, ◌*◌, ◌≤◌, ◌<◌}
use native.Mathlib.Nat.{add-zero}
use native.Mathlib.Numerals.{add-one}
use native.Mathlib.Omega.{arith}
use mathlib.Core.Bool.{Bool, true}
use mathlib.Core.List.{List, ◌++◌}
use lib.ListN.{length, take, drop, length-replicate, replicate-append-replicate}
use lib.Seq.{drop_at}
use lib.Ieee.{Float, nan}
use mir.Syntax.{w64}
use mir.Val.{Fits as Fits'}
use Rattle.answers.specs.declared.Refusal.TheVariants.{Number}
use Rattle.std.specs.Prelude.{Ok, Err}
use Rattle.numbers.specs.Arithmetic.{zero64}
use Rattle.lists.specs.Lists.{first_not}
use Rattle.lists.specs.Slots.{offset, slot, fit}
use Rattle.lists.specs.Floats.{all_finite, zeros}
use Rattle.lists.proofs.Tables.{tab_is}
use Rattle.lists.proofs.Slots.{offset_suc, offset_mono, slot_length, fit_whole}
use Rattle.lists.proofs.Written.{get_or_slot_lem}
use Rattle.lists.proofs.Parts.{span_length}
use Rattle.lists.proofs.Asked.{place_wrong, places_right}
use Rattle.shape.specs.declared.Shape.{Shape}
use Rattle.shape.specs.Shapes.{core_size, entries_of}
use Rattle.shape.specs.Sizes.{SizesWithin}
use Rattle.shape.proofs.Offsets.{core_offset_most, core_most}
use Rattle.words.specs.Bytes.{f64_at, numbers_from}
use Rattle.words.proofs.Runs.{numbers_length, number_at}
use Rattle.fileform.specs.File.{entry_start, body_start, file_length}
use Rattle.fileform.specs.Calls.{numbers_ok}
use Rattle.fileform.specs.Reading.{numbers_in}
use Rattle.fileform.proofs.Writers.{numbers_finite}

-- the numbers of core k are those behind its offset
slot_numbers : (size : ℕ → ℕ) (d : ℕ) (bytes : List ℕ) (p k : ℕ) → k < d → slot size k (numbers_from bytes p (offset size d)) ≡ numbers_from bytes (p + 8 * offset size k) (size k)
unfolding numbers_from
slot_numbers size d bytes p k lt =
    let N = offset size d in
    let l = numbers_from bytes p N in
    let n = numbers_length bytes p N in
    let m = offset_mono size (suc k) d lt in
    let s = offset_suc size k in
    tab_is (size k) (λ (j : ℕ). f64_at bytes (p + 8 * offset size k + 8 * j)) nan (slot size k l) (slot_length size k l (omega arith))
    (λ j h.
    let e : p + 8 * (offset size k + j) ≡ p + 8 * offset size k + 8 * j = omega arith in
    get_or_slot_lem size k l j nan h ∙ number_at bytes p N (offset size k + j) (omega arith) ∙ ap (f64_at bytes) e)

-- ---- the loop over cores: the body of core k starts at `start` and has x numbers
module _ (bytes : List ℕ) (s : Shape) where
  pub bodies_none : 8 + 12 * s.d ≡ body_start s 0
  unfolding body_start offset
  bodies_none = sym (add-zero _)

  module _ (start k x : ℕ) (here : start ≡ body_start s k) (size : x ≡ core_size s k) where
    pub bodies_more : start + 8 * x ≡ body_start s (k + 1)
    unfolding body_start offset
    bodies_more = let b : start ≡ 8 + 12 * s.d + 8 * offset (core_size s) k = here in rw add-one (omega arith)

    module _ (lt : k < s.d) where
      pub body_finite : (b : Bool) → b ≡ all_finite (numbers_from bytes start x) → b ≡ all_finite (slot (core_size s) k (numbers_in bytes s))
      unfolding body_start numbers_in
      body_finite b e =
          e ∙ ap (λ (p : ℕ). all_finite (numbers_from bytes p x)) here ∙ ap (λ (m : ℕ). all_finite (numbers_from bytes (body_start s k) m)) size
          ∙ sym (ap all_finite (slot_numbers (core_size s) s.d bytes (entry_start s.d) k lt))

      pub body_there : length bytes ≡ file_length s → start + 8 * x ≤ length bytes
      unfolding body_start file_length
      body_there e =
          let b : start ≡ 8 + 12 * s.d + 8 * offset (core_size s) k = here in
          let f : length bytes ≡ 8 + 12 * s.d + 8 * entries_of s = e in
          omega (arith, offset_mono (core_size s) (suc k) s.d lt, offset_suc (core_size s) k)

      pub body_fits : SizesWithin s → Fits' w64 (8 * x)
      body_fits w = record { fits = omega (arith, core_most s w k lt) }

      pub body_ends : SizesWithin s → Fits' w64 (start + 8 * x)
      unfolding body_start
      body_ends w =
          let b : start ≡ 8 + 12 * s.d + 8 * offset (core_size s) k = here in
          record { fits = omega (arith, core_offset_most s w k (omega arith), core_most s w k lt, w.axes.most) }

pub ruleset bodywise = (bodies_none, bodies_more, body_finite, body_there, body_fits, body_ends)

-- ---- the check, by the first core that fails it
module _ (s : Shape) (chain : List Float) (i : ℕ) (e : i ≡ first_not (λ (k : ℕ). all_finite (slot (core_size s) k chain)) s.d) where
  pub core_wrong : i < s.d → Err (Number i) ≡ numbers_ok s chain
  unfolding numbers_ok
  core_wrong h = place_wrong (λ (k : ℕ). all_finite (slot (core_size s) k chain)) s.d i e Number h

  pub cores_right : s.d ≤ i → Ok tt ≡ numbers_ok s chain
  unfolding numbers_ok
  cores_right h = places_right (λ (k : ℕ). all_finite (slot (core_size s) k chain)) s.d i e Number h

pub ruleset cores_found = (core_wrong, cores_right)

-- ---- the numbers made at the front of f, which is +0 throughout and as long as the output
module _ (bytes : List ℕ) (s : Shape) (long : ℕ) (room : entries_of s ≤ long) (n : ℕ) (e : n ≡ entries_of s) (f : List Float) (g : f ≡ zeros long) where
  part_long : length (take (n - 0) f) ≡ entries_of s
  part_long = let h : length f ≡ long = ap length g ∙ length-replicate long zero64 in span_length n f (omega arith) ∙ e

  found : (chain : List Float) → chain ≡ numbers_from bytes (8 + 12 * s.d) (length (take (n - 0) f)) → chain ≡ numbers_in bytes s
  unfolding numbers_in
  found chain h = h ∙ ap (numbers_from bytes (8 + 12 * s.d)) part_long

  pub numbers_ask : length bytes ≡ file_length s → numbers_ok s (numbers_in bytes s) ≡ Ok tt
      → (8 + 12 * s.d + 8 * length (take (n - 0) f) ≤ length bytes) × (all_finite (numbers_from bytes (8 + 12 * s.d) (length (take (n - 0) f))) ≡ true)
  unfolding file_length numbers_in
  numbers_ask h ok =
      let l : length bytes ≡ 8 + 12 * s.d + 8 * entries_of s = h in
      let p = part_long in
      (omega arith, ap all_finite (found _ refl) ∙ numbers_finite s (numbers_in bytes s) (numbers_length bytes (8 + 12 * s.d) (entries_of s)) ok)

  pub numbers_taken : (u : List Float) → u ≡ numbers_from bytes (8 + 12 * s.d) (length (take (n - 0) f)) → u ++ drop (n - 0) f ≡ fit zero64 long (numbers_in bytes s)
  unfolding numbers_in
  numbers_taken u h =
      let i = numbers_in bytes s in
      let m : length i ≡ entries_of s = numbers_length bytes (8 + 12 * s.d) (entries_of s) in
      let k : long ≡ length i + (long - length i) = omega arith in
      let z : n - 0 ≡ length i = omega arith in
      let d : drop (n - 0) f ≡ zeros (long - length i)
      = ap (λ (x : ℕ). drop x f) z ∙ ap (drop (length i)) (g ∙ ap zeros k ∙ sym (replicate-append-replicate (length i) (long - length i) zero64))
      ∙ drop_at (zeros (length i)) (zeros (long - length i)) (length i) (length-replicate (length i) zero64) in
      ap (λ (x : List Float). x ++ drop (n - 0) f) (found u h) ∙ ap (λ (x : List Float). i ++ x) d ∙ sym (fit_whole zero64 long i (omega arith))
