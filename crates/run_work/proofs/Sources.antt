-- The sources of the zones from one on, taken into the work. Assumes nothing.
use mathlib.Core.Path.{◌≡◌, refl, sym, ap, ◌∙◌}
use Prim.Native.Nat.{ℕ, suc, ◌+◌, ◌-◌, ◌*◌, ◌≤◌, ◌<◌}
use native.Mathlib.Omega.{arith}
use mathlib.Core.Bool.{Bool, true, false}
use mathlib.Core.List.{List, ◌++◌, append_assoc}
use lib.Dec.{eqb}
use lib.ListN.{length, take, drop, length-append, length-drop}
use lib.Seq.{length-take-le, take_all, take_at, drop_at}
use lib.Ieee.{Float}
use mir.Syntax.{w64}
use mir.Val.{Fits}
use Rattle.lists.specs.Slots.{offset, slot, put}
use Rattle.lists.proofs.Tests.{eqb_is, eqb_not}
use Rattle.lists.proofs.Slots.{offset_suc, offset_mono, slot_before, slot_behind, slot_put_same, slot_put_behind}
use Rattle.shape.specs.declared.Shape.{Shape}
use Rattle.shape.specs.Shapes.{core_size, entries_of}
use Rattle.shape.specs.Sizes.{SizesWithin}
use Rattle.shape.proofs.Offsets.{core_offset_most}
use Rattle.run_slices.proofs.Committed.{put_slot}
use Rattle.run_work.specs.Renewed.{SourcesFrom}

module _ (s : Shape) (z : ℕ) (le : z ≤ s.d) (source work : List Float) (n : length source ≡ entries_of s) (room : length source ≤ length work) (at : ℕ) (e : at ≡ offset (core_size s) z) where
  pub source_starts : at ≤ length source
  source_starts = omega (arith, offset_mono (core_size s) z s.d le)

  pub source_start_fits : SizesWithin s → Fits w64 (at * 8)
  source_start_fits w = record { fits = omega (arith, core_offset_most s w z le) }

  abbrev part : List Float
  part = take (length source - at) (drop at source)

  part_is : part ≡ drop at source
  part_is = take_all (length source - at) (drop at source) (omega (arith, length-drop at source))

  pub source_fits : at + length (take (length source - at) (drop at source)) ≤ length work
  source_fits = omega (arith, ap length part_is, length-drop at source, source_starts)

  pub sources_taken : (rest work' : List Float) → work' ≡ take at work ++ (take (length source - at) (drop at source) ++ rest) → SourcesFrom s z source work'
  sources_taken rest work' f k ge lt =
      let h : length (take at work) ≡ at = length-take-le at work (omega (arith, source_starts)) in
      let a = length-append (take at work) part in
      let m : length (take at work ++ part) ≡ entries_of s = omega (arith, ap length part_is, length-drop at source, source_starts) in
      ap (slot (core_size s) k) (f ∙ sym (append_assoc (take at work) part rest))
      ∙ slot_before (core_size s) k s.d ((take at work ++ part) ++ rest) (take at work ++ part) lt (take_at (take at work ++ part) rest (entries_of s) m ∙ sym (take_all (entries_of s) (take at work ++ part) (omega arith)))
      ∙ slot_behind (core_size s) k z (take at work ++ part) source ge (ap (λ (j : ℕ). drop j (take at work ++ part)) (sym e) ∙ drop_at (take at work) part at h ∙ part_is ∙ ap (λ (j : ℕ). drop j source) e)

-- with a new core
module _ (s : Shape) (z : ℕ) (lt : z < s.d) (source part : List Float) (n : length source ≡ entries_of s) (p : length part ≡ core_size s z) (at : ℕ) (e : at ≡ offset (core_size s) z) where
  ends : offset (core_size s) (suc z) ≤ length source
  ends = omega (arith, offset_mono (core_size s) (suc z) s.d lt)

  pub core_fits : (m : ℕ) → length source ≤ m → at + length part ≤ m
  core_fits m l = omega (arith, offset_suc (core_size s) z, ends)

  pub core_put : (l : List Float) → l ≡ take at source ++ (part ++ drop (at + length part) source) → l ≡ put (core_size s) z part source
  core_put l f = f ∙ put_slot (core_size s) z at e part source p

  pub core_taken : (work work' : List Float) → length source ≤ length work → SourcesFrom s (z + 1) source work → work' ≡ take at work ++ (part ++ drop (at + length part) work) → SourcesFrom s z (put (core_size s) z part source) work'
  core_taken work work' room S f k ge l = go (eqb k z) refl
    where
      own : work' ≡ put (core_size s) z part work
      own = f ∙ put_slot (core_size s) z at e part work p

      go : (b : Bool) → eqb k z ≡ b → slot (core_size s) k work' ≡ slot (core_size s) k (put (core_size s) z part source)
      go true q =
          let j = eqb_is k z q in
          ap (λ (i : ℕ). slot (core_size s) i work') j
          ∙ ap (slot (core_size s) z) own
          ∙ slot_put_same (core_size s) z part work p (omega (arith, ends))
          ∙ sym (slot_put_same (core_size s) z part source p ends)
          ∙ ap (λ (i : ℕ). slot (core_size s) i (put (core_size s) z part source)) (sym j)
      go false q =
          let j = eqb_not k z q in
          let above : z < k = omega arith in
          ap (slot (core_size s) k) own
          ∙ slot_put_behind (core_size s) z part work p (omega (arith, ends)) k above
          ∙ S k (omega arith) l
          ∙ sym (slot_put_behind (core_size s) z part source p ends k above)
