-- What writing accepts, and what an accepted call leaves. Assumes nothing.
use mathlib.Core.Path.{◌≡◌, refl, sym, ap, ◌∙◌}
use Prim.Native.Nat.{ℕ, ◌<◌, zero-le}
use native.Mathlib.Omega.{arith}
use mathlib.Core.Bool.{true}
use mathlib.Core.List.{List}
use lib.ListN.{length}
use lib.Seq.{take_all}
use lib.Ieee.{Float, nan}
use Rattle.answers.specs.declared.Refusal.TheVariants.{Number}
use Rattle.std.specs.Prelude.{Ok, Err}
use Rattle.answers.specs.Outcome.{Answer}
use Rattle.answers.proofs.Outcomes.{ok_inj}
use Rattle.answers.proofs.Checks.{demand_yes, then_is, then_skip, each_is}
use Rattle.numbers.specs.Finite.{finite}
use Rattle.lists.specs.Slots.{slot}
use Rattle.lists.specs.Floats.{at, all_finite}
use Rattle.lists.proofs.Tests.{eqb_yes}
use Rattle.lists.proofs.Asked.{lengths_say}
use Rattle.lists.proofs.Floats.{finite_get_d_lem}
use Rattle.shape.specs.declared.Shape.{Shape}
use Rattle.shape.specs.Shapes.{core_size, entries_of}
use Rattle.fileform.specs.File.{file_length, file_of}
use Rattle.fileform.specs.Calls.{numbers_ok}
use Rattle.fileform.specs.Writing.{write_lent, write_ok, writing, write_exit, write_call}
use Rattle.fileform.proofs.Slots.{finite_slots}
use Rattle.fileform.proofs.Shapes.{Meets, meets_ok, ok_meets}

-- ---- what both calls ask of a chain
pub record Sound (s : Shape) (chain : List Float) : Type 0 where
  pub meets : Meets s
  pub whole : length chain ≡ entries_of s
  pub finites : numbers_ok s chain ≡ Ok tt

pub numbers_finite : (s : Shape) (chain : List Float) → length chain ≡ entries_of s → numbers_ok s chain ≡ Ok tt → all_finite chain ≡ true
unfolding numbers_ok
numbers_finite s chain e ok =
    let slots = each_is Number (λ (k : ℕ). all_finite (slot (core_size s) k chain)) s.d 0 ok in
    ap all_finite (sym (take_all (entries_of s) chain (omega arith))) ∙ finite_slots (core_size s) chain s.d (λ k l. slots k zero-le (omega arith))

pub sound_finite : (s : Shape) (chain : List Float) → Sound s chain → (i : ℕ) → i < entries_of s → finite (at chain i) ≡ true
sound_finite s chain ok i lt = finite_get_d_lem chain i nan (omega (arith, ok.whole)) (numbers_finite s chain ok.whole ok.finites)

-- ---- writing
module _ (s : Shape) (chain : List Float) (out : List ℕ) where
  writing_is : (file : List ℕ) → writing s chain out ≡ Ok file → Sound s chain × (length out ≡ file_length s) × (file_of s chain ≡ file)
  unfolding writing write_ok write_lent
  writing_is file h =
      let w = then_is _ _ file h in
      let a = then_is _ _ tt w.0 in
      let b = then_is _ _ tt a.1 in
      let l = lengths_say _ _ _ _ _ _ b.0 in
      (record { meets = ok_meets s a.0; whole = l.0; finites = b.1 }, l.1, ok_inj w.1)

  pub writing_yes : Sound s chain → length out ≡ file_length s → writing s chain out ≡ Ok (file_of s chain)
  unfolding writing write_ok write_lent
  writing_yes ok long =
      then_skip _ _ _
      (then_skip _ _ _ (meets_ok s ok.meets)
      (then_skip _ _ _ (then_skip _ _ _ (demand_yes _ _ (eqb_yes _ _ ok.whole)) (demand_yes _ _ (eqb_yes _ _ long))) ok.finites))
      refl

-- ---- a call that was accepted, and what it leaves
pub write_fits : (s : Shape) (chain : List Float) (out : List ℕ) → (write_call s chain out).result ≡ Ok tt
    → Sound s chain × (length out ≡ file_length s) × (write_call s chain out ≡ record { result = Ok tt; out = file_of s chain })
unfolding write_call write_exit
write_fits s chain out h = go (writing s chain out) refl h
  where
    go : (o : Answer (List ℕ)) → writing s chain out ≡ o → (write_exit out o).result ≡ Ok tt
        → Sound s chain × (length out ≡ file_length s) × (write_exit out (writing s chain out) ≡ record { result = Ok tt; out = file_of s chain })
    go (Ok file) e f =
        let w = writing_is s chain out file e in
        (w.0, w.1, ap (write_exit out) (e ∙ ap Ok (sym w.2)))
    go (Err r) e f = let z : ◌≡◌ {A = ℕ} 0 1 = cc in absurd (omega arith)
