-- The chain file: what was written is read again, what was read is written as it stood, and reading accepts exactly what writing makes. Assumes nothing.
use mathlib.Core.Path.{◌≡◌, refl, sym, ap, ◌∙◌, subst}
use Prim.Native.Nat.{ℕ, suc, ◌+◌, ◌*◌, ◌≤◌, ◌<◌}
use native.Mathlib.Omega.{arith}
use mathlib.Core.Bool.{true≢false}
use mathlib.Core.List.{List}
use mathlib.Core.Logic.{◌↔◌}
use lib.ListN.{length, take, drop, replicate, length-replicate}
use lib.Seq.{take_at, get_or-take, get_or-drop}
use lib.Ieee.{Float, nan}
use Rattle.answers.specs.declared.Refusal.{Refusal}
use Rattle.std.specs.Prelude.{Ok, Err}
use Rattle.std.specs.Result.{IsOk, is_ok}
use Rattle.answers.specs.Outcome.{Answer, Check}
use Rattle.answers.proofs.Outcomes.{ok_inj, ok_err}
use Rattle.numbers.specs.Arithmetic.{zero64}
use Rattle.lists.specs.Slots.{offset, slot, fit}
use Rattle.lists.specs.Floats.{at, zeros}
use Rattle.lists.proofs.Slots.{offset_suc, offset_mono, fit_used}
use Rattle.shape.specs.declared.Shape.{Shape}
use Rattle.shape.specs.Shapes.{core_size, entries_of}
use Rattle.words.specs.Bytes.{f64_at}
use Rattle.fileform.specs.File.{body_start, file_of}
use Rattle.fileform.specs.Calls.{Exit}
use Rattle.fileform.specs.Writing.{writing, write_exit, write_call}
use Rattle.fileform.specs.Reading.{Chain, trimmed, reading, read_exit, read_call}
use Rattle.words.proofs.Bytes.{AreBytes, AreDoubles}
use Rattle.fileform.proofs.Fields.{file_bytes, file_holds, holds_file}
use Rattle.fileform.proofs.Readers.{Accepted, reading_yes, reading_is, read_fits}
use Rattle.fileform.proofs.Writers.{sound_finite, writing_yes, write_fits}

-- ---- 1. what was written is read again: the shape, and the chain bit for bit
module _ (s : Shape) (chain : List Float) (doubles : AreDoubles chain) (out : List ℕ) (accepted : (write_call s chain out).result ≡ Ok tt) (room : List Float) where
  pub write_read : entries_of s ≤ length room
      → read_call (write_call s chain out).out room ≡ record { result = Ok (trimmed s); out = fit zero64 (length room) chain }
  unfolding read_call read_exit
  write_read enough =
      let w = write_fits s chain out accepted in
      let ok = w.0 in
      ap (λ (x : Exit Check ℕ). read_call x.out room) w.2
      ∙ ap (read_exit room) (reading_yes (file_of s chain) room s chain ok (file_holds s chain ok.meets ok.whole doubles) enough)

  -- with exactly the room that it needs, the output is the chain
  pub write_read_exact : length room ≡ entries_of s → (read_call (write_call s chain out).out room).out ≡ chain
  unfolding fit
  write_read_exact exact =
      let ok = (write_fits s chain out accepted).0 in
      ap (λ (x : Exit (Answer Shape) Float). x.out) (write_read (omega arith)) ∙ take_at chain (replicate (length room) zero64) (length room) (ok.whole ∙ sym exact)

-- ---- 2. what was read is written as it stood, byte for byte
-- s is the shape that a reading answered, and these are its numbers
module _ (bytes : List ℕ) (out : List Float) (s : Shape) where
  abbrev pub chain_read : List Float
  chain_read = take (entries_of s) (read_call bytes out).out

  module _ (accepted : (read_call bytes out).result ≡ Ok s) where
    read_accepted : Accepted bytes out (record { shape = s; numbers = chain_read })
    read_accepted =
        let r = read_fits bytes out s accepted in
        let c = r.0 in
        let numbers : chain_read ≡ c.numbers
        = ap (λ (x : Exit (Answer Shape) Float). take (entries_of s) x.out) r.3
        ∙ ap (λ (n : ℕ). take n (fit zero64 (length out) c.numbers)) (ap entries_of (sym r.2) ∙ sym r.1.sound.whole)
        ∙ fit_used zero64 (length out) c.numbers (omega (arith, r.1.sound.whole, r.1.room)) in
        subst (Accepted bytes out) (λ i. record { shape = r.2 i; numbers = (sym numbers) i }) r.1

    pub read_trimmed : trimmed s ≡ s
    read_trimmed = read_accepted.kept

    module _ (are : AreBytes bytes) where
      pub read_write : file_of s chain_read ≡ bytes
      read_write = let a = read_accepted in holds_file bytes are s chain_read a.holds (sound_finite s chain_read a.sound)

      -- by the call, into an output of the bytes' length
      pub read_write_call : (file : List ℕ) → length file ≡ length bytes → write_call s chain_read file ≡ record { result = Ok tt; out = bytes }
      unfolding write_call write_exit
      read_write_call file long =
          let a = read_accepted in
          ap (write_exit file) (writing_yes s chain_read file a.sound (long ∙ a.holds.long) ∙ ap Ok read_write)

-- ---- 3. reading accepts exactly what writing makes, where there is room for it
pub record MadeFor (bytes : List ℕ) (out : List Float) : Type 0 where
  pub shape : Shape
  pub chain : List Float
  pub doubles : AreDoubles chain
  pub file : List ℕ
  pub made : write_call shape chain file ≡ record { result = Ok tt; out = bytes }
  pub room : entries_of shape ≤ length out

pub accepted_exactly : (bytes : List ℕ) → AreBytes bytes → (out : List Float) → IsOk (read_call bytes out).result ↔ MadeFor bytes out
accepted_exactly bytes are out = (there (read_call bytes out).result refl, back)
  where
    there : (a : Answer Shape) → (read_call bytes out).result ≡ a → IsOk a → MadeFor bytes out
    there (Ok s) e h =
        let a = read_accepted bytes out s e in
        record { shape = s; chain = chain_read bytes out s; doubles = a.doubles; file = bytes; made = read_write_call bytes out s e are bytes refl; room = a.room }
    there (Err r) e h = absurd (true≢false (sym h))

    back : MadeFor bytes out → IsOk (read_call bytes out).result
    back m =
        let fits = ap (λ (x : Exit Check ℕ). x.result) m.made in
        let same = ap (λ (x : Exit Check ℕ). x.out) m.made in
        ap (λ (b : List ℕ). is_ok (read_call b out).result) (sym same)
        ∙ ap (λ (x : Exit (Answer Shape) Float). is_ok x.result) (write_read m.shape m.chain m.doubles m.file fits out m.room)

-- ---- 4. a file has one chain, and a chain one file
pub one_chain : (s t : Shape) (l m : List Float) → AreDoubles l → AreDoubles m → (o p : List ℕ) → (write_call s l o).result ≡ Ok tt → (write_call t m p).result ≡ Ok tt
    → (write_call s l o).out ≡ (write_call t m p).out → (trimmed s ≡ trimmed t) × (l ≡ m)
one_chain s t l m dl dm o p ws wt same =
    let a = write_fits s l o ws in
    let b = write_fits t m p wt in
    let room = zeros (entries_of s + entries_of t) in
    let len = length-replicate (entries_of s + entries_of t) zero64 in
    let file : file_of s l ≡ file_of t m = sym (ap (λ (x : Exit Check ℕ). x.out) a.2) ∙ same ∙ ap (λ (x : Exit Check ℕ). x.out) b.2 in
    let rs = reading_yes (file_of s l) room s l a.0 (file_holds s l a.0.meets a.0.whole dl) (omega arith) in
    let rt = reading_yes (file_of t m) room t m b.0 (file_holds t m b.0.meets b.0.whole dm) (omega arith) in
    let e = ok_inj (sym rs ∙ ap (λ (f : List ℕ). reading f room) file ∙ rt) in
    (ap (λ (c : Chain). c.shape) e, ap (λ (c : Chain). c.numbers) e)

-- what stands in the shape's places from d on is in no file
pub one_file : (s : Shape) (l : List Float) → AreDoubles l → (o : List ℕ) → (write_call s l o).result ≡ Ok tt → file_of (trimmed s) l ≡ file_of s l
one_file s l dl o ws =
    let ok = (write_fits s l o ws).0 in
    let room = zeros (entries_of s) in
    let len = length-replicate (entries_of s) zero64 in
    let r = reading_yes (file_of s l) room s l ok (file_holds s l ok.meets ok.whole dl) (omega arith) in
    let a = reading_is (file_of s l) room (record { shape = trimmed s; numbers = l }) r in
    holds_file (file_of s l) (file_bytes s l) (trimmed s) l a.holds (sound_finite (trimmed s) l a.sound)

-- ---- 5. entry k's offset is where core k's numbers stand
pub body_there : (s : Shape) (l : List Float) → AreDoubles l → (o : List ℕ) → (write_call s l o).result ≡ Ok tt
    → (k j : ℕ) → k < s.d → j < core_size s k → f64_at (file_of s l) (body_start s k + 8 * j) ≡ at (slot (core_size s) k l) j
unfolding slot body_start
body_there s l dl o ws k j lt here =
    let ok = (write_fits s l o ws).0 in
    let h = file_holds s l ok.meets ok.whole dl in
    let start = offset (core_size s) k in
    let inside : start + j < entries_of s = omega (arith, offset_suc (core_size s) k, offset_mono (core_size s) (suc k) s.d lt) in
    let at_byte : 8 + 12 * s.d + 8 * start + 8 * j ≡ 8 + 12 * s.d + 8 * (start + j) = omega arith in
    ap (f64_at (file_of s l)) at_byte ∙ h.numbers (start + j) inside ∙ sym (get_or-take (core_size s k) (drop start l) j nan here ∙ get_or-drop start l j nan)

-- ---- 6. refused, nothing is written
pub write_refused : (s : Shape) (l : List Float) (o : List ℕ) (r : Refusal) → (write_call s l o).result ≡ Err r → (write_call s l o).out ≡ o
unfolding write_call write_exit
write_refused s l o r h = go (writing s l o) h
  where
    go : (a : Answer (List ℕ)) → (write_exit o a).result ≡ Err r → (write_exit o a).out ≡ o
    go (Ok file) e = absurd (ok_err e)
    go (Err x) e = refl

pub read_refused : (bytes : List ℕ) (out : List Float) (r : Refusal) → (read_call bytes out).result ≡ Err r → read_call bytes out ≡ record { result = Err r; out = out }
unfolding read_call read_exit
read_refused bytes out r h = go (reading bytes out) h
  where
    go : (a : Answer Chain) → (read_exit out a).result ≡ Err r → read_exit out a ≡ record { result = Err r; out = out }
    go (Ok c) e = absurd (ok_err e)
    go (Err x) e = λ i. record { result = e i; out = out }
