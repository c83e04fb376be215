-- The call that reads, by what code finds of its parts. Assumes nothing.
use mathlib.Core.Path.{◌≡◌, refl, sym, ap, ◌∙◌, subst}
use Prim.Native.Nat.{ℕ, ◌+◌, ◌*◌, ◌≤◌, ◌<◌}
use native.Mathlib.Omega.{arith}
use mathlib.Core.List.{List}
use lib.Dec.{leb}
use lib.ListN.{length}
use lib.Ieee.{Float}
use borrow.Author.Tests.{lt-leb, le-leb}
use mir.Syntax.{w64}
use mir.Val.{Fits as Fits'}
use Rattle.answers.specs.declared.Refusal.{Refusal}
use Rattle.answers.specs.declared.Refusal.TheVariants.{File, Length}
use Rattle.std.specs.Prelude.{Ok, Err}
use Rattle.answers.specs.Outcome.{bind, Answer, Check, ◌then◌, demand}
use Rattle.answers.proofs.Outcomes.{bind_assoc, bind_cong, ok_inj, bind_ok}
use Rattle.answers.proofs.Checks.{demand_yes, demand_no, demand_is, then_is}
use Rattle.numbers.specs.Arithmetic.{zero64}
use Rattle.lists.specs.Slots.{fit}
use Rattle.lists.proofs.Asked.{lengths-asked}
use Rattle.lists.proofs.Tests.{eqb_yes, eqb_no, eqb_is, leb_is}
use Rattle.shape.specs.declared.Shape.{Shape}
use Rattle.shape.specs.Shapes.{entries_of}
use Rattle.shape.specs.Sizes.{SizesWithin}
use Rattle.shape.proofs.Offsets.{entries_most}
use Rattle.fileform.specs.File.{file_length}
use Rattle.fileform.specs.Calls.{numbers_ok}
use Rattle.fileform.specs.Reading.{read_contents, lengths_ok, numbers_in, read_numbers, read_ok, Chain, reading, read_exit, read_call}
use Rattle.fileform.proofs.Shapes.{met}
use Rattle.fileform.proofs.Readers.{contents_is}

-- ---- the file's length: n is what code took for N
module _ (s : Shape) (n : ℕ) (e : n ≡ entries_of s) where
  pub bodies_fit : SizesWithin s → Fits' w64 (8 * n)
  bodies_fit w = record { fits = omega (arith, entries_most s w) }

  pub file_fits : SizesWithin s → Fits' w64 (8 + 12 * s.d + 8 * n)
  file_fits w = record { fits = omega (arith, entries_most s w, w.axes.most) }

  pub file_counts : 8 + 12 * s.d + 8 * n ≡ file_length s
  unfolding file_length
  file_counts = ap (λ (m : ℕ). 8 + 12 * s.d + 8 * m) e

pub ruleset file_counted = (bodies_fit, file_fits, file_counts)

-- ---- the lengths: m and n are what code took for the file's and N
module _ (s : Shape) (bytes room m : ℕ) (e : m ≡ file_length s) where
  abbrev enough : Check
  enough = demand (leb (entries_of s) room) (Length 1)

  pub file_wrong : (bytes ≡ m → ⊥) → Err (File bytes) ≡ lengths_ok s bytes room
  unfolding lengths_ok
  file_wrong h = sym (ap (λ (c : Check). c then enough) (demand_no _ (File bytes) (eqb_no bytes (file_length s) (λ q. h (q ∙ sym e)))))

  module _ (h : bytes ≡ m) (n : ℕ) (g : n ≡ entries_of s) where
    past : lengths_ok s bytes room ≡ enough
    unfolding lengths_ok
    past = ap (λ (c : Check). c then enough) (demand_yes _ (File bytes) (eqb_yes bytes (file_length s) (h ∙ e)))

    pub room_wrong : room < n → Err (Length 1) ≡ lengths_ok s bytes room
    room_wrong l = sym (past ∙ demand_no _ (Length 1) (lt-leb (entries_of s) room (omega arith)))

    pub lengths_right : n ≤ room → Ok tt ≡ lengths_ok s bytes room
    lengths_right l = sym (past ∙ demand_yes _ (Length 1) (le-leb (entries_of s) room (omega arith)))

pub ruleset lengths_found = (file_wrong, room_wrong, lengths_right)

-- those of `write_lent`, for a `tactic`, in which no dash can stand
pub ruleset lengths_lent = lengths-asked

lengths_say : (s : Shape) (bytes room : ℕ) → lengths_ok s bytes room ≡ Ok tt → (bytes ≡ file_length s) × (entries_of s ≤ room)
unfolding lengths_ok
lengths_say s bytes room e = let w = then_is _ _ tt e in (eqb_is _ _ (demand_is _ _ w.0), leb_is _ _ (demand_is _ _ w.1))

pub found_long : (s : Shape) (bytes room : ℕ) (v : Check) → v ≡ lengths_ok s bytes room → v ≡ Ok tt → bytes ≡ file_length s
found_long s bytes room v e h = (lengths_say s bytes room (sym e ∙ h)).0

-- ---- a shape that was found
pub contents_sized : (bytes : List ℕ) (s : Shape) → read_contents bytes ≡ Ok s → SizesWithin s
contents_sized bytes s h = (met s (contents_is bytes s h).table.meets).sizes

-- ---- the call: v is what all checks answered
module _ (bytes : List ℕ) (out : List Float) where
  abbrev shape_of : Shape → Answer Shape
  shape_of s = lengths_ok s (length bytes) (length out) then numbers_ok s (numbers_in bytes s) then Ok s

  abbrev chain_with : Shape → List Float → Answer Chain
  chain_with s l = Ok (record { shape = s; numbers = l })

  abbrev chain_in : Shape → Answer Chain
  chain_in s = chain_with s (numbers_in bytes s)

  abbrev chain_of : Shape → Answer Chain
  chain_of s = lengths_ok s (length bytes) (length out) then bind (read_numbers bytes s) (chain_with s)

  after_checks : reading bytes out ≡ bind (read_ok bytes (length out)) chain_in
  unfolding reading read_ok read_numbers
  after_checks =
      bind_cong (read_contents bytes) chain_of (λ s. bind (shape_of s) chain_in) (λ s _. go s (lengths_ok s (length bytes) (length out)) (numbers_ok s (numbers_in bytes s)))
      ∙ sym (bind_assoc (read_contents bytes) shape_of chain_in)
    where
      go : (s : Shape) (l n : Check) → l then bind (n then Ok (numbers_in bytes s)) (chain_with s) ≡ bind (l then n then Ok s) chain_in
      go s (Ok a) (Ok b) = refl
      go s (Ok a) (Err q) = refl
      go s (Err q) n = refl

module _ (bytes : List ℕ) (out : List Float) (v : Answer Shape) (e : v ≡ read_ok bytes (length out)) where
  pub call_refused : (r : Refusal) → v ≡ Err r → (Err r ≡ (read_call bytes out).result) × (out ≡ (read_call bytes out).out)
  unfolding read_call read_exit
  call_refused r h =
      let k : reading bytes out ≡ Err r = after_checks bytes out ∙ ap (λ (o : Answer Shape). bind o (chain_in bytes out)) (sym e ∙ h) in
      (sym (ap (λ (a : Answer Chain). (read_exit out a).result) k), sym (ap (λ (a : Answer Chain). (read_exit out a).out) k))

  module _ (s : Shape) (h : v ≡ Ok s) where
    pub call_asks : SizesWithin s × ((length bytes ≡ file_length s) × (entries_of s ≤ length out) × (numbers_ok s (numbers_in bytes s) ≡ Ok tt))
    unfolding read_ok
    call_asks =
        let a = bind_ok (read_contents bytes) _ s (sym e ∙ h) in
        let b = then_is (lengths_ok a.0 (length bytes) (length out)) _ s a.2 in
        let c = then_is (numbers_ok a.0 (numbers_in bytes a.0)) _ s b.1 in
        subst (λ (t : Shape). SizesWithin t × ((length bytes ≡ file_length t) × (entries_of t ≤ length out) × (numbers_ok t (numbers_in bytes t) ≡ Ok tt))) (ok_inj c.1)
        (contents_sized bytes a.0 a.1, ((lengths_say a.0 (length bytes) (length out) b.0).0, (lengths_say a.0 (length bytes) (length out) b.0).1, c.0))

    pub call_reads : (o : List Float) → o ≡ fit zero64 (length out) (numbers_in bytes s) → (Ok s ≡ (read_call bytes out).result) × (o ≡ (read_call bytes out).out)
    unfolding read_call read_exit
    call_reads o d =
        let k : reading bytes out ≡ Ok (record { shape = s; numbers = numbers_in bytes s }) = after_checks bytes out ∙ ap (λ (a : Answer Shape). bind a (chain_in bytes out)) (sym e ∙ h) in
        (sym (ap (λ (a : Answer Chain). (read_exit out a).result) k), d ∙ sym (ap (λ (a : Answer Chain). (read_exit out a).out) k))
