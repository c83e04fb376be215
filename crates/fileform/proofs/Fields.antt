-- A file, field by field: what stands at each place of the one file of a chain, and that bytes with those fields are that file. Assumes nothing.
use mathlib.Core.Path.{◌≡◌, refl, sym, ap, ◌∙◌}
use Prim.Native.Nat.{ℕ, ◌+◌, ◌*◌, ◌^◌, ◌≤◌, ◌<◌}
use native.Mathlib.Nat.{zero-add, add-zero, add_assoc}
use native.Mathlib.Omega.{arith}
use mathlib.Core.Bool.{true}
use mathlib.Core.List.{List, ◌++◌}
use lib.ListN.{length, length-append}
use lib.Ieee.{Float, binary64, to_bits}
use Rattle.answers.specs.declared.Refusal.TheVariants.{Number}
use Rattle.answers.specs.Outcome.{demand_each}
use Rattle.answers.proofs.Checks.{each_same}
use Rattle.numbers.specs.Finite.{finite}
use Rattle.lists.specs.Lists.{flat, joined}
use Rattle.lists.specs.Slots.{slot}
use Rattle.lists.specs.Floats.{at, all_finite}
use Rattle.lists.proofs.Tables.{listed_same, length_joined}
use Rattle.shape.specs.declared.Shape.{Shape}
use Rattle.shape.specs.Shapes.{left_of, points_of, right_of, core_size, entries_of}
use Rattle.shape.proofs.Offsets.{core_offset_most}
use Rattle.words.specs.Bytes.{bytes_of, number_at, u16, f64, u16_at, u32_at, f64_at}
use Rattle.fileform.specs.File.{entry_start, body_start, file_length, mark, header, table_entry, file_of}
use Rattle.fileform.specs.Calls.{numbers_ok}
use Rattle.words.proofs.Cuts.{cut, cut_all, cut_cut, cut_add, cut_first, cut_second, part_at, cut_parts}
use Rattle.words.proofs.Runs.{f64_length}
use Rattle.words.proofs.Bytes.{AreBytes, AreDoubles, append_bytes, joined_bytes, number_bytes, reads, written, f64_reads, f64_written}
use Rattle.fileform.proofs.Shapes.{Meets, met, Alike, alike_core, alike_offset, alike_entries}

-- the fields of these bytes are those of this chain
pub record Holds (bytes : List ℕ) (s : Shape) (chain : List Float) : Type 0 where
  pub long : length bytes ≡ file_length s
  pub marked : u32_at bytes 0 ≡ u32_at mark 0
  pub axes : u16_at bytes 4 ≡ s.d
  pub clear : u16_at bytes 6 ≡ 0
  pub left : (k : ℕ) → k < s.d → u16_at bytes (entry_start k) ≡ left_of s k
  pub points : (k : ℕ) → k < s.d → u16_at bytes (entry_start k + 2) ≡ points_of s k
  pub right : (k : ℕ) → k < s.d → u16_at bytes (entry_start k + 4) ≡ right_of s k
  pub void : (k : ℕ) → k < s.d → u16_at bytes (entry_start k + 6) ≡ 0
  pub body : (k : ℕ) → k < s.d → u32_at bytes (entry_start k + 8) ≡ body_start s k
  pub numbers : (i : ℕ) → i < entries_of s → f64_at bytes (entry_start s.d + 8 * i) ≡ at chain i

-- ---- what hangs on the shape only by the sizes of its d cores
module _ (s t : Shape) (a : Alike s t) where
  pub alike_body : (k : ℕ) → k < s.d → body_start s k ≡ body_start t k
  unfolding body_start
  alike_body k lt = omega (arith, a.axes, alike_offset s t a k (omega arith))

  pub alike_length : file_length s ≡ file_length t
  unfolding file_length
  alike_length = omega (arith, a.axes, alike_entries s t a)

  pub alike_numbers : (chain : List Float) → numbers_ok s chain ≡ numbers_ok t chain
  unfolding numbers_ok slot
  alike_numbers chain =
      each_same Number (λ (k : ℕ). all_finite (slot (core_size s) k chain)) (λ (k : ℕ). all_finite (slot (core_size t) k chain)) s.d 0
      (λ k _ lt. rw (alike_core s t a k (omega arith), alike_offset s t a k (omega arith)))
      ∙ ap (λ (m : ℕ). demand_each Number (λ (k : ℕ). all_finite (slot (core_size t) k chain)) m 0) a.axes

pub entry_length : (s : Shape) (k : ℕ) → length (table_entry s k) ≡ 12
unfolding table_entry bytes_of
entry_length s k = refl

header_bytes : (d : ℕ) → AreBytes (header d)
unfolding header bytes_of number_at
header_bytes d = append_bytes mark (u16 d ++ u16 0) (number_bytes 4 (u32_at mark 0)) (append_bytes (u16 d) (u16 0) (number_bytes 2 d) (number_bytes 2 0))

entry_bytes : (s : Shape) (k : ℕ) → AreBytes (table_entry s k)
unfolding table_entry
entry_bytes s k =
    append_bytes (u16 (left_of s k)) _ (number_bytes 2 (left_of s k))
    (append_bytes (u16 (points_of s k)) _ (number_bytes 2 (points_of s k))
    (append_bytes (u16 (right_of s k)) _ (number_bytes 2 (right_of s k))
    (append_bytes (u16 0) _ (number_bytes 2 0) (number_bytes 4 (body_start s k)))))

-- ---- where things stand in the file
module _ (s : Shape) (chain : List Float) where
  abbrev table : List ℕ
  table = joined s.d (table_entry s)

  abbrev bodies : List ℕ
  bodies = joined (entries_of s) (λ (i : ℕ). f64 (at chain i))

  table_length : length table ≡ 12 * s.d
  table_length = omega (arith, length_joined 12 (table_entry s) (entry_length s) s.d)

  bodies_length : length bodies ≡ 8 * entries_of s
  bodies_length = omega (arith, length_joined 8 (λ (i : ℕ). f64 (at chain i)) (λ i. f64_length (at chain i)) (entries_of s))

  pub file_length_lem : length (file_of s chain) ≡ file_length s
  unfolding file_of file_length header bytes_of
  file_length_lem = let a = table_length in let b = bodies_length in let c = length-append table bodies in omega arith

  pub file_bytes : AreBytes (file_of s chain)
  unfolding file_of
  file_bytes =
      append_bytes (header s.d) (table ++ bodies) (header_bytes s.d)
      (append_bytes table bodies (joined_bytes (table_entry s) (entry_bytes s) s.d 0) (joined_bytes (λ (i : ℕ). f64 (at chain i)) (λ i. number_bytes 8 (to_bits binary64 (at chain i))) (entries_of s) 0))

  header_part : (p w : ℕ) → p + w ≤ 8 → cut p w (file_of s chain) ≡ cut p w (header s.d)
  unfolding file_of header bytes_of
  header_part p w le = cut_first p w (header s.d) (table ++ bodies) le

  entry_part : (k a w : ℕ) → k < s.d → a + w ≤ 12 → cut (entry_start k + a) w (file_of s chain) ≡ cut a w (table_entry s k)
  unfolding file_of header bytes_of
  entry_part k a w lt le =
      sym (cut_cut (entry_start k) 12 a w (file_of s chain) le)
      ∙ ap (cut a w) (cut_second 8 (12 * k) 12 (header s.d) (table ++ bodies) refl
      ∙ cut_first (12 * k) 12 table bodies (omega (arith, table_length))
      ∙ part_at 12 (table_entry s) (entry_length s) s.d 0 k lt
      ∙ ap (table_entry s) (zero-add k))

  body_part : (i : ℕ) → i < entries_of s → cut (entry_start s.d + 8 * i) 8 (file_of s chain) ≡ f64 (at chain i)
  unfolding file_of header bytes_of
  body_part i lt =
      ap (λ (p : ℕ). cut p 8 (file_of s chain)) (add_assoc 8 (12 * s.d) (8 * i))
      ∙ cut_second 8 (12 * s.d + 8 * i) 8 (header s.d) (table ++ bodies) refl
      ∙ cut_second (12 * s.d) (8 * i) 8 table bodies table_length
      ∙ part_at 8 (λ (j : ℕ). f64 (at chain j)) (λ j. f64_length (at chain j)) (entries_of s) 0 i lt
      ∙ ap (λ (j : ℕ). f64 (at chain j)) (zero-add i)

-- ---- the file of an accepted chain holds it
module _ (s : Shape) (chain : List Float) (m : Meets s) (whole : length chain ≡ entries_of s) (doubles : AreDoubles chain) where
  abbrev file : List ℕ
  file = file_of s chain

  -- the number of a field of the header, or of an entry, that is written as x
  in_header : (w p x : ℕ) → p + w ≤ 8 → x < 256 ^ w → cut p w (header s.d) ≡ bytes_of w x → number_at w file p ≡ x
  in_header w p x le lt e = reads w x p file (header_part s chain p w le ∙ e) lt

  in_entry : (k a w x : ℕ) → k < s.d → a + w ≤ 12 → x < 256 ^ w → cut a w (table_entry s k) ≡ bytes_of w x → number_at w file (entry_start k + a) ≡ x
  in_entry k a w x here le lt e = reads w x (entry_start k + a) file (entry_part s chain k a w here le ∙ e) lt

  -- a body's offset needs no more than its four bytes
  body_lt : (k : ℕ) → k < s.d → body_start s k < 256 ^ 4
  unfolding body_start
  body_lt k lt = omega (arith, core_offset_most s (met s m).sizes k (omega arith), (met s m).most)

  pub file_holds : Holds file s chain
  unfolding header table_entry bytes_of number_at
  file_holds =
      record {
        long = file_length_lem s chain;
        marked = in_header 4 0 (u32_at mark 0) (omega arith) (omega arith) refl;
        axes = in_header 2 4 s.d (omega arith) (omega (arith, (met s m).most)) refl;
        clear = in_header 2 6 0 (omega arith) (omega arith) refl;
        left = λ k lt. rw (add-zero (entry_start k)) at (in_entry k 0 2 (left_of s k) lt (omega arith) (omega (arith, ((met s m).sizes.left k lt).1)) refl);
        points = λ k lt. in_entry k 2 2 (points_of s k) lt (omega arith) (omega (arith, ((met s m).sizes.axes.points k lt).1)) refl;
        right = λ k lt. in_entry k 4 2 (right_of s k) lt (omega arith) (omega (arith, ((met s m).sizes.right k lt).1)) refl;
        void = λ k lt. in_entry k 6 2 0 lt (omega arith) (omega arith) refl;
        body = λ k lt. in_entry k 8 4 (body_start s k) lt (omega arith) (body_lt k lt) refl;
        numbers = λ i lt. f64_reads (at chain i) (entry_start s.d + 8 * i) file (doubles i (omega arith)) (body_part s chain i lt);
      }

-- ---- bytes that hold a chain of finite numbers are its file
module _ (bytes : List ℕ) (are : AreBytes bytes) (s : Shape) (chain : List Float) (h : Holds bytes s chain) where
  -- a field written as it was read, before what follows it
  last : (w p x : ℕ) → p + w ≤ length bytes → number_at w bytes p ≡ x → cut p w bytes ≡ bytes_of w x
  last w p x le e = sym (written bytes are w p le) ∙ ap (bytes_of w) e

  field : (w p x q v : ℕ) (r : List ℕ) → p + w ≤ length bytes → number_at w bytes p ≡ x → p + w ≡ q → cut q v bytes ≡ r → cut p (w + v) bytes ≡ bytes_of w x ++ r
  field w p x q v r le e next rest =
      cut_add p w v bytes
      ∙ ap (λ (l : List ℕ). l ++ cut (p + w) v bytes) (last w p x le e)
      ∙ ap (λ (l : List ℕ). bytes_of w x ++ l) (ap (λ (j : ℕ). cut j v bytes) next ∙ rest)

  long : length bytes ≡ 8 + 12 * s.d + 8 * entries_of s
  unfolding file_length
  long = h.long

  header_whole : cut 0 8 bytes ≡ header s.d
  unfolding header bytes_of number_at
  header_whole =
      let l = long in
      field 4 0 (u32_at mark 0) 4 4 _ (omega arith) h.marked refl
      (field 2 4 s.d 6 2 _ (omega arith) h.axes refl
      (last 2 6 0 (omega arith) h.clear))

  entry_whole : (k : ℕ) → k < s.d → cut (entry_start k) 12 bytes ≡ table_entry s k
  unfolding table_entry
  entry_whole k lt =
      let l = long in
      let p = entry_start k in
      field 2 p (left_of s k) (p + 2) 10 _ (omega arith) (h.left k lt) refl
      (field 2 (p + 2) (points_of s k) (p + 4) 8 _ (omega arith) (h.points k lt) (add_assoc p 2 2)
      (field 2 (p + 4) (right_of s k) (p + 6) 6 _ (omega arith) (h.right k lt) (add_assoc p 4 2)
      (field 2 (p + 6) 0 (p + 8) 4 _ (omega arith) (h.void k lt) (add_assoc p 6 2)
      (last 4 (p + 8) (body_start s k) (omega arith) (h.body k lt)))))

  pub holds_file : ((i : ℕ) → i < entries_of s → finite (at chain i) ≡ true) → file_of s chain ≡ bytes
  unfolding file_of
  holds_file finites =
      let l = long in
      let d = s.d in
      let N = entries_of s in
      let entries : cut 8 (12 * d) bytes ≡ joined d (table_entry s)
      = cut_parts 8 12 bytes d 0 ∙ ap flat (listed_same d 0 (λ (k : ℕ). cut (entry_start k) 12 bytes) (table_entry s) (λ k _ lt. entry_whole k (omega arith))) in
      let numbers : cut (entry_start d) (8 * N) bytes ≡ joined N (λ (i : ℕ). f64 (at chain i))
      = ap (λ (p : ℕ). cut p (8 * N) bytes) (sym (add-zero (entry_start d)))
      ∙ cut_parts (entry_start d) 8 bytes N 0
      ∙ ap flat (listed_same N 0 (λ (i : ℕ). cut (entry_start d + 8 * i) 8 bytes) (λ (i : ℕ). f64 (at chain i)) (λ i _ lt. number i (omega arith))) in
      sym (sym (cut_all bytes (8 + (12 * d + 8 * N)) (omega arith))
      ∙ cut_add 0 8 (12 * d + 8 * N) bytes
      ∙ ap (λ (x : List ℕ). x ++ cut 8 (12 * d + 8 * N) bytes) header_whole
      ∙ ap (λ (x : List ℕ). header d ++ x) (cut_add 8 (12 * d) (8 * N) bytes ∙ ap (λ (x : List ℕ). x ++ cut (entry_start d) (8 * N) bytes) entries ∙ ap (λ (x : List ℕ). joined d (table_entry s) ++ x) numbers))
    where
      number : (i : ℕ) → i < entries_of s → cut (entry_start s.d + 8 * i) 8 bytes ≡ f64 (at chain i)
      number i lt =
          let l = long in
          let e = h.numbers i lt in
          sym (f64_written bytes are (entry_start s.d + 8 * i) (omega arith) (ap finite e ∙ finites i lt)) ∙ ap f64 e
