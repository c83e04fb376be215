-- The file as code makes it, part by part, and the call that writes. Assumes nothing.
use mathlib.Core.Path.{◌≡◌, refl, sym, ap, ◌∙◌}
use Prim.Native.Nat.{ℕ, ◌+◌, ◌*◌, ◌≤◌, ◌<◌}
use native.Mathlib.Nat.{le_of_eq}
use native.Mathlib.Omega.{arith}
use mathlib.Core.Bool.{true}
use mathlib.Core.List.{List, [], ◌∷◌, ◌++◌, append_assoc}
use lib.ListN.{length, get_or, length-append}
use lib.Ieee.{Float}
use Rattle.answers.specs.declared.Refusal.{Refusal}
use Rattle.std.specs.Prelude.{Ok, Err}
use Rattle.answers.specs.Outcome.{Check, ◌then◌}
use Rattle.answers.proofs.Checks.{then_is, verdict_passed, verdict_refused}
use Rattle.lists.specs.Lists.{joined}
use Rattle.lists.specs.Floats.{at, all_finite}
use Rattle.lists.proofs.Tables.{length_joined}
use Rattle.lists.proofs.Asked.{lengths_say}
use Rattle.shape.specs.declared.Shape.{Shape}
use Rattle.shape.specs.Shapes.{left_of, points_of, right_of, chain_ok, entries_of}
use Rattle.shape.specs.Sizes.{SizesWithin}
use Rattle.shape.proofs.Shaped.{shaped}
use Rattle.words.specs.Bytes.{bytes_of, f64, bytes_of_all}
use Rattle.words.specs.Placed.{placed}
use Rattle.words.proofs.Placing.{placed_length, placed_more, placed_all, joins_none, joins_more}
use Rattle.words.proofs.Runs.{f64_length}
use Rattle.fileform.specs.File.{entry_start, body_start, file_length, header, table_entry, file_of}
use Rattle.fileform.specs.Calls.{numbers_ok}
use Rattle.fileform.specs.Writing.{write_lent, write_ok, writing, write_exit, write_call}
use Rattle.fileform.proofs.Fields.{entry_length}
use Rattle.fileform.proofs.Writers.{numbers_finite}

pub header_made : (d : ℕ) (b : List ℕ) → b ≡ bytes_of 2 d → 84 ∷ 84 ∷ 67 ∷ 49 ∷ get_or b 0 0 ∷ get_or b 1 0 ∷ 0 ∷ 0 ∷ [] ≡ header d
unfolding header bytes_of
header_made d b e = rw e

pub entry_made : (s : Shape) (k start : ℕ) (l n r b : List ℕ) → l ≡ bytes_of 2 (left_of s k) → n ≡ bytes_of 2 (points_of s k) → r ≡ bytes_of 2 (right_of s k) → b ≡ bytes_of 4 start → start ≡ body_start s k
    → get_or l 0 0 ∷ get_or l 1 0 ∷ get_or n 0 0 ∷ get_or n 1 0 ∷ get_or r 0 0 ∷ get_or r 1 0 ∷ 0 ∷ 0 ∷ get_or b 0 0 ∷ get_or b 1 0 ∷ get_or b 2 0 ∷ get_or b 3 0 ∷ [] ≡ table_entry s k
unfolding table_entry bytes_of
entry_made s k start l n r b e f g h i = rw (e, f, g, h, i)

-- ---- the table: k entries stand in it
module _ (s : Shape) (l : List ℕ) where
  abbrev pub entered : ℕ → List ℕ
  entered k = placed 8 (joined k (table_entry s)) l

  pub table_none : l ≡ entered 0
  table_none = joins_none 12 (table_entry s) (entry_length s) 8 l

  pub table_more : (k : ℕ) (u x v : List ℕ) → u ≡ entered k → x ≡ table_entry s k → k < s.d → entry_start s.d ≤ length l → v ≡ placed (8 + 12 * k) x u → v ≡ entered (k + 1)
  table_more k u x v e g lt h d =
      d ∙ ap (λ (y : List ℕ). placed (8 + 12 * k) y u) g
      ∙ joins_more 12 (table_entry s) (entry_length s) 8 l k (8 + 12 * k) u e (omega arith) (omega arith)

-- ---- header, table and bodies: u, v and w are what the output holds after each
module _ (s : Shape) (chain : List Float) (out : List ℕ) (long : length out ≡ file_length s) where
  room : length out ≡ 8 + 12 * s.d + 8 * entries_of s
  unfolding file_length
  room = long

  pub header_room : (x : List ℕ) → x ≡ header s.d → 0 + length x ≤ length out
  unfolding header bytes_of
  header_room x e = let n : length x ≡ 8 = ap length e in let r = room in omega arith

  module _ (x u : List ℕ) (ex : x ≡ header s.d) (eu : u ≡ placed 0 x out) where
    head : u ≡ placed 0 (header s.d) out
    head = eu ∙ ap (λ (y : List ℕ). placed 0 y out) ex

    head_long : length u ≡ length out
    head_long = ap length eu ∙ placed_length 0 x out (header_room x ex)

    pub table_room : entry_start s.d ≤ length u
    table_room = let h = head_long in let r = room in omega arith

    module _ (v : List ℕ) (ev : v ≡ placed 8 (joined s.d (table_entry s)) u) where
      table_long : length (joined s.d (table_entry s)) ≡ s.d * 12
      table_long = length_joined 12 (table_entry s) (entry_length s) s.d

      both : v ≡ placed 0 (header s.d ++ joined s.d (table_entry s)) out
      unfolding header bytes_of
      both = let t = table_long in let r = room in ev ∙ ap (placed 8 _) head ∙ placed_more 0 (header s.d) out 8 _ (omega arith) refl

      both_long : length v ≡ length out
      both_long = let t = table_long in let r = room in let h = head_long in ap length ev ∙ placed_length 8 _ u (omega arith) ∙ head_long

      module _ (whole : length chain ≡ entries_of s) where
        pub bodies_room : numbers_ok s chain ≡ Ok tt → (8 + 12 * s.d + 8 * length chain ≤ length v) × (all_finite chain ≡ true)
        bodies_room ok = let h = both_long in let r = room in (omega arith, numbers_finite s chain whole ok)

        pub file_made : (w : List ℕ) → w ≡ placed (8 + 12 * s.d) (bytes_of_all chain) v → w ≡ file_of s chain
        unfolding file_of bytes_of_all header bytes_of
        file_made w ew =
            let h = header s.d in
            let t = joined s.d (table_entry s) in
            let b = bytes_of_all chain in
            let n = table_long in
            let r = room in
            let ht = length-append h t in
            let m = length_joined 8 (λ (i : ℕ). f64 (at chain i)) (λ i. f64_length (at chain i)) (length chain) in
            let all = length-append (h ++ t) b in
            ew ∙ ap (placed (8 + 12 * s.d) b) both
            ∙ placed_more 0 (h ++ t) out (8 + 12 * s.d) b (omega arith) (omega arith)
            ∙ placed_all ((h ++ t) ++ b) out (omega arith)
            ∙ append_assoc h t b
            ∙ ap (λ (k : ℕ). h ++ (t ++ joined k (λ (i : ℕ). f64 (at chain i)))) whole

-- ---- the call, by the verdict of its checks
pub lengths_passed : (s : Shape) (chain out : ℕ) (v : Check) → v ≡ write_lent s chain out → v ≡ Ok tt → entries_of s ≤ chain
unfolding write_lent
lengths_passed s chain out v e h = le_of_eq (sym (lengths_say chain (entries_of s) out (file_length s) _ _ (verdict_passed (write_lent s chain out) v e h)).0)

module _ (s : Shape) (chain : List Float) (out : List ℕ) (v : Check) (e : v ≡ write_ok s chain (length out)) where
  pub write_stops : (r : Refusal) → v ≡ Err r → (Err r ≡ (write_call s chain out).result) × (out ≡ (write_call s chain out).out)
  unfolding write_call write_exit writing
  write_stops r h =
      let k = verdict_refused (write_ok s chain (length out)) v r e h in
      (sym (ap (λ (c : Check). (write_exit out (c then Ok (file_of s chain))).result) k), sym (ap (λ (c : Check). (write_exit out (c then Ok (file_of s chain))).out) k))

  module _ (h : v ≡ Ok tt) where
    passed : write_ok s chain (length out) ≡ Ok tt
    passed = verdict_passed (write_ok s chain (length out)) v e h

    pub write_asks : SizesWithin s × ((length chain ≡ entries_of s) × (length out ≡ file_length s) × (numbers_ok s chain ≡ Ok tt))
    unfolding write_ok write_lent
    write_asks =
        let a = then_is (chain_ok s) _ tt passed in
        let b = then_is (write_lent s (length chain) (length out)) _ tt a.1 in
        let l = lengths_say (length chain) (entries_of s) (length out) (file_length s) _ _ b.0 in
        ((shaped s (λ (k : ℕ). true) a.0).sizes, (l.0, l.1, b.1))

    pub write_made : (o : List ℕ) → o ≡ file_of s chain → ((Ok tt) ≡ (write_call s chain out).result) × (o ≡ (write_call s chain out).out)
    unfolding write_call write_exit writing
    write_made o d =
        (sym (ap (λ (c : Check). (write_exit out (c then Ok (file_of s chain))).result) passed), d ∙ sym (ap (λ (c : Check). (write_exit out (c then Ok (file_of s chain))).out) passed))
