-- Header and table by what code finds of their parts. Assumes nothing.
use mathlib.Core.Path.{◌≡◌, refl, sym, ap, ◌∙◌}
use Prim.Native.Nat.{ℕ, suc, ◌+◌, ◌-◌, ◌*◌, ◌≤◌, ◌<◌}
use native.Mathlib.Nat.{sub-zero, add-zero}
use native.Mathlib.Numerals.{add-one}
use native.Mathlib.Omega.{arith}
use mathlib.Core.Bool.{true}
use mathlib.Core.List.{List, [], ◌∷◌, ◌++◌, append_assoc}
use lib.ListN.{length, set, replicate}
use lib.Seq.{set_at}
use borrow.Author.Tests.{lt-leb, le-leb}
use mir.Syntax.{w64}
use mir.Val.{Fits as Fits'}
use Rattle.answers.specs.declared.Refusal.{Refusal}
use Rattle.answers.specs.declared.Refusal.TheVariants.{File}
use Rattle.std.specs.Prelude.{Ok, Err}
use Rattle.answers.specs.Outcome.{Answer, Check, ◌then◌}
use Rattle.answers.proofs.Checks.{demand_yes, demand_no, then_stops, then_passes, verdict_passed, verdict_refused}
use Rattle.lists.specs.Lists.{tab}
use Rattle.lists.specs.Slots.{offset, fit}
use Rattle.lists.specs.Walks.{turning}
use Rattle.lists.proofs.Tables.{length_tab, tab_none, tab_more}
use Rattle.lists.proofs.Slots.{fit_whole}
use Rattle.shape.specs.declared.Shape.{Shape}
use Rattle.shape.specs.Limits.{most_axes, most_core}
use Rattle.shape.specs.Shapes.{size_ok, core_size}
use Rattle.shape.proofs.Shaped.{within_is}
use Rattle.words.specs.Bytes.{u16_at}
use Rattle.fileform.specs.File.{entry_start, body_start}
use Rattle.fileform.specs.Reading.{read_header, shape_with, shape_in, entry_ok, table_ok, read_table}
use Rattle.fileform.proofs.Readers.{header_is, entry_is}

-- ---- an array filled from the front
module _ (n : ℕ) (f : ℕ → ℕ) where
  pub fit_none : replicate n 0 ≡ fit 0 n (tab 0 f)
  fit_none = rw (tab_none f) (sym (fit_whole 0 n [] (omega arith) ∙ rw sub-zero))

  pub fit_more : (k : ℕ) (u : List ℕ) (x : ℕ) → u ≡ fit 0 n (tab k f) → k < n → x ≡ f k → set u k x ≡ fit 0 n (tab (k + 1) f)
  fit_more k u x e h g =
      let a = length_tab k f in
      let b = length_tab (suc k) f in
      let m : n - length (tab k f) ≡ suc (n - suc k) = omega arith in
      let j : n - length (tab (suc k) f) ≡ n - suc k = omega arith in
      ap (λ (l : List ℕ). set l k x) (e ∙ fit_whole 0 n (tab k f) (omega arith) ∙ ap (λ (i : ℕ). tab k f ++ replicate i 0) m)
      ∙ set_at (tab k f) 0 (replicate (n - suc k) 0) x k a
      ∙ rw (g, add-one)
      (sym (fit_whole 0 n (tab (suc k) f) (omega arith)
      ∙ ap (λ (i : ℕ). tab (suc k) f ++ replicate i 0) j
      ∙ ap (λ (l : List ℕ). l ++ replicate (n - suc k) 0) (tab_more k f)
      ∙ append_assoc (tab k f) (f k ∷ []) (replicate (n - suc k) 0)))

pub shape_made : (bytes : List ℕ) (d : ℕ) (l n r : List ℕ)
    → l ≡ fit 0 most_axes (tab d (λ (k : ℕ). u16_at bytes (entry_start k + 0))) → n ≡ fit 0 most_axes (tab d (λ (k : ℕ). u16_at bytes (entry_start k + 2))) → r ≡ fit 0 most_axes (tab d (λ (k : ℕ). u16_at bytes (entry_start k + 4)))
    → record { d = d; left = l; n = n; right = r } ≡ shape_in bytes d
unfolding shape_in shape_with
shape_made bytes d l n r a b c =
    let first : l ≡ fit 0 most_axes (tab d (λ (k : ℕ). u16_at bytes (entry_start k))) = simp add-zero at a in
    λ i. record { d = d; left = first i; n = b i; right = c i }

-- ---- the entries: the loop stands at entry k, whose body belongs at `start`
module _ (bytes : List ℕ) (s : Shape) where
  abbrev turn : ℕ → Unit {0} → Check
  turn k _ = entry_ok bytes s k

  abbrev all : Check
  all = turning s.d 0 turn tt

  pub record AtEntry (start k : ℕ) : Type 0 where
    pub most : k ≤ s.d
    pub here : start ≡ body_start s k
    pub small : start ≤ 8 + 12 * most_axes + k * (8 * most_core)
    pub rest : all ≡ turning (s.d - k) k turn tt

  pub entries_none : s.d ≤ most_axes → AtEntry (8 + 12 * s.d) 0
  unfolding body_start offset
  entries_none h = record { most = omega arith; here = sym (add-zero _); small = omega arith; rest = rw sub-zero }

  module _ (start k : ℕ) (A : AtEntry start k) where
    pub entries_done : s.d ≤ k → Ok tt ≡ all
    unfolding turning
    entries_done h = let z : s.d - k ≡ 0 = omega arith in sym ((A.rest ∙ ap (λ (m : ℕ). turning m k turn tt) z))

    module _ (lt : k < s.d) (v : Check) (e : v ≡ entry_ok bytes s k) where
      opened : all ≡ entry_ok bytes s k then turning (s.d - (k + 1)) (k + 1) turn tt
      unfolding turning
      opened = let z : s.d - k ≡ suc (s.d - (k + 1)) = omega arith in A.rest ∙ rw (z, add-one)

      pub entries_stop : (r : Refusal) → v ≡ Err r → Err r ≡ all
      entries_stop r h = sym ((opened ∙ ap (λ (c : Check). c then turning (s.d - (k + 1)) (k + 1) turn tt) (verdict_refused (entry_ok bytes s k) v r e h)))

      pub entry_sized : v ≡ Ok tt → size_ok s k ≡ true
      entry_sized h = (entry_is bytes s k (verdict_passed (entry_ok bytes s k) v e h)).sizes

      pub entries_more : v ≡ Ok tt → (x : ℕ) → (x ≡ 8 * core_size s k) × (x ≤ 8 * most_core) → AtEntry (start + x) (k + 1)
      unfolding body_start offset
      entries_more h x g =
          let b : start ≡ 8 + 12 * s.d + 8 * offset (core_size s) k = A.here in
          let m : offset (core_size s) (k + 1) ≡ offset (core_size s) k + core_size s k = rw add-one in
          record {
            most = omega arith;
            here = omega arith;
            small = omega (arith, A.small);
            rest = opened ∙ ap (λ (c : Check). c then turning (s.d - (k + 1)) (k + 1) turn tt) (verdict_passed (entry_ok bytes s k) v e h);
          }

  pub start_fits : (start k x : ℕ) → AtEntry start k → k < s.d → s.d ≤ most_axes → x ≤ 8 * most_core → Fits' w64 (start + x)
  start_fits start k x A lt few h = record { fits = omega (arith, A.small) }

pub ruleset entrywise = (entries_none, entries_stop, entry_sized, entries_more, entries_done, start_fits)

-- ---- the table
module _ (bytes : List ℕ) (d : ℕ) where
  pub table_short : length bytes < entry_start d → Err (File (length bytes)) ≡ read_table bytes d
  unfolding read_table
  table_short h = sym (ap (λ (c : Check). c then table_ok bytes (shape_in bytes d) then Ok (shape_in bytes d)) (demand_no _ _ (lt-leb (entry_start d) (length bytes) h)))

  module _ (there : entry_start d ≤ length bytes) (s : Shape) (e : s ≡ shape_in bytes d) where
    pub table_axes : s.d ≡ d
    unfolding shape_in shape_with
    table_axes = ap (λ (x : Shape). x.d) e

    module _ (v : Check) (f : v ≡ table_ok bytes s) where
      found : read_table bytes d ≡ table_ok bytes s then Ok s
      unfolding read_table
      found =
          ap (λ (c : Check). c then table_ok bytes (shape_in bytes d) then Ok (shape_in bytes d)) (demand_yes _ _ (le-leb (entry_start d) (length bytes) there))
          ∙ ap (λ (t : Shape). table_ok bytes t then Ok t) (sym e)

      pub table_stops : (r : Refusal) → v ≡ Err r → Err r ≡ read_table bytes d
      table_stops r h = then_stops (table_ok bytes s) (Ok s) v f r h ∙ sym found

      pub table_reads : v ≡ Ok tt → Ok s ≡ read_table bytes d
      table_reads h = then_passes (table_ok bytes s) (Ok s) v f (Ok s) h refl ∙ sym found

pub ruleset tabled = (table_short, table_axes, table_stops, table_reads)

-- ---- the header that stands behind a table
pub header_few : (bytes : List ℕ) (v : Answer ℕ) → v ≡ read_header bytes → (d : ℕ) → v ≡ Ok d → d ≤ most_axes
header_few bytes v e d h = (within_is most_axes d (header_is bytes d (sym e ∙ h)).few).1
