-- What the checks of header and entries answer, by what code finds. Assumes nothing.
use mathlib.Core.Path.{◌≡◌, refl, sym, ap, ◌∙◌}
use Prim.Native.Nat.{ℕ, ◌+◌, ◌*◌, ◌≤◌, ◌<◌}
use native.Mathlib.Nat.{mul-le-mul}
use native.Mathlib.Omega.{arith}
use mathlib.Core.Bool.{Bool, true, false, not, ◌&&◌}
use mathlib.Core.List.{List}
use lib.ListN.{length}
use mir.Syntax.{w64}
use mir.Val.{Fits as Fits'}
use borrow.Author.Tests.{lt-leb}
use Rattle.answers.specs.declared.Refusal.{Refusal}
use Rattle.answers.specs.declared.Refusal.TheVariants.{Axes, Size, File}
use Rattle.std.specs.Prelude.{Ok, Err}
use Rattle.answers.specs.Outcome.{Answer, Check, ◌then◌, demand}
use Rattle.answers.proofs.Checks.{demand_yes, demand_no}
use Rattle.lists.proofs.Tests.{both, eqb_yes, eqb_no, leb_yes, not_no, not_yes}
use Rattle.shape.specs.declared.Shape.{Shape}
use Rattle.shape.specs.Limits.{most_axes, most_points, most_rank, most_core, within}
use Rattle.shape.specs.Shapes.{left_of, points_of, right_of, size_ok, core_size}
use Rattle.shape.proofs.Shaped.{within_is}
use Rattle.words.specs.Bytes.{number_at, u16_at, u32_at}
use Rattle.fileform.specs.File.{entry_start, body_start, mark}
use Rattle.fileform.specs.Reading.{read_header, entry_ok}

-- a demand that stops, and one that lets pass
stop : {A : Type 0} (b : Bool) (r : Refusal) (o : Answer A) → b ≡ false → Err r ≡ (demand b r then o)
stop b r o e = sym (ap (λ (c : Check). c then o) (demand_no b r e))

pass : {A : Type 0} (v : Answer A) (b : Bool) (r : Refusal) (o : Answer A) → b ≡ true → v ≡ o → v ≡ (demand b r then o)
pass v b r o e h = h ∙ sym (ap (λ (c : Check). c then o) (demand_yes b r e))

-- ---- the header: m, z and d are what code found for the mark, the zero field and d
module _ (bytes : List ℕ) where
  pub header_short : length bytes < 8 → Err (File (length bytes)) ≡ read_header bytes
  unfolding read_header
  header_short h = stop _ _ _ (lt-leb 8 (length bytes) h)

  module _ (there : 8 ≤ length bytes) (m : ℕ) (em : m ≡ u32_at bytes 0) where
    pub mark_wrong : (m ≡ 0x3143_5454 → ⊥) → Err (File 0) ≡ read_header bytes
    unfolding read_header number_at
    mark_wrong h = pass _ _ _ _ (leb_yes 8 (length bytes) there) (stop _ _ _ (eqb_no (u32_at bytes 0) (u32_at mark 0) (λ e. h (em ∙ e))))

    module _ (right : m ≡ 0x3143_5454) (z : ℕ) (ez : z ≡ u16_at bytes 6) where
      pub zero_wrong : (z ≡ 0 → ⊥) → Err (File 6) ≡ read_header bytes
      unfolding read_header number_at
      zero_wrong h =
          pass _ _ _ _ (leb_yes 8 (length bytes) there)
          (pass _ _ _ _ (eqb_yes (u32_at bytes 0) (u32_at mark 0) (sym em ∙ right))
          (stop _ _ _ (eqb_no (u16_at bytes 6) 0 (λ e. h (ez ∙ e)))))

      module _ (clear : z ≡ 0) (d : ℕ) (ed : d ≡ u16_at bytes 4) (b : Bool) (eb : b ≡ within most_axes d) where
        within_told : b ≡ within most_axes (u16_at bytes 4)
        within_told = eb ∙ ap (within most_axes) ed

        pub axes_wrong : not b ≡ true → Err Axes ≡ read_header bytes
        unfolding read_header number_at
        axes_wrong h =
            pass _ _ _ _ (leb_yes 8 (length bytes) there)
            (pass _ _ _ _ (eqb_yes (u32_at bytes 0) (u32_at mark 0) (sym em ∙ right))
            (pass _ _ _ _ (eqb_yes (u16_at bytes 6) 0 (sym ez ∙ clear))
            (stop _ _ _ (sym within_told ∙ not_yes b h))))

        pub header_right : not b ≡ false → Ok d ≡ read_header bytes
        unfolding read_header number_at
        header_right h =
            pass _ _ _ _ (leb_yes 8 (length bytes) there)
            (pass _ _ _ _ (eqb_yes (u32_at bytes 0) (u32_at mark 0) (sym em ∙ right))
            (pass _ _ _ _ (eqb_yes (u16_at bytes 6) 0 (sym ez ∙ clear))
            (pass _ _ _ _ (sym within_told ∙ not_no b h) (ap Ok ed))))

-- ---- an entry: b, z and o are what code found for its sizes, its zero field and its offset
module _ (bytes : List ℕ) (s : Shape) (k : ℕ) (b : Bool) (eb : b ≡ size_ok s k) where
  pub size_wrong : not b ≡ true → Err (Size k) ≡ entry_ok bytes s k
  unfolding entry_ok
  size_wrong h = stop _ _ _ (sym eb ∙ not_yes b h)

  module _ (fine : not b ≡ false) (z : ℕ) (ez : z ≡ u16_at bytes (entry_start k + 6)) where
    pub void_wrong : (z ≡ 0 → ⊥) → Err (File (entry_start k + 6)) ≡ entry_ok bytes s k
    unfolding entry_ok
    void_wrong h = pass _ _ _ _ (sym eb ∙ not_no b fine) (stop _ _ _ (eqb_no _ 0 (λ e. h (ez ∙ e))))

    module _ (void : z ≡ 0) (o start : ℕ) (eo : o ≡ u32_at bytes (entry_start k + 8)) (es : start ≡ body_start s k) where
      pub offset_wrong : (o ≡ start → ⊥) → Err (File (entry_start k + 8)) ≡ entry_ok bytes s k
      unfolding entry_ok
      offset_wrong h = pass _ _ _ _ (sym eb ∙ not_no b fine) (pass _ _ _ _ (eqb_yes _ 0 (sym ez ∙ void)) (sym ((demand_no _ _ (eqb_no _ (body_start s k) (λ e. h (eo ∙ e ∙ sym es)))))))

      pub entry_right : o ≡ start → Ok tt ≡ entry_ok bytes s k
      unfolding entry_ok
      entry_right h = pass _ _ _ _ (sym eb ∙ not_no b fine) (pass _ _ _ _ (eqb_yes _ 0 (sym ez ∙ void)) (sym ((demand_yes _ _ (eqb_yes _ (body_start s k) (sym eo ∙ h ∙ es))))))

-- ---- how large a core is whose sizes passed
module _ (s : Shape) (k : ℕ) (ok : size_ok s k ≡ true) where
  parts : (within most_rank (left_of s k) ≡ true) × (within most_points (points_of s k) && within most_rank (right_of s k) ≡ true)
  unfolding size_ok
  parts = both (within most_rank (left_of s k)) (within most_points (points_of s k) && within most_rank (right_of s k)) ok

  rows : left_of s k * points_of s k ≤ most_rank * most_points
  rows = mul-le-mul (within_is most_rank (left_of s k) parts.0).1 (within_is most_points (points_of s k) (both _ (within most_rank (right_of s k)) parts.1).0).1

  whole : left_of s k * points_of s k * right_of s k ≤ most_core
  whole = mul-le-mul rows (within_is most_rank (right_of s k) (both (within most_points (points_of s k)) _ parts.1).1).1

  pub rows_small : Fits' w64 (left_of s k * points_of s k)
  rows_small = record { fits = omega (arith, rows) }

  pub core_small : Fits' w64 (left_of s k * points_of s k * right_of s k)
  core_small = record { fits = omega (arith, whole) }

  pub body_small : Fits' w64 (8 * (left_of s k * points_of s k * right_of s k))
  body_small = record { fits = omega (arith, whole) }

  pub body_counts : (8 * (left_of s k * points_of s k * right_of s k) ≡ 8 * core_size s k) × (8 * (left_of s k * points_of s k * right_of s k) ≤ 8 * most_core)
  unfolding core_size
  body_counts = (refl, omega (arith, whole))

pub ruleset bodies = (rows_small, core_small, body_small, body_counts)

pub ruleset headed = (header_short, mark_wrong, zero_wrong, axes_wrong, header_right)

pub ruleset entered = (size_wrong, void_wrong, offset_wrong, entry_right)
