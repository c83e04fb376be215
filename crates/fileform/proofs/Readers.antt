-- What reading accepts: it answers a chain exactly where the bytes hold one. Assumes nothing.
use mathlib.Core.Path.{◌≡◌, refl, sym, ap, ◌∙◌, subst}
use Prim.Native.Nat.{ℕ, ◌+◌, ◌*◌, ◌≤◌, ◌<◌, zero-le}
use native.Mathlib.Nat.{zero-add}
use native.Mathlib.Omega.{arith}
use mathlib.Core.Bool.{true}
use mathlib.Core.List.{List}
use lib.Dec.{T, leb}
use lib.ListN.{length, get_or}
use lib.Ieee.{Float, nan, binary64, fits}
use lib.Ieee.Bits.{of_bits-fits}
use lib.Seq.{ext_get_or}
use Rattle.answers.specs.declared.Refusal.TheVariants.{File}
use Rattle.std.specs.Prelude.{Ok, Err}
use Rattle.answers.specs.Outcome.{bind, Answer, ◌then◌, demand}
use Rattle.answers.proofs.Outcomes.{ok_inj, ok_err, bind_ok}
use Rattle.answers.proofs.Checks.{demand_yes, demand_is, then_is, then_skip}
use Rattle.numbers.specs.Arithmetic.{zero64}
use Rattle.lists.specs.Lists.{tab}
use Rattle.lists.specs.Slots.{fit}
use Rattle.lists.specs.Floats.{at}
use Rattle.lists.proofs.Tests.{eqb_yes, eqb_is, leb_yes, leb_is}
use Rattle.lists.proofs.Tables.{listed_same, length_tab, get_or_tab_lem}
use Rattle.shape.specs.declared.Shape.{Shape}
use Rattle.shape.specs.Limits.{most_axes, within}
use Rattle.shape.specs.Shapes.{left_of, points_of, right_of, size_ok, entries_of}
use Rattle.words.specs.Bytes.{number_at, u16_at, u32_at, f64_at, numbers_from}
use Rattle.fileform.specs.File.{entry_start, body_start, file_length, mark}
use Rattle.fileform.specs.Calls.{Exit, numbers_ok}
use Rattle.fileform.specs.Reading.{read_header, shape_with, trimmed, shape_in, entry_ok, table_ok, read_table, read_contents, lengths_ok, numbers_in, read_numbers, Chain, reading, read_exit, read_call}
use Rattle.fileform.proofs.Slots.{fit_at}
use Rattle.fileform.proofs.Turning.{turning_yes, turning_is}
use Rattle.fileform.proofs.Shapes.{Meets, Alike, meets_ok, ok_meets, alike_size, alike_meets, alike_entries, met}
use Rattle.words.proofs.Bytes.{AreDoubles}
use Rattle.fileform.proofs.Writers.{Sound}
use Rattle.fileform.proofs.Fields.{Holds, alike_body, alike_length, alike_numbers}

-- ---- the header
pub record Header (bytes : List ℕ) (d : ℕ) : Type 0 where
  pub there : 8 ≤ length bytes
  pub marked : u32_at bytes 0 ≡ u32_at mark 0
  pub clear : u16_at bytes 6 ≡ 0
  pub few : within most_axes d ≡ true
  pub axes : u16_at bytes 4 ≡ d

pub header_is : (bytes : List ℕ) (d : ℕ) → read_header bytes ≡ Ok d → Header bytes d
unfolding read_header
header_is bytes d h =
    let a = then_is _ _ d h in
    let b = then_is _ _ d a.1 in
    let c = then_is _ _ d b.1 in
    let e = then_is _ _ d c.1 in
    let axes = ok_inj e.1 in
    record {
      there = leb_is _ _ (demand_is _ _ a.0);
      marked = eqb_is _ _ (demand_is _ _ b.0);
      clear = eqb_is _ _ (demand_is _ _ c.0);
      few = ap (within most_axes) (sym axes) ∙ demand_is _ _ e.0;
      axes = axes;
    }

header_yes : (bytes : List ℕ) (d : ℕ) → Header bytes d → read_header bytes ≡ Ok d
unfolding read_header
header_yes bytes d h =
    then_skip _ _ _ (demand_yes _ _ (leb_yes _ _ h.there))
    (then_skip _ _ _ (demand_yes _ _ (eqb_yes _ _ h.marked))
    (then_skip _ _ _ (demand_yes _ _ (eqb_yes _ _ h.clear))
    (then_skip _ _ _ (demand_yes _ _ (ap (within most_axes) h.axes ∙ h.few)) (ap Ok h.axes))))

-- ---- the shape
module _ (d : ℕ) (few : d ≤ most_axes) (k : ℕ) (lt : k < d) where
  place_at : (f : ℕ → ℕ) → get_or (fit 0 most_axes (tab d f)) k 0 ≡ f k
  place_at f = fit_at 0 most_axes (tab d f) k 0 (rw length_tab lt) (omega arith) ∙ get_or_tab_lem d f k 0 lt

trimmed_alike : (s : Shape) → s.d ≤ most_axes → Alike s (trimmed s)
unfolding trimmed shape_with
trimmed_alike s few =
    record {
      axes = refl;
      left = λ k lt. sym (place_at s.d few k lt (left_of s));
      points = λ k lt. sym (place_at s.d few k lt (points_of s));
      right = λ k lt. sym (place_at s.d few k lt (right_of s));
    }

places_same : (d : ℕ) (f g : ℕ → ℕ) → ((k : ℕ) → k < d → f k ≡ g k) → fit 0 most_axes (tab d f) ≡ fit 0 most_axes (tab d g)
places_same d f g h = ap (fit 0 most_axes) (listed_same d 0 f g (λ k _ lt. h k (omega arith)))

shape_in_lem : (bytes : List ℕ) (s : Shape) (chain : List Float) → Holds bytes s chain → shape_in bytes s.d ≡ trimmed s
unfolding shape_in trimmed shape_with
shape_in_lem bytes s chain h =
    let left = places_same s.d (λ (k : ℕ). u16_at bytes (entry_start k)) (left_of s) h.left in
    let points = places_same s.d (λ (k : ℕ). u16_at bytes (entry_start k + 2)) (points_of s) h.points in
    let right = places_same s.d (λ (k : ℕ). u16_at bytes (entry_start k + 4)) (right_of s) h.right in
    λ i. record { d = s.d; left = left i; n = points i; right = right i }

-- ---- an entry
pub record Entry (bytes : List ℕ) (s : Shape) (k : ℕ) : Type 0 where
  pub sizes : size_ok s k ≡ true
  pub void : u16_at bytes (entry_start k + 6) ≡ 0
  pub body : u32_at bytes (entry_start k + 8) ≡ body_start s k

pub entry_is : (bytes : List ℕ) (s : Shape) (k : ℕ) → entry_ok bytes s k ≡ Ok tt → Entry bytes s k
unfolding entry_ok
entry_is bytes s k h =
    let a = then_is _ _ tt h in
    let b = then_is _ _ tt a.1 in
    record {
      sizes = demand_is _ _ a.0;
      void = eqb_is _ _ (demand_is _ _ b.0);
      body = eqb_is _ _ (demand_is _ _ b.1);
    }

entry_yes : (bytes : List ℕ) (s : Shape) (k : ℕ) → Entry bytes s k → entry_ok bytes s k ≡ Ok tt
unfolding entry_ok
entry_yes bytes s k h =
    then_skip _ _ _ (demand_yes _ _ h.sizes)
    (then_skip _ _ _ (demand_yes _ _ (eqb_yes _ _ h.void)) (demand_yes _ _ (eqb_yes _ _ h.body)))

-- ---- the table
pub record Table (bytes : List ℕ) (s : Shape) : Type 0 where
  pub there : entry_start s.d ≤ length bytes
  pub entries : (k : ℕ) → k < s.d → Entry bytes s k
  pub meets : Meets s

module _ (bytes : List ℕ) where
  -- what `read_table` makes of the shape that it finds
  abbrev table_of : ℕ → Shape → Answer Shape
  table_of d s = demand (leb (entry_start d) (length bytes)) (File (length bytes)) then table_ok bytes s then Ok s

  table_is : (d : ℕ) (s : Shape) → read_table bytes d ≡ Ok s → (shape_in bytes d ≡ s) × Table bytes (shape_in bytes d)
  unfolding read_table table_ok shape_in shape_with
  table_is d s h =
      let sh = shape_in bytes d in
      let a = then_is _ _ s h in
      let b = then_is (table_ok bytes sh) (Ok sh) s a.1 in
      let c = then_is _ _ tt b.0 in (
        ok_inj b.1,
        record {
          there = leb_is _ _ (demand_is _ _ a.0);
          entries = λ k lt. entry_is bytes sh k (turning_is (entry_ok bytes sh) d 0 c.0 k zero-le (rw zero-add lt));
          meets = ok_meets sh c.1;
        },
      )

  table_yes : (s : Shape) → shape_in bytes s.d ≡ s → Table bytes s → read_table bytes s.d ≡ Ok s
  unfolding read_table table_ok
  table_yes s e h =
      ap (table_of s.d) e
      ∙ then_skip _ _ _ (demand_yes _ _ (leb_yes _ _ h.there))
      (then_skip (table_ok bytes s) _ _
      (then_skip _ _ _ (turning_yes (entry_ok bytes s) s.d 0 (λ k _ lt. entry_yes bytes s k (h.entries k (omega arith)))) (meets_ok s h.meets))
      refl)

-- ---- header and table
contents_yes : (bytes : List ℕ) (s : Shape) (chain : List Float) → Meets s → Holds bytes s chain → read_contents bytes ≡ Ok (trimmed s)
unfolding read_contents trimmed shape_with file_length
contents_yes bytes s chain m h =
    let long : length bytes ≡ 8 + 12 * s.d + 8 * entries_of s = h.long in
    let t = trimmed s in
    let a = trimmed_alike s (met s m).most in
    let header : Header bytes s.d = record { there = omega arith; marked = h.marked; clear = h.clear; few = m.axes; axes = h.axes } in
    let table : Table bytes t
    = record {
      there = omega arith;
      entries = λ k lt. record { sizes = sym (alike_size s t a k lt) ∙ m.sizes k lt; void = h.void k lt; body = h.body k lt ∙ alike_body s t a k lt };
      meets = alike_meets s t a m;
    } in
    ap (λ (o : Answer ℕ). bind o (read_table bytes)) (header_yes bytes s.d header) ∙ table_yes bytes t (shape_in_lem bytes s chain h) table

pub record Contents (bytes : List ℕ) (s : Shape) : Type 0 where
  pub header : Header bytes s.d
  pub table : Table bytes s
  pub found : shape_in bytes s.d ≡ s

pub contents_is : (bytes : List ℕ) (s : Shape) → read_contents bytes ≡ Ok s → Contents bytes s
unfolding read_contents shape_in shape_with
contents_is bytes s h =
    let a = bind_ok (read_header bytes) (read_table bytes) s h in
    let d = a.0 in
    let b = table_is bytes d s a.2 in
    subst (Contents bytes) b.0 (record { header = header_is bytes d a.1; table = b.1; found = refl })

-- ---- the numbers
module _ (bytes : List ℕ) (s : Shape) where
  -- number i, as it stands behind the table
  abbrev found : ℕ → Float
  found i = f64_at bytes (entry_start s.d + 8 * i)

  numbers_yes : (chain : List Float) → Sound s chain → Holds bytes s chain → read_numbers bytes (trimmed s) ≡ Ok chain
  unfolding read_numbers numbers_in numbers_from trimmed shape_with
  numbers_yes chain ok h =
      let N = entries_of s in
      let t = trimmed s in
      let a = trimmed_alike s (met s ok.meets).most in
      let e : tab (entries_of t) found ≡ chain
      = ap (λ (m : ℕ). tab m found) (sym (alike_entries s t a))
      ∙ ext_get_or nan (tab N found) chain (length_tab N found ∙ sym ok.whole) (λ i lt. let here : i < N = rw length_tab at lt in get_or_tab_lem N found i nan here ∙ h.numbers i here) in
      ap (λ (l : List Float). numbers_ok t l then Ok l) e ∙ then_skip _ _ _ (sym (alike_numbers s t a chain) ∙ ok.finites) refl

  numbers_is : (chain : List Float) → read_numbers bytes s ≡ Ok chain → (tab (entries_of s) found ≡ chain) × (numbers_ok s chain ≡ Ok tt)
  unfolding read_numbers numbers_in numbers_from
  numbers_is chain h =
      let a = then_is _ _ chain h in
      let e = ok_inj a.1 in
      (e, ap (numbers_ok s) (sym e) ∙ a.0)

-- ---- all of it
module _ (bytes : List ℕ) (out : List Float) where
  abbrev rest : Shape → Answer Chain
  rest s = lengths_ok s (length bytes) (length out) then bind (read_numbers bytes s) (λ chain. Ok (record { shape = s; numbers = chain }))

  lengths_yes : (s : Shape) → length bytes ≡ file_length s → entries_of s ≤ length out → lengths_ok s (length bytes) (length out) ≡ Ok tt
  unfolding lengths_ok
  lengths_yes s long fit = then_skip _ _ _ (demand_yes _ _ (eqb_yes _ _ long)) (demand_yes _ _ (leb_yes _ _ fit))

  pub reading_yes : (s : Shape) (chain : List Float) → Sound s chain → Holds bytes s chain → entries_of s ≤ length out
      → reading bytes out ≡ Ok (record { shape = trimmed s; numbers = chain })
  unfolding reading
  reading_yes s chain ok h room =
      let t = trimmed s in
      let a = trimmed_alike s (met s ok.meets).most in
      ap (λ (o : Answer Shape). bind o rest) (contents_yes bytes s chain ok.meets h)
      ∙ then_skip _ _ _ (lengths_yes t (h.long ∙ alike_length s t a) (omega (arith, alike_entries s t a)))
      (ap (λ (o : Answer (List Float)). bind o (λ l. Ok (record { shape = t; numbers = l }))) (numbers_yes bytes s chain ok h))

  pub record Accepted (c : Chain) : Type 0 where
    pub sound : Sound c.shape c.numbers
    pub holds : Holds bytes c.shape c.numbers
    pub doubles : AreDoubles c.numbers
    pub kept : trimmed c.shape ≡ c.shape
    pub room : entries_of c.shape ≤ length out

  module _ (s : Shape) (chain : List Float) (contents : Contents bytes s) (long : length bytes ≡ file_length s) (same : tab (entries_of s) (found bytes s) ≡ chain) where
    few : s.d ≤ most_axes
    few = (met s contents.table.meets).most

    whole : length chain ≡ entries_of s
    whole = ap length (sym same) ∙ length_tab (entries_of s) (found bytes s)

    number : (i : ℕ) → i < entries_of s → found bytes s i ≡ at chain i
    number i lt = sym (get_or_tab_lem (entries_of s) (found bytes s) i nan lt) ∙ ap (λ (l : List Float). at l i) same

    -- a size in the table is the shape's
    size_is : (f : Shape → ℕ → ℕ) (g : ℕ → ℕ) → ((k : ℕ) → k < s.d → f (shape_in bytes s.d) k ≡ g k) → (k : ℕ) → k < s.d → g k ≡ f s k
    size_is f g h k lt = sym (h k lt) ∙ ap (λ (x : Shape). f x k) contents.found

    holds : Holds bytes s chain
    unfolding shape_in shape_with
    holds =
        let header = contents.header in
        let entries = contents.table.entries in
        record {
          long = long;
          marked = header.marked;
          axes = header.axes;
          clear = header.clear;
          left = size_is left_of (λ (k : ℕ). u16_at bytes (entry_start k)) (λ k lt. place_at s.d few k lt _);
          points = size_is points_of (λ (k : ℕ). u16_at bytes (entry_start k + 2)) (λ k lt. place_at s.d few k lt _);
          right = size_is right_of (λ (k : ℕ). u16_at bytes (entry_start k + 4)) (λ k lt. place_at s.d few k lt _);
          void = λ k lt. (entries k lt).void;
          body = λ k lt. (entries k lt).body;
          numbers = number;
        }

    accepted : numbers_ok s chain ≡ Ok tt → entries_of s ≤ length out → Accepted (record { shape = s; numbers = chain })
    accepted finites fit =
        record {
          sound = record { meets = contents.table.meets; whole = whole; finites = finites };
          holds = holds;
          doubles = λ i lt. subst (λ (x : Float). T (fits binary64 x)) (number i (omega (arith, whole))) (of_bits-fits binary64 (number_at 8 bytes (entry_start s.d + 8 * i)));
          kept = sym (shape_in_lem bytes s chain holds) ∙ contents.found;
          room = fit;
        }

  pub reading_is : (c : Chain) → reading bytes out ≡ Ok c → Accepted c
  unfolding reading lengths_ok
  reading_is c h =
      let a = bind_ok (read_contents bytes) rest c h in
      let s = a.0 in
      let b = then_is (lengths_ok s (length bytes) (length out)) _ c a.2 in
      let e = bind_ok (read_numbers bytes s) (λ l. Ok (record { shape = s; numbers = l })) c b.1 in
      let l = then_is _ _ tt b.0 in
      let n = numbers_is bytes s e.0 e.1 in
      subst Accepted (ok_inj e.2)
      (accepted s e.0 (contents_is bytes s a.1) (eqb_is _ _ (demand_is _ _ l.0)) n.0 n.1 (leb_is _ _ (demand_is _ _ l.1)))

-- ---- an accepted call, and what it leaves
-- what reading leaves where it answers c
abbrev pub read_as : List Float → Chain → Exit (Answer Shape) Float
read_as out c = record { result = Ok c.shape; out = fit zero64 (length out) c.numbers }

pub read_fits : (bytes : List ℕ) (out : List Float) (s : Shape) → (read_call bytes out).result ≡ Ok s → (c : Chain) × Accepted bytes out c × (c.shape ≡ s) × (read_call bytes out ≡ read_as out c)
unfolding read_call read_exit
read_fits bytes out s h = go (reading bytes out) refl h
  where
    go : (o : Answer Chain) → reading bytes out ≡ o → (read_exit out o).result ≡ Ok s → (c : Chain) × Accepted bytes out c × (c.shape ≡ s) × (read_exit out (reading bytes out) ≡ read_as out c)
    go (Ok c) e f = (c, reading_is bytes out c e, ok_inj f, ap (read_exit out) e)
    go (Err r) e f = absurd (ok_err (sym f))
