-- A text that grows, part after part. Assumes nothing.
use mathlib.Core.Path.{◌≡◌, refl, sym, ap, ◌∙◌, subst}
use Prim.Native.Nat.{ℕ, ◌+◌, ◌*◌, ◌≤◌, ◌<◌}
use native.Mathlib.Numerals.{add-one}
use native.Mathlib.Omega.{arith}
use mathlib.Core.List.{List, [], ◌∷◌, ◌++◌}
use lib.ListN.{length, take, drop, length-append}
use lib.Seq.{take_at}
use lib.Ieee.{Float}
use borrow.Author.Tests.{lt-ltb, le-ltb}
use Rattle.answers.specs.declared.Refusal.{Refusal}
use Rattle.std.specs.Prelude.{Ok, Err}
use Rattle.answers.specs.Outcome.{Answer}
use Rattle.answers.specs.Table.{number_of, place_of}
use Rattle.lists.specs.Lists.{pick, joined}
use Rattle.lists.specs.Floats.{zeros}
use Rattle.lists.proofs.Tables.{joined_none, joined_more}
use Rattle.shape.specs.declared.Shape.{Shape}
use Rattle.shape.specs.Limits.{most_axes}
use Rattle.shape.specs.Shapes.{left_of, points_of, right_of, core_size, entries_of}
use Rattle.shape.specs.Sizes.{SizesWithin}
use Rattle.words.specs.Placed.{placed}
use Rattle.words.proofs.Placing.{placed_more, placed_none}
use Rattle.fileform.specs.File.{body_start}
use Rattle.fileform.specs.Reading.{read_call}
use Rattle.fileform.proofs.Shapes.{met}
use Rattle.fileform.proofs.Readers.{read_fits}
use Rattle.chainfile.proofs.Bodies.{bodies_none, bodies_more}
use Rattle.fileform.specs.Text.{digits_of, field, space, newline, headline, axis_line, chain_text, refused_text, most_bytes, room_for, too_large, read_text, listing_of}
use Rattle.listing.specs.Ends.{Put}

-- one part after another
pub then_put : {a b at e f : ℕ} {x y l m n : List ℕ} → at ≤ length l → Put a at x l m e → Put b e y m n f → Put (a + b) at (x ++ y) l n f
then_put {a} {b} {at} {e} {f} {x} {y} {l} {m} {n} inside p q =
    let s = length-append x y in
    record {
      ends = omega (arith, p.ends, q.ends);
      few = omega (arith, p.few, q.few);
      room = q.room;
      there = q.there ∙ ap (placed e y) p.there ∙ placed_more at x l e y inside p.ends;
    }

pub put_wide : {a b at e : ℕ} {x l m : List ℕ} → a ≤ b → Put a at x l m e → Put b at x l m e
put_wide h p = record { ends = p.ends; few = omega (arith, p.few); room = p.room; there = p.there }

pub put_same : {a at e : ℕ} {x y l m : List ℕ} → x ≡ y → Put a at x l m e → Put a at y l m e
put_same {a} {at} {e} {x} {y} {l} {m} g p = rw g at p

-- ---- the parts of the text
pub field_put : (n after : ℕ) {at e f : ℕ} {l m k : List ℕ} → at ≤ length l → Put 20 at (digits_of n) l m e → Put 1 e (after ∷ []) m k f → Put 21 at (field n after) l k f
unfolding field
field_put n after h p q = then_put h p q

module _ (s : Shape) (at : ℕ) (l : List ℕ) (h : at ≤ length l) where
  pub axis_put : (k start : ℕ) {a b c d e : ℕ} {la lb lc ld le : List ℕ} → start ≡ body_start s k
      → Put 21 at (field k space) l la a → Put 21 a (field (left_of s k) space) la lb b → Put 21 b (field (points_of s k) space) lb lc c → Put 21 c (field (right_of s k) space) lc ld d → Put 21 d (field start newline) ld le e
      → Put 105 at (axis_line s k) l le e
  unfolding axis_line
  axis_put k start {a} {b} {c} {d} {e} {la} {lb} {lc} {ld} {le} g pa pb pc pd pe =
      let body : Put 21 d (field (body_start s k) newline) ld le e = put_same (ap (λ (n : ℕ). field n newline) g) pe in
      then_put h pa (then_put pa.room pb (then_put pb.room pc (then_put pc.room pd body)))

pub headline_put : (s : Shape) (n : ℕ) {a b c e : ℕ} {l la lb lc le : List ℕ} → n ≡ entries_of s
    → Put 5 0 (97 ∷ 120 ∷ 101 ∷ 115 ∷ 32 ∷ []) l la a → Put 20 a (digits_of s.d) la lb b → Put 9 b (32 ∷ 101 ∷ 110 ∷ 116 ∷ 114 ∷ 105 ∷ 101 ∷ 115 ∷ 32 ∷ []) lb lc c → Put 21 c (field n newline) lc le e
    → Put 55 0 (headline s) l le e
unfolding headline
headline_put s n {a} {b} {c} {e} {l} {la} {lb} {lc} {le} g pa pb pc pe =
    let last : Put 21 c (field (entries_of s) newline) lc le e = put_same (ap (λ (i : ℕ). field i newline) g) pe in
    then_put (omega arith) pa (then_put pa.room pb (then_put pb.room pc last))

pub refusal_put : (r : Refusal) (n p : ℕ) {a b c e : ℕ} {l la lb lc le : List ℕ} → n ≡ number_of r → p ≡ place_of r
    → Put 8 0 (114 ∷ 101 ∷ 102 ∷ 117 ∷ 115 ∷ 101 ∷ 100 ∷ 32 ∷ []) l la a → Put 20 a (digits_of n) la lb b → Put 4 b (32 ∷ 97 ∷ 116 ∷ 32 ∷ []) lb lc c → Put 21 c (field p newline) lc le e
    → Put 53 0 (refused_text r) l le e
unfolding refused_text
refusal_put r n p {a} {b} {c} {e} {l} {la} {lb} {lc} {le} g h pa pb pc pe =
    let number : Put 20 a (digits_of (number_of r)) la lb b = put_same (ap digits_of g) pb in
    let last : Put 21 c (field (place_of r) newline) lc le e = put_same (ap (λ (i : ℕ). field i newline) h) pe in
    then_put (omega arith) pa (then_put pa.room number (then_put pb.room pc last))

pub chain_put : (s : Shape) {a e : ℕ} {l m n : List ℕ} → Put 55 0 (headline s) l m a → Put 1680 a (joined s.d (axis_line s)) m n e → Put 1735 0 (chain_text s) l n e
unfolding chain_text
chain_put s p q = then_put (omega arith) p q

-- ---- the lines of all axes: k of them are put
module _ (s : Shape) (at : ℕ) (l : List ℕ) where
  pub record AtAxis (text : List ℕ) (start end k : ℕ) : Type 0 where
    pub most : k ≤ s.d
    pub here : start ≡ body_start s k
    pub long : length text ≡ length l
    pub lines : Put (105 * k) at (joined k (axis_line s)) l text end

  pub axes_none : at ≤ length l → AtAxis l (8 + 12 * s.d) at 0
  axes_none h =
      let n : length (joined 0 (axis_line s)) ≡ 0 = ap length (joined_none (axis_line s)) in
      record {
        most = omega arith;
        here = bodies_none [] s;
        long = refl;
        lines = record { ends = omega arith; few = omega arith; room = h; there = rw (joined_none (axis_line s)) (placed_none at l) };
      }

  module _ (text : List ℕ) (start end k : ℕ) (A : AtAxis text start end k) where
    pub axes_ask : at + 1680 ≤ length l → k < s.d → s.d ≤ most_axes → end + 105 ≤ length text
    axes_ask h lt few = omega (arith, A.lines.few, A.long)

    pub axes_more : at ≤ length l → k < s.d → {x end' : ℕ} {text' : List ℕ} → x ≡ core_size s k → length text' ≡ length text → Put 105 end (axis_line s k) text text' end' → AtAxis text' (start + 8 * x) end' (k + 1)
    axes_more h lt {x} {end'} {text'} g long p =
        let both = then_put h A.lines p in
        let j : joined k (axis_line s) ++ axis_line s k ≡ joined (k + 1) (axis_line s) = sym (ap (λ (i : ℕ). joined i (axis_line s)) (add-one k) ∙ joined_more k (axis_line s)) in
        record {
          most = omega arith;
          here = bodies_more [] s start k x A.here g;
          long = long ∙ A.long;
          lines = put_wide (omega arith) (put_same j both);
        }

    pub axes_done : s.d ≤ k → s.d ≤ most_axes → Put 1680 at (joined s.d (axis_line s)) l text end
    axes_done h few =
        let z : k ≡ s.d = omega (arith, A.most) in
        put_wide (omega arith) (put_same (ap (λ (i : ℕ). joined i (axis_line s)) z) A.lines)

-- ---- what a reading answered
pub read_sized : (bytes : List ℕ) (out : List Float) (x : Answer Shape) → x ≡ (read_call bytes out).result → (s : Shape) → x ≡ Ok s → SizesWithin s
read_sized bytes out x e s h = let f = read_fits bytes out s (sym e ∙ h) in subst SizesWithin f.2 (met f.0.shape f.1.sound.meets).sizes

-- ---- the listing
module _ (bytes l m : List ℕ) (e : ℕ) where
  whole : {a : ℕ} {y : List ℕ} → listing_of bytes ≡ y → Put a 0 y l m e → (e ≡ length (listing_of bytes)) × (m ≡ placed 0 (listing_of bytes) l)
  whole t p = (omega (arith, p.ends, ap length t), p.there ∙ ap (λ (u : List ℕ). placed 0 u l) (sym t))

  pub large_listed : most_bytes < length bytes → Put 10 0 too_large l m e → (e ≡ length (listing_of bytes)) × (m ≡ placed 0 (listing_of bytes) l)
  unfolding listing_of pick
  large_listed h p = whole (rw (lt-ltb most_bytes (length bytes) h)) p

  module _ (h : length bytes ≤ most_bytes) (x : Answer Shape) (g : x ≡ (read_call bytes (zeros room_for)).result) where
    found : (z : Answer Shape) → x ≡ z → listing_of bytes ≡ read_text z
    unfolding listing_of pick
    found z q = rw (le-ltb most_bytes (length bytes) h) (ap read_text (sym g ∙ q))

    pub refused_listed : (r : Refusal) → x ≡ Err r → Put 53 0 (refused_text r) l m e → (e ≡ length (listing_of bytes)) × (m ≡ placed 0 (listing_of bytes) l)
    unfolding read_text
    refused_listed r q p = whole (found (Err r) q) p

    pub chain_listed : (s : Shape) → x ≡ Ok s → Put 1735 0 (chain_text s) l m e → (e ≡ length (listing_of bytes)) × (m ≡ placed 0 (listing_of bytes) l)
    unfolding read_text
    chain_listed s q p = whole (found (Ok s) q) p

-- a text at the front can be lent by its length
pub text_counts : (x l m : List ℕ) (r : ℕ) → (r ≡ length x) × (m ≡ placed 0 x l) → (r ≤ length m) × (r ≡ length (take r m))
unfolding placed
text_counts x l m r h =
    let rest = drop (0 + length x) l in
    let n = ap length h.1 ∙ length-append x rest in
    (omega (arith, h.0), h.0 ∙ ap length (sym (take_at x rest r (sym h.0))) ∙ ap (λ (y : List ℕ). length (take r y)) (sym h.1))

-- and what is lent is that text
pub text_front : (x l m : List ℕ) (r : ℕ) → (r ≡ length x) × (m ≡ placed 0 x l) → take r m ≡ x
unfolding placed
text_front x l m r h = ap (take r) h.1 ∙ take_at x (drop (0 + length x) l) r (sym h.0)
