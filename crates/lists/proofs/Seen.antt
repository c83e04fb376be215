-- What a loop over numbers has seen, by what is left of it. Assumes nothing.
use mathlib.Core.Path.{◌≡◌, refl, sym, ◌∙◌}
use Prim.Native.Nat.{ℕ, suc, ◌+◌, ◌<◌, ◌≤◌}
use native.Mathlib.Numerals.{add-one}
use mathlib.Core.Bool.{Bool, true, false, ◌&&◌}
use mathlib.Core.List.{List}
use lib.ListN.{length, get_or, drop, drop_of_length-le}
use lib.Seq.{drop-cons}
use lib.Ieee.{Float, nan}
use Rattle.std.specs.Prelude.{Ok, Err}
use Rattle.answers.specs.Outcome.{stage_of}
use Rattle.numbers.specs.Finite.{finite}
use Rattle.lists.specs.Lists.{pick}
use Rattle.lists.specs.Floats.{all_finite, first_not_finite, stored}

-- ---- a flag kept to the end
and_assoc : (a b c : Bool) → a && (b && c) ≡ (a && b) && c
and_assoc true b c = refl
and_assoc false b c = refl

and_true : (a : Bool) → a && true ≡ a
and_true true = refl
and_true false = refl

module _ (s : List Float) where
  -- b tells whether the first i are finite
  abbrev pub Flag : ℕ → Bool → Type 0
  Flag i b = all_finite s ≡ b && all_finite (drop i s)

  pub flag_none : Flag 0 true
  flag_none = refl

  pub flag_more : (i : ℕ) (b x c : Bool) → Flag i b → i < length s → x ≡ finite (get_or s i nan) → c ≡ b && x → Flag (i + 1) c
  unfolding all_finite
  flag_more i b x c e l d f = e ∙ rw (add-one, f, d, drop-cons s i nan l) (and_assoc b (finite (get_or s i nan)) (all_finite (drop (suc i) s)))

  pub flag_done : (i : ℕ) (b : Bool) → Flag i b → length s ≤ i → b ≡ all_finite s
  unfolding all_finite
  flag_done i b e l = sym (e ∙ rw (drop_of_length-le s l) (and_true b))

pub ruleset flags = (flag_none, flag_more, flag_done)

-- ---- whether the numbers can stay stored
pub stage_whole : (s : List Float) (b : Bool) → b ≡ all_finite s → b ≡ true → Ok tt ≡ stage_of (stored s)
unfolding stored pick
stage_whole s b e h = let f : all_finite s ≡ true = sym e ∙ h in rw f

pub stage_spilt : (s : List Float) (b : Bool) (i : ℕ) → b ≡ all_finite s → b ≡ false → i ≡ first_not_finite s → Err i ≡ stage_of (stored s)
unfolding stored pick
stage_spilt s b i e h d = let f : all_finite s ≡ false = sym e ∙ h in rw (f, d)

pub ruleset stages = (stage_whole, stage_spilt)
