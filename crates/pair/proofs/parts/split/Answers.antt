-- `pair::parts::split`: columns that do not stay finite stop it (split_stop); otherwise the fronts of the lists hold basis and values, and are cut (cut_same, split_end).
use borrow.Author.Rules.{rules}
use mathlib.Core.Path.{◌≡◌, ◌∙◌, ap}
use native.Mathlib.Omega.{arith}
use native.Mathlib.Nat.{mul-le-mul}
use Rattle.std.proofs.lemmas.Result.{err_from_is_err_and}
use Rattle.answers.specs.declared.Part.TheVariants.{Spectrum}
use Rattle.answers.specs.Outcome.{making, outcome_of}
use Rattle.lists.specs.Floats.{all_finite}
use Rattle.lists.proofs.Parts.{span_length}
use Rattle.pair.proofs.Kept.{lent_end, lent_again}
use Rattle.pair.proofs.Formed.{split_stop, split_fine, split_end, cut_same}
use Rattle.pair.proofs.parts.split.Goals as goal

pub overflow_mul-e : goal.overflow_mul-e
overflow_mul-e c = record { fits = omega (arith, mul-le-mul c.requires.0.columns c.requires.0.columns) }

pub slice_bounds-v-end : goal.slice_bounds-v-end
slice_bounds-v-end c = mul-le-mul c.requires.0.columns c.requires.0.columns

pub slice_bounds-b-end : goal.slice_bounds-b-end
slice_bounds-b-end c = mul-le-mul c.requires.0.columns c.requires.0.rows

pub valued-made-requires : goal.valued-made-requires
valued-made-requires c = (
  c.requires.1,
  c.requires.2,
  span_length _ _ (mul-le-mul c.requires.0.columns c.requires.0.columns),
  span_length _ _ c.requires.0.columns,
  span_length _ _ (mul-le-mul c.requires.0.columns c.requires.0.rows),
)

pub returns-in_err-count : goal.returns-in_err-count
unfolding outcome_of
returns-in_err-count c =
    let made : c.map_err.result ≡ making Spectrum 0 c.valued-made.result = search rules in
    let p = err_from_is_err_and c.from_residual.result c.from_residual.ensures.1 in
    rw (p.1, p.2) (split_stop _ _ _ _ _ _ c.valued-made.ensures _ made _ c.in_err-count.was)

pub slice_bounds-cut-end : goal.slice_bounds-cut-end
slice_bounds-cut-end c = lent_end _ c.valued-made.new.v _ _ c.v-2-1.given (mul-le-mul c.requires.0.columns c.requires.0.columns)

pub slice_bounds-cut-end-2 : goal.slice_bounds-cut-end-2
slice_bounds-cut-end-2 c = lent_end _ c.valued-made.new.sv _ _ c.sv-2-1.given c.requires.0.columns

pub cut-requires : goal.cut-requires
cut-requires c =
    let made : c.map_err.result ≡ making Spectrum 0 c.valued-made.result = search rules in
    let values = lent_again _ c.valued-made.new.sv _ _ c.sv-2-1.given c.requires.0.columns in (
      c.requires.0,
      c.a-1.given ∙ c.requires.1,
      span_length _ _ (lent_end _ c.valued-made.new.v _ _ c.v-2-1.given (mul-le-mul c.requires.0.columns c.requires.0.columns)),
      span_length _ _ (lent_end _ c.valued-made.new.sv _ _ c.sv-2-1.given c.requires.0.columns),
      ap all_finite values ∙ split_fine c.args.eps _ _ _ _ _ c.valued-made.ensures _ made _ c.in_ok-count.was,
      c.requires.3,
      c.requires.4,
    )

pub returns : goal.returns
returns c =
    let made : c.map_err.result ≡ making Spectrum 0 c.valued-made.result = search rules in
    let basis = lent_again _ c.valued-made.new.v _ _ c.v-2-1.given (mul-le-mul c.requires.0.columns c.requires.0.columns) in
    let values = lent_again _ c.valued-made.new.sv _ _ c.sv-2-1.given c.requires.0.columns in
    let cut = cut_same _ _ _ _ _ _ _ _ _ _ basis values c.cut.ensures in
    split_end _ _ _ _ _ _ c.valued-made.ensures _ made _ c.in_ok-count.was _ cut
