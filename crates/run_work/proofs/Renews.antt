-- A run made anew, by what the work in its memory left. Assumes nothing.
use mathlib.Core.Path.{◌≡◌, refl, sym, ap, ◌∙◌, subst}
use Prim.Native.Nat.{ℕ, ◌-◌, ◌≤◌, ◌<◌}
use native.Mathlib.Omega.{arith}
use mathlib.Core.Bool.{true}
use mathlib.Core.List.{List}
use lib.ListN.{length}
use lib.Ieee.{Float}
use Rattle.answers.specs.declared.Refusal.{Refusal}
use Rattle.std.specs.Prelude.{Ok, Err}
use Rattle.answers.specs.Outcome.{Answer, answered, outcome_of, Check}
use Rattle.lists.specs.Slots.{offset}
use Rattle.lists.specs.Floats.{at}
use Rattle.shape.specs.declared.Shape.{Shape}
use Rattle.shape.specs.Limits.{most_carries, most_sums}
use Rattle.shape.specs.Shapes.{core_size, entries_of}
use Rattle.shape.specs.Sizes.{SizesWithin}
use Rattle.shape.proofs.Shaped.{Shaped, shaped}
use Rattle.cuts.specs.declared.Walked.{Walked}
use Rattle.cutform.specs.Keeping.{carry_size}
use Rattle.cuts.specs.Slots.{held_by}
use Rattle.cutform.proofs.BondSlots.{carries_most}
use Rattle.sumform.specs.Sums.{sum_size}
use Rattle.product.proofs.Slotted.{sums_most}
use Rattle.stepform.specs.Zones.{rules}
use Rattle.runform.specs.declared.Run.{Run}
use Rattle.runform.specs.declared.Ran.{Ran}
use Rattle.runform.specs.Slices.{Outputs, Slices, outputs}
use Rattle.runform.specs.Kept.{Kept, kept_of, all_carries, all_sums}
use Rattle.runform.specs.Work.{work_from}
use Rattle.run_slices.specs.Passing.{Beside, over_from}
use Rattle.run_work.specs.InPlace.{in_place, held_in, Steps, Sums, Memory}
use Rattle.run_work.proofs.Over.{work_over}
use Rattle.run_work.specs.Renewed.{SourcesFrom, RenewAsks, Renewed, walked_of, run_with}

module _ (r : Run) (z : ℕ) (weights : List Float) (m : Outputs (List Float)) (scratch : List Float) (A : RenewAsks r z weights m scratch) where
  chain_long : length m.chain ≡ entries_of r.shape
  chain_long = ap (λ (l : Outputs ℕ). l.chain) A.long

  carries_long : length m.carries ≡ all_carries r.shape
  carries_long = ap (λ (l : Outputs ℕ). l.carries) A.long

  sums_long : length m.sums ≡ all_sums r.shape
  sums_long = ap (λ (l : Outputs ℕ). l.sums) A.long

  shp : Shaped r.shape
  shp = shaped r.shape (λ (k : ℕ). true) A.ok

  sizes : SizesWithin r.shape
  sizes = shp.sizes

  all_carries_lem : (n : ℕ) → n ≡ most_carries → all_carries r.shape ≤ n
  all_carries_lem n e = omega (arith, carries_most r.shape sizes r.shape.d (omega arith))

  all_sums_lem : (n : ℕ) → n ≡ most_sums → all_sums r.shape ≤ n
  all_sums_lem n e = omega (arith, sums_most r.shape sizes r.shape.d (omega arith))

  pub carry_asks : (y n : ℕ) → y < r.shape.d → n ≡ most_carries → SizesWithin r.shape × ((y < r.shape.d) × (offset (carry_size r.shape) r.shape.d ≤ length m.carries) × (offset (carry_size r.shape) r.shape.d ≤ n))
  carry_asks y n l e = (sizes, (l, omega (arith, carries_long), all_carries_lem n e))

  pub sum_asks : (n : ℕ) → n ≡ most_sums → SizesWithin r.shape × ((z < r.shape.d) × (offset (sum_size r.shape) r.shape.d ≤ length m.sums) × (offset (sum_size r.shape) r.shape.d ≤ n))
  sum_asks n e = (sizes, (A.zone, omega (arith, sums_long), all_sums_lem n e))

  pub commit_asks : (work held summed : ℕ) → work ≡ length scratch → held ≡ most_carries → summed ≡ most_sums
      → ((SizesWithin r.shape) × (z < r.shape.d))
      × (((length m.chain ≡ entries_of r.shape) × (length m.carries ≡ all_carries r.shape) × (length m.sums ≡ all_sums r.shape)) × ((length m.chain ≤ work) × (length m.carries ≤ held) × (length m.sums ≤ summed)))
  commit_asks work held summed a b c =
      let h = all_carries_lem held b in
      let u = all_sums_lem summed c in
      ((sizes, A.zone), ((chain_long, carries_long, sums_long), (omega (arith, chain_long, A.room), omega (arith, carries_long), omega (arith, sums_long))))

  module _ (w : Walked) (e : w ≡ walked_of r) (held summed : List Float) (hn : length held ≡ most_carries) (sn : length summed ≡ most_sums) where
    hl : all_carries r.shape ≤ length held
    hl = all_carries_lem (length held) hn

    sl : all_sums r.shape ≤ length summed
    sl = all_sums_lem (length summed) sn

    pub redo_asks : Steps z w r.set r.axes scratch held × Sums w.shape weights summed
    redo_asks = subst (λ (x : Walked). Steps z x r.set r.axes scratch held × Sums x.shape weights summed) (sym e)
        (record { ok = A.ok; zone = A.zone; reach = A.reach; ranks = A.ranks; cores = A.room; carried = hl }, record { points = A.points; summed = sl })

    module _ (carry : Beside (carry_size r.shape) z m.carries held) (sum : Beside (sum_size r.shape) z m.sums summed)
        (o : Answer Walked) (work held' summed' : List Float)
        (d : work_from rules (held_in (in_place w.shape r.axes r.set scratch weights) w scratch held summed) z ≡ outcome_of o (λ (x : Walked). held_in (in_place w.shape r.axes r.set scratch weights) x work held' summed')) where
      abbrev s : Shape
      s = r.shape

      abbrev begun : Answer Kept
      begun = work_from rules (held_in (in_place r.shape r.axes r.set scratch weights) (walked_of r) scratch held summed) z

      abbrev come : Walked → Kept
      come x = held_in (in_place r.shape r.axes r.set scratch weights) x work held' summed'

      own : begun ≡ outcome_of o come
      own =
          subst
          (λ (y : Walked). work_from rules (held_in (in_place y.shape r.axes r.set scratch weights) y scratch held summed) z
          ≡ outcome_of o (λ (x : Walked). held_in (in_place y.shape r.axes r.set scratch weights) x work held' summed')) e d

      abbrev figure : Float
      figure = at summed' (offset (sum_size r.shape) (r.shape.d - 1))

      abbrev slices_with : List Float → Outputs (List Float) → Slices (List Float)
      slices_with source o = record { source = source; weights = weights; outputs = o }

      -- what is committed
      abbrev over : Outputs (List Float)
      over = outputs (over_from (offset (core_size r.shape) z) m.chain work) (over_from (offset (carry_size r.shape) z) m.carries held') (over_from (offset (sum_size r.shape) z) m.sums summed')

      -- whatever its source is elsewhere
      came : (v : Check) (x : Walked) → begun ≡ answered v (come x) → (source : List Float) → SourcesFrom r.shape z source scratch
          → work_from rules (kept_of r (slices_with source m)) z ≡ answered v (kept_of (run_with r x figure) (slices_with source over))
      came v x t source f =
          let k = kept_of r (slices_with source m) in
          let M' : Memory k.inputs k.stepped k.summed z scratch held summed = record {
            sources = f;
            carry = carry;
            sum = sum;
            cores = A.room;
            carried = hl;
            summed = sl;
            chain_long = chain_long;
            carries_long = carries_long;
            sums_long = sums_long;
          } in
          work_over k.inputs shp k.stepped k.summed z A.zone scratch held summed M' (held_by x work held') summed'
          (offset (core_size s) z) (offset (carry_size s) z) (offset (sum_size s) z) refl refl refl v t

      pub renew_stops : (q : Refusal) → o ≡ Err q → (a : Ran) → a ≡ record { verdict = Err q; run = r } → Renewed r z weights m scratch a m
      unfolding answered outcome_of
      renew_stops q f a g = subst (λ (y : Ran). Renewed r z weights m scratch y m) (sym g) (record {
        work = came (Err q) w (own ∙ rw f);
        left = λ p h. (refl, refl);
      })

      pub renew_fits : (x : Walked) → o ≡ Ok x → (chain' carries' sums' : List Float) (f : Float)
          → (f ≡ figure) × (chain' ≡ over_from (offset (core_size r.shape) z) m.chain work)
          × (carries' ≡ over_from (offset (carry_size r.shape) z) m.carries held') × (sums' ≡ over_from (offset (sum_size r.shape) z) m.sums summed')
          → (a : Ran) → a ≡ record { verdict = Ok tt; run = run_with r x f } → Renewed r z weights m scratch a (outputs chain' carries' sums')
      unfolding answered outcome_of
      renew_fits x v chain' carries' sums' f c a g = subst (λ (y : Ran). Renewed r z weights m scratch y (outputs chain' carries' sums')) (sym g) (record {
        work = λ source h.
            came (Ok tt) x (own ∙ rw v) source h
            ∙ ap Ok (parts x source (sym c.0) (sym c.1) (sym c.2) (sym c.3));
        left = λ p h. let n : ◌≡◌ {A = ℕ} 0 1 = cc in let no : ⊥ = omega arith in absurd no;
      })
        where
          parts : (x : Walked) (source : List Float) {f f' : Float} {b b' c c' d d' : List Float} → f ≡ f' → b ≡ b' → c ≡ c' → d ≡ d'
              → kept_of (run_with r x f) (slices_with source (outputs b c d)) ≡ kept_of (run_with r x f') (slices_with source (outputs b' c' d'))
          parts x source o p q t = cc
