-- Steps one after another in place: what is left of them, and what came of all. Assumes nothing.
use mathlib.Core.Path.{◌≡◌, refl, sym, ap, ◌∙◌, subst}
use Prim.Native.Nat.{ℕ, suc, ◌-◌, ◌≤◌, ◌<◌}
use native.Mathlib.Nat.{zero-add}
use native.Mathlib.Omega.{arith}
use mathlib.Core.List.{List, []}
use lib.ListN.{length, replicate}
use lib.Seq.{ext_get_or}
use lib.Ieee.{Float}
use Rattle.answers.specs.declared.Refusal.{Refusal}
use Rattle.std.specs.Prelude.{Ok, Err}
use Rattle.answers.specs.Outcome.{Answer, bind, verdict_of, Check}
use Rattle.answers.proofs.Outcomes.{ok_inj, err_inj, ok_err, bind_ok, passed_ok}
use Rattle.lists.specs.Lists.{tab}
use Rattle.lists.proofs.Tables.{length_tab, get_or_tab_lem}
use Rattle.lists.proofs.Tests.{below_or_not}
use Rattle.shape.specs.declared.Shape.{Shape}
use Rattle.shape.specs.Limits.{most_axes}
use Rattle.shape.specs.Shapes.{left_of, right_of, entries_of}
use Rattle.shape.specs.Sizes.{Inside}
use Rattle.shape.specs.Cores.{Core, core_with, standing, reshaped}
use Rattle.shape.proofs.Ranks.{reshaped_count, reshaped_points, reshaped_left, reshaped_right}
use Rattle.stepform.specs.declared.Axis.{Axis}
use Rattle.cutform.specs.Rounding.{Carry, Cut, cores_in, After, after_cuts}
use Rattle.cutform.specs.declared.Bond.{Bond}
use Rattle.cutform.specs.Bonds.{no_bond}
use Rattle.stepform.specs.declared.Settings.{Settings}
use Rattle.stepform.specs.Steps.{step, further, steps_from, steps_of}
use Rattle.cuts.specs.declared.Walked.{Walked}
use Rattle.steps.specs.Held.{Ends, Came, step_of, Placed}
use Rattle.steps.proofs.Reshapes.{Ranked, reshaped_out, reshaped_at, reshaped_again}

refused_by : {A : Type 0} (T : Answer A) (v : Check) (q : Refusal) → v ≡ verdict_of T → v ≡ Err q → T ≡ Err q
refused_by (Ok a) v q e h = let z : ◌≡◌ {A = ℕ} 0 1 = cc in let n : ⊥ = omega arith in absurd n
refused_by (Err r) v q e h = let p : r ≡ q = cc in ap Err p

-- what is refused with a last touch was refused before it
refused_first : {A B : Type 0} (T : Answer A) (k : A → B) (q : Refusal) → bind T (λ a. Ok (k a)) ≡ Err q → T ≡ Err q
refused_first (Ok a) k q e = absurd (ok_err e)
refused_first (Err r) k q e = ap Err (err_inj e)

-- the ranks of a chain's own cores are its own
reshaped_own : (s : Shape) (w : List Float) → s.d ≤ length s.left → s.d ≤ length s.right → reshaped 0 s (tab s.d (standing s s w)) ≡ s
unfolding standing
reshaped_own s w l r =
    let cs = tab s.d (standing s s w) in
    let n = length_tab s.d (standing s s w) in
    let t = reshaped 0 s cs in
    let same : (j : ℕ) → Ranked s t j = λ j. below_or_not j s.d
    (λ h. let A = reshaped_at 0 s cs j (core_with 0 0 0 []) (omega arith) (omega arith) (omega arith) in
    let c = get_or_tab_lem s.d (standing s s w) j (core_with 0 0 0 []) h in
    let z = zero-add j in
    record { left = ap (left_of t) (sym z) ∙ A.0 ∙ ap (λ (x : Core). x.rl) c; right = ap (right_of t) (sym z) ∙ A.1 ∙ ap (λ (x : Core). x.rr) c })
    (λ h. reshaped_out 0 s cs j (λ a b. omega arith)) in
    let L : t.left ≡ s.left = ext_get_or 0 t.left s.left (reshaped_left 0 s cs) (λ j h. (same j).left) in
    let R : t.right ≡ s.right = ext_get_or 0 t.right s.right (reshaped_right 0 s cs) (λ j h. (same j).right) in
    ap (λ (x : ℕ). record { d = x; left = t.left; n = t.n; right = t.right }) (reshaped_count 0 s cs)
    ∙ ap (λ (x : List ℕ). record { d = s.d; left = x; n = t.n; right = t.right }) L
    ∙ ap (λ (x : List ℕ). record { d = s.d; left = s.left; n = x; right = t.right }) (reshaped_points 0 s cs)
    ∙ ap (λ (x : List ℕ). record { d = s.d; left = s.left; n = s.n; right = x }) R

-- T is all steps over the chain of shape s; t is its shape by now, w what stands in the room of s, said what is said of its bonds, and m steps are to come
module _ (set : Settings) (s : Shape) (xs : List Axis) (T : Answer After) where
  abbrev stood : Shape → List Float → List Core
  stood t w = tab s.d (standing s t w)

  pub record Going (m : ℕ) (t : Shape) (said : List Bond) (w : List Float) : Type 0 where
    pub rest : T ≡ steps_from m set xs (record { cores = stood t w; bonds = said })
    pub inside : Inside s t
    pub lefts : length t.left ≡ most_axes
    pub rights : length t.right ≡ most_axes
    pub shape : t ≡ reshaped 0 s (stood t w)

  pub going_first : (m : ℕ) (w : List Float) (none : Bond) → none ≡ no_bond → T ≡ steps_of m set xs (stood s w) → Inside s s → length s.left ≡ most_axes → length s.right ≡ most_axes
      → Going m s (replicate most_axes none) w
  unfolding steps_of
  going_first m w none b e I l r = record {
    rest = e ∙ ap (λ (x : Bond). steps_from m set xs (record { cores = stood s w; bonds = replicate most_axes x })) (sym b);
    inside = I;
    lefts = l;
    rights = r;
    shape = sym (reshaped_own s w (omega (arith, I.sizes.axes.most, l)) (omega (arith, I.sizes.axes.most, r)));
  }

  -- as many to come, counted another way
  pub going_same : (k m : ℕ) (t : Shape) (said : List Bond) (w : List Float) → k ≡ m → Going k t said w → Going m t said w
  going_same k m t said w e G = subst (λ (j : ℕ). Going j t said w) e G

  module _ (m : ℕ) (t : Shape) (said : List Bond) (w : List Float) (G : Going m t said w) (o : Answer Walked) (w' : List Float)
      (C : Came (step_of set xs (stood t w)) s t o w') where
    -- one step more is made
    pub going_more : 0 < m → (y : Walked) → o ≡ Ok y → (said' : List Bond) → said' ≡ further said y.bonds → Going (m - 1) y.shape said' w'
    unfolding steps_from
    going_more l y f said' e =
        let u = y.shape in
        let T' = step set xs (stood t w) in
        let D = passed_ok (step_of set xs (stood t w)) (sym C.verdict ∙ ap verdict_of f) in
        let B = bind_ok T' (λ tr. Ok (after_cuts tr)) D.0 D.1 in
        let E = C.ends D.0 y D.1 f in
        let a = ok_inj B.2 in
        let n : m ≡ suc (m - 1) = omega arith in
        let cores : cores_in B.0 ≡ stood u w' = ap (λ (x : After). x.cores) a ∙ E.cores in
        let told : further said (after_cuts B.0).bonds ≡ said' = ap (λ (x : After). further said x.bonds) a ∙ ap (further said) (sym E.said) ∙ sym e in
        let k : length (stood u w') ≡ length (stood t w) = length_tab s.d (standing s u w') ∙ sym (length_tab s.d (standing s t w)) in
        let few = G.inside.sizes.axes.most in
        let many = length_tab s.d (standing s u w') in
        let wide = reshaped_left 0 s (stood t w) in
        let high = reshaped_right 0 s (stood t w) in
        record {
          rest = G.rest ∙ ap (λ (i : ℕ). steps_from i set xs (record { cores = stood t w; bonds = said })) n
              ∙ ap (λ (y : Answer (List (Carry × Cut))). bind y (λ x. steps_from (m - 1) set xs (record { cores = cores_in x; bonds = further said (after_cuts x).bonds }))) B.1
              ∙ ap (λ (x : List Core). steps_from (m - 1) set xs (record { cores = x; bonds = further said (after_cuts B.0).bonds })) cores
              ∙ ap (λ (x : List Bond). steps_from (m - 1) set xs (record { cores = stood u w'; bonds = x })) told;
          inside = E.inside;
          lefts = ap (λ (x : Shape). length x.left) E.shape ∙ reshaped_left 0 t D.0.cores ∙ G.lefts;
          rights = ap (λ (x : Shape). length x.right) E.shape ∙ reshaped_right 0 t D.0.cores ∙ G.rights;
          shape = E.shape ∙ ap (reshaped 0 t) E.cores ∙ ap (λ (x : Shape). reshaped 0 x (stood u w')) G.shape
              ∙ reshaped_again s (stood t w) (stood u w') (sym k)
              (omega (arith, many, few, G.inside.axes, ap (λ (x : Shape). length x.left) G.shape, wide, G.lefts))
              (omega (arith, many, few, G.inside.axes, ap (λ (x : Shape). length x.right) G.shape, high, G.rights));
        }

    -- a step on the way is refused, and so are all
    pub going_stops : 0 < m → (q : Refusal) → o ≡ Err q → Came T s s (Err q) w'
    unfolding steps_from
    going_stops l q f =
        let n : m ≡ suc (m - 1) = omega arith in
        let r = refused_first (step set xs (stood t w)) after_cuts q (refused_by (step_of set xs (stood t w)) (verdict_of o) q C.verdict (ap verdict_of f)) in
        let R : T ≡ Err q =
        G.rest ∙ ap (λ (i : ℕ). steps_from i set xs (record { cores = stood t w; bonds = said })) n
        ∙ ap (λ (y : Answer (List (Carry × Cut))). bind y (λ x. steps_from (m - 1) set xs (record { cores = cores_in x; bonds = further said (after_cuts x).bonds }))) r in
        record { verdict = ap verdict_of (sym R); ends = λ a x e g. absurd (ok_err (sym e ∙ R)) }

  -- all are made
  pub going_ends : (m : ℕ) (t : Shape) (said : List Bond) (w : List Float) → Going m t said w → m ≤ 0 → Came T s s (Ok (record { shape = t; bonds = said })) w
  unfolding steps_from
  going_ends m t said w G l =
      let z : m ≡ 0 = omega arith in
      let end : After = record { cores = stood t w; bonds = said } in
      let R : T ≡ Ok end = G.rest ∙ ap (λ (i : ℕ). steps_from i set xs end) z in
      record {
        verdict = ap verdict_of (sym R);
        ends = λ a x e g.
            subst (λ (y : Walked). Ends s s y.shape y.bonds w a) (ok_inj g)
            (subst (Ends s s t said w) (ok_inj (sym R ∙ e)) (record { shape = G.shape; inside = G.inside; cores = refl; said = refl }));
      }

  pub going_placed : (m : ℕ) (t : Shape) (said : List Bond) (w : List Float) → Going m t said w → entries_of s ≤ length w → Placed s t w
  going_placed m t said w G l = record { inside = G.inside; lefts = G.lefts; rights = G.rights; long = l }
