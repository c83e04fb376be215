-- Each public call by its name: its contract asks for nothing, and any two ends that it allows are equal. `Post` is what Rattle reads off the call's own `ensures`;
-- of calls to which a list of records or a view is lent the fact is written out here, and `plain` holds it to the source.
-- `e.0`, `e.1.0`, `e.1.1.0` are the first, second and third parameter at exit, and so on. Assumes nothing.
use mathlib.Core.Path.{◌≡◌, refl, ap}
use mathlib.Core.List.{List, [], ◌∷◌}
use lib.Ieee.{Float}
use Rattle.answers.proofs.Same.{same_end}
use Rattle.numbers.specs.contracts.root as root-call
use Rattle.numbers.proofs.root.Reads as root-reads
use Rattle.numbers.specs.contracts.floor as floor-call
use Rattle.numbers.proofs.floor.Reads as floor-reads
use Rattle.numbers.specs.contracts.magnitude as magnitude-call
use Rattle.numbers.proofs.magnitude.Reads as magnitude-reads
use Rattle.shape.specs.contracts.Shape.check as check-call
use Rattle.shape.proofs.Shape.check.Reads as check-reads
use Rattle.view.specs.View.{view_of, seen}
use Rattle.view.specs.contracts.view_of as view-of-call
use Rattle.view.specs.contracts.CoreView.get as get-call
use Rattle.view.specs.contracts.entry_of as entry-of-call
use Rattle.view.proofs.entry_of.Reads as entry-of-reads
use Rattle.product.specs.contracts.inner_separable as inner-call
use Rattle.product.proofs.inner_separable.Reads as inner-reads
use Rattle.product.specs.contracts.start.rank1_separable as start-call
use Rattle.product.proofs.start.rank1_separable.Reads as start-reads
use Rattle.cutform.specs.Call.{Ended}
use Rattle.rounding.specs.contracts.tt_round as round-call
use Rattle.rounding.proofs.tt_round.Reads as round-reads
use Rattle.stepform.specs.Call.{step_call, evolve_call}
use Rattle.evolution.specs.contracts.step as step-call
use Rattle.evolution.specs.contracts.evolve as evolve-call
use Rattle.pairform.specs.Call.{PairEnded}
use Rattle.pair.specs.contracts.contract_and_split as pair-call
use Rattle.pair.proofs.contract_and_split.Reads as Pair-reads
use Rattle.runform.specs.Call.{RunEnd}
use Rattle.runs.specs.contracts.fresh_run as fresh-call
use Rattle.runs.proofs.fresh_run.Reads as fresh-reads
use Rattle.runs.specs.contracts.replace_core as core_call
use Rattle.runs.proofs.replace_core.Reads as core-reads
use Rattle.runs.specs.contracts.replace_axis as axis_call
use Rattle.runs.proofs.replace_axis.Reads as axis-reads
use Rattle.runs.specs.contracts.replace_weights as weights_call
use Rattle.runs.proofs.replace_weights.Reads as weights-reads
use Rattle.chainfile.specs.contracts.read_chain as read-call
use Rattle.chainfile.proofs.read_chain.Reads as read-reads
use Rattle.chainfile.specs.contracts.write_chain as write-call
use Rattle.chainfile.proofs.write_chain.Reads as write-reads
use Rattle.listing.specs.contracts.text_of as text-call
use Rattle.listing.proofs.text_of.Reads as text-reads
use Rattle.one_end.specs.OneEnd.{Leaves, OneEnd}

-- from one equation for all of an end
apart : {E R A : Type 0} (result : E → R) (slices : E → List (List A)) (promised x y : E) → x ≡ promised → y ≡ promised → (result x ≡ result y) × (slices x ≡ slices y)
apart result slices promised x y p q = let s = same_end promised x y p q in (ap result s, ap slices s)

pub root : OneEnd root-call.ended (λ M 𝓤. root-call.clauses) root-reads.Post {A = Float} (λ κs e. [])
root = record { plain = λ w κs a. refl; one = λ κs a r r' e e' p q. (cc, cc) }

pub floor : OneEnd floor-call.ended (λ M 𝓤. floor-call.clauses) floor-reads.Post {A = Float} (λ κs e. [])
floor = record { plain = λ w κs a. refl; one = λ κs a r r' e e' p q. (cc, cc) }

pub magnitude : OneEnd magnitude-call.ended (λ M 𝓤. magnitude-call.clauses) magnitude-reads.Post {A = Float} (λ κs e. [])
magnitude = record { plain = λ w κs a. refl; one = λ κs a r r' e e' p q. (cc, cc) }

pub check : OneEnd check-call.ended (λ M 𝓤. check-call.clauses) check-reads.Post {A = Float} (λ κs e. [])
check = record { plain = λ w κs a. refl; one = λ κs a r r' e e' p q. (cc, cc) }

pub view_of_lem : OneEnd view-of-call.ended (λ M 𝓤. view-of-call.clauses) (λ κs a r e. r ≡ view_of a.0 a.1.0 a.1.1.0) {A = Float} (λ κs e. [])
view_of_lem = record { plain = λ w κs a. refl; one = λ κs a r r' e e' p q. (cc, cc) }

pub get : OneEnd get-call.ended (λ M 𝓤. get-call.clauses) (λ κs a r e. r ≡ seen a.0 a.1.0 a.1.1.0 a.1.1.1.0) {A = Float} (λ κs e. [])
get = record { plain = λ w κs a. refl; one = λ κs a r r' e e' p q. (cc, cc) }

pub entry_of : OneEnd entry-of-call.ended (λ M 𝓤. entry-of-call.clauses) entry-of-reads.Post {A = Float} (λ κs e. [])
entry_of = record { plain = λ w κs a. refl; one = λ κs a r r' e e' p q. (cc, cc) }

pub inner_separable : OneEnd inner-call.ended (λ M 𝓤. inner-call.clauses) inner-reads.Post {A = Float} (λ κs e. [])
inner_separable = record { plain = λ w κs a. refl; one = λ κs a r r' e e' p q. (cc, cc) }

pub rank1_separable : OneEnd start-call.ended (λ M 𝓤. start-call.clauses) start-reads.Post (λ κs e. e.1.1.0.now ∷ [])
rank1_separable = record { plain = λ w κs a. refl; one = λ κs a r r' e e' p q. (cc, cc) }

pub tt_round : OneEnd round-call.ended (λ M 𝓤. round-call.clauses) round-reads.Post (λ κs e. e.1.1.0.now ∷ e.1.1.1.0.now ∷ [])
tt_round = record { plain = λ w κs a. refl; one = λ κs a r r' e e' p q. apart {E = Ended} (λ z. z.result) (λ z. z.chain ∷ z.scratch ∷ []) _ _ _ p q }

pub step : OneEnd step-call.ended (λ M 𝓤. step-call.clauses)
    (λ κs a r e. Leaves (step_call a.1.0 a.0 a.1.1.0.now a.1.1.1.0.now a.1.1.1.1.0.now) r e.1.1.1.0.now e.1.1.1.1.0.now)
    (λ κs e. e.1.1.1.0.now ∷ e.1.1.1.1.0.now ∷ [])
step = record { plain = λ w κs a. refl; one = λ κs a r r' e e' p q. (cc, cc) }

pub evolve : OneEnd evolve-call.ended (λ M 𝓤. evolve-call.clauses)
    (λ κs a r e. let p = a.1.0 in Leaves (evolve_call p.t_final p.steps p.c p.cutting a.0 a.1.1.0.now a.1.1.1.0.now a.1.1.1.1.0.now) r e.1.1.1.0.now e.1.1.1.1.0.now)
    (λ κs e. e.1.1.1.0.now ∷ e.1.1.1.1.0.now ∷ [])
evolve = record { plain = λ w κs a. refl; one = λ κs a r r' e e' p q. (cc, cc) }

pub contract_and_split : OneEnd pair-call.ended (λ M 𝓤. pair-call.clauses) Pair-reads.Post (λ κs e. e.1.1.1.1.1.0.now ∷ e.1.1.1.1.1.1.0.now ∷ e.1.1.1.1.1.1.1.0.now ∷ [])
contract_and_split = record { plain = λ w κs a. refl; one = λ κs a r r' e e' p q. apart {E = PairEnded} (λ z. z.result) (λ z. z.left ∷ z.right ∷ z.scratch ∷ []) _ _ _ p q }

pub fresh_run_lem : OneEnd fresh-call.ended (λ M 𝓤. fresh-call.clauses) fresh-reads.Post
    (λ κs e. e.1.1.1.1.1.0.now ∷ e.1.1.1.1.1.1.0.now ∷ e.1.1.1.1.1.1.1.0.now ∷ e.1.1.1.1.1.1.1.1.0.now ∷ [])
fresh_run_lem = record { plain = λ w κs a. refl; one = λ κs a r r' e e' p q. apart {E = RunEnd} (λ z. z.result) (λ z. let o = z.slices.outputs in o.chain ∷ o.carries ∷ o.sums ∷ z.scratch ∷ []) _ _ _ p q }

pub replace_core : OneEnd core_call.ended (λ M 𝓤. core_call.clauses) core-reads.Post
    (λ κs e. e.1.1.0.now ∷ e.1.1.1.1.0.now ∷ e.1.1.1.1.1.0.now ∷ e.1.1.1.1.1.1.0.now ∷ e.1.1.1.1.1.1.1.1.0.now ∷ [])
replace_core = record { plain = λ w κs a. refl; one = λ κs a r r' e e' p q. apart {E = RunEnd} (λ z. z.result) (λ z. let o = z.slices.outputs in z.slices.source ∷ o.chain ∷ o.carries ∷ o.sums ∷ z.scratch ∷ []) _ _ _ p q }

pub replace_axis : OneEnd axis_call.ended (λ M 𝓤. axis_call.clauses) axis-reads.Post
    (λ κs e. e.1.1.1.1.1.0.now ∷ e.1.1.1.1.1.1.0.now ∷ e.1.1.1.1.1.1.1.0.now ∷ e.1.1.1.1.1.1.1.1.0.now ∷ [])
replace_axis = record { plain = λ w κs a. refl; one = λ κs a r r' e e' p q. apart {E = RunEnd} (λ z. z.result) (λ z. let o = z.slices.outputs in o.chain ∷ o.carries ∷ o.sums ∷ z.scratch ∷ []) _ _ _ p q }

pub replace_weights : OneEnd weights_call.ended (λ M 𝓤. weights_call.clauses) weights-reads.Post
    (λ κs e. e.1.1.1.0.now ∷ e.1.1.1.1.1.1.0.now ∷ e.1.1.1.1.1.1.1.1.0.now ∷ [])
replace_weights = record { plain = λ w κs a. refl; one = λ κs a r r' e e' p q. apart {E = RunEnd} (λ z. z.result) (λ z. z.slices.weights ∷ z.slices.outputs.sums ∷ z.scratch ∷ []) _ _ _ p q }

pub read_chain : OneEnd read-call.ended (λ M 𝓤. read-call.clauses) read-reads.Post (λ κs e. e.1.0.now ∷ [])
read_chain = record { plain = λ w κs a. refl; one = λ κs a r r' e e' p q. (cc, cc) }

pub write_chain : OneEnd write-call.ended (λ M 𝓤. write-call.clauses) write-reads.Post (λ κs e. e.1.1.0.now ∷ [])
write_chain = record { plain = λ w κs a. refl; one = λ κs a r r' e e' p q. (cc, cc) }

pub text_of : OneEnd text-call.ended (λ M 𝓤. text-call.clauses) text-reads.Post (λ κs e. e.1.0.now ∷ [])
text_of = record { plain = λ w κs a. refl; one = λ κs a r r' e e' p q. (cc, cc) }
