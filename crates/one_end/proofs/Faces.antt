-- Each call's function for C by its name: its contract asks for nothing, and any two ends that it allows are equal. As in Calls.antt. Assumes nothing.
use mathlib.Core.Path.{◌≡◌, refl, sym, ap, ◌∙◌}
use mathlib.Core.List.{List, [], ◌∷◌}
use lib.Ieee.{Float}
use Rattle.zones.specs.contracts.scalars.uyavsker_root as root-call
use Rattle.zones.proofs.scalars.uyavsker_root.Reads as root-reads
use Rattle.zones.specs.contracts.scalars.uyavsker_floor as floor-call
use Rattle.zones.proofs.scalars.uyavsker_floor.Reads as floor-reads
use Rattle.zones.specs.contracts.scalars.uyavsker_magnitude as magnitude-call
use Rattle.zones.proofs.scalars.uyavsker_magnitude.Reads as magnitude-reads
use Rattle.zones.specs.contracts.chains.uyavsker_shape_check as shape-check-call
use Rattle.zones.proofs.chains.uyavsker_shape_check.Reads as shape-check-reads
use Rattle.zones.specs.contracts.chains.uyavsker_entry_of as entry-of-call
use Rattle.zones.proofs.chains.uyavsker_entry_of.Reads as entry-of-reads
use Rattle.zones.specs.contracts.chains.uyavsker_inner_separable as inner-separable-call
use Rattle.zones.proofs.chains.uyavsker_inner_separable.Reads as inner-separable-reads
use Rattle.zones.specs.contracts.chains.uyavsker_rank1_separable as rank1-separable-call
use Rattle.zones.proofs.chains.uyavsker_rank1_separable.Reads as rank1-separable-reads
use Rattle.zones.specs.contracts.chains.uyavsker_tt_round as tt-round-call
use Rattle.zones.proofs.chains.uyavsker_tt_round.Reads as tt-round-reads
use Rattle.zones.specs.contracts.courses.uyavsker_step as step-call
use Rattle.zones.proofs.courses.uyavsker_step.Reads as step-reads
use Rattle.zones.specs.contracts.courses.uyavsker_evolve as evolve-call
use Rattle.zones.proofs.courses.uyavsker_evolve.Reads as evolve-reads
use Rattle.zones.specs.contracts.pairs.uyavsker_contract_and_split as contract-and-split-call
use Rattle.zones.proofs.pairs.uyavsker_contract_and_split.Reads as contract-and-split-reads
use Rattle.zones.specs.contracts.replacing.uyavsker_fresh_run as fresh-run-call
use Rattle.zones.proofs.replacing.uyavsker_fresh_run.Reads as fresh-run-reads
use Rattle.zones.specs.contracts.replacing.uyavsker_replace_core as replace-core-call
use Rattle.zones.proofs.replacing.uyavsker_replace_core.Reads as replace-core-reads
use Rattle.zones.specs.contracts.replacing.uyavsker_replace_axis as replace-axis-call
use Rattle.zones.proofs.replacing.uyavsker_replace_axis.Reads as replace-axis-reads
use Rattle.zones.specs.contracts.replacing.uyavsker_replace_weights as replace-weights-call
use Rattle.zones.proofs.replacing.uyavsker_replace_weights.Reads as replace-weights-reads
use Rattle.zones.specs.contracts.files.uyavsker_read_chain as read-chain-call
use Rattle.zones.proofs.files.uyavsker_read_chain.Reads as read-chain-reads
use Rattle.zones.specs.contracts.files.uyavsker_write_chain as write-chain-call
use Rattle.zones.proofs.files.uyavsker_write_chain.Reads as write-chain-reads
use Rattle.zones.specs.contracts.files.uyavsker_text_of as text-of-call
use Rattle.zones.proofs.files.uyavsker_text_of.Reads as text-of-reads
use Rattle.runform.specs.Slices.{Slices}
use Rattle.runform.specs.Call.{RunEnd}
use Rattle.records.specs.declared.held.CRan.{CRan}
use Rattle.zones.specs.Ends.{RunsAs}
use Rattle.one_end.specs.OneEnd.{OneEnd}

-- of a run's call: C's answer, the run's slices and scratch
run_apart : {x : RunEnd} {o o' : CRan} {m m' : Slices (List Float)} {w w' : List Float} (written : Slices (List Float) → List Float → List (List Float))
    → RunsAs x o m w → RunsAs x o' m' w' → (o ≡ o') × (written m w ≡ written m' w')
run_apart {w = w} {w' = w'} written p q =
    (p.result ∙ sym q.result, ap (λ n. written n w) (p.slices ∙ sym q.slices) ∙ ap (written _) (p.scratch ∙ sym q.scratch))

pub uyavsker_root : OneEnd root-call.ended (λ M 𝓤. root-call.clauses) root-reads.Post {A = Float} (λ κs e. [])
uyavsker_root = record { plain = λ w κs a. refl; one = λ κs a r r' e e' p q. (cc, cc) }

pub uyavsker_floor : OneEnd floor-call.ended (λ M 𝓤. floor-call.clauses) floor-reads.Post {A = Float} (λ κs e. [])
uyavsker_floor = record { plain = λ w κs a. refl; one = λ κs a r r' e e' p q. (cc, cc) }

pub uyavsker_magnitude : OneEnd magnitude-call.ended (λ M 𝓤. magnitude-call.clauses) magnitude-reads.Post {A = Float} (λ κs e. [])
uyavsker_magnitude = record { plain = λ w κs a. refl; one = λ κs a r r' e e' p q. (cc, cc) }

pub uyavsker_shape_check : OneEnd shape-check-call.ended (λ M 𝓤. shape-check-call.clauses) shape-check-reads.Post {A = Float} (λ κs e. [])
uyavsker_shape_check = record { plain = λ w κs a. refl; one = λ κs a r r' e e' p q. (cc, cc) }

pub uyavsker_entry_of : OneEnd entry-of-call.ended (λ M 𝓤. entry-of-call.clauses) entry-of-reads.Post {A = Float} (λ κs e. [])
uyavsker_entry_of = record { plain = λ w κs a. refl; one = λ κs a r r' e e' p q. (cc, cc) }

pub uyavsker_inner_separable : OneEnd inner-separable-call.ended (λ M 𝓤. inner-separable-call.clauses) inner-separable-reads.Post {A = Float} (λ κs e. [])
uyavsker_inner_separable = record { plain = λ w κs a. refl; one = λ κs a r r' e e' p q. (cc, cc) }

pub uyavsker_rank1_separable : OneEnd rank1-separable-call.ended (λ M 𝓤. rank1-separable-call.clauses) rank1-separable-reads.Post (λ κs e. e.1.1.0.now ∷ [])
uyavsker_rank1_separable = record { plain = λ w κs a. refl; one = λ κs a r r' e e' p q. (cc, cc) }

pub uyavsker_tt_round : OneEnd tt-round-call.ended (λ M 𝓤. tt-round-call.clauses) tt-round-reads.Post (λ κs e. e.1.1.0.now ∷ e.1.1.1.0.now ∷ [])
uyavsker_tt_round = record { plain = λ w κs a. refl; one = λ κs a r r' e e' p q. (cc, cc) }

pub uyavsker_step : OneEnd step-call.ended (λ M 𝓤. step-call.clauses) step-reads.Post (λ κs e. e.1.1.1.1.0.now ∷ e.1.1.1.1.1.0.now ∷ [])
uyavsker_step = record { plain = λ w κs a. refl; one = λ κs a r r' e e' p q. (cc, cc) }

pub uyavsker_evolve : OneEnd evolve-call.ended (λ M 𝓤. evolve-call.clauses) evolve-reads.Post (λ κs e. e.1.1.1.1.0.now ∷ e.1.1.1.1.1.0.now ∷ [])
uyavsker_evolve = record { plain = λ w κs a. refl; one = λ κs a r r' e e' p q. (cc, cc) }

pub uyavsker_contract_and_split : OneEnd contract-and-split-call.ended (λ M 𝓤. contract-and-split-call.clauses) contract-and-split-reads.Post
    (λ κs e. e.1.1.1.1.1.0.now ∷ e.1.1.1.1.1.1.0.now ∷ e.1.1.1.1.1.1.1.0.now ∷ [])
uyavsker_contract_and_split = record { plain = λ w κs a. refl; one = λ κs a r r' e e' p q. (cc, cc) }

pub uyavsker_fresh_run : OneEnd fresh-run-call.ended (λ M 𝓤. fresh-run-call.clauses) fresh-run-reads.Post
    (λ κs e. e.1.1.1.1.1.0.now ∷ e.1.1.1.1.1.1.0.now ∷ e.1.1.1.1.1.1.1.0.now ∷ e.1.1.1.1.1.1.1.1.0.now ∷ [])
uyavsker_fresh_run = record { plain = λ w κs a. refl; one = λ κs a r r' e e' p q. run_apart (λ m w. m.outputs.chain ∷ m.outputs.carries ∷ m.outputs.sums ∷ w ∷ []) p q }

pub uyavsker_replace_core : OneEnd replace-core-call.ended (λ M 𝓤. replace-core-call.clauses) replace-core-reads.Post
    (λ κs e. e.1.1.0.now ∷ e.1.1.1.1.0.now ∷ e.1.1.1.1.1.0.now ∷ e.1.1.1.1.1.1.0.now ∷ e.1.1.1.1.1.1.1.1.0.now ∷ [])
uyavsker_replace_core = record {
  plain = λ w κs a. refl;
  one = λ κs a r r' e e' p q. run_apart (λ m w. m.source ∷ m.outputs.chain ∷ m.outputs.carries ∷ m.outputs.sums ∷ w ∷ []) p q;
}

pub uyavsker_replace_axis : OneEnd replace-axis-call.ended (λ M 𝓤. replace-axis-call.clauses) replace-axis-reads.Post
    (λ κs e. e.1.1.1.1.1.0.now ∷ e.1.1.1.1.1.1.0.now ∷ e.1.1.1.1.1.1.1.0.now ∷ e.1.1.1.1.1.1.1.1.0.now ∷ [])
uyavsker_replace_axis = record { plain = λ w κs a. refl; one = λ κs a r r' e e' p q. run_apart (λ m w. m.outputs.chain ∷ m.outputs.carries ∷ m.outputs.sums ∷ w ∷ []) p q }

pub uyavsker_replace_weights : OneEnd replace-weights-call.ended (λ M 𝓤. replace-weights-call.clauses) replace-weights-reads.Post
    (λ κs e. e.1.1.1.0.now ∷ e.1.1.1.1.1.1.0.now ∷ e.1.1.1.1.1.1.1.1.0.now ∷ [])
uyavsker_replace_weights = record { plain = λ w κs a. refl; one = λ κs a r r' e e' p q. run_apart (λ m w. m.weights ∷ m.outputs.sums ∷ w ∷ []) p q }

pub uyavsker_read_chain : OneEnd read-chain-call.ended (λ M 𝓤. read-chain-call.clauses) read-chain-reads.Post (λ κs e. e.1.0.now ∷ [])
uyavsker_read_chain = record { plain = λ w κs a. refl; one = λ κs a r r' e e' p q. (cc, cc) }

pub uyavsker_write_chain : OneEnd write-chain-call.ended (λ M 𝓤. write-chain-call.clauses) write-chain-reads.Post (λ κs e. e.1.1.0.now ∷ [])
uyavsker_write_chain = record { plain = λ w κs a. refl; one = λ κs a r r' e e' p q. (cc, cc) }

pub uyavsker_text_of : OneEnd text-of-call.ended (λ M 𝓤. text-of-call.clauses) text-of-reads.Post (λ κs e. e.1.0.now ∷ [])
uyavsker_text_of = record { plain = λ w κs a. refl; one = λ κs a r r' e e' p q. (cc, cc) }
