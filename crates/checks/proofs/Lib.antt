pub mod Verdicts
pub mod StepVerdicts
