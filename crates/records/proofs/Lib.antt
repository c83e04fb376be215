mod Lent
mod Mapped
mod Refusals
mod Runs
