-- The store as its calls change it: a world, the calls with their answers, a step by what a call states, and runs of steps.
pub mod World
pub mod Steps
pub mod Runs
