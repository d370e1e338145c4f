mod NormalCommandLemmas
mod ActLemmas
mod GcdLemmas
mod TallyLemmas
mod BenchFacts
mod LimitFacts
