-- The lemmas of the benchmarks.
mod FilledLemmas
