-- The lemmas on what is kept while a graph is read, on fronts, and on places in a rank.
pub mod KeepsLemmas
pub mod FrontLemmas
pub mod PlaceLemmas
pub mod CountLemmas
