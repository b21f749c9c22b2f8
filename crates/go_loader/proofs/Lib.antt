-- Lemmas on reading item by item, on pieces of eight bytes, and on generated entries.
mod ItemLemmas
mod PieceLemmas
mod TextLemmas
mod LawLemmas
mod GeneratedLemmas
