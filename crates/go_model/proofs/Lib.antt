-- The lemmas on members, neighbours, marks, levels, counts, ranks and hops.
pub mod MemberLemmas
pub mod WithinLemmas
pub mod MarkLemmas
pub mod LevelLemmas
pub mod RankLemmas
pub mod LawLemmas
pub mod CountLemmas
