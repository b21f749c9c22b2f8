-- The lemmas on the ring's rule, by what they are about.
-- lists, look-ups and counts
pub mod ListLemmas
pub mod Lookups
pub mod Totals
pub mod Entries
pub mod Rising
-- steps on the words and on one view
pub mod Onward
pub mod Moved
pub mod Loads
pub mod Claims
pub mod Laps
pub mod Stores
pub mod Fronts
pub mod Durable
pub mod Copied
pub mod Flags
pub mod Abandoned
pub mod Assured
-- views that split, join, begin and end
pub mod Splits
pub mod Openings
pub mod Holdings
-- the parts: their turns, their pins, and what is given back
pub mod PinLaws
pub mod PinCalls
pub mod TurnLaws
pub mod Pinned
pub mod PartLaws
pub mod Parted
pub mod TurnSteps
pub mod PartSteps
pub mod Sharing
-- the machine: its rows, its runs and what they tell
pub mod TurnRows
pub mod Rows
pub mod Parties
pub mod Ready
pub mod Runs
pub mod Taken
