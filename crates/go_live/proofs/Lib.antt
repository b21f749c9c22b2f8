-- The lemmas on live stores.
mod Handling
mod Knowing
mod Onward
mod PlaceHandles
mod Places
mod Placing
mod PutHandles
mod PutRuns
mod Rows
mod SeatLooks
mod Short
mod Sound
mod Steady
mod Stopping
mod ViewsTaken
