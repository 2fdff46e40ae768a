mod CleanCounts
mod LookedOver
