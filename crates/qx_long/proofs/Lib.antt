mod ShortNames
mod AbsentNumbers
mod PlannedNames
