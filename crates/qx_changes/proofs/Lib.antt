mod MadeNodes
mod WrittenNodes
mod EditedStates
