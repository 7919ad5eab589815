-- What the contracts cite, and the models behind them.
pub mod Flaws
pub mod Pieces
pub mod ModelRuns
pub mod ModelChoices
pub mod ModelShapes
pub mod ModelCover
pub mod ModelOpening
pub mod ModelCases
pub mod ModelStages
pub mod ModelPiles
pub mod ModelBounds
pub mod ModelNeeded
pub mod ModelSearch
