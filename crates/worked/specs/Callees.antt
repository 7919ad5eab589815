-- Meaning: what a routine may rely on of those beside it on a shelf, and beside itself alone. Assumes nothing.
use Rattle.std.specs.Prelude.{ℕ, List, [], ◌∷◌, map, slice_index_or}
use Rattle.sheet.specs.Routines.{Routine}
use Rattle.pieces.specs.Pieces.{Contract, contract_of}

-- what a position says at which no routine stands
abbrev pub nothing : Contract
nothing = record { arguments = 0; ghosts = 0; before = []; after = [] }

-- what position q of the shelf says
abbrev pub callees : List Routine → ℕ → Contract
callees shelf q = slice_index_or (map contract_of shelf) q nothing

-- a routine at position 0 of a new shelf
abbrev pub alone : Routine → ℕ → Contract
alone R = callees (R ∷ [])
