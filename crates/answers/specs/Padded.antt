-- Meaning: how a line lies: behind its last byte stand zeros. Assumes nothing.
use Rattle.std.specs.Prelude.{ℕ, List}
use Rattle.sheet.specs.Laid.{filled}

abbrev pub padded : List ℕ → List ℕ
padded bytes = filled 70 0 bytes
