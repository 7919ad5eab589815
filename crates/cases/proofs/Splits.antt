-- Proofs: a segment split in two leaves the shape sound.
use Rattle.std.proofs.Common.{◌≡◌, ℕ, ◌<◌, subst}
use Rattle.std.specs.List.{AllByRecursion}
use Rattle.pieces.specs.declared.shapes.Edge.TheVariants.{Segment}
use Rattle.pieces.specs.ModelShapes.{Shape, SoundShape, short, long}
use Rattle.pieces.specs.ModelCases.{cells_by}
use Rattle.pieces.proofs.RowsExact.{Celled, cells_are}

pub split_sound : (s : Shape) (i t : ℕ) → SoundShape s → i < s.size → s.edge i ≡ Segment t → SoundShape (short s i t) × SoundShape (long s i t)
split_sound s i t w p e =
    let a = subst (λ d. AllByRecursion (Celled s i) (cells_by d s i)) e (cells_are s w i p) in
    (a.0.sound, a.1.0.sound)
