-- Proofs: the links that were read may be written.
use Rattle.std.proofs.Common.{ℕ, ◌≤◌}
use Rattle.store.specs.Meanings.{Bounded, Meaning}
use Rattle.walk.specs.Ways.{Linked}

pub links_fit : {m n : Meaning} {a b x y : ℕ} → Bounded m → Linked m a b x y n → (x ≤ 65534) × (y ≤ 65534)
links_fit {a = a} {b = b} {x = x} {y = y} bounds linked = (bounds.links a x linked.first, bounds.links b y linked.second)
