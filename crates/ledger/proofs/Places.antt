-- Proofs: where the record of an address stands, and what it says of the cell.
use Rattle.std.proofs.Common.{◌≡◌, ℕ, zero, suc, ◌+◌, ◌<◌, ◌≤◌, true, false, ◌&&◌, eqb, leb, List, [], ◌∷◌, length, get_or, is_some, Some, None, sym, refl, ap, ◌∙◌, inl, inr, arith}
use Rattle.std.proofs.lemmas.Bool.{cases_eq, eq-eqb, eqb-true}
use Rattle.std.proofs.lemmas.List.Recursion.{found_at, found_nowhere}
use Rattle.std.proofs.lemmas.List.Sums.{fails_before_first, passes_at_first, position_or_len_is}
use Rattle.ledger.specs.declared.records.Record.{Record}
use Rattle.std.proofs.lemmas.Bool.Decides.{nat_tests}
use Rattle.ledger.specs.Counts.{used_most}
use Rattle.ledger.specs.Records.{cells, place, unused, used}

pub place_most : (rs : List Record) (a : ℕ) → place rs a ≤ length rs
place_most [] a = omega arith
place_most (r ∷ rs) a = let before = place_most rs a in grind (arith, nat_tests)

-- the search for a ends at i
pub place_here : (rs : List Record) (i a : ℕ) (d : Record) → i ≤ place rs a → i < length rs → (get_or rs i d).address ≡ a → place rs a ≡ i
place_here rs i a d most lt e =
    position_or_len_is (λ r. eqb a r.address) rs i d (omega arith) (λ k less. fails_before_first (λ r. eqb a r.address) rs k d (omega arith)) (λ _. eq-eqb a (get_or rs i d).address (sym e))

-- the record at the place of a has the address a
pub place_address : (rs : List Record) (a : ℕ) (d : Record) → place rs a < length rs → (get_or rs (place rs a) d).address ≡ a
place_address rs a d lt = sym (eqb-true a (get_or rs (place rs a) d).address (passes_at_first (λ r. eqb a r.address) rs d lt))

-- the search for a goes on behind i
pub place_past : (rs : List Record) (i a : ℕ) (d : Record) → i ≤ place rs a → i < length rs → ((get_or rs i d).address ≡ a → ⊥) → i + 1 ≤ place rs a
place_past rs i a d most lt ne = elim (cases_eq (place rs a) i) [
  | inl e ↦ absurd (ne (ap (λ k. (get_or rs k d).address) (sym e) ∙ place_address rs a d (omega arith)))
  | inr other ↦ omega arith
]

-- no record before it has
not_before : (rs : List Record) (a k : ℕ) (d : Record) → k < place rs a → (leb 1 a && eqb a (get_or rs k d).address) ≡ false
not_before rs a k d less = let ne = fails_before_first (λ r. eqb a r.address) rs k d less in grind (arith, nat_tests)

-- and the link of a
pub place_link : (rs : List Record) (a : ℕ) (d : Record) → 1 ≤ a → place rs a < length rs → cells rs a ≡ Some (get_or rs (place rs a) d).link
place_link rs a d low lt =
    let at = place_address rs a d lt in
    found_at (λ xs. cells xs a) (λ r. leb 1 a && eqb a r.address) (λ r. Some r.link) None refl (λ _ _. refl) rs (place rs a) d lt (λ k less. not_before rs a k d less) (grind (arith, nat_tests))

-- an address with no record is dead
pub no_place : (rs : List Record) (a : ℕ) → length rs ≤ place rs a → is_some (cells rs a) ≡ false
no_place rs a most = ap is_some (found_nowhere (λ xs. cells xs a) (λ r. leb 1 a && eqb a r.address) (λ r. Some r.link) None refl (λ _ _. refl) rs unused (λ k lt. not_before rs a k unused (omega arith)))

-- an address with a record is live
pub record_live : (rs : List Record) (i : ℕ) (d : Record) → i < length rs → 1 ≤ (get_or rs i d).address → is_some (cells rs (get_or rs i d).address) ≡ true
record_live [] i d lt low = absurd (omega arith)
record_live (r ∷ rs) zero d lt low = grind (arith, nat_tests)
record_live (r ∷ rs) (suc i) d lt low = let before = record_live rs i d (omega arith) low in grind (arith, nat_tests)

-- with an unused record there is room
pub used_room : (rs : List Record) → place rs 0 < length rs → used rs < length rs
used_room [] lt = absurd (omega arith)
used_room (r ∷ rs) lt = let before = used_room rs in let most = used_most rs in grind (arith, nat_tests)

-- without one there is none
pub used-full : (rs : List Record) → length rs ≤ place rs 0 → used rs ≡ length rs
used-full [] most = refl
used-full (r ∷ rs) most = let before = used-full rs (grind (arith, nat_tests)) in grind (arith, nat_tests)
