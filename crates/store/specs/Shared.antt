-- Meaning: what the makes of store share, which lie in lists of places up to a most. Assumes nothing.
use Rattle.std.specs.Prelude.{◌≡◌, ℕ, ◌≤◌, Bool, true, false, cond, ◌&&◌, List, [], length, replicate, Result, MatchResult, nat_le}
use Rattle.heap.specs.Faults.{report}
use Rattle.heap.specs.declared.faults.Fault.{Fault}
use Rattle.store.specs.Meanings.{refusal}

-- the lengths that a lent list can have
abbrev pub fitting_up_to : ℕ → ℕ → Bool
fitting_up_to most n = nat_le 1 n && nat_le n most

-- how many cells n places can hold: one each, and none if n is a wrong length
abbrev pub size_up_to : ℕ → ℕ → ℕ
size_up_to most n = cond (fitting_up_to most n) n 0

-- the places that cells can lie in: all, and none if their number is wrong
abbrev pub usable_up_to : {A : Type 0} → ℕ → List A → List A
usable_up_to most xs = cond (fitting_up_to most (length xs)) xs []

-- the places when a store is made: all blank, and as they were if there is a wrong number of them
abbrev pub cleared_up_to : {A : Type 0} → ℕ → A → List A → List A
cleared_up_to most blank xs = cond (fitting_up_to most (length xs)) (replicate (length xs) blank) xs

-- the test before making: nothing, or 144 at a wrong length
abbrev pub TestsUpTo : {U : Type 0} → ℕ → ℕ → ℕ → Result U Fault → Type 0
TestsUpTo most kind n r = MatchResult r (λ _. fitting_up_to most n ≡ true) (λ f. (fitting_up_to most n ≡ false) × (report f ≡ refusal 144 n kind))

-- the test of a link: the number itself up to 65,534, or 142 at a higher one
abbrev pub LinksTo : ℕ → ℕ → Result ℕ Fault → Type 0
LinksTo kind n r = MatchResult r (λ l. (l ≡ n) × (n ≤ 65534)) (λ f. (65535 ≤ n) × (report f ≡ refusal 142 n kind))
