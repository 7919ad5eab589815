-- Proofs: the places of a lent list that cells can lie in.
use Rattle.std.proofs.Common.{◌≡◌, ℕ, ◌<◌, ◌≤◌, List, length, set, arith, length-set}
use Rattle.std.proofs.lemmas.Bool.Decides.{nat_tests}
use Rattle.store.specs.Shared.{size_up_to, usable_up_to}

pub size_most : (most n : ℕ) → size_up_to most n ≤ most
size_most most n = grind (arith, nat_tests)

pub size-is : (most n i : ℕ) → i < size_up_to most n → size_up_to most n ≡ n
size-is most n i lt = grind (arith, nat_tests)

pub length-usable : {A : Type 0} (most : ℕ) (xs : List A) → length (usable_up_to most xs) ≡ size_up_to most (length xs)
length-usable most xs = grind (arith, nat_tests)

-- in a list with a place that a cell can lie in, cells can lie in all
pub usable-is : {A : Type 0} (most : ℕ) (xs : List A) (i : ℕ) → i < size_up_to most (length xs) → usable_up_to most xs ≡ xs
usable-is most xs i lt = grind (arith, nat_tests)

pub usable-set : {A : Type 0} (most : ℕ) (xs : List A) (i : ℕ) (x : A) → i < size_up_to most (length xs) → usable_up_to most (set xs i x) ≡ set xs i x
usable-set most xs i x lt = grind (arith, nat_tests, length-set)
