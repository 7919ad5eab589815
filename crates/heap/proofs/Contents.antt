-- Proofs: how a pile's contents change with its slots.
use Rattle.std.proofs.Common.{◌≡◌, ℕ, ◌+◌, ◌-◌, ◌<◌, ◌≤◌, List, [], ◌∷◌, ◌++◌, reverse, length, get_or, take, set, ap, ◌∙◌, arith}
use Rattle.heap.specs.Piles.{contents, entries}
use Rattle.heap.specs.declared.piles.Pile.{Pile}
use Rattle.std.proofs.lemmas.List.{take_more, take_more_set, take-set, length-take, length-reverse, reverse-append}

-- there are as many entries as the pile counts
pub length-contents : {A : Type 0} (n : ℕ) (slots : List A) → n ≤ length slots → length (contents n slots) ≡ n
length-contents n slots p = length-reverse (take n slots) ∙ (length-take n slots ∙ (omega arith))

pub length-entries : {A : Type 0} (p : Pile A) → length (entries p) ≡ p.len
length-entries p = length-contents p.len p.slots.now p.ok

-- an entry at the end of the slots is on top
pub contents_push : {A : Type 0} (xs : List A) (x : A) → reverse (xs ++ x ∷ []) ≡ x ∷ reverse xs
contents_push xs x = reverse-append xs (x ∷ [])

pub contents-set : {A : Type 0} (n : ℕ) (slots : List A) (x : A) → n < length slots → contents (n + 1) (set slots n x) ≡ x ∷ contents n slots
contents-set n slots x p = ap reverse (take_more_set slots n x p) ∙ contents_push (take n slots) x

pub contents-more : {A : Type 0} (n : ℕ) (slots : List A) (d : A) → n < length slots → contents (n + 1) slots ≡ get_or slots n d ∷ contents n slots
contents-more n slots d p = ap reverse (take_more slots n d p) ∙ contents_push (take n slots) (get_or slots n d)

pub contents-last : {A : Type 0} (n : ℕ) (slots : List A) (d : A) → 0 < n → n ≤ length slots → contents n slots ≡ get_or slots (n - 1) d ∷ contents (n - 1) slots
contents-last n slots d p q = let e : n ≡ (n - 1) + 1 = omega arith in ap (λ k. contents k slots) e ∙ contents-more (n - 1) slots d (omega arith)

-- a write above the top changes nothing
pub contents-apart : {A : Type 0} (n : ℕ) (slots : List A) (x : A) → contents n (set slots n x) ≡ contents n slots
contents-apart n slots x = ap reverse (take-set slots n x)
