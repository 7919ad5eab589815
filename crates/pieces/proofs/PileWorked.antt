-- Proofs: one turn of the search keeps what is found and what is left together, and the pile is worked off.
use Rattle.std.proofs.Common.{◌≡◌, ℕ, zero, suc, ◌+◌, ◌<◌, ◌≤◌, Bool, ltb, List, [], ◌∷◌, ◌++◌, Some, None, Option, sym, refl, ap, subst, inl, inr, arith}
use Rattle.std.specs.List.{AllByRecursion}
use Rattle.std.proofs.lemmas.Bool.Decides.{nat_tests}
use Rattle.std.proofs.lemmas.Bool.{cases_Bool}
use Rattle.sheet.specs.Routines.{Command}
use Rattle.pieces.specs.Pieces.{State, Lowest}
use Rattle.pieces.specs.ModelChoices.{Has, lower, lowest}
use Rattle.pieces.specs.ModelShapes.{Shape}
use Rattle.pieces.specs.ModelStages.{Item, Kept, Reaches, nexts_of, hits_of}
use Rattle.pieces.specs.ModelPiles.{either, total, tree, drain}
use Rattle.pieces.specs.ModelSearch.{Swept}
use Rattle.pieces.proofs.Choices.{some_left, some_right, some_either, all_map, all_++}
use Rattle.pieces.proofs.CasesLead.{Decides}
use Rattle.pieces.proofs.ItemsLead.{reaches_down, reaches_up, hit_or_clear, hit_there, keeps_items}

-- the lowest of a list
pub none_has : (l : List ℕ) → lowest l ≡ None → (r : ℕ) → ¬ Has r l
none_has [] e r h = elim h [ ]
none_has (a ∷ l) e r h = absurd (grind (arith, nat_tests))

pub low : (l : List ℕ) (r : ℕ) → lowest l ≡ Some r → Lowest (λ k. Has k l) r
low [] r e = absurd (grind (arith, nat_tests))
low (a ∷ l) r e = go (lowest l) refl (low l)
  where
    go : (o : Option ℕ) → lowest l ≡ o → ((b : ℕ) → lowest l ≡ Some b → Lowest (λ k. Has k l) b) → Lowest (λ k. Has k (a ∷ l)) r
    go None s rest = let ra : a ≡ r = grind (arith, nat_tests) in (inl ra, λ k. elim [ inl p ↦ omega arith | inr h ↦ absurd (none_has l s k h) ])
    go (Some b) s rest =
        let ih = rest b s in
        elim (cases_Bool (ltb b a)) [
          | inl t ↦ let rb : b ≡ r = grind (arith, nat_tests) in let q : b < a = grind (arith, nat_tests) in (inr (subst (λ x. Has x l) rb ih.0), λ k. elim [ inl p ↦ omega arith | inr h ↦ let i = ih.1 k h in omega arith ])
          | inr t ↦ let ra : a ≡ r = grind (arith, nat_tests) in let q : a ≤ b = grind (arith, nat_tests) in (inl ra, λ k. elim [ inl p ↦ omega arith | inr h ↦ let i = ih.1 k h in omega arith ])
        ]

low_++ : (a b : List ℕ) → lowest (a ++ b) ≡ either (lowest a) (lowest b)
low_++ [] b = refl
low_++ (x ∷ a) b = let ih = low_++ a b in go (lowest a) (lowest b) (lowest (a ++ b)) refl refl ih
  where
    go : (p q o : Option ℕ) → lowest a ≡ p → lowest b ≡ q → o ≡ either p q → Some (lower x o) ≡ either (Some (lower x p)) q
    go None None o e f i = rw i
    go None (Some y) o e f i = rw i
    go (Some z) None o e f i = rw i
    go (Some z) (Some y) o e f i = rw i (grind (arith, nat_tests))

module _ (P S : Command → State → Type 0) (test : Command → Shape → Bool) (D : Decides P S test) (rows : List Command) (start : List Item) where
  -- an item is taken off the pile, and those behind it are put there
  pub turn : (found : Option ℕ) (rest : List Item) (it : Item) → Kept it → Swept P S rows start found (it ∷ rest) → Swept P S rows start (either (lowest (hits_of test rows it)) found) (nexts_of rows it ++ rest)
  turn found rest it k W = record {
    seen = hits_of test rows it ++ W.seen;
    lowest_is = let e = W.lowest_is in let f = low_++ (hits_of test rows it) W.seen in cc;
    to = λ g s. elim (W.to g s) [
      | inl (inl h) ↦ inl (inl (some_right (λ k. k ≡ g.row) (hits_of test rows it) W.seen h))
      | inl (inr c) ↦ inl (inr c)
      | inr (inr p) ↦ inr (some_right (Reaches rows g) (nexts_of rows it) rest p)
      | inr (inl x) ↦ elim (reaches_down rows g it k x) [
        | inr n ↦ inr (some_left (Reaches rows g) (nexts_of rows it) rest n)
        | inl a ↦ elim (hit_or_clear P S test D rows it g k a) [ inl h ↦ inl (inl (some_left (λ k. k ≡ g.row) (hits_of test rows it) W.seen h)) | inr c ↦ inl (inr c) ]
      ]
    ];
    back = λ g s. elim (some_either (Reaches rows g) (nexts_of rows it) rest s) [ inl n ↦ W.back g (inl (reaches_up rows g it k n)) | inr p ↦ W.back g (inr p) ];
    from = λ r h. elim (some_either (λ k. k ≡ r) (hits_of test rows it) W.seen h) [
      | inl a ↦ let x = hit_there P S test D rows it r k a in (x.0, x.1, x.2, W.back x.0 (inl x.3))
      | inr b ↦ W.from r b
    ];
  }

  pub drained : (n : ℕ) (pile : List Item) (was seen : List ℕ) → AllByRecursion Kept pile → Swept P S rows start (lowest was) pile → drain (nexts_of rows) (hits_of test rows) n pile was ≡ Some seen → Swept P S rows start (lowest seen) []
  drained n [] was seen k W e = let s : was ≡ seen = cc in subst (λ l. Swept P S rows start (lowest l) []) s W
  drained zero (c ∷ pile) was seen k W e = absurd (grind (arith, nat_tests))
  drained (suc n) (c ∷ pile) was seen k W e =
      drained n (nexts_of rows c ++ pile) (hits_of test rows c ++ was) seen (all_++ Kept (nexts_of rows c) pile (keeps_items rows c.stage c.row c.shape k.0) k.1)
      (subst (λ o. Swept P S rows start o (nexts_of rows c ++ pile)) (sym (low_++ (hits_of test rows c) was)) (turn (lowest was) pile c k.0 W)) e

module _ (P S : Command → State → Type 0) (rows : List Command) where
  -- nothing searched yet
  pub begin : (start : List Item) → Swept P S rows start None start
  begin start = record { seen = []; lowest_is = refl; to = λ g s. inr s; back = λ g s. s; from = λ r h. absurd h }

  -- more items to start from, laid on an empty pile
  pub more_start : (start : List Item) (found : Option ℕ) (new : List Item) → Swept P S rows start found [] → Swept P S rows (new ++ start) found new
  more_start start found new W = record {
    seen = W.seen;
    lowest_is = W.lowest_is;
    to = λ g s. elim (some_either (Reaches rows g) new start s) [ inl a ↦ inr a | inr b ↦ elim (W.to g b) [ inl c ↦ inl c | inr n ↦ absurd n ] ];
    back = λ g s. some_left (Reaches rows g) new start s;
    from = λ r h. let x = W.from r h in (x.0, x.1, x.2, some_right (Reaches rows x.0) new start x.3);
  }

total-++ : {C : Type 0} (f : C → ℕ) (a b : List C) → total f (a ++ b) ≡ total f a + total f b
total-++ f [] b = omega arith
total-++ f (x ∷ a) b = let ih = total-++ f a b in omega arith

total-same : {C : Type 0} (f g : C → ℕ) (l : List C) → AllByRecursion (λ c. f c ≡ g c) l → total f l ≡ total g l
total-same f g [] a = refl
total-same f g (c ∷ l) a = let x = a.0 in let ih = total-same f g l a.1 in omega arith

-- the measure: where depth falls from an item to those behind it, there is one item less
module _ {C : Type 0} (next : C → List C) (depth : C → ℕ) (Good : C → Type 0) (keeps : (c : C) → Good c → AllByRecursion (λ a. Good a × (depth a < depth c)) (next c)) where
  stable : (n : ℕ) (c : C) → Good c → depth c < n → tree next (suc n) c ≡ tree next n c
  stable zero c g q = absurd (omega arith)
  stable (suc n) c g q = ap suc (total-same (tree next (suc n)) (tree next n) (next c) (all_map (λ a. Good a × (depth a < depth c)) (λ a. tree next (suc n) a ≡ tree next n a) (λ a b. let l = b.1 in stable n a b.0 (omega arith)) (next c) (keeps c g)))

  pub falls : (n : ℕ) (rest : List C) (c : C) → Good c → depth c < n → total (tree next n) (next c ++ rest) < total (tree next n) (c ∷ rest)
  falls n rest c g q =
      let a = total-++ (tree next n) (next c) rest in
      let s = stable n c g q in omega arith
