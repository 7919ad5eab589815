-- Proofs: cases laid on a pile one by one are the items of a list that is gathered.
use Rattle.std.proofs.Common.{◌≡◌, ℕ, zero, suc, ◌+◌, ◌-◌, ◌<◌, ◌≤◌, Bool, true, false, cond, not, List, [], ◌∷◌, ◌++◌, length, Some, None, Option, sym, refl, ap, ◌∙◌, subst, append_assoc, add-one, arith, length-append}
use Rattle.std.proofs.lemmas.List.{length-map}
use Rattle.std.proofs.lemmas.Bool.Decides.{nat_tests}
use Rattle.heap.specs.declared.atoms.Atom.{Atom}
use Rattle.pieces.specs.ModelChoices.{gather}
use Rattle.pieces.specs.ModelShapes.{Shape}
use Rattle.pieces.specs.ModelStages.{Item, item}
use Rattle.pieces.specs.ModelStages as model
use Rattle.cases.specs.declared.cases.Case.{Case}
use Rattle.cases.specs.declared.cases.Stage.{Stage}
use Rattle.cases.specs.Items.{shape_of, stage_in, item_in, items_in, items_of, LaidAs}

make : model.Stage → ℕ → Shape → Item
make t r s = record { stage = t; row = r; shape = s }

-- what a case says, by its parts
pub item_is : (names : List ℕ) (atoms : List Atom) (k : Case) (t : Stage) (r : ℕ) (s : Shape) → k.stage ≡ t → k.row ≡ r → shape_of k ≡ s → item_in names atoms k ∷ [] ≡ item (stage_in names atoms t) r s
unfolding make
item_is names atoms k t r s p q e =
    ap (λ x. make (stage_in names atoms x) k.row (shape_of k) ∷ []) p ∙ (ap (λ x. make (stage_in names atoms t) x (shape_of k) ∷ []) q ∙ ap (λ x. make (stage_in names atoms t) r x ∷ []) e)

module _ (names : List ℕ) (atoms : List Atom) where
  pub laid_length : (new : List Item) (p q : List Case) → LaidAs names atoms new p q → length q ≡ length new + length p
  laid_length new p q l =
      sym (length-map q (item_in names atoms)) ∙ (ap length l ∙ (length-append new (items_in names atoms p) ∙ ap (λ n. length new + n) (length-map p (item_in names atoms))))

  -- how many items there are does not depend on the opening
  pub as_many : (o : Option Case) (l : List Item) → items_of names atoms o ≡ l → length (items_of [] [] o) ≡ length l
  as_many None l e = ap length e
  as_many (Some k) l e = ap length e

module _ (f : ℕ → List Item) where
  gather_le : (j n : ℕ) → length (gather j f) ≤ length (gather (n + j) f)
  gather_le j zero = let e : 0 + j ≡ j = omega arith in rw e (omega arith)
  gather_le j (suc n) =
      let ih = gather_le j n in let e : suc n + j ≡ suc (n + j) = omega arith in
      let a = length-append (f (n + j)) (gather (n + j) f) in rw e (omega arith)

  -- the items at j are among those of the first m
  pub gather_room : (j m : ℕ) → j < m → length (f j) + length (gather j f) ≤ length (gather m f)
  gather_room j m l =
      let b = length-append (f j) (gather j f) in let c = gather_le (suc j) (m - suc j) in let e : (m - suc j) + suc j ≡ m = omega arith in
      let d : length (gather (suc j) f) ≤ length (gather m f) = subst (λ n. length (gather (suc j) f) ≤ length (gather n f)) e c in omega arith

-- where a test lets them by, these items and one more have room
pub room_by : (b r : Bool) (one : Item) (l : List Item) (n cap : ℕ) → r ≡ not b → r ≡ true → length (cond b [] (one ∷ l)) + n ≤ cap → suc (length l) + n ≤ cap
room_by true r one l n cap e t q = absurd (grind (arith, nat_tests))
room_by false r one l n cap e t q = q

module _ (names : List ℕ) (atoms : List Atom) (f : ℕ → List Item) where
  -- there is room for one case more, while not all are laid
  pub room_left : (j m cap : ℕ) (p q : List Case) → j < m → length (f j) ≡ 1 → LaidAs names atoms (gather j f) p q → length (gather m f) + length p ≤ cap → length q < cap
  room_left j m cap p q l one w r = let a = laid_length names atoms (gather j f) p q w in let d = gather_room f j m l in omega arith

  pub laid_skip : (j : ℕ) (p q q' : List Case) → f j ≡ [] → q' ≡ q → LaidAs names atoms (gather j f) p q → LaidAs names atoms (gather (j + 1) f) p q'
  laid_skip j p q q' e d l = rw (add-one j, e, d) l

  pub laid_more : (j : ℕ) (p q q' : List Case) (k : Case) → item_in names atoms k ∷ [] ≡ f j → q' ≡ k ∷ q → LaidAs names atoms (gather j f) p q → LaidAs names atoms (gather (j + 1) f) p q'
  laid_more j p q q' k i e l =
      rw (add-one j, e) (ap (λ x. item_in names atoms k ∷ x) l ∙ (ap (λ x. x ++ (gather j f ++ items_in names atoms p)) i ∙ sym (append_assoc (f j) (gather j f) (items_in names atoms p))))

-- one item or none, by a test
pub none_by : (b : Bool) (l : List Item) (r : Bool) → r ≡ not b → r ≡ false → cond b [] l ≡ []
none_by true l r e f = refl
none_by false l r e f = absurd (grind (arith, nat_tests))

pub one_by : (b : Bool) (l : List Item) (r : Bool) → r ≡ not b → r ≡ true → cond b [] l ≡ l
one_by true l r e f = absurd (grind (arith, nat_tests))
one_by false l r e f = refl

module _ (names : List ℕ) (atoms : List Atom) where
  -- a case laid on the pile unless a test says otherwise
  pub laid_unless : (new : List Item) (p q q' : List Case) (k : Case) (b : Bool) (one : List Item) → item_in names atoms k ∷ [] ≡ one → q' ≡ cond b q (k ∷ q) → LaidAs names atoms new p q → LaidAs names atoms (cond b [] one ++ new) p q'
  laid_unless new p q q' k true one i e l = rw e l
  laid_unless new p q q' k false one i e l = rw e (ap (λ x. item_in names atoms k ∷ x) l ∙ (ap (λ x. x ++ (new ++ items_in names atoms p)) i ∙ sym (append_assoc one new (items_in names atoms p))))

  pub gather_more : (f : ℕ → List Item) (j : ℕ) (p q : List Case) → LaidAs names atoms (f j ++ gather j f) p q → LaidAs names atoms (gather (j + 1) f) p q
  gather_more f j p q l = rw (add-one j) l
