-- Proofs: a walk along the edges of a case.
use Rattle.std.proofs.Common.{◌≡◌, ℕ, zero, suc, ◌+◌, ◌-◌, ◌<◌, ◌≤◌, Bool, true, false, ◌&&◌, eqb, ◌≢◌, ◌⊎◌, List, ◌∷◌, length, get_or, drop, set, Some, None, Option, sym, refl, ap, ◌∙◌, subst, inl, inr, arith}
use mathlib.Core.Path.{fun_ext}
use Rattle.std.proofs.lemmas.Bool.Decides.{nat_tests}
use Rattle.std.proofs.lemmas.Bool.{cases_eq, cases_Bool}
use Rattle.std.proofs.lemmas.List.{get_or-set_same, get_or-set_other, at_drop_more, at_drop_all}
use Rattle.heap.specs.declared.atoms.Atom.{Atom}
use Rattle.heap.specs.declared.atoms.Atom.TheVariants.{Next}
use Rattle.pieces.specs.declared.shapes.Edge.{Edge}
use Rattle.pieces.specs.declared.shapes.Edge.TheVariants.{Dead, Cell, Segment}
use Rattle.pieces.specs.Pieces.{put}
use Rattle.pieces.specs.ModelCover.{walk, all_dead, is_dead, if_cell, covered}
use Rattle.pieces.proofs.CoverExact.{dead_all, all_dead_from}
use Rattle.cases.specs.Covers.{edges_of, Inside, Walked}

pub put_set : (es : List Edge) (i : ℕ) (e : Edge) → i < length es → edges_of (set es i e) ≡ put (edges_of es) i e
put_set es i e q = fun_ext (λ k. elim (cases_eq k i) [
  | inl s ↦ let a = get_or-set_same es i e Dead q in grind (arith, nat_tests)
  | inr n ↦ let a = get_or-set_other es i k e Dead n in grind (arith, nat_tests)
])

walk-stop : (n : ℕ) (f : ℕ → Edge) (i j : ℕ) → i ≡ j → walk n f i j ≡ Some f
walk-stop zero f i j e = grind (arith, nat_tests)
walk-stop (suc n) f i j e = grind (arith, nat_tests)

walk-dead : (n : ℕ) (f : ℕ → Edge) (i j : ℕ) → i ≢ j → f i ≡ Dead → walk n f i j ≡ None
walk-dead zero f i j d e = grind (arith, nat_tests)
walk-dead (suc n) f i j d e = grind (arith, nat_tests)

walk-on : (n : ℕ) (f : ℕ → Edge) (i j t : ℕ) → i ≢ j → (f i ≡ Cell t) ⊎ (f i ≡ Segment t) → walk (suc n) f i j ≡ walk n (put f i Dead) t j
walk-on n f i j t d (inl e) = grind (arith, nat_tests)
walk-on n f i j t d (inr e) = grind (arith, nat_tests)

pub inside_put : (m : ℕ) (f : ℕ → Edge) (i : ℕ) → Inside m f → Inside m (put f i Dead)
inside_put m f i I k t q (inl e) = I k t q (inl (elim (cases_eq k i) [ inl s ↦ absurd (grind (arith, nat_tests)) | inr n ↦ grind (arith, nat_tests) ]))
inside_put m f i I k t q (inr e) = I k t q (inr (elim (cases_eq k i) [ inl s ↦ absurd (grind (arith, nat_tests)) | inr n ↦ grind (arith, nat_tests) ]))

pub inside_set : (m : ℕ) (es : List Edge) (i : ℕ) → i < length es → Inside m (edges_of es) → Inside m (edges_of (set es i Dead))
inside_set m es i q I = subst (Inside m) (sym (put_set es i Dead q)) (inside_put m (edges_of es) i I)

module _ (es : List Edge) (i : ℕ) where
  pub stopped : (m : ℕ) (o : Option (ℕ → Edge)) (j : ℕ) → walk m (edges_of es) i j ≡ o → i ≡ j → Walked true (edges_of es) o
  stopped m o j e s = subst (λ x. Walked true (edges_of es) x) (sym (walk-stop m (edges_of es) i j s) ∙ e) (refl, refl)

  pub died : (m : ℕ) (o : Option (ℕ → Edge)) (j : ℕ) → walk m (edges_of es) i j ≡ o → i ≢ j → edges_of es i ≡ Dead → Walked false (edges_of es) o
  died m o j e d s = subst (λ x. Walked false (edges_of es) x) (sym (walk-dead m (edges_of es) i j d s) ∙ e) refl

pub went_on : (es : List Edge) (i m c : ℕ) (o : Option (ℕ → Edge)) (j t : ℕ) → i < length es → c < m → walk (m - c) (edges_of es) i j ≡ o → i ≢ j → (edges_of es i ≡ Cell t) ⊎ (edges_of es i ≡ Segment t)
    → walk (m - (c + 1)) (edges_of (set es i Dead)) t j ≡ o
went_on es i m c o j t q l e d s =
    let n : m - c ≡ suc (m - (c + 1)) = omega arith in
    rw (put_set es i Dead q) (sym (walk-on (m - (c + 1)) (edges_of es) i j t d s) ∙ ap (λ x. walk x (edges_of es) i j) (sym n) ∙ e)

-- where the steps are used up, no edge was left to take
pub spent : (f : ℕ → Edge) (i j n : ℕ) (o : Option (ℕ → Edge)) → n ≡ 0 → walk n f i j ≡ o → Walked (eqb i j) f o
spent f i j n o z e = elim (cases_Bool (eqb i j)) [
  | inl t ↦ let q : walk n f i j ≡ Some f = (rw (z, t)) in subst (λ x. Walked (eqb i j) f x) (sym q ∙ e) (t, refl)
  | inr t ↦ let q : walk n f i j ≡ None = (rw (z, t)) in subst (λ x. Walked (eqb i j) f x) (sym q ∙ e) t
]

-- what a walk that was walked covers
pub walked_covers : (m : ℕ) (name : ℕ → ℕ) (l : List Atom) (r : Bool) (left : ℕ → Edge) (o : Option (ℕ → Edge)) → Walked r left o → (elim o [ None ↦ false | Some edge ↦ covered m name l edge ]) ≡ (r && covered m name l left)
walked_covers m name l r left None w = rw w
walked_covers m name l r left (Some edge) w = rw (w.0, w.1)

-- all edges are taken, or one is left
pub one_left : (m : ℕ) (edge : ℕ → Edge) (k : ℕ) → k < m → is_dead (edge k) ≡ false → false ≡ all_dead m edge
one_left m edge k q n = elim (cases_Bool (all_dead m edge)) [
  | inr t ↦ sym t
  | inl t ↦ let d = dead_all m (λ x. x) (λ x. x) m edge t k q in absurd (grind (arith, nat_tests))
]

pub none_left : (m : ℕ) (edge : ℕ → Edge) → ((k : ℕ) → k < m → is_dead (edge k) ≡ true) → true ≡ all_dead m edge
none_left m edge f = sym (all_dead_from m (λ x. x) (λ x. x) m edge (λ k q. let d = f k q in grind (arith, nat_tests)))

pub next_taken : (m : ℕ) (name : ℕ → ℕ) (l : List Atom) (a : Atom) (x y i to : ℕ) (edge left : ℕ → Edge) (r : Bool) → a ≡ Next x y → i ≡ name x → to ≡ name y → r ≡ if_cell (edge i) to → left ≡ put edge i Dead
    → covered m name (a ∷ l) edge ≡ (r && covered m name l left)
next_taken m name l a x y i to edge left r p q s t u = rw (p, t, u, q, s)

-- one atom of the list less
pub cover_on : (m : ℕ) (name : ℕ → ℕ) (xs : List Atom) (i : ℕ) (d : Atom) (edge left : ℕ → Edge) (r whole : Bool) → i < length xs → covered m name (drop i xs) edge ≡ whole
    → ((l : List Atom) → covered m name (get_or xs i d ∷ l) edge ≡ (r && covered m name l left)) → (r && covered m name (drop (i + 1) xs) left) ≡ whole
cover_on m name xs i d edge left r whole q e f = sym (f (drop (i + 1) xs)) ∙ (sym (at_drop_more (λ l. covered m name l edge) xs i d q) ∙ e)

pub cover_end : (m : ℕ) (name : ℕ → ℕ) (xs : List Atom) (i : ℕ) (edge : ℕ → Edge) (whole : Bool) → length xs ≤ i → covered m name (drop i xs) edge ≡ whole → all_dead m edge ≡ whole
cover_end m name xs i edge whole q e = sym (at_drop_all (λ l. covered m name l edge) xs i q) ∙ e
