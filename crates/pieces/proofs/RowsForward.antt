-- Proofs: rows lead forward, or to a row that closes.
use Rattle.std.proofs.Common.{◌≡◌, ℕ, suc, ◌-◌, ◌<◌, true, cond, not, ◌||◌, eqb, ltb, ◌⊎◌, List, [], length, refl, inl, inr, arith}
use Rattle.std.specs.List.{AllByRecursion, flat_map}
use Rattle.std.proofs.lemmas.Bool.Decides.{nat_tests}
use Rattle.std.proofs.lemmas.List.{get_or_past}
use Rattle.std.proofs.lemmas.Bool.{cases_Bool}
use Rattle.sheet.specs.Routines.{Command, assign, load, store, new, free, jump, branch, cut, call, done}
use Rattle.sheet.specs.Flow.{row_at, closes}
use Rattle.pieces.specs.declared.shapes.Edge.TheVariants.{Dead, Cell}
use Rattle.pieces.specs.ModelShapes.{Shape, set_edge, set_name, fresh_at}
use Rattle.pieces.specs.ModelCover.{is_dead}
use Rattle.pieces.specs.ModelCases.{Case, nexts, cells, aim, at, goes_well}
use Rattle.pieces.proofs.Choices.{all_any, all_flat, all_gather}

-- a row behind the last, and what is behind a row that closes
pub past : (rows : List Command) (n : ℕ) → length rows < n → row_at rows n ≡ done
past rows n q = get_or_past rows (n - 1) done (omega arith)

pub closed : (row : Command) (r : ℕ) (s : Shape) → closes row ≡ true → nexts row r s ≡ []
closed (assign x e) r s t = absurd (grind (arith, nat_tests))
closed (load x y) r s t = absurd (grind (arith, nat_tests))
closed (store x e) r s t = absurd (grind (arith, nat_tests))
closed (new x) r s t = absurd (grind (arith, nat_tests))
closed (free x) r s t = absurd (grind (arith, nat_tests))
closed (jump k) r s t = absurd (grind (arith, nat_tests))
closed (branch e f k) r s t = absurd (grind (arith, nat_tests))
closed (cut l) r s t = refl
closed (call x q y z i j l) r s t = refl
closed done r s t = refl

module _ (rows : List Command) where
  abbrev Onward : ℕ → Case → Type 0
  Onward r c = (r < c.row) ⊎ (closes (row_at rows c.row) ≡ true)

  by_jump : (r k : ℕ) → (ltb r k || closes (row_at rows k)) ≡ true → (r < k) ⊎ (closes (row_at rows k) ≡ true)
  by_jump r k t = elim (cases_Bool (closes (row_at rows k))) [ inl e ↦ inr e | inr e ↦ inl (grind (arith, nat_tests)) ]

  by_touch : (r : ℕ) (f : Shape → Shape) (l : List Shape) → AllByRecursion (Onward r) (flat_map (λ u. at (suc r) (f u)) l)
  by_touch r f l = all_flat (Onward r) (λ u. Unit {0}) (λ u. at (suc r) (f u)) (λ u b. (inl (omega arith), tt)) l (all_any (λ u. Unit {0}) (λ u. tt) l)

  pub goes_on : (row : Command) (r : ℕ) (s : Shape) → goes_well rows r row ≡ true → AllByRecursion (Onward r) (nexts row r s)
  goes_on (assign x e) r s t = (inl (omega arith), tt)
  goes_on (load x y) r s t = by_touch r (λ u. set_name u x (aim (u.edge (u.name y)))) (cells s (s.name y))
  goes_on (store x e) r s t = by_touch r (λ u. set_edge u (u.name x) (Cell (u.name e))) (cells s (s.name x))
  goes_on (new x) r s t = (
    inl (omega arith),
    all_gather (Onward r) s.size (λ j. cond (eqb j 0 || not (is_dead (s.edge j))) [] (at (suc r) (fresh_at s x j)))
        (λ j q. elim (cases_Bool (eqb j 0 || not (is_dead (s.edge j)))) [ inl b ↦ rw b tt | inr b ↦ rw b (inl (omega arith), tt) ]),
  )
  goes_on (free x) r s t = by_touch r (λ u. set_edge u (u.name x) Dead) (cells s (s.name x))
  goes_on (jump k) r s t = (by_jump r k t, tt)
  goes_on (branch e f k) r s t = elim (cases_Bool (eqb (s.name e) (s.name f))) [ inl b ↦ rw b (by_jump r k t, tt) | inr b ↦ rw b (inl (omega arith), tt) ]
  goes_on (cut l) r s t = tt
  goes_on (call x q y z i j l) r s t = tt
  goes_on done r s t = tt
