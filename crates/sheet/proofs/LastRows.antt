-- The last row of a list: where the open list lies, and what one more atom makes of it.
use Rattle.std.proofs.Common.{◌≡◌, ℕ, ◌-◌, List, [], ◌∷◌, ◌++◌, map, length, Some, sym, refl, ap, ◌∙◌, subst, arith}
use Rattle.std.specs.List.{slice_get}
use Rattle.std.proofs.lemmas.List.{length_push, map_push, get_or_at}
use Rattle.std.proofs.lemmas.Option.{get_or_from_slice_get}
use Rattle.sheet.specs.declared.rows.Row.{Row}
use Rattle.sheet.specs.Routines.{Command}
use Rattle.sheet.specs.Laid.{command_in}
use Rattle.sheet.specs.Reading.{last_of, at_last}

-- a list that is not empty has a last element, and the rest
pub record Ends {A : Type 0} (xs : List A) : Type 0 where
  pub front : List A
  pub last : A
  pub whole : xs ≡ front ++ last ∷ []

pub ends_in : {A : Type 0} (c : A) (cs : List A) → Ends (c ∷ cs)
ends_in c [] = record { front = []; last = c; whole = refl }
ends_in c (d ∷ cs) = let e = ends_in d cs in record { front = c ∷ e.front; last = e.last; whole = ap (λ r. c ∷ r) e.whole }

pub last_of_lem : (front : List Command) (c : Command) → last_of (front ++ c ∷ []) ≡ Some c
last_of_lem [] c = refl
last_of_lem (d ∷ []) c = refl
last_of_lem (d ∷ e ∷ f) c = last_of_lem (e ∷ f) c

pub at_last_lem : (f : Command → Command) (front : List Command) (c : Command) → at_last f (front ++ c ∷ []) ≡ front ++ f c ∷ []
at_last_lem f [] c = refl
at_last_lem f (d ∷ []) c = refl
at_last_lem f (d ∷ e ∷ g) c = ap (λ r. d ∷ r) (at_last_lem f (e ∷ g) c)

-- the last of the code's rows is the last command
pub last_command : (front : List Row) (x : Row) → last_of (map command_in (front ++ x ∷ [])) ≡ Some (command_in x)
last_command front x = ap last_of (map_push command_in front x) ∙ last_of_lem (map command_in front) (command_in x)

last_at : (front : List Row) (x r : Row) → slice_get (front ++ x ∷ []) (length (front ++ x ∷ []) - 1) ≡ Some r → last_of (map command_in (front ++ x ∷ [])) ≡ Some (command_in r)
last_at front x r e =
    let n = length (front ++ x ∷ []) - 1 in
    let p = length_push front x in
    let a : length front ≡ n = omega arith in
    let q : x ≡ r = sym (get_or_at front x [] x n a) ∙ get_or_from_slice_get (front ++ x ∷ []) n r x e in
    last_command front x ∙ ap (λ y. Some (command_in y)) q

pub last_given : (rows : List Row) (r : Row) → slice_get rows (length rows - 1) ≡ Some r → last_of (map command_in rows) ≡ Some (command_in r)
last_given [] r e = let z : ◌≡◌ {A = ℕ} 0 1 = cc in absurd (omega arith)
last_given (x ∷ xs) r e =
    let w = ends_in x xs in
    subst (λ rs. slice_get rs (length rs - 1) ≡ Some r → last_of (map command_in rs) ≡ Some (command_in r)) (sym w.whole) (last_at w.front w.last r) e
